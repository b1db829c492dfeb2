-- The command of a call: each form has its own, but for those of `ice2`, and words say one.
use Rattle.std.proofs.Common.{◌≡◌, ℕ, Bool, true, false, List, [], ◌∷◌, ◌++◌, inl, inr, refl, sym, ap, ◌∙◌, subst}
use Rattle.std.specs.Prelude.{codes}
use Rattle.part_spec.specs.declared.part.Part.{Part}
use Rattle.ice_top.specs.Calls.{form_told}
use Rattle.ice_top.specs.Stops.{number_of}
use Rattle.ice_top.specs.Words.{Form, replay, script, frames, gen, listing, verifying, assembling, serving, connecting, word_of, Says, SaysNone, is_local}
use Rattle.ice_top.specs.Words.{IsServe, IsConnect, SaysNoneLocal, SaysNoServe, SaysNoConnect}
use Rattle.ice_top.specs.Tasks.{task_by, CallsFor, TaskSaid}
use Rattle.ice_top.specs.declared.task_kind.Task.{Task}
use Rattle.ice_top.specs.declared.task_kind.Task.TheVariants.{Local, Serve, Connect, Usage}

-- the first word of a call
abbrev command_of : Form → List ℕ
command_of (replay image stops) = codes "replay"
command_of (script image stops) = codes "script"
command_of frames = codes "frames"
command_of (gen seed count) = codes "gen"
command_of (listing image) = codes "list"
command_of (verifying image) = codes "verify"
command_of assembling = codes "asm"
command_of (serving port image) = codes "serve"
command_of (connecting port) = codes "connect"

-- a part behind words leaves them in front
behind : (words front : List (List ℕ)) (first last : List ℕ) (more : List (List ℕ)) → words ≡ front ++ last ∷ [] → front ≡ first ∷ more →
    words ≡ first ∷ (more ++ last ∷ [])
behind words front first last more w f = w ∙ ap (λ (l : List (List ℕ)). l ++ last ∷ []) f

-- the words begin with it
begins : (words : List (List ℕ)) (form : Form) (part : Part) → Says words form part →
    (more : List (List ℕ)) × (words ≡ command_of form ∷ more)
begins words (replay image stops) part (inl s) = (image ∷ s.0.text ∷ [], s.0.form)
begins words (replay image stops) part (inr s) = (_, behind words s.front _ (word_of part) _ s.last s.whole.form)
begins words (script image stops) part (inl s) = (image ∷ s.0.text ∷ [], s.0.form)
begins words (script image stops) part (inr s) = (_, behind words s.front _ (word_of part) _ s.last s.whole.form)
begins words frames part (inl s) = ([], s.0)
begins words frames part (inr s) = (_, behind words s.front _ (word_of part) _ s.last s.whole)
begins words (gen seed count) part (inl s) = (s.0.seed_text ∷ s.0.count_text ∷ [], s.0.form)
begins words (gen seed count) part (inr s) = (_, behind words s.front _ (word_of part) _ s.last s.whole.form)
begins words (listing image) part (inl s) = (image ∷ [], s.0)
begins words (listing image) part (inr s) = (_, behind words s.front _ (word_of part) _ s.last s.whole)
begins words (verifying image) part (inl s) = (image ∷ [], s.0)
begins words (verifying image) part (inr s) = (_, behind words s.front _ (word_of part) _ s.last s.whole)
begins words assembling part (inl s) = ([], s.0)
begins words assembling part (inr s) = (_, behind words s.front _ (word_of part) _ s.last s.whole)
begins words (serving port image) part (inl s) = (s.0.text ∷ image ∷ [], s.0.form)
begins words (serving port image) part (inr s) = (_, behind words s.front _ (word_of part) _ s.last s.whole.form)
begins words (connecting port) part (inl s) = (s.0.text ∷ [], s.0.form)
begins words (connecting port) part (inr s) = (_, behind words s.front _ (word_of part) _ s.last s.whole.form)

heads : (words x y : List (List ℕ)) (a b : List ℕ) → words ≡ a ∷ x → words ≡ b ∷ y → a ≡ b
heads words x y a b one two = cc

-- so words say calls of one command
same_command : (words : List (List ℕ)) (form other : Form) (part its_part : Part) → Says words form part → Says words other its_part →
    command_of form ≡ command_of other
same_command words form other part its_part one two =
    let a = begins words form part one in
    let b = begins words other its_part two in
    heads words a.0 b.0 (command_of form) (command_of other) a.1 b.1

-- no call of `ice2` has the command of another
never_serve : (form : Form) → is_local form ≡ true → command_of form ≡ codes "serve" → ⊥
never_serve (replay image stops) local e = cc
never_serve (script image stops) local e = cc
never_serve frames local e = cc
never_serve (gen seed count) local e = cc
never_serve (listing image) local e = cc
never_serve (verifying image) local e = cc
never_serve assembling local e = cc
never_serve (serving port image) local e = cc
never_serve (connecting port) local e = cc

never_connect : (form : Form) → is_local form ≡ true → command_of form ≡ codes "connect" → ⊥
never_connect (replay image stops) local e = cc
never_connect (script image stops) local e = cc
never_connect frames local e = cc
never_connect (gen seed count) local e = cc
never_connect (listing image) local e = cc
never_connect (verifying image) local e = cc
never_connect assembling local e = cc
never_connect (serving port image) local e = cc
never_connect (connecting port) local e = cc

others_differ : codes "serve" ≡ codes "connect" → ⊥
others_differ e = cc

-- words that say another call say none of `ice2`, and so on
pub served_alone : (words : List (List ℕ)) (port : ℕ) (image : List ℕ) (part : Part) → Says words (serving port image) part →
    SaysNoneLocal words
served_alone words port image part says form its_part other local =
    never_serve form local (same_command words form (serving port image) its_part part other says)

pub connected_alone : (words : List (List ℕ)) (port : ℕ) (part : Part) → Says words (connecting port) part → SaysNoneLocal words
connected_alone words port part says form its_part other local =
    never_connect form local (same_command words form (connecting port) its_part part other says)

pub local_no_serve : (words : List (List ℕ)) (form : Form) (part : Part) → Says words form part → is_local form ≡ true → SaysNoServe words
local_no_serve words form part says local port image its_part other =
    never_serve form local (same_command words form (serving port image) part its_part says other)

pub local_no_connect : (words : List (List ℕ)) (form : Form) (part : Part) → Says words form part → is_local form ≡ true →
    SaysNoConnect words
local_no_connect words form part says local port its_part other =
    never_connect form local (same_command words form (connecting port) part its_part says other)

pub serve_no_connect : (words : List (List ℕ)) (port : ℕ) (image : List ℕ) (part : Part) → Says words (serving port image) part →
    SaysNoConnect words
serve_no_connect words port image part says its_port its_part other =
    others_differ (same_command words (serving port image) (connecting its_port) part its_part says other)

pub connect_no_serve : (words : List (List ℕ)) (port : ℕ) (part : Part) → Says words (connecting port) part → SaysNoServe words
connect_no_serve words port part says its_port image its_part other =
    others_differ (same_command words (serving its_port image) (connecting port) its_part part other says)

-- the port that words say
seconds : (words x y : List (List ℕ)) (a b c d : List ℕ) → words ≡ a ∷ b ∷ x → words ≡ c ∷ d ∷ y → b ≡ d
seconds words x y a b c d one two = cc

served_port : (words : List (List ℕ)) (port : ℕ) (image : List ℕ) (part : Part) → Says words (serving port image) part →
    (text : List ℕ) × (more : List (List ℕ)) × (words ≡ codes "serve" ∷ text ∷ more) × (port ≡ number_of text)
served_port words port image part (inl s) = (s.0.text, image ∷ [], s.0.form, s.0.valid.1)
served_port words port image part (inr s) =
    (s.whole.text, _, behind words s.front _ (word_of part) _ s.last s.whole.form, s.whole.valid.1)

connected_port : (words : List (List ℕ)) (port : ℕ) (part : Part) → Says words (connecting port) part →
    (text : List ℕ) × (more : List (List ℕ)) × (words ≡ codes "connect" ∷ text ∷ more) × (port ≡ number_of text)
connected_port words port part (inl s) = (s.0.text, [], s.0.form, s.0.valid.1)
connected_port words port part (inr s) =
    (s.whole.text, _, behind words s.front _ (word_of part) _ s.last s.whole.form, s.whole.valid.1)

one_served_port : (words : List (List ℕ)) (port other : ℕ) (image its_image : List ℕ) (part its_part : Part) →
    Says words (serving port image) part → Says words (serving other its_image) its_part → port ≡ other
one_served_port words port other image its_image part its_part one two =
    let a = served_port words port image part one in
    let b = served_port words other its_image its_part two in
    a.3 ∙ ap number_of (seconds words a.1 b.1 _ a.0 _ b.0 a.2 b.2) ∙ sym b.3

one_connected_port : (words : List (List ℕ)) (port other : ℕ) (part its_part : Part) →
    Says words (connecting port) part → Says words (connecting other) its_part → port ≡ other
one_connected_port words port other part its_part one two =
    let a = connected_port words port part one in
    let b = connected_port words other its_part two in
    a.3 ∙ ap number_of (seconds words a.1 b.1 _ a.0 _ b.0 a.2 b.2) ∙ sym b.3

-- a call of `ice2` and another are not of one command
module _ (words : List (List ℕ)) (part its_part : Part) where
  by_local : (form other : Form) → is_local form ≡ true → Says words form part → Says words other its_part → task_by other ≡ Local
  by_local form (replay image stops) local one two = refl
  by_local form (script image stops) local one two = refl
  by_local form frames local one two = refl
  by_local form (gen seed count) local one two = refl
  by_local form (listing image) local one two = refl
  by_local form (verifying image) local one two = refl
  by_local form assembling local one two = refl
  by_local form (serving port image) local one two = absurd (local_no_serve words form part one local port image its_part two)
  by_local form (connecting port) local one two = absurd (local_no_connect words form part one local port its_part two)

  by_serve : (port : ℕ) (image : List ℕ) (other : Form) → Says words (serving port image) part → Says words other its_part →
      task_by other ≡ Serve port
  by_serve port image (replay name stops) one two = absurd (served_alone words port image part one (replay name stops) its_part two refl)
  by_serve port image (script name stops) one two = absurd (served_alone words port image part one (script name stops) its_part two refl)
  by_serve port image frames one two = absurd (served_alone words port image part one frames its_part two refl)
  by_serve port image (gen seed count) one two = absurd (served_alone words port image part one (gen seed count) its_part two refl)
  by_serve port image (listing name) one two = absurd (served_alone words port image part one (listing name) its_part two refl)
  by_serve port image (verifying name) one two = absurd (served_alone words port image part one (verifying name) its_part two refl)
  by_serve port image assembling one two = absurd (served_alone words port image part one assembling its_part two refl)
  by_serve port image (serving other name) one two =
      ap (λ (n : ℕ). Serve n) (sym (one_served_port words port other image name part its_part one two))
  by_serve port image (connecting other) one two = absurd (serve_no_connect words port image part one other its_part two)

  by_connect : (port : ℕ) (other : Form) → Says words (connecting port) part → Says words other its_part →
      task_by other ≡ Connect port
  by_connect port (replay name stops) one two = absurd (connected_alone words port part one (replay name stops) its_part two refl)
  by_connect port (script name stops) one two = absurd (connected_alone words port part one (script name stops) its_part two refl)
  by_connect port frames one two = absurd (connected_alone words port part one frames its_part two refl)
  by_connect port (gen seed count) one two = absurd (connected_alone words port part one (gen seed count) its_part two refl)
  by_connect port (listing name) one two = absurd (connected_alone words port part one (listing name) its_part two refl)
  by_connect port (verifying name) one two = absurd (connected_alone words port part one (verifying name) its_part two refl)
  by_connect port assembling one two = absurd (connected_alone words port part one assembling its_part two refl)
  by_connect port (serving other name) one two = absurd (connect_no_serve words port part one other name its_part two)
  by_connect port (connecting other) one two =
      ap (λ (n : ℕ). Connect n) (sym (one_connected_port words port other part its_part one two))

  one_task : (form other : Form) → Says words form part → Says words other its_part → task_by other ≡ task_by form
  one_task (replay image stops) other one two = by_local (replay image stops) other refl one two
  one_task (script image stops) other one two = by_local (script image stops) other refl one two
  one_task frames other one two = by_local frames other refl one two
  one_task (gen seed count) other one two = by_local (gen seed count) other refl one two
  one_task (listing image) other one two = by_local (listing image) other refl one two
  one_task (verifying image) other one two = by_local (verifying image) other refl one two
  one_task assembling other one two = by_local assembling other refl one two
  one_task (serving port image) other one two = by_serve port image other one two
  one_task (connecting port) other one two = by_connect port other one two

-- the task of a call that words say is said of them
pub TaskSaid-call : (words : List (List ℕ)) (form : Form) (part : Part) → Says words form part → TaskSaid words (task_by form)
TaskSaid-call words (replay image stops) part says = record { form = replay image stops; part = part; says = says; ends = refl }
TaskSaid-call words (script image stops) part says = record { form = script image stops; part = part; says = says; ends = refl }
TaskSaid-call words frames part says = record { form = frames; part = part; says = says; ends = refl }
TaskSaid-call words (gen seed count) part says = record { form = gen seed count; part = part; says = says; ends = refl }
TaskSaid-call words (listing image) part says = record { form = listing image; part = part; says = says; ends = refl }
TaskSaid-call words (verifying image) part says = record { form = verifying image; part = part; says = says; ends = refl }
TaskSaid-call words assembling part says = record { form = assembling; part = part; says = says; ends = refl }
TaskSaid-call words (serving port image) part says = record { form = serving port image; part = part; says = says; ends = refl }
TaskSaid-call words (connecting port) part says = record { form = connecting port; part = part; says = says; ends = refl }

-- and no other task is
pub TaskSaid-one : (words : List (List ℕ)) (form : Form) (part : Part) → Says words form part → (other : Task) → TaskSaid words other →
    other ≡ task_by form
TaskSaid-one words form part says Local c = sym c.ends ∙ one_task words part c.part form c.form says c.says
TaskSaid-one words form part says (Serve port) c = sym c.ends ∙ one_task words part c.part form c.form says c.says
TaskSaid-one words form part says (Connect port) c = sym c.ends ∙ one_task words part c.part form c.form says c.says
TaskSaid-one words form part says Usage none = absurd (none form part says)

-- where words say no call, only this is
pub TaskSaid-none : (words : List (List ℕ)) → SaysNone words → (other : Task) → TaskSaid words other → other ≡ Usage
TaskSaid-none words none Local c = absurd (none c.form c.part c.says)
TaskSaid-none words none (Serve port) c = absurd (none c.form c.part c.says)
TaskSaid-none words none (Connect port) c = absurd (none c.form c.part c.says)
TaskSaid-none words none Usage other = refl

-- what each task says of a shell over a port
pub not_connected_local : (words : List (List ℕ)) → CallsFor words Local → SaysNoConnect words
not_connected_local words c port part says =
    let same : Local ≡ Connect port = sym c.ends ∙ one_task words part c.part (connecting port) c.form says c.says in cc

pub not_connected_serve : (words : List (List ℕ)) (other : ℕ) → CallsFor words (Serve other) → SaysNoConnect words
not_connected_serve words other c port part says =
    let same : Serve other ≡ Connect port = sym c.ends ∙ one_task words part c.part (connecting port) c.form says c.says in cc

pub connected_says : (words : List (List ℕ)) (port : ℕ) (form : Form) (part : Part) → Says words form part → task_by form ≡ Connect port →
    (its_part : Part) × Says words (connecting port) its_part
connected_says words port (replay image stops) part says e = cc
connected_says words port (script image stops) part says e = cc
connected_says words port frames part says e = cc
connected_says words port (gen seed count) part says e = cc
connected_says words port (listing image) part says e = cc
connected_says words port (verifying image) part says e = cc
connected_says words port assembling part says e = cc
connected_says words port (serving other image) part says e = cc
connected_says words port (connecting other) part says e =
    (part, subst (λ (t : Task). Says words (connecting port) part) e (cc_port words port other part says e))
  where
    cc_port : (words : List (List ℕ)) (port other : ℕ) (part : Part) → Says words (connecting other) part →
        task_by (connecting other) ≡ Connect port → Says words (connecting port) part
    cc_port words port other part says e = let same : other ≡ port = cc in subst (λ (n : ℕ). Says words (connecting n) part) same says
