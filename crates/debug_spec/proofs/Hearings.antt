-- Each line of bytes is heard in some way, so every line has a replay, and every chunk leads to a session.
use Rattle.std.proofs.Common.{◌≡◌, ℕ, zero, suc, ◌<◌, ◌≤◌, ◌==◌, ◌^◌, Bool, true, false, List, [], ◌∷◌, ◌++◌, length, drop, refl, sym, ◌∙◌}
use Rattle.std.proofs.Common.{ap, subst, arith, ◌⊎◌, inl, inr}
use Rattle.std.specs.Prelude.{Contains}
use Rattle.std.proofs.lemmas.List.{drop_at}
use Rattle.std.proofs.lemmas.Bool.{cases_lt, cases_eq, cases_Bool, true≢false, eq-eqb, and_from}
use Rattle.part_spec.specs.Chip.{Chip}
use Rattle.line_spec.specs.Frames.{IsBytes, IsPartial, bytes_of}
use Rattle.line_spec.specs.Cut.{Item, whole, junk}
use Rattle.line_spec.specs.Messages.{Command, sign_off, get_sign_on, set_parameter, get_parameter, write_memory, read_memory, write_pc}
use Rattle.line_spec.specs.Messages.{read_pc, go, single_step, forced_stop, reset, set_device_descriptor, erase_page, get_sync, set_break}
use Rattle.line_spec.specs.Messages.{chip_erase, enter_programming, leave_programming, clear_break, run_to, clear_events, command_codes}
use Rattle.line_spec.specs.Messages.{command_fields, command_body, ignored_lengths, IsCommand, IsCommandBody}
use Rattle.line_spec.specs.Hearing.{Request, asks, unknown_code, wrong_length, IsRequest, event_number, Heard, request, dropped, Hears}
use Rattle.line_spec.specs.Hearing.{HearsAll}
use Rattle.line_spec.proofs.Bodies.{command_of, command_belongs_back}
use Rattle.line_spec.proofs.Cuts.{has_cut}
use Rattle.part_spec.specs.Pages.{same_words}
use Rattle.debug_spec.specs.Device.{Device}
use Rattle.debug_spec.specs.Debugger.{Debugger, listens, opened}
use Rattle.debug_spec.specs.Replay.{over_all, IsReplay}
use Rattle.debug_spec.specs.Schedule.{Session, heard_all, Holds, IsHeard}
use Rattle.debug_spec.specs.SessionLaws.{EveryLineIsHeard}
use Rattle.debug_spec.proofs.PageLemmas.{same_words-true}
use Rattle.debug_spec.proofs.Sessions.{EitherBy}

-- a fact holds, or does not
abbrev Told : Type 0 → Type 0
Told P = P ⊎ (P → ⊥)

both_told : {P Q : Type 0} → Told P → Told Q → Told (P × Q)
both_told (inl p) (inl q) = inl (p, q)
both_told (inr p) q = inr (λ h. p h.0)
both_told (inl p) (inr q) = inr (λ h. q h.1)

three_told : {P Q R : Type 0} → Told P → Told Q → Told R → Told (P × Q × R)
three_told (inl p) (inl q) (inl r) = inl (p, q, r)
three_told (inr p) q r = inr (λ h. p h.0)
three_told (inl p) (inr q) r = inr (λ h. q h.1)
three_told (inl p) (inl q) (inr r) = inr (λ h. r h.2)

four_told : {P Q R S : Type 0} → Told P → Told Q → Told R → Told S → Told (P × Q × R × S)
four_told (inl p) (inl q) (inl r) (inl s) = inl (p, q, r, s)
four_told (inr p) q r s = inr (λ h. p h.0)
four_told (inl p) (inr q) r s = inr (λ h. q h.1)
four_told (inl p) (inl q) (inr r) s = inr (λ h. r h.2)
four_told (inl p) (inl q) (inl r) (inr s) = inr (λ h. s h.3)

below_told : (a b : ℕ) → Told (a < b)
below_told a b = elim (cases_lt a b) [ inl low ↦ inl low | inr high ↦ inr (λ h. omega (arith, high, h)) ]

within_told : (a b : ℕ) → Told (a ≤ b)
within_told a b = elim (cases_lt b a) [ inl high ↦ inr (λ h. omega (arith, high, h)) | inr low ↦ inl low ]

bytes_told : (bytes : List ℕ) → Told (IsBytes bytes)
bytes_told [] = inl (λ i. omega arith)
bytes_told (byte ∷ bytes) = by_both (below_told byte 256) (bytes_told bytes)
  where
    all : byte < 256 → IsBytes bytes → IsBytes (byte ∷ bytes)
    all first rest zero = first
    all first rest (suc i) = rest i

    by_both : Told (byte < 256) → Told (IsBytes bytes) → Told (IsBytes (byte ∷ bytes))
    by_both (inl first) (inl rest) = inl (all first rest)
    by_both (inr first) rest = inr (λ h. first (h 0))
    by_both (inl first) (inr rest) = inr (λ h. rest (λ i. h (suc i)))

contains_told : (numbers : List ℕ) (n : ℕ) → Told (Contains numbers n)
contains_told [] n = inr (λ h. absurd (omega (arith, h.1)))
contains_told (first ∷ numbers) n = by_both (cases_eq first n) (contains_told numbers n)
  where
    not_there : (first ≡ n → ⊥) → (Contains numbers n → ⊥) → Contains (first ∷ numbers) n → ⊥
    not_there apart none (zero, low, here) = apart here
    not_there apart none (suc k, low, here) = none (k, omega (arith, low), here)

    by_both : (first ≡ n) ⊎ (first ≡ n → ⊥) → Told (Contains numbers n) → Told (Contains (first ∷ numbers) n)
    by_both (inl here) rest = inl (0, omega arith, here)
    by_both (inr apart) (inl there) = inl (suc there.0, omega (arith, there.1), there.2)
    by_both (inr apart) (inr none) = inr (not_there apart none)

same_itself : (words : List ℕ) → same_words words words ≡ true
same_itself [] = refl
same_itself (word ∷ words) = and_from (word == word) (same_words words words) (eq-eqb word word refl) (same_itself words)

list_told : (words others : List ℕ) → Told (words ≡ others)
list_told words others = by_test (cases_Bool (same_words words others))
  where
    by_test : (same_words words others ≡ true) ⊎ (same_words words others ≡ false) → Told (words ≡ others)
    by_test (inl same) = inl (same_words-true words others same)
    by_test (inr apart) = inr (λ e. true≢false (sym (same_itself words) ∙ ap (same_words words) e ∙ apart))

-- a command is within its limits or not
command_told : (command : Command) → Told (IsCommand command)
command_told sign_off = inl tt
command_told get_sign_on = inl tt
command_told (set_parameter id value) = three_told (below_told id (2 ^ 8)) (bytes_told value) (within_told (length value) 4104)
command_told (get_parameter id) = below_told id (2 ^ 8)
command_told (write_memory kind address bytes) =
    four_told (below_told kind (2 ^ 8)) (below_told address (2 ^ 32)) (bytes_told bytes) (below_told (length bytes) (2 ^ 32))
command_told (read_memory kind count address) =
    three_told (below_told kind (2 ^ 8)) (below_told count (2 ^ 32)) (below_told address (2 ^ 32))
command_told (write_pc address) = below_told address (2 ^ 32)
command_told read_pc = inl tt
command_told go = inl tt
command_told single_step = inl tt
command_told forced_stop = inl tt
command_told reset = inl tt
command_told (set_device_descriptor bytes) = both_told (bytes_told bytes) (within_told (length bytes) 4105)
command_told (erase_page address) = below_told address (2 ^ 32)
command_told get_sync = inl tt
command_told (set_break kind number address) =
    three_told (below_told kind (2 ^ 8)) (below_told number (2 ^ 8)) (below_told address (2 ^ 32))
command_told chip_erase = inl tt
command_told enter_programming = inl tt
command_told leave_programming = inl tt
command_told (clear_break number address) = both_told (below_told number (2 ^ 8)) (below_told address (2 ^ 32))
command_told (run_to address) = below_told address (2 ^ 32)
command_told clear_events = inl tt

-- what stands behind the fields of a command
abbrev behind_fields : Command → List ℕ → List ℕ
behind_fields command rest = drop (length (command_fields command)) rest

-- a body belongs to a command or not
body_told : (command : Command) (code : ℕ) (rest : List ℕ) → Told (IsCommandBody command (code ∷ rest))
body_told command code rest =
    by_all (four_told (command_told command) (bytes_told (behind_fields command rest))
    (contains_told (ignored_lengths command) (length (behind_fields command rest)))
    (list_told (code ∷ rest) (command_body command (behind_fields command rest))))
  where
    rest_of : (h : IsCommandBody command (code ∷ rest)) → behind_fields command rest ≡ h.ignored
    rest_of h =
        ap (λ (t : List ℕ). drop (length (command_fields command)) (drop 1 t)) h.made ∙
        drop_at (command_fields command) h.ignored (length (command_fields command)) refl

    by_all : Told (IsCommand command × IsBytes (behind_fields command rest) ×
        Contains (ignored_lengths command) (length (behind_fields command rest)) ×
        (code ∷ rest ≡ command_body command (behind_fields command rest))) → Told (IsCommandBody command (code ∷ rest))
    by_all (inl all) = inl
        (record { valid = all.0; ignored = behind_fields command rest; any_bytes = all.1; so_many = all.2; made = all.3 })
    by_all (inr none) = inr (λ h. none (
      h.valid,
      subst IsBytes (sym (rest_of h)) h.any_bytes,
      subst (λ (t : List ℕ). Contains (ignored_lengths command) (length t)) (sym (rest_of h)) h.so_many,
      h.made ∙ ap (command_body command) (sym (rest_of h)),
    ))

-- each body asks something
pub each_request : (body : List ℕ) → (asked : Request) × IsRequest body asked
each_request [] = (unknown_code, λ h. h)
each_request (code ∷ rest) = by_code (contains_told command_codes code) (body_told (command_of (code ∷ rest)) code rest)
  where
    by_code : Told (Contains command_codes code) → Told (IsCommandBody (command_of (code ∷ rest)) (code ∷ rest)) →
        (asked : Request) × IsRequest (code ∷ rest) asked
    by_code (inr none) told = (unknown_code, none)
    by_code (inl known) (inl belongs) = (asks (command_of (code ∷ rest)), belongs)
    by_code (inl known) (inr none) = (wrong_length, (known, λ command h. none (command_belongs_back (code ∷ rest) command h)))

-- each item is heard in some way
pub each_item : (item : Item) → (heard : Heard) × Hears item heard
each_item (junk byte) = (dropped 1, refl)
each_item (whole frame) = by_number (cases_eq frame.number event_number) (each_request frame.body)
  where
    by_number : (frame.number ≡ event_number) ⊎ (frame.number ≡ event_number → ⊥) → (asked : Request) × IsRequest frame.body asked →
        (heard : Heard) × Hears (whole frame) heard
    by_number (inl own) asked = (dropped (length (bytes_of frame)), (own, refl))
    by_number (inr apart) asked = (request frame.number asked.0, (apart, refl, asked.1))

pub each_hearing : (items : List Item) → (heard : List Heard) × HearsAll items heard
each_hearing [] = ([], tt)
each_hearing (item ∷ items) =
    let first = each_item item in
    let rest = each_hearing items in
    (first.0 ∷ rest.0, (first.1, rest.1))

-- a line has a replay
replays : (planted : Bool) (part : Chip) (stops prog : List ℕ) (device : Device) (bytes : List ℕ) → IsBytes bytes →
    (end : Debugger) × IsReplay planted part stops prog device bytes end
replays planted part stops prog device bytes valid =
    let cut = has_cut bytes valid in
    let heard = each_hearing cut.0 in (
      over_all planted part stops heard.0 cut.1 (opened part prog device),
      record {
        items = cut.0;
        rest = cut.1;
        heard = heard.0;
        cut = cut.2;
        hears = heard.1;
        is_end = refl;
      },
    )

-- what is held behind a chunk
pub held_by : Bool → List ℕ → List ℕ
held_by listening behind = elim listening [ true ↦ behind | false ↦ [] ]

pub holds_by : (listening : Bool) (behind : List ℕ) → IsPartial behind → Holds listening behind (held_by listening behind)
unfolding held_by
holds_by true behind partial = (partial, refl)
holds_by false behind partial = refl

-- a chunk leads to a session
chunks : (planted : Bool) (part : Chip) (chunk : List ℕ) (before : Session) → IsBytes (before.held ++ chunk) → (b : Bool) →
    (after : Session) × EitherBy b (IsHeard planted part chunk before after) (after ≡ before)
chunks planted part chunk before valid false = (before, refl)
chunks planted part chunk before valid true =
    let cut = has_cut (before.held ++ chunk) valid in
    let heard = each_hearing cut.0 in
    let state = heard_all planted part heard.0 before.state in (
      record { held = held_by (listens state.mode) cut.1; state = state },
      record {
        items = cut.0;
        behind = cut.1;
        heard = heard.0;
        cuts = cut.2.cuts;
        hears = heard.1;
        state = refl;
        holds = holds_by (listens state.mode) cut.1 cut.2.partial;
      },
    )

pub every_line_is_heard : EveryLineIsHeard
every_line_is_heard = record {
  replay = replays;
  chunk = λ planted part chunk before valid. chunks planted part chunk before valid (listens before.state.mode);
}
