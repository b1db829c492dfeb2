-- What the code does, put together from what its parts do.
use Rattle.std.proofs.Common.{◌≡◌, Bool, true, false, ℕ, List, [], ◌∷◌, ◌++◌, Option, if◌then◌else◌, refl, sym, ap, ◌∙◌, append-nil, append_assoc, subst}
use Rattle.std.specs.List.{flat_map}
use Rattle.std.proofs.lemmas.List.Concat.{flat_map-append}
use Rattle.part_spec.specs.declared.part.Part.{Part}
use Rattle.part_spec.specs.Chip.{Chip, chip_of}
use Rattle.avr_spec.specs.Kept.{Kept, kept}
use Rattle.line_spec.specs.Frames.{Frame, bytes_of}
use Rattle.line_spec.specs.Messages.{event_body, break_at}
use Rattle.line_spec.specs.Hearing.{event_number}
use Rattle.debug_spec.specs.Stop.{Cause, cause_code}
use Rattle.debug_spec.specs.Debugger.{Debugger, told}
use Rattle.debug_spec.specs.Replay.{bytes_sent}
use Rattle.debug_spec.specs.Commands.{carried_out}
use Rattle.ice_msg.specs.Reading.{asked}
use Rattle.ice_msg.specs.declared.command.Command.{Command}
use Rattle.ice_answer.specs.Kept.{ToolState, kept_tool}
use Rattle.ice_answer.specs.Does.{At, at, IsAt, AsksNothing, Does, DoesBeside, Sends}

-- a frame is sent
abbrev pub sending : ℕ → List ℕ → Chip → Debugger → Debugger
sending number body part s = record s { sent = s.sent ++ record { number = number; body = body } ∷ [] }

pub sent-more : (sent : List Frame) (frame : Frame) → flat_map bytes_of (sent ++ frame ∷ []) ≡ flat_map bytes_of sent ++ bytes_of frame
sent-more sent frame = flat_map-append bytes_of sent (frame ∷ []) ∙ ap (λ (t : List ℕ). flat_map bytes_of sent ++ t) (append-nil (bytes_of frame))

pub does-send : (number : ℕ) (body out more : List ℕ) (tool : ToolState) (core : Kept) (comparators : List (Option ℕ)) → Sends number body out more →
    Does (sending number body) (at tool core comparators out) (at tool core comparators more)
does-send number body out more tool core comparators h = λ part before s e.
    let frame : Frame = record { number = number; body = body } in (
      record {
        tool = e.tool;
        core = e.core;
        comparators = e.comparators;
        sent = sent-more s.sent frame ∙ ap (λ (t : List ℕ). t ++ bytes_of frame) e.sent ∙ append_assoc before out (bytes_of frame) ∙
            ap (λ (t : List ℕ). before ++ t) (sym h);
      },
      record { device = refl; launches = refl },
    )

-- one change behind another
pub then_does : (f g h : Chip → Debugger → Debugger) (a b c : At) →
    ((part : Part) (before : List ℕ) (s : Debugger) → IsAt part before a s → g (chip_of part) (f (chip_of part) s) ≡ h (chip_of part) s) →
    Does f a b → Does g b c → Does h a c
then_does f g h a b c same first next = λ part before s e.
    let one = first part before s e in
    let two = next part before (f (chip_of part) s) one.0 in
    let is = same part before s e in (
      record {
        tool = two.0.tool ∙ ap (λ (t : Debugger). kept_tool part t) is;
        core = two.0.core ∙ ap (λ (t : Debugger). kept (chip_of part) t.machine) is;
        comparators = two.0.comparators ∙ ap (λ (t : Debugger). t.comparators) is;
        sent = ap (λ (t : Debugger). bytes_sent t) (sym is) ∙ two.0.sent;
      },
      record {
        device = ap (λ (t : Debugger). t.device) (sym is) ∙ two.1.device ∙ one.1.device;
        launches = ap (λ (t : Debugger). t.launches) (sym is) ∙ two.1.launches ∙ one.1.launches;
      },
    )

-- one change alone, in other words
pub same_does : (g h : Chip → Debugger → Debugger) (a c : At) →
    ((part : Part) (before : List ℕ) (s : Debugger) → IsAt part before a s → g (chip_of part) s ≡ h (chip_of part) s) → Does g a c → Does h a c
same_does g h a c same next = then_does (λ part s. s) g h a a c same (λ part before s e. (e, record { device = refl; launches = refl })) next

-- one of two, told which
pub yes_elim : {T : Type 0} (b : Bool) (x y : T) → b ≡ true → x ≡ elim b [ true ↦ x | false ↦ y ]
yes_elim true x y h = refl
yes_elim false x y h = cc

pub no_elim : {T : Type 0} (b : Bool) (x y : T) → b ≡ false → y ≡ elim b [ true ↦ x | false ↦ y ]
no_elim true x y h = cc
no_elim false x y h = refl

-- the same of an if
pub yes_if : {T : Type 0} (b : Bool) (x y : T) → b ≡ true → x ≡ (if b then x else y)
yes_if true x y h = refl
yes_if false x y h = cc

pub no_if : {T : Type 0} (b : Bool) (x y : T) → b ≡ false → y ≡ (if b then x else y)
no_if true x y h = cc
no_if false x y h = refl

-- what is done, in other words
pub in_words : (part : Part) (before : List ℕ) (b : At) (s x y : Debugger) → x ≡ y → IsAt part before b x × AsksNothing s x →
    IsAt part before b y × AsksNothing s y
in_words part before b s x y same h = subst (λ (t : Debugger). IsAt part before b t × AsksNothing s t) same h

-- the debugger is changed, and the code with it, and then a frame is sent
pub changed_then_sent : (number : ℕ) (body out more : List ℕ) (tool : ToolState) (core : Kept) (comparators : List (Option ℕ)) →
    Sends number body out more → (part : Part) (before : List ℕ) (s t : Debugger) → IsAt part before (at tool core comparators out) t →
    AsksNothing s t → IsAt part before (at tool core comparators more) (sending number body (chip_of part) t) ×
    AsksNothing s (sending number body (chip_of part) t)
changed_then_sent number body out more tool core comparators h part before s t e nothing =
    let sent = does-send number body out more tool core comparators h part before t e in
    (sent.0, record { device = nothing.device; launches = nothing.launches })

-- the tool that is kept before is seen in other words
pub does_from : (change : Chip → Debugger → Debugger) (seen tool : ToolState) (core : Kept) (comparators : List (Option ℕ)) (sent : List ℕ) (b : At) →
    seen ≡ tool → Does change (at seen core comparators sent) b → Does change (at tool core comparators sent) b
does_from change seen tool core comparators sent b same h = subst (λ (k : ToolState). Does change (at k core comparators sent) b) same h

-- a break event is sent behind a change
pub told_behind : (cause : Cause) (pc : ℕ) (out more : List ℕ) (tool : ToolState) (core : Kept) (comparators : List (Option ℕ)) → pc ≡ core.pc →
    Sends event_number (event_body (break_at pc (cause_code cause))) out more → (part : Part) (before : List ℕ) (s t : Debugger) →
    IsAt part before (at tool core comparators out) t × AsksNothing s t →
    IsAt part before (at tool core comparators more) (told cause t) × AsksNothing s (told cause t)
told_behind cause pc out more tool core comparators here sends part before s t e =
    let same : pc ≡ t.machine.pc = here ∙ ap (λ (k : Kept). k.pc) e.0.core in
    in_words part before (at tool core comparators more) s (sending event_number (event_body (break_at pc (cause_code cause))) (chip_of part) t) (told cause t)
    (ap (λ (n : ℕ). sending event_number (event_body (break_at n (cause_code cause))) (chip_of part) t) same)
    (changed_then_sent event_number (event_body (break_at pc (cause_code cause))) out more tool core comparators sends part before s t e.0 e.1)

-- a command is carried out beside the target, told which it is
pub commanded_beside : (planted : Bool) (command wanted : Command) (number : ℕ) (tool : ToolState) (sent : List ℕ) (now : ToolState) (more : List ℕ) → command ≡ wanted →
    DoesBeside (λ part. carried_out planted part number (asked wanted)) tool sent now more →
    DoesBeside (λ part. carried_out planted part number (asked command)) tool sent now more
commanded_beside planted command wanted number tool sent now more is does =
    subst (λ (k : Command). DoesBeside (λ part. carried_out planted part number (asked k)) tool sent now more) (sym is) does
