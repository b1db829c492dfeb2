-- What the code asks of a flash, put together with what it does beside.
use Rattle.std.proofs.Common.{◌≡◌, ℕ, List, [], Option, Result, Ok, true, refl, sym, ap, ◌∙◌, append-nil, subst}
use Rattle.part_spec.specs.declared.part.Part.{Part}
use Rattle.part_spec.specs.Chip.{Chip, chip_of}
use Rattle.avr_spec.specs.Kept.{Kept}
use Rattle.debug_spec.specs.Device.{Outcome, Asked, Device}
use Rattle.debug_spec.specs.PageLaws.{AreAnswered}
use Rattle.debug_spec.specs.Moved.{Flash, asked_of}
use Rattle.debug_spec.specs.Debugger.{Debugger}
use Rattle.debug_spec.specs.Commands.{allowed, answered, carried_out}
use Rattle.ice_msg.specs.Reading.{asked}
use Rattle.ice_msg.specs.declared.command.Command.{Command}
use Rattle.ice_msg.specs.declared.bad.Bad.{Bad}
use Rattle.ice_answer.specs.Values.{request_of}
use Rattle.ice_answer.specs.Kept.{ToolState}
use Rattle.ice_answer.specs.Does.{At, at, IsAt, Does}
use Rattle.ice_answer.proofs.Requests.{as_allowed}
use Rattle.ice_emul.specs.Asking.{DoesAsking}

-- nothing was asked of a device
asked-nothing : (d : Device) (words : List ℕ) (left : List Outcome) → words ≡ d.words → d.outcomes ≡ left → d ≡ asked_of d words [] left
asked-nothing d words left same answered =
    ap (λ (w : List ℕ). record { words = w; asked = d.asked; outcomes = d.outcomes }) (sym same) ∙
    ap (λ (o : List Outcome). record { words = words; asked = d.asked; outcomes = o }) answered ∙
    ap (λ (a : List Asked). record { words = words; asked = a; outcomes = left }) (sym (append-nil d.asked))

module _ {F : Type 0} (flash : Flash F) where
  pub asking_nothing : (change : Chip → Debugger → Debugger) (a b : At) (from to : F) → to ≡ from → Does change a b →
      DoesAsking flash change a from b to
  asking_nothing change a b from to stays does = record {
    asks = [];
    moved = stays;
    leads = λ part before s left e words answered.
        let done = does part before s e in
        (done.0, done.1.device ∙ asked-nothing s.device (flash.words to) left (ap flash.words stays ∙ words) answered, done.1.launches);
  }

  -- so it asks nothing
  pub asks_nothing : (change : Chip → Debugger → Debugger) (a b : At) (from to : F) (stays : to ≡ from) (does : Does change a b) →
      (asking_nothing change a b from to stays does).asks ≡ []
  unfolding asking_nothing
  asks_nothing change a b from to stays does = refl

  -- a change, and then what is asked
  pub then_asking : (f g h : Chip → Debugger → Debugger) (a b c : At) (from to : F) →
      ((part : Part) (before : List ℕ) (s : Debugger) → IsAt part before a s → g (chip_of part) (f (chip_of part) s) ≡ h (chip_of part) s) →
      Does f a b → DoesAsking flash g b from c to → DoesAsking flash h a from c to
  then_asking f g h a b c from to same first next = record {
    asks = next.asks;
    moved = next.moved;
    leads = λ part before s left e words answered.
        let one = first part before s e in
        let two = next.leads part before (f (chip_of part) s) left one.0 (words ∙ ap (λ (d : Device). d.words) (sym one.1.device))
        (subst (λ (d : Device). AreAnswered d.outcomes next.asks left) (sym one.1.device) answered) in
        let is = same part before s e in
        let P : Debugger → Type 0 = λ t. IsAt part before c t × (t.device ≡ asked_of s.device (flash.words to) next.asks left) × (t.launches ≡ s.launches) in
        subst P is
        (two.0, two.1 ∙ ap (λ (d : Device). asked_of d (flash.words to) next.asks left) one.1.device, two.2 ∙ one.1.launches);
  }

  -- what is asked, and then a change
  pub asking_then : (f g h : Chip → Debugger → Debugger) (a b c : At) (from to : F) →
      ((part : Part) (before : List ℕ) (s : Debugger) → IsAt part before a s → g (chip_of part) (f (chip_of part) s) ≡ h (chip_of part) s) →
      DoesAsking flash f a from b to → Does g b c → DoesAsking flash h a from c to
  asking_then f g h a b c from to same first next = record {
    asks = first.asks;
    moved = first.moved;
    leads = λ part before s left e words answered.
        let one = first.leads part before s left e words answered in
        let two = next part before (f (chip_of part) s) one.0 in
        let P : Debugger → Type 0 = λ t. IsAt part before c t × (t.device ≡ asked_of s.device (flash.words to) first.asks left) × (t.launches ≡ s.launches) in
        subst P (same part before s e) (two.0, two.1.device ∙ one.1, two.1.launches ∙ one.2);
  }

  -- what is asked, in other words
  pub same_asking : (g h : Chip → Debugger → Debugger) (a b : At) (from to : F) →
      ((part : Part) (before : List ℕ) (s : Debugger) → IsAt part before a s → g (chip_of part) s ≡ h (chip_of part) s) →
      DoesAsking flash g a from b to → DoesAsking flash h a from b to
  same_asking g h a b from to same asks = then_asking (λ part s. s) g h a a b from to same
      (λ part before s e. (e, record { device = refl; launches = refl })) asks

-- a command is carried out, told which it is
module _ {F : Type 0} (flash : Flash F) (command wanted : Command) (number : ℕ) (a b : At) (from : F) (is : command ≡ wanted) where
  pub commanded : (to : F) → DoesAsking flash (λ part. carried_out true part number (asked wanted)) a from b to →
      DoesAsking flash (λ part. carried_out true part number (asked command)) a from b to
  commanded to does = subst (λ (k : Command). DoesAsking flash (λ part. carried_out true part number (asked k)) a from b to) (sym is) does

  pub commanded_here : Does (λ part. carried_out true part number (asked wanted)) a b →
      DoesAsking flash (λ part. carried_out true part number (asked command)) a from b from
  commanded_here does = commanded from (asking_nothing flash (λ part. carried_out true part number (asked wanted)) a b from from refl does)

-- a command that the mode allows is carried out, and so the request is answered
pub allowed_asking : {F : Type 0} (flash : Flash F) (given : Result Command Bad) (number : ℕ) (command : Command) (is : given ≡ Ok command)
    (tool : ToolState) (core : Kept) (comparators : List (Option ℕ)) (out : List ℕ) (b : At) (from to : F) → allowed tool.mode (asked command) ≡ true →
    DoesAsking flash (λ part. carried_out true part number (asked command)) (at tool core comparators out) from b to →
    DoesAsking flash (λ part. answered true part number (request_of given)) (at tool core comparators out) from b to
allowed_asking flash given number command is tool core comparators out b from to some does =
    same_asking flash (λ part. carried_out true part number (asked command)) (λ part. answered true part number (request_of given))
    (at tool core comparators out) b from to (as_allowed true given number command is tool core comparators out some) does
