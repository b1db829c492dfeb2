-- A frame is heard.
use Rattle.std.proofs.Common.{◌≡◌, ◌+◌, ◌%◌, ◌^◌, true, false, ℕ, List, Option, Result, Ok, Err, refl, sym, ap, ◌∙◌, subst, arith}
use Rattle.part_spec.specs.declared.part.Part.{Part}
use Rattle.part_spec.specs.Chip.{chip_of}
use Rattle.avr_spec.specs.Kept.{Kept}
use Rattle.line_spec.specs.Frames.{Frame}
use Rattle.line_spec.specs.Cut.{whole}
use Rattle.line_spec.specs.Hearing.{Heard, Hears, Request, IsRequest, request, dropped, event_number}
use Rattle.debug_spec.specs.Debugger.{Debugger, listens, dropping}
use Rattle.debug_spec.specs.Commands.{answered, heard_by, item}
use Rattle.ice_msg.specs.Reading.{ReadsCommand}
use Rattle.ice_msg.specs.declared.command.Command.{Command}
use Rattle.ice_msg.specs.declared.bad.Bad.{Bad}
use Rattle.ice_msg.specs.declared.bad.Bad.TheVariants.{Code, Length}
use Rattle.ice_answer.specs.Values.{request_of}
use Rattle.ice_answer.specs.Kept.{ToolState, kept_tool}
use Rattle.ice_answer.specs.Does.{At, at}
use Rattle.ice_verify.specs.Well.{DoesWell}
use Rattle.ice_verify.proofs.DoingWell.{same_well, yes_elim, well_in_words}

-- what a body asks
read_asks : (body : List ℕ) (answer : Result Command Bad) → ReadsCommand body answer → IsRequest body (request_of answer)
read_asks body (Ok command) r = r
read_asks body (Err Code) r = r
read_asks body (Err Length) r = r

pub asks_so : (frame : Frame) (bytes : List ℕ) (answer : Result Command Bad) → (frame.number ≡ event_number → ⊥) → bytes ≡ frame.body →
    ReadsCommand bytes answer → Hears (whole frame) (request frame.number (request_of answer))
asks_so frame bytes answer other same reads =
    let P : List ℕ → Type 0 = λ b. IsRequest b (request_of answer) in (other, refl, subst P same (read_asks bytes answer reads))

-- what is heard where the debugger listens
as_item : (heard : Heard) (tool : ToolState) (part : Part) (s : Debugger) → listens tool.mode ≡ true → tool ≡ kept_tool part s →
    heard_by false (chip_of part) heard s ≡ item false (chip_of part) heard s
as_item heard tool part s on e =
    yes_elim (listens s.mode) (heard_by false (chip_of part) heard s) s (ap (λ (k : ToolState). listens k.mode) (sym e) ∙ on)

-- a request is heard
pub item_well : (number : ℕ) (asked : Request) (tool : ToolState) (core : Kept) (comparators : List (Option ℕ)) (out : List ℕ) (b : At) →
    listens tool.mode ≡ true → DoesWell (λ part. answered false part number asked) (at tool core comparators out) b →
    DoesWell (λ part. item false part (request number asked)) (at tool core comparators out) b
item_well number asked tool core comparators out b on does =
    same_well (λ part. answered false part number asked) (λ part. item false part (request number asked)) (at tool core comparators out) b
    (λ part before s e good. as_item (request number asked) tool part s on e.tool) does

-- a tool whose count of dropped bytes rose
pub drops-count : (part : Part) (count : ℕ) (tool : ToolState) (s : Debugger) → tool ≡ kept_tool part s →
    record tool { dropped = (tool.dropped + count) % 2 ^ 64 } ≡ kept_tool part (dropping count s)
drops-count part count tool s e =
    ap (λ (k : ToolState). record k { dropped = (k.dropped + count) % 2 ^ 64 }) e ∙
    ap (λ (n : ℕ). record (kept_tool part s) { dropped = n }) (omega arith)

-- the bytes of a frame are dropped
pub drops_well : (count : ℕ) (tool now : ToolState) (core : Kept) (comparators : List (Option ℕ)) (out : List ℕ) → listens tool.mode ≡ true →
    now ≡ record tool { dropped = (tool.dropped + count) % 2 ^ 64 } →
    DoesWell (λ part. item false part (dropped count)) (at tool core comparators out) (at now core comparators out)
drops_well count tool now core comparators out on is = λ part before s e good.
    well_in_words part before (at now core comparators out) (dropping count s) (item false (chip_of part) (dropped count) s)
    (as_item (dropped count) tool part s on e.tool)
    (record { tool = is ∙ drops-count part count tool s e.tool; core = e.core; comparators = e.comparators; sent = e.sent }, good)
