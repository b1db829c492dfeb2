-- Writes of memories, by what is decided of them.
use Rattle.std.proofs.Common.{◌≡◌, ℕ, ◌+◌, ◌||◌, Bool, true, false, not, nat_lt, List, length, Option, Ok, sym, ap, subst, ◌∙◌, arith}
use Rattle.std.proofs.lemmas.Bool.{le-ltb}
use Rattle.part_spec.specs.declared.part.Part.{Part}
use Rattle.part_spec.specs.Chip.{Chip, chip_of}
use Rattle.line_spec.specs.Messages.{refused}
use Rattle.line_spec.specs.declared.refusal.Refusal.TheVariants.{IllegalMemoryRange}
use Rattle.debug_spec.specs.Debugger.{Mode, Debugger, replied}
use Rattle.debug_spec.specs.MemoryTypes.{Memory as Holds, access_of, memory_size, in_whole_units, written_to, write_of, memory_written}
use Rattle.ice_answer.specs.declared.memory.Memory.{Memory}
use Rattle.ice_answer.specs.Values.{memory_of}
use Rattle.ice_answer.specs.Kept.{ToolState, kept_tool}
use Rattle.ice_answer.specs.Accesses.{IsWritten}
use Rattle.ice_answer.proofs.Doing.{no_if}

neither : (a b : Bool) → a ≡ false → b ≡ true → (a || not b) ≡ false
neither a b g h = cc

-- a write that is allowed is made
written_is : (part : Chip) (mode : Mode) (frame kind address count : ℕ) (memory : Memory) (bytes : List ℕ) (s : Debugger) →
    length bytes ≡ count →
    IsWritten part mode kind address count (Ok memory) → mode ≡ s.mode →
    written_to part (memory_of memory) frame address bytes s ≡ memory_written part frame kind address bytes s
written_is part mode frame kind address count memory bytes s size allowed is =
    let holds : Holds = memory_of memory in
    let over : nat_lt (memory_size part holds) (address + length bytes) ≡ false =
    le-ltb (memory_size part holds) (address + length bytes) (omega (arith, size, allowed.1)) in
    let whole : in_whole_units holds address (length bytes) ≡ true = ap (in_whole_units holds address) size ∙ allowed.2 in
    no_if (nat_lt (memory_size part holds) (address + length bytes) || not (in_whole_units holds address (length bytes)))
    (replied frame (refused IllegalMemoryRange) s) (written_to part holds frame address bytes s)
    (neither (nat_lt (memory_size part holds) (address + length bytes)) (in_whole_units holds address (length bytes)) over whole) ∙
    ap (λ (m : Option Holds). write_of part m frame address bytes s) (sym allowed.0) ∙
    ap (λ (m : Mode). write_of part (access_of m kind).written frame address bytes s) is

-- the same, told of the tool that is kept of the debugger
pub written_by_tool : (tool : ToolState) (part : Part) (frame kind address count : ℕ) (memory : Memory) (bytes : List ℕ) (s : Debugger) →
    tool ≡ kept_tool part s →
    length bytes ≡ count → IsWritten (chip_of tool.plan.part) tool.mode kind address count (Ok memory) →
    written_to (chip_of part) (memory_of memory) frame address bytes s ≡ memory_written (chip_of part) frame kind address bytes s
written_by_tool tool part frame kind address count memory bytes s is size allowed =
    let P : Part → Type 0 = λ q. IsWritten (chip_of q) tool.mode kind address count (Ok memory) in
    written_is (chip_of part) tool.mode frame kind address count memory bytes s size
    (subst P (ap (λ (k : ToolState). k.plan.part) is) allowed)
    (ap (λ (k : ToolState). k.mode) is)
