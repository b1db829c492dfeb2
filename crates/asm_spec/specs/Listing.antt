-- The listing of a program: its instructions, a line for each, from the first word to the last one that is not erased.
use Rattle.std.specs.Prelude.{ℕ, zero, suc, ◌+◌, ◌-◌, ◌==◌, ◌||◌, Bool, false, nat_le, nat_lt, if◌then◌else◌, List, [], ◌∷◌, ◌++◌, length}
use Rattle.std.specs.Prelude.{drop, slice_index}
use Rattle.std.specs.List.{list_all}
use Rattle.part_spec.specs.Chip.{Chip, words_of}
use Rattle.avr_spec.specs.declared.instruction.Instr.{Instr}
use Rattle.avr_spec.specs.declared.instruction.Instr.TheVariants.{Jmp, Call, Undefined}
use Rattle.avr_spec.specs.Decode.{decode, words}
use Rattle.avr_spec.specs.Text.{text}

-- a word of erased flash
abbrev pub erased : ℕ
erased = 0xffff

-- none of these words is a program's
abbrev pub are_erased : List ℕ → Bool
are_erased program = list_all (λ word. word == erased) program

-- a jump or a call goes to an address that the part does not have
abbrev pub leads_out : Chip → Instr → Bool
leads_out part (Jmp address) = nat_le (words_of part) address
leads_out part (Call address) = nat_le (words_of part) address
leads_out part _ = false

-- what is shown of an instruction that begins with this word, where so many words are left: where it has more words, or leads out of
-- the part, its first word alone, as one of no instruction
abbrev pub shown_of : Chip → (left first : ℕ) → Instr → Instr
shown_of part left first instr = if nat_lt left (words instr) || leads_out part instr then Undefined first else instr

-- what is shown of a word and the words behind it
unfoldable pub shown : Chip → (first : ℕ) → (behind : List ℕ) → Instr
shown part first behind = shown_of part (1 + length behind) first (decode first (slice_index behind 0))

-- what is shown of the place of a program
abbrev pub shown_at : Chip → (program : List ℕ) → (place : ℕ) → Instr
shown_at part program place = shown part (slice_index program place) (drop (place + 1) program)

-- the line of an instruction
abbrev pub line_of : Chip → Instr → List ℕ
line_of part instr = text part instr ++ 0x0a ∷ []

-- the lines of these words, of which the first so many belong to the line before, up to the last word that is not erased
unfoldable pub lines_from : Chip → (told : ℕ) → List ℕ → List ℕ
lines_from part told [] = []
lines_from part zero (word ∷ behind) =
    if are_erased (word ∷ behind) then []
    else line_of part (shown part word behind) ++ lines_from part (words (shown part word behind) - 1) behind
lines_from part (suc told) (word ∷ behind) = lines_from part told behind

-- the listing of a program
abbrev pub listing : Chip → (program : List ℕ) → List ℕ
listing part program = lines_from part 0 program
