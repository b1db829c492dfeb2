-- The law of listings: assembled again, they give their programs.
use Rattle.std.specs.Prelude.{◌≡◌, ℕ, zero, suc, ◌+◌, ◌-◌, ◌<◌, ◌⊎◌, true, false, if◌then◌else◌, List, [], ◌∷◌, length, drop, Ok}
use Rattle.std.specs.List.{All}
use Rattle.part_spec.specs.Chip.{Chip, chip_of, words_of}
use Rattle.part_spec.specs.declared.part.Part.{Part}
use Rattle.avr_spec.specs.Decode.{words}
use Rattle.asm_spec.specs.Listing.{are_erased, listing, shown}
use Rattle.asm_spec.specs.Words.{assembly}

-- how many words the lines of these words stand for, of which the first so many belong to the line before
unfoldable pub listed_from : Chip → (told : ℕ) → List ℕ → ℕ
listed_from part told [] = 0
listed_from part zero (word ∷ behind) =
    if are_erased (word ∷ behind) then 0
    else words (shown part word behind) + listed_from part (words (shown part word behind) - 1) behind
listed_from part (suc told) (word ∷ behind) = listed_from part told behind

-- how many words the lines of a listing stand for
abbrev pub listed : Chip → (program : List ℕ) → ℕ
listed part program = listed_from part 0 program

-- the listing of a program, assembled, gives its words, of which those are used that a line stands for; all words behind these are erased,
-- and one of the last two of them is not: it may be the first word of an instruction whose second word is erased
pub record GivesProgram (part : Chip) (program : List ℕ) : Type 0 where
  pub gives : assembly part (listing part program) ≡ Ok (record { words = program; used = listed part program })
  pub rest : are_erased (drop (listed part program) program) ≡ true
  pub last : (listed part program ≡ 0) ⊎ (are_erased (drop (listed part program - 2) program) ≡ false)

-- each program that fills the flash of a part is given by its listing
abbrev pub ListingsGiveTheirPrograms : Type 0
ListingsGiveTheirPrograms = (part : Part) (program : List ℕ) → length program ≡ words_of (chip_of part) → All (λ word. word < 65536) program →
    GivesProgram (chip_of part) program
