-- A program with breakpoints planted in it: the word of a BREAK stands in place of the program's own word. A set of addresses is
-- a list of them.
use Rattle.std.specs.Prelude.{ℕ, zero, suc, ◌-◌, Bool, false, not, ◌&&◌, ◌||◌, ◌==◌, nat_lt, if◌then◌else◌, List, [], ◌∷◌}
use Rattle.part_spec.specs.Chip.{Chip, words_of}
use Rattle.avr_spec.specs.Decode.{two_word, is_skip}
use Rattle.avr_spec.specs.Step.{word_at}

-- the word of a BREAK (AVR Instruction Set Manual, 'BREAK')
abbrev pub break_word : ℕ
break_word = 0x9598

-- a set has an address
abbrev pub has : List ℕ → ℕ → Bool
has [] address = false
has (other ∷ set) address = (address == other) || has set address

-- a set without one address
abbrev pub without : ℕ → List ℕ → List ℕ
without address [] = []
without address (other ∷ set) = if address == other then without address set else other ∷ without address set

-- the words that stand from an address on, with a BREAK at each address of a set
abbrev pub patched_from : ℕ → List ℕ → List ℕ → List ℕ
patched_from address [] set = []
patched_from address (word ∷ words) set = (if has set address then break_word else word) ∷ patched_from (suc address) words set

-- the program with a BREAK at each address of a set
abbrev pub patch : List ℕ → List ℕ → List ℕ
patch prog set = patched_from 0 prog set

-- the address before another, modulo the flash
abbrev pub before : Chip → ℕ → ℕ
before part zero = words_of part - 1
before part (suc address) = address

-- a BREAK may be planted: the address is in the flash, and no two-word instruction begins there behind a skip, which skips one
-- word of a BREAK and two of that instruction
abbrev pub plantable : Chip → List ℕ → ℕ → Bool
plantable part prog address =
    nat_lt address (words_of part) && not (two_word (word_at prog address) && is_skip (word_at prog (before part address)))
