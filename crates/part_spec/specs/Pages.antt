-- The pages of a flash, which is the list of its words by word address, and what writing one does.
use Rattle.std.specs.Prelude.{◌≡◌, ◌⊎◌, ℕ, ◌+◌, ◌*◌, Bool, true, false, ◌&&◌, ◌==◌, List, [], ◌∷◌, ◌++◌, length, take, drop, replicate}
use Rattle.std.specs.Prelude.{slice_index}
use Rattle.part_spec.specs.Chip.{Chip, page_words, words_of}

-- bytes as words, the low byte of each first
abbrev pub paired : List ℕ → List ℕ
paired [] = []
paired (low ∷ []) = []
paired (low ∷ high ∷ bytes) = (low + 256 * high) ∷ paired bytes

-- the words of an erased flash
unfoldable pub erased : Chip → List ℕ
erased part = replicate (words_of part) 0xffff

-- the flash with these words from an address on
abbrev pub overlaid : List ℕ → ℕ → List ℕ → List ℕ
overlaid flash address words = take address flash ++ words ++ drop (address + length words) flash

-- the words of a page
abbrev pub page_of : List ℕ → ℕ → List ℕ
page_of flash page = take page_words (drop (page_words * page) flash)

-- the flash once the page has these words
abbrev pub with_page : List ℕ → ℕ → List ℕ → List ℕ
with_page flash page words = take (page_words * page) flash ++ words ++ drop (page_words * page + page_words) flash

-- two lists have the same words
abbrev pub same_words : List ℕ → List ℕ → Bool
same_words [] [] = true
same_words [] (other ∷ others) = false
same_words (word ∷ words) [] = false
same_words (word ∷ words) (other ∷ others) = (word == other) && same_words words others

-- a page has these words already
abbrev pub page_has : List ℕ → ℕ → List ℕ → Bool
page_has flash page words = same_words (page_of flash page) words

-- a page write: the page's number, and the words that it is to have
pub record PageWrite : Type 0 where
  pub page : ℕ
  pub words : List ℕ

-- what a failed write may leave of a page: each word is the old one, or the new one
pub record IsTornPage (old new left : List ℕ) : Type 0 where
  pub size : length left ≡ page_words
  pub each : (i : ℕ) → (slice_index left i ≡ slice_index old i) ⊎ (slice_index left i ≡ slice_index new i)

-- what a failed page write may leave of a flash: the page is torn, and every other word stays
pub record IsTorn (before after : List ℕ) (page : ℕ) (words : List ℕ) : Type 0 where
  pub left : List ℕ
  pub torn : IsTornPage (page_of before page) words left
  pub is : after ≡ with_page before page left
