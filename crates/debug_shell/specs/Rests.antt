-- What the code's words, and what is left of a line, stand for.
use Rattle.std.specs.Prelude.{◌≡◌, ℕ, ◌+◌, false, List, [], ◌∷◌, length, Option, Result, Ok, Err, MatchOption}
use Rattle.std.specs.Borrow.{Bor}
use Rattle.shell_spec.specs.declared.error.LineError.{LineError}
use Rattle.shell_spec.specs.declared.error.LineError.TheVariants.{Missing}
use Rattle.shell_spec.specs.Words.{Word, is_blank, words_from}
use Rattle.shell_spec.specs.Reading.{Taken}
use Rattle.debug_shell.specs.declared.rest.Rest.{Rest}
use Rattle.debug_shell.specs.declared.rest.Word.{Word as Read}

abbrev pub word_shown : Read → Word
word_shown word = record { column = word.column; bytes = word.bytes.now }

-- the words that are left
abbrev pub words_in : Rest → List Word
words_in rest = words_from rest.column rest.bytes.now

-- the column behind the line
abbrev pub end_in : Rest → ℕ
end_in rest = rest.column + length rest.bytes.now

-- the first word is taken off, if there is one
abbrev pub TakesWord : Rest → Option Read → Rest → Type 0
TakesWord before found after = MatchOption found (words_in before ≡ []) (λ word. words_in before ≡ word_shown word ∷ words_in after)

-- the first word is taken off, which must be there
abbrev pub NeedsWord : Rest → Result Read LineError → Rest → Type 0
NeedsWord before (Ok word) after = words_in before ≡ word_shown word ∷ words_in after
NeedsWord before (Err error) after = (words_in before ≡ []) × (error ≡ Missing (end_in before))

-- the bytes are none, or begin with one that is no blank
abbrev pub BeginsWord : List ℕ → Type 0
BeginsWord [] = Unit {0}
BeginsWord (byte ∷ bytes) = is_blank byte ≡ false

-- an operand was taken off, or could not be
abbrev pub Takes : {A : Type 0} → Result (Taken A) LineError → Result A LineError → Rest → Type 0
Takes wanted (Ok value) after = wanted ≡ Ok (record { value = value; behind = words_in after })
Takes wanted (Err error) after = wanted ≡ Err error

-- digits were taken off, or could not be
abbrev pub TakesDigits : Result (Taken (List ℕ)) LineError → Result (Bor (List ℕ)) LineError → Rest → Type 0
TakesDigits wanted (Ok digits) after = wanted ≡ Ok (record { value = digits.now; behind = words_in after })
TakesDigits wanted (Err error) after = wanted ≡ Err error
