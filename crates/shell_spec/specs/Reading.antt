-- How a line is read.
use Rattle.std.specs.Prelude.{ℕ, Bool, false, ◌+◌, ◌==◌, nat_le, if◌then◌else◌, List, [], ◌∷◌, length, Option, None, Some, Result, Ok, Err}
use Rattle.shell_spec.specs.declared.error.LineError.{LineError}
use Rattle.shell_spec.specs.declared.error.LineError.TheVariants.{Long, Unknown, Missing, Value, Extra}
use Rattle.shell_spec.specs.declared.verb.Verb.{Verb}
use Rattle.shell_spec.specs.Words.{Word, words_of, without_end}
use Rattle.shell_spec.specs.Operands.{digits_of, number_of, space_of}
use Rattle.shell_spec.specs.Lines.{Line, nothing}
use Rattle.shell_spec.specs.Table.{Form, ends, number, space, digits, ends_or_number, form_of, verb_of}

-- the most bytes of a line, without its end
abbrev pub line_limit : ℕ
line_limit = 320

-- the first byte of a line that does nothing, `#`
abbrev pub hash : ℕ
hash = 0x23

-- what comes next, unless there was an error
abbrev pub onward : {A B : Type 0} → Result A LineError → (A → Result B LineError) → Result B LineError
onward (Ok value) next = next value
onward (Err error) next = Err error

-- an operand, and the words behind it
pub record Taken (A : Type 0) : Type 0 where
  pub value : A
  pub behind : List Word

-- what the word at this column means, if it means something
abbrev pub meant : {A : Type 0} → (column : ℕ) → Option A → (behind : List Word) → Result (Taken A) LineError
meant column None behind = Err (Value column)
meant column (Some value) behind = Ok (record { value = value; behind = behind })

-- the next word is an operand with a meaning; the line ends before this column
abbrev pub operand : {A : Type 0} → (end : ℕ) → (List ℕ → Option A) → List Word → Result (Taken A) LineError
operand end meaning [] = Err (Missing end)
operand end meaning (word ∷ words) = meant word.column (meaning word.bytes) words

-- a line that has no more words
abbrev pub no_more : Line → List Word → Result Line LineError
no_more line [] = Ok line
no_more line (word ∷ words) = Err (Extra word.column)

-- a line that may have no more words
abbrev pub maybe_more : Line → List Word → Result Line LineError → Result Line LineError
maybe_more line [] more = Ok line
maybe_more line (word ∷ words) more = more

-- what the words say by a form, from left to right, or the first wrong one
abbrev pub read_form : (end : ℕ) → Form → List Word → Result Line LineError
read_form end (ends line) words = no_more line words
read_form end (number most next) words =
    onward (operand end (number_of most) words) (λ taken. read_form end (next taken.value) taken.behind)
read_form end (space spaces next) words =
    onward (operand end (space_of spaces) words) (λ taken. read_form end (next taken.value) taken.behind)
read_form end (digits least most next) words =
    onward (operand end (digits_of least most) words) (λ taken. read_form end (next taken.value) taken.behind)
read_form end (ends_or_number line most next) words =
    maybe_more line words (onward (operand end (number_of most) words) (λ taken. read_form end (next taken.value) taken.behind))

-- what the words behind the first one say
abbrev pub read_verb : (end : ℕ) → (first : Word) → Option Verb → List Word → Result Line LineError
read_verb end first None words = Err (Unknown first.column)
read_verb end first (Some verb) words = read_form end (form_of verb) words

-- whether the bytes begin with `#`
abbrev pub is_remark : List ℕ → Bool
is_remark [] = false
is_remark (byte ∷ bytes) = byte == hash

-- what the words say
abbrev pub read_words : (end : ℕ) → List Word → Result Line LineError
read_words end [] = Ok nothing
read_words end (first ∷ words) = if is_remark first.bytes then Ok nothing else read_verb end first (verb_of first.bytes) words

-- what a line without its end says, or its first wrong place
abbrev pub read_bare : (line : List ℕ) → Result Line LineError
read_bare line = if nat_le (length line) line_limit then read_words (length line + 1) (words_of line) else Err Long

-- what a line says, with or without its end
abbrev pub reading : (line : List ℕ) → Result Line LineError
reading line = read_bare (without_end line)
