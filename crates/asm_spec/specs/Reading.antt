-- What a line says.
use Rattle.std.specs.Prelude.{ℕ, ◌-◌, ◌/◌, ◌%◌, ◌^◌, zero, suc, ◌==◌, Bool, true, false, not, eqb, nat_le, nat_lt, if◌then◌else◌, List, []}
use Rattle.std.specs.Prelude.{◌∷◌, ◌++◌, length, drop, codes, count_by, find, Option, None, Some, option_map, Result, Ok, Err}
use Rattle.std.specs.List.{starts_with, take_while, zip}
use Rattle.std.specs.Str.{bytes_eq}
use Rattle.part_spec.specs.Chip.{Chip, words_of}
use Rattle.avr_spec.specs.Table.{Row, table}
use Rattle.asm_spec.specs.declared.kind.AsmKind.{AsmKind}
use Rattle.asm_spec.specs.declared.kind.AsmKind.TheVariants.{Text, Value}
use Rattle.asm_spec.specs.Forms.{Operand, register, byte, bit, exact, displacement, distance, address, target, Form, forms}
use Rattle.asm_spec.specs.Tokens.{Statement, behind_blanks, is_name, number, register_number, statement_of, trimmed}

-- another name of an instruction, with the operands that are written out of those given
pub record Alias : Type 0 where
  pub name : List ℕ
  pub of : List ℕ
  pub written : List (List ℕ) → List (List ℕ)

-- an alias that puts an operand in front
abbrev pub with_bit : List ℕ → List ℕ → List ℕ → Alias
with_bit name of number = record { name = name; of = of; written = λ operands. number ∷ operands }

-- an alias that has its operands twice
abbrev pub with_itself : List ℕ → List ℕ → Alias
with_itself name of = record { name = name; of = of; written = λ operands. operands ++ operands }

abbrev pub aliases : List Alias
aliases =
    with_bit (codes "sei") (codes "bset") (codes "7") ∷
    with_bit (codes "cli") (codes "bclr") (codes "7") ∷
    with_bit (codes "brcs") (codes "brbs") (codes "0") ∷
    with_bit (codes "brcc") (codes "brbc") (codes "0") ∷
    with_bit (codes "breq") (codes "brbs") (codes "1") ∷
    with_bit (codes "brne") (codes "brbc") (codes "1") ∷
    with_bit (codes "brmi") (codes "brbs") (codes "2") ∷
    with_bit (codes "brpl") (codes "brbc") (codes "2") ∷
    with_bit (codes "brlt") (codes "brbs") (codes "4") ∷
    with_bit (codes "brge") (codes "brbc") (codes "4") ∷
    with_itself (codes "clr") (codes "eor") ∷
    with_itself (codes "tst") (codes "and") ∷
    with_itself (codes "lsl") (codes "add") ∷
    with_itself (codes "rol") (codes "adc") ∷
    []

-- a statement with its alias written out
abbrev pub by_alias : Statement → Option Alias → Statement
by_alias statement None = statement
by_alias statement (Some alias) = record { name = alias.of; operands = alias.written statement.operands }

abbrev pub written_out : Statement → Statement
written_out statement = by_alias statement (find (λ alias. bytes_eq alias.name statement.name) aliases)

-- what an operand means: a value of its field, a number outside its field, or the place of a label
pub data Meaning : Type 0 where
  value : ℕ → Meaning
  outside : Meaning
  label : (name : List ℕ) → Meaning

-- a number, where it is below a limit
abbrev pub limited : (limit : ℕ) → ℕ → Meaning
limited limit n = if nat_lt n limit then value n else outside

-- the numbers below a limit
abbrev pub below : ℕ → List ℕ
below zero = []
below (suc n) = n ∷ below n

abbrev pub found : Option ℕ → Meaning
found None = outside
found (Some n) = value n

-- the value of a field that names a register
abbrev pub naming : (ℕ → ℕ) → (limit : ℕ) → (number : ℕ) → Meaning
naming named limit number = found (find (λ n. named n == number) (below limit))

-- so many words ahead, or behind, as a two's complement distance of so many values
abbrev pub ahead : (values : ℕ) → ℕ → Meaning
ahead values n = if nat_lt n (values / 2) then value n else outside

abbrev pub behind : (values : ℕ) → ℕ → Meaning
behind values n = if nat_le n (values / 2) then value ((values - n) % values) else outside

-- a number with a meaning, or a name
abbrev pub number_or_name : Option Meaning → List ℕ → Option Meaning
number_or_name (Some meaning) bytes = Some meaning
number_or_name None bytes = if is_name bytes then Some (label bytes) else None

-- a text that begins so, with the meaning of what stands behind
abbrev pub prefixed : List ℕ → (List ℕ → Option Meaning) → List ℕ → Option Meaning
prefixed front meaning bytes = if starts_with eqb bytes front then meaning (drop (length front) bytes) else None

-- how many values a field has, by the letters of a row
abbrev pub limit_of : (letters : List ℕ) → (letter : ℕ) → ℕ
limit_of letters letter = 2 ^ count_by (λ other. other == letter) letters

-- what bytes mean as an operand, if they are one of its kind
abbrev pub meaning : Chip → (letters : List ℕ) → Operand → List ℕ → Option Meaning
meaning part letters (register named letter) bytes = option_map (naming named (limit_of letters letter)) (register_number bytes)
meaning part letters (byte letter) bytes = option_map (limited (limit_of letters letter)) (number bytes)
meaning part letters (bit letter) bytes = option_map (limited (limit_of letters letter)) (number bytes)
meaning part letters (exact shown) bytes = if bytes_eq shown bytes then Some (value 0) else None
meaning part letters (displacement pointer letter) bytes =
    prefixed (pointer ++ codes "+") (λ more. option_map (limited (limit_of letters letter)) (number more)) bytes
meaning part letters (distance values letter) bytes =
    if starts_with eqb bytes (codes ".+") then option_map (ahead values) (number (drop 2 bytes))
    else if starts_with eqb bytes (codes ".-") then option_map (behind values) (number (drop 2 bytes))
    else number_or_name None bytes
meaning part letters address bytes = number_or_name (option_map (limited 0x10000) (number bytes)) bytes
meaning part letters (target letter) bytes = number_or_name (option_map (limited (words_of part)) (number bytes)) bytes

-- an operand with its meaning
pub record Meant : Type 0 where
  pub operand : Operand
  pub meaning : Meaning

-- one operand more, if all are of their kinds
abbrev pub and_more : Operand → Option Meaning → Option (List Meant) → Option (List Meant)
and_more operand None more = None
and_more operand (Some meaning) None = None
and_more operand (Some meaning) (Some more) = Some (record { operand = operand; meaning = meaning } ∷ more)

-- what each operand means, if there are as many as a form has, each of its kind
abbrev pub meanings : Chip → (letters : List ℕ) → List Operand → List (List ℕ) → Option (List Meant)
meanings part letters [] [] = Some []
meanings part letters [] (text ∷ texts) = None
meanings part letters (operand ∷ operands) [] = None
meanings part letters (operand ∷ operands) (text ∷ texts) =
    and_more operand (meaning part letters operand text) (meanings part letters operands texts)

-- what a statement puts into flash: a word, or an instruction by the letters of its row and the meaning of its operands
pub data Item : Type 0 where
  plain : (word : ℕ) → Item
  coded : (letters : List ℕ) → List Meant → Item

-- what a statement says
pub data Order : Type 0 where
  nothing : Order
  origin : (place : ℕ) → Order
  put : Item → Order

-- what a line says: a label, if it has one, and its statement
pub record Line : Type 0 where
  pub label : Option (List ℕ)
  pub order : Order

-- a number is outside of its field
abbrev pub is_outside_meaning : Meaning → Bool
is_outside_meaning (value n) = false
is_outside_meaning outside = true
is_outside_meaning (label name) = false

abbrev pub is_outside : Meant → Bool
is_outside meant = is_outside_meaning meant.meaning

-- an instruction whose numbers fit their fields
abbrev pub fitting : (letters : List ℕ) → List Meant → Result Order AsmKind
fitting letters operands = if count_by is_outside operands == 0 then Ok (put (coded letters operands)) else Err Value

-- an instruction by what its operands mean, if they are those of a form; else what else it may be
abbrev pub by_meanings : (letters : List ℕ) → Option (List Meant) → Result Order AsmKind → Result Order AsmKind
by_meanings letters None otherwise = otherwise
by_meanings letters (Some operands) otherwise = fitting letters operands

-- an instruction by the first of these rows with their forms that its mnemonic and its operands have
abbrev pub by_form : Chip → Statement → List (Row × Form) → Result Order AsmKind
by_form part statement [] = Err Text
by_form part statement ((row, form) ∷ more) =
    if bytes_eq form.name statement.name
    then by_meanings row.letters (meanings part row.letters form.operands statement.operands) (by_form part statement more)
    else by_form part statement more

-- a word by its number
abbrev pub plain_word : ℕ → Result Order AsmKind
plain_word n = if nat_lt n 0x10000 then Ok (put (plain n)) else Err Value

-- what a number says, if there is one
abbrev pub of_number : (ℕ → Result Order AsmKind) → Option ℕ → Result Order AsmKind
of_number says None = Err Text
of_number says (Some n) = says n

-- what the one operand says, which is a number
abbrev pub with_number : (ℕ → Result Order AsmKind) → List (List ℕ) → Result Order AsmKind
with_number says [] = Err Text
with_number says (operand ∷ []) = of_number says (number operand)
with_number says (operand ∷ another ∷ more) = Err Text

-- what a statement says
abbrev pub order_of : Chip → Statement → Result Order AsmKind
order_of part statement =
    if bytes_eq (codes ".word") statement.name then with_number plain_word statement.operands
    else if bytes_eq (codes ".org") statement.name then with_number (λ place. Ok (origin place)) statement.operands
    else by_form part (written_out statement) (zip table forms)

-- what stands behind a label, or all of a line that has none: nothing, or a statement
abbrev pub order_in : Chip → List ℕ → Result Order AsmKind
order_in part [] = Ok nothing
order_in part (first ∷ more) = order_of part (statement_of (first ∷ more))

-- a line with this label
abbrev pub labelled : Option (List ℕ) → Result Order AsmKind → Result Line AsmKind
labelled name (Ok order) = Ok (record { label = name; order = order })
labelled name (Err kind) = Err kind

-- bytes up to a colon, and those behind it, if there is one
abbrev pub with_front : ℕ → Option (List ℕ × List ℕ) → Option (List ℕ × List ℕ)
with_front first None = None
with_front first (Some (front, more)) = Some (first ∷ front, more)

abbrev pub at_colon : List ℕ → Option (List ℕ × List ℕ)
at_colon [] = None
at_colon (first ∷ more) = if first == 0x3a then Some ([], more) else with_front first (at_colon more)

-- what a line without its comment says: up to a colon stands its label
abbrev pub by_colon : Chip → (line : List ℕ) → Option (List ℕ × List ℕ) → Result Line AsmKind
by_colon part line None = labelled None (order_in part (trimmed line))
by_colon part line (Some (front, more)) =
    if is_name (behind_blanks front) then labelled (Some (behind_blanks front)) (order_in part (trimmed more)) else Err Text

-- a line without its comment
abbrev pub without_comment : List ℕ → List ℕ
without_comment line = take_while (λ other. not (other == 0x3b)) line

-- what a line says, or that it is no line of the grammar, or has a number outside of its field
unfoldable pub reading : Chip → (line : List ℕ) → Result Line AsmKind
reading part line = by_colon part (without_comment line) (at_colon (without_comment line))
