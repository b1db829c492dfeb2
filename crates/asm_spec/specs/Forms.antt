-- The forms of the texts of instructions: for each row of the instruction table, in its order, the mnemonic and what its operands are, by
-- the letters of the fields that they give.
use Rattle.std.specs.Prelude.{ℕ, ◌+◌, ◌*◌, List, [], ◌∷◌, codes, decimal, map}
use Rattle.part_spec.specs.Chip.{Chip}
use Rattle.avr_spec.specs.Text.{displaced as displaced_text, distance as distance_text, hex_byte, hex_word, one, reg_text}
use Rattle.avr_spec.specs.Text.{target as target_text, two}

-- what an operand is: a register, by the number that a value of its field names; a byte; the number of a bit; a fixed text, as `X+`; a
-- pointer register with a displacement; a distance of so many values; an address of data, which is the second word; the address of a
-- jump, which is a field and the second word
pub data Operand : Type 0 where
  register : (named : ℕ → ℕ) → (letter : ℕ) → Operand
  byte : (letter : ℕ) → Operand
  bit : (letter : ℕ) → Operand
  exact : (shown : List ℕ) → Operand
  displacement : (pointer : List ℕ) → (letter : ℕ) → Operand
  distance : (values : ℕ) → (letter : ℕ) → Operand
  address : Operand
  target : (letter : ℕ) → Operand

-- the mnemonic and the operands
pub record Form : Type 0 where
  pub name : List ℕ
  pub operands : List Operand

-- a mnemonic alone
abbrev pub alone : List ℕ → Form
alone name = record { name = name; operands = [] }

-- a mnemonic with one operand
abbrev pub with_one : List ℕ → Operand → Form
with_one name operand = record { name = name; operands = operand ∷ [] }

-- a mnemonic with two operands
abbrev pub with_two : List ℕ → Operand → Operand → Form
with_two name left right = record { name = name; operands = left ∷ right ∷ [] }

-- registers that a field names: each, each second one, those from r16 on, and each second one from r24 on
abbrev pub any : ℕ → ℕ
any n = n

abbrev pub even : ℕ → ℕ
even n = 2 * n

abbrev pub upper : ℕ → ℕ
upper n = 16 + n

abbrev pub double : ℕ → ℕ
double n = 24 + 2 * n

-- the letters of fields
abbrev d : ℕ
d = 100

abbrev r : ℕ
r = 114

abbrev K : ℕ
K = 75

abbrev A : ℕ
A = 65

abbrev b : ℕ
b = 98

abbrev s : ℕ
s = 115

abbrev q : ℕ
q = 113

abbrev k : ℕ
k = 107

-- the form of each row
abbrev pub forms : List Form
forms =
    alone (codes "nop") ∷
    with_two (codes "movw") (register even d) (register even r) ∷
    with_two (codes "muls") (register upper d) (register upper r) ∷
    with_two (codes "mulsu") (register upper d) (register upper r) ∷
    with_two (codes "fmul") (register upper d) (register upper r) ∷
    with_two (codes "fmuls") (register upper d) (register upper r) ∷
    with_two (codes "fmulsu") (register upper d) (register upper r) ∷
    with_two (codes "cpc") (register any d) (register any r) ∷
    with_two (codes "sbc") (register any d) (register any r) ∷
    with_two (codes "add") (register any d) (register any r) ∷
    with_two (codes "cpse") (register any d) (register any r) ∷
    with_two (codes "cp") (register any d) (register any r) ∷
    with_two (codes "sub") (register any d) (register any r) ∷
    with_two (codes "adc") (register any d) (register any r) ∷
    with_two (codes "and") (register any d) (register any r) ∷
    with_two (codes "eor") (register any d) (register any r) ∷
    with_two (codes "or") (register any d) (register any r) ∷
    with_two (codes "mov") (register any d) (register any r) ∷
    with_two (codes "cpi") (register upper d) (byte K) ∷
    with_two (codes "sbci") (register upper d) (byte K) ∷
    with_two (codes "subi") (register upper d) (byte K) ∷
    with_two (codes "ori") (register upper d) (byte K) ∷
    with_two (codes "andi") (register upper d) (byte K) ∷
    with_two (codes "ldd") (register any d) (displacement (codes "Z") q) ∷
    with_two (codes "ldd") (register any d) (displacement (codes "Y") q) ∷
    with_two (codes "std") (displacement (codes "Z") q) (register any r) ∷
    with_two (codes "std") (displacement (codes "Y") q) (register any r) ∷
    with_two (codes "lds") (register any d) address ∷
    with_two (codes "ld") (register any d) (exact (codes "Z+")) ∷
    with_two (codes "ld") (register any d) (exact (codes "-Z")) ∷
    with_two (codes "lpm") (register any d) (exact (codes "Z")) ∷
    with_two (codes "lpm") (register any d) (exact (codes "Z+")) ∷
    with_two (codes "ld") (register any d) (exact (codes "Y+")) ∷
    with_two (codes "ld") (register any d) (exact (codes "-Y")) ∷
    with_two (codes "ld") (register any d) (exact (codes "X")) ∷
    with_two (codes "ld") (register any d) (exact (codes "X+")) ∷
    with_two (codes "ld") (register any d) (exact (codes "-X")) ∷
    with_one (codes "pop") (register any d) ∷
    with_two (codes "sts") address (register any r) ∷
    with_two (codes "st") (exact (codes "Z+")) (register any r) ∷
    with_two (codes "st") (exact (codes "-Z")) (register any r) ∷
    with_two (codes "st") (exact (codes "Y+")) (register any r) ∷
    with_two (codes "st") (exact (codes "-Y")) (register any r) ∷
    with_two (codes "st") (exact (codes "X")) (register any r) ∷
    with_two (codes "st") (exact (codes "X+")) (register any r) ∷
    with_two (codes "st") (exact (codes "-X")) (register any r) ∷
    with_one (codes "push") (register any r) ∷
    with_one (codes "com") (register any d) ∷
    with_one (codes "neg") (register any d) ∷
    with_one (codes "swap") (register any d) ∷
    with_one (codes "inc") (register any d) ∷
    with_one (codes "asr") (register any d) ∷
    with_one (codes "lsr") (register any d) ∷
    with_one (codes "ror") (register any d) ∷
    with_one (codes "dec") (register any d) ∷
    with_one (codes "bset") (bit s) ∷
    with_one (codes "bclr") (bit s) ∷
    alone (codes "ijmp") ∷
    alone (codes "icall") ∷
    alone (codes "ret") ∷
    alone (codes "reti") ∷
    alone (codes "sleep") ∷
    alone (codes "break") ∷
    alone (codes "wdr") ∷
    alone (codes "lpm") ∷
    alone (codes "spm") ∷
    with_one (codes "jmp") (target k) ∷
    with_one (codes "call") (target k) ∷
    with_two (codes "adiw") (register double d) (byte K) ∷
    with_two (codes "sbiw") (register double d) (byte K) ∷
    with_two (codes "cbi") (byte A) (bit b) ∷
    with_two (codes "sbic") (byte A) (bit b) ∷
    with_two (codes "sbi") (byte A) (bit b) ∷
    with_two (codes "sbis") (byte A) (bit b) ∷
    with_two (codes "mul") (register any d) (register any r) ∷
    with_two (codes "in") (register any d) (byte A) ∷
    with_two (codes "out") (byte A) (register any r) ∷
    with_one (codes "rjmp") (distance 4096 k) ∷
    with_one (codes "rcall") (distance 4096 k) ∷
    with_two (codes "ldi") (register upper d) (byte K) ∷
    with_two (codes "brbs") (bit s) (distance 128 k) ∷
    with_two (codes "brbc") (bit s) (distance 128 k) ∷
    with_two (codes "bld") (register any d) (bit b) ∷
    with_two (codes "bst") (register any d) (bit b) ∷
    with_two (codes "sbrc") (register any r) (bit b) ∷
    with_two (codes "sbrs") (register any r) (bit b) ∷
    []

-- an operand as it is printed, by the fields and the second word
abbrev pub printed : Chip → (fields : ℕ → ℕ) → (second : ℕ) → Operand → List ℕ
printed part fields second (register named letter) = reg_text (named (fields letter))
printed part fields second (byte letter) = hex_byte (fields letter)
printed part fields second (bit letter) = decimal (fields letter)
printed part fields second (exact shown) = shown
printed part fields second (displacement pointer letter) = displaced_text pointer (fields letter)
printed part fields second (distance values letter) = distance_text values (fields letter)
printed part fields second address = hex_word second
printed part fields second (target letter) = target_text part (fields letter * 65536 + second)

-- a mnemonic with operands: none, one or two, and no form has more
abbrev pub joined : List ℕ → List (List ℕ) → List ℕ
joined name [] = name
joined name (operand ∷ []) = one name operand
joined name (left ∷ right ∷ more) = two name left right

-- a form as it is printed
abbrev pub form_text : Chip → (fields : ℕ → ℕ) → (second : ℕ) → Form → List ℕ
form_text part fields second form = joined form.name (map (printed part fields second) form.operands)
