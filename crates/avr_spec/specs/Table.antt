-- The instruction table: a row for each form of an instruction, in the letters of the AVR Instruction Set Manual.
--
-- A 0 or a 1 is a fixed bit of the first word, and any other letter is a field: d and r are registers, K an immediate value,
-- A an I/O address, b and s the number of a bit, q a displacement, k a distance or an address. A blank only groups letters.
use Rattle.std.specs.Prelude.{ℕ, ◌+◌, ◌*◌, List, [], ◌∷◌, codes}
use Rattle.avr_spec.specs.declared.instruction.Instr.{Instr}
use Rattle.avr_spec.specs.declared.instruction.Instr.TheVariants.{Nop, Movw, Muls, Mulsu, Fmul, Fmuls, Fmulsu, Cpc, Sbc, Add, Cpse, Cp, Sub}
use Rattle.avr_spec.specs.declared.instruction.Instr.TheVariants.{Adc, And, Eor, Or, Mov, Cpi, Sbci, Subi, Ori, Andi, Ldi, LddY, LddZ, StdY}
use Rattle.avr_spec.specs.declared.instruction.Instr.TheVariants.{StdZ, Lds, LdZInc, LdZDec, LpmZ, LpmZInc, LdYInc, LdYDec, LdX, LdXInc}
use Rattle.avr_spec.specs.declared.instruction.Instr.TheVariants.{LdXDec, Pop, Sts, StZInc, StZDec, StYInc, StYDec, StX, StXInc, StXDec}
use Rattle.avr_spec.specs.declared.instruction.Instr.TheVariants.{Push, Com, Neg, Swap, Inc, Asr, Lsr, Ror, Dec, Bset, Bclr, Ijmp, Icall}
use Rattle.avr_spec.specs.declared.instruction.Instr.TheVariants.{Ret, Reti, Sleep, Wdr, Break, LpmR0, Spm, Jmp, Call, Adiw, Sbiw, Cbi}
use Rattle.avr_spec.specs.declared.instruction.Instr.TheVariants.{Sbic, Sbi, Sbis, Mul, In, Out, Rjmp, Rcall, Brbs, Brbc, Bld, Bst, Sbrc}
use Rattle.avr_spec.specs.declared.instruction.Instr.TheVariants.{Sbrs}

-- the letters of a row's first word, and the instruction that the fields (by their letters) and the second word make
pub record Row : Type 0 where
  pub letters : List ℕ
  pub instr : (ℕ → ℕ) → ℕ → Instr

-- a row
abbrev pub row : List ℕ → ((ℕ → ℕ) → ℕ → Instr) → Row
row text made = record { letters = text; instr = made }

-- the letters of fields
abbrev d : ℕ
d = 100

abbrev r : ℕ
r = 114

abbrev K : ℕ
K = 75

abbrev A : ℕ
A = 65

abbrev b : ℕ
b = 98

abbrev s : ℕ
s = 115

abbrev q : ℕ
q = 113

abbrev k : ℕ
k = 107

-- all rows, about in the order of their words
abbrev pub table : List Row
table =
    row (codes "0000 0000 0000 0000") (λ field second. Nop) ∷
    row (codes "0000 0001 dddd rrrr") (λ field second. Movw (field d) (field r)) ∷
    row (codes "0000 0010 dddd rrrr") (λ field second. Muls (field d) (field r)) ∷
    row (codes "0000 0011 0ddd 0rrr") (λ field second. Mulsu (field d) (field r)) ∷
    row (codes "0000 0011 0ddd 1rrr") (λ field second. Fmul (field d) (field r)) ∷
    row (codes "0000 0011 1ddd 0rrr") (λ field second. Fmuls (field d) (field r)) ∷
    row (codes "0000 0011 1ddd 1rrr") (λ field second. Fmulsu (field d) (field r)) ∷
    row (codes "0000 01rd dddd rrrr") (λ field second. Cpc (field d) (field r)) ∷
    row (codes "0000 10rd dddd rrrr") (λ field second. Sbc (field d) (field r)) ∷
    row (codes "0000 11rd dddd rrrr") (λ field second. Add (field d) (field r)) ∷
    row (codes "0001 00rd dddd rrrr") (λ field second. Cpse (field d) (field r)) ∷
    row (codes "0001 01rd dddd rrrr") (λ field second. Cp (field d) (field r)) ∷
    row (codes "0001 10rd dddd rrrr") (λ field second. Sub (field d) (field r)) ∷
    row (codes "0001 11rd dddd rrrr") (λ field second. Adc (field d) (field r)) ∷
    row (codes "0010 00rd dddd rrrr") (λ field second. And (field d) (field r)) ∷
    row (codes "0010 01rd dddd rrrr") (λ field second. Eor (field d) (field r)) ∷
    row (codes "0010 10rd dddd rrrr") (λ field second. Or (field d) (field r)) ∷
    row (codes "0010 11rd dddd rrrr") (λ field second. Mov (field d) (field r)) ∷
    row (codes "0011 KKKK dddd KKKK") (λ field second. Cpi (field d) (field K)) ∷
    row (codes "0100 KKKK dddd KKKK") (λ field second. Sbci (field d) (field K)) ∷
    row (codes "0101 KKKK dddd KKKK") (λ field second. Subi (field d) (field K)) ∷
    row (codes "0110 KKKK dddd KKKK") (λ field second. Ori (field d) (field K)) ∷
    row (codes "0111 KKKK dddd KKKK") (λ field second. Andi (field d) (field K)) ∷
    row (codes "10q0 qq0d dddd 0qqq") (λ field second. LddZ (field d) (field q)) ∷
    row (codes "10q0 qq0d dddd 1qqq") (λ field second. LddY (field d) (field q)) ∷
    row (codes "10q0 qq1r rrrr 0qqq") (λ field second. StdZ (field r) (field q)) ∷
    row (codes "10q0 qq1r rrrr 1qqq") (λ field second. StdY (field r) (field q)) ∷
    row (codes "1001 000d dddd 0000") (λ field second. Lds (field d) second) ∷
    row (codes "1001 000d dddd 0001") (λ field second. LdZInc (field d)) ∷
    row (codes "1001 000d dddd 0010") (λ field second. LdZDec (field d)) ∷
    row (codes "1001 000d dddd 0100") (λ field second. LpmZ (field d)) ∷
    row (codes "1001 000d dddd 0101") (λ field second. LpmZInc (field d)) ∷
    row (codes "1001 000d dddd 1001") (λ field second. LdYInc (field d)) ∷
    row (codes "1001 000d dddd 1010") (λ field second. LdYDec (field d)) ∷
    row (codes "1001 000d dddd 1100") (λ field second. LdX (field d)) ∷
    row (codes "1001 000d dddd 1101") (λ field second. LdXInc (field d)) ∷
    row (codes "1001 000d dddd 1110") (λ field second. LdXDec (field d)) ∷
    row (codes "1001 000d dddd 1111") (λ field second. Pop (field d)) ∷
    row (codes "1001 001r rrrr 0000") (λ field second. Sts (field r) second) ∷
    row (codes "1001 001r rrrr 0001") (λ field second. StZInc (field r)) ∷
    row (codes "1001 001r rrrr 0010") (λ field second. StZDec (field r)) ∷
    row (codes "1001 001r rrrr 1001") (λ field second. StYInc (field r)) ∷
    row (codes "1001 001r rrrr 1010") (λ field second. StYDec (field r)) ∷
    row (codes "1001 001r rrrr 1100") (λ field second. StX (field r)) ∷
    row (codes "1001 001r rrrr 1101") (λ field second. StXInc (field r)) ∷
    row (codes "1001 001r rrrr 1110") (λ field second. StXDec (field r)) ∷
    row (codes "1001 001r rrrr 1111") (λ field second. Push (field r)) ∷
    row (codes "1001 010d dddd 0000") (λ field second. Com (field d)) ∷
    row (codes "1001 010d dddd 0001") (λ field second. Neg (field d)) ∷
    row (codes "1001 010d dddd 0010") (λ field second. Swap (field d)) ∷
    row (codes "1001 010d dddd 0011") (λ field second. Inc (field d)) ∷
    row (codes "1001 010d dddd 0101") (λ field second. Asr (field d)) ∷
    row (codes "1001 010d dddd 0110") (λ field second. Lsr (field d)) ∷
    row (codes "1001 010d dddd 0111") (λ field second. Ror (field d)) ∷
    row (codes "1001 010d dddd 1010") (λ field second. Dec (field d)) ∷
    row (codes "1001 0100 0sss 1000") (λ field second. Bset (field s)) ∷
    row (codes "1001 0100 1sss 1000") (λ field second. Bclr (field s)) ∷
    row (codes "1001 0100 0000 1001") (λ field second. Ijmp) ∷
    row (codes "1001 0101 0000 1001") (λ field second. Icall) ∷
    row (codes "1001 0101 0000 1000") (λ field second. Ret) ∷
    row (codes "1001 0101 0001 1000") (λ field second. Reti) ∷
    row (codes "1001 0101 1000 1000") (λ field second. Sleep) ∷
    row (codes "1001 0101 1001 1000") (λ field second. Break) ∷
    row (codes "1001 0101 1010 1000") (λ field second. Wdr) ∷
    row (codes "1001 0101 1100 1000") (λ field second. LpmR0) ∷
    row (codes "1001 0101 1110 1000") (λ field second. Spm) ∷
    row (codes "1001 010k kkkk 110k") (λ field second. Jmp (field k * 65536 + second)) ∷
    row (codes "1001 010k kkkk 111k") (λ field second. Call (field k * 65536 + second)) ∷
    row (codes "1001 0110 KKdd KKKK") (λ field second. Adiw (field d) (field K)) ∷
    row (codes "1001 0111 KKdd KKKK") (λ field second. Sbiw (field d) (field K)) ∷
    row (codes "1001 1000 AAAA Abbb") (λ field second. Cbi (field A) (field b)) ∷
    row (codes "1001 1001 AAAA Abbb") (λ field second. Sbic (field A) (field b)) ∷
    row (codes "1001 1010 AAAA Abbb") (λ field second. Sbi (field A) (field b)) ∷
    row (codes "1001 1011 AAAA Abbb") (λ field second. Sbis (field A) (field b)) ∷
    row (codes "1001 11rd dddd rrrr") (λ field second. Mul (field d) (field r)) ∷
    row (codes "1011 0AAd dddd AAAA") (λ field second. In (field d) (field A)) ∷
    row (codes "1011 1AAr rrrr AAAA") (λ field second. Out (field r) (field A)) ∷
    row (codes "1100 kkkk kkkk kkkk") (λ field second. Rjmp (field k)) ∷
    row (codes "1101 kkkk kkkk kkkk") (λ field second. Rcall (field k)) ∷
    row (codes "1110 KKKK dddd KKKK") (λ field second. Ldi (field d) (field K)) ∷
    row (codes "1111 00kk kkkk ksss") (λ field second. Brbs (field s) (field k)) ∷
    row (codes "1111 01kk kkkk ksss") (λ field second. Brbc (field s) (field k)) ∷
    row (codes "1111 100d dddd 0bbb") (λ field second. Bld (field d) (field b)) ∷
    row (codes "1111 101d dddd 0bbb") (λ field second. Bst (field d) (field b)) ∷
    row (codes "1111 110r rrrr 0bbb") (λ field second. Sbrc (field r) (field b)) ∷
    row (codes "1111 111r rrrr 0bbb") (λ field second. Sbrs (field r) (field b)) ∷
    []
