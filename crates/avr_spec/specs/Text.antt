-- The text of an instruction: the mnemonic of the AVR Instruction Set Manual, and the operands, destination first.
use Rattle.std.specs.Prelude.{ℕ, ◌+◌, ◌-◌, ◌*◌, ◌/◌, ◌%◌, nat_lt, if◌then◌else◌, List, [], ◌∷◌, ◌++◌, codes, decimal}
use Rattle.part_spec.specs.Chip.{Chip, words_of}
use Rattle.avr_spec.specs.declared.instruction.Instr.{Instr}
use Rattle.avr_spec.specs.declared.instruction.Instr.TheVariants.{Nop, Movw, Muls, Mulsu, Fmul, Fmuls, Fmulsu, Cpc, Sbc, Add, Cpse, Cp, Sub}
use Rattle.avr_spec.specs.declared.instruction.Instr.TheVariants.{Adc, And, Eor, Or, Mov, Cpi, Sbci, Subi, Ori, Andi, Ldi, LddY, LddZ, StdY}
use Rattle.avr_spec.specs.declared.instruction.Instr.TheVariants.{StdZ, Lds, LdZInc, LdZDec, LpmZ, LpmZInc, LdYInc, LdYDec, LdX, LdXInc}
use Rattle.avr_spec.specs.declared.instruction.Instr.TheVariants.{LdXDec, Pop, Sts, StZInc, StZDec, StYInc, StYDec, StX, StXInc, StXDec}
use Rattle.avr_spec.specs.declared.instruction.Instr.TheVariants.{Push, Com, Neg, Swap, Inc, Asr, Lsr, Ror, Dec, Bset, Bclr, Ijmp, Icall}
use Rattle.avr_spec.specs.declared.instruction.Instr.TheVariants.{Ret, Reti, Sleep, Wdr, Break, LpmR0, Spm, Jmp, Call, Adiw, Sbiw, Cbi}
use Rattle.avr_spec.specs.declared.instruction.Instr.TheVariants.{Sbic, Sbi, Sbis, Mul, In, Out, Rjmp, Rcall, Brbs, Brbc, Bld, Bst, Sbrc}
use Rattle.avr_spec.specs.declared.instruction.Instr.TheVariants.{Sbrs, Undefined}

-- a hexadecimal digit in lower case
abbrev pub hex_digit : ℕ → ℕ
hex_digit n = if nat_lt n 10 then 48 + n else 87 + n

-- `0x` and two hexadecimal digits
abbrev pub hex_byte : ℕ → List ℕ
hex_byte n = codes "0x" ++ (hex_digit (n / 16 % 16) ∷ hex_digit (n % 16) ∷ [])

-- `0x` and four hexadecimal digits
abbrev pub hex_word : ℕ → List ℕ
hex_word n = hex_byte (n / 256) ++ (hex_digit (n / 16 % 16) ∷ hex_digit (n % 16) ∷ [])

-- a register, as `r16`
abbrev pub reg_text : ℕ → List ℕ
reg_text n = codes "r" ++ decimal n

-- a pointer register with a displacement, as `Y+5`
abbrev pub displaced : List ℕ → ℕ → List ℕ
displaced pointer q = pointer ++ codes "+" ++ decimal q

-- a two's complement distance of so many values, in words from the next instruction: `.+N` or `.-N`
abbrev pub distance : ℕ → ℕ → List ℕ
distance values k = if nat_lt k (values / 2) then codes ".+" ++ decimal k else codes ".-" ++ decimal (values - k)

-- the address of a jump or a call, within the part's flash
abbrev pub target : Chip → ℕ → List ℕ
target part k = hex_word (k % words_of part)

-- a mnemonic with one operand
abbrev pub one : List ℕ → List ℕ → List ℕ
one name operand = name ++ codes " " ++ operand

-- a mnemonic with two operands, the destination first
abbrev pub two : List ℕ → List ℕ → List ℕ → List ℕ
two name left right = one name (left ++ codes ", " ++ right)

-- the text of an instruction
unfoldable pub text : Chip → Instr → List ℕ
text part Nop = codes "nop"
text part (Movw d r) = two (codes "movw") (reg_text (2 * d)) (reg_text (2 * r))
text part (Muls d r) = two (codes "muls") (reg_text (16 + d)) (reg_text (16 + r))
text part (Mulsu d r) = two (codes "mulsu") (reg_text (16 + d)) (reg_text (16 + r))
text part (Fmul d r) = two (codes "fmul") (reg_text (16 + d)) (reg_text (16 + r))
text part (Fmuls d r) = two (codes "fmuls") (reg_text (16 + d)) (reg_text (16 + r))
text part (Fmulsu d r) = two (codes "fmulsu") (reg_text (16 + d)) (reg_text (16 + r))
text part (Cpc d r) = two (codes "cpc") (reg_text d) (reg_text r)
text part (Sbc d r) = two (codes "sbc") (reg_text d) (reg_text r)
text part (Add d r) = two (codes "add") (reg_text d) (reg_text r)
text part (Cpse d r) = two (codes "cpse") (reg_text d) (reg_text r)
text part (Cp d r) = two (codes "cp") (reg_text d) (reg_text r)
text part (Sub d r) = two (codes "sub") (reg_text d) (reg_text r)
text part (Adc d r) = two (codes "adc") (reg_text d) (reg_text r)
text part (And d r) = two (codes "and") (reg_text d) (reg_text r)
text part (Eor d r) = two (codes "eor") (reg_text d) (reg_text r)
text part (Or d r) = two (codes "or") (reg_text d) (reg_text r)
text part (Mov d r) = two (codes "mov") (reg_text d) (reg_text r)
text part (Cpi d k) = two (codes "cpi") (reg_text (16 + d)) (hex_byte k)
text part (Sbci d k) = two (codes "sbci") (reg_text (16 + d)) (hex_byte k)
text part (Subi d k) = two (codes "subi") (reg_text (16 + d)) (hex_byte k)
text part (Ori d k) = two (codes "ori") (reg_text (16 + d)) (hex_byte k)
text part (Andi d k) = two (codes "andi") (reg_text (16 + d)) (hex_byte k)
text part (Ldi d k) = two (codes "ldi") (reg_text (16 + d)) (hex_byte k)
text part (LddY d q) = two (codes "ldd") (reg_text d) (displaced (codes "Y") q)
text part (LddZ d q) = two (codes "ldd") (reg_text d) (displaced (codes "Z") q)
text part (StdY r q) = two (codes "std") (displaced (codes "Y") q) (reg_text r)
text part (StdZ r q) = two (codes "std") (displaced (codes "Z") q) (reg_text r)
text part (Lds d address) = two (codes "lds") (reg_text d) (hex_word address)
text part (LdZInc d) = two (codes "ld") (reg_text d) (codes "Z+")
text part (LdZDec d) = two (codes "ld") (reg_text d) (codes "-Z")
text part (LpmZ d) = two (codes "lpm") (reg_text d) (codes "Z")
text part (LpmZInc d) = two (codes "lpm") (reg_text d) (codes "Z+")
text part (LdYInc d) = two (codes "ld") (reg_text d) (codes "Y+")
text part (LdYDec d) = two (codes "ld") (reg_text d) (codes "-Y")
text part (LdX d) = two (codes "ld") (reg_text d) (codes "X")
text part (LdXInc d) = two (codes "ld") (reg_text d) (codes "X+")
text part (LdXDec d) = two (codes "ld") (reg_text d) (codes "-X")
text part (Pop d) = one (codes "pop") (reg_text d)
text part (Sts r address) = two (codes "sts") (hex_word address) (reg_text r)
text part (StZInc r) = two (codes "st") (codes "Z+") (reg_text r)
text part (StZDec r) = two (codes "st") (codes "-Z") (reg_text r)
text part (StYInc r) = two (codes "st") (codes "Y+") (reg_text r)
text part (StYDec r) = two (codes "st") (codes "-Y") (reg_text r)
text part (StX r) = two (codes "st") (codes "X") (reg_text r)
text part (StXInc r) = two (codes "st") (codes "X+") (reg_text r)
text part (StXDec r) = two (codes "st") (codes "-X") (reg_text r)
text part (Push r) = one (codes "push") (reg_text r)
text part (Com d) = one (codes "com") (reg_text d)
text part (Neg d) = one (codes "neg") (reg_text d)
text part (Swap d) = one (codes "swap") (reg_text d)
text part (Inc d) = one (codes "inc") (reg_text d)
text part (Asr d) = one (codes "asr") (reg_text d)
text part (Lsr d) = one (codes "lsr") (reg_text d)
text part (Ror d) = one (codes "ror") (reg_text d)
text part (Dec d) = one (codes "dec") (reg_text d)
text part (Bset s) = one (codes "bset") (decimal s)
text part (Bclr s) = one (codes "bclr") (decimal s)
text part Ijmp = codes "ijmp"
text part Icall = codes "icall"
text part Ret = codes "ret"
text part Reti = codes "reti"
text part Sleep = codes "sleep"
text part Wdr = codes "wdr"
text part Break = codes "break"
text part LpmR0 = codes "lpm"
text part Spm = codes "spm"
text part (Jmp k) = one (codes "jmp") (target part k)
text part (Call k) = one (codes "call") (target part k)
text part (Adiw d k) = two (codes "adiw") (reg_text (24 + 2 * d)) (hex_byte k)
text part (Sbiw d k) = two (codes "sbiw") (reg_text (24 + 2 * d)) (hex_byte k)
text part (Cbi a b) = two (codes "cbi") (hex_byte a) (decimal b)
text part (Sbic a b) = two (codes "sbic") (hex_byte a) (decimal b)
text part (Sbi a b) = two (codes "sbi") (hex_byte a) (decimal b)
text part (Sbis a b) = two (codes "sbis") (hex_byte a) (decimal b)
text part (Mul d r) = two (codes "mul") (reg_text d) (reg_text r)
text part (In d a) = two (codes "in") (reg_text d) (hex_byte a)
text part (Out r a) = two (codes "out") (hex_byte a) (reg_text r)
text part (Rjmp k) = one (codes "rjmp") (distance 4096 k)
text part (Rcall k) = one (codes "rcall") (distance 4096 k)
text part (Brbs s k) = two (codes "brbs") (decimal s) (distance 128 k)
text part (Brbc s k) = two (codes "brbc") (decimal s) (distance 128 k)
text part (Bld d b) = two (codes "bld") (reg_text d) (decimal b)
text part (Bst d b) = two (codes "bst") (reg_text d) (decimal b)
text part (Sbrc r b) = two (codes "sbrc") (reg_text r) (decimal b)
text part (Sbrs r b) = two (codes "sbrs") (reg_text r) (decimal b)
text part (Undefined w) = codes ".word " ++ hex_word w
