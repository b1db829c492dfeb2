-- The range of each instruction's fields: those that the bits of its row make. Each decoded instruction is proved to keep it.
use Rattle.std.specs.Prelude.{◌<◌, ◌^◌, ⊤}
use Rattle.avr_spec.specs.declared.instruction.Instr.{Instr}
use Rattle.avr_spec.specs.declared.instruction.Instr.TheVariants.{Nop, Movw, Muls, Mulsu, Fmul, Fmuls, Fmulsu, Cpc, Sbc, Add, Cpse, Cp, Sub}
use Rattle.avr_spec.specs.declared.instruction.Instr.TheVariants.{Adc, And, Eor, Or, Mov, Cpi, Sbci, Subi, Ori, Andi, Ldi, LddY, LddZ, StdY}
use Rattle.avr_spec.specs.declared.instruction.Instr.TheVariants.{StdZ, Lds, LdZInc, LdZDec, LpmZ, LpmZInc, LdYInc, LdYDec, LdX, LdXInc}
use Rattle.avr_spec.specs.declared.instruction.Instr.TheVariants.{LdXDec, Pop, Sts, StZInc, StZDec, StYInc, StYDec, StX, StXInc, StXDec}
use Rattle.avr_spec.specs.declared.instruction.Instr.TheVariants.{Push, Com, Neg, Swap, Inc, Asr, Lsr, Ror, Dec, Bset, Bclr, Ijmp, Icall}
use Rattle.avr_spec.specs.declared.instruction.Instr.TheVariants.{Ret, Reti, Sleep, Wdr, Break, LpmR0, Spm, Jmp, Call, Adiw, Sbiw, Cbi}
use Rattle.avr_spec.specs.declared.instruction.Instr.TheVariants.{Sbic, Sbi, Sbis, Mul, In, Out, Rjmp, Rcall, Brbs, Brbc, Bld, Bst, Sbrc}
use Rattle.avr_spec.specs.declared.instruction.Instr.TheVariants.{Sbrs, Undefined}

-- each field fits the bits that the instruction's row has for it
abbrev pub FieldsFit : Instr → Type 0
FieldsFit Nop = ⊤
FieldsFit (Movw d r) = (d < 16) × (r < 16)
FieldsFit (Muls d r) = (d < 16) × (r < 16)
FieldsFit (Mulsu d r) = (d < 8) × (r < 8)
FieldsFit (Fmul d r) = (d < 8) × (r < 8)
FieldsFit (Fmuls d r) = (d < 8) × (r < 8)
FieldsFit (Fmulsu d r) = (d < 8) × (r < 8)
FieldsFit (Cpc d r) = (d < 32) × (r < 32)
FieldsFit (Sbc d r) = (d < 32) × (r < 32)
FieldsFit (Add d r) = (d < 32) × (r < 32)
FieldsFit (Cpse d r) = (d < 32) × (r < 32)
FieldsFit (Cp d r) = (d < 32) × (r < 32)
FieldsFit (Sub d r) = (d < 32) × (r < 32)
FieldsFit (Adc d r) = (d < 32) × (r < 32)
FieldsFit (And d r) = (d < 32) × (r < 32)
FieldsFit (Eor d r) = (d < 32) × (r < 32)
FieldsFit (Or d r) = (d < 32) × (r < 32)
FieldsFit (Mov d r) = (d < 32) × (r < 32)
FieldsFit (Cpi d k) = (d < 16) × (k < 256)
FieldsFit (Sbci d k) = (d < 16) × (k < 256)
FieldsFit (Subi d k) = (d < 16) × (k < 256)
FieldsFit (Ori d k) = (d < 16) × (k < 256)
FieldsFit (Andi d k) = (d < 16) × (k < 256)
FieldsFit (LddZ d q) = (d < 32) × (q < 64)
FieldsFit (LddY d q) = (d < 32) × (q < 64)
FieldsFit (StdZ r q) = (r < 32) × (q < 64)
FieldsFit (StdY r q) = (r < 32) × (q < 64)
FieldsFit (Lds d address) = (d < 32) × (address < 65536)
FieldsFit (LdZInc d) = d < 32
FieldsFit (LdZDec d) = d < 32
FieldsFit (LpmZ d) = d < 32
FieldsFit (LpmZInc d) = d < 32
FieldsFit (LdYInc d) = d < 32
FieldsFit (LdYDec d) = d < 32
FieldsFit (LdX d) = d < 32
FieldsFit (LdXInc d) = d < 32
FieldsFit (LdXDec d) = d < 32
FieldsFit (Pop d) = d < 32
FieldsFit (Sts r address) = (r < 32) × (address < 65536)
FieldsFit (StZInc r) = r < 32
FieldsFit (StZDec r) = r < 32
FieldsFit (StYInc r) = r < 32
FieldsFit (StYDec r) = r < 32
FieldsFit (StX r) = r < 32
FieldsFit (StXInc r) = r < 32
FieldsFit (StXDec r) = r < 32
FieldsFit (Push r) = r < 32
FieldsFit (Com d) = d < 32
FieldsFit (Neg d) = d < 32
FieldsFit (Swap d) = d < 32
FieldsFit (Inc d) = d < 32
FieldsFit (Asr d) = d < 32
FieldsFit (Lsr d) = d < 32
FieldsFit (Ror d) = d < 32
FieldsFit (Dec d) = d < 32
FieldsFit (Bset s) = s < 8
FieldsFit (Bclr s) = s < 8
FieldsFit Ijmp = ⊤
FieldsFit Icall = ⊤
FieldsFit Ret = ⊤
FieldsFit Reti = ⊤
FieldsFit Sleep = ⊤
FieldsFit Break = ⊤
FieldsFit Wdr = ⊤
FieldsFit LpmR0 = ⊤
FieldsFit Spm = ⊤
FieldsFit (Jmp k) = k < 2 ^ 22
FieldsFit (Call k) = k < 2 ^ 22
FieldsFit (Adiw d k) = (d < 4) × (k < 64)
FieldsFit (Sbiw d k) = (d < 4) × (k < 64)
FieldsFit (Cbi a b) = (a < 32) × (b < 8)
FieldsFit (Sbic a b) = (a < 32) × (b < 8)
FieldsFit (Sbi a b) = (a < 32) × (b < 8)
FieldsFit (Sbis a b) = (a < 32) × (b < 8)
FieldsFit (Mul d r) = (d < 32) × (r < 32)
FieldsFit (In d a) = (d < 32) × (a < 64)
FieldsFit (Out r a) = (r < 32) × (a < 64)
FieldsFit (Rjmp k) = k < 4096
FieldsFit (Rcall k) = k < 4096
FieldsFit (Ldi d k) = (d < 16) × (k < 256)
FieldsFit (Brbs s k) = (s < 8) × (k < 128)
FieldsFit (Brbc s k) = (s < 8) × (k < 128)
FieldsFit (Bld d b) = (d < 32) × (b < 8)
FieldsFit (Bst d b) = (d < 32) × (b < 8)
FieldsFit (Sbrc r b) = (r < 32) × (b < 8)
FieldsFit (Sbrs r b) = (r < 32) × (b < 8)
FieldsFit (Undefined w) = w < 65536
