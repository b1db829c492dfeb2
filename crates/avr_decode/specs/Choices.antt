-- What each function of `src/` that looks at a part of a first word answers, test by test. These mirror the code; that they
-- agree with the instruction table is proved by computing over all first words.
use Rattle.std.specs.Prelude.{ℕ, ◌+◌, ◌*◌, ◌/◌, ◌%◌, ◌==◌, if◌then◌else◌}
use Rattle.avr_spec.specs.declared.instruction.Instr.{Instr}
use Rattle.avr_spec.specs.declared.instruction.Instr.TheVariants.{Nop, Movw, Muls, Mulsu, Fmul, Fmuls, Fmulsu, Cpc, Sbc, Add, Cpse, Cp, Sub, Adc, And, Eor, Or, Mov, Cpi, Sbci, Subi, Ori, Andi, Ldi, LddY, LddZ, StdY, StdZ, Lds, LdZInc, LdZDec, LpmZ, LpmZInc, LdYInc, LdYDec, LdX, LdXInc, LdXDec, Pop, Sts, StZInc, StZDec, StYInc, StYDec, StX, StXInc, StXDec, Push, Com, Neg, Swap, Inc, Asr, Lsr, Ror, Dec, Bset, Bclr, Ijmp, Icall, Ret, Reti, Sleep, Wdr, Break, LpmR0, Spm, Jmp, Call, Adiw, Sbiw, Cbi, Sbic, Sbi, Sbis, Mul, In, Out, Rjmp, Rcall, Brbs, Brbc, Bld, Bst, Sbrc, Sbrs, Undefined}
use Rattle.avr_decode.specs.FirstWord.{destination, source, upper_nibble, lower_nibble, upper_octal, lower_octal, pair, immediate, word_immediate, displacement, io_address, low_io_address, short_distance, long_distance, far_address}

-- 0000 0011
abbrev pub products : ℕ → Instr
products first =
    let d = upper_octal first in
    let r = lower_octal first in
    let kind = first / 128 % 2 * 2 + first / 8 % 2 in
    if kind == 0 then Mulsu d r else if kind == 1 then Fmul d r else if kind == 2 then Fmuls d r else Fmulsu d r

-- 0000 00
abbrev pub moves_and_products : ℕ → Instr
moves_and_products first =
    let d = upper_nibble first in
    let r = lower_nibble first in
    let kind = first / 256 % 4 in
    if first / 256 == 1 then Movw d r
    else if kind == 0 then (if first % 256 == 0 then Nop else Undefined first)
    else if kind == 2 then Muls d r else products first

-- 10.0
abbrev pub displaced : ℕ → Instr
displaced first =
    let d = destination first in
    let q = displacement first in
    let kind = first / 512 % 2 * 2 + first / 8 % 2 in
    if kind == 0 then LddZ d q else if kind == 1 then LddY d q else if kind == 2 then StdZ d q else StdY d q

-- 1001 000
abbrev pub loads : ℕ → ℕ → Instr
loads first second =
    let d = destination first in
    let kind = first % 16 in
    if kind == 0 then Lds d second
    else if kind == 1 then LdZInc d
    else if kind == 2 then LdZDec d
    else if kind == 4 then LpmZ d
    else if kind == 5 then LpmZInc d
    else if kind == 9 then LdYInc d
    else if kind == 10 then LdYDec d
    else if kind == 12 then LdX d
    else if kind == 13 then LdXInc d
    else if kind == 14 then LdXDec d
    else if kind == 15 then Pop d
    else Undefined first

-- 1001 001
abbrev pub stores : ℕ → ℕ → Instr
stores first second =
    let r = destination first in
    let kind = first % 16 in
    if kind == 0 then Sts r second
    else if kind == 1 then StZInc r
    else if kind == 2 then StZDec r
    else if kind == 9 then StYInc r
    else if kind == 10 then StYDec r
    else if kind == 12 then StX r
    else if kind == 13 then StXInc r
    else if kind == 14 then StXDec r
    else if kind == 15 then Push r
    else Undefined first

-- 1001 0101 .... 1000
abbrev pub returns_and_controls : ℕ → Instr
returns_and_controls first =
    let kind = first / 16 % 16 in
    if kind == 0 then Ret
    else if kind == 1 then Reti
    else if kind == 8 then Sleep
    else if kind == 9 then Break
    else if kind == 10 then Wdr
    else if kind == 12 then LpmR0
    else if kind == 14 then Spm
    else Undefined first

-- 1001 010. .... 1000
abbrev pub flags_and_controls : ℕ → Instr
flags_and_controls first =
    let s = upper_octal first in
    let kind = first / 128 % 4 in
    if kind == 0 then Bset s else if kind == 1 then Bclr s else returns_and_controls first

-- 1001 010. .... 1001
abbrev pub indirect_jumps : ℕ → Instr
indirect_jumps first =
    let kind = first / 16 % 32 in
    if kind == 0 then Ijmp else if kind == 16 then Icall else Undefined first

-- 1001 010
abbrev pub one_register : ℕ → ℕ → Instr
one_register first second =
    let d = destination first in
    let kind = first % 16 in
    if kind == 0 then Com d
    else if kind == 1 then Neg d
    else if kind == 2 then Swap d
    else if kind == 3 then Inc d
    else if kind == 5 then Asr d
    else if kind == 6 then Lsr d
    else if kind == 7 then Ror d
    else if kind == 8 then flags_and_controls first
    else if kind == 9 then indirect_jumps first
    else if kind == 10 then Dec d
    else if kind == 12 then Jmp (far_address first second)
    else if kind == 13 then Jmp (far_address first second)
    else if kind == 14 then Call (far_address first second)
    else if kind == 15 then Call (far_address first second)
    else Undefined first

-- 1001 011
abbrev pub word_sums : ℕ → Instr
word_sums first =
    let d = pair first in
    let k = word_immediate first in
    if first / 256 % 2 == 0 then Adiw d k else Sbiw d k

-- 1001 10
abbrev pub io_bits : ℕ → Instr
io_bits first =
    let a = low_io_address first in
    let b = lower_octal first in
    let kind = first / 256 % 4 in
    if kind == 0 then Cbi a b else if kind == 1 then Sbic a b else if kind == 2 then Sbi a b else Sbis a b

-- 1001 00
abbrev pub loads_and_stores : ℕ → ℕ → Instr
loads_and_stores first second = if first / 512 % 2 == 0 then loads first second else stores first second

-- 1001 01
abbrev pub registers_and_words : ℕ → ℕ → Instr
registers_and_words first second = if first / 512 % 2 == 0 then one_register first second else word_sums first

-- 1111 10
abbrev pub transfers : ℕ → Instr
transfers first =
    let d = destination first in
    let b = lower_octal first in
    if first / 8 % 2 == 1 then Undefined first else if first / 512 % 2 == 0 then Bld d b else Bst d b

-- 1111 11
abbrev pub bit_skips : ℕ → Instr
bit_skips first =
    let d = destination first in
    let b = lower_octal first in
    if first / 8 % 2 == 1 then Undefined first else if first / 512 % 2 == 0 then Sbrc d b else Sbrs d b

-- by the first six bits
abbrev pub by_six_bits : ℕ → ℕ → Instr
by_six_bits first second =
    let d = destination first in
    let r = source first in
    let upper = upper_nibble first in
    let byte = immediate first in
    let a = io_address first in
    let six = first / 1024 in
    if six == 0 then moves_and_products first
    else if six == 1 then Cpc d r
    else if six == 2 then Sbc d r
    else if six == 3 then Add d r
    else if six == 4 then Cpse d r
    else if six == 5 then Cp d r
    else if six == 6 then Sub d r
    else if six == 7 then Adc d r
    else if six == 8 then And d r
    else if six == 9 then Eor d r
    else if six == 10 then Or d r
    else if six == 11 then Mov d r
    else if six == 12 then Cpi upper byte
    else if six == 13 then Cpi upper byte
    else if six == 14 then Cpi upper byte
    else if six == 15 then Cpi upper byte
    else if six == 16 then Sbci upper byte
    else if six == 17 then Sbci upper byte
    else if six == 18 then Sbci upper byte
    else if six == 19 then Sbci upper byte
    else if six == 20 then Subi upper byte
    else if six == 21 then Subi upper byte
    else if six == 22 then Subi upper byte
    else if six == 23 then Subi upper byte
    else if six == 24 then Ori upper byte
    else if six == 25 then Ori upper byte
    else if six == 26 then Ori upper byte
    else if six == 27 then Ori upper byte
    else if six == 28 then Andi upper byte
    else if six == 29 then Andi upper byte
    else if six == 30 then Andi upper byte
    else if six == 31 then Andi upper byte
    else if six == 32 then displaced first
    else if six == 33 then displaced first
    else if six == 34 then displaced first
    else if six == 35 then displaced first
    else if six == 36 then loads_and_stores first second
    else if six == 37 then registers_and_words first second
    else if six == 38 then io_bits first
    else if six == 39 then Mul d r
    else if six == 40 then displaced first
    else if six == 41 then displaced first
    else if six == 42 then displaced first
    else if six == 43 then displaced first
    else if six == 44 then In d a
    else if six == 45 then In d a
    else if six == 46 then Out d a
    else if six == 47 then Out d a
    else if six == 48 then Rjmp (long_distance first)
    else if six == 49 then Rjmp (long_distance first)
    else if six == 50 then Rjmp (long_distance first)
    else if six == 51 then Rjmp (long_distance first)
    else if six == 52 then Rcall (long_distance first)
    else if six == 53 then Rcall (long_distance first)
    else if six == 54 then Rcall (long_distance first)
    else if six == 55 then Rcall (long_distance first)
    else if six == 56 then Ldi upper byte
    else if six == 57 then Ldi upper byte
    else if six == 58 then Ldi upper byte
    else if six == 59 then Ldi upper byte
    else if six == 60 then Brbs (lower_octal first) (short_distance first)
    else if six == 61 then Brbc (lower_octal first) (short_distance first)
    else if six == 62 then transfers first
    else bit_skips first
