-- The I/O space: 64 bytes, the count of cycles, and the output writes made so far.
-- Source: ATmega16 datasheet, "Register Summary". That a PINx shows PORTx and that UCSRA and EECR show "ready" is this target's
-- own model: it has no pins, no line and no EEPROM.
use Rattle.std.specs.Prelude.{ℕ, ◌-◌, ◌+◌, Bool, ◌||◌, ◌==◌, if◌then◌else◌, List, ◌∷◌, slice_index, slice_set, bit_and}
use Rattle.avr_spec.specs.declared.target.OutWrite.{OutWrite}

-- the state of the I/O space; the newest output write stands first
pub record IoState : Type 0 where
  pub bytes : List ℕ
  pub cycles : ℕ
  pub outputs : List OutWrite

-- the I/O addresses that have a meaning of their own
abbrev pub sreg : ℕ
sreg = 0x3f

abbrev pub sph : ℕ
sph = 0x3e

abbrev pub spl : ℕ
spl = 0x3d

abbrev pub ocr0 : ℕ
ocr0 = 0x3c

abbrev pub timsk : ℕ
timsk = 0x39

abbrev pub tifr : ℕ
tifr = 0x38

abbrev pub tccr0 : ℕ
tccr0 = 0x33

abbrev pub tcnt0 : ℕ
tcnt0 = 0x32

abbrev pub tccr2 : ℕ
tccr2 = 0x25

abbrev pub tcnt2 : ℕ
tcnt2 = 0x24

abbrev pub ocr2 : ℕ
ocr2 = 0x23

abbrev pub eecr : ℕ
eecr = 0x1c

abbrev pub udr : ℕ
udr = 0x0c

abbrev pub ucsra : ℕ
ucsra = 0x0b

-- PINA, PINB, PINC or PIND; DDRx and PORTx stand one and two addresses above PINx
abbrev pub is_pin : ℕ → Bool
is_pin a = (a == 0x19) || (a == 0x16) || (a == 0x13) || (a == 0x10)

-- DDRx of a port
abbrev pub is_direction : ℕ → Bool
is_direction a = (a == 0x1a) || (a == 0x17) || (a == 0x14) || (a == 0x11)

-- PORTx of a port
abbrev pub is_port : ℕ → Bool
is_port a = (a == 0x1b) || (a == 0x18) || (a == 0x15) || (a == 0x12)

-- a store here is an output write
abbrev pub is_output : ℕ → Bool
is_output a = is_port a || is_direction a || (a == udr)

-- a store here does nothing
abbrev pub is_read_only : ℕ → Bool
is_read_only a = is_pin a || (a == ucsra) || (a == eecr)

-- the four flags of TIFR: timer 2 compare and overflow, timer 0 compare and overflow
abbrev pub tifr_flags : ℕ
tifr_flags = 0xc3

-- the byte kept at an I/O address
abbrev pub kept_byte : IoState → ℕ → ℕ
kept_byte io a = slice_index io.bytes a

-- the byte that a load of an I/O address gives
abbrev pub load_io : ℕ → IoState → ℕ
load_io a io =
    if is_pin a then kept_byte io (a + 2) else
    if a == ucsra then 0x20 else
    if a == eecr then 0 else
    if a == tifr then bit_and (kept_byte io tifr) tifr_flags else
    kept_byte io a

-- the byte that a store leaves at an I/O address: a store to TIFR clears the flags whose bit is 1
abbrev pub stored_byte : ℕ → ℕ → IoState → ℕ
stored_byte a byte io =
    if is_read_only a then kept_byte io a else
    if a == tifr then bit_and (kept_byte io tifr) (255 - byte) else
    byte

-- the I/O space after a store of a byte at an I/O address
abbrev pub store_io : ℕ → ℕ → IoState → IoState
store_io a byte io = record io {
  bytes = slice_set io.bytes a (stored_byte a byte io);
  outputs = if is_output a then record { cycle = io.cycles; a = a; byte = byte } ∷ io.outputs else io.outputs;
}
