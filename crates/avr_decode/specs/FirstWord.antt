-- The fields of a first word, by the bits that they take: a dot is a bit of something else.
use Rattle.std.specs.Prelude.{ℕ, ◌+◌, ◌*◌, ◌/◌, ◌%◌}

-- `.... ...d dddd ....`
abbrev pub destination : ℕ → ℕ
destination first = first / 16 % 32

-- `.... ..r. .... rrrr`
abbrev pub source : ℕ → ℕ
source first = first / 512 % 2 * 16 + first % 16

-- `.... .... dddd ....`
abbrev pub upper_nibble : ℕ → ℕ
upper_nibble first = first / 16 % 16

-- `.... .... .... rrrr`
abbrev pub lower_nibble : ℕ → ℕ
lower_nibble first = first % 16

-- `.... .... .ddd ....`
abbrev pub upper_octal : ℕ → ℕ
upper_octal first = first / 16 % 8

-- `.... .... .... .rrr`
abbrev pub lower_octal : ℕ → ℕ
lower_octal first = first % 8

-- `.... .... ..dd ....`
abbrev pub pair : ℕ → ℕ
pair first = first / 16 % 4

-- `.... KKKK .... KKKK`
abbrev pub immediate : ℕ → ℕ
immediate first = first / 256 % 16 * 16 + first % 16

-- `.... .... KK.. KKKK`
abbrev pub word_immediate : ℕ → ℕ
word_immediate first = first / 64 % 4 * 16 + first % 16

-- `..q. qq.. .... .qqq`
abbrev pub displacement : ℕ → ℕ
displacement first = first / 8192 % 2 * 32 + first / 1024 % 4 * 8 + first % 8

-- `.... .AA. .... AAAA`
abbrev pub io_address : ℕ → ℕ
io_address first = first / 512 % 4 * 16 + first % 16

-- `.... .... AAAA A...`
abbrev pub low_io_address : ℕ → ℕ
low_io_address first = first / 8 % 32

-- `.... ..kk kkkk k...`
abbrev pub short_distance : ℕ → ℕ
short_distance first = first / 8 % 128

-- `.... kkkk kkkk kkkk`
abbrev pub long_distance : ℕ → ℕ
long_distance first = first % 4096

-- `.... ...k kkkk ...k`, above the 16 bits of the second word
abbrev pub far_address : ℕ → ℕ → ℕ
far_address first second = (first / 16 % 32 * 2 + first % 2) * 65536 + second
