-- Texts with no blank, no comma, no colon and no semicolon: mnemonics and operands as they are printed.
use Rattle.std.proofs.Common.{ℕ, ◌==◌, ◌&&◌, Bool, false, List, [], ◌∷◌}
use Rattle.std.specs.Prelude.{not, nat_lt}
use Rattle.std.specs.List.{list_all}

abbrev pub is_clean : ℕ → Bool
is_clean byte = nat_lt 0x20 byte && not (byte == 0x2c) && not (byte == 0x3b) && not (byte == 0x3a)

-- there is such a byte, and no other one
abbrev pub is_clean_text : List ℕ → Bool
is_clean_text [] = false
is_clean_text (byte ∷ bytes) = list_all is_clean (byte ∷ bytes)
