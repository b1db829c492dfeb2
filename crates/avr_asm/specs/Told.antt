-- Numbers as the code tells them.
use Rattle.std.specs.Prelude.{ℕ, min}

-- the greatest number that is told; each greater one is told as it
abbrev pub most : ℕ
most = 0xffffffff

abbrev pub capped : ℕ → ℕ
capped n = min n most
