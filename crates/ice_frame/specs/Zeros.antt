-- The check with zero bytes more: what one bit more or less in a register comes to some bytes later.
use Rattle.std.specs.Prelude.{ℕ, zero, suc}
use Rattle.line_spec.specs.Check.{checked}

-- the check with so many zero bytes more
unfoldable pub over_zeros : ℕ → ℕ → ℕ
over_zeros zero r = r
over_zeros (suc n) r = over_zeros n (checked r 0)
