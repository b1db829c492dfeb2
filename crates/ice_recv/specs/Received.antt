-- What a receiver is to its caller.
use Rattle.std.specs.Prelude.{ℕ, List}

-- the bytes held, and how many were dropped so far, modulo 2^64
pub record Received : Type 0 where
  pub held : List ℕ
  pub dropped : ℕ
