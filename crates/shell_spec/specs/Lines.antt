-- What a line says.
use Rattle.std.specs.Prelude.{ℕ, List}

-- one of the twenty-four forms, with its operands in their order: numbers, memory types, and the digits of bytes; or a line that does
-- nothing
pub data Line : Type 0 where
  sign : Line
  sync : Line
  get : (id : ℕ) → Line
  set : (id : ℕ) (digits : List ℕ) → Line
  read : (kind address count : ℕ) → Line
  write : (kind address : ℕ) (digits : List ℕ) → Line
  pc : Line
  pc_to : (address : ℕ) → Line
  break : (address : ℕ) → Line
  break_at : (address number : ℕ) → Line
  clear : (address : ℕ) → Line
  clear_at : (address number : ℕ) → Line
  go : Line
  to : (address : ℕ) → Line
  step : Line
  stop : Line
  reset : Line
  wait : Line
  quit : Line
  prog : Line
  leave : Line
  erase : Line
  erase_at : (address : ℕ) → Line
  page : (address : ℕ) (digits : List ℕ) → Line
  nothing : Line
