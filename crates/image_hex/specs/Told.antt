-- What the code's records stand for.
use Rattle.std.specs.Prelude.{◌≡◌, List, Option, None, Some, ℕ}
use Rattle.image_hex.specs.Records.{Record, gives, ends, bases, starts, bytes_in, record_in}
use Rattle.image_hex.specs.declared.record.Record.{Record as Read}
use Rattle.image_hex.specs.declared.record.Record.TheVariants.{Data, End, Base, Start}

-- what it says
abbrev pub record_shown : Read → Record
record_shown (Data address bytes) = gives address bytes.now
record_shown End = ends
record_shown (Base base) = bases base
record_shown Start = starts

-- there are no bytes, or they are those of no record
abbrev pub recordless : Option (List ℕ) → Type 0
recordless None = Unit {0}
recordless (Some bytes) = record_in bytes ≡ None

-- the line has not the bytes of a record
abbrev pub IsNoRecord : List ℕ → Type 0
IsNoRecord line = recordless (bytes_in line)
