-- What one read takes.
use Rattle.std.specs.Prelude.{◌≡◌, ℕ, ◌<◌, ◌≤◌, List, [], take}
use Rattle.std.specs.Io.KnownBytes.{Consumes, IsAtEnd}
use Rattle.ice_base.specs.Counts.{Rose}
use Rattle.debug_shell.specs.Printing.{Outside}
use Rattle.debug_shell.specs.declared.script.Next.{Next}
use Rattle.debug_shell.specs.declared.script.Next.TheVariants.{Bytes, End, Fault}

-- some bytes are taken, at most so many, and stand at the front of the buffer; or none is, at the end or at a fault
abbrev pub TakesNext : Outside → Outside → (most : ℕ) → (buffer : List ℕ) → Next → Type 0
TakesNext before after most buffer (Bytes count) = (0 < count) × (count ≤ most) × Consumes before.bytes after.bytes (take count buffer)
    × (after.faults ≡ before.faults)
TakesNext before after most buffer End = Consumes before.bytes after.bytes [] × IsAtEnd after.bytes × (after.faults ≡ before.faults)
TakesNext before after most buffer Fault = Consumes before.bytes after.bytes [] × Rose before.faults after.faults
