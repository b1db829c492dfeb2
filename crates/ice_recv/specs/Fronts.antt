-- What stands at the front of the bytes held, and the looks that it took to tell.
use Rattle.std.specs.Prelude.{◌≡◌, ℕ, ◌+◌, ◌*◌, ◌≤◌, Bool, List, length, take, Option}
use Rattle.line_spec.specs.Cut.{Item, Cuts}
use Rattle.ice_frame.specs.Scans.{Kept, scan_of}
use Rattle.ice_frame.specs.Scanned.{IsScanned}
use Rattle.ice_frame.specs.declared.scan.Scanned.TheVariants.{More}
use Rattle.ice_recv.specs.Received.{Received}
use Rattle.ice_recv.specs.Receiving.{OnlyJunk, Drops, Stands, Tells, counted, frame_limit}
use Rattle.ice_recv.specs.declared.held.Found.{Found}

-- the bytes were scanned, up to the one with which the scan ended
pub record IsFound (bytes : List ℕ) (found : Found) (after : Kept) : Type 0 where
  pub within : found.size ≤ length bytes
  pub scan : after ≡ scan_of (take found.size bytes)
  pub answer : IsScanned (take found.size bytes) found.answer
  pub all : found.answer ≡ More → found.size ≡ length bytes

-- junk bytes are dropped and counted, and what is behind them is held
pub record JunkAhead (bytes : List ℕ) (dropped : ℕ) (after : Received) : Type 0 where
  pub items : List Item
  pub cuts : Cuts bytes items after.held
  pub only : OnlyJunk items
  pub count : after.dropped ≡ counted dropped (length items)
  pub size : length items + length after.held ≡ length bytes

-- the junk is dropped, what is held is told, and no more than so many bytes were looked at for it, and for each junk byte
pub record TellsFront (bytes : List ℕ) (dropped looks : ℕ) (after : Received) (looked : ℕ) (scan : Kept) (found : Option ℕ) : Type 0 where
  pub ahead : JunkAhead bytes dropped after
  pub stands : Stands found scan after.held
  pub cost : looked ≤ looks + frame_limit * (1 + length ahead.items)

-- the junk is dropped and counted, and what is held is told
pub record Settles (bytes : List ℕ) (after : Received) (dropped : ℕ) (waits : Bool) : Type 0 where
  pub drops : Drops bytes dropped after
  pub tells : Tells waits after.held

-- one byte is taken with one look, and so many more for each junk byte
pub record TakesByte (bytes : List ℕ) (dropped looks : ℕ) (after : Received) (looked : ℕ) (waits : Bool) : Type 0 where
  pub settles : Settles bytes after dropped waits
  pub cost : looked ≤ looks + 1 + frame_limit * length settles.drops.items
