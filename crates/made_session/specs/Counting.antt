-- What the bytes of frames come to, byte by byte: how many replies and events they are, and the check of their bodies.
use Rattle.std.specs.Prelude.{ℕ, zero, suc, ◌+◌, ◌*◌, ◌/◌, ◌==◌, nat_lt, if◌then◌else◌, List, ◌++◌, codes}
use Rattle.std.specs.Fmt.{decimal}
use Rattle.line_spec.specs.Check.{checked}
use Rattle.line_spec.specs.Hearing.{event_number}
use Rattle.shell_spec.specs.Printed.{line}
use Rattle.shell_spec.specs.Listing.{four_digits}
use Rattle.ice_base.specs.Counts.{next_count}
use Rattle.made_session.specs.declared.count.Count.{Count}

-- what no bytes come to
abbrev pub start : Count
start = record { replies = 0; events = 0; check = 0xFFFF; place = 0; number = 0; left = 0 }

-- the frame is whole
abbrev pub ended : Count → Count
ended c =
    if c.number == event_number then record c { place = 0; events = next_count c.events } else
    record c { place = 0; replies = next_count c.replies }

-- a byte of the body where so many are still to come, and behind them the first byte of the check
abbrev pub body_by : (left : ℕ) → Count → ℕ → Count
body_by zero c byte = record c { place = 9 }
body_by (suc left) c byte = record c { left = left; check = checked c.check byte }

abbrev pub body_counted : Count → ℕ → Count
body_counted c byte = body_by c.left c byte

-- one byte more: the first of a frame, the two of its number, the four of its size, the token, a byte of the body or the first of the
-- check, and its second
abbrev pub counted : Count → ℕ → Count
counted c byte =
    if nat_lt c.place 1 then record c { place = 1 } else
    if nat_lt c.place 3 then record c { place = c.place + 1; number = c.number / 256 + 256 * byte } else
    if nat_lt c.place 7 then record c { place = c.place + 1; left = c.left / 256 + 0x1000000 * byte } else
    if nat_lt c.place 8 then record c { place = 8 } else
    if nat_lt c.place 9 then body_counted c byte else
    ended c

-- the line of so many frames taken, replies and events sent, and this check
abbrev pub summed_up : (taken replies events check : ℕ) → List ℕ
summed_up taken replies events check =
    line (codes "frames " ++ decimal taken ++ codes " replies " ++ decimal replies ++
    codes " events " ++ decimal events ++ codes " check " ++ four_digits check)
