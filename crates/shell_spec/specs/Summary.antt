-- The summary of a session.
use Rattle.std.specs.Prelude.{ℕ, List, ◌++◌, length, codes, flat_map}
use Rattle.std.specs.Fmt.{decimal}
use Rattle.line_spec.specs.Check.{check}
use Rattle.line_spec.specs.Frames.{Frame}
use Rattle.debug_spec.specs.Debugger.{Debugger}
use Rattle.shell_spec.specs.Printed.{line}
use Rattle.shell_spec.specs.Listing.{four_digits}
use Rattle.shell_spec.specs.Sent.{events_in, replies_in}

-- the check of the bodies of frames, joined
abbrev pub bodies_check : List Frame → ℕ
bodies_check frames = check (flat_map (λ frame. frame.body) frames)

-- how many frames were taken, how many replies and events were sent, and the check of the bodies of all that was sent
abbrev pub summary : (taken : ℕ) → Debugger → List ℕ
summary taken end =
    line (codes "frames " ++ decimal taken ++ codes " replies " ++ decimal (length (replies_in end.sent)) ++
    codes " events " ++ decimal (length (events_in end.sent)) ++ codes " check " ++ four_digits (bodies_check end.sent))
