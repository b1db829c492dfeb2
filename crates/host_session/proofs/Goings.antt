-- How a frame is awaited, frame after frame and piece after piece.
use Rattle.std.proofs.Common.{◌≡◌, ℕ, ◌+◌, ◌-◌, ◌<◌, ◌≤◌, List, ◌++◌, length, refl, arith}
use Rattle.line_spec.specs.Frames.{Frame, IsPartial}
use Rattle.line_spec.proofs.Cuts.{Begins-shorter, Cuts-shorter}
use Rattle.ice_msg.specs.declared.event.Event.{Event}
use Rattle.host_session.specs.Standing.{Standing}
use Rattle.host_session.specs.Words.{Words, Received, joined}
use Rattle.host_session.specs.Hearing.{SkipsJunk, TakesFirst, PassesOver}
use Rattle.host_session.specs.Awaiting.{Hears, EndsAt, EndsAtNone, AwaitFails, receive_limit}
use Rattle.host_session.specs.declared.error.HostError.TheVariants.{NoReply}
use Rattle.host_session.proofs.Hearings.{Hears-none, Hears-junk, Hears-frame, Hears-piece, joined-size}

-- what was heard so far, and how many bytes more may be received
pub record Going {L : Type 0} (words : Words L) (wanted : ℕ) (before at : Standing L) (allowed : ℕ) : Type 0 where
  pub heard : Hears words wanted before at
  pub size : length (joined heard.pieces) + allowed ≡ receive_limit

pub Going-none : {L : Type 0} (words : Words L) (wanted : ℕ) (before : Standing L) → Going words wanted before before receive_limit
Going-none words wanted before = record { heard = Hears-none words wanted before; size = refl }

-- what is left is shorter by the frame
pub TakesFirst-shorter : (frame : Frame) (bytes after : List ℕ) → TakesFirst frame bytes after → length after < length bytes
TakesFirst-shorter frame bytes after t =
    omega (
      arith,
      Cuts-shorter bytes t.at t.ahead.items t.ahead.cuts,
      Begins-shorter t.at t.behind frame t.begins,
      Cuts-shorter t.behind after t.rest.items t.rest.cuts,
    )

pub SkipsJunk-shorter : (bytes after : List ℕ) → SkipsJunk bytes after → length after ≤ length bytes
SkipsJunk-shorter bytes after s = omega (arith, Cuts-shorter bytes after s.items s.cuts)

-- a frame is passed over
pub Going-frame : {L : Type 0} (words : Words L) (wanted : ℕ) (before at : Standing L) (allowed : ℕ) (frame : Frame) (after : List ℕ)
    (events kept : List Event) → Going words wanted before at allowed → TakesFirst frame at.pending after
    → PassesOver wanted frame events → kept ≡ at.kept ++ events
    → Going words wanted before (record { link = at.link; pending = after; kept = kept }) allowed
Going-frame words wanted before at allowed frame after events kept g t p k = record {
  heard = Hears-junk words wanted before (record { link = at.link; pending = t.behind; kept = kept }) after
      (Hears-frame words wanted before (record { link = at.link; pending = t.at; kept = at.kept }) frame t.behind events kept
      (Hears-junk words wanted before at t.at g.heard t.ahead) t.begins p k) t.rest;
  size = g.size;
}

-- a piece is received, where no frame is left
pub Going-piece : {L : Type 0} (words : Words L) (wanted : ℕ) (before at : Standing L) (allowed count : ℕ) (link : L)
    (piece skipped pending : List ℕ) → Going words wanted before at allowed → SkipsJunk at.pending skipped → length piece ≡ count
    → 0 < count → count ≤ allowed → Received words at.link piece link → pending ≡ skipped ++ piece
    → Going words wanted before (record { link = link; pending = pending; kept = at.kept }) (allowed - count)
Going-piece words wanted before at allowed count link piece skipped pending g s same some within r p = record {
  heard = Hears-piece words wanted before (record { link = at.link; pending = skipped; kept = at.kept }) link piece pending
      (Hears-junk words wanted before at skipped g.heard s) (omega (arith, same, some)) r p (omega (arith, g.size, same, within));
  size = omega (arith, joined-size g.heard.pieces piece, g.size, same, within);
}

-- the call ends at a frame
pub Going-ends : {L : Type 0} (words : Words L) (wanted : ℕ) (before at : Standing L) (allowed : ℕ) (frame : Frame) (after : List ℕ)
    (kept : List Event) → Going words wanted before at allowed → TakesFirst frame at.pending after → kept ≡ at.kept
    → EndsAt words wanted before frame (record { link = at.link; pending = after; kept = kept })
Going-ends words wanted before at allowed frame after kept g t k = record {
  at = record { link = at.link; pending = t.at; kept = at.kept };
  heard = Hears-junk words wanted before at t.at g.heard t.ahead;
  behind = t.behind;
  begins = t.begins;
  rest = t.rest;
  link = refl;
  kept = k;
}

-- the call ends at no frame, and nothing more may be received
pub Going-long : {L : Type 0} (words : Words L) (wanted : ℕ) (before at : Standing L) (allowed : ℕ) (after : List ℕ)
    → Going words wanted before at allowed → SkipsJunk at.pending after → IsPartial after → allowed ≡ 0
    → AwaitFails words wanted before NoReply (record { link = at.link; pending = after; kept = at.kept })
Going-long words wanted before at allowed after g s partial none =
    (Hears-junk words wanted before at after g.heard s, partial, omega (arith, g.size, none))

-- the call ends at no frame, and more may be received
pub Going-stops : {L : Type 0} (words : Words L) (wanted : ℕ) (before at : Standing L) (allowed : ℕ) (link : L) (skipped after : List ℕ)
    → Going words wanted before at allowed → SkipsJunk at.pending skipped → IsPartial skipped → 0 < allowed → after ≡ skipped
    → EndsAtNone words wanted before (record { link = at.link; pending = skipped; kept = at.kept })
    (record { link = link; pending = after; kept = at.kept })
Going-stops words wanted before at allowed link skipped after g s partial some e = record {
  heard = Hears-junk words wanted before at skipped g.heard s;
  partial = partial;
  more = omega (arith, g.size, some);
  pending = e;
  kept = refl;
}
