use Rattle.std.proofs.Common.{ℕ, refl, sym, subst, ap, ◌∙◌, length, length-append, arith}
use Rattle.line_spec.specs.Frames.{Frame}
use Rattle.line_spec.specs.Messages.{IsNoEvent}
use Rattle.ice_frame.specs.Front.{frame_of}
use Rattle.ice_base.specs.Counts.{Rose}
use Rattle.host_session.specs.Hearing.{pending_of, TakesFirst}
use Rattle.host_session.proofs.Goings.{Going-none, Going-frame, Going-piece, Going-ends, Going-long, Going-stops}
use Rattle.host_session.proofs.Goings.{TakesFirst-shorter, SkipsJunk-shorter}
use Rattle.host_session.proofs.awaiting.await_frame.Goals as goal

pub frames-init : goal.frames-init
frames-init g c = record {
  going = Going-none _ _ _;
  room = c.requires.room;
  fits = c.requires.fits;
  still = refl;
}

pub frames-smaller-in-Passed : goal.frames-smaller-in-Passed
frames-smaller-in-Passed g c = omega (arith, TakesFirst-shorter (frame_of c.in-Some.frame) _ _ c.in-Some.ensures.hands)

pub frames-preserved-in-Passed : goal.frames-preserved-in-Passed
frames-preserved-in-Passed g c =
    let passed = c.in-Passed.ensures.heard in
    record {
      going = Going-frame _ _ _ _ _ (frame_of c.in-Some.frame) _ passed.0 _ c.frames.invariant.going c.in-Some.ensures.hands passed.1
          passed.2;
      room = c.in-Passed.ensures.capacity;
      fits = c.in-Passed.ensures.fits;
      still = c.frames.invariant.still;
    }

pub returns-in-Wanted-clause-awaits : goal.returns-in-Wanted-clause-awaits
returns-in-Wanted-clause-awaits g c =
    let heard = c.in-Wanted.ensures.heard in
    let P : Frame → Type 0 = λ frame. TakesFirst frame (pending_of c.frames.inbox) (pending_of c.next_frame.new.self) in (
      Going-ends _ _ _ _ _ (frame_of c.in-Wanted.frame) _ _ c.frames.invariant.going (subst P (sym heard.0) c.in-Some.ensures.hands)
          heard.2,
      ap (λ (frame : Frame). frame.number) heard.0 ∙ heard.1,
    )

pub returns-in-NoEvent-clause-awaits : goal.returns-in-NoEvent-clause-awaits
returns-in-NoEvent-clause-awaits g c =
    let heard = c.in-NoEvent.ensures.heard in
    let P : Frame → Type 0 = λ frame. TakesFirst frame (pending_of c.frames.inbox) (pending_of c.next_frame.new.self) in
    let number = ap (λ (frame : Frame). frame.number) heard.0 in (
      Going-ends _ _ _ _ _ (frame_of c.in-NoEvent.frame) _ _ c.frames.invariant.going (subst P (sym heard.0) c.in-Some.ensures.hands)
          heard.4,
      (λ same. heard.1 (sym number ∙ same)),
      number ∙ heard.2,
      subst (λ (frame : Frame). IsNoEvent frame.body) (sym heard.0) heard.3,
    )

pub returns-in-Full-clause-awaits : goal.returns-in-Full-clause-awaits
returns-in-Full-clause-awaits g c =
    let heard = c.in-Full.ensures.heard in (
      frame_of c.in-Some.frame,
      Going-ends _ _ _ _ _ (frame_of c.in-Some.frame) _ _ c.frames.invariant.going c.in-Some.ensures.hands heard.3,
      heard.0,
      heard.1,
      omega (arith, ap length heard.3, heard.2),
    )

pub returns-then-allowed-eq0-clause-awaits : goal.returns-then-allowed-eq0-clause-awaits
returns-then-allowed-eq0-clause-awaits g c =
    let none = c.in-None.ensures.hands in
    Going-long _ _ _ _ _ _ c.frames.invariant.going none.0 none.1 (omega (arith, c.if-allowed-eq0.true))

pub frames-smaller : goal.frames-smaller
frames-smaller g c =
    let received = c.in-Bytes.ensures.receives in
    omega (
      arith,
      SkipsJunk-shorter _ _ c.in-None.ensures.hands.0,
      ap length received.5,
      length-append (pending_of c.next_frame.new.self) received.0,
      received.1,
      received.2,
      received.3,
    )

pub frames-preserved : goal.frames-preserved
frames-preserved g c =
    let received = c.in-Bytes.ensures.receives in
    record {
      going = Going-piece _ _ _ _ _ _ _ received.0 _ _ c.frames.invariant.going c.in-None.ensures.hands.0 received.1 received.2
          received.3 received.4 received.5;
      room = c.frames.invariant.room;
      fits = c.frames.invariant.fits;
      still = received.4.3 ∙ c.frames.invariant.still;
    }

pub returns-in-End-clause-awaits : goal.returns-in-End-clause-awaits
returns-in-End-clause-awaits g c =
    let none = c.in-None.ensures.hands in
    let received = c.in-End.ensures.receives in
    let stops = Going-stops _ _ _ _ _ c.receive.new.link _ _ c.frames.invariant.going none.0 none.1
    (omega (arith, c.if-allowed-eq0.false)) received.1 in
    (_, stops, received.0)

pub returns-in-Fault-clause-awaits : goal.returns-in-Fault-clause-awaits
returns-in-Fault-clause-awaits g c =
    let none = c.in-None.ensures.hands in
    let received = c.in-Fault.ensures.receives in
    let stops = Going-stops _ _ _ _ _ c.receive.new.link _ _ c.frames.invariant.going none.0 none.1
    (omega (arith, c.if-allowed-eq0.false)) received.1 in
    (_, stops, received.0)

pub returns-in-End-clause-cause : goal.returns-in-End-clause-cause
returns-in-End-clause-cause g c = c.in-End.ensures.receives.0.0.3 ∙ c.frames.invariant.still

pub returns-in-Fault-clause-cause : goal.returns-in-Fault-clause-cause
returns-in-Fault-clause-cause g c =
    let P : ℕ → Type 0 = λ n. Rose n (g.L.Link.faults c.receive.new.link) in
    subst P c.frames.invariant.still c.in-Fault.ensures.receives.0.2
