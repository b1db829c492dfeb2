use Rattle.std.proofs.Common.{ℕ, ◌+◌, ◌-◌, ◌≤◌, ◌++◌, length, refl, sym, ap, subst, arith}
use Rattle.std.proofs.KnownBytes.{Appends-nil}
use Rattle.std.specs.Prelude.{codes}
use Rattle.ice_frame.specs.Front.{frame_of}
use Rattle.ice_line.specs.Lines.{Writes}
use Rattle.ice_recv.specs.Received.{Received}
use Rattle.shell_spec.specs.Listing.{count_text, frame_text}
use Rattle.frame_listing.specs.Steps.{Lists}
use Rattle.frame_listing.proofs.Chunking.{takes_list, takes_counts}
use Rattle.frame_listing.proofs.stream.list_next.Goals as goal

pub returns-in-None-clause-lists : goal.returns-in-None-clause-lists
returns-in-None-clause-lists g c =
    (c.in-None.ensures.0, c.in-None.ensures.1, refl, (Appends-nil (g.K.Sink.written c.args.sink.now), refl))

pub returns-in-None-clause-behind : goal.returns-in-None-clause-behind
returns-in-None-clause-behind g c = omega (arith, ap (λ (r : Received). r.dropped) c.in-None.ensures.1, c.requires.behind)

pub returns-in-None-clause-counts : goal.returns-in-None-clause-counts
returns-in-None-clause-counts g c =
    subst (λ (r : Received). r.dropped + length r.held ≤ c.args.receiver.now.dropped + length c.args.receiver.now.held) (sym c.in-None.ensures.1)
    (omega arith)

pub returns-in-Some-clause-lists : goal.returns-in-Some-clause-lists
returns-in-Some-clause-lists g c =
    let run : ℕ = c.args.receiver.now.dropped - c.args.listed.now in (
      count_text (codes "junk") run ++ frame_text (frame_of c.in-Some.frame),
      subst (λ (n : ℕ). Lists run c.args.receiver.now.held (count_text (codes "junk") run ++ frame_text (frame_of c.in-Some.frame))
          (c.next.new.self.dropped - n) c.next.new.self.held) (sym c.dropped-dropped.ensures)
          (takes_list c.args.receiver.now c.next.new.self c.args.listed.now (frame_of c.in-Some.frame) c.in-Some.ensures c.requires.behind
          c.requires.few),
      subst (λ (n : ℕ). Writes c.put_lines.result (g.K.Sink.written c.args.sink.now) (g.K.Sink.written c.put_lines.new.sink)
          (g.K.Sink.faults c.args.sink.now) (g.K.Sink.faults c.put_lines.new.sink)
          (count_text (codes "junk") (n - c.args.listed.now) ++ frame_text (frame_of c.in-Some.frame))) c.dropped-dropped.ensures
          c.put_lines.ensures.writes,
      (takes_counts c.args.receiver.now c.next.new.self (frame_of c.in-Some.frame) c.in-Some.ensures c.requires.few).2,
    )

pub returns-in-Some-clause-behind : goal.returns-in-Some-clause-behind
returns-in-Some-clause-behind g c =
    omega (arith, c.dropped-dropped.ensures, (takes_counts c.args.receiver.now c.next.new.self (frame_of c.in-Some.frame) c.in-Some.ensures c.requires.few).0)

pub returns-in-Some-clause-counts : goal.returns-in-Some-clause-counts
returns-in-Some-clause-counts g c =
    (takes_counts c.args.receiver.now c.next.new.self (frame_of c.in-Some.frame) c.in-Some.ensures c.requires.few).1
