use Rattle.std.proofs.Common.{◌+◌, refl, ap, ◌∙◌, arith}
use Rattle.flash_patch.specs.Asking.{seen}
use Rattle.run_control.specs.declared.job.Turn.TheVariants.{Halted, NotYet}
use Rattle.ice_inbox.proofs.Turns.{went_further, went_on, ends_looked}
use Rattle.ice_inbox.proofs.target_work.run_out.Goals as goal

pub loop-init : goal.loop-init
loop-init g c = record { ready = c.requires.ready; part = refl; counts = omega arith; went = (0, (refl, refl)) }

pub loop-preserved : goal.loop-preserved
loop-preserved g c =
    let flash = seen g.F.Flash.words g.F.Flash.journal g.F.Flash.faults g.F.Flash.writes in
    let was = c.loop.invariant in
    let made = c.in-NotYet.ensures in
    let gone = went_further flash c.args.job.now _ was.went.0 c.loop.job _ 4096 NotYet c.advance.new.self _ c.stands_for_a_state.ensures
    was.went.1 made.advances in
    record {
      ready = made.ready refl;
      part = made.part ∙ was.part;
      counts = omega (arith, was.counts, made.counts);
      went = (was.went.0 + 4096, went_on flash c.args.job.now _ (was.went.0 + 4096) c.advance.new.self _ (omega arith) gone);
    }

pub returns-in-Halted-clause-ends : goal.returns-in-Halted-clause-ends
returns-in-Halted-clause-ends g c =
    let flash = seen g.F.Flash.words g.F.Flash.journal g.F.Flash.faults g.F.Flash.writes in
    let was = c.loop.invariant in
    let made = c.in-Halted.ensures in
    let gone = went_further flash c.args.job.now _ was.went.0 c.loop.job _ 4096 (Halted c.in-Halted.halt) c.advance.new.self _
    c.stands_for_a_state.ensures was.went.1 made.advances in
    (ends_looked flash g.F.Flash.part c.args.job.now (was.went.0 + 4096) c.in-Halted.halt c.advance.new.self _ _ gone made.halts
    (made.part ∙ was.part) (omega (arith, was.counts, made.counts)) c.requires.unlooked).0

pub returns-in-Halted-clause-mark : goal.returns-in-Halted-clause-mark
returns-in-Halted-clause-mark g c =
    let flash = seen g.F.Flash.words g.F.Flash.journal g.F.Flash.faults g.F.Flash.writes in
    let was = c.loop.invariant in
    let made = c.in-Halted.ensures in
    let gone = went_further flash c.args.job.now _ was.went.0 c.loop.job _ 4096 (Halted c.in-Halted.halt) c.advance.new.self _
    c.stands_for_a_state.ensures was.went.1 made.advances in
    let mark = (ends_looked flash g.F.Flash.part c.args.job.now (was.went.0 + 4096) c.in-Halted.halt c.advance.new.self _ _ gone made.halts
    (made.part ∙ was.part) (omega (arith, was.counts, made.counts)) c.requires.unlooked).1 in
    (ap (λ m. m.word) mark, ap (λ m. m.number) mark)
