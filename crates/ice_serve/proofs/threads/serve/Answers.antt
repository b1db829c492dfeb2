use Rattle.std.proofs.Common.{◌+◌, ◌%◌, ◌^◌, ℕ, refl, sym, ap, ◌∙◌, subst}
use Rattle.flash_patch.specs.Asking.{seen}
use Rattle.ice_inbox.specs.Ends.{Sent, Taken}
use Rattle.ice_inbox.specs.Lines.{SendsLine}
use Rattle.ice_inbox.specs.Notes.{has_last}
use Rattle.ice_emul.specs.Launching.{rests}
use Rattle.ice_serve.specs.Endings.{counts}
use Rattle.ice_serve.specs.Serving.{Serves, threads}
use Rattle.ice_serve.proofs.Serving.{rose_by, rose_once, serves_of, takes_line_of}
use Rattle.ice_serve.proofs.threads.serve.Goals as goal

pub returns-in-Err-clause-unserved : goal.returns-in-Err-clause-unserved
returns-in-Err-clause-unserved g c =
    (c.undo-source.ensures.0 ∙ ap (λ w. w.source) c.in-Err.ensures.back ∙ c.of.ensures.0, refl, refl)

pub returns-in-Err-clause-program : goal.returns-in-Err-clause-program
returns-in-Err-clause-program g c = λ own there. (c.finish-flash.ensures own there).flash_is

pub returns-in-Ok-clause-lines : goal.returns-in-Ok-clause-lines
returns-in-Ok-clause-lines g c =
    rose_once (g.Q.Spawner.starts c.args.lines.now) (g.Q.Spawner.joins c.args.lines.now) (g.Q.Spawner.starts c.join-source.new.self)
    (g.Q.Spawner.joins c.join-source.new.self) (c.join-source.ensures.starts ∙ c.in-Ok.ensures.ok)
    (c.join-source.ensures.joins ∙ ap (λ (n : ℕ). (n + 1) % 2 ^ 64) c.start.ensures.joins)

pub take_in-requires : goal.take_in-requires
take_in-requires g c =
    let sends = c.in-Ok.ensures.gives c.join-source.result c.join-source.ensures.gives in
    c.session-runner.ensures.inbox.0 ∙ c.args.desk.fresh.inbox ∙ sym (ap (λ (s : Sent). s.inbox) c.of.ensures.1) ∙ sym sends.inbox

pub returns-in-Ok-clause-line : goal.returns-in-Ok-clause-line
returns-in-Ok-clause-line g c =
    let sends = c.in-Ok.ensures.gives c.join-source.result c.join-source.ensures.gives in
    takes_line_of g.S.Source.left g.S.Source.faults c.args.source c.join-source.result.source c.of.result.sender
    c.join-source.result.sender c.take_in.new.self.taken
    (subst (λ (s : g.row.S.Denot). SendsLine g.S.Source.left g.S.Source.faults s c.join-source.result.source c.of.result.sender
    c.join-source.result.sender) c.of.ensures.0 sends)
    (ap has_last (ap (λ (t : Taken). t.taken) c.take_in.ensures.known) ∙ c.session-runner.ensures.last) c.take_in.ensures.order

pub returns-in-Ok-clause-serves : goal.returns-in-Ok-clause-serves
returns-in-Ok-clause-serves g c = λ own there.
    let end = c.session-runner.result.1.end in
    let flash = c.session-runner.result.1.flash in
    let totals = c.session-runner.result.1.totals in
    let runner = c.session-runner.result.0 in
    subst (λ (p : g.row.P.Denot). Serves (seen g.F.Flash.words g.F.Flash.journal g.F.Flash.faults g.F.Flash.writes) g.F.Flash.part c.args.emulator own c.take_in.new.self.taken end flash totals
    (counts (g.K.Sink.written c.args.sink.now) (g.K.Sink.faults c.args.sink.now) (g.P.Spawner.faults p))
    (counts (g.K.Sink.written c.session-runner.new.sink) (g.K.Sink.faults c.session-runner.new.sink) (g.P.Spawner.faults c.finish.result))
    (threads (g.P.Spawner.starts p) (g.P.Spawner.joins p))
    (threads (g.P.Spawner.starts c.finish.result) (g.P.Spawner.joins c.finish.result))) c.of-runner.ensures.spawner
    (subst (λ (p : g.row.P.Denot). Serves (seen g.F.Flash.words g.F.Flash.journal g.F.Flash.faults g.F.Flash.writes) g.F.Flash.part c.args.emulator own c.take_in.new.self.taken end flash totals
    (counts (g.K.Sink.written c.args.sink.now) (g.K.Sink.faults c.args.sink.now) (g.P.Spawner.faults c.of-runner.result.spawner))
    (counts (g.K.Sink.written c.session-runner.new.sink) (g.K.Sink.faults c.session-runner.new.sink) (g.P.Spawner.faults p))
    (threads (g.P.Spawner.starts c.of-runner.result.spawner) (g.P.Spawner.joins c.of-runner.result.spawner))
    (threads (g.P.Spawner.starts p) (g.P.Spawner.joins p))) (sym c.finish.ensures)
    (serves_of (seen g.F.Flash.words g.F.Flash.journal g.F.Flash.faults g.F.Flash.writes) g.F.Flash.part c.args.emulator own c.session-runner.new.receiver.taken c.take_in.new.self.taken end flash totals runner.launches
    (counts (g.K.Sink.written c.args.sink.now) (g.K.Sink.faults c.args.sink.now) (g.P.Spawner.faults c.of-runner.result.spawner))
    (counts (g.K.Sink.written c.session-runner.new.sink) (g.K.Sink.faults c.session-runner.new.sink) (g.P.Spawner.faults runner.spawner))
    (threads (g.P.Spawner.starts c.of-runner.result.spawner) (g.P.Spawner.joins c.of-runner.result.spawner))
    (threads (g.P.Spawner.starts runner.spawner) (g.P.Spawner.joins runner.spawner))
    (ap (λ (t : Taken). t.taken) c.take_in.ensures.known) (c.session-runner.ensures.serves own there)
    (rose_by (g.P.Spawner.starts c.of-runner.result.spawner) (g.P.Spawner.joins c.of-runner.result.spawner)
    (g.P.Spawner.starts runner.spawner) (g.P.Spawner.joins runner.spawner) c.of-runner.result.launches c.of-runner.result.collects
    runner.launches runner.collects c.of-runner.ensures.counts.0 c.of-runner.ensures.counts.1 c.session-runner.ensures.few
    c.session-runner.ensures.joined c.session-runner.ensures.kept)))

pub of-requires : goal.of-requires
of-requires g c = c.args.desk.fresh.unsent

pub start-requires : goal.start-requires
start-requires g c = record { sound = c.requires.lines }

pub finish-flash-requires : goal.finish-flash-requires
finish-flash-requires g c = c.requires.emulator.here ∙ ap rests c.requires.begun

pub of-runner-requires-clause-home : goal.of-runner-requires-clause-home
of-runner-requires-clause-home g c = c.args.desk.fresh.home

pub of-runner-requires-clause-none : goal.of-runner-requires-clause-none
of-runner-requires-clause-none g c = c.args.desk.fresh.unraised

pub session-runner-requires-clause-ready : goal.session-runner-requires-clause-ready
session-runner-requires-clause-ready g c = λ x out. out

pub session-runner-requires-clause-sound : goal.session-runner-requires-clause-sound
session-runner-requires-clause-sound g c = c.of-runner.ensures.sound

pub session-runner-requires-clause-free : goal.session-runner-requires-clause-free
session-runner-requires-clause-free g c = c.of-runner.ensures.free

pub session-runner-requires-clause-unused : goal.session-runner-requires-clause-unused
session-runner-requires-clause-unused g c = c.of-runner.ensures.counts

pub session-runner-requires-clause-untaken : goal.session-runner-requires-clause-untaken
session-runner-requires-clause-untaken g c = c.args.desk.fresh.untaken

pub join-source-requires : goal.join-source-requires
join-source-requires g c = record { sound = c.start.ensures.sound }

pub finish-requires : goal.finish-requires
finish-requires g c = c.session-runner.ensures.free

pub returns-in-Err-clause-refused : goal.returns-in-Err-clause-refused
returns-in-Err-clause-refused g c = c.in-Err.ensures.cause.1

pub returns-in-Err-clause-sound : goal.returns-in-Err-clause-sound
returns-in-Err-clause-sound g c = c.start.ensures.sound

pub returns-in-Ok-clause-sound : goal.returns-in-Ok-clause-sound
returns-in-Ok-clause-sound g c = c.join-source.ensures.sound
