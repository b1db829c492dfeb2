use Rattle.std.proofs.Common.{ℕ, ◌+◌, ◌≤◌, List, refl, sym, ap, ◌∙◌, subst, arith}
use Rattle.std.specs.Prelude.{All}
use Rattle.std.proofs.lemmas.List.Elements.{All-weaker}
use Rattle.flash_patch.specs.Asking.{seen}
use Rattle.run_control.specs.declared.runner.Done.{Done as Ended}
use Rattle.run_control.specs.Ends.{EndsJob}
use Rattle.ice_inbox.proofs.Raised.{not_raised, seated_here}
use Rattle.ice_inbox.specs.Threads.{is_raised}
use Rattle.ice_inbox.proofs.threaded.ThreadedRunner.launch.Goals as goal

pub returns-in-Ok-clause-out : goal.returns-in-Ok-clause-out
returns-in-Ok-clause-out g c = (
  refl,
  ap (λ r. is_raised (c.args.self.now.launches + 1) r.raised) c.split-looker.ensures.raiser ∙
      not_raised c.args.self.now.raiser.raised c.args.self.now.launches c.requires.sound.raised,
)

pub returns-in-Ok-clause-ends : goal.returns-in-Ok-clause-ends
returns-in-Ok-clause-ends g c = λ done may.
    subst (λ (d : Ended g.row.F.Denot).
    EndsJob (seen g.F.Flash.words g.F.Flash.journal g.F.Flash.faults g.F.Flash.writes) g.F.Flash.part c.args.job d) may.2
    (c.in-Ok.ensures.gives may.0 may.1).0.ends

pub returns-in-Ok-clause-sound : goal.returns-in-Ok-clause-sound
returns-in-Ok-clause-sound g c =
    let number = c.args.self.now.launches in
    let raiser = c.split-looker.ensures.raiser in
    let raised = All-weaker (λ n. n ≤ number) (λ n. n ≤ number + 1) (λ n less. omega (arith, less)) c.args.self.now.raiser.raised
    c.requires.sound.raised in
    record {
      spawner = c.start.ensures.sound;
      raised = subst (λ (l : List ℕ). All (λ n. n ≤ number + 1) l) (sym (ap (λ r. r.raised) raiser)) raised;
      seated = (
        ap (λ r. r.is_out) raiser,
        omega arith,
        λ end allowed. let given = (c.in-Ok.ensures.gives end allowed).0 in (
          given.word ∙ ap (λ l. l.word) c.split-looker.ensures.looker ∙ sym (ap (λ r. r.word) raiser),
          given.forced,
        ),
      );
    }

pub returns-in-Err-clause-sound : goal.returns-in-Err-clause-sound
returns-in-Err-clause-sound g c =
    let number = c.args.self.now.launches in
    let raised = ap (λ r. r.raised) c.join.ensures.raiser ∙ ap (λ r. r.raised) c.split-looker.ensures.raiser in
    record {
      spawner = c.start.ensures.sound;
      raised = subst (λ (l : List ℕ). All (λ n. n ≤ number) l) (sym raised) c.requires.sound.raised;
      seated = seated_here g.P.Spawner.allows c.join.new.self number c.args.self.now.ticket c.requires.free
          (ap (λ r. r.is_out) c.join.ensures.raiser);
    }
