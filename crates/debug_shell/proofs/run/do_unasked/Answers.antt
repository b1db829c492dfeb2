use Rattle.std.proofs.Common.{Ok, Err, refl, sym, ◌∙◌}
use Rattle.debug_shell.specs.Said.{said_by}
use Rattle.shell_spec.specs.Sends.{is_wait}
use Rattle.host_session.specs.Words.{words_of}
use Rattle.debug_shell.specs.declared.script_end.After.TheVariants.{Goes, Fails}
use Rattle.debug_shell.proofs.Doings.{event_put, nothing_put}
use Rattle.debug_shell.proofs.run.do_unasked.Goals as goal

pub returns-then-not-is_wait-clause-does : goal.returns-then-not-is_wait-clause-does
returns-then-not-is_wait-clause-does g c = nothing_put (words_of g.L.Link.sent g.L.Link.incoming g.L.Link.faults g.L.Link.sends g.L.Link.receives) (is_wait (said_by c.args.line.now)) _ _ (sym c.is_wait.ensures ∙ c.if-not-is_wait.true)

pub returns-in-Ok-clause-does : goal.returns-in-Ok-clause-does
returns-in-Ok-clause-does g c =
    event_put (words_of g.L.Link.sent g.L.Link.incoming g.L.Link.faults g.L.Link.sends g.L.Link.receives) (is_wait (said_by c.args.line.now)) _ _ _ _ (Ok c.in-Ok.event) c.event_text.result.items Goes _ (sym c.is_wait.ensures ∙ c.if-not-is_wait.false) c.in-Ok.ensures.gives
    c.next_event.ensures.number (c.event_text.ensures, refl) c.print.ensures.prints

pub returns-in-Err-clause-does : goal.returns-in-Err-clause-does
returns-in-Err-clause-does g c =
    event_put (words_of g.L.Link.sent g.L.Link.incoming g.L.Link.faults g.L.Link.sends g.L.Link.receives) (is_wait (said_by c.args.line.now)) _ _ _ _ (Err c.in-Err.error) c.failure_text.result.items Fails _ (sym c.is_wait.ensures ∙ c.if-not-is_wait.false) c.in-Err.ensures.gives
    c.next_event.ensures.number (c.failure_text.ensures, refl) c.print-in-Err.ensures.prints
