use Rattle.std.proofs.Common.{Err, refl}
use Rattle.ice_msg.specs.Reading.{asked}
use Rattle.debug_shell.specs.Said.{said_by}
use Rattle.host_session.specs.Words.{words_of}
use Rattle.debug_shell.specs.declared.script_end.After.TheVariants.{Fails}
use Rattle.debug_shell.proofs.Doings.{reply_put}
use Rattle.debug_shell.proofs.run.ask.Goals as goal

pub returns-in-Err-clause-does : goal.returns-in-Err-clause-does
returns-in-Err-clause-does g c =
    reply_put (words_of g.L.Link.sent g.L.Link.incoming g.L.Link.faults g.L.Link.sends g.L.Link.receives) (said_by c.args.line.now) (asked c.args.command.now) _ _ _ _ (Err c.in-Err.error) c.failure_text.result.items Fails _ c.in-Err.ensures.requests c.request.ensures.number c.request.ensures.fits c.requires.valid c.requires.fits
    (c.failure_text.ensures, refl) c.print-in-Err.ensures.prints
