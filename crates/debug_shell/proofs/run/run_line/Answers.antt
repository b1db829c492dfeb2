use Rattle.host_session.specs.Words.{words_of}
use Rattle.debug_shell.proofs.Doings.{wrong_put}
use Rattle.debug_shell.proofs.run.run_line.Goals as goal

pub returns-in-Err-clause-ran : goal.returns-in-Err-clause-ran
returns-in-Err-clause-ran g c = wrong_put (words_of g.L.Link.sent g.L.Link.incoming g.L.Link.faults g.L.Link.sends g.L.Link.receives) c.args.line.now c.in-Err.error _ _ _ c.error_text.result.items _ c.in-Err.ensures.says c.error_text.ensures c.print.ensures.prints
