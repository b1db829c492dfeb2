-- A shell over a link ends as its script does.
use Rattle.std.proofs.Common.{◌≡◌, true, List, ℕ, Option, sym, subst}
use Rattle.std.specs.Prelude.{codes}
use Rattle.host_session.specs.Standing.{Hosted}
use Rattle.host_session.specs.Words.{Words}
use Rattle.debug_shell.specs.Endings.{scene, EndsBy as ScriptEnds}
use Rattle.debug_shell.specs.declared.script_end.ScriptEnd.{ScriptEnd}
use Rattle.debug_shell.specs.declared.script_end.ScriptEnd.TheVariants.{Done, Read as Unread, Write as Unsent, Link as Unanswered}
use Rattle.debug_shell.specs.declared.script_end.ScriptEnd.TheVariants.{TooLong as Long}
use Rattle.ice_line.specs.Lines.{Line}
use Rattle.ice_top.specs.Connections.{new_host, RunsShell, SaysConnect, OpensShell, ConnectsBy}
use Rattle.ice_top.specs.Notes.{line}
use Rattle.ice_top.specs.Outside.{Ends, NotesStill, NotesLine}
use Rattle.ice_top.specs.Scripts.{status_behind}
use Rattle.ice_top.specs.Tasks.{CallsFor}
use Rattle.ice_top.specs.Words.{SaysNoConnect}
use Rattle.ice_top.specs.declared.status.Status.{Status}
use Rattle.ice_top.specs.declared.status.Status.TheVariants.{Okay, Usage, Image, Loader, Read, Write, Flash, Memory, TooLong, NoThread, Link, Refuted}
use Rattle.ice_top.specs.declared.task_kind.Task.TheVariants.{Connect}
use Rattle.ice_top.proofs.Commands.{connected_says}

module _ {L : Type 0} (words : Words L) where
  -- a new host ran the script
  pub RunsShell-of : (end : ScriptEnd) (before after : Line) (from to : L) (host host_then : Hosted L) → host ≡ new_host from →
      ScriptEnds words (scene host before.left before.source_faults before.written before.sink_faults)
      (scene host_then after.left after.source_faults after.written after.sink_faults) end →
      to ≡ host_then.standing.link → RunsShell words end before after from to
  RunsShell-of end before after from to host host_then new ends link =
      let Ended : Hosted L → Type 0 = λ h. ScriptEnds words (scene h before.left before.source_faults before.written before.sink_faults)
      (scene host_then after.left after.source_faults after.written after.sink_faults) end in
      record { host = host_then; ends = subst Ended new ends; link = link }

  module _ (status : Status) (before after : Ends) (from to : L) where
    -- the status is that of its end
    pub OpensShell-ran : (end : ScriptEnd) → status ≡ status_behind end true → RunsShell words end before.line after.line from to →
        NotesStill before after → OpensShell words status before after from to
    OpensShell-ran Done is runs still = subst (λ (s : Status). OpensShell words s before after from to) (sym is) (runs, still)
    OpensShell-ran Unread is runs still = subst (λ (s : Status). OpensShell words s before after from to) (sym is) (runs, still)
    OpensShell-ran Unsent is runs still = subst (λ (s : Status). OpensShell words s before after from to) (sym is) (runs, still)
    OpensShell-ran Unanswered is runs still = subst (λ (s : Status). OpensShell words s before after from to) (sym is) (runs, still)
    OpensShell-ran Long is runs still = subst (λ (s : Status). OpensShell words s before after from to) (sym is) (runs, still)

    -- there was no memory for a host
    pub OpensShell-memory : status ≡ Memory → after.line ≡ before.line → NotesLine before after (line (codes "memory")) → to ≡ from →
        OpensShell words status before after from to
    OpensShell-memory is still noted same =
        subst (λ (s : Status). OpensShell words s before after from to) (sym is) ((still, noted), same)

    -- the words say no such call
    pub ConnectsBy-usage : (said : List (List ℕ)) → status ≡ Usage → SaysNoConnect said → after.line ≡ before.line →
        NotesLine before after (line (codes "usage")) → to ≡ from → ConnectsBy words status said before after from to
    ConnectsBy-usage said is none still noted same =
        subst (λ (s : Status). ConnectsBy words s said before after from to) (sym is) (none, (still, noted), same)

  -- the words say one
  by_status : (status : Status) (said : List (List ℕ)) (before after : Ends) (from to : L) → SaysConnect said →
      OpensShell words status before after from to → ConnectsBy words status said before after from to
  by_status Memory said before after from to says opens = (says, opens)
  by_status Okay said before after from to says opens = (says, opens)
  by_status Read said before after from to says opens = (says, opens)
  by_status Write said before after from to says opens = (says, opens)
  by_status Link said before after from to says opens = (says, opens)
  by_status TooLong said before after from to says opens = (says, opens)
  by_status Usage said before after from to says opens = absurd opens
  by_status Image said before after from to says opens = absurd opens
  by_status Loader said before after from to says opens = absurd opens
  by_status Flash said before after from to says opens = absurd opens
  by_status NoThread said before after from to says opens = absurd opens
  by_status Refuted said before after from to says opens = absurd opens

  pub ConnectsBy-opens : (status : Status) (said : List (List ℕ)) (before after : Ends) (from to : L) (port : ℕ) →
      CallsFor said (Connect port) → OpensShell words status before after from to → ConnectsBy words status said before after from to
  ConnectsBy-opens status said before after from to port calls opens =
      let found = connected_says said port calls.form calls.part calls.says calls.ends in
      by_status status said before after from to (record { port = port; part = found.0; says = found.1 }) opens
