-- How the shell over a link ends.
use Rattle.std.specs.Prelude.{◌≡◌, true, List, [], ℕ, codes}
use Rattle.host_session.specs.Standing.{Hosted}
use Rattle.host_session.specs.Words.{Words}
use Rattle.debug_shell.specs.Endings.{scene, EndsBy as ScriptEnds}
use Rattle.debug_shell.specs.declared.script_end.ScriptEnd.{ScriptEnd}
use Rattle.debug_shell.specs.declared.script_end.ScriptEnd.TheVariants.{Done, Read as Unread, Write as Unsent, Link as Unanswered}
use Rattle.debug_shell.specs.declared.script_end.ScriptEnd.TheVariants.{TooLong as Long}
use Rattle.ice_line.specs.Lines.{Line}
use Rattle.ice_top.specs.Words.{Says, connecting, SaysNoConnect}
use Rattle.ice_top.specs.Notes.{line}
use Rattle.ice_top.specs.Outside.{Ends, NotOpened, NotesStill}
use Rattle.ice_top.specs.declared.status.Status.{Status}
use Rattle.ice_top.specs.declared.status.Status.TheVariants.{Okay, Usage, Image, Loader, Read, Write, Flash, Memory, TooLong, NoThread, Link, Refuted}
use Rattle.part_spec.specs.declared.part.Part.{Part}

-- a host over a link that was asked nothing yet
abbrev pub new_host : {L : Type 0} → L → Hosted L
new_host link = record { standing = record { link = link; pending = []; kept = [] }; number = 0 }

-- the lines of the source were run by a new host over the link, and their texts put, up to this end; its link is given back as it then is
pub record RunsShell {L : Type 0} (words : Words L) (end : ScriptEnd) (before after : Line) (from to : L) : Type 0 where
  pub host : Hosted L
  pub ends : ScriptEnds words (scene (new_host from) before.left before.source_faults before.written before.sink_faults)
      (scene host after.left after.source_faults after.written after.sink_faults) end
  pub link : to ≡ host.standing.link

-- the words say the shell over a port
pub record SaysConnect (words : List (List ℕ)) : Type 0 where
  pub port : ℕ
  pub part : Part
  pub says : Says words (connecting port) part

-- such a call ended so: there was no memory for a host, or the shell ran to its end and nothing was noted
abbrev pub OpensShell : {L : Type 0} → Words L → Status → (before after : Ends) → (from to : L) → Type 0
OpensShell words Memory before after from to = NotOpened before after (line (codes "memory")) × (to ≡ from)
OpensShell words Okay before after from to = RunsShell words Done before.line after.line from to × NotesStill before after
OpensShell words Read before after from to = RunsShell words Unread before.line after.line from to × NotesStill before after
OpensShell words Write before after from to = RunsShell words Unsent before.line after.line from to × NotesStill before after
OpensShell words Link before after from to = RunsShell words Unanswered before.line after.line from to × NotesStill before after
OpensShell words TooLong before after from to = RunsShell words Long before.line after.line from to × NotesStill before after
OpensShell words Usage before after from to = ⊥
OpensShell words Image before after from to = ⊥
OpensShell words Loader before after from to = ⊥
OpensShell words Flash before after from to = ⊥
OpensShell words NoThread before after from to = ⊥
OpensShell words Refuted before after from to = ⊥

-- what each status says: the words say no shell over a port, or one that ended so
abbrev pub ConnectsBy : {L : Type 0} → Words L → Status → (said : List (List ℕ)) → (before after : Ends) → (from to : L) → Type 0
ConnectsBy words Usage said before after from to = SaysNoConnect said × NotOpened before after (line (codes "usage")) × (to ≡ from)
ConnectsBy words Memory said before after from to = SaysConnect said × OpensShell words Memory before after from to
ConnectsBy words Okay said before after from to = SaysConnect said × OpensShell words Okay before after from to
ConnectsBy words Read said before after from to = SaysConnect said × OpensShell words Read before after from to
ConnectsBy words Write said before after from to = SaysConnect said × OpensShell words Write before after from to
ConnectsBy words Link said before after from to = SaysConnect said × OpensShell words Link before after from to
ConnectsBy words TooLong said before after from to = SaysConnect said × OpensShell words TooLong before after from to
ConnectsBy words Image said before after from to = ⊥
ConnectsBy words Loader said before after from to = ⊥
ConnectsBy words Flash said before after from to = ⊥
ConnectsBy words NoThread said before after from to = ⊥
ConnectsBy words Refuted said before after from to = ⊥
