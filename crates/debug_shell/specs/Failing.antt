-- Why a host has no answer, as it is printed.
use Rattle.std.specs.Prelude.{ℕ, List, codes}
use Rattle.host_session.specs.declared.error.HostError.{HostError}
use Rattle.host_session.specs.declared.error.HostError.TheVariants.{Link, NoReply, Closed, BadReply, EventsFull}
use Rattle.shell_spec.specs.Printed.{line, closed_text, events_full_text}

abbrev pub failure_text : HostError → List ℕ
failure_text Link = line (codes "! link")
failure_text NoReply = line (codes "! no reply")
failure_text Closed = closed_text
failure_text (BadReply read) = line (codes "! bad reply")
failure_text (EventsFull event) = events_full_text
