-- The exit status of each ending.
use Rattle.std.specs.Prelude.{ℕ}
use Rattle.ice_top.specs.declared.status.Status.{Status}
use Rattle.ice_top.specs.declared.status.Status.TheVariants.{Okay, Usage, Image, Loader, Read, Write, Flash, Memory, TooLong, NoThread, Link, Refuted}

abbrev pub code_of : Status → ℕ
code_of Okay = 0
code_of Usage = 2
code_of Image = 3
code_of Loader = 4
code_of Read = 5
code_of Write = 6
code_of Flash = 7
code_of Memory = 8
code_of TooLong = 9
code_of NoThread = 10
code_of Link = 11
code_of Refuted = 14
