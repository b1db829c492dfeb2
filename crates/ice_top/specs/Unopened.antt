-- The statuses of a call of which no session opened.
use Rattle.ice_top.specs.declared.status.Status.{Status}
use Rattle.ice_top.specs.declared.status.Status.TheVariants.{Okay, Usage, Image, Loader, Read, Write, Flash as Unwritten, Memory, TooLong}
use Rattle.ice_top.specs.declared.status.Status.TheVariants.{NoThread, Link, Refuted}

-- the status is that of a call of which no session opened
abbrev pub IsUnopened : Status → Type 0
IsUnopened Usage = Unit {0}
IsUnopened Image = Unit {0}
IsUnopened Loader = Unit {0}
IsUnopened Memory = Unit {0}
IsUnopened Okay = ⊥
IsUnopened Read = ⊥
IsUnopened Write = ⊥
IsUnopened TooLong = ⊥
IsUnopened Unwritten = ⊥
IsUnopened NoThread = ⊥
IsUnopened Link = ⊥
IsUnopened Refuted = ⊥
