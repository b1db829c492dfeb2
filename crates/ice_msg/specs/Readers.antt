-- The commands that need no reader of their own.
use Rattle.line_spec.specs.Messages.{Command, sign_off, get_sign_on, read_pc, go, forced_stop, reset, get_sync, chip_erase, enter_programming, leave_programming, clear_events}

-- commands with nothing behind their code
abbrev pub IsBare : Command → Type 0
IsBare sign_off = Unit {0}
IsBare get_sign_on = Unit {0}
IsBare read_pc = Unit {0}
IsBare go = Unit {0}
IsBare get_sync = Unit {0}
IsBare chip_erase = Unit {0}
IsBare enter_programming = Unit {0}
IsBare leave_programming = Unit {0}
IsBare clear_events = Unit {0}
IsBare _ = ⊥

-- commands with one byte of flags behind their code, or nothing
abbrev pub IsFlagged : Command → Type 0
IsFlagged forced_stop = Unit {0}
IsFlagged reset = Unit {0}
IsFlagged _ = ⊥
