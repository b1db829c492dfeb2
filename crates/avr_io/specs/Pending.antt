-- Whether any interrupt is pending.
use Rattle.std.specs.Prelude.{ℕ, Bool, ◌||◌, ◌==◌}
use Rattle.avr_spec.specs.declared.target.Vector.TheVariants.{Comp2, Ovf2, Ovf0, Comp0}
use Rattle.avr_spec.specs.IoSpace.{IoState, tifr, timsk}
use Rattle.avr_spec.specs.Interrupts.{is_pending}
use Rattle.avr_io.specs.TimerOf.{is_timer}

-- an interrupt is pending
abbrev pub is_any_pending : IoState → Bool
is_any_pending io = is_pending io Comp2 || is_pending io Ovf2 || is_pending io Ovf0 || is_pending io Comp0

-- a store at this I/O address may change when an interrupt is pending
abbrev pub is_watched : ℕ → Bool
is_watched a = is_timer a || ((a == tifr) || (a == timsk))
