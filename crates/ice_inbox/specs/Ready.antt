-- That a job may be advanced is a fact.
use mathlib.Core.HLevel.{Unit-prop}
use Rattle.avr_spec.specs.declared.target.Ahead.{Ahead}
use Rattle.avr_spec.specs.declared.target.Ahead.TheVariants.{Interrupt, Ready, Break, Undefined}
use Rattle.run_control.specs.Runs.{IsStep}

-- so is that a step is ahead
pub IsStep-prop : (a : Ahead) → IsProp (IsStep a)
IsStep-prop Interrupt = Unit-prop
IsStep-prop Ready = Unit-prop
IsStep-prop Break = λ x y. absurd x
IsStep-prop Undefined = λ x y. absurd x
