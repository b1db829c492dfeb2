-- What a step answers, by what the book sees ahead of it.
use Rattle.avr_spec.specs.declared.target.Ahead.{Ahead}
use Rattle.avr_spec.specs.declared.target.Ahead.TheVariants.{Interrupt, Ready, Break, Undefined}
use Rattle.avr_core.specs.declared.step.Stepped.{Stepped}
use Rattle.avr_core.specs.declared.step.Stepped.TheVariants.{Ran, AtBreak, AtUndefined}

-- a step runs, or stands at a BREAK or at a word that does not run
abbrev pub answer_of : Ahead → Stepped
answer_of Interrupt = Ran
answer_of Ready = Ran
answer_of Break = AtBreak
answer_of Undefined = AtUndefined
