-- The law of answers, as a fact.
use Rattle.std.specs.Prelude.{◌≡◌, ℕ, List}
use Rattle.part_spec.specs.Chip.{Chip}
use Rattle.record_check.specs.Answers.{IsAnswer}
use Rattle.record_check.specs.declared.answer.Answer.{Answer}

-- of the bytes that a source gives one thing is found
abbrev pub OneAnswer : Type 0
OneAnswer = (part : Chip) (prog bytes : List ℕ) (answer other : Answer) → IsAnswer part prog bytes answer →
    IsAnswer part prog bytes other → answer ≡ other
