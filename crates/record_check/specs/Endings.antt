-- How the check of a record ends: what was read of the source, and what was put to the sink.
use Rattle.std.specs.Prelude.{◌≡◌, ◌⊎◌, ℕ, ◌<◌, ◌≤◌, List, [], ◌++◌, Option, length}
use Rattle.std.specs.Io.KnownBytes.{Consumes, IsAtEnd}
use Rattle.part_spec.specs.Chip.{Chip}
use Rattle.line_spec.specs.Frames.{IsBytes}
use Rattle.ice_base.specs.Counts.{Rose}
use Rattle.ice_line.specs.Lines.{Line, WritesAll, WritesFront, IsStill}
use Rattle.ice_line.specs.Reads.{input_limit}
use Rattle.ice_line.specs.declared.reading.TheConstants.{CHUNK}
use Rattle.ice_verify.specs.declared.verifier.Verdict.{Verdict}
use Rattle.record_check.specs.Answers.{IsOnTheWay, AnswersAtEnd, AnswersAtLine, answer_text}
use Rattle.record_check.specs.declared.answer.Answer.{Answer}
use Rattle.record_check.specs.declared.answer.Answer.TheVariants.{Fits, Fails}
use Rattle.record_check.specs.declared.stream.CheckEnd.{CheckEnd}
use Rattle.record_check.specs.declared.stream.CheckEnd.TheVariants.{Okay, Refuted, Read, Write, TooLong}
use Rattle.record_check.specs.declared.stream.Found.{Found}
use Rattle.record_check.specs.declared.stream.Found.TheVariants.{Answered, Read as Unread, TooLong as Long}

-- these bytes were read, and others behind them that were not looked at
pub record HasRead (before after : Option (List ℕ)) (bytes extra : List ℕ) : Type 0 where
  pub consumed : Consumes before after (bytes ++ extra)
  pub most : length bytes ≤ input_limit
  pub valid : IsBytes bytes

-- this is found of the bytes that were read: at a line, behind which at most what one read brought was read too; or at the end of the source
pub record IsAnswered (answer : Answer) (part : Chip) (prog : List ℕ) (before after : Option (List ℕ)) : Type 0 where
  pub bytes : List ℕ
  pub extra : List ℕ
  pub read : HasRead before after bytes extra
  pub answers : (AnswersAtLine part prog bytes answer × (length extra < CHUNK)) ⊎
      (AnswersAtEnd part prog bytes answer × (extra ≡ []) × IsAtEnd after)

-- nothing is found of them, and so many more were read
pub record IsUndecided (part : Chip) (prog : List ℕ) (before after : Option (List ℕ)) (more : ℕ) : Type 0 where
  pub bytes : List ℕ
  pub extra : List ℕ
  pub read : HasRead before after bytes extra
  pub on_the_way : IsOnTheWay part prog bytes
  pub few : length extra ≡ more
  pub full : 0 < more → length bytes ≡ input_limit

-- how a reading ends: an answer is found; a read fails; or the source gives one byte more than are checked
abbrev pub IsFound : Found → Chip → (prog : List ℕ) → (before after : Option (List ℕ)) → (faults faults_now : ℕ) → Type 0
IsFound (Answered answer) part prog before after faults faults_now =
    IsAnswered answer part prog before after × IsStill faults faults_now
IsFound Unread part prog before after faults faults_now = IsUndecided part prog before after 0 × Rose faults faults_now
IsFound Long part prog before after faults faults_now = IsUndecided part prog before after 1 × IsStill faults faults_now

-- what was found is put, all of the line or a front of it
abbrev pub Puts : CheckEnd → Answer → (before after : Option (List ℕ)) → (faults faults_now : ℕ) → Type 0
Puts Okay answer before after faults faults_now = (answer ≡ Fits) × WritesAll before after faults faults_now (answer_text answer)
Puts Refuted answer before after faults faults_now = ((verdict : Verdict) × (number : ℕ) × (answer ≡ Fails verdict number)) ×
    WritesAll before after faults faults_now (answer_text answer)
Puts Write answer before after faults faults_now = WritesFront before after faults faults_now (answer_text answer)
Puts Read answer before after faults faults_now = ⊥
Puts TooLong answer before after faults faults_now = ⊥

-- an answer was found, with no failed read, and put so
pub record HasAnswered (end : CheckEnd) (part : Chip) (prog : List ℕ) (before after : Line) : Type 0 where
  pub answer : Answer
  pub answered : IsAnswered answer part prog before.left after.left
  pub still : IsStill before.source_faults after.source_faults
  pub puts : Puts end answer before.written after.written before.sink_faults after.sink_faults

-- nothing was put
abbrev pub IsUnsent : (before after : Line) → Type 0
IsUnsent before after = (after.written ≡ before.written) × IsStill before.sink_faults after.sink_faults

-- how a check ends
abbrev pub IsChecked : CheckEnd → Chip → (prog : List ℕ) → (before after : Line) → Type 0
IsChecked Okay part prog before after = HasAnswered Okay part prog before after
IsChecked Refuted part prog before after = HasAnswered Refuted part prog before after
IsChecked Write part prog before after = HasAnswered Write part prog before after
IsChecked Read part prog before after = IsUndecided part prog before.left after.left 0 × Rose before.source_faults after.source_faults ×
    IsUnsent before after
IsChecked TooLong part prog before after = IsUndecided part prog before.left after.left 1 ×
    IsStill before.source_faults after.source_faults × IsUnsent before after
