-- What is found of bytes that are to be a record of a session over a program, and the line that says it.
use Rattle.std.specs.Prelude.{◌≡◌, ◌⊎◌, ℕ, suc, ◌+◌, ◌<◌, ◌≤◌, false, List, [], ◌∷◌, ◌++◌, length, All, codes}
use Rattle.std.specs.Fmt.{decimal}
use Rattle.part_spec.specs.Chip.{Chip}
use Rattle.shell_spec.specs.Words.{line_feed}
use Rattle.shell_spec.specs.Text.{IsOpen}
use Rattle.record_spec.specs.declared.limits.TheConstants.{LINE_LIMIT, STEP_LIMIT}
use Rattle.record_spec.specs.Lines.{Line, IsText}
use Rattle.record_spec.specs.Fits.{Point, beginning, Fits}
use Rattle.record_spec.specs.Judging.{IsBad, IsLong, IsRefuted, GoesOn}
use Rattle.ice_verify.specs.Checking.{is_closed_at}
use Rattle.ice_verify.specs.declared.verifier.Verdict.{Verdict}
use Rattle.ice_verify.specs.declared.verifier.Verdict.TheVariants.{Bad, Long, No as Refuted}
use Rattle.record_check.specs.declared.answer.Answer.{Answer}
use Rattle.record_check.specs.declared.answer.Answer.TheVariants.{Fits as Fit, Fails}

-- texts one behind the other, a line feed behind each
abbrev pub lines_of : List (List ℕ) → List ℕ
lines_of [] = []
lines_of (text ∷ texts) = text ++ line_feed ∷ lines_of texts

-- the texts are these lines
abbrev pub AreTexts : List (List ℕ) → List Line → Type 0
AreTexts [] [] = Unit {0}
AreTexts [] (line ∷ lines) = ⊥
AreTexts (text ∷ texts) [] = ⊥
AreTexts (text ∷ texts) (line ∷ lines) = (length text ≤ LINE_LIMIT) × IsText text line × AreTexts texts lines

-- the bytes are a record that fits the program, whose runs together make no more steps than a record that is checked may have
pub record IsRecord (part : Chip) (prog bytes : List ℕ) : Type 0 where
  pub texts : List (List ℕ)
  pub lines : List Line
  pub whole : bytes ≡ lines_of texts
  pub unended : All IsOpen texts
  pub are : AreTexts texts lines
  pub fits : Fits part prog lines
  pub steps : fits.end.steps ≤ STEP_LIMIT

-- the texts are true, one behind the other
abbrev pub Passes : Chip → List (List ℕ) → Point → Point → Type 0
Passes part [] before after = after ≡ before
Passes part (text ∷ texts) before after = (between : Point) × GoesOn part before text between × Passes part texts between after

-- the bytes begin with the lines of these texts, which are true from the beginning on, and then others stand
pub record Begins (part : Chip) (prog bytes : List ℕ) (texts : List (List ℕ)) (behind : List ℕ) (at : Point) : Type 0 where
  pub whole : bytes ≡ lines_of texts ++ behind
  pub unended : All IsOpen texts
  pub passes : Passes part texts (beginning part prog) at

-- all bytes are true lines, and one that may begin
pub record IsOnTheWay (part : Chip) (prog bytes : List ℕ) : Type 0 where
  pub texts : List (List ℕ)
  pub text : List ℕ
  pub at : Point
  pub begins : Begins part prog bytes texts text at
  pub unended : IsOpen text
  pub short : length text ≤ LINE_LIMIT

-- what is said of a text
abbrev pub IsSaid : Chip → Point → List ℕ → Verdict → Type 0
IsSaid part at text Bad = IsBad at text
IsSaid part at text Long = IsLong at text
IsSaid part at text Refuted = IsRefuted part at text

-- the text has its line feed, or is one byte longer than a line may be
abbrev pub IsTaken : (text end : List ℕ) → Type 0
IsTaken text end = (end ≡ line_feed ∷ []) ⊎ ((end ≡ []) × (length text ≡ suc LINE_LIMIT))

-- the bytes end with a line that has this number and, first of all, a verdict
pub record Stops (part : Chip) (prog bytes : List ℕ) (verdict : Verdict) (number : ℕ) : Type 0 where
  pub texts : List (List ℕ)
  pub text : List ℕ
  pub end : List ℕ
  pub at : Point
  pub begins : Begins part prog bytes texts (text ++ end) at
  pub unended : IsOpen text
  pub taken : IsTaken text end
  pub said : IsSaid part at text verdict
  pub counted : number ≡ suc (length texts)

-- the bytes end in a line with no line feed, which has this number
pub record IsCutOff (part : Chip) (prog bytes : List ℕ) (number : ℕ) : Type 0 where
  pub texts : List (List ℕ)
  pub text : List ℕ
  pub at : Point
  pub begins : Begins part prog bytes texts text at
  pub unended : IsOpen text
  pub some : 0 < length text
  pub short : length text ≤ LINE_LIMIT
  pub counted : number ≡ suc (length texts)

-- the bytes end behind a line, before the session is closed and all is told; the line that would come next has this number
pub record IsUnclosed (part : Chip) (prog bytes : List ℕ) (number : ℕ) : Type 0 where
  pub texts : List (List ℕ)
  pub at : Point
  pub begins : Begins part prog bytes texts [] at
  pub goes_on : is_closed_at at ≡ false
  pub counted : number ≡ suc (length texts)

-- what is found of bytes behind which none comes, and of which no line has a verdict
abbrev pub AnswersAtEnd : Chip → (prog bytes : List ℕ) → Answer → Type 0
AnswersAtEnd part prog bytes Fit = IsRecord part prog bytes
AnswersAtEnd part prog bytes (Fails Bad number) = IsCutOff part prog bytes number
AnswersAtEnd part prog bytes (Fails Long number) = ⊥
AnswersAtEnd part prog bytes (Fails Refuted number) = IsUnclosed part prog bytes number

-- and of those that end where a line has one
abbrev pub AnswersAtLine : Chip → (prog bytes : List ℕ) → Answer → Type 0
AnswersAtLine part prog bytes Fit = ⊥
AnswersAtLine part prog bytes (Fails verdict number) = Stops part prog bytes verdict number

-- what is found of all bytes that a source gives
abbrev pub IsAnswer : Chip → (prog bytes : List ℕ) → Answer → Type 0
IsAnswer part prog bytes answer = ((front behind : List ℕ) × (bytes ≡ front ++ behind) × AnswersAtLine part prog front answer) ⊎
    AnswersAtEnd part prog bytes answer

-- the word for a verdict
abbrev pub verdict_text : Verdict → List ℕ
verdict_text Bad = codes "bad"
verdict_text Long = codes "long"
verdict_text Refuted = codes "no"

-- the line that says what was found
abbrev pub answer_text : Answer → List ℕ
answer_text Fit = codes "yes" ++ line_feed ∷ []
answer_text (Fails verdict number) = verdict_text verdict ++ codes " " ++ decimal number ++ line_feed ∷ []
