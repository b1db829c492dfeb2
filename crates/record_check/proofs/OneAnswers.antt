-- Of the bytes that a source gives one thing is found.
use Rattle.std.proofs.Common.{◌≡◌, ℕ, suc, ◌+◌, ◌<◌, ◌≤◌, Bool, true, false, not, is_some, ◌&&◌, List, [], ◌∷◌, ◌++◌, Option, None, Some, length, refl, sym, ap, ◌∙◌, subst, arith, inl, inr, append_assoc, append-nil, length-append}
use Rattle.std.specs.Prelude.{◌⊎◌, All}
use Rattle.std.proofs.lemmas.List.Elements.{All-head, All-tail}
use Rattle.part_spec.specs.Chip.{Chip}
use Rattle.shell_spec.specs.Words.{line_feed}
use Rattle.shell_spec.specs.Text.{IsOpen}
use Rattle.debug_spec.specs.SessionLaws.{is_closed}
use Rattle.record_spec.specs.declared.limits.TheConstants.{LINE_LIMIT, STEP_LIMIT}
use Rattle.record_spec.specs.Lines.{Line, event, out}
use Rattle.record_spec.specs.Fits.{Point, Follows, Reaches, beginning, is_placed, steps_in}
use Rattle.record_spec.specs.Judging.{GoesOn}
use Rattle.record_spec.proofs.OneLines.{one_line}
use Rattle.record_spec.proofs.Ways.{one_way}
use Rattle.ice_verify.specs.Checking.{is_closed_at}
use Rattle.ice_verify.specs.declared.verifier.Verdict.{Verdict}
use Rattle.ice_verify.specs.declared.verifier.Verdict.TheVariants.{Bad, Long, No as Refuted}
use Rattle.record_check.specs.Answers.{AnswersAtEnd, AnswersAtLine, AreTexts, Begins, IsAnswer, IsRecord, IsSaid, IsTaken, Passes, Stops, lines_of}
use Rattle.record_check.specs.AnswerLaws.{OneAnswer}
use Rattle.record_check.specs.declared.answer.Answer.{Answer}
use Rattle.record_check.specs.declared.answer.Answer.TheVariants.{Fits as Fit, Fails}
use Rattle.record_check.proofs.Passing.{steps_behind}
use Rattle.record_check.proofs.LineEnds.{no_feed, no_longer, one_text}

-- a text longer than a line may be is bad
long_is_bad : (part : Chip) (at_ : Point) (text : List ℕ) (verdict : Verdict) → IsSaid part at_ text verdict → LINE_LIMIT < length text →
    verdict ≡ Bad
long_is_bad part at_ text Bad h more = refl
long_is_bad part at_ text Long h more = absurd (omega (arith, h.1.short, more))
long_is_bad part at_ text Refuted h more = absurd (omega (arith, h.1.short, more))

-- one thing is said of a text
too_many : (at_ : Point) (line other : Line) → line ≡ other → STEP_LIMIT < at_.steps + steps_in line → at_.steps + steps_in other ≤ STEP_LIMIT → ⊥
too_many at_ line other same more most = omega (arith, more, most, ap steps_in same)

one_verdict : (part : Chip) (at_ : Point) (text : List ℕ) (verdict other : Verdict) → IsSaid part at_ text verdict → IsSaid part at_ text other →
    verdict ≡ other
one_verdict part at_ text Bad Bad h k = refl
one_verdict part at_ text Bad Long h k = absurd (h k.0 k.1)
one_verdict part at_ text Bad Refuted h k = absurd (h k.0 k.1)
one_verdict part at_ text Long Bad h k = absurd (k h.0 h.1)
one_verdict part at_ text Long Long h k = refl
one_verdict part at_ text Long Refuted h k =
    absurd (too_many at_ h.0 k.0 (one_line text h.0 k.0 h.1.is k.1.is) h.2 k.2)
one_verdict part at_ text Refuted Bad h k = absurd (k h.0 h.1)
one_verdict part at_ text Refuted Long h k =
    absurd (too_many at_ k.0 h.0 (one_line text k.0 h.0 k.1.is h.1.is) k.2 h.2)
one_verdict part at_ text Refuted Refuted h k = refl

-- and of a true one nothing
true_is_unsaid : (part : Chip) (at_ : Point) (text : List ℕ) (after : Point) (verdict : Verdict) → GoesOn part at_ text after →
    IsSaid part at_ text verdict → ⊥
true_is_unsaid part at_ text after Bad goes h = h goes.0 goes.1
true_is_unsaid part at_ text after Long goes h =
    too_many at_ h.0 goes.0 (one_line text h.0 goes.0 h.1.is goes.1.is) h.2 goes.2
true_is_unsaid part at_ text after Refuted goes h =
    let same : goes.0 ≡ h.0 = one_line text goes.0 h.0 goes.1.is h.1.is in
    h.3 after (subst (λ (line : Line). Follows part line at_ after) same goes.3)

-- which leads to one point
one_point : (part : Chip) (at_ : Point) (text other_text : List ℕ) (after other : Point) → text ≡ other_text → GoesOn part at_ text after →
    GoesOn part at_ other_text other → after ≡ other
one_point part at_ text other_text after other is goes others =
    let there : GoesOn part at_ text other = subst (λ (t : List ℕ). GoesOn part at_ t other) (sym is) others in
    let same : there.0 ≡ goes.0 = one_line text there.0 goes.0 there.1.is goes.1.is in
    one_way part goes.0 at_ after other goes.3 (subst (λ (line : Line). Follows part line at_ other) same there.3)

-- what is found at the end of bytes
abbrev end_answer : (closed : Bool) → (count : ℕ) → Answer
end_answer true count = Fit
end_answer false count = Fails Refuted (suc count)

-- what is found at a point, behind so many lines, of the bytes that are to come: at a line; at bytes that are cut off; or at the end
record AtLine (part : Chip) (at_ : Point) (count : ℕ) (rest : List ℕ) (answer : Answer) : Type 0 where
  pub text : List ℕ
  pub end : List ℕ
  pub more : List ℕ
  pub verdict : Verdict
  pub whole : rest ≡ (text ++ end) ++ more
  pub unended : IsOpen text
  pub taken : IsTaken text end
  pub said : IsSaid part at_ text verdict
  pub is : answer ≡ Fails verdict (suc count)

record AtCut (count : ℕ) (rest : List ℕ) (answer : Answer) : Type 0 where
  pub unended : IsOpen rest
  pub some : 0 < length rest
  pub short : length rest ≤ LINE_LIMIT
  pub is : answer ≡ Fails Bad (suc count)

record AtEnd (at_ : Point) (count : ℕ) (rest : List ℕ) (answer : Answer) : Type 0 where
  pub none : rest ≡ []
  pub is : answer ≡ end_answer (is_closed_at at_) count

abbrev Here : Chip → (at_ : Point) → (count : ℕ) → (rest : List ℕ) → Answer → Type 0
Here part at_ count rest answer = AtLine part at_ count rest answer ⊎ (AtCut count rest answer ⊎ AtEnd at_ count rest answer)

-- a line with its line feed
fed : (text end more : List ℕ) → end ≡ line_feed ∷ [] → (text ++ end) ++ more ≡ text ++ line_feed ∷ more
fed text end more is = ap (λ (e : List ℕ). (text ++ e) ++ more) is ∙ append_assoc text (line_feed ∷ []) more

-- and one without
unfed : (text end more : List ℕ) → end ≡ [] → (text ++ end) ++ more ≡ text ++ more
unfed text end more is = ap (λ (e : List ℕ). (text ++ e) ++ more) is ∙ ap (λ (t : List ℕ). t ++ more) (append-nil text)

module _ (part : Chip) (at_ : Point) (count : ℕ) where
  -- nothing is found at a true line
  true_line : (text more : List ℕ) (after : Point) (answer : Answer) → GoesOn part at_ text after → IsOpen text →
      Here part at_ count (text ++ line_feed ∷ more) answer → ⊥
  true_line text more after answer goes open_ (inl h) = elim h.taken [
    | inl feed ↦
        let same = one_text text h.text more h.more open_ h.unended (h.whole ∙ fed h.text h.end h.more feed) in
        true_is_unsaid part at_ text after h.verdict goes (subst (λ (t : List ℕ). IsSaid part at_ t h.verdict) (sym same.0) h.said)
    | inr long ↦
        let most = no_longer h.text text h.more more h.unended (sym (h.whole ∙ unfed h.text h.end h.more long.0)) in
        omega (arith, most, long.1, goes.1.short)
  ]
  true_line text more after answer goes open_ (inr (inl h)) = no_feed (text ++ line_feed ∷ more) text more h.unended refl
  true_line text more after answer goes open_ (inr (inr h)) = omega (arith, ap length h.none, length-append text (line_feed ∷ more))

  -- one thing is found at a line
  at_one_line : (rest : List ℕ) (answer other : Answer) → AtLine part at_ count rest answer → AtLine part at_ count rest other → answer ≡ other
  at_one_line rest answer other h k = h.is ∙ ap (λ (v : Verdict). Fails v (suc count)) (same h.taken k.taken) ∙ sym k.is
    where
      both : (h.text ++ h.end) ++ h.more ≡ (k.text ++ k.end) ++ k.more
      both = sym h.whole ∙ k.whole

      same : IsTaken h.text h.end → IsTaken k.text k.end → h.verdict ≡ k.verdict
      same (inl a) (inl b) =
          let texts = one_text h.text k.text h.more k.more h.unended k.unended
          (sym (fed h.text h.end h.more a) ∙ both ∙ fed k.text k.end k.more b) in
          one_verdict part at_ h.text h.verdict k.verdict h.said (subst (λ (t : List ℕ). IsSaid part at_ t k.verdict) (sym texts.0) k.said)
      same (inl a) (inr b) =
          let most = no_longer k.text h.text k.more h.more k.unended
          (sym (unfed k.text k.end k.more b.0) ∙ sym both ∙ fed h.text h.end h.more a) in
          long_is_bad part at_ h.text h.verdict h.said (omega (arith, most, b.1)) ∙
          sym (long_is_bad part at_ k.text k.verdict k.said (omega (arith, b.1)))
      same (inr a) (inl b) =
          let most = no_longer h.text k.text h.more k.more h.unended
          (sym (unfed h.text h.end h.more a.0) ∙ both ∙ fed k.text k.end k.more b) in
          long_is_bad part at_ h.text h.verdict h.said (omega (arith, a.1)) ∙
          sym (long_is_bad part at_ k.text k.verdict k.said (omega (arith, most, a.1)))
      same (inr a) (inr b) =
          long_is_bad part at_ h.text h.verdict h.said (omega (arith, a.1)) ∙
          sym (long_is_bad part at_ k.text k.verdict k.said (omega (arith, b.1)))

  -- none where the bytes are cut off
  line_not_cut : (rest : List ℕ) (answer other : Answer) → AtLine part at_ count rest answer → AtCut count rest other → ⊥
  line_not_cut rest answer other h k = elim h.taken [
    | inl feed ↦ no_feed rest h.text h.more k.unended (h.whole ∙ fed h.text h.end h.more feed)
    | inr long ↦ omega (arith, long.1, k.short, ap length (h.whole ∙ unfed h.text h.end h.more long.0), length-append h.text h.more)
  ]

  line_not_end : (rest : List ℕ) (answer other : Answer) → AtLine part at_ count rest answer → AtEnd at_ count rest other → ⊥
  line_not_end rest answer other h k = elim h.taken [
    | inl feed ↦ omega (arith, ap length k.none, ap length (h.whole ∙ fed h.text h.end h.more feed), length-append h.text (line_feed ∷ h.more))
    | inr long ↦ omega (arith, ap length k.none, long.1, ap length (h.whole ∙ unfed h.text h.end h.more long.0), length-append h.text h.more)
  ]

  cut_not_end : (rest : List ℕ) (answer other : Answer) → AtCut count rest answer → AtEnd at_ count rest other → ⊥
  cut_not_end rest answer other h k = omega (arith, h.some, ap length k.none)

  one_here : (rest : List ℕ) (answer other : Answer) → Here part at_ count rest answer → Here part at_ count rest other → answer ≡ other
  one_here rest answer other (inl h) (inl k) = at_one_line rest answer other h k
  one_here rest answer other (inl h) (inr (inl k)) = absurd (line_not_cut rest answer other h k)
  one_here rest answer other (inl h) (inr (inr k)) = absurd (line_not_end rest answer other h k)
  one_here rest answer other (inr (inl h)) (inl k) = absurd (line_not_cut rest other answer k h)
  one_here rest answer other (inr (inl h)) (inr (inl k)) = h.is ∙ sym k.is
  one_here rest answer other (inr (inl h)) (inr (inr k)) = absurd (cut_not_end rest answer other h k)
  one_here rest answer other (inr (inr h)) (inl k) = absurd (line_not_end rest other answer k h)
  one_here rest answer other (inr (inr h)) (inr (inl k)) = absurd (cut_not_end rest other answer k h)
  one_here rest answer other (inr (inr h)) (inr (inr k)) = h.is ∙ sym k.is

-- what is found of bytes, at a point behind true lines
record Found (part : Chip) (from : Point) (before : ℕ) (bytes : List ℕ) (answer : Answer) : Type 0 where
  pub texts : List (List ℕ)
  pub rest : List ℕ
  pub at : Point
  pub count : ℕ
  pub whole : bytes ≡ lines_of texts ++ rest
  pub unended : All IsOpen texts
  pub passes : Passes part texts from at
  pub counted : count ≡ before + length texts
  pub here : Here part at count rest answer

-- such lines are the same, up to where something is found
one_found : (part : Chip) (from : Point) (before : ℕ) (texts others : List (List ℕ)) (rest other_rest : List ℕ) (at_ other_at : Point)
    (count other_count : ℕ) (answer other : Answer) → lines_of texts ++ rest ≡ lines_of others ++ other_rest → All IsOpen texts →
    All IsOpen others → Passes part texts from at_ → Passes part others from other_at → count ≡ before + length texts →
    other_count ≡ before + length others → Here part at_ count rest answer → Here part other_at other_count other_rest other → answer ≡ other
one_found part from before [] [] rest other_rest at_ other_at count other_count answer other whole open_ open_too passes passes_too counted
    counted_too here here_too =
    let first : Here part from count rest answer = subst (λ (p : Point). Here part p count rest answer) passes here in
    let second : Here part from other_count other_rest other =
    subst (λ (p : Point). Here part p other_count other_rest other) passes_too here_too in
    let counts : other_count ≡ count = omega (arith, counted, counted_too) in
    one_here part from count rest answer other first
    (subst (λ (l : List ℕ). Here part from count l other) (sym whole)
    (subst (λ (n : ℕ). Here part from n other_rest other) counts second))
one_found part from before [] (text ∷ others) rest other_rest at_ other_at count other_count answer other whole open_ open_too passes passes_too
    counted counted_too here here_too =
    let first : Here part from count rest answer = subst (λ (p : Point). Here part p count rest answer) passes here in
    absurd (true_line part from count text (lines_of others ++ other_rest) passes_too.0 answer passes_too.1 (All-head IsOpen text others open_too)
    (subst (λ (l : List ℕ). Here part from count l answer) (whole ∙ append_assoc text (line_feed ∷ lines_of others) other_rest) first))
one_found part from before (text ∷ texts) [] rest other_rest at_ other_at count other_count answer other whole open_ open_too passes passes_too
    counted counted_too here here_too =
    let second : Here part from other_count other_rest other =
    subst (λ (p : Point). Here part p other_count other_rest other) passes_too here_too in
    absurd (true_line part from other_count text (lines_of texts ++ rest) passes.0 other passes.1 (All-head IsOpen text texts open_)
    (subst (λ (l : List ℕ). Here part from other_count l other) (sym whole ∙ append_assoc text (line_feed ∷ lines_of texts) rest) second))
one_found part from before (text ∷ texts) (first ∷ others) rest other_rest at_ other_at count other_count answer other whole open_ open_too
    passes passes_too counted counted_too here here_too =
    let same = one_text text first (lines_of texts ++ rest) (lines_of others ++ other_rest) (All-head IsOpen text texts open_)
    (All-head IsOpen first others open_too)
    (sym (append_assoc text (line_feed ∷ lines_of texts) rest) ∙ whole ∙ append_assoc first (line_feed ∷ lines_of others) other_rest) in
    let point : passes.0 ≡ passes_too.0 = one_point part from text first passes.0 passes_too.0 same.0 passes.1 passes_too.1 in
    one_found part passes.0 (suc before) texts others rest other_rest at_ other_at count other_count answer other same.1
    (All-tail IsOpen text texts open_) (All-tail IsOpen first others open_too) passes.2
    (subst (λ (p : Point). Passes part others p other_at) (sym point) passes_too.2) (omega (arith, counted)) (omega (arith, counted_too)) here here_too

-- lines that are true stand in their places
placed_by : (part : Chip) (line : Line) (before after : Point) → Follows part line before after → is_placed before.owed line ≡ true
placed_by part (event what) before after h = ap (λ (o : Option (List ℕ)). is_placed o (event what)) h.0
placed_by part (out bytes) before after h = ap (λ (o : Option (List ℕ)). is_placed o (out bytes)) h.0

-- the texts of lines that are true
passes_back : (part : Chip) (texts : List (List ℕ)) (lines : List Line) (before after : Point) → AreTexts texts lines →
    Reaches part lines before after → after.steps ≤ STEP_LIMIT → Passes part texts before after × (before.steps ≤ after.steps)
passes_back part [] [] before after are reaches few = (reaches, omega (arith, ap (λ (p : Point). p.steps) reaches))
passes_back part [] (line ∷ lines) before after are reaches few = absurd are
passes_back part (text ∷ texts) [] before after are reaches few = absurd are
passes_back part (text ∷ texts) (line ∷ lines) before after are reaches few =
    let later = passes_back part texts lines reaches.0 after are.2 reaches.2 few in
    let steps = steps_behind part line before reaches.0 reaches.1 in (
      (
        reaches.0,
        (
          line,
          record { short = are.0; is = are.1; placed = placed_by part line before reaches.0 reaches.1 },
          omega (arith, steps, later.1, few),
          reaches.1,
        ),
        later.0,
      ),
      omega (arith, steps, later.1),
    )

closed_so : (owed : Option (List ℕ)) (closed : Bool) → owed ≡ None → closed ≡ true → (not (is_some owed) && closed) ≡ true
closed_so None closed none is = is
closed_so (Some bytes) closed none is = cc

found_of : (part : Chip) (prog bytes : List ℕ) (answer : Answer) → IsAnswer part prog bytes answer →
    Found part (beginning part prog) 0 bytes answer
found_of part prog bytes Fit (inl h) = absurd h.3
found_of part prog bytes (Fails verdict number) (inl h) =
    let s : Stops part prog h.0 verdict number = h.3 in
    record {
      texts = s.texts;
      rest = (s.text ++ s.end) ++ h.1;
      at = s.at;
      count = length s.texts;
      whole = h.2 ∙ ap (λ (l : List ℕ). l ++ h.1) s.begins.whole ∙ append_assoc (lines_of s.texts) (s.text ++ s.end) h.1;
      unended = s.begins.unended;
      passes = s.begins.passes;
      counted = omega arith;
      here = inl (record {
        text = s.text;
        end = s.end;
        more = h.1;
        verdict = verdict;
        whole = refl;
        unended = s.unended;
        taken = s.taken;
        said = s.said;
        is = ap (λ (n : ℕ). Fails verdict n) s.counted;
      });
    }
found_of part prog bytes Fit (inr h) =
    let back = passes_back part h.texts h.lines (beginning part prog) h.fits.end h.are h.fits.reaches h.steps in
    record {
      texts = h.texts;
      rest = [];
      at = h.fits.end;
      count = length h.texts;
      whole = h.whole ∙ sym (append-nil (lines_of h.texts));
      unended = h.unended;
      passes = back.0;
      counted = omega arith;
      here = inr (inr (record {
        none = refl;
        is = ap (λ (b : Bool). end_answer b (length h.texts))
            (sym (closed_so h.fits.end.owed (is_closed h.fits.end.session.state.mode) h.fits.told h.fits.closed));
      }));
    }
found_of part prog bytes (Fails Bad number) (inr h) = record {
  texts = h.texts;
  rest = h.text;
  at = h.at;
  count = length h.texts;
  whole = h.begins.whole;
  unended = h.begins.unended;
  passes = h.begins.passes;
  counted = omega arith;
  here = inr (inl (record {
    unended = h.unended;
    some = h.some;
    short = h.short;
    is = ap (λ (n : ℕ). Fails Bad n) h.counted;
  }));
}
found_of part prog bytes (Fails Long number) (inr h) = absurd h
found_of part prog bytes (Fails Refuted number) (inr h) = record {
  texts = h.texts;
  rest = [];
  at = h.at;
  count = length h.texts;
  whole = h.begins.whole;
  unended = h.begins.unended;
  passes = h.begins.passes;
  counted = omega arith;
  here = inr (inr (record {
    none = refl;
    is = ap (λ (n : ℕ). Fails Refuted n) h.counted ∙ ap (λ (b : Bool). end_answer b (length h.texts)) (sym h.goes_on);
  }));
}

pub one_answer : OneAnswer
one_answer part prog bytes answer other first second =
    let a = found_of part prog bytes answer first in
    let b = found_of part prog bytes other second in
    one_found part (beginning part prog) 0 a.texts b.texts a.rest b.rest a.at b.at a.count b.count answer other (sym a.whole ∙ b.whole)
    a.unended b.unended a.passes b.passes a.counted b.counted a.here b.here
