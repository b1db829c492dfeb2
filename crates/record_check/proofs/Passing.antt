-- Texts that are true, one behind the other.
use Rattle.std.proofs.Common.{◌≡◌, ℕ, suc, ◌+◌, ◌<◌, ◌≤◌, Bool, true, false, not, ◌&&◌, is_some, List, [], ◌∷◌, ◌++◌, Option, None, Some, length, refl, sym, ap, ◌∙◌, subst, arith, append_assoc}
use Rattle.std.specs.Prelude.{All}
use Rattle.part_spec.specs.Chip.{Chip}
use Rattle.shell_spec.specs.Words.{line_feed}
use Rattle.debug_spec.specs.SessionLaws.{is_closed}
use Rattle.record_spec.specs.declared.limits.TheConstants.{STEP_LIMIT}
use Rattle.record_spec.specs.Lines.{Line, event, out}
use Rattle.record_spec.specs.Fits.{Point, Follows, Reaches, Fits, beginning, steps_in}
use Rattle.record_spec.specs.Judging.{GoesOn}
use Rattle.ice_verify.specs.Checking.{is_closed_at}
use Rattle.record_check.specs.Answers.{AreTexts, Begins, IsRecord, Passes, lines_of}

-- one more line behind the others
pub lines_of-push : (texts : List (List ℕ)) (text : List ℕ) → lines_of (texts ++ text ∷ []) ≡ lines_of texts ++ (text ++ line_feed ∷ [])
lines_of-push [] text = refl
lines_of-push (first ∷ texts) text =
    ap (λ (l : List ℕ). first ++ line_feed ∷ l) (lines_of-push texts text) ∙
    sym (append_assoc first (line_feed ∷ lines_of texts) (text ++ line_feed ∷ []))

pub Passes-push : (part : Chip) (texts : List (List ℕ)) (text : List ℕ) (before between after : Point) → Passes part texts before between →
    GoesOn part between text after → Passes part (texts ++ text ∷ []) before after
Passes-push part [] text before between after same goes =
    (after, subst (λ (p : Point). GoesOn part p text after) same goes, refl)
Passes-push part (first ∷ texts) text before between after passes goes =
    (passes.0, passes.1, Passes-push part texts text passes.0 between after passes.2 goes)

-- the steps of the record behind a line
pub steps_behind : (part : Chip) (line : Line) (before after : Point) → Follows part line before after → after.steps ≡ before.steps + steps_in line
steps_behind part (event what) before after h = ap (λ (p : Point). p.steps) h.4
steps_behind part (out bytes) before after h = ap (λ (p : Point). p.steps) h.1 ∙ omega arith

-- the lines of these texts, and the steps behind them
pub record Lined (part : Chip) (texts : List (List ℕ)) (before after : Point) : Type 0 where
  pub lines : List Line
  pub are : AreTexts texts lines
  pub reaches : Reaches part lines before after
  pub steps : before.steps ≤ STEP_LIMIT → after.steps ≤ STEP_LIMIT

pub lined : (part : Chip) (texts : List (List ℕ)) (before after : Point) → Passes part texts before after → Lined part texts before after
lined part [] before after same = record {
  lines = [];
  are = tt;
  reaches = same;
  steps = λ few. omega (arith, few, ap (λ (p : Point). p.steps) same);
}
lined part (text ∷ texts) before after passes =
    let goes = passes.1 in
    let rest = lined part texts passes.0 after passes.2 in
    record {
      lines = goes.0 ∷ rest.lines;
      are = (goes.1.short, goes.1.is, rest.are);
      reaches = (passes.0, goes.3, rest.reaches);
      steps = λ few. rest.steps (omega (arith, goes.2, steps_behind part goes.0 before passes.0 goes.3));
    }

-- nothing is to be told, and the session is closed
both : (a b : Bool) → (a && b) ≡ true → (a ≡ true) × (b ≡ true)
both true b h = (refl, h)
both false b h = cc

none_owed : (owed : Option (List ℕ)) → not (is_some owed) ≡ true → owed ≡ None
none_owed None h = refl
none_owed (Some bytes) h = cc

pub is_record : (part : Chip) (prog bytes : List ℕ) (texts : List (List ℕ)) (at_ : Point) → Begins part prog bytes texts [] at_ →
    bytes ≡ lines_of texts → is_closed_at at_ ≡ true → IsRecord part prog bytes
is_record part prog bytes texts at_ begins whole closed =
    let l = lined part texts (beginning part prog) at_ begins.passes in
    let ends = both (not (is_some at_.owed)) (is_closed at_.session.state.mode) closed in
    record {
      texts = texts;
      lines = l.lines;
      whole = whole;
      unended = begins.unended;
      are = l.are;
      fits = record { end = at_; reaches = l.reaches; told = none_owed at_.owed ends.0; closed = ends.1 };
      steps = l.steps (omega arith);
    }
