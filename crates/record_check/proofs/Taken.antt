-- Bytes of a record taken one by one.
use Rattle.std.proofs.Common.{◌≡◌, ◌==◌, Bool, ℕ, suc, ◌+◌, ◌<◌, ◌≤◌, true, false, List, [], ◌∷◌, ◌++◌, Option, None, Some, length, refl, sym, ap, ◌∙◌, subst, arith, inl, inr, append_assoc, append-nil, length-append}
use Rattle.std.specs.Prelude.{◌≢◌, All}
use Rattle.std.proofs.lemmas.Bool.Decides.{Decides-eqb}
use Rattle.std.proofs.lemmas.List.{nil_from_length}
use Rattle.std.proofs.lemmas.List.Elements.{All-nil, All-push}
use Rattle.part_spec.specs.declared.part.Part.{Part}
use Rattle.part_spec.specs.Chip.{Chip, chip_of}
use Rattle.shell_spec.specs.Words.{line_feed}
use Rattle.shell_spec.specs.Text.{IsOpen}
use Rattle.record_spec.specs.declared.limits.TheConstants.{LINE_LIMIT}
use Rattle.record_spec.specs.Fits.{Point, beginning}
use Rattle.record_spec.specs.Judging.{GoesOn, IsBad}
use Rattle.ice_verify.specs.Checking.{Says, StandsAt, is_closed_at}
use Rattle.ice_verify.specs.declared.verifier.Verdict.{Verdict}
use Rattle.ice_verify.specs.declared.verifier.Verdict.TheVariants.{Bad, Long, No as Refuted}
use Rattle.ice_verify.specs.declared.verifier.Verifier.{Verifier}
use Rattle.record_check.specs.Answers.{AnswersAtEnd, Begins, IsRecord, IsSaid, Passes, Stops, lines_of}
use Rattle.record_check.specs.Taking.{HasTaken, Takes, TakesChunk}
use Rattle.record_check.specs.declared.answer.Answer.{Answer}
use Rattle.record_check.specs.declared.answer.Answer.TheVariants.{Fits, Fails}
use Rattle.record_check.specs.declared.checker.Checker.{Checker}
use Rattle.record_check.proofs.Passing.{Passes-push, is_record, lines_of-push}

-- a list that is told to be empty
pub none_held : (held : List ℕ) (told : Bool) → told ≡ (length held == 0) → told ≡ true → held ≡ []
none_held held told is empty = nil_from_length held ((Decides-eqb (length held) 0).0 (sym is ∙ empty))

open_none : IsOpen []
open_none = All-nil (λ byte. byte ≢ line_feed)

-- nothing is taken
pub taken_none : (part : Part) (prog : List ℕ) (checker : Checker) → checker.held.items ≡ [] → checker.lines ≡ 0 →
    StandsAt part checker.verifier (beginning (chip_of part) prog) → HasTaken part prog [] checker
taken_none part prog checker none zero_ stands = record {
  texts = [];
  at = beginning (chip_of part) prog;
  begins = record { whole = sym none; unended = All-nil IsOpen; passes = refl };
  unended = subst IsOpen (sym none) open_none;
  short = omega (arith, ap length none);
  stands = stands;
  counted = zero_;
}

-- a byte of the line that is open
pub byte_kept : (part : Part) (prog taken : List ℕ) (byte : ℕ) (before after : Checker) → HasTaken part prog taken before → byte ≢ line_feed →
    length before.held.items < LINE_LIMIT → after.held.items ≡ before.held.items ++ byte ∷ [] → after.verifier ≡ before.verifier →
    after.lines ≡ before.lines → HasTaken part prog (taken ++ byte ∷ []) after
byte_kept part prog taken byte before after h other room kept same count = record {
  texts = h.texts;
  at = h.at;
  begins = record {
    whole = ap (λ (l : List ℕ). l ++ byte ∷ []) h.begins.whole ∙ append_assoc (lines_of h.texts) before.held.items (byte ∷ []) ∙
        ap (λ (l : List ℕ). lines_of h.texts ++ l) (sym kept);
    unended = h.begins.unended;
    passes = h.begins.passes;
  };
  unended = subst IsOpen (sym kept) (All-push (λ b. b ≢ line_feed) before.held.items byte h.unended other);
  short = omega (arith, ap length kept, length-append before.held.items (byte ∷ []), room);
  stands = subst (λ (v : Verifier). StandsAt part v h.at) (sym same) h.stands;
  counted = count ∙ h.counted;
}

-- one too many
pub byte_too_many : (part : Part) (prog taken : List ℕ) (byte : ℕ) (checker : Checker) → HasTaken part prog taken checker → byte ≢ line_feed →
    length checker.held.items ≡ LINE_LIMIT → Stops (chip_of part) prog (taken ++ byte ∷ []) Bad (suc checker.lines)
byte_too_many part prog taken byte checker h other full =
    let text : List ℕ = checker.held.items ++ byte ∷ [] in
    let long : length text ≡ suc LINE_LIMIT = omega (arith, full, length-append checker.held.items (byte ∷ [])) in
    record {
      texts = h.texts;
      text = text;
      end = [];
      at = h.at;
      begins = record {
        whole = ap (λ (l : List ℕ). l ++ byte ∷ []) h.begins.whole ∙ append_assoc (lines_of h.texts) checker.held.items (byte ∷ []) ∙
            ap (λ (l : List ℕ). lines_of h.texts ++ l) (sym (append-nil text));
        unended = h.begins.unended;
        passes = h.begins.passes;
      };
      unended = All-push (λ b. b ≢ line_feed) checker.held.items byte h.unended other;
      taken = inr (refl, long);
      said = λ line r. omega (arith, r.short, long);
      counted = ap suc h.counted;
    }

-- what a verifier says of a text
said_of : (part : Part) (at_ : Point) (text : List ℕ) (verdict : Verdict) (v : Verifier) → Says part at_ text (Some verdict) v →
    IsSaid (chip_of part) at_ text verdict
said_of part at_ text Bad v h = h
said_of part at_ text Long v h = h
said_of part at_ text Refuted v h = h

module _ (part : Part) (prog taken : List ℕ) (before : Checker) (h : HasTaken part prog taken before) where
  -- the line that ends has a verdict
  pub line_judged : (verdict : Verdict) (v : Verifier) → Says part h.at before.held.items (Some verdict) v →
      Stops (chip_of part) prog (taken ++ line_feed ∷ []) verdict (suc before.lines)
  line_judged verdict v says = record {
    texts = h.texts;
    text = before.held.items;
    end = line_feed ∷ [];
    at = h.at;
    begins = record {
      whole = ap (λ (l : List ℕ). l ++ line_feed ∷ []) h.begins.whole ∙ append_assoc (lines_of h.texts) before.held.items (line_feed ∷ []);
      unended = h.begins.unended;
      passes = h.begins.passes;
    };
    unended = h.unended;
    taken = inl refl;
    said = said_of part h.at before.held.items verdict v says;
    counted = ap suc h.counted;
  }

  -- or none
  pub line_passed : (after : Checker) → Says part h.at before.held.items None after.verifier → after.held.items ≡ [] →
      after.lines ≡ before.lines + 1 → HasTaken part prog (taken ++ line_feed ∷ []) after
  line_passed after says clear count = record {
    texts = h.texts ++ before.held.items ∷ [];
    at = says.0;
    begins = record {
      whole = ap (λ (l : List ℕ). l ++ line_feed ∷ []) h.begins.whole ∙ append_assoc (lines_of h.texts) before.held.items (line_feed ∷ []) ∙
          sym (lines_of-push h.texts before.held.items) ∙ sym (append-nil (lines_of (h.texts ++ before.held.items ∷ []))) ∙
          ap (λ (l : List ℕ). lines_of (h.texts ++ before.held.items ∷ []) ++ l) (sym clear);
      unended = All-push IsOpen h.texts before.held.items h.begins.unended h.unended;
      passes = Passes-push (chip_of part) h.texts before.held.items (beginning (chip_of part) prog) h.at says.0 h.begins.passes says.1;
    };
    unended = subst IsOpen (sym clear) open_none;
    short = omega (arith, ap length clear);
    stands = says.2;
    counted = omega (arith, count, h.counted, length-append h.texts (before.held.items ∷ []));
  }

  -- no byte comes any more
  ends_here : before.held.items ≡ [] → taken ≡ lines_of h.texts
  ends_here none = h.begins.whole ∙ ap (λ (l : List ℕ). lines_of h.texts ++ l) none ∙ append-nil (lines_of h.texts)

  begins_here : before.held.items ≡ [] → Begins (chip_of part) prog taken h.texts [] h.at
  begins_here none = subst (λ (l : List ℕ). Begins (chip_of part) prog taken h.texts l h.at) none h.begins

  pub answer_cut_off : 0 < length before.held.items → AnswersAtEnd (chip_of part) prog taken (Fails Bad (before.lines + 1))
  answer_cut_off some = record {
    texts = h.texts;
    text = before.held.items;
    at = h.at;
    begins = h.begins;
    unended = h.unended;
    some = some;
    short = h.short;
    counted = omega (arith, h.counted);
  }

  pub answer_unclosed : before.held.items ≡ [] → is_closed_at h.at ≡ false → AnswersAtEnd (chip_of part) prog taken (Fails Refuted (before.lines + 1))
  answer_unclosed none open_ = record {
    texts = h.texts;
    at = h.at;
    begins = begins_here none;
    goes_on = open_;
    counted = omega (arith, h.counted);
  }

  pub answer_fits : before.held.items ≡ [] → is_closed_at h.at ≡ true → AnswersAtEnd (chip_of part) prog taken Fits
  answer_fits none closed = is_record (chip_of part) prog taken h.texts h.at (begins_here none) (ends_here none) closed
