-- What is said of a text, from what it tells.
use Rattle.std.proofs.Common.{◌≡◌, ℕ, ◌+◌, ◌<◌, ◌≤◌, ◌&&◌, not, is_some, Bool, true, false, List, length, Option, Some, None, refl, sym, ap, ◌∙◌, arith}
use Rattle.part_spec.specs.declared.part.Part.{Part}
use Rattle.part_spec.specs.Chip.{chip_of}
use Rattle.debug_spec.specs.Debugger.{Mode}
use Rattle.debug_spec.specs.SessionLaws.{is_closed}
use Rattle.record_spec.specs.declared.limits.TheConstants.{LINE_LIMIT, STEP_LIMIT}
use Rattle.record_spec.specs.Lines.{Line, event, out, IsText}
use Rattle.record_spec.specs.Fits.{Point, Follows, is_placed, steps_in}
use Rattle.record_spec.specs.Judging.{Reads, IsBad, IsLong, IsRefuted, GoesOn}
use Rattle.record_spec.proofs.OneLines.{one_line}
use Rattle.ice_answer.specs.Kept.{ToolState}
use Rattle.ice_verify.specs.Told.{Tells, IsTold, counted}
use Rattle.ice_verify.specs.Checking.{Stands, StandsAt, IsFollowed, Says, owed_by, is_closed_at}
use Rattle.ice_verify.specs.declared.lines.Told.{Told}
use Rattle.ice_verify.specs.declared.verifier.Verifier.{Verifier}
use Rattle.ice_verify.specs.declared.verifier.Verdict.{Verdict}
use Rattle.ice_verify.specs.declared.verifier.Verdict.TheVariants.{Bad, Long, No as Refuted}

no_way : false ≡ true → ⊥
no_way h = cc

-- it is no line
pub bad_text : (at_ : Point) (text : List ℕ) → ((line : Line) → IsText text line → length text ≤ LINE_LIMIT → ⊥) → IsBad at_ text
bad_text at_ text none line r = none line r.is r.short

-- a line that does not count the verifier's steps, or tells that a verdict was given, stands for the same point
pub stands_with : (part : Part) (v : Verifier) (at_ : Point) (n : ℕ) (judged : Bool) → Stands part v at_ →
    Stands part (record v { steps = n; judged = judged }) at_
stands_with part v at_ n judged st = record {
  tool = st.tool;
  core = st.core;
  comparators = st.comparators;
  held = st.held;
  good = st.good;
  owed = st.owed;
}

-- the steps of the record behind a line
steps_behind : (part : Part) (line : Line) (at_ to : Point) → Follows (chip_of part) line at_ to → to.steps ≡ at_.steps + steps_in line
steps_behind part (event what) at_ to h = ap (λ (p : Point). p.steps) h.4
steps_behind part (out bytes) at_ to h = ap (λ (p : Point). p.steps) h.1 ∙ omega arith

-- what is said of a text says nothing of whether a verdict was given
pub says_judged : (part : Part) (at_ : Point) (text : List ℕ) (verdict : Option Verdict) (w : Verifier) (judged : Bool) →
    Says part at_ text verdict w → Says part at_ text verdict (record w { judged = judged })
says_judged part at_ text None w judged h =
    (h.0, h.1, record { stands = stands_with part w h.0 w.steps judged h.2.stands; steps = h.2.steps })
says_judged part at_ text (Some Bad) w judged h = h
says_judged part at_ text (Some Long) w judged h = h
says_judged part at_ text (Some Refuted) w judged h = h

-- a text that is read, told at a point for which a verifier stands
module _ (part : Part) (v : Verifier) (at_ : Point) (text : List ℕ) (told : Told) (st : StandsAt part v at_) (few : length text ≤ LINE_LIMIT)
    (is : IsTold text told) where
  -- out of its place it is none of a record
  pub bad_place : ((line : Line) → Tells told line → is_placed (owed_by v.owes v.sent.items) line ≡ false) → IsBad at_ text
  bad_place off line r =
      let same : line ≡ is.0 = one_line text line is.0 r.is is.2 in
      no_way (sym (off is.0 is.1) ∙ ap (λ (o : Option (List ℕ)). is_placed o is.0) (sym st.stands.owed) ∙
      ap (λ (l : Line). is_placed at_.owed l) (sym same) ∙ r.placed)

  -- in its place
  module _ (on : (line : Line) → Tells told line → is_placed (owed_by v.owes v.sent.items) line ≡ true) (steps : ℕ)
      (many : (line : Line) → Tells told line → steps ≡ counted (steps_in line)) where
    reads : Reads at_ text is.0
    reads = record { short = few; is = is.2; placed = ap (λ (o : Option (List ℕ)). is_placed o is.0) st.stands.owed ∙ on is.0 is.1 }

    pub long_so : STEP_LIMIT < v.steps + steps → IsLong at_ text
    long_so more = (is.0, reads, omega (arith, more, many is.0 is.1, st.steps))

    module _ (most : v.steps + steps ≤ STEP_LIMIT) (w : Verifier) (follows : Bool)
        (followed : (line : Line) → Tells told line → IsFollowed line v follows w) where
      within : at_.steps + steps_in is.0 ≤ STEP_LIMIT
      within = omega (arith, most, many is.0 is.1, st.steps)

      pub refuted_so : follows ≡ false → IsRefuted (chip_of part) at_ text
      refuted_so untrue = (is.0, reads, within, (followed is.0 is.1).1 untrue part at_ st.stands)

      pub goes_on_so : follows ≡ true → (n : ℕ) → n ≡ v.steps + steps →
          (to : Point) × GoesOn (chip_of part) at_ text to × StandsAt part (record w { steps = n }) to
      goes_on_so follows_it n count =
          let f = (followed is.0 is.1).0 follows_it part at_ st.stands in (
            f.0,
            (is.0, reads, within, f.1),
            record {
              stands = stands_with part w f.0 n w.judged f.2;
              steps = omega (arith, count, most, many is.0 is.1, st.steps, steps_behind part is.0 at_ f.0 f.1);
            },
          )

-- few steps are told as they are
pub few_steps : (told : Told) (before steps : ℕ) → ((line : Line) → Tells told line → steps ≡ counted (steps_in line)) → before + steps ≤ STEP_LIMIT →
    (line : Line) → Tells told line → steps_in line ≤ STEP_LIMIT
few_steps told before steps many most line t = omega (arith, most, many line t)

-- whether all is told and the session is closed
pub closed_there : (part : Part) (v : Verifier) (at_ : Point) → StandsAt part v at_ →
    is_closed_at at_ ≡ (not v.owes && is_closed v.plain.tool.mode)
closed_there part v at_ st =
    ap (λ (o : Option (List ℕ)). not (is_some o) && is_closed at_.session.state.mode) st.stands.owed ∙
    ap (λ (m : Mode). not (is_some (owed_by v.owes v.sent.items)) && is_closed m) (ap (λ (k : ToolState). k.mode) (sym st.stands.tool)) ∙
    ap (λ (b : Bool). b && is_closed v.plain.tool.mode) (owing v.owes v.sent.items)
  where
    owing : (owes : Bool) (sent : List ℕ) → not (is_some (owed_by owes sent)) ≡ not owes
    owing true sent = refl
    owing false sent = refl
