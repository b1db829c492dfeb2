-- The line ends, and what was sent is told: true or not, and the verifier stands behind it.
use Rattle.std.proofs.Common.{◌≡◌, ℕ, ◌+◌, Bool, true, false, List, [], ◌++◌, length, Option, Some, None, refl, sym, ap, ◌∙◌, subst, append-nil}
use Rattle.part_spec.specs.declared.part.Part.{Part}
use Rattle.part_spec.specs.Chip.{Chip, chip_of}
use Rattle.avr_spec.specs.Kept.{kept}
use Rattle.debug_spec.specs.Debugger.{Mode, Debugger, listens, dropping}
use Rattle.debug_spec.specs.Running.{left, line_end}
use Rattle.debug_spec.specs.Replay.{bytes_sent}
use Rattle.debug_spec.specs.Schedule.{Session, Keeps, line_ended}
use Rattle.debug_spec.specs.SessionLaws.{is_closed}
use Rattle.debug_spec.specs.Take.{goes_on}
use Rattle.ice_recv.specs.Received.{Received}
use Rattle.record_spec.specs.Lines.{event, out, line_ends}
use Rattle.record_spec.specs.Fits.{Point}
use Rattle.ice_answer.specs.Kept.{ToolState, prepared_number, dropping_held}
use Rattle.ice_answer.specs.Does.{IsAt}
use Rattle.ice_verify.specs.Well.{IsGood, DoesWell}
use Rattle.ice_verify.specs.Standing.{at_of}
use Rattle.ice_verify.specs.Checking.{Stands, IsSound, IsFollowed, owed_by}
use Rattle.ice_verify.specs.declared.plain.Plain.{Plain}
use Rattle.ice_verify.specs.declared.verifier.Verifier.{Verifier}
use Rattle.ice_verify.proofs.DoingWell.{well_in_words}
use Rattle.ice_verify.proofs.Following.{by_behind, keeps_back, listens_on}
use Rattle.ice_verify.proofs.Ending.{line_end_is, dropping_held_is}
use Rattle.ice_verify.proofs.Followed.{nothing_owed}

no_way : false ≡ true → ⊥
no_way h = cc

no_other : true ≡ false → ⊥
no_other h = cc

-- where nothing is owed, nothing was sent in this call
pub standing_at : (part : Part) (v : Verifier) (at_ : Point) (sent : List ℕ) → sent ≡ [] → Stands part v at_ →
    IsAt part (bytes_sent at_.session.state) (at_of v.plain sent) at_.session.state
standing_at part v at_ sent none st = record {
  tool = st.tool;
  core = st.core;
  comparators = st.comparators;
  sent = sym (append-nil (bytes_sent at_.session.state)) ∙ ap (λ (t : List ℕ). bytes_sent at_.session.state ++ t) (sym none);
}

-- a session that is closed has no line that ends
pub ended_already : (v w : Verifier) → is_closed v.plain.tool.mode ≡ true → IsFollowed (event line_ends) v false w
ended_already v w shut = (
  λ no. absurd (no_way no),
  λ yes part at_ st to h. no_way (sym h.3.happens.0 ∙ ap (λ (k : ToolState). is_closed k.mode) (sym st.tool) ∙ shut),
)

-- of the bytes held only those of a debugger that listens are counted
abbrev end_by : (b : Bool) (part : Chip) (s : Debugger) (x : List ℕ) → Debugger
end_by b part s x = elim b [ true ↦ left part (dropping (length x) s) | false ↦ s ]

end_by_held : (b : Bool) (part : Chip) (s : Debugger) (x y : List ℕ) → (b ≡ true → y ≡ x) → end_by b part s x ≡ end_by b part s y
end_by_held true part s x y h = ap (λ (z : List ℕ). left part (dropping (length z) s)) (sym (h refl))
end_by_held false part s x y h = refl

same_end : (part : Chip) (s : Debugger) (x y : List ℕ) → Keeps (goes_on s.mode) x y → line_end part x s ≡ line_end part y s
same_end part s x y keeps = end_by_held (listens s.mode) part s x y (λ on. keeps_back (goes_on s.mode) x y (listens_on s.mode on) keeps)

-- the line ends
module _ (v : Verifier) (t1 : ToolState) (p2 : Plain) (count : ℕ) (sound : IsSound v) (owes : v.owes ≡ false)
    (open_ : is_closed v.plain.tool.mode ≡ false) (size : count ≡ length v.receiver.held)
    (drops : t1 ≡ dropping_held (listens v.plain.tool.mode) count v.plain.tool)
    (does : (sent : List ℕ) → DoesWell (λ part. left part) (at_of (record v.plain { tool = t1 }) sent) (at_of p2 sent))
    (away : goes_on p2.tool.mode ≡ false) where
  module _ (part : Part) (at_ : Point) (st : Stands part v at_) where
    abbrev s : Debugger
    s = at_.session.state

    abbrev s1 : Debugger
    s1 = elim (listens at_.session.state.mode) [
      | true ↦ dropping (length v.receiver.held) at_.session.state
      | false ↦ at_.session.state
    ]

    same_mode : at_.session.state.mode ≡ v.plain.tool.mode
    same_mode = ap (λ (k : ToolState). k.mode) (sym st.tool)

    begun : IsAt part (bytes_sent s) (at_of v.plain v.sent.items) s
    begun = standing_at part v at_ v.sent.items (sound.told owes) st

    here : IsAt part (bytes_sent s) (at_of (record v.plain { tool = t1 }) v.sent.items) s1
    here = record {
      tool = drops ∙ ap (λ (m : Mode). dropping_held (listens m) count v.plain.tool) (sym same_mode) ∙
          ap (λ (n : ℕ). dropping_held (listens s.mode) n v.plain.tool) size ∙
          dropping_held_is (listens s.mode) part v.plain.tool s (length v.receiver.held) st.tool;
      core = by_behind (λ (t : Debugger). v.plain.core ≡ kept (chip_of part) t.machine) (listens s.mode) (length v.receiver.held) s (λ n h. h) st.core;
      comparators = by_behind (λ (t : Debugger). v.plain.comparators ≡ t.comparators) (listens s.mode) (length v.receiver.held) s (λ n h. h)
          st.comparators;
      sent = by_behind (λ (t : Debugger). bytes_sent t ≡ bytes_sent s ++ v.sent.items) (listens s.mode) (length v.receiver.held) s (λ n h. h) begun.sent;
    }

    good : IsGood s1
    good = by_behind (λ (t : Debugger). IsGood t) (listens s.mode) (length v.receiver.held) s (λ n h. h) st.good

    ends : left (chip_of part) s1 ≡ line_end (chip_of part) at_.session.held s
    ends = line_end_is (chip_of part) v.receiver.held s (ap prepared_number same_mode ∙ sound.calm) (ap is_closed same_mode ∙ open_) ∙
        same_end (chip_of part) s v.receiver.held at_.session.held st.held

    abbrev session : Session
    session = line_ended (chip_of part) at_.session

    done : IsAt part (bytes_sent s) (at_of p2 v.sent.items) session.state × IsGood session.state
    done = well_in_words part (bytes_sent s) (at_of p2 v.sent.items) (left (chip_of part) s1) (line_end (chip_of part) at_.session.held s) ends
        (does v.sent.items part (bytes_sent s) s1 here good)

    over : goes_on session.state.mode ≡ false
    over = ap (λ (k : ToolState). goes_on k.mode) (sym done.0.tool) ∙ away

    behind : Stands part (record v { plain = p2; owes = true }) (record { session = session; owed = Some v.sent.items; steps = at_.steps + 0 })
    behind = record {
      tool = done.0.tool;
      core = done.0.core;
      comparators = done.0.comparators;
      held = subst (λ (b : Bool). Keeps b v.receiver.held []) (sym over) refl;
      good = done.1;
      owed = refl;
    }

  pub ended_so : IsFollowed (event line_ends) v true (record v { plain = p2; owes = true })
  ended_so = (
    λ yes part at_ st. (
      record { session = session part at_ st; owed = Some v.sent.items; steps = at_.steps + 0 },
      (
        nothing_owed at_.owed v.owes v.sent.items st.owed owes,
        v.sent.items,
        session part at_ st,
        record { happens = (ap is_closed (same_mode part at_ st) ∙ open_, refl); sends = (done part at_ st).0.sent },
        refl,
      ),
      behind part at_ st,
    ),
    λ no. absurd (no_other no),
  )

-- what was sent is told
owing : (owed : Option (List ℕ)) (owes : Bool) (sent : List ℕ) → owed ≡ owed_by owes sent → owes ≡ true → owed ≡ Some sent
owing owed owes sent e f = e ∙ ap (λ (b : Bool). owed_by b sent) f

pub not_sent : (v w : Verifier) (bytes : List ℕ) → v.owes ≡ true → (v.sent.items ≡ bytes → ⊥) → IsFollowed (out bytes) v false w
not_sent v w bytes owes differ = (
  λ no. absurd (no_way no),
  λ yes part at_ st to h. differ (inside v.sent.items bytes (sym (owing at_.owed v.owes v.sent.items st.owed owes) ∙ h.0)),
)
  where
    inside : (a b : List ℕ) → Some a ≡ Some b → a ≡ b
    inside a b h = cc

pub told_so : (v w : Verifier) (bytes : List ℕ) → v.owes ≡ true → v.sent.items ≡ bytes → w.plain ≡ v.plain → w.receiver ≡ v.receiver → w.owes ≡ false →
    IsFollowed (out bytes) v true w
told_so v w bytes owes same is_plain is_held done = (
  λ yes part at_ st. (
    record at_ { owed = None },
    (owing at_.owed v.owes v.sent.items st.owed owes ∙ ap (λ (t : List ℕ). Some t) same, refl),
    record {
      tool = ap (λ (p : Plain). p.tool) is_plain ∙ st.tool;
      core = ap (λ (p : Plain). p.core) is_plain ∙ st.core;
      comparators = ap (λ (p : Plain). p.comparators) is_plain ∙ st.comparators;
      held = subst (λ (r : List ℕ). Keeps (goes_on at_.session.state.mode) r at_.session.held) (ap (λ (k : Received). k.held) (sym is_held)) st.held;
      good = st.good;
      owed = none_owed w.owes w.sent.items done;
    },
  ),
  λ no. absurd (no_other no),
)
  where
    none_owed : (b : Bool) (sent : List ℕ) → b ≡ false → None ≡ owed_by b sent
    none_owed true sent h = cc
    none_owed false sent h = refl
