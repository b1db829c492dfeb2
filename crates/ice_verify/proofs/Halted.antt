-- A run ends: true or not, and the verifier stands behind it.
use Rattle.std.proofs.Common.{◌≡◌, ℕ, ◌+◌, Bool, true, false, List, [], Some, refl, sym, ap, ◌∙◌, subst}
use Rattle.part_spec.specs.declared.part.Part.{Part}
use Rattle.part_spec.specs.Chip.{Chip, chip_of}
use Rattle.avr_spec.specs.Kept.{kept}
use Rattle.debug_spec.specs.Run.{End, after}
use Rattle.debug_spec.specs.Debugger.{Mode, stopped, launching, running, programming, leaving, closed, Debugger, is_out, run_out}
use Rattle.debug_spec.specs.Running.{stopped_at, ended_in, MayEnd}
use Rattle.debug_spec.specs.Replay.{bytes_sent}
use Rattle.debug_spec.specs.Schedule.{Session, Keeps}
use Rattle.debug_spec.specs.Take.{goes_on}
use Rattle.ice_recv.specs.Received.{Received}
use Rattle.record_spec.specs.Lines.{event, halts}
use Rattle.record_spec.specs.Fits.{Point, halted_by}
use Rattle.ice_answer.specs.Kept.{ToolState}
use Rattle.ice_answer.specs.Does.{IsAt}
use Rattle.ice_verify.specs.Well.{IsGood}
use Rattle.ice_verify.specs.Standing.{at_of}
use Rattle.ice_verify.specs.Going.{ComesTo, DoesNotComeTo, EndsRun}
use Rattle.ice_verify.specs.Checking.{Stands, IsSound, IsFollowed, owed_by}
use Rattle.ice_verify.specs.declared.plain.Plain.{Plain}
use Rattle.ice_verify.specs.declared.verifier.Verifier.{Verifier}
use Rattle.ice_verify.proofs.Good.{device_after_good}
use Rattle.ice_verify.proofs.Followed.{nothing_owed}
use Rattle.ice_verify.proofs.Happened.{standing_at}

no_way : false ≡ true → ⊥
no_way h = cc

no_other : true ≡ false → ⊥
no_other h = cc

-- no run is out
pub none_out : (v w : Verifier) (end : End) → is_out v.plain.tool.mode ≡ false → IsFollowed (event (halts end)) v false w
none_out v w end home = (
  λ no. absurd (no_way no),
  λ yes part at_ st to h. no_way (sym home ∙ ap (λ (k : ToolState). is_out k.mode) st.tool ∙ h.3.happens.0.out),
)

-- the run that is out may not end so
pub not_ended : (v w : Verifier) (end : End) → DoesNotComeTo v.plain end → IsFollowed (event (halts end)) v false w
not_ended v w end never = (
  λ no. absurd (no_way no),
  λ yes part at_ st to h.
      never part (bytes_sent at_.session.state) at_.session.state (standing_at part v at_ [] refl st) h.3.happens.0.out st.good h.3.happens.0,
)

-- whether the session goes on stays as it was
pub goes_on_behind : (part : Chip) (m : Mode) (end : End) (s : Debugger) → is_out m ≡ true → goes_on (ended_in false part m end s).mode ≡ goes_on m
goes_on_behind part stopped end s h = cc
goes_on_behind part (launching number) end s h = cc
goes_on_behind part running end s h = refl
goes_on_behind part programming end s h = cc
goes_on_behind part leaving end s h = refl
goes_on_behind part (closed done) end s h = cc

-- it ends so
module _ (v : Verifier) (p1 p2 : Plain) (more : List ℕ) (w : Verifier) (end : End) (sound : IsSound v) (owes : v.owes ≡ false)
    (out_ : is_out v.plain.tool.mode ≡ true) (comes : ComesTo v.plain end p1) (rest : p1 ≡ record v.plain { core = p1.core })
    (ends : EndsRun p1 v.sent.items end.cause p2 more) (is_plain : w.plain ≡ p2) (is_sent : w.sent.items ≡ more)
    (is_held : w.receiver ≡ v.receiver) (now_owes : w.owes ≡ true) where
  module _ (part : Part) (at_ : Point) (st : Stands part v at_) where
    abbrev s : Debugger
    s = at_.session.state

    is_out_there : is_out at_.session.state.mode ≡ true
    is_out_there = ap (λ (k : ToolState). is_out k.mode) (sym st.tool) ∙ out_

    come : MayEnd false (chip_of part) s end × (p1.core ≡ kept (chip_of part) (after (chip_of part) (run_out false s) end.steps))
    come = comes part (bytes_sent s) s (standing_at part v at_ [] refl st) is_out_there st.good

    here : IsAt part (bytes_sent s) (at_of p1 v.sent.items) (stopped_at false (chip_of part) end s)
    here = record {
      tool = ap (λ (p : Plain). p.tool) rest ∙ st.tool;
      core = come.1;
      comparators = ap (λ (p : Plain). p.comparators) rest ∙ st.comparators;
      sent = (standing_at part v at_ v.sent.items (sound.told owes) st).sent;
    }

    abbrev session : Session
    session = halted_by (chip_of part) end at_.session

    done : IsAt part (bytes_sent s) (at_of p2 more) session.state × IsGood session.state
    done = ends part (bytes_sent s) s end is_out_there refl here (device_after_good end.steps s st.good)

    behind : Stands part w (record { session = session; owed = Some more; steps = at_.steps + end.steps })
    behind = record {
      tool = ap (λ (p : Plain). p.tool) is_plain ∙ done.0.tool;
      core = ap (λ (p : Plain). p.core) is_plain ∙ done.0.core;
      comparators = ap (λ (p : Plain). p.comparators) is_plain ∙ done.0.comparators;
      held = subst (λ (r : List ℕ). Keeps (goes_on session.state.mode) r at_.session.held) (ap (λ (k : Received). k.held) (sym is_held))
          (subst (λ (b : Bool). Keeps b v.receiver.held at_.session.held) (sym (goes_on_behind (chip_of part) s.mode end s is_out_there)) st.held);
      good = done.1;
      owed = owed_then w.owes w.sent.items now_owes is_sent;
    }
      where
        owed_then : (b : Bool) (sent : List ℕ) → b ≡ true → sent ≡ more → Some more ≡ owed_by b sent
        owed_then true sent h e = ap (λ (t : List ℕ). Some t) (sym e)
        owed_then false sent h e = cc

  pub halted_so : IsFollowed (event (halts end)) v true w
  halted_so = (
    λ yes part at_ st. (
      record { session = session part at_ st; owed = Some more; steps = at_.steps + end.steps },
      (
        nothing_owed at_.owed v.owes v.sent.items st.owed owes,
        more,
        session part at_ st,
        record { happens = ((come part at_ st).0, refl); sends = (done part at_ st).0.sent },
        refl,
      ),
      behind part at_ st,
    ),
    λ no. absurd (no_other no),
  )
