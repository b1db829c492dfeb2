-- Ways of a wire: what its calls make of each session for which its emulator stood.
use Rattle.std.proofs.Common.{◌≡◌, ◌≤◌, ℕ, Bool, true, false, length, List, [], ◌++◌, refl, sym, ap, ◌∙◌, subst, arith, append-nil}
use Rattle.std.specs.Prelude.{min, ◌+◌, ◌-◌, ◌^◌}
use Rattle.part_spec.specs.declared.part.Part.{Part}
use Rattle.part_spec.specs.Chip.{Chip, chip_of}
use Rattle.debug_spec.specs.Device.{Asked}
use Rattle.debug_spec.specs.Moved.{Flash}
use Rattle.debug_spec.specs.Debugger.{Debugger, listens}
use Rattle.debug_spec.specs.Replay.{bytes_sent}
use Rattle.debug_spec.specs.Schedule.{Session}
use Rattle.debug_spec.specs.Carries.{Along}
use Rattle.run_control.specs.declared.inline.Inline.{Inline}
use Rattle.run_control.specs.declared.job.Job.{Job}
use Rattle.host_session.specs.Words.{SendFailed}
use Rattle.ice_emul.specs.declared.emulator.Emulator.{Emulator}
use Rattle.ice_replay.specs.Keeping.{Place, place, IsKept, Stands, GoesOn}
use Rattle.ice_replay.specs.Steps.{Continues}
use Rattle.ice_replay.proofs.Going.{onward, weaker as lighter}
use Rattle.script_laws.specs.Waiting.{GivesStream}
use Rattle.ice_script.specs.Wires.{WireState, TakesPiece, waiting, wire_words}

-- nothing is held back while the debugger listens
abbrev pub Empty : Session → Type 0
Empty s = listens s.state.mode ≡ true → s.held ≡ []

-- the most bytes of a frame
abbrev pub frame_limit : ℕ
frame_limit = 4116

abbrev pub place_of : {F : Type 0} → WireState F → Job F → List Asked → Place F
place_of w job pend = place w.side.emulator w.side.runner job pend

-- all but the bytes that wait is as it was
pub record Same {F : Type 0} (a b : WireState F) : Type 0 where
  pub emulator : b.side.emulator ≡ a.side.emulator
  pub runner : b.side.runner ≡ a.side.runner
  pub allowed : b.allowed ≡ a.allowed
  pub lost : b.lost ≡ a.lost

-- what a send does, by whether it is taken
abbrev pub SendsIf : {F : Type 0} → Flash F → (F → Part) → (taken : Bool) → WireState F → List ℕ → WireState F → Type 0
SendsIf flash part_of taken before piece after = elim taken [
  | true ↦ TakesPiece flash part_of before.side piece after.side after.lost × (after.allowed + length piece ≡ before.allowed)
  | false ↦ after ≡ before
]

-- no count of faults rises that is none
never_rose : min (0 + 1) (2 ^ 64 - 1) ≤ 0 → ⊥
never_rose h = omega (arith, h)

pub never_sends : {F : Type 0} (flash : Flash F) (part_of : F → Part) (a : WireState F) (piece : List ℕ) (b : WireState F) →
    SendFailed (wire_words flash part_of) a piece b → ⊥
never_sends flash part_of a piece b f = never_rose f.1

-- the bytes to come are those that wait
pub gives : {F : Type 0} (flash : Flash F) (part_of : F → Part) → GivesStream (WireState F) (wire_words flash part_of) waiting Same
gives {F} flash part_of = record {
  start = λ a. record { emulator = refl; runner = refl; allowed = refl; lost = refl };
  onward = λ a b c first later. record {
    emulator = later.emulator ∙ first.emulator;
    runner = later.runner ∙ first.runner;
    allowed = later.allowed ∙ first.allowed;
    lost = later.lost ∙ first.lost;
  };
  receive = λ a bytes b r. (
    r.0.0,
    record {
      emulator = ap (λ (w : WireState F). w.side.emulator) r.0.1;
      runner = ap (λ (w : WireState F). w.side.runner) r.0.1;
      allowed = ap (λ (w : WireState F). w.allowed) r.0.1;
      lost = ap (λ (w : WireState F). w.lost) r.0.1;
    },
  );
  at_end = λ a b e. e.1;
  fails = λ a b f. absurd (never_rose f.2);
}

-- a way, with what stood before and stands behind it, and what was sent on it
pub record Seen {F : Type 0} (flash : Flash F) (Goes : Session → Session → Type 0) (a : Place F) (out : List ℕ) (b : Place F)
    (s t : Session) : Type 0 where
  pub goes : Goes s t
  pub from : Stands flash a s
  pub to : Stands flash b t
  pub sends : bytes_sent t.state ≡ bytes_sent s.state ++ out

pub seen_so : {F : Type 0} (flash : Flash F) (Goes : Session → Session → Type 0) (a b : Place F) (out : List ℕ) →
    GoesOn flash Goes a out b → GoesOn flash (Seen flash Goes a out b) a out b
seen_so flash Goes a b out h = record {
  asks = h.asks;
  moved = h.moved;
  begins = h.begins;
  leads = λ s left rest stands answered later.
      let t = h.leads s left rest stands answered later in
      (t.0, record { goes = t.1; from = stands; to = t.2; sends = t.4 }, t.2, t.3, t.4, t.5);
}

module _ {F : Type 0} (flash : Flash F) (part_of : F → Part) (chip : Chip) (stops : List ℕ) where
  -- what is made of a session, where more is allowed behind it
  pub record Moves (b : WireState F) (R : Debugger → Debugger → Type 0) (s t : Session) : Type 0 where
    pub empty : Empty s → Empty t
    pub does : Empty s → frame_limit ≤ b.allowed → R s.state t.state

  -- an emulator that listens is of this part, and has these numbers of steps
  abbrev pub IsOn : WireState F → Type 0
  IsOn w = listens w.side.emulator.tool.mode ≡ true →
      (chip_of w.side.emulator.tool.plan.part ≡ chip) × (w.side.runner.stops.items ≡ stops)

  pub record Way (a b : WireState F) (R : Debugger → Debugger → Type 0) : Type 0 where
    pub on : IsOn a → IsOn b
    pub spends : b.allowed ≤ a.allowed
    pub goes : IsOn a → (job : Job F) (pend : List Asked) → IsKept flash part_of (place_of a job pend) → (out : List ℕ) ×
        Continues flash part_of (Moves b R) (place_of a job pend) out b.side.emulator b.side.runner

  -- nothing but what waits is changed, and what is to hold then holds
  module _ (a b : WireState F) (R : Debugger → Debugger → Type 0) (same : Same a b)
      (does : (s : Session) (job : Job F) (pend : List Asked) → Stands flash (place_of a job pend) s → frame_limit ≤ b.allowed →
      R s.state s.state) where
    stands_still : (job : Job F) (pend : List Asked) → IsKept flash part_of (place_of a job pend) →
        Continues flash part_of (Moves b R) (place_of a job pend) [] a.side.emulator a.side.runner
    stands_still job pend kept = record {
      job = job;
      pend = pend;
      kept = kept;
      goes = record {
        asks = [];
        moved = refl;
        begins = ([], sym (append-nil pend));
        leads = λ s left rest stands answered later. (
          s,
          record { empty = λ e. e; does = λ e enough. does s job pend stands enough },
          stands,
          answered,
          sym (append-nil (bytes_sent s.state)),
          sym (append-nil s.state.device.asked),
        );
      };
    }

    pub still_way : Way a b R
    still_way = record {
      on = λ on listening.
          let there = on (ap (λ (e : Emulator F). listens e.tool.mode) (sym same.emulator) ∙ listening) in (
            ap (λ (e : Emulator F). chip_of e.tool.plan.part) same.emulator ∙ there.0,
            ap (λ (r : Inline F). r.stops.items) same.runner ∙ there.1,
          );
      spends = omega (arith, same.allowed);
      goes = λ on job pend kept. (
        [],
        subst (λ (e : Emulator F). Continues flash part_of (Moves b R) (place_of a job pend) [] e b.side.runner) (sym same.emulator)
            (subst (λ (r : Inline F). Continues flash part_of (Moves b R) (place_of a job pend) [] a.side.emulator r) (sym same.runner)
            (stands_still job pend kept)),
      );
    }

  pub stay : (a b : WireState F) → Same a b → Way a b (λ d e. e ≡ d)
  stay a b same = still_way a b (λ d e. e ≡ d) same (λ s job pend stands enough. refl)

  -- two ways, one after the other
  pub along : (a b c : WireState F) (R S : Debugger → Debugger → Type 0) → Way a b R → Way b c S →
      Way a c (λ d f. (e : Debugger) × R d e × S e f)
  along a b c R S first later = record {
    on = λ on. later.on (first.on on);
    spends = omega (arith, first.spends, later.spends);
    goes = λ on job pend kept.
        let one = first.goes on job pend kept in
        let two = later.goes (first.on on) one.1.job one.1.pend one.1.kept in (
          one.0 ++ two.0,
          record {
            job = two.1.job;
            pend = two.1.pend;
            kept = two.1.kept;
            goes = lighter flash (Along (Moves b R) (Moves c S)) (Moves c (λ d f. (e : Debugger) × R d e × S e f)) (place_of a job pend)
                (place_of c two.1.job two.1.pend) (one.0 ++ two.0)
                (λ s u h. record {
                  empty = λ e. h.2.empty (h.1.empty e);
                  does = λ e enough. (h.0.state, h.1.does e (omega (arith, enough, later.spends)), h.2.does (h.1.empty e) enough);
                })
                (onward flash (Moves b R) (Moves c S) (place_of a job pend) (place_of b one.1.job one.1.pend)
                (place_of c two.1.job two.1.pend) one.0 two.0 one.1.goes two.1.goes);
          },
        );
  }

  -- a way may be told with less
  pub less : (a b : WireState F) (R S : Debugger → Debugger → Type 0) → ((d e : Debugger) → R d e → S d e) → Way a b R → Way a b S
  less a b R S w h = record {
    on = h.on;
    spends = h.spends;
    goes = λ on job pend kept.
        let one = h.goes on job pend kept in (
          one.0,
          record {
            job = one.1.job;
            pend = one.1.pend;
            kept = one.1.kept;
            goes = lighter flash (Moves b R) (Moves b S) (place_of a job pend) (place_of b one.1.job one.1.pend) one.0
                (λ s t m. record { empty = m.empty; does = λ e enough. w s.state t.state (m.does e enough) }) one.1.goes;
          },
        );
  }
