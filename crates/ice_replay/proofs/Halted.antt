-- A step with which the run that is out ends: what was kept goes on to a session at home.
use Rattle.std.proofs.Common.{◌≡◌, ◌≤◌, ℕ, Bool, true, false, List, [], ◌++◌, refl, sym, ap, ◌∙◌, subst, append_assoc, append-nil}
use Rattle.part_spec.specs.declared.part.Part.{Part}
use Rattle.part_spec.specs.Chip.{chip_of}
use Rattle.debug_spec.specs.Device.{Outcome, Asked}
use Rattle.debug_spec.specs.PageLaws.{AreAnswered}
use Rattle.debug_spec.specs.Moved.{Flash, Moved}
use Rattle.debug_spec.specs.Debugger.{Debugger, is_out}
use Rattle.debug_spec.specs.Replay.{settled, steps_for, bytes_sent}
use Rattle.debug_spec.specs.Schedule.{Session}
use Rattle.debug_spec.specs.TakeReplays.{settled_then}
use Rattle.debug_spec.proofs.MovedLemmas.{flash_moves, answers_go_on}
use Rattle.run_control.specs.Ends.{IsSoundInline, is_taken}
use Rattle.run_control.specs.declared.inline.Inline.{Inline}
use Rattle.run_control.specs.declared.job.Job.{Job}
use Rattle.ice_answer.specs.Kept.{ToolState}
use Rattle.ice_emul.specs.Standing.{IsSoundEmulator, StandsFor, held}
use Rattle.ice_emul.specs.Taking.{Asks}
use Rattle.ice_emul.specs.Coming.{EndsBy, DoesHalt}
use Rattle.ice_emul.specs.declared.emulator.Emulator.{Emulator}
use Rattle.ice_emul.specs.declared.emulator.Next.{Next}
use Rattle.ice_replay.specs.Keeping.{Place, place, Rests, WaitsIf, IsKept, Stands}
use Rattle.ice_replay.specs.Steps.{Continues}
use Rattle.ice_replay.proofs.Going.{kept_settled}
use Rattle.ice_replay.proofs.Ending.{ends_now}

-- an emulator whose run is out, and ends now, and how it came to this from what was kept
pub record ComesOut {F : Type 0} (flash : Flash F) (Goes : Session → Session → Type 0) (before : Place F) (asks : List Asked)
    (sent : List ℕ) (mid : Emulator F) (job : Job F) (launches : ℕ) (by_itself : Bool) : Type 0 where
  pub moved : Moved flash before.job.flash asks job.flash
  pub out : is_out mid.tool.mode ≡ true
  pub part : mid.tool.plan.part ≡ before.emulator.tool.plan.part
  pub leads : (s : Session) (left : List Outcome) → Stands flash before s → AreAnswered s.state.device.outcomes asks left →
      (t : Session) × Goes s t × StandsFor flash (held mid job) t × (t.state.launches ≡ launches) ×
      (by_itself ≡ false → t.state.stop_asked ≡ true) × (t.state.device.outcomes ≡ left) ×
      (bytes_sent t.state ≡ bytes_sent s.state ++ sent) × Asks asks s t

-- the runner is free, and has counted the launches
pub record IsFreed {F : Type 0} (before r : Inline F) (count : ℕ) : Type 0 where
  pub sound : IsSoundInline r.stops.items r.seat
  pub free : is_taken r.seat ≡ false
  pub counts : r.collects ≤ r.launches
  pub launches : r.launches ≡ count
  pub stops : r.stops.items ≡ before.stops.items

module _ {F : Type 0} (flash : Flash F) (part_of : F → Part) (Goes Then : Session → Session → Type 0) (before : Place F) (asks : List Asked)
    (sent : List ℕ) (mid : Emulator F) (job : Job F) (launches : ℕ) (by_itself : Bool)
    (kept : IsKept flash part_of before) (comes : ComesOut flash Goes before asks sent mid job launches by_itself)
    (pend : List Asked) (event : List ℕ) (next : Next F) (after : Emulator F) (r : Inline F)
    (halt : DoesHalt flash part_of (EndsBy (steps_for before.runner.stops.items launches) by_itself (chip_of mid.tool.plan.part)) pend mid
    job event next after)
    (begins : (more : List Asked) × (asks ++ halt.call.carries.asks ≡ before.pend ++ more))
    (sound : IsSoundEmulator part_of after) (home : is_out after.tool.mode ≡ false) (freed : IsFreed before.runner r launches)
    (step : (s t u : Session) → settled true (chip_of before.emulator.tool.plan.part) before.runner.stops.items s.state ≡ s.state →
    Goes s t → u ≡ settled_then true (chip_of before.emulator.tool.plan.part) before.runner.stops.items t → Then s u) where
  abbrev q : Place F
  q = place after r halt.call.now []

  rests : Rests q
  rests = record { free = freed.free; seen = refl; counts = freed.counts }

  kept_then : IsKept flash part_of q
  kept_then = record {
    sound = sound;
    held = halt.call.is;
    runner = freed.sound;
    seat = subst (λ (b : Bool). WaitsIf flash part_of b q) (sym home) rests;
  }

  abbrev all : List Asked
  all = asks ++ halt.call.carries.asks

  not_out : (b : Bool) → b ≡ false → b ≡ true → ⊥
  not_out b h k = absurd (no (sym h ∙ k))
    where
      no : false ≡ true → ⊥
      no e = cc

  pub halted : Continues flash part_of Then before (sent ++ event) after r
  halted = record {
    job = halt.call.now;
    pend = [];
    kept = kept_then;
    goes = record {
      asks = all;
      moved = (flash_moves flash).onward before.job.flash job.flash halt.call.now.flash asks halt.call.carries.asks comes.moved
          halt.call.carries.moved;
      begins = (begins.0, append-nil all ∙ begins.1);
      leads = λ s left rest stands answered later.
          let parts = answers_go_on.back s.state.device.outcomes left asks halt.call.carries.asks answered in
          let t = comes.leads s parts.0 stands parts.1 in
          let v = halt.call.carries.leads t.0 left t.2
          (subst (λ (o : List Outcome). AreAnswered o halt.call.carries.asks left) (sym t.5) parts.2) in
          let front = answers_go_on.back s.state.device.outcomes left before.pend begins.0
          (subst (λ (l : List Asked). AreAnswered s.state.device.outcomes l left) begins.1 answered) in
          let quiet = kept_settled flash part_of before s front.0 kept stands front.1 in
          let mode_t : mid.tool.mode ≡ t.0.state.mode = ap (λ (k : ToolState). k.mode) t.2.tool in
          let ends : EndsBy (steps_for before.runner.stops.items t.0.state.launches) by_itself (chip_of mid.tool.plan.part) t.0.state
          v.1.0.0 = subst (λ (n : ℕ). EndsBy (steps_for before.runner.stops.items n) by_itself (chip_of mid.tool.plan.part) t.0.state v.1.0.0)
          (sym t.3) v.1.0.1 in
          let now = ends_now (chip_of mid.tool.plan.part) before.runner.stops.items t.0.state v.1.0.0 by_itself
          (ap is_out (sym mode_t) ∙ comes.out) ends t.4 in
          let there : v.0 ≡ settled_then true (chip_of mid.tool.plan.part) before.runner.stops.items t.0 =
          v.1.0.2 ∙ ap (λ (d : Debugger). record { held = t.0.held; state = d }) (sym now) in
          let stands_v : Stands flash q v.0 = record {
            stands = v.2;
            launches = v.1.1 ∙ t.3 ∙ sym freed.launches;
            asked = λ out_v. absurd (not_out (is_out v.0.state.mode) (ap is_out (sym (ap (λ (k : ToolState). k.mode) v.2.tool)) ∙ home) out_v);
          } in (
            v.0,
            step s t.0 v.0 quiet t.1
                (subst (λ (x : Part). v.0 ≡ settled_then true (chip_of x) before.runner.stops.items t.0) comes.part there),
            stands_v,
            v.3,
            v.4 ∙ ap (λ (x : List ℕ). x ++ event) t.6 ∙ append_assoc (bytes_sent s.state) sent event,
            v.1.2 ∙ ap (λ (l : List Asked). t.0.state.device.asked ++ l) (sym halt.call.same_asks) ∙
                ap (λ (l : List Asked). l ++ halt.call.carries.asks) t.7 ∙
                append_assoc s.state.device.asked asks halt.call.carries.asks,
          );
    };
  }
