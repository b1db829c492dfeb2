-- A session from its opening to what is left of it.
use Rattle.std.proofs.Common.{◌≡◌, ℕ, Bool, true, false, List, Option, Some, None, Result, Ok, Err, refl, sym, ap, ◌∙◌, subst}
use Rattle.std.specs.Prelude.{is_some, is_ok, ⊤}
use Rattle.part_spec.specs.declared.part.Part.{Part}
use Rattle.part_spec.specs.Chip.{Chip, chip_of}
use Rattle.avr_spec.specs.Kept.{Kept}
use Rattle.debug_spec.specs.Moved.{Flash}
use Rattle.debug_spec.specs.Debugger.{Mode, stopped, closed, is_out}
use Rattle.debug_spec.specs.Opening.{opening}
use Rattle.debug_spec.specs.Schedule.{Session, Note}
use Rattle.flash_patch.specs.declared.plan.FlashFault.{FlashFault}
use Rattle.run_control.specs.declared.job.Job.{Job}
use Rattle.ice_emul.specs.Beginning.{Leaves}
use Rattle.ice_answer.specs.Kept.{ToolState}
use Rattle.ice_emul.specs.Launching.{rests}
use Rattle.ice_emul.specs.Standing.{IsJob, IsSoundEmulator, StandsFor}
use Rattle.ice_emul.specs.Taking.{is_launching}
use Rattle.ice_emul.specs.declared.emulator.Emulator.{Emulator}
use Rattle.ice_emul.specs.declared.session.Totals.{Totals}
use Rattle.ice_serve.specs.Carrying.{Stands}
use Rattle.ice_serve.specs.Outside.{outside, MovesBoth}
use Rattle.ice_serve.specs.Keeping.{Seen, HasJobIf, IsFree, IsKept, place}
use Rattle.ice_serve.specs.Notes.{WritesBy}
use Rattle.ice_serve.specs.Schedules.{GoesBy}
use Rattle.ice_serve.specs.Endings.{end_by, EndsBy, ClosesBy, WritesEnd, counts, IsServed, StandsClosed, GoesSoFar}
use Rattle.ice_serve.specs.declared.note.Why.{Why}
use Rattle.ice_serve.specs.declared.note.Why.TheVariants.{Okay, Read, Write, TooLong}

-- one that has just begun is kept, with a runner that has launched nothing
pub kept_start : {F : Type 0} (flash : Flash F) (part_of : F → Part) (e : Emulator F) (own : Job F) (v : Seen F) → e.target ≡ Some own →
    e.tool.mode ≡ stopped → IsSoundEmulator part_of e → v.out ≡ false → v.collects ≡ v.launches → IsKept flash part_of e own v
kept_start {F} flash part_of e own v there mode sound free settled = record {
  sound = sound;
  held = subst (λ (o : Option (Job F)). IsJob part_of o e.tool own) (sym there) refl;
  answered = ap is_launching mode;
  runner = subst (λ (b : Bool). HasJobIf b flash part_of own e.tool.stop_asked v) (sym (ap is_out mode))
      (record { free = free; settled = settled });
}

-- its target is at home
pub own_of : {F : Type 0} (target : Option (Job F)) (mode : Mode) → is_some target ≡ rests mode → rests mode ≡ true →
    (own : Job F) × (target ≡ Some own)
own_of None mode here home = absurd (none (here ∙ home))
  where
    none : false ≡ true → ⊥
    none h = cc
own_of (Some own) mode here home = (own, refl)

-- the target of a closed session is the one that is kept
pub closed_target : {F : Type 0} (part_of : F → Part) (e : Emulator F) (job : Job F) (restored : Result ⊤ FlashFault) →
    IsSoundEmulator part_of e → StandsClosed restored e.tool.mode → IsJob part_of e.target e.tool job → e.target ≡ Some job
closed_target {F} part_of e job restored sound shut is =
    let there = own_of e.target e.tool.mode sound.here (ap rests shut) in
    let same : job ≡ there.0 = subst (λ (o : Option (Job F)). IsJob part_of o e.tool job) there.1 is in
    there.1 ∙ ap Some (sym same)

-- and no run is out
pub closed_free : {F : Type 0} (flash : Flash F) (part_of : F → Part) (e : Emulator F) (job : Job F) (v : Seen F)
    (restored : Result ⊤ FlashFault) → StandsClosed restored e.tool.mode → IsKept flash part_of e job v → IsFree v
closed_free flash part_of e job v restored shut kept =
    subst (λ (b : Bool). HasJobIf b flash part_of job e.tool.stop_asked v) (ap is_out shut) kept.runner

ends_by : (why : Why) (restored : Result ⊤ FlashFault) (part : Chip) (notes : List Note) (s t : Session) → GoesBy why part notes s t →
    EndsBy (end_by why restored) part notes s t
ends_by Okay (Ok done) part notes s t h = h
ends_by Okay (Err fault) part notes s t h = h
ends_by Read restored part notes s t h = h
ends_by Write restored part notes s t h = h
ends_by TooLong restored part notes s t h = h

closes_by : (why : Why) (restored : Result ⊤ FlashFault) (mode : Mode) → mode ≡ closed (is_ok restored) →
    ClosesBy (end_by why restored) mode
closes_by Okay (Ok done) mode h = h
closes_by Okay (Err fault) mode h = h
closes_by Read restored mode h = (is_ok restored, h)
closes_by Write restored mode h = (is_ok restored, h)
closes_by TooLong restored mode h = (is_ok restored, h)

writes_end : (why : Why) (restored : Result ⊤ FlashFault) (before after : Option (List ℕ)) (faults faults_now : ℕ) (out : List ℕ) →
    WritesBy why (Some restored) before after faults faults_now out → WritesEnd (end_by why restored) before after faults faults_now out
writes_end Okay (Ok done) before after faults faults_now out h = h
writes_end Okay (Err fault) before after faults faults_now out h = h
writes_end Read restored before after faults faults_now out h = h
writes_end Write restored before after faults faults_now out h = h
writes_end TooLong restored before after faults faults_now out h = h

module _ {F : Type 0} (flash : Flash F) (part_of : F → Part) (e last : Emulator F) (own : Job F) (v now : Seen F) (why : Why)
    (restored : Result ⊤ FlashFault) (notes : List Note) (before after : Option (List ℕ)) (faults faults_now : ℕ)
    (goes : GoesSoFar flash part_of why (Some restored) notes e own v before after faults faults_now last now) (none : v.launches ≡ 0)
    (shut : StandsClosed restored last.tool.mode) (given : F) (totals : Totals)
    (leaves : Leaves last goes.continues.job_then given totals) where
  abbrev chip : Chip
  chip = chip_of e.tool.plan.part

  pub served : IsServed flash part_of e own notes (end_by why restored) given totals now.launches (counts before faults v.faults)
      (counts after faults_now now.faults)
  served = record {
    out = goes.out;
    writes = writes_end why restored before after faults faults_now goes.out goes.writes;
    asks = goes.continues.goes.asks;
    moved = subst (λ (f : F). MovesBoth flash (outside own.flash v.faults) goes.continues.goes.asks (outside f now.faults))
        (sym leaves.flash_is) goes.continues.goes.moved;
    leads = λ prog device left stands answered.
        let s : Session = opening chip prog device in
        let from : Stands (StandsFor flash) (place e own v) s = record { stands = stands; launches = sym none } in
        let t = goes.continues.goes.leads s left from answered in
        let mode : t.0.state.mode ≡ last.tool.mode = sym (ap (λ (k : ToolState). k.mode) t.2.stands.tool) in (
          t.0,
          ends_by why restored chip notes s t.0 t.1,
          closes_by why restored t.0.state.mode (mode ∙ shut),
          t.4,
          t.3,
          t.5,
          sym t.2.stands.words ∙ ap flash.words (sym leaves.flash_is),
          (
            leaves.cycles ∙ ap (λ (k : Kept). k.io.cycles) t.2.stands.core,
            leaves.steps ∙ ap (λ (k : Kept). k.steps) t.2.stands.core,
            leaves.writes ∙ ap (λ (k : Kept). k.io.total) t.2.stands.core,
            leaves.dropped ∙ ap (λ (k : ToolState). k.dropped) t.2.stands.tool,
          ),
          t.2.launches,
        );
  }
