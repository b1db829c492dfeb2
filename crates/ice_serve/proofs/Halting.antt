-- The line ends, and the run that is out does.
use Rattle.std.proofs.Common.{◌≡◌, ◌≤◌, ℕ, suc, true, false, List, [], Result, refl, sym, ap, ◌∙◌, subst, arith}
use Rattle.std.specs.Prelude.{⊤, is_ok}
use Rattle.part_spec.specs.declared.part.Part.{Part}
use Rattle.part_spec.specs.Chip.{Chip, chip_of}
use Rattle.debug_spec.specs.Moved.{Flash}
use Rattle.debug_spec.specs.Debugger.{stopped, closed, is_out}
use Rattle.debug_spec.specs.Schedule.{Session, line_ended, IsHalted}
use Rattle.flash_patch.specs.declared.plan.FlashFault.{FlashFault}
use Rattle.run_control.specs.declared.job.Job.{Job}
use Rattle.run_control.specs.declared.job.Halt.TheVariants.{Forced}
use Rattle.run_control.specs.declared.runner.Done.{Done}
use Rattle.ice_emul.specs.Standing.{held, IsSoundEmulator, StandsFor}
use Rattle.ice_emul.specs.Taking.{DoesCall, EndsLine, IsEndOf, NextStands, is_launching}
use Rattle.ice_emul.specs.Coming.{IsOver}
use Rattle.ice_emul.specs.declared.emulator.Emulator.{Emulator}
use Rattle.ice_emul.specs.declared.emulator.Next.{Next}
use Rattle.ice_emul.specs.declared.emulator.Next.TheVariants.{Answered, RaiseStop, Closed as Closes}
use Rattle.ice_serve.specs.Keeping.{Seen, IsFree, IsKept, place, GoesOn, Continues}
use Rattle.ice_serve.proofs.Carrying.{carries_of, carries_silent}
use Rattle.ice_serve.proofs.Kept.{mode_in, has_job, is_free, kept_out, kept_home}
use Rattle.ice_serve.proofs.Telling.{line_silent, halt_silent}

module _ {F : Type 0} (flash : Flash F) (part_of : F → Part) (e mid : Emulator F) (job : Job F) (v : Seen F) (next : Next F)
    (out : List ℕ) (kept : IsKept flash part_of e job v) (sound : IsSoundEmulator part_of mid)
    (stands : NextStands flash part_of next e mid) where
  abbrev chip : Chip
  chip = chip_of e.tool.plan.part

  abbrev Stood : Next F → Type 0
  Stood n = NextStands flash part_of n e mid

  -- a call of these sessions, with what is kept behind it
  of_call : (Goes : Session → Session → Type 0) (n : Next F) (c : DoesCall flash part_of Goes e job out n mid) (now : Seen F) →
      now.launches ≡ v.launches → v.faults ≤ now.faults → GoesOn flash Goes (place e job v) out (place mid c.now now)
  of_call Goes n c now counted less =
      subst (λ (k : ℕ). GoesOn flash Goes (place e job v) out (record { it = held mid c.now; launches = k; faults = now.faults })) (sym counted)
      (carries_of flash (λ h. h.job.flash) (StandsFor flash) Goes c.asks (held e job) (held mid c.now) v.launches v.faults now.faults out less
      c.carries c.same_asks)

  module _ (ends : EndsLine next e.tool.mode mid.tool.mode)
      (call : DoesCall flash part_of (λ s t. t ≡ line_ended chip s) e job out next mid) where
    abbrev Lines : Session → Session → Type 0
    Lines s t = t ≡ line_ended chip s

    abbrev Called : Next F → Type 0
    Called n = DoesCall flash part_of Lines e job out n mid

    abbrev Ended : Next F → Type 0
    Ended n = EndsLine n e.tool.mode mid.tool.mode

    with_none : (now : Seen F) (then_job : Job F) → GoesOn flash Lines (place e job v) out (place mid then_job now) →
        GoesOn flash Lines (place e job v) [] (place mid then_job now)
    with_none now then_job h =
        carries_silent flash (λ h. h.job.flash) (StandsFor flash) Lines (place e job v) (place mid then_job now) out
        (λ s t before after is. line_silent chip s t is) h

    -- the session is closed
    pub closed_line : (restored : Result ⊤ FlashFault) → next ≡ Closes restored → Continues flash part_of Lines e job v [] mid v
    closed_line restored is =
        let stood : Stood (Closes restored) = subst Stood is stands in
        let home : is_out e.tool.mode ≡ false = subst Ended is ends in
        let c : Called (Closes restored) = subst Called is call in
        record {
          job_then = c.now;
          kept = kept_home flash part_of e mid job v v Lines out (Closes restored) kept sound c (ap is_out stood) (ap is_launching stood)
              (is_free flash part_of e job v kept home);
          goes = with_none v c.now (of_call Lines (Closes restored) c v refl (omega arith));
        }

    -- or the run that is out is asked to stop
    pub left_line : next ≡ RaiseStop → (now : Seen F) → now.out ≡ true → ((done : Done F) → now.gives done → v.gives done) →
        now.launches ≡ v.launches → now.collects ≡ v.collects → v.faults ≤ now.faults → Continues flash part_of Lines e job v [] mid now
    left_line is now out_now gives launches collects less =
        let stood : Stood RaiseStop = subst Stood is stands in
        let c : Called RaiseStop = subst Called is call in
        let has = has_job flash part_of e job v kept stood.2 in
        record {
          job_then = c.now;
          kept = kept_out flash part_of e mid job v now Lines out RaiseStop kept sound c stood.2 stood.0 (record {
            out = out_now;
            due = ap suc collects ∙ has.due ∙ sym launches;
            raised = λ raised. stood.1;
            gives = λ done given. has.gives done (gives done given);
          });
          goes = with_none now c.now (of_call Lines RaiseStop c now launches less);
        }

  -- the end of the run that is out is taken
  module _ (done : Done F) (out_e : is_out e.tool.mode ≡ true) (gave : v.gives done) (forced : done.halt ≡ Forced → v.raised ≡ true)
      (over : IsOver next e.tool.mode mid.tool.mode)
      (takes : IsEndOf flash part_of e job done → DoesCall flash part_of (IsHalted true chip) e job out next mid)
      (now : Seen F) (free : now.out ≡ false) (launches : now.launches ≡ v.launches) (collects : now.collects ≡ suc v.collects)
      (less : v.faults ≤ now.faults) where
    abbrev Halts : Session → Session → Type 0
    Halts = IsHalted true chip

    halted_call : DoesCall flash part_of Halts e job out next mid
    halted_call =
        let has = has_job flash part_of e job v kept out_e in
        takes (record { ends = has.gives done gave; asked = λ is. has.raised (forced is) })

    freed : IsFree now
    freed = record { free = free; settled = collects ∙ (has_job flash part_of e job v kept out_e).due ∙ sym launches }

    abbrev Over : Next F → Type 0
    Over n = IsOver n e.tool.mode mid.tool.mode

    abbrev Halted : Next F → Type 0
    Halted n = DoesCall flash part_of Halts e job out n mid

    -- it is told, and the target is stopped
    pub told_halt : next ≡ Answered → Continues flash part_of Halts e job v out mid now
    told_halt is =
        let done_so : Over Answered = subst Over is over in
        let c : Halted Answered = subst Halted is halted_call in
        record {
          job_then = c.now;
          kept = kept_home flash part_of e mid job v now Halts out Answered kept sound c (ap is_out done_so.1) (ap is_launching done_so.1) freed;
          goes = of_call Halts Answered c now launches less;
        }

    -- the session is closed with it
    pub closed_halt : (restored : Result ⊤ FlashFault) → next ≡ Closes restored → Continues flash part_of Halts e job v [] mid now
    closed_halt restored is =
        let done_so : Over (Closes restored) = subst Over is over in
        let c : Halted (Closes restored) = subst Halted is halted_call in
        record {
          job_then = c.now;
          kept = kept_home flash part_of e mid job v now Halts out (Closes restored) kept sound c (ap is_out done_so) (ap is_launching done_so)
              freed;
          goes = carries_silent flash (λ h. h.job.flash) (StandsFor flash) Halts (place e job v) (place mid c.now now) out
              (λ s t before after h. halt_silent chip (is_ok restored) s t h (mode_in flash mid c.now now t after ∙ done_so))
              (of_call Halts (Closes restored) c now launches less);
        }
