-- The line of a session ends: at once, or with the run that is out.
use Rattle.std.proofs.Common.{◌≡◌, ℕ, Bool, true, false, List, [], ◌++◌, Result, refl, sym, ap, ◌∙◌, subst, append-nil}
use Rattle.std.specs.Prelude.{⊤, is_ok}
use Rattle.part_spec.specs.declared.part.Part.{Part}
use Rattle.part_spec.specs.Chip.{Chip, chip_of}
use Rattle.debug_spec.specs.Device.{Asked}
use Rattle.debug_spec.specs.Moved.{Flash}
use Rattle.debug_spec.specs.Debugger.{Mode, stopped, launching, running, programming, leaving, closed, Debugger, is_out, listens}
use Rattle.debug_spec.specs.Replay.{settled_in, steps_for, bytes_sent}
use Rattle.debug_spec.specs.Schedule.{Session, line_ended}
use Rattle.debug_spec.specs.TakeReplays.{settled_then}
use Rattle.flash_patch.specs.declared.plan.FlashFault.{FlashFault}
use Rattle.run_control.specs.declared.inline.Inline.{Inline}
use Rattle.run_control.specs.declared.job.Job.{Job}
use Rattle.ice_answer.specs.Kept.{ToolState}
use Rattle.ice_emul.specs.Standing.{IsHeld, IsSoundEmulator}
use Rattle.ice_emul.specs.Taking.{DoesCall, NextStands, EndsLine, takes_line}
use Rattle.ice_emul.specs.declared.emulator.Emulator.{Emulator}
use Rattle.ice_emul.specs.declared.emulator.Next.{Next}
use Rattle.ice_emul.specs.declared.emulator.Next.TheVariants.{RaiseStop, Closed as Closes}
use Rattle.ice_replay.specs.Keeping.{Place, place, Waits, Rests, WaitsIf, IsKept}
use Rattle.ice_replay.specs.Steps.{Continues, Settles}
use Rattle.ice_replay.specs.Endings.{LineEnds}
use Rattle.ice_replay.proofs.Quiet.{asks_none, waits_on}
use Rattle.ice_replay.proofs.Halted.{ComesOut, IsFreed, halted}
use Rattle.ice_replay.proofs.LineEnding.{silent}

closed_stays : (part : Chip) (stops : List ℕ) (m : Mode) (restored : Bool) (s : Debugger) → m ≡ closed restored →
    settled_in true part stops m s ≡ s
closed_stays part stops m restored s is = ap (λ (k : Mode). settled_in true part stops k s) is

module _ {F : Type 0} (flash : Flash F) (part_of : F → Part) (e now : Emulator F) (r : Inline F) (job : Job F) (pend : List Asked)
    (next : Next F) (out : List ℕ) (kept : IsKept flash part_of (place e r job pend)) (sound : IsSoundEmulator part_of now)
    (stands : NextStands flash part_of next e now) (ends : EndsLine next e.tool.mode now.tool.mode)
    (call : DoesCall flash part_of (λ s t. t ≡ line_ended (chip_of e.tool.plan.part) s) e job out next now) where
  abbrev p : Place F
  p = place e r job pend

  abbrev chip : Chip
  chip = chip_of e.tool.plan.part

  abbrev stops : List ℕ
  stops = r.stops.items

  abbrev Lines : Session → Session → Type 0
  Lines s t = t ≡ line_ended chip s

  abbrev Lined : Session → Session → Type 0
  Lined s t = t.state ≡ (settled_then true chip stops (line_ended chip s)).state

  -- nothing is sent with it
  sends_none : (s t : Session) → Lined s t → bytes_sent t.state ≡ bytes_sent s.state ++ []
  sends_none s t is = ap bytes_sent is ∙ silent chip stops s ∙ sym (append-nil (bytes_sent s.state))

  with_none : (x : List ℕ) (after : Emulator F) (q : Inline F) → Continues flash part_of Lined p x after q →
      Continues flash part_of Lined p [] after q
  with_none x after q c = record {
    job = c.job;
    pend = c.pend;
    kept = c.kept;
    goes = record {
      asks = c.goes.asks;
      moved = c.goes.moved;
      begins = c.goes.begins;
      leads = λ s left rest stands answered later.
          let t = c.goes.leads s left rest stands answered later in (t.0, t.1, t.2, t.3, sends_none s t.0 t.1, t.5);
    };
  }

  abbrev Stood : Next F → Type 0
  Stood n = NextStands flash part_of n e now

  abbrev Ended : Next F → Type 0
  Ended n = EndsLine n e.tool.mode now.tool.mode

  abbrev Called : Next F → Type 0
  Called n = DoesCall flash part_of Lines e job out n now

  -- the session is closed at once
  module _ (restored : Result ⊤ FlashFault) (is : next ≡ Closes restored) where
    home : is_out e.tool.mode ≡ false
    home = subst Ended is ends

    mode : now.tool.mode ≡ closed (is_ok restored)
    mode = subst Stood is stands

    called : Called (Closes restored)
    called = subst Called is call

    rests : Rests p
    rests = subst (λ (b : Bool). WaitsIf flash part_of b p) home kept.seat

    abbrev q : Place F
    q = place now r called.now []

    not_out : is_out now.tool.mode ≡ false
    not_out = ap is_out mode

    in_now : (b : Bool) → b ≡ false → b ≡ true → ⊥
    in_now b h k = absurd (no (sym h ∙ k))
      where
        no : false ≡ true → ⊥
        no e = cc

    pub closed_line : LineEnds flash part_of p now r
    closed_line = record {
      job = called.now;
      pend = [];
      kept = record {
        sound = sound;
        held = called.is;
        runner = kept.runner;
        seat = subst (λ (b : Bool). WaitsIf flash part_of b q) (sym not_out) (record { free = rests.free; seen = refl; counts = rests.counts });
      };
      goes = record {
        asks = called.carries.asks;
        moved = called.carries.moved;
        begins = (
          called.carries.asks,
          append-nil called.carries.asks ∙ ap (λ (l : List Asked). l ++ called.carries.asks) (sym rests.seen),
        );
        leads = λ s left rest stands answered later.
            let t = called.carries.leads s left stands.stands answered in
            let mode_t : t.0.state.mode ≡ closed (is_ok restored) = ap (λ (k : ToolState). k.mode) (sym t.2.tool) ∙ mode in
            let same : t.0.state ≡ (line_ended chip s).state = ap (λ (x : Session). x.state) t.1.0 in
            let lined : Lined s t.0 = same ∙ sym (closed_stays chip stops (line_ended chip s).state.mode (is_ok restored)
            (line_ended chip s).state (ap (λ (d : Debugger). d.mode) (sym same) ∙ mode_t)) in (
              t.0,
              lined,
              record {
                stands = t.2;
                launches = t.1.1 ∙ stands.launches;
                asked = λ out_t. absurd (in_now (is_out t.0.state.mode) (ap is_out mode_t) out_t);
              },
              t.3,
              sends_none s t.0 lined,
              t.1.2 ∙ ap (λ (l : List Asked). s.state.device.asked ++ l) (sym called.same_asks),
            );
      };
    }

  -- it is closed with the run that is out
  module _ (is : next ≡ RaiseStop) (event : List ℕ) (after : Emulator F) (freed_r : Inline F) (sound_after : IsSoundEmulator part_of after)
      (home_then : is_out after.tool.mode ≡ false) (freed : IsFreed r freed_r r.launches)
      (settles : (own : Job F) → IsHeld part_of now own → Waits flash part_of (place now r own pend) →
      Settles flash part_of (steps_for r.stops.items r.launches) false pend now own event after) where
    stood : NextStands flash part_of RaiseStop e now
    stood = subst Stood is stands

    stop_called : Called RaiseStop
    stop_called = subst Called is call

    waits : Waits flash part_of p
    waits = subst (λ (b : Bool). WaitsIf flash part_of b p) stood.2 kept.seat

    none : stop_called.carries.asks ≡ []
    none = asks_none flash part_of e now r job pend Lines out RaiseStop kept.sound sound stop_called stood.2 stop_called.tells.0

    comes : ComesOut flash Lines p stop_called.carries.asks out now stop_called.now r.launches false
    comes = record {
      moved = stop_called.carries.moved;
      out = stop_called.tells.0;
      part = stop_called.part;
      leads = λ s left stands answers.
          let t = stop_called.carries.leads s left stands.stands answers in (
            t.0,
            t.1.0,
            t.2,
            t.1.1 ∙ stands.launches,
            λ late. ap (λ (k : ToolState). k.stop_asked) (sym t.2.tool) ∙ stop_called.tells.1,
            t.3,
            t.4,
            t.1.2 ∙ ap (λ (l : List Asked). s.state.device.asked ++ l) (sym stop_called.same_asks),
          );
    }

    pub left_line : LineEnds flash part_of p after freed_r
    left_line =
        let s = settles stop_called.now stop_called.is (waits_on flash part_of e now r job pend Lines out RaiseStop kept.sound sound stop_called
        stood.2 stop_called.tells.0 stood.3 waits) in
        with_none (out ++ event) after freed_r
        (halted flash part_of Lines Lined p stop_called.carries.asks out now stop_called.now r.launches false kept comes pend event s.0 after
        freed_r s.1
        (s.1.begins.0, ap (λ (l : List Asked). l ++ s.1.call.carries.asks) none ∙ s.1.begins.1)
        sound_after home_then freed
        (λ a t u quiet is_t is_u. ap (λ (x : Session). x.state) (is_u ∙ ap (settled_then true chip stops) is_t)))

-- a session that listens takes the end of its line
pub takes_its_end : (m : Mode) → listens m ≡ true → takes_line m ≡ true
takes_its_end stopped on = refl
takes_its_end (launching number) on = cc
takes_its_end running on = refl
takes_its_end programming on = refl
takes_its_end leaving on = cc
takes_its_end (closed restored) on = cc
