-- A launch is answered.
use Rattle.std.proofs.Common.{◌≡◌, ℕ, suc, true, false, List, [], ◌∷◌, ◌++◌, Option, Some, None, refl, sym, ap, ◌∙◌, subst}
use Rattle.std.specs.Prelude.{is_some}
use Rattle.part_spec.specs.declared.part.Part.{Part}
use Rattle.part_spec.specs.Chip.{chip_of}
use Rattle.line_spec.specs.Frames.{Frame}
use Rattle.line_spec.specs.Messages.{okay, refused, response_body}
use Rattle.line_spec.specs.declared.refusal.Refusal.TheVariants.{Failed}
use Rattle.debug_spec.specs.Device.{Outcome, made, denied, launch, Device, is_made, next_of, launched}
use Rattle.debug_spec.specs.Moved.{Flash}
use Rattle.debug_spec.specs.SessionLaws.{IsSound}
use Rattle.debug_spec.specs.Debugger.{Mode, stopped, launching, running, programming, leaving, closed, Debugger, replied}
use Rattle.debug_spec.specs.Running.{launch_in, launch_by, launch_if_prepared}
use Rattle.debug_spec.specs.Replay.{bytes_sent}
use Rattle.debug_spec.specs.Schedule.{Session, Keeps}
use Rattle.debug_spec.specs.Take.{goes_on}
use Rattle.debug_spec.proofs.Moving.{events_move}
use Rattle.run_control.specs.declared.job.Job.{Job}
use Rattle.ice_answer.specs.Kept.{ToolState, prepared_number}
use Rattle.ice_answer.specs.Does.{Sends}
use Rattle.ice_emul.specs.Taking.{is_launching}
use Rattle.ice_emul.specs.Standing.{IsLaunched, held, StandsFor}
use Rattle.ice_emul.specs.Session.{Launches, DoesNotLaunch}
use Rattle.ice_emul.specs.declared.emulator.Emulator.{Emulator}
use Rattle.ice_answer.proofs.Doing.{sent-more, yes_elim, no_elim}
use Rattle.ice_emul.proofs.HeardFrames.{is_launched}

-- the launch of a run that is prepared is asked for
launch_of : (m : Mode) (number : ℕ) (s : Debugger) → m ≡ launching number → launch_by number (launched s.device) s ≡ launch_in m s
launch_of m number s is = ap (λ (k : Mode). launch_in k s) (sym is)

-- a device of which a launch was asked
abbrev asked_launch : Device → Device
asked_launch d = (launched d).device

-- the bytes of one reply
one_reply : (s : Debugger) (number : ℕ) (body out : List ℕ) → Sends number body [] out →
    bytes_sent (record s { sent = s.sent ++ record { number = number; body = body } ∷ [] }) ≡ bytes_sent s ++ out
one_reply s number body out sends =
    let frame : Frame = record { number = number; body = body } in
    sent-more s.sent frame ∙ ap (λ (t : List ℕ). bytes_sent s ++ t) (sym sends)

module _ {F : Type 0} (flash : Flash F) (part_of : F → Part) (before : Emulator F) (job : Job F) (number : ℕ) (out : List ℕ)
    (prepared : before.tool.mode ≡ launching number) (none : before.target ≡ None) (launching_job : IsLaunched part_of before.tool job) where
  module _ (s : Session) (stands : StandsFor flash (held before job) s) where
    in_mode : s.state.mode ≡ launching number
    in_mode = ap (λ (k : ToolState). k.mode) (sym stands.tool) ∙ prepared

    still_held : before.receiver.held ≡ s.held
    still_held = sym (subst (λ (m : Mode). Keeps (goes_on m) before.receiver.held s.held) in_mode stands.held)

    sound_launched : IsSound (chip_of before.tool.plan.part) (launch_if_prepared s.state)
    sound_launched = (events_move.launch (chip_of before.tool.plan.part) s.state).sound stands.sound

    module _ (left : List Outcome) where
      abbrev run_out : Debugger
      run_out = replied number okay (record s.state { mode = running; device = asked_launch s.state.device; launches = suc s.state.launches })

      is_run : made ≡ next_of s.state.device.outcomes → run_out ≡ launch_if_prepared s.state
      is_run answered =
          yes_elim (launched s.state.device).ok run_out
          (replied number (refused Failed) (record s.state { mode = stopped; device = asked_launch s.state.device; run_to = None }))
          (ap is_made (sym answered)) ∙
          launch_of s.state.mode number s.state in_mode

      abbrev stays_home : Debugger
      stays_home = replied number (refused Failed) (record s.state { mode = stopped; device = asked_launch s.state.device; run_to = None })

      is_home : denied ≡ next_of s.state.device.outcomes → stays_home ≡ launch_if_prepared s.state
      is_home answered =
          no_elim (launched s.state.device).ok
          (replied number okay (record s.state { mode = running; device = asked_launch s.state.device; launches = suc s.state.launches })) stays_home
          (ap is_made (sym answered)) ∙
          launch_of s.state.mode number s.state in_mode

  abbrev out_now : Emulator F
  out_now = record before { tool = record before.tool { mode = running } }

  pub run_launched : Sends number (response_body okay) [] out → Launches flash part_of before job out out_now
  run_launched sends = record {
    is = is_launched flash part_of before.target (record before.tool { mode = running }) job none
        (record { flash = launching_job.flash; core = launching_job.core; fresh = launching_job.fresh; replant = launching_job.replant });
    mode = refl;
    asked = refl;
    part = refl;
    answers = λ s left stands answered.
        let P : Debugger → Type 0 = λ t. IsSound (chip_of before.tool.plan.part) t →
        StandsFor flash (held out_now job) (record { held = s.held; state = t }) × (t.device.outcomes ≡ left) ×
        (bytes_sent t ≡ bytes_sent s.state ++ out) × (t.launches ≡ suc s.state.launches) ×
        (t.device.asked ≡ s.state.device.asked ++ launch made ∷ []) in
        subst P (is_run s stands left answered.0)
        (λ sound. (
          record {
            tool = ap (λ (k : ToolState). record k { mode = running }) stands.tool;
            core = stands.core;
            comparators = stands.comparators;
            words = stands.words;
            held = sym (still_held s stands);
            sound = sound;
          },
          answered.1,
          one_reply s.state number (response_body okay) out sends,
          refl,
          ap (λ (o : Outcome). s.state.device.asked ++ launch o ∷ []) (sym answered.0),
        ))
        (sound_launched s stands);
  }

  abbrev home_now : Emulator F
  home_now = record before { tool = record before.tool { mode = stopped; run_to = None }; target = Some (record job { replant = None }) }

  pub run_not_launched : Sends number (response_body (refused Failed)) [] out → DoesNotLaunch flash part_of before job out home_now
  run_not_launched sends = record {
    now = record job { replant = None };
    is = refl;
    flash_stays = refl;
    mode = refl;
    part = refl;
    answers = λ s left stands answered.
        let P : Debugger → Type 0 = λ t. IsSound (chip_of before.tool.plan.part) t →
        StandsFor flash (held home_now (record job { replant = None })) (record { held = s.held; state = t }) × (t.device.outcomes ≡ left) ×
        (bytes_sent t ≡ bytes_sent s.state ++ out) × (t.launches ≡ s.state.launches) ×
        (t.device.asked ≡ s.state.device.asked ++ launch denied ∷ []) in
        subst P (is_home s stands left answered.0)
        (λ sound. (
          record {
            tool = ap (λ (k : ToolState). record k { mode = stopped; run_to = None }) stands.tool;
            core = stands.core;
            comparators = stands.comparators;
            words = stands.words;
            held = sym (still_held s stands);
            sound = sound;
          },
          answered.1,
          one_reply s.state number (response_body (refused Failed)) out sends,
          refl,
          ap (λ (o : Outcome). s.state.device.asked ++ launch o ∷ []) (sym answered.0),
        ))
        (sound_launched s stands);
  }

-- a run is prepared for this frame
pub prepared_mode : (m : Mode) (number : ℕ) → prepared_number m ≡ Some number → m ≡ launching number
prepared_mode stopped number h = cc
prepared_mode (launching other) number h = cc
prepared_mode running number h = cc
prepared_mode programming number h = cc
prepared_mode leaving number h = cc
prepared_mode (closed restored) number h = cc

pub not_at_home : {F : Type 0} (target : Option (Job F)) → is_some target ≡ false → target ≡ None
not_at_home None h = refl
not_at_home (Some job) h = cc

-- one for which it is has a number
pub prepared_some : (m : Mode) → is_launching m ≡ true → (number : ℕ) × (prepared_number m ≡ Some number)
prepared_some stopped h = cc
prepared_some (launching number) h = (number, refl)
prepared_some running h = cc
prepared_some programming h = cc
prepared_some leaving h = cc
prepared_some (closed restored) h = cc
