-- Each event of a session keeps what holds of the debugger: commands, launches, the end of the line and the ends of runs.
use Rattle.std.proofs.Common.{◌≡◌, ℕ, zero, suc, ◌/◌, ◌==◌, ◌&&◌, ◌||◌, cond, Bool, true, false, List, [], ◌∷◌, length, Option, Some, None}
use Rattle.std.proofs.Common.{ltb, refl, sym, ◌∙◌, ap, ap₂, subst, inl, inr}
use Rattle.std.specs.Prelude.{nat_le, nat_lt, slice_get, slice_set}
use Rattle.std.proofs.lemmas.Bool.{and_parts, or_right, true≢false}
use Rattle.part_spec.specs.Chip.{Chip, m16, page_words, words_of}
use Rattle.avr_spec.specs.Machine.{Machine, restarted}
use Rattle.avr_spec.specs.Memory.{store}
use Rattle.avr_spec.specs.Effect.{with_io, with_pc}
use Rattle.line_spec.specs.declared.refusal.Refusal.TheVariants.{Failed, IllegalMemoryType, IllegalMemoryRange, IllegalMcuState}
use Rattle.line_spec.specs.declared.refusal.Refusal.TheVariants.{IllegalValue, IllegalCommand, IllegalBreakpoint}
use Rattle.line_spec.specs.Messages.{Command, sign_off, get_sign_on, set_parameter, get_parameter, write_memory, read_memory, write_pc}
use Rattle.line_spec.specs.Messages.{read_pc, go, single_step, forced_stop, reset, set_device_descriptor, erase_page, get_sync, set_break}
use Rattle.line_spec.specs.Messages.{chip_erase, enter_programming, leave_programming, clear_break, run_to, clear_events, Response, okay}
use Rattle.line_spec.specs.Messages.{refused, signed_on, own_head, own_name, program_counter}
use Rattle.line_spec.specs.Hearing.{asks, unknown_code, wrong_length, Heard, request, dropped}
use Rattle.line_spec.specs.Parameters.{parameter_read, parameter_written}
use Rattle.debug_spec.specs.Patch.{has, without, patch, plantable}
use Rattle.debug_spec.specs.Stop.{by_reset}
use Rattle.debug_spec.specs.Run.{End}
use Rattle.debug_spec.specs.Device.{Tried, launched, synced, replanted, untouched}
use Rattle.debug_spec.specs.Debugger.{Mode, stopped, launching, running, programming, leaving, closed, Debugger, listens, is_out}
use Rattle.debug_spec.specs.Debugger.{comparator_count, state_number, targets_by, targets, replied, told, dropping}
use Rattle.debug_spec.specs.Running.{left, line_end, prepared, launch_if_prepared, replant, device_after, stopped_at, run_ended}
use Rattle.debug_spec.specs.Breakpoints.{program_break, inserted, may_set, set_numbered, is_set, break_cleared, no_breakpoint, soft_limit}
use Rattle.debug_spec.specs.MemoryTypes.{Access, memory_types, access_of, stored_from, changed, read_of, write_of, memory_written}
use Rattle.debug_spec.specs.Commands.{parameter_response, entered_by, heard_by, item, item_launched}
use Rattle.debug_spec.specs.RunLaws.{AllPlantable}
use Rattle.debug_spec.specs.PageLaws.{LeadsTo}
use Rattle.debug_spec.specs.SessionLaws.{IsFit, IsPlanted, IsInMode, IsSound, Moves, EventsMove, OnlyProgrammingChanges, OpenedIsSound}
use Rattle.debug_spec.specs.SessionLaws.{RunsArePlanted}
use Rattle.debug_spec.proofs.Sets.{has-within, has-without_absent}
use Rattle.debug_spec.proofs.PageLemmas.{leads-nothing, leads-launch, leads-from, leads-page, leads-onward, replant_makes_patch, same_patch}
use Rattle.debug_spec.proofs.Fits.{fits-launched, fits-synced, synced-in_place, fits-replanted}
use Rattle.debug_spec.proofs.Soundness.{at, event, reply, grows-nothing, no_address, has-inserted, moves-none, moves-onward, Keeps}
use Rattle.debug_spec.proofs.Soundness.{keeps-none, keeps-onward, keeps-if, keeps-dropped, keeps-parameter, keeps-off, keeps-replied}
use Rattle.debug_spec.proofs.Soundness.{keeps-event, keeps-stopped, keeps-soft, keeps-left, keeps-prepared, keeps-single}
use Rattle.debug_spec.proofs.ProgrammingMoves.{by_access, Programs, kept, programs-command}

-- an address that is some address is that one
same_some : (a b : ℕ) → Some a ≡ Some b → a ≡ b
same_some a b e = cc

-- the page write behind the first step, told whether the run starts at a breakpoint
abbrev pub replant_by : Bool → Debugger → Tried
replant_by b s = elim b [ true ↦ replanted (patch s.prog (targets s)) s.machine.pc s.device | false ↦ untouched s.device ]

module _ (part : Chip) where
  -- an answer to a stopped target, with a change of the target or of comparators
  answered_stopped : (s : Debugger) (number : ℕ) (response : Response) (plain : Machine) (comparators : List (Option ℕ)) →
      Keeps part (at stopped s) (replied number response (record (at stopped s) { machine = plain; comparators = comparators }))
  answered_stopped s number response plain comparators =
      keeps-stopped part s plain comparators (replied number response (at stopped s)).sent (reply number response ∷ [], refl)

  -- what a stopped target's memory types write is the target's alone
  keeps-write : (s : Debugger) (number kind address : ℕ) (bytes : List ℕ) →
      Keeps part (at stopped s) (memory_written part number kind address bytes (at stopped s))
  keeps-write s number kind address bytes =
      by_access (λ (a : Access). Keeps part (at stopped s) (write_of part a.written number address bytes (at stopped s))) stopped kind
      memory_types (
        stored _ (stored_from (store part) address bytes s.machine),
        (
          stored _ (stored_from with_io address bytes s.machine),
          (none, (none, (none, (none, (none, none))))),
        ),
      )
    where
      none : Keeps part (at stopped s) (replied number (refused IllegalMemoryType) (at stopped s))
      none = keeps-replied part (at stopped s) number (refused IllegalMemoryType)

      stored : (past : Bool) (p : Machine) → Keeps part (at stopped s)
          (cond past (replied number (refused IllegalMemoryRange) (at stopped s)) (changed number p (at stopped s)))
      stored past p = keeps-if part past (at stopped s) (replied number (refused IllegalMemoryRange) (at stopped s))
          (changed number p (at stopped s)) (keeps-replied part (at stopped s) number (refused IllegalMemoryRange))
          (answered_stopped s number okay p s.comparators)

  -- a software breakpoint that may be set may be planted
  plants-more : (s : Debugger) (address : ℕ) → plantable part s.prog address ≡ true → AllPlantable part s.prog (targets s) →
      AllPlantable part s.prog (targets_by s.run_to (inserted address s.soft))
  plants-more s address may plants = by_to s.run_to plants
    where
      in_soft : AllPlantable part s.prog s.soft → AllPlantable part s.prog (inserted address s.soft)
      in_soft h a e = elim (has-inserted address a s.soft e) [
        | inl here ↦ subst (λ (k : ℕ). plantable part s.prog k ≡ true) (sym here) may
        | inr there ↦ h a there
      ]

      in_more : (to : ℕ) → AllPlantable part s.prog (to ∷ s.soft) → (a : ℕ) (b : Bool) → (a == to) ≡ b →
          (b || has (inserted address s.soft) a) ≡ true → plantable part s.prog a ≡ true
      in_more to h a true same e = h a (ap (λ (t : Bool). t || has s.soft a) same)
      in_more to h a false same e = in_soft (λ c f. h c (or_right (c == to) (has s.soft c) f)) a e

      by_to : (to : Option ℕ) → AllPlantable part s.prog (targets_by to s.soft) →
          AllPlantable part s.prog (targets_by to (inserted address s.soft))
      by_to None h = in_soft h
      by_to (Some to) h = λ a e. in_more to h a (a == to) refl e

  plants-less : (s : Debugger) (address : ℕ) → AllPlantable part s.prog (targets s) →
      AllPlantable part s.prog (targets_by s.run_to (without address s.soft))
  plants-less s address plants = by_to s.run_to plants
    where
      in_less : (to : ℕ) → AllPlantable part s.prog (to ∷ s.soft) → (a : ℕ) (b : Bool) → (a == to) ≡ b →
          (b || has (without address s.soft) a) ≡ true → plantable part s.prog a ≡ true
      in_less to h a true same e = h a (ap (λ (t : Bool). t || has s.soft a) same)
      in_less to h a false same e = h a (ap₂ (λ (x y : Bool). x || y) same (has-within address a s.soft e))

      by_to : (to : Option ℕ) → AllPlantable part s.prog (targets_by to s.soft) →
          AllPlantable part s.prog (targets_by to (without address s.soft))
      by_to None h = λ a e. h a (has-within address a s.soft e)
      by_to (Some to) h = λ a e. in_less to h a (a == to) refl e

  keeps-set : (s : Debugger) (frame number address : ℕ) → Keeps part (at stopped s) (set_numbered part frame number address (at stopped s))
  keeps-set s frame zero address = by_may (may_set part (at stopped s) address) refl
    where
      by_may : (b : Bool) → may_set part (at stopped s) address ≡ b → Keeps part (at stopped s)
          (cond b (replied frame okay (record (at stopped s) { soft = inserted address s.soft })) (no_breakpoint frame (at stopped s)))
      by_may true e = keeps-soft part s (inserted address s.soft) (replied frame okay (at stopped s)).sent (reply frame okay ∷ [], refl)
          (plants-more s address (and_parts (plantable part s.prog address) (has s.soft address || ltb (length s.soft) soft_limit) e).0)
      by_may false e = keeps-replied part (at stopped s) frame (refused IllegalBreakpoint)
  keeps-set s frame (suc number) address = answered_stopped s frame okay s.machine (slice_set s.comparators number (Some address))

  keeps-clear : (s : Debugger) (frame number address : ℕ) → Keeps part (at stopped s) (break_cleared frame number address (at stopped s))
  keeps-clear s frame zero address = keeps-if part (has s.soft address) (at stopped s)
      (replied frame okay (record (at stopped s) { soft = without address s.soft })) (no_breakpoint frame (at stopped s))
      (keeps-soft part s (without address s.soft) (replied frame okay (at stopped s)).sent (reply frame okay ∷ [], refl)
      (plants-less s address))
      (keeps-replied part (at stopped s) frame (refused IllegalBreakpoint))
  keeps-clear s frame (suc number) address = keeps-if part (is_set (slice_get s.comparators number)) (at stopped s)
      (replied frame okay (record (at stopped s) { comparators = slice_set s.comparators number None }))
      (no_breakpoint frame (at stopped s))
      (answered_stopped s frame okay s.machine (slice_set s.comparators number None))
      (keeps-replied part (at stopped s) frame (refused IllegalBreakpoint))

  keeps-run_to : (s : Debugger) (frame address : ℕ) (b : Bool) → plantable part s.prog address ≡ b → Keeps part (at stopped s)
      (cond b (prepared part frame (Some address) (at stopped s)) (no_breakpoint frame (at stopped s)))
  keeps-run_to s frame address true may =
      keeps-prepared part s frame (Some address) (λ a e. subst (λ (k : ℕ). plantable part s.prog k ≡ true) (same_some address a e) may)
  keeps-run_to s frame address false may = keeps-replied part (at stopped s) frame (refused IllegalBreakpoint)

  -- the flash is made the program, and then programmed
  keeps-entered : (s : Debugger) (number : ℕ) → Keeps part (at stopped s) (entered_by number (synced part s.prog s.device) (at stopped s))
  keeps-entered s number = by_ok (synced part s.prog s.device).ok
    where
      fits : IsSound part (at stopped s) → IsFit part (synced part s.prog s.device).device
      fits h = fits-synced part s.prog s.device h.program h.device

      no_plants : IsSound part (at stopped s) → AllPlantable part s.prog (targets_by s.run_to [])
      no_plants h = subst (λ (to : Option ℕ). AllPlantable part s.prog (targets_by to [])) (sym h.in_mode)
          (λ address e. absurd (true≢false (sym e)))

      by_ok : (b : Bool) → Keeps part (at stopped s) (elim b [
        | true ↦ replied number okay (record s { mode = programming; soft = []; device = (synced part s.prog s.device).device })
        | false ↦ replied number (refused Failed) (record (at stopped s) { device = (synced part s.prog s.device).device })
      ])
      by_ok true = (
        record {
          sound = λ h. record { program = h.program; device = fits h; plants = no_plants h; in_mode = (refl, h.in_mode) };
          leads = leads-from part.pages s.prog 0 s.device;
          sent = (reply number okay ∷ [], refl);
        },
        refl,
      )
      by_ok false = (
        record {
          sound = λ h. record { program = h.program; device = fits h; plants = h.plants; in_mode = h.in_mode };
          leads = leads-from part.pages s.prog 0 s.device;
          sent = (reply number (refused Failed) ∷ [], refl);
        },
        refl,
      )

  keeps-stopped_command : (planted : Bool) (number : ℕ) (s : Debugger) (command : Command) →
      Keeps part (at stopped s) (heard_by planted part (request number (asks command)) (at stopped s))
  keeps-stopped_command planted number s sign_off = keeps-off part stopped s number
  keeps-stopped_command planted number s get_sign_on = keeps-replied part (at stopped s) number (signed_on own_head own_name)
  keeps-stopped_command planted number s (set_parameter id value) =
      keeps-parameter part (at stopped s) number (parameter_written s.parameters id value)
  keeps-stopped_command planted number s (get_parameter id) =
      keeps-replied part (at stopped s) number (parameter_response (parameter_read s.parameters (state_number stopped) id))
  keeps-stopped_command planted number s (write_memory kind address bytes) = keeps-write s number kind address bytes
  keeps-stopped_command planted number s (read_memory kind count address) =
      keeps-replied part (at stopped s) number (read_of part (access_of stopped kind).read count address (at stopped s))
  keeps-stopped_command planted number s (write_pc address) = keeps-if part (nat_lt address (words_of part)) (at stopped s)
      (replied number okay (record (at stopped s) { machine = with_pc address s.machine }))
      (replied number (refused IllegalMemoryRange) (at stopped s))
      (answered_stopped s number okay (with_pc address s.machine) s.comparators)
      (keeps-replied part (at stopped s) number (refused IllegalMemoryRange))
  keeps-stopped_command planted number s read_pc = keeps-replied part (at stopped s) number (program_counter s.machine.pc)
  keeps-stopped_command planted number s go = keeps-prepared part s number None (λ a e. absurd (no_address None a refl e))
  keeps-stopped_command planted number s single_step = keeps-single part planted s number
  keeps-stopped_command planted number s forced_stop = keeps-replied part (at stopped s) number (refused IllegalMcuState)
  keeps-stopped_command planted number s reset =
      let t = replied number okay (record (at stopped s) { machine = restarted s.machine }) in
      keeps-onward part (at stopped s) t (told by_reset t) (answered_stopped s number okay (restarted s.machine) s.comparators)
      (keeps-event part t by_reset)
  keeps-stopped_command planted number s (set_device_descriptor bytes) = keeps-replied part (at stopped s) number okay
  keeps-stopped_command planted number s (erase_page address) = keeps-replied part (at stopped s) number (refused IllegalMcuState)
  keeps-stopped_command planted number s get_sync = keeps-replied part (at stopped s) number okay
  keeps-stopped_command planted number s (set_break kind n address) =
      keeps-if part ((kind == program_break) && nat_le n comparator_count && nat_lt address (words_of part)) (at stopped s)
      (set_numbered part number n address (at stopped s)) (no_breakpoint number (at stopped s))
      (keeps-set s number n address) (keeps-replied part (at stopped s) number (refused IllegalBreakpoint))
  keeps-stopped_command planted number s chip_erase = keeps-replied part (at stopped s) number (refused IllegalMcuState)
  keeps-stopped_command planted number s enter_programming = keeps-entered s number
  keeps-stopped_command planted number s leave_programming = keeps-replied part (at stopped s) number (refused IllegalMcuState)
  keeps-stopped_command planted number s (clear_break n address) = keeps-clear s number n address
  keeps-stopped_command planted number s (run_to address) = keeps-run_to s number address (plantable part s.prog address) refl
  keeps-stopped_command planted number s clear_events = keeps-replied part (at stopped s) number okay

  keeps-running_command : (planted : Bool) (number : ℕ) (s : Debugger) (command : Command) →
      Keeps part (at running s) (heard_by planted part (request number (asks command)) (at running s))
  keeps-running_command planted number s sign_off = keeps-off part running s number
  keeps-running_command planted number s get_sign_on = keeps-replied part (at running s) number (signed_on own_head own_name)
  keeps-running_command planted number s (set_parameter id value) =
      keeps-parameter part (at running s) number (parameter_written s.parameters id value)
  keeps-running_command planted number s (get_parameter id) =
      keeps-replied part (at running s) number (parameter_response (parameter_read s.parameters (state_number running) id))
  keeps-running_command planted number s forced_stop = (
    record {
      sound = λ h. record { program = h.program; device = h.device; plants = h.plants; in_mode = h.in_mode };
      leads = leads-nothing s.device;
      sent = (reply number okay ∷ [], refl);
    },
    refl,
  )
  keeps-running_command planted number s (set_device_descriptor bytes) = keeps-replied part (at running s) number okay
  keeps-running_command planted number s get_sync = keeps-replied part (at running s) number okay
  keeps-running_command planted number s clear_events = keeps-replied part (at running s) number okay
  keeps-running_command planted number s _ = keeps-replied part (at running s) number (refused IllegalMcuState)

  programs-heard : (planted : Bool) (heard : Heard) (m : Mode) (s : Debugger) → listens m ≡ true →
      Programs part (at m s) (heard_by planted part heard (at m s))
  programs-heard planted (dropped count) m s e = kept part (keeps-dropped part (at m s) count)
  programs-heard planted (request number unknown_code) m s e = kept part (keeps-replied part (at m s) number (refused IllegalCommand))
  programs-heard planted (request number wrong_length) m s e = kept part (keeps-replied part (at m s) number (refused IllegalValue))
  programs-heard planted (request number (asks command)) stopped s e = kept part (keeps-stopped_command planted number s command)
  programs-heard planted (request number (asks command)) running s e = kept part (keeps-running_command planted number s command)
  programs-heard planted (request number (asks command)) programming s e = programs-command part planted number s command
  programs-heard planted (request number (asks command)) (launching n) s e = absurd (true≢false (sym e))
  programs-heard planted (request number (asks command)) leaving s e = absurd (true≢false (sym e))
  programs-heard planted (request number (asks command)) (closed done) s e = absurd (true≢false (sym e))

  programs-item : (planted : Bool) (heard : Heard) (s : Debugger) → Programs part s (item planted part heard s)
  programs-item planted heard s = by_listens (listens s.mode) refl
    where
      by_listens : (b : Bool) → listens s.mode ≡ b → Programs part s (elim b [ true ↦ heard_by planted part heard s | false ↦ s ])
      by_listens true e = programs-heard planted heard s.mode s e
      by_listens false e = kept part (keeps-none part s)

  -- without the address to which a run goes
  pub soft_only : (to : Option ℕ) (prog soft : List ℕ) → AllPlantable part prog (targets_by to soft) → AllPlantable part prog soft
  soft_only None prog soft h = h
  soft_only (Some address) prog soft h = λ a e. h a (or_right (a == address) (has soft a) e)

  keeps-launch : (m : Mode) (s : Debugger) → Keeps part (at m s) (launch_if_prepared (at m s))
  keeps-launch stopped s = keeps-none part (at stopped s)
  keeps-launch (launching number) s = by_ok (launched s.device).ok
    where
      by_ok : (b : Bool) → Keeps part (at (launching number) s) (elim b [
        | true ↦ replied number okay
            (record (at (launching number) s) { mode = running; device = (launched s.device).device; launches = suc s.launches })
        | false ↦ replied number (refused Failed)
            (record (at (launching number) s) { mode = stopped; device = (launched s.device).device; run_to = None })
      ])
      by_ok true = (
        record {
          sound = λ h. record {
            program = h.program;
            device = fits-launched part s.device h.device;
            plants = h.plants;
            in_mode = h.in_mode;
          };
          leads = leads-launch s.device;
          sent = (reply number okay ∷ [], refl);
        },
        refl,
      )
      by_ok false = (
        record {
          sound = λ h. record {
            program = h.program;
            device = fits-launched part s.device h.device;
            plants = soft_only s.run_to s.prog s.soft h.plants;
            in_mode = refl;
          };
          leads = leads-launch s.device;
          sent = (reply number (refused Failed) ∷ [], refl);
        },
        refl,
      )
  keeps-launch running s = keeps-none part (at running s)
  keeps-launch programming s = keeps-none part (at programming s)
  keeps-launch leaving s = keeps-none part (at leaving s)
  keeps-launch (closed done) s = keeps-none part (at (closed done) s)

  pub moves-item_launched : (planted : Bool) (heard : Heard) (s : Debugger) → Moves part s (item_launched planted part heard s)
  moves-item_launched planted heard s = by_listens (listens s.mode) refl
    where
      by_listens : (b : Bool) → listens s.mode ≡ b →
          Moves part s (elim b [ true ↦ launch_if_prepared (heard_by planted part heard s) | false ↦ s ])
      by_listens true e =
          let t = heard_by planted part heard s in
          moves-onward part s t (launch_if_prepared t) (programs-heard planted heard s.mode s e).0 (keeps-launch t.mode t).0
      by_listens false e = moves-none part s

  keeps-line_end : (held : List ℕ) (m : Mode) (s : Debugger) → Keeps part (at m s) (line_end part held (at m s))
  keeps-line_end held m s = by_listens (listens m)
    where
      t : Debugger
      t = dropping (length held) (at m s)

      by_listens : (b : Bool) → Keeps part (at m s) (elim b [ true ↦ left part (dropping (length held) (at m s)) | false ↦ at m s ])
      by_listens true = keeps-onward part (at m s) t (left part t) (keeps-dropped part (at m s) (length held)) (keeps-left part m t)
      by_listens false = keeps-none part (at m s)

  pub moves-line_end : (held : List ℕ) (m : Mode) (s : Debugger) → Moves part (at m s) (line_end part held (at m s))
  moves-line_end held m s = (keeps-line_end held m s).0

  -- the device behind a run
  leads-replant : (s : Debugger) → LeadsTo s.device (replant s).device
  leads-replant s = by_hit (has (targets s) s.machine.pc)
    where
      by_hit : (b : Bool) → LeadsTo s.device (replant_by b s).device
      by_hit true = leads-page (patch s.prog (targets s)) (s.machine.pc / page_words) s.device
      by_hit false = leads-nothing s.device

  leads-after : (steps : ℕ) (s : Debugger) → LeadsTo s.device (device_after steps s)
  leads-after zero s = leads-nothing s.device
  leads-after (suc steps) s = leads-replant s

  fits-replant : (s : Debugger) → length s.prog ≡ words_of part → AllPlantable part s.prog (targets s) → IsFit part s.device →
      IsFit part (replant s).device
  fits-replant s whole plants fit = by_hit (has (targets s) s.machine.pc) refl
    where
      by_hit : (b : Bool) → has (targets s) s.machine.pc ≡ b → IsFit part (replant_by b s).device
      by_hit true e = fits-replanted part s.prog (targets s) s.machine.pc s.device whole plants e fit
      by_hit false e = fit

  fits-after : (steps : ℕ) (s : Debugger) → length s.prog ≡ words_of part → AllPlantable part s.prog (targets s) → IsFit part s.device →
      IsFit part (device_after steps s)
  fits-after zero s whole plants fit = fit
  fits-after (suc steps) s whole plants fit = fits-replant s whole plants fit

  keeps-ended : (planted : Bool) (e : End) (m : Mode) (s : Debugger) → Keeps part (at m s) (run_ended planted part e (at m s))
  keeps-ended planted e stopped s = keeps-none part (at stopped s)
  keeps-ended planted e (launching number) s = keeps-none part (at (launching number) s)
  keeps-ended planted e running s = (
    record {
      sound = λ h. record {
        program = h.program;
        device = fits-after e.steps (at running s) h.program h.plants h.device;
        plants = soft_only s.run_to s.prog s.soft h.plants;
        in_mode = refl;
      };
      leads = leads-after e.steps (at running s);
      sent = (event e.cause (stopped_at planted part e (at running s)) ∷ [], refl);
    },
    refl,
  )
  keeps-ended planted e programming s = keeps-none part (at programming s)
  keeps-ended planted e leaving s =
      let t = stopped_at planted part e (at leaving s) in (
        record {
          sound = λ h. record {
            program = h.program;
            device = fits-synced part s.prog t.device h.program (fits-after e.steps (at leaving s) h.program h.plants h.device);
            plants = h.plants;
            in_mode = synced-in_place part s.prog t.device h.program (fits-after e.steps (at leaving s) h.program h.plants h.device);
          };
          leads = leads-onward s.device t.device (synced part s.prog t.device).device (leads-after e.steps (at leaving s))
              (leads-from part.pages s.prog 0 t.device);
          sent = grows-nothing s.sent;
        },
        refl,
      )
  keeps-ended planted e (closed done) s = keeps-none part (at (closed done) s)

  pub moves-ended : (planted : Bool) (e : End) (m : Mode) (s : Debugger) → Moves part (at m s) (run_ended planted part e (at m s))
  moves-ended planted e m s = (keeps-ended planted e m s).0

pub events_move : EventsMove
events_move = record {
  item = λ planted part heard s. (programs-item part planted heard s).0;
  launch = λ part s. (keeps-launch part s.mode s).0;
  item_launched = λ planted part heard s. moves-item_launched part planted heard s;
  line_end = λ part held s. moves-line_end part held s.mode s;
  end = λ planted part e s. moves-ended part planted e s.mode s;
}

pub only_programming_changes : OnlyProgrammingChanges
only_programming_changes = record {
  item = λ planted part heard s sound. (programs-item part planted heard s).1 sound;
  launch = λ s. (keeps-launch m16 s.mode s).1;
  line_end = λ part held s. (keeps-line_end part held s.mode s).1;
  end = λ planted part e s. (keeps-ended part planted e s.mode s).1;
}

pub opened_is_sound : OpenedIsSound
opened_is_sound part prog d whole fit = (
  record {
    program = whole;
    device = fits-synced part prog d whole fit;
    plants = λ address e. absurd (true≢false (sym e));
    in_mode = refl;
  },
  leads-from part.pages prog 0 d,
)

-- while a run is out the mode says that its breakpoints are planted
planted_out : (m : Mode) (s : Debugger) → is_out m ≡ true → IsInMode m s → IsPlanted s
planted_out stopped s out h = absurd (true≢false (sym out))
planted_out (launching number) s out h = absurd (true≢false (sym out))
planted_out running s out h = h
planted_out programming s out h = absurd (true≢false (sym out))
planted_out leaving s out h = h.0
planted_out (closed done) s out h = absurd (true≢false (sym out))

pub runs_are_planted : RunsArePlanted
runs_are_planted part s sound out = record { plants = sound.plants; first = first; later = by_hit (has (targets s) s.machine.pc) refl }
  where
    first : IsPlanted s
    first = planted_out s.mode s out sound.in_mode

    by_hit : (b : Bool) → has (targets s) s.machine.pc ≡ b → (replant_by b s).ok ≡ true →
        (replant_by b s).device.words ≡ patch s.prog (targets s)
    by_hit true e ok = replant_makes_patch s.prog (targets s) s.machine.pc s.device first ok
    by_hit false e ok = first ∙
        same_patch s.prog (without s.machine.pc (targets s)) (targets s) (has-without_absent s.machine.pc (targets s) e)
