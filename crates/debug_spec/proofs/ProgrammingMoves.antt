-- What a command does while the flash is programmed, and what it keeps of the debugger.
use Rattle.std.proofs.Common.{◌≡◌, ℕ, ◌+◌, ◌*◌, ◌/◌, ◌<◌, ◌≤◌, ◌==◌, ◌||◌, not, cond, Bool, true, false, List, [], ◌∷◌, ◌++◌, length, take}
use Rattle.std.proofs.Common.{drop, Option, Some, refl, sym, ◌∙◌, ap, ap₂, subst, arith, length-append, ltb-false, ◌⊎◌, inl, inr}
use Rattle.std.specs.Prelude.{nat_lt}
use Rattle.std.proofs.lemmas.List.{length-take-le, length-drop, length-replicate}
use Rattle.std.proofs.lemmas.Bool.{cases_lt, ltb-true, true≢false}
use Rattle.part_spec.specs.Chip.{Chip, page_bytes, words_of, flash_bytes}
use Rattle.part_spec.specs.Pages.{paired, erased, overlaid, page_of}
use Rattle.line_spec.specs.declared.refusal.Refusal.TheVariants.{Failed, IllegalMemoryType, IllegalMemoryRange, IllegalMcuState}
use Rattle.line_spec.specs.Messages.{Command, sign_off, get_sign_on, set_parameter, get_parameter, write_memory, read_memory}
use Rattle.line_spec.specs.Messages.{set_device_descriptor, erase_page, get_sync, chip_erase, leave_programming, clear_events, okay}
use Rattle.line_spec.specs.Messages.{refused, signed_on, own_head, own_name}
use Rattle.line_spec.specs.Hearing.{asks, request}
use Rattle.line_spec.specs.Parameters.{parameter_read, parameter_written}
use Rattle.debug_spec.specs.Patch.{has}
use Rattle.debug_spec.specs.Programming.{Programmed, programmed_from}
use Rattle.debug_spec.specs.Debugger.{Mode, programming, Debugger, state_number, targets_by, targets, replied}
use Rattle.debug_spec.specs.MemoryTypes.{program, Access, neither, MemoryType, access_in, access_by, access_of, memory_types}
use Rattle.debug_spec.specs.MemoryTypes.{in_whole_units, programming_told, pages_programmed, read_of, write_of, memory_written}
use Rattle.debug_spec.specs.Commands.{parameter_response, left_programming, page_erased, heard_by}
use Rattle.debug_spec.specs.RunLaws.{AllPlantable}
use Rattle.debug_spec.specs.PageLaws.{LeadsTo, ProgrammingDoes}
use Rattle.debug_spec.specs.SessionLaws.{IsFit, IsSound, Moves, MayProgram}
use Rattle.debug_spec.proofs.PageLemmas.{leads-nothing, leads-from}
use Rattle.debug_spec.proofs.Fits.{fits-from}
use Rattle.debug_spec.proofs.ProgrammingLemmas.{as_synced, programming_is_exact}
use Rattle.debug_spec.proofs.Soundness.{at, reply, Keeps, keeps-parameter, keeps-off, keeps-replied}

-- a fact of each line of a table, and of no line
abbrev pub OfEach : (Access → Type 0) → Mode → List MemoryType → Type 0
OfEach P mode [] = P neither
OfEach P mode (line ∷ lines) = P (access_in mode line) × OfEach P mode lines

-- is one of whatever the table gives
pub by_access : (P : Access → Type 0) (mode : Mode) (kind : ℕ) (lines : List MemoryType) → OfEach P mode lines →
    P (access_by lines mode kind)
by_access P mode kind [] h = h
by_access P mode kind (line ∷ lines) h = by_test (kind == line.number) (by_access P mode kind lines h.1)
  where
    by_test : (b : Bool) → P (access_by lines mode kind) → P (cond b (access_in mode line) (access_by lines mode kind))
    by_test true later = h.0
    by_test false later = later

length-erased : (part : Chip) → length (erased part) ≡ words_of part
unfolding erased
length-erased part = length-replicate (words_of part) 0xffff

length-paired : (bytes : List ℕ) → 2 * length (paired bytes) ≤ length bytes
length-paired [] = omega arith
length-paired (low ∷ []) = omega arith
length-paired (low ∷ high ∷ bytes) = omega (arith, length-paired bytes)

length-overlaid : (flash words : List ℕ) (address : ℕ) → address + length words ≤ length flash →
    length (overlaid flash address words) ≡ length flash
length-overlaid flash words address inside =
    length-append (take address flash ++ words) (drop (address + length words) flash) ∙
    omega (
      arith,
      length-append (take address flash) words,
      length-take-le address flash (omega (arith, inside)),
      length-drop (address + length words) flash,
      inside,
    )

module _ (part : Chip) where
  -- a move that changes the program as it may
  abbrev pub Programs : Debugger → Debugger → Type 0
  Programs before after = Moves part before after × (IsSound part before → MayProgram before after)

  pub kept : {before after : Debugger} → Keeps part before after → Programs before after
  kept h = (h.0, λ sound. record { stays = λ outside. h.1; pages = λ page. inl (ap (λ (t : List ℕ). page_of t page) h.1) })

  -- pages of the part are programmed, and the frame is answered
  programs-told : (number : ℕ) (wanted : List ℕ) (page n : ℕ) (s : Debugger) →
      (IsSound part (at programming s) → (length wanted ≡ words_of part) × (page + n ≤ part.pages)) →
      Programs (at programming s) (programming_told number (programmed_from wanted page n s.prog s.device) (at programming s))
  programs-told number wanted page n s may = (
    record {
      sound = λ h. record {
        program = (exact h).size ∙ h.program;
        device = subst (IsFit part) (sym (exact h).device) (fits-from part n wanted page s.device (may h).0 (may h).1 h.device);
        plants = no_plants h;
        in_mode = h.in_mode;
      };
      leads = subst (LeadsTo s.device) (sym (as_synced n wanted page s.prog s.device).1) (leads-from n wanted page s.device);
      sent = (reply number (cond done.ok okay (refused Failed)) ∷ [], refl);
    },
    λ h. record { stays = λ outside. absurd (outside refl); pages = pages h },
  )
    where
      done : Programmed
      done = programmed_from wanted page n s.prog s.device

      exact : IsSound part (at programming s) → ProgrammingDoes wanted page n s.prog s.device done
      exact h = programming_is_exact part wanted page n s.prog s.device (may h).0 h.program h.device.size (may h).1

      no_plants : IsSound part (at programming s) → AllPlantable part done.prog (targets (at programming s))
      no_plants h address e =
          let none = ap₂ (λ (to : Option ℕ) (soft : List ℕ). has (targets_by to soft) address) h.in_mode.1 h.in_mode.0 in
          absurd (true≢false (sym e ∙ none))

      pages : IsSound part (at programming s) → (k : ℕ) →
          (page_of done.prog k ≡ page_of s.prog k) ⊎ (page_of done.prog k ≡ page_of done.device.words k)
      pages h k = by_low (cases_lt k page)
        where
          by_high : page ≤ k → (k < page + (exact h).count) ⊎ (page + (exact h).count ≤ k) →
              (page_of done.prog k ≡ page_of s.prog k) ⊎ (page_of done.prog k ≡ page_of done.device.words k)
          by_high low (inl high) = let new = (exact h).new_words k low high in inr (new.0 ∙ sym new.1)
          by_high low (inr behind) = inl ((exact h).old_words k (inr behind))

          by_low : (k < page) ⊎ (page ≤ k) → (page_of done.prog k ≡ page_of s.prog k) ⊎ (page_of done.prog k ≡ page_of done.device.words k)
          by_low (inl before) = inl ((exact h).old_words k (inl before))
          by_low (inr low) = by_high low (cases_lt k (page + (exact h).count))

  programs-erase : (s : Debugger) (number address : ℕ) → Programs (at programming s) (page_erased part number address (at programming s))
  programs-erase s number address = by_test (nat_lt address (flash_bytes part)) refl
    where
      by_test : (b : Bool) → nat_lt address (flash_bytes part) ≡ b → Programs (at programming s) (cond b
          (programming_told number (programmed_from (erased part) (address / page_bytes) 1 s.prog s.device) (at programming s))
          (replied number (refused IllegalMemoryRange) (at programming s)))
      by_test true low = programs-told number (erased part) (address / page_bytes) 1 s
          (λ h. (length-erased part, omega (arith, ltb-true address (flash_bytes part) low)))
      by_test false high = kept (keeps-replied part (at programming s) number (refused IllegalMemoryRange))

  programs-write : (s : Debugger) (number kind address : ℕ) (bytes : List ℕ) →
      Programs (at programming s) (memory_written part number kind address bytes (at programming s))
  programs-write s number kind address bytes =
      by_access (λ (a : Access). Programs (at programming s) (write_of part a.written number address bytes (at programming s)))
      programming kind memory_types (none, (none, (none, (to_pages, (none, (none, (none, none)))))))
    where
      none : Programs (at programming s) (replied number (refused IllegalMemoryType) (at programming s))
      none = kept (keeps-replied part (at programming s) number (refused IllegalMemoryType))

      out_of_range : Programs (at programming s) (replied number (refused IllegalMemoryRange) (at programming s))
      out_of_range = kept (keeps-replied part (at programming s) number (refused IllegalMemoryRange))

      by_test : (past units : Bool) → nat_lt (flash_bytes part) (address + length bytes) ≡ past →
          Programs (at programming s) (cond (past || not units) (replied number (refused IllegalMemoryRange) (at programming s))
          (programming_told number (pages_programmed address bytes s.prog (at programming s)) (at programming s)))
      by_test true units e = out_of_range
      by_test false false e = out_of_range
      by_test false true e =
          let inside : address + length bytes ≤ flash_bytes part = ltb-false (flash_bytes part) (address + length bytes) e in
          let wanted = overlaid s.prog (address / 2) (paired bytes) in
          programs-told number wanted (address / page_bytes) (length bytes / page_bytes) s (λ h. (
            length-overlaid s.prog (paired bytes) (address / 2) (omega (arith, h.program, inside, length-paired bytes)) ∙ h.program,
            omega (arith, inside),
          ))

      to_pages : Programs (at programming s) (write_of part (Some program) number address bytes (at programming s))
      to_pages = by_test (nat_lt (flash_bytes part) (address + length bytes)) (in_whole_units program address (length bytes)) refl

  programs-left : (s : Debugger) (number : ℕ) → Keeps part (at programming s) (left_programming number (at programming s))
  programs-left s number = (
    record {
      sound = λ h. record { program = h.program; device = h.device; plants = h.plants; in_mode = h.in_mode.1 };
      leads = leads-nothing s.device;
      sent = (reply number okay ∷ [], refl);
    },
    refl,
  )

  pub programs-command : (planted : Bool) (number : ℕ) (s : Debugger) (command : Command) →
      Programs (at programming s) (heard_by planted part (request number (asks command)) (at programming s))
  programs-command planted number s sign_off = kept (keeps-off part programming s number)
  programs-command planted number s get_sign_on = kept (keeps-replied part (at programming s) number (signed_on own_head own_name))
  programs-command planted number s (set_parameter id value) =
      kept (keeps-parameter part (at programming s) number (parameter_written s.parameters id value))
  programs-command planted number s (get_parameter id) =
      kept (keeps-replied part (at programming s) number (parameter_response (parameter_read s.parameters (state_number programming) id)))
  programs-command planted number s (write_memory kind address bytes) = programs-write s number kind address bytes
  programs-command planted number s (read_memory kind count address) =
      kept (keeps-replied part (at programming s) number (read_of part (access_of programming kind).read count address (at programming s)))
  programs-command planted number s (set_device_descriptor bytes) = kept (keeps-replied part (at programming s) number okay)
  programs-command planted number s (erase_page address) = programs-erase s number address
  programs-command planted number s get_sync = kept (keeps-replied part (at programming s) number okay)
  programs-command planted number s chip_erase =
      programs-told number (erased part) 0 part.pages s (λ h. (length-erased part, omega arith))
  programs-command planted number s leave_programming = kept (programs-left s number)
  programs-command planted number s clear_events = kept (keeps-replied part (at programming s) number okay)
  programs-command planted number s _ = kept (keeps-replied part (at programming s) number (refused IllegalMcuState))
