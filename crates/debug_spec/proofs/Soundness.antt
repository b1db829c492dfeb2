-- Each event of a session keeps what holds of the debugger.
use Rattle.std.proofs.Common.{◌≡◌, ℕ, ◌+◌, ◌==◌, ◌||◌, cond, Bool, true, false, List, [], ◌∷◌, ◌++◌, Option, Some, None, ltb, refl, sym}
use Rattle.std.proofs.Common.{◌∙◌, ap, subst, append_assoc, append-nil, ◌⊎◌, inl, inr}
use Rattle.std.specs.Prelude.{Result, Ok, Err}
use Rattle.std.proofs.lemmas.Bool.{or_cases, or_right, eqb-true}
use Rattle.part_spec.specs.Chip.{Chip}
use Rattle.avr_spec.specs.Machine.{Machine}
use Rattle.avr_spec.specs.Step.{ahead}
use Rattle.line_spec.specs.Frames.{Frame}
use Rattle.line_spec.specs.declared.refusal.Refusal.{Refusal}
use Rattle.line_spec.specs.declared.refusal.Refusal.TheVariants.{Failed}
use Rattle.line_spec.specs.Messages.{Response, response_body, okay, refused, break_at, event_body}
use Rattle.line_spec.specs.Hearing.{event_number}
use Rattle.line_spec.specs.Parameters.{Parameter}
use Rattle.debug_spec.specs.Patch.{has, without, patch, plantable}
use Rattle.debug_spec.specs.Stop.{Cause, cause_code, by_step, undefined}
use Rattle.debug_spec.specs.Run.{stepped, is_undefined}
use Rattle.debug_spec.specs.Device.{Tried, synced}
use Rattle.debug_spec.specs.Debugger.{Mode, stopped, launching, running, programming, leaving, closed, Debugger, targets_by, targets}
use Rattle.debug_spec.specs.Debugger.{replied, told, dropping}
use Rattle.debug_spec.specs.Running.{restored, left, prepared, step_of, step_told, single_stepped}
use Rattle.debug_spec.specs.Breakpoints.{inserted}
use Rattle.debug_spec.specs.Commands.{parameter_set}
use Rattle.debug_spec.specs.RunLaws.{AllPlantable}
use Rattle.debug_spec.specs.SessionLaws.{IsFit, IsInMode, IsSound, Moves, Grows}
use Rattle.debug_spec.proofs.PageLemmas.{leads-nothing, leads-from, leads-onward}
use Rattle.debug_spec.proofs.Fits.{fits-synced, synced-in_place, length-planted}

-- a state in a mode
abbrev pub at : Mode → Debugger → Debugger
at mode s = record s { mode = mode }

-- the frame of a break event
abbrev pub event : Cause → Debugger → Frame
event cause s = record { number = event_number; body = event_body (break_at s.machine.pc (cause_code cause)) }

-- the frame of a reply
abbrev pub reply : ℕ → Response → Frame
reply number response = record { number = number; body = response_body response }

-- no address is one
pub no_address : (o : Option ℕ) (address : ℕ) → o ≡ None → o ≡ Some address → ⊥
no_address o address e f = cc

-- a set with an address more has that and what it had
pub has-inserted : (a b : ℕ) (set : List ℕ) → has (inserted a set) b ≡ true → (b ≡ a) ⊎ (has set b ≡ true)
has-inserted a b [] h = by_or (or_cases (b == a) false h)
  where
    by_or : ((b == a) ≡ true) ⊎ (false ≡ true) → (b ≡ a) ⊎ (false ≡ true)
    by_or (inl e) = inl (eqb-true b a e)
    by_or (inr e) = inr e
has-inserted a b (c ∷ set) h = by_tests (ltb a c) (a == c) h (has-inserted a b set)
  where
    by_or : (rest : Bool) → ((b == a) || rest) ≡ true → (b ≡ a) ⊎ (rest ≡ true)
    by_or rest e = elim (or_cases (b == a) rest e) [ inl here ↦ inl (eqb-true b a here) | inr there ↦ inr there ]

    by_later : (has (inserted a set) b ≡ true → (b ≡ a) ⊎ (has set b ≡ true)) → ((b == c) ≡ true) ⊎ (has (inserted a set) b ≡ true) →
        (b ≡ a) ⊎ (((b == c) || has set b) ≡ true)
    by_later later (inl e) = inr (ap (λ (t : Bool). t || has set b) e)
    by_later later (inr e) = elim (later e) [ inl here ↦ inl here | inr there ↦ inr (or_right (b == c) (has set b) there) ]

    by_tests : (low same : Bool) → has (cond low (a ∷ c ∷ set) (cond same (c ∷ set) (c ∷ inserted a set))) b ≡ true →
        (has (inserted a set) b ≡ true → (b ≡ a) ⊎ (has set b ≡ true)) → (b ≡ a) ⊎ (has (c ∷ set) b ≡ true)
    by_tests true same h later = by_or (has (c ∷ set) b) h
    by_tests false true h later = inr h
    by_tests false false h later = by_later later (or_cases (b == c) (has (inserted a set) b) h)

-- frames that are sent come behind those before
pub grows-nothing : (sent : List Frame) → Grows sent sent
grows-nothing sent = ([], sym (append-nil sent))

pub grows-onward : (a b c : List Frame) → Grows a b → Grows b c → Grows a c
grows-onward a b c first then_on =
    (first.0 ++ then_on.0, then_on.1 ∙ ap (λ (t : List Frame). t ++ then_on.0) first.1 ∙ append_assoc a first.0 then_on.0)

module _ (part : Chip) where
  pub moves-none : (s : Debugger) → Moves part s s
  moves-none s = record { sound = λ h. h; leads = leads-nothing s.device; sent = grows-nothing s.sent }

  pub moves-onward : (a b c : Debugger) → Moves part a b → Moves part b c → Moves part a c
  moves-onward a b c first then_on = record {
    sound = λ h. then_on.sound (first.sound h);
    leads = leads-onward a.device b.device c.device first.leads then_on.leads;
    sent = grows-onward a.sent b.sent c.sent first.sent then_on.sent;
  }

  -- a move that keeps the program
  abbrev pub Keeps : Debugger → Debugger → Type 0
  Keeps before after = Moves part before after × (after.prog ≡ before.prog)

  pub keeps-none : (s : Debugger) → Keeps s s
  keeps-none s = (moves-none s, refl)

  pub keeps-onward : (a b c : Debugger) → Keeps a b → Keeps b c → Keeps a c
  keeps-onward a b c first then_on = (moves-onward a b c first.0 then_on.0, then_on.1 ∙ first.1)

  pub keeps-if : (b : Bool) (s x y : Debugger) → Keeps s x → Keeps s y → Keeps s (cond b x y)
  keeps-if true s x y first second = first
  keeps-if false s x y first second = second

  -- frames, dropped bytes and parameters say nothing of the device
  in_mode-told : (m : Mode) (s : Debugger) (sent : List Frame) (count : ℕ) (parameters : List Parameter) →
      IsInMode m s → IsInMode m (record s { sent = sent; dropped = count; parameters = parameters })
  in_mode-told stopped s sent count parameters h = h
  in_mode-told (launching number) s sent count parameters h = h
  in_mode-told running s sent count parameters h = h
  in_mode-told programming s sent count parameters h = h
  in_mode-told leaving s sent count parameters h = h
  in_mode-told (closed done) s sent count parameters h = h

  pub keeps-told : (s : Debugger) (sent : List Frame) → Grows s.sent sent → (count : ℕ) (parameters : List Parameter) →
      Keeps s (record s { sent = sent; dropped = count; parameters = parameters })
  keeps-told s sent grows count parameters = (
    record {
      sound = λ h. record {
        program = h.program;
        device = h.device;
        plants = h.plants;
        in_mode = in_mode-told s.mode s sent count parameters h.in_mode;
      };
      leads = leads-nothing s.device;
      sent = grows;
    },
    refl,
  )

  pub keeps-replied : (s : Debugger) (number : ℕ) (response : Response) → Keeps s (replied number response s)
  keeps-replied s number response =
      keeps-told s (replied number response s).sent (reply number response ∷ [], refl) s.dropped s.parameters

  pub keeps-event : (s : Debugger) (cause : Cause) → Keeps s (told cause s)
  keeps-event s cause = keeps-told s (told cause s).sent (event cause s ∷ [], refl) s.dropped s.parameters

  pub keeps-dropped : (s : Debugger) (count : ℕ) → Keeps s (dropping count s)
  keeps-dropped s count = keeps-told s s.sent (grows-nothing s.sent) (s.dropped + count) s.parameters

  pub keeps-parameter : (s : Debugger) (number : ℕ) (result : Result (List Parameter) Refusal) → Keeps s (parameter_set number result s)
  keeps-parameter s number (Ok parameters) = keeps-told s (replied number okay s).sent (reply number okay ∷ [], refl) s.dropped parameters
  keeps-parameter s number (Err refusal) = keeps-replied s number (refused refusal)

  -- a stopped target may change, and so may comparators
  pub keeps-stopped : (s : Debugger) (plain : Machine) (comparators : List (Option ℕ)) (sent : List Frame) → Grows s.sent sent →
      Keeps (at stopped s) (record (at stopped s) { machine = plain; comparators = comparators; sent = sent })
  keeps-stopped s plain comparators sent grows = (
    record {
      sound = λ h. record { program = h.program; device = h.device; plants = h.plants; in_mode = h.in_mode };
      leads = leads-nothing s.device;
      sent = grows;
    },
    refl,
  )

  -- software breakpoints that may be planted
  pub keeps-soft : (s : Debugger) (soft : List ℕ) (sent : List Frame) → Grows s.sent sent →
      (AllPlantable part s.prog (targets s) → AllPlantable part s.prog (targets_by s.run_to soft)) →
      Keeps (at stopped s) (record (at stopped s) { soft = soft; sent = sent })
  keeps-soft s soft sent grows more = (
    record {
      sound = λ h. record { program = h.program; device = h.device; plants = more h.plants; in_mode = h.in_mode };
      leads = leads-nothing s.device;
      sent = grows;
    },
    refl,
  )

  -- the closing restore
  pub keeps-restored : (s : Debugger) → Keeps s (restored part s)
  keeps-restored s = (
    record {
      sound = λ h. record {
        program = h.program;
        device = fits-synced part s.prog s.device h.program h.device;
        plants = h.plants;
        in_mode = synced-in_place part s.prog s.device h.program h.device;
      };
      leads = leads-from part.pages s.prog 0 s.device;
      sent = grows-nothing s.sent;
    },
    refl,
  )

  pub keeps-left : (m : Mode) (s : Debugger) → Keeps (at m s) (left part (at m s))
  keeps-left stopped s = keeps-restored (at stopped s)
  keeps-left (launching number) s = keeps-none (at (launching number) s)
  keeps-left programming s = keeps-restored (at programming s)
  keeps-left running s = (
    record {
      sound = λ h. record { program = h.program; device = h.device; plants = h.plants; in_mode = (h.in_mode, refl) };
      leads = leads-nothing s.device;
      sent = grows-nothing s.sent;
    },
    refl,
  )
  keeps-left leaving s = keeps-none (at leaving s)
  keeps-left (closed done) s = keeps-none (at (closed done) s)

  -- the signing off, in each mode
  pub keeps-off : (m : Mode) (s : Debugger) (number : ℕ) → Keeps (at m s) (left part (replied number okay (at m s)))
  keeps-off m s number = keeps-onward (at m s) (replied number okay (at m s)) (left part (replied number okay (at m s)))
      (keeps-replied (at m s) number okay) (keeps-left m (replied number okay (at m s)))

  -- the set of a run: breakpoints, and an address that may be planted
  plants-to : (s : Debugger) (to : Option ℕ) → ((address : ℕ) → to ≡ Some address → plantable part s.prog address ≡ true) →
      AllPlantable part s.prog (targets s) → AllPlantable part s.prog (targets_by to s.soft)
  plants-to s to may plants = by_to to may
    where
      soft_plants : (run_to : Option ℕ) → AllPlantable part s.prog (targets_by run_to s.soft) → AllPlantable part s.prog s.soft
      soft_plants None h = h
      soft_plants (Some address) h = λ a e. h a (or_right (a == address) (has s.soft a) e)

      by_to : (to : Option ℕ) → ((address : ℕ) → to ≡ Some address → plantable part s.prog address ≡ true) →
          AllPlantable part s.prog (targets_by to s.soft)
      by_to None may a e = soft_plants s.run_to plants a e
      by_to (Some address) may a e = elim (or_cases (a == address) (has s.soft a) e) [
        | inl here ↦ subst (λ (k : ℕ). plantable part s.prog k ≡ true) (sym (eqb-true a address here)) (may address refl)
        | inr there ↦ soft_plants s.run_to plants a there
      ]

  pub keeps-prepared : (s : Debugger) (number : ℕ) (to : Option ℕ) →
      ((address : ℕ) → to ≡ Some address → plantable part s.prog address ≡ true) →
      Keeps (at stopped s) (prepared part number to (at stopped s))
  keeps-prepared s number to may = by_ok tried.ok refl
    where
      wanted : List ℕ
      wanted = patch s.prog (without s.machine.pc (targets_by to s.soft))

      tried : Tried
      tried = synced part (patch s.prog (without s.machine.pc (targets_by to s.soft))) s.device

      fits : IsSound part (at stopped s) → IsFit part tried.device
      fits h = fits-synced part wanted s.device (length-planted part s.prog (without s.machine.pc (targets_by to s.soft)) h.program)
          h.device

      by_ok : (b : Bool) → tried.ok ≡ b → Keeps (at stopped s) (elim b [
        | true ↦ record (at stopped s) { mode = launching number; run_to = to; device = tried.device; stop_asked = false }
        | false ↦ replied number (refused Failed) (record (at stopped s) { device = tried.device; run_to = None })
      ])
      by_ok true ok = (
        record {
          sound = λ h. record {
            program = h.program;
            device = fits h;
            plants = plants-to s to may h.plants;
            in_mode = synced-in_place part wanted s.device
                (length-planted part s.prog (without s.machine.pc (targets_by to s.soft)) h.program) h.device ok;
          };
          leads = leads-from part.pages wanted 0 s.device;
          sent = grows-nothing s.sent;
        },
        refl,
      )
      by_ok false ok = (
        record {
          sound = λ h. record {
            program = h.program;
            device = fits h;
            plants = plants-to s None (λ address e. absurd (no_address None address refl e)) h.plants;
            in_mode = refl;
          };
          leads = leads-from part.pages wanted 0 s.device;
          sent = (reply number (refused Failed) ∷ [], refl);
        },
        refl,
      )

  pub keeps-single : (planted : Bool) (s : Debugger) (number : ℕ) → Keeps (at stopped s) (single_stepped planted part number (at stopped s))
  keeps-single planted s number = by_ok tried.ok
    where
      wanted : List ℕ
      wanted = patch s.prog (without s.machine.pc s.soft)

      tried : Tried
      tried = synced part (patch s.prog (without s.machine.pc s.soft)) s.device

      moved : Keeps (at stopped s) (record (at stopped s) { device = tried.device })
      moved = (
        record {
          sound = λ h. record {
            program = h.program;
            device = fits-synced part wanted s.device (length-planted part s.prog (without s.machine.pc s.soft) h.program) h.device;
            plants = h.plants;
            in_mode = h.in_mode;
          };
          leads = leads-from part.pages wanted 0 s.device;
          sent = grows-nothing s.sent;
        },
        refl,
      )

      keeps-step : (t : Debugger) → Keeps (at stopped t) (step_told planted part (at stopped t))
      keeps-step t = by_ahead (is_undefined (ahead part (step_of planted (at stopped t)).start (step_of planted (at stopped t)).first))
        where
          by_ahead : (b : Bool) → Keeps (at stopped t) (elim b [
            | true ↦ told undefined (at stopped t)
            | false ↦ told by_step (record (at stopped t) { machine = stepped part (step_of planted (at stopped t)) })
          ])
          by_ahead true = keeps-event (at stopped t) undefined
          by_ahead false = keeps-stopped t (stepped part (step_of planted (at stopped t))) t.comparators
              (told by_step (record (at stopped t) { machine = stepped part (step_of planted (at stopped t)) })).sent
              (event by_step (record (at stopped t) { machine = stepped part (step_of planted (at stopped t)) }) ∷ [], refl)

      now : Debugger
      now = replied number okay (record (at stopped s) { device = tried.device })

      by_ok : (b : Bool) → Keeps (at stopped s) (elim b [
        | true ↦ step_told planted part (replied number okay (record (at stopped s) { device = tried.device }))
        | false ↦ replied number (refused Failed) (record (at stopped s) { device = tried.device })
      ])
      by_ok true = keeps-onward (at stopped s) now (step_told planted part now)
          (keeps-onward (at stopped s) (record (at stopped s) { device = tried.device }) now moved
          (keeps-replied (record (at stopped s) { device = tried.device }) number okay))
          (keeps-step now)
      by_ok false = keeps-onward (at stopped s) (record (at stopped s) { device = tried.device })
          (replied number (refused Failed) (record (at stopped s) { device = tried.device })) moved
          (keeps-replied (record (at stopped s) { device = tried.device }) number (refused Failed))
