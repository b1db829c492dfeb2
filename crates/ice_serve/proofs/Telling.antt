-- What a note does, by the parts of it.
use Rattle.std.proofs.Common.{◌≡◌, ◌&&◌, ◌==◌, ℕ, Bool, true, false, List, [], ◌∷◌, ◌++◌, refl, sym, ap, ◌∙◌, subst, arith}
use Rattle.std.specs.List.{flat_map}
use Rattle.std.proofs.lemmas.Bool.Decides.{nat_tests}
use Rattle.part_spec.specs.Chip.{Chip}
use Rattle.line_spec.specs.Frames.{bytes_of}
use Rattle.debug_spec.specs.Run.{End}
use Rattle.debug_spec.specs.Debugger.{Mode, stopped, launching, running, programming, leaving, closed, Debugger, listens, is_out}
use Rattle.debug_spec.specs.Running.{run_ended, ended_in}
use Rattle.debug_spec.specs.Replay.{bytes_sent}
use Rattle.debug_spec.specs.Schedule.{Session, Note, bytes, line_end_note, line_fault, too_long, halted, line_ended, is_awaited, IsHalted}
use Rattle.debug_spec.specs.Schedule.{IsChunk}
use Rattle.debug_spec.proofs.Sessions.{EitherBy}
use Rattle.debug_spec.proofs.ScheduleCutLemmas.{line_sends}
use Rattle.ice_serve.specs.Causes.{cause_by, cause_if, first_cause}
use Rattle.ice_serve.specs.Pieces.{IsCutShort}
use Rattle.ice_serve.specs.Schedules.{NoteDoes, GoesBy}
use Rattle.ice_serve.specs.declared.note.Why.{Why}
use Rattle.ice_serve.specs.declared.note.Why.TheVariants.{Okay, Read, Write, TooLong}
use Rattle.ice_serve.proofs.Noting.{is_scheduled_more, is_cut, is_cut_more}
use Rattle.ice_serve.proofs.Taking.{deaf_end}

module _ (part : Chip) where
  -- one note more: it brings a cause only where none came before
  pub goes_more : (why told : Why) (notes : List Note) (note : Note) (s m t : Session) → GoesBy why part notes s m →
      NoteDoes told note part m t → ((why ≡ Okay → ⊥) → told ≡ Okay) → GoesBy (first_cause why told) part (notes ++ note ∷ []) s t
  goes_more Okay Okay notes note s m t h does first = is_scheduled_more part notes note Okay Okay s m t h does.0 does.1
  goes_more Okay Read notes note s m t h does first = is_scheduled_more part notes note Okay Read s m t h does.0 does.1
  goes_more Okay Write notes note s m t h does first = is_cut part notes note does.0 s m does.1 t h does.2 does.3
  goes_more Okay TooLong notes note s m t h does first = is_scheduled_more part notes note Okay TooLong s m t h does.0 does.1
  goes_more Read Okay notes note s m t h does first = is_scheduled_more part notes note Read Okay s m t h does.0 does.1
  goes_more Read Read notes note s m t h does first = cc_not (first (λ e. cc))
    where
      cc_not : Read ≡ Okay → GoesBy Read part (notes ++ note ∷ []) s t
      cc_not e = cc
  goes_more Read Write notes note s m t h does first = cc_not (first (λ e. cc))
    where
      cc_not : Write ≡ Okay → GoesBy Read part (notes ++ note ∷ []) s t
      cc_not e = cc
  goes_more Read TooLong notes note s m t h does first = cc_not (first (λ e. cc))
    where
      cc_not : TooLong ≡ Okay → GoesBy Read part (notes ++ note ∷ []) s t
      cc_not e = cc
  goes_more Write Okay notes note s m t h does first = is_cut_more part notes note s m t h does.0
  goes_more Write Read notes note s m t h does first = cc_not (first (λ e. cc))
    where
      cc_not : Read ≡ Okay → GoesBy Write part (notes ++ note ∷ []) s t
      cc_not e = cc
  goes_more Write Write notes note s m t h does first = cc_not (first (λ e. cc))
    where
      cc_not : Write ≡ Okay → GoesBy Write part (notes ++ note ∷ []) s t
      cc_not e = cc
  goes_more Write TooLong notes note s m t h does first = cc_not (first (λ e. cc))
    where
      cc_not : TooLong ≡ Okay → GoesBy Write part (notes ++ note ∷ []) s t
      cc_not e = cc
  goes_more TooLong Okay notes note s m t h does first = is_scheduled_more part notes note TooLong Okay s m t h does.0 does.1
  goes_more TooLong Read notes note s m t h does first = cc_not (first (λ e. cc))
    where
      cc_not : Read ≡ Okay → GoesBy TooLong part (notes ++ note ∷ []) s t
      cc_not e = cc
  goes_more TooLong Write notes note s m t h does first = cc_not (first (λ e. cc))
    where
      cc_not : Write ≡ Okay → GoesBy TooLong part (notes ++ note ∷ []) s t
      cc_not e = cc
  goes_more TooLong TooLong notes note s m t h does first = cc_not (first (λ e. cc))
    where
      cc_not : TooLong ≡ Okay → GoesBy TooLong part (notes ++ note ∷ []) s t
      cc_not e = cc

  -- a chunk that is taken whole
  pub chunk_told : (chunk : List ℕ) (s t : Session) → IsChunk true part chunk s t → NoteDoes Okay (bytes chunk) part s t
  chunk_told chunk s t h = (h, refl)

  -- a chunk that is cut short, and then the line ends
  pub chunk_cut : (chunk : List ℕ) (s m t : Session) → IsCutShort part chunk s m → t ≡ line_ended part m → NoteDoes Write (bytes chunk) part s t
  chunk_cut chunk s m t h is = (h.0, h.1, h.2, is ∙ h.3)

  -- so it is with the frame that closed the session
  pub chunk_cut_over : (chunk : List ℕ) (s t : Session) → IsCutShort part chunk s t → listens t.state.mode ≡ false → t.held ≡ [] →
      NoteDoes Write (bytes chunk) part s t
  chunk_cut_over chunk s t h deaf none =
      chunk_cut chunk s t t h (ap (λ (l : List ℕ). record { held = l; state = t.state }) none ∙
      ap (λ (d : Debugger). record { held = []; state = d }) (sym (deaf_end part t.held t.state deaf)))

  -- the end of a run that is awaited
  pub halt_told : (number : ℕ) (s t : Session) → is_awaited number s ≡ true → IsHalted true part s t → NoteDoes Okay (halted number) part s t
  halt_told number s t is h = (subst (λ (b : Bool). EitherBy b (IsHalted true part s t) (t ≡ s)) (sym is) h, refl)

  pub halt_cut : (number : ℕ) (s m t : Session) → is_awaited number s ≡ true → IsHalted true part s m → t ≡ line_ended part m →
      NoteDoes Write (halted number) part s t
  halt_cut number s m t is h ends = ([], m, (refl, is, h), ends)

  -- of one that is not
  pub halt_ignored : (number : ℕ) (s t : Session) → is_awaited number s ≡ false → t ≡ s → NoteDoes Okay (halted number) part s t
  halt_ignored number s t is same = (subst (λ (b : Bool). EitherBy b (IsHalted true part s t) (t ≡ s)) (sym is) same, refl)

  -- the end of the line
  pub end_told : (s t : Session) → t ≡ line_ended part s → NoteDoes Okay line_end_note part s t
  end_told s t is = (is, refl)

  pub fault_told : (b : Bool) (s t : Session) → listens s.state.mode ≡ b → t ≡ line_ended part s → NoteDoes (cause_if b Read) line_fault part s t
  fault_told true s t on is = (is, ap (cause_by line_fault) on)
  fault_told false s t off is = (is, ap (cause_by line_fault) off)

  pub long_told : (b : Bool) (s t : Session) → listens s.state.mode ≡ b → t ≡ line_ended part s → NoteDoes (cause_if b TooLong) too_long part s t
  long_told true s t on is = (is, ap (cause_by too_long) on)
  long_told false s t off is = (is, ap (cause_by too_long) off)

  -- the line ends with nothing sent
  pub line_silent : (s t : Session) → t ≡ line_ended part s → bytes_sent t.state ≡ bytes_sent s.state
  line_silent s t is =
      ap (λ (x : Session). bytes_sent x.state) is ∙ ap (flat_map bytes_of) (line_sends true part s.held s.state.mode s.state)

  -- a run that closes the session ends with nothing sent
  ended_silent : (restored : Bool) (e : End) (m : Mode) (s : Debugger) → (ended_in true part m e s).mode ≡ closed restored →
      bytes_sent (ended_in true part m e s) ≡ bytes_sent s
  ended_silent restored e stopped s is = refl
  ended_silent restored e (launching number) s is = refl
  ended_silent restored e running s is = cc
  ended_silent restored e programming s is = refl
  ended_silent restored e leaving s is = refl
  ended_silent restored e (closed done) s is = refl

  pub halt_silent : (restored : Bool) (s t : Session) → IsHalted true part s t → t.state.mode ≡ closed restored →
      bytes_sent t.state ≡ bytes_sent s.state
  halt_silent restored s t h is =
      let same : t.state ≡ run_ended true part h.end s.state = ap (λ (x : Session). x.state) h.is in
      ap bytes_sent same ∙ ended_silent restored h.end s.state.mode s.state (ap (λ (d : Debugger). d.mode) (sym same) ∙ is)

-- the run that is out, and its number
pub awaited_so : (number : ℕ) (s : Session) → is_out s.state.mode ≡ true → number ≡ s.state.launches → is_awaited number s ≡ true
awaited_so number s out same = ap (λ (b : Bool). b && (number == s.state.launches)) out ∙ same_number number s.state.launches same
  where
    same_number : (a b : ℕ) → a ≡ b → (a == b) ≡ true
    same_number a b is = grind (arith, nat_tests)

pub awaited_not : (number : ℕ) (s : Session) → is_out s.state.mode ≡ false → is_awaited number s ≡ false
awaited_not number s out = ap (λ (b : Bool). b && (number == s.state.launches)) out

pub awaited_other : (number : ℕ) (s : Session) → (number ≡ s.state.launches → ⊥) → is_awaited number s ≡ false
awaited_other number s other = by_out (is_out s.state.mode)
  where
    other_number : (a b : ℕ) → (a ≡ b → ⊥) → (a == b) ≡ false
    other_number a b differs = grind (arith, nat_tests)

    by_out : (b : Bool) → (b && (number == s.state.launches)) ≡ false
    by_out true = other_number number s.state.launches other
    by_out false = refl
