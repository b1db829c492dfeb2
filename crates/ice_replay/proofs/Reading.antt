-- The line is read chunk by chunk: what was taken so far is a replay of its bytes, up to where the line ends or is cut short.
use Rattle.std.proofs.Common.{◌≡◌, ℕ, Bool, true, false, not, List, [], ◌++◌}
use Rattle.std.proofs.Common.{refl, sym, ap, ◌∙◌, subst, append-nil, append_assoc}
use Rattle.part_spec.specs.declared.part.Part.{Part}
use Rattle.part_spec.specs.Chip.{Chip, chip_of}
use Rattle.line_spec.specs.Frames.{IsPartial}
use Rattle.debug_spec.specs.Device.{Outcome, Asked}
use Rattle.debug_spec.specs.PageLaws.{AreAnswered}
use Rattle.debug_spec.specs.Moved.{Flash}
use Rattle.debug_spec.specs.Debugger.{Mode, stopped, launching, running, programming, leaving, closed, listens}
use Rattle.debug_spec.specs.Replay.{bytes_sent, settled}
use Rattle.debug_spec.specs.Schedule.{Session, Keeps, line_ended}
use Rattle.debug_spec.specs.Carries.{Along}
use Rattle.debug_spec.specs.Take.{goes_on}
use Rattle.debug_spec.specs.TakeReplays.{IsReplayed, settled_then}
use Rattle.debug_spec.proofs.TakeReplayLemmas.{replays_go_on, deaf_end}
use Rattle.run_control.specs.declared.inline.Inline.{Inline}
use Rattle.run_control.specs.declared.job.Job.{Job}
use Rattle.ice_answer.specs.Kept.{ToolState}
use Rattle.ice_emul.specs.declared.emulator.Emulator.{Emulator}
use Rattle.ice_replay.specs.Keeping.{Place, place, IsKept, Stands, GoesOn}
use Rattle.ice_replay.specs.Steps.{Continues}
use Rattle.ice_replay.specs.Replaying.{IsWhole, Completes, ClosesWhile, IsCut, Ends}
use Rattle.ice_replay.specs.Chunks.{TakesSome}
use Rattle.ice_replay.specs.Endings.{LineEnds, Whole, WholeOrLate, Cut}
use Rattle.ice_replay.proofs.Going.{kept_settled, onward, Noted, noted, weaker}

listens_on : (m : Mode) → listens m ≡ true → goes_on m ≡ true
listens_on stopped on = refl
listens_on (launching number) on = cc
listens_on running on = refl
listens_on programming on = refl
listens_on leaving on = cc
listens_on (closed restored) on = cc

kept_back : (b : Bool) (behind bytes : List ℕ) → b ≡ true → Keeps b behind bytes → bytes ≡ behind
kept_back true behind bytes on h = h
kept_back false behind bytes on h = cc

false_true : false ≡ true → ⊥
false_true h = cc

-- the line of a session that does not listen changes nothing
closed_line : (part : Chip) (stops : List ℕ) (s : Session) → listens s.state.mode ≡ false → settled true part stops s.state ≡ s.state →
    s.state ≡ (settled_then true part stops (line_ended part s)).state
closed_line part stops s deaf quiet =
    sym (ap (settled true part stops) (deaf_end true part stops s.held s.state deaf) ∙ quiet)

module _ {F : Type 0} (flash : Flash F) (part_of : F → Part) (p : Place F) where
  abbrev chip : Chip
  chip = chip_of p.emulator.tool.plan.part

  abbrev stops : List ℕ
  stops = p.runner.stops.items

  -- a session whose line has ended is not late
  pub in_time : (bytes out : List ℕ) (e : Emulator F) (r : Inline F) (signed : Bool) → TakesSome flash part_of (Whole signed) p bytes out e r →
      TakesSome flash part_of (WholeOrLate signed false) p bytes out e r
  in_time bytes out e r signed c = record {
    job = c.job;
    pend = c.pend;
    kept = c.kept;
    goes = weaker flash (Whole signed chip stops bytes) (WholeOrLate signed false chip stops bytes) p (place e r c.job c.pend) out
        (λ s t h. record { whole = h; late_at_home = λ is. absurd (false_true is) }) c.goes;
  }

  -- what is replayed is whole: where the session then is, and that nothing happens there
  module _ (bytes out : List ℕ) (e : Emulator F) (r : Inline F) (same_part : e.tool.plan.part ≡ p.emulator.tool.plan.part)
      (same_stops : r.stops.items ≡ p.runner.stops.items) where
    quiet_of : (job : Job F) (pend : List Asked) → IsKept flash part_of (place e r job pend) → (t : Session) (rest : List Outcome) →
        Stands flash (place e r job pend) t → AreAnswered t.state.device.outcomes pend rest → settled true chip stops t.state ≡ t.state
    quiet_of job pend kept t rest stands answered =
        subst (λ (l : List ℕ). settled true chip l t.state ≡ t.state) same_stops
        (subst (λ (x : Part). settled true (chip_of x) r.stops.items t.state ≡ t.state) same_part
        (kept_settled flash part_of (place e r job pend) t rest kept stands answered))

    -- and with what else is told of it
    pub whole_with : (Goes : Session → Session → Type 0) → ((s t : Session) → Goes s t → IsReplayed true chip stops bytes s t) →
        (signed : Bool) → listens e.tool.mode ≡ not signed → (listens e.tool.mode ≡ true → IsPartial e.receiver.held) →
        Continues flash part_of Goes p out e r →
        Continues flash part_of (λ s t. IsWhole signed chip stops bytes s t × Goes s t) p out e r
    whole_with Goes replays signed on partial c = record {
      job = c.job;
      pend = c.pend;
      kept = c.kept;
      goes = record {
        asks = c.goes.asks;
        moved = c.goes.moved;
        begins = c.goes.begins;
        leads = λ s left rest stands answered later.
            let t = c.goes.leads s left rest stands answered later in
            let mode : e.tool.mode ≡ t.0.state.mode = ap (λ (k : ToolState). k.mode) t.2.stands.tool in (
              t.0,
              (
                record {
                  replayed = replays s t.0 t.1;
                  open_till = ap listens (sym mode) ∙ on;
                  partial = λ on_t.
                      let on_e : listens e.tool.mode ≡ true = ap listens mode ∙ on_t in
                      subst IsPartial (sym (kept_back (goes_on t.0.state.mode) e.receiver.held t.0.held (listens_on t.0.state.mode on_t)
                      t.2.stands.held)) (partial on_e);
                  quiet = quiet_of c.job c.pend c.kept t.0 rest t.2
                      (subst (λ (o : List Outcome). AreAnswered o c.pend rest) (sym t.3) later);
                },
                t.1,
              ),
              t.2,
              t.3,
              t.4,
              t.5,
            );
      };
    }

    -- what is told may be told with less
    pub less : (Goes Then : Session → Session → Type 0) → ((s t : Session) → Goes s t → Then s t) → Continues flash part_of Goes p out e r →
        Continues flash part_of Then p out e r
    less Goes Then by c = record {
      job = c.job;
      pend = c.pend;
      kept = c.kept;
      goes = weaker flash Goes Then p (place e r c.job c.pend) out by c.goes;
    }

    pub whole_of : (signed : Bool) → listens e.tool.mode ≡ not signed → (listens e.tool.mode ≡ true → IsPartial e.receiver.held) →
        TakesSome flash part_of (IsReplayed true) p bytes out e r →
        TakesSome flash part_of (λ part l b. IsWhole signed part l b) p bytes out e r
    whole_of signed on partial c =
        less (λ s t. IsWhole signed chip stops bytes s t × IsReplayed true chip stops bytes s t) (IsWhole signed chip stops bytes)
        (λ s t h. h.0) (whole_with (IsReplayed true chip stops bytes) (λ s t h. h) signed on partial c)

    -- a session that is closed needs no end of its line
    shut_whole : (s t : Session) → IsWhole true chip stops bytes s t → Whole true chip stops bytes s t
    shut_whole s t h = record { between = t; goes = h; is = closed_line chip stops t h.open_till h.quiet }

    pub closed_so : (was_out : Bool) → listens e.tool.mode ≡ false → TakesSome flash part_of (ClosesWhile was_out) p bytes out e r →
        TakesSome flash part_of (Whole true) p bytes out e r
    closed_so was_out off c =
        less (λ s t. IsWhole true chip stops bytes s t × ClosesWhile was_out chip stops bytes s t) (Whole true chip stops bytes)
        (λ s t h. shut_whole s t h.0)
        (whole_with (ClosesWhile was_out chip stops bytes) (λ s t h. h.replayed) true off (λ on. absurd (false_true (sym off ∙ on))) c)

    -- or late, where no run was out
    pub closed_late : (was_out late : Bool) → (late ≡ true → was_out ≡ false) → listens e.tool.mode ≡ false →
        TakesSome flash part_of (ClosesWhile was_out) p bytes out e r → TakesSome flash part_of (WholeOrLate true late) p bytes out e r
    closed_late was_out late home off c =
        less (λ s t. IsWhole true chip stops bytes s t × ClosesWhile was_out chip stops bytes s t) (WholeOrLate true late chip stops bytes)
        (λ s t h. record {
          whole = shut_whole s t h.0;
          late_at_home = λ is. (h.1.ahead, t, h.1.completes, h.1.was ∙ home is);
        })
        (whole_with (ClosesWhile was_out chip stops bytes) (λ s t h. h.replayed) true off (λ on. absurd (false_true (sym off ∙ on))) c)

    pub closed_cut : (ahead : List ℕ) → listens e.tool.mode ≡ false →
        TakesSome flash part_of (λ part l b. IsCut part l b ahead) p bytes out e r → TakesSome flash part_of (Cut ahead) p bytes out e r
    closed_cut ahead off c = record {
      job = c.job;
      pend = c.pend;
      kept = c.kept;
      goes = record {
        asks = c.goes.asks;
        moved = c.goes.moved;
        begins = c.goes.begins;
        leads = λ s left rest stands answered later.
            let t = c.goes.leads s left rest stands answered later in
            let mode : e.tool.mode ≡ t.0.state.mode = ap (λ (k : ToolState). k.mode) t.2.stands.tool in
            let quiet = quiet_of c.job c.pend c.kept t.0 rest t.2 (subst (λ (o : List Outcome). AreAnswered o c.pend rest) (sym t.3) later) in (
              t.0,
              record { between = t.0; goes = t.1; is = closed_line chip stops t.0 (ap listens (sym mode) ∙ off) quiet },
              t.2,
              t.3,
              t.4,
              t.5,
            );
      };
    }

    -- with the end of its line
    module _ (after : Emulator F) (now : Inline F)
        (line : (job : Job F) (pend : List Asked) → IsKept flash part_of (place e r job pend) →
        LineEnds flash part_of (place e r job pend) after now) where
      abbrev Lined : Session → Session → Type 0
      Lined s t = t.state ≡ (settled_then true chip stops (line_ended chip s)).state

      lined : (job : Job F) (pend : List Asked) → IsKept flash part_of (place e r job pend) →
          Continues flash part_of Lined (place e r job pend) [] after now
      lined job pend kept =
          subst (λ (l : List ℕ). Continues flash part_of (λ s t. t.state ≡ (settled_then true chip l (line_ended chip s)).state)
          (place e r job pend) [] after now) same_stops
          (subst (λ (x : Part). Continues flash part_of
          (λ s t. t.state ≡ (settled_then true (chip_of x) r.stops.items (line_ended (chip_of x) s)).state)
          (place e r job pend) [] after now) same_part (line job pend kept))

      pub with_line : (Goes : Chip → List ℕ → List ℕ → Session → Session → Type 0) → TakesSome flash part_of Goes p bytes out e r →
          TakesSome flash part_of (λ part l b. Ends part l (Goes part l b)) p bytes out after now
      with_line Goes c = let d = lined c.job c.pend c.kept in record {
        job = d.job;
        pend = d.pend;
        kept = d.kept;
        goes = weaker flash (Along (Goes chip stops bytes) Lined) (Ends chip stops (Goes chip stops bytes)) p (place after now d.job d.pend) out
            (λ s t h. record { between = h.0; goes = h.1; is = h.2 })
            (subst (λ (x : List ℕ). GoesOn flash (Along (Goes chip stops bytes) Lined) p x (place after now d.job d.pend)) (append-nil out)
            (onward flash (Goes chip stops bytes) Lined p (place e r c.job c.pend) (place after now d.job d.pend) out [] c.goes d.goes));
      }

  -- a chunk behind what was taken before
  module _ (bytes chunk out more : List ℕ) (e after : Emulator F) (r now : Inline F)
      (same_part : e.tool.plan.part ≡ p.emulator.tool.plan.part) (same_stops : r.stops.items ≡ p.runner.stops.items)
      (front : TakesSome flash part_of (λ part l b. IsWhole false part l b) p bytes out e r) where
    abbrev Front_so : Session → Session → Type 0
    Front_so = Noted flash (IsWhole false chip stops bytes) p out (place e r front.job front.pend)

    both : (Goes : Chip → List ℕ → List ℕ → Session → Session → Type 0) →
        TakesSome flash part_of Goes (place e r front.job front.pend) chunk more after now →
        Continues flash part_of (Along Front_so (Goes chip stops chunk)) p (out ++ more) after now
    both Goes c =
        let d : Continues flash part_of (Goes chip stops chunk) (place e r front.job front.pend) more after now =
        subst (λ (l : List ℕ). Continues flash part_of (Goes chip l chunk) (place e r front.job front.pend) more after now) same_stops
        (subst (λ (x : Part). Continues flash part_of (Goes (chip_of x) r.stops.items chunk) (place e r front.job front.pend) more after now)
        same_part c) in record {
          job = d.job;
          pend = d.pend;
          kept = d.kept;
          goes = onward flash Front_so (Goes chip stops chunk) p (place e r front.job front.pend)
              (place after now d.job d.pend) out more
              (noted flash (IsWhole false chip stops bytes) p (place e r front.job front.pend) out front.goes) d.goes;
        }

    joined : (Goes : Chip → List ℕ → List ℕ → Session → Session → Type 0) (Then : Session → Session → Type 0) →
        ((s t : Session) → Along Front_so (Goes chip stops chunk) s t → Then s t) →
        TakesSome flash part_of Goes (place e r front.job front.pend) chunk more after now →
        Continues flash part_of Then p (out ++ more) after now
    joined Goes Then by c = let b = both Goes c in record {
      job = b.job;
      pend = b.pend;
      kept = b.kept;
      goes = weaker flash (Along Front_so (Goes chip stops chunk)) Then p (place after now b.job b.pend) (out ++ more) by b.goes;
    }

    replayed_on : (ends : List ℕ) (s u t : Session) → Front_so s u → IsReplayed true chip stops ends u t →
        IsReplayed true chip stops (bytes ++ ends) s t
    replayed_on ends s u t first h =
        replays_go_on.onward true chip stops bytes ends s u t first.goes.open_till first.goes.replayed h

    completed_on : (ahead : List ℕ) (s u t : Session) → Front_so s u → Completes chip stops chunk ahead u t →
        Completes chip stops (bytes ++ chunk) (out ++ ahead) s t
    completed_on ahead s u t first h = record {
      first = bytes ++ h.first;
      used = h.used;
      left = h.left;
      split = ap (λ (l : List ℕ). bytes ++ l) h.split ∙ sym (append_assoc bytes h.first h.used);
      middle = h.middle;
      replayed = replayed_on h.first s u h.middle first h.replayed;
      step = h.step;
      sent = h.sent ∙ ap (λ (l : List ℕ). l ++ ahead) first.sends ∙ append_assoc (bytes_sent s.state) out ahead;
    }

    pub chunk_replayed : TakesSome flash part_of (IsReplayed true) (place e r front.job front.pend) chunk more after now →
        TakesSome flash part_of (IsReplayed true) p (bytes ++ chunk) (out ++ more) after now
    chunk_replayed c = joined (IsReplayed true) (IsReplayed true chip stops (bytes ++ chunk)) (λ s t h. replayed_on chunk s h.0 t h.1 h.2) c

    pub chunk_closes : (was_out : Bool) → TakesSome flash part_of (ClosesWhile was_out) (place e r front.job front.pend) chunk more after now →
        TakesSome flash part_of (ClosesWhile was_out) p (bytes ++ chunk) (out ++ more) after now
    unfolding completed_on
    chunk_closes was_out c = joined (ClosesWhile was_out) (ClosesWhile was_out chip stops (bytes ++ chunk)) (λ s t h. record {
      replayed = replayed_on chunk s h.0 t h.1 h.2.replayed;
      ahead = out ++ h.2.ahead;
      completes = completed_on h.2.ahead s h.0 t h.1 h.2.completes;
      was = h.2.was;
    }) c

    pub chunk_cut : (ahead : List ℕ) →
        TakesSome flash part_of (λ part l b. IsCut part l b ahead) (place e r front.job front.pend) chunk more after now →
        TakesSome flash part_of (λ part l b. IsCut part l b (out ++ ahead)) p (bytes ++ chunk) (out ++ more) after now
    unfolding completed_on
    chunk_cut ahead c =
        joined (λ part l b. IsCut part l b ahead) (IsCut chip stops (bytes ++ chunk) (out ++ ahead)) (λ s t h. record {
          completes = completed_on ahead s h.0 t h.1 h.2.completes;
          cause = h.2.cause;
        }) c
