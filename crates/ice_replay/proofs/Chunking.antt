-- Steps within a chunk, joined.
use Rattle.std.proofs.Common.{◌≡◌, ◌≤◌, ◌<◌, ◌+◌, ℕ, zero, suc, Bool, true, false, List, [], ◌++◌, Option, Some, length, take, drop}
use Rattle.std.proofs.Common.{refl, sym, ap, ◌∙◌, subst, arith, append-nil}
use Rattle.std.proofs.Math.Seq.{take-add}
use Rattle.std.proofs.lemmas.List.{take_all, length-drop}
use Rattle.std.specs.Prelude.{is_ok}
use Rattle.std.specs.Io.KnownBytes.{Appends}
use Rattle.part_spec.specs.declared.part.Part.{Part}
use Rattle.part_spec.specs.Chip.{Chip, chip_of}
use Rattle.line_spec.specs.Frames.{IsPartial}
use Rattle.debug_spec.specs.Device.{Asked}
use Rattle.debug_spec.specs.Moved.{Flash}
use Rattle.debug_spec.specs.Debugger.{closed, is_out, listens}
use Rattle.debug_spec.specs.Replay.{bytes_sent}
use Rattle.debug_spec.specs.Schedule.{Session, Keeps}
use Rattle.debug_spec.specs.Carries.{Along}
use Rattle.debug_spec.specs.Take.{TakesFrame}
use Rattle.debug_spec.specs.TakeReplays.{IsReplayed}
use Rattle.debug_spec.proofs.TakeReplayLemmas.{replays_go_on}
use Rattle.run_control.specs.declared.inline.Inline.{Inline}
use Rattle.run_control.specs.declared.job.Job.{Job}
use Rattle.ice_answer.specs.Kept.{ToolState}
use Rattle.ice_emul.specs.Taking.{TakesOne}
use Rattle.ice_emul.specs.declared.emulator.Emulator.{Emulator}
use Rattle.ice_replay.specs.Keeping.{Place, place, IsKept, GoesOn}
use Rattle.ice_replay.specs.Steps.{TakesSo, IsSome, IsStoppedFor, IsStep, Continues, Steps, StandsSo, Spends}
use Rattle.ice_line.specs.Lines.{WritesAll}
use Rattle.ice_replay.specs.Replaying.{Completes, ClosesWhile, IsCut}
use Rattle.ice_replay.specs.Chunks.{TakesSome, WritesStep, ChunkEnds}
use Rattle.ice_replay.specs.declared.chunk.Chunk.{Chunk}
use Rattle.ice_replay.specs.declared.chunk.Chunk.TheVariants.{Taken, Closed as Closes, Unsent}
use Rattle.ice_replay.specs.declared.settle.Came.{Came}
use Rattle.ice_replay.specs.declared.settle.Came.TheVariants.{Nothing, Frame, Closed}
use Rattle.ice_replay.proofs.Going.{onward, Noted, noted, weaker}
use Rattle.ice_replay.proofs.LineEnding.{step_replays}
use Rattle.ice_replay.proofs.Writing.{behind_more, past_first}

pub joined_step : (came : Came) (part : Chip) (stops first used left : List ℕ) (s t : Session) →
    Along (IsReplayed true part stops first) (IsStep came part stops used left) s t → IsReplayed true part stops (first ++ used) s t
joined_step came part stops first used left s t h =
    replays_go_on.onward true part stops first used s h.0 t h.2.listening h.1
    (step_replays came part stops used left h.0 t h.2).0

-- of no bytes nothing is heard
kept_all : (b : Bool) (held : List ℕ) → b ≡ true → Keeps b held held
kept_all true held on = refl
kept_all false held on = cc

no_bytes : (part : Chip) (stops : List ℕ) (s : Session) → listens s.state.mode ≡ true → IsReplayed true part stops [] s s
no_bytes part stops s on = record {
  items = [];
  behind = s.held;
  heard = [];
  cuts = append-nil s.held;
  hears = tt;
  state = refl;
  keeps = kept_all (listens s.state.mode) s.held on;
  no_sooner = λ k less h. absurd (none k less);
}
  where
    none : (k : ℕ) → k < 0 → ⊥
    none k less = omega (arith, less)

-- a frame was taken, whatever came of it
frame_taken : (came : Came) (part : Chip) (used left : List ℕ) (s t : Session) → IsSome came → TakesSo came part used left s t →
    TakesFrame true part used s t
frame_taken Nothing part used left s t some takes = absurd some
frame_taken Frame part used left s t some takes = takes
frame_taken (Closed restored) part used left s t some takes = takes

pub frame_step : (came : Came) (part : Chip) (stops used left : List ℕ) (s t : Session) → IsSome came →
    IsStep came part stops used left s t → IsStep Frame part stops used left s t
frame_step came part stops used left s t some step = record {
  listening = step.listening;
  quiet = step.quiet;
  between = step.between;
  takes = frame_taken came part used left s step.between some step.takes;
  is = step.is;
}

-- some bytes are used where a frame is taken
pub some_more : (used more : ℕ) (before after : List ℕ) → TakesOne more before after → (used ≡ 0 → IsPartial before) → used + more ≡ 0 → ⊥
some_more zero zero before after one partial none = absurd (never (one.1 (partial refl)))
  where
    never : 0 < 0 → ⊥
    never h = omega (arith, h)
some_more zero (suc more) before after one partial none = omega (arith, none)
some_more (suc used) more before after one partial none = omega (arith, none)

false_true : false ≡ true → ⊥
false_true h = cc

closed_same : (a b : Bool) → closed a ≡ closed b → a ≡ b
closed_same a b h = cc

positive : (n : ℕ) → (n ≡ 0 → ⊥) → 0 < n
positive zero none = absurd (none refl)
positive (suc n) none = omega arith

module _ {F : Type 0} (flash : Flash F) (part_of : F → Part) (p : Place F) where
  abbrev chip : Chip
  chip = chip_of p.emulator.tool.plan.part

  abbrev stops_p : List ℕ
  stops_p = p.runner.stops.items

  -- before any byte of a chunk
  pub none_taken : IsKept flash part_of p → listens p.emulator.tool.mode ≡ true →
      TakesSome flash part_of (IsReplayed true) p [] [] p.emulator p.runner
  none_taken kept on = record {
    job = p.job;
    pend = p.pend;
    kept = kept;
    goes = record {
      asks = [];
      moved = refl;
      begins = ([], sym (append-nil p.pend));
      leads = λ s left rest stands answered later.
          let on_s : listens s.state.mode ≡ true = ap listens (sym (ap (λ (k : ToolState). k.mode) stands.stands.tool)) ∙ on in (
            s,
            no_bytes chip stops_p s on_s,
            stands,
            answered,
            sym (append-nil (bytes_sent s.state)),
            sym (append-nil s.state.device.asked),
          );
    };
  }

  module _ (chunk : List ℕ) (used more : ℕ) (out sent : List ℕ) (e after : Emulator F) (r now : Inline F) (came : Came)
      (front : TakesSome flash part_of (IsReplayed true) p (take used chunk) out e r) (same_part : e.tool.plan.part ≡ p.emulator.tool.plan.part)
      (same_stops : r.stops.items ≡ p.runner.stops.items) (rest : List ℕ) (is_rest : rest ≡ drop used chunk)
      (step : (job : Job F) (pend : List Asked) → IsKept flash part_of (place e r job pend) →
      Steps flash part_of came (place e r job pend) rest more sent after now) where
    abbrev bytes : List ℕ
    bytes = take (used + more) chunk

    abbrev Step_here : Session → Session → Type 0
    Step_here = IsStep came chip stops_p (take more rest) (drop more rest)

    stepped : Continues flash part_of Step_here (place e r front.job front.pend) sent after now
    stepped = subst (λ (l : List ℕ). Continues flash part_of (IsStep came chip l (take more rest) (drop more rest))
        (place e r front.job front.pend) sent after now) same_stops
        (subst (λ (x : Part). Continues flash part_of (IsStep came (chip_of x) r.stops.items (take more rest) (drop more rest))
        (place e r front.job front.pend) sent after now) same_part (step front.job front.pend front.kept))

    abbrev Front_so : Session → Session → Type 0
    Front_so = Noted flash (IsReplayed true chip stops_p (take used chunk)) p out (place e r front.job front.pend)

    abbrev Step_so : Session → Session → Type 0
    Step_so = Noted flash Step_here (place e r front.job front.pend) sent (place after now stepped.job stepped.pend)

    both : GoesOn flash (Along Front_so Step_so) p (out ++ sent) (place after now stepped.job stepped.pend)
    both =
        onward flash Front_so Step_so p (place e r front.job front.pend) (place after now stepped.job stepped.pend) out sent
        (noted flash (IsReplayed true chip stops_p (take used chunk)) p (place e r front.job front.pend) out front.goes)
        (noted flash Step_here (place e r front.job front.pend) (place after now stepped.job stepped.pend) sent stepped.goes)

    told : (Goes : Session → Session → Type 0) → ((s t : Session) → Along Front_so Step_so s t → Goes s t) →
        Continues flash part_of Goes p (out ++ sent) after now
    told Goes by = record {
      job = stepped.job;
      pend = stepped.pend;
      kept = stepped.kept;
      goes = weaker flash (Along Front_so Step_so) Goes p (place after now stepped.job stepped.pend) (out ++ sent) by both;
    }

    its_bytes : take used chunk ++ take more rest ≡ bytes
    its_bytes = ap (λ (l : List ℕ). take used chunk ++ take more l) is_rest ∙ sym (take-add used more chunk)

    replayed_so : (s t : Session) → Along Front_so Step_so s t → IsReplayed true chip stops_p bytes s t
    replayed_so s t h =
        subst (λ (l : List ℕ). IsReplayed true chip stops_p l s t) its_bytes
        (joined_step came chip stops_p (take used chunk) (take more rest) (drop more rest) s t (h.0, h.1.goes, h.2.goes))

    -- the steps so far are a replay of their bytes
    pub taken_so : TakesSome flash part_of (IsReplayed true) p bytes (out ++ sent) after now
    taken_so = told (IsReplayed true chip stops_p bytes) replayed_so

    completes_so : IsSome came → (s t : Session) → Along Front_so Step_so s t → Completes chip stops_p bytes out s t
    completes_so some s t h = record {
      first = take used chunk;
      used = take more rest;
      left = drop more rest;
      split = sym its_bytes;
      middle = h.0;
      replayed = h.1.goes;
      step = frame_step came chip stops_p (take more rest) (drop more rest) h.0 t some h.2.goes;
      sent = h.1.sends;
    }

    -- they are cut short with the last of them
    pub cut_so : IsSome came → (after.tool.mode ≡ closed false → is_out e.tool.mode ≡ true) →
        TakesSome flash part_of (λ part stops b. IsCut part stops b out) p bytes (out ++ sent) after now
    unfolding completes_so
    cut_so some why = told (IsCut chip stops_p bytes out) (λ s t h. record {
      completes = completes_so some s t h;
      cause = λ shut. ap is_out h.2.from ∙ why (sym h.2.to ∙ shut);
    })

    -- the session is closed with the last of them
    pub closes_so : IsSome came → (stopped : Bool) → is_out e.tool.mode ≡ stopped →
        TakesSome flash part_of (ClosesWhile stopped) p bytes (out ++ sent) after now
    unfolding completes_so
    closes_so some stopped was = told (ClosesWhile stopped chip stops_p bytes) (λ s t h. record {
      replayed = replayed_so s t h;
      ahead = out;
      completes = completes_so some s t h;
      was = ap is_out h.2.from ∙ was;
    })

    -- and all bytes of the chunk are used with it
    pub all_so : length rest ≤ more → used ≤ length chunk → sent ≡ [] → TakesSome flash part_of (IsReplayed true) p chunk out after now
    all_so most within none =
        subst (λ (l : List ℕ). TakesSome flash part_of (IsReplayed true) p l out after now) whole
        (subst (λ (l : List ℕ). TakesSome flash part_of (IsReplayed true) p bytes l after now)
        (ap (λ (l : List ℕ). out ++ l) none ∙ append-nil out) taken_so)
      where
        whole : bytes ≡ chunk
        whole = take_all (used + more) chunk (omega (arith, most, within, ap length is_rest, length-drop used chunk))

    -- how the chunk ends with this step
    pub chunk_ends : (end : Chunk) (stopped : Bool) (before middle last : Option (List ℕ)) (faults between faults_now : ℕ) →
        WritesStep came stopped (Some end) middle last between faults_now sent → WritesAll before middle faults between out →
        StandsSo came after.tool.mode → IsStoppedFor came stopped e.tool.mode → Spends came (length rest) more e after →
        (came ≡ Nothing → sent ≡ []) → used ≤ length chunk →
        (used ≡ 0 → IsPartial e.receiver.held) → ChunkEnds flash part_of end p chunk before last faults faults_now after now
    chunk_ends Taken stopped before middle last faults between faults_now w first stands for_it spends still within some =
        let spent = subst (λ (c : Came). Spends c (length rest) more e after) w.0 spends in (
          out,
          all_so (omega (arith, spent.0)) within (still w.0),
          (subst (λ (o : Option (List ℕ)). Appends before o out) (sym w.1) first.0, w.2 ∙ first.1),
          subst (λ (c : Came). StandsSo c after.tool.mode) w.0 stands,
          spent.1,
        )
    chunk_ends (Closes restored) stopped before middle last faults between faults_now w first stands for_it spends still within some = (
      used + more,
      out ++ sent,
      stopped,
      w.0,
      closes_so (subst IsSome (sym w.1) tt) stopped (subst (λ (c : Came). IsStoppedFor c stopped e.tool.mode) w.1 for_it),
      behind_more before middle last faults between faults_now stopped w.0 restored out sent first w.2,
      subst (λ (c : Came). StandsSo c after.tool.mode) w.1 stands,
      positive (used + more) (some_more used more e.receiver.held after.receiver.held
          (subst (λ (c : Came). Spends c (length rest) more e after) w.1 spends) some),
    )
    chunk_ends (Unsent true) stopped before middle last faults between faults_now w first stands for_it spends still within some =
        let mode : after.tool.mode ≡ closed (is_ok w.0) = subst (λ (c : Came). StandsSo c after.tool.mode) w.1 stands in (
          used + more,
          out,
          sent,
          cut_so (subst IsSome (sym w.1) tt) (λ shut.
              subst (λ (c : Came). IsStoppedFor c stopped e.tool.mode) w.1 for_it ∙ w.3 (closed_same (is_ok w.0) false (sym mode ∙ shut))),
          past_first before middle last faults between faults_now out sent first w.2,
          (is_ok w.0, mode),
          positive (used + more) (some_more used more e.receiver.held after.receiver.held
              (subst (λ (c : Came). Spends c (length rest) more e after) w.1 spends) some),
        )
    chunk_ends (Unsent false) stopped before middle last faults between faults_now w first stands for_it spends still within some =
        let on : listens after.tool.mode ≡ true = subst (λ (c : Came). StandsSo c after.tool.mode) w.0 stands in (
          used + more,
          out,
          sent,
          cut_so (subst IsSome (sym w.0) tt) (λ shut. absurd (false_true (sym (ap listens shut) ∙ on))),
          past_first before middle last faults between faults_now out sent first w.1,
          on,
          positive (used + more) (some_more used more e.receiver.held after.receiver.held
              (subst (λ (c : Came). Spends c (length rest) more e after) w.0 spends) some),
        )
