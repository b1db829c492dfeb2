-- Steps within a chunk, joined.
use Rattle.std.proofs.Common.{◌≡◌, ◌≤◌, ◌+◌, inl, inr, ℕ, true, false, List, [], ◌++◌, Option, Some, Result, Ok, Err}
use Rattle.std.proofs.Common.{length, take, drop, refl, sym, ap, ◌∙◌, subst, arith, append-nil, take-append-drop}
use Rattle.std.proofs.Math.Seq.{take-add}
use Rattle.std.proofs.lemmas.List.{take_all, drop_all, length-drop}
use Rattle.std.proofs.KnownBytes.{Appends-trans}
use Rattle.std.specs.Prelude.{⊤}
use Rattle.std.specs.Io.KnownBytes.{Appends}
use Rattle.part_spec.specs.declared.part.Part.{Part}
use Rattle.part_spec.specs.Chip.{Chip, chip_of}
use Rattle.debug_spec.specs.Moved.{Flash}
use Rattle.debug_spec.specs.Debugger.{Mode, listens}
use Rattle.debug_spec.specs.Running.{launch_if_prepared}
use Rattle.debug_spec.specs.Schedule.{Session, IsChunk}
use Rattle.debug_spec.specs.Carries.{Along}
use Rattle.flash_patch.specs.declared.plan.FlashFault.{FlashFault}
use Rattle.run_control.specs.declared.job.Job.{Job}
use Rattle.ice_line.specs.Lines.{WritesAll}
use Rattle.ice_line.proofs.Pieces.{front_more}
use Rattle.ice_emul.specs.Standing.{StandsFor, held}
use Rattle.ice_emul.specs.Taking.{takes_line}
use Rattle.ice_emul.specs.declared.emulator.Emulator.{Emulator}
use Rattle.ice_serve.specs.Carrying.{Stands}
use Rattle.ice_serve.specs.Keeping.{Seen, IsKept, place, GoesOn, Continues}
use Rattle.ice_serve.specs.Pieces.{HearsFrame, HearsNone, TakesFront, IsCutShort}
use Rattle.ice_serve.specs.Steps.{TakesSo, IsSome, IsStep, Steps, StandsSo, Spends}
use Rattle.ice_serve.specs.Chunks.{WritesBehind, WritesStep, ChunkEnds, StandsChunk, IgnoresChunk}
use Rattle.ice_serve.specs.declared.chunk.Chunk.{Chunk}
use Rattle.ice_serve.specs.declared.chunk.Chunk.TheVariants.{Taken, Closed as Closes, Unsent, ClosedUnsent}
use Rattle.ice_serve.specs.declared.step.Came.{Came}
use Rattle.ice_serve.specs.declared.step.Came.TheVariants.{Nothing, Frame, Closed}
use Rattle.ice_serve.proofs.Carrying.{carries_onward, carries_said, carries_none}
use Rattle.ice_serve.proofs.Kept.{mode_in, none_prepared, never}
use Rattle.ice_serve.proofs.Taking.{front_none, front_more as front_frame, front_whole, front_over, front_cut}

-- a frame was taken, whatever came of it
frame_heard : (came : Came) (part : Chip) (used left : List ℕ) (s t : Session) → IsSome came → TakesSo came part used left s t →
    HearsFrame part used s t
frame_heard Nothing part used left s t some takes = absurd some
frame_heard Frame part used left s t some takes = takes
frame_heard (Closed restored) part used left s t some takes = takes

-- and what was written first
pub behind_more : (restored : Result ⊤ FlashFault) (before middle after : Option (List ℕ)) (faults between faults_now : ℕ) (a b : List ℕ) →
    WritesAll before middle faults between a → WritesBehind restored middle after between faults_now b →
    WritesBehind restored before after faults faults_now (a ++ b)
behind_more (Ok done) before middle after faults between faults_now a b first h =
    (Appends-trans before middle after a b first.0 h.0, h.1 ∙ first.1)
behind_more (Err fault) before middle after faults between faults_now a b first (inl h) = inl (Appends-trans before middle after a b first.0 h)
behind_more (Err fault) before middle after faults between faults_now a b first (inr h) =
    inr (front_more before middle after faults between faults_now a b first h)

-- where the session is behind a chunk that ends with a step
pub stands_chunk : (came : Came) (end : Chunk) (before after : Option (List ℕ)) (faults faults_now : ℕ) (out : List ℕ) (from to : Mode) →
    WritesStep came (Some end) before after faults faults_now out → StandsSo came from to → takes_line from ≡ true → StandsChunk end to
stands_chunk came Taken before after faults faults_now out from to w stands takes =
    ap takes_line (subst (λ (c : Came). StandsSo c from to) w.0 stands) ∙ takes
stands_chunk came (Closes restored) before after faults faults_now out from to w stands takes =
    (subst (λ (c : Came). StandsSo c from to) w.0 stands).1
stands_chunk came Unsent before after faults faults_now out from to w stands takes =
    (subst (λ (c : Came). StandsSo c from to) w.0 stands).1
stands_chunk came ClosedUnsent before after faults faults_now out from to w stands takes =
    (subst (λ (c : Came). StandsSo c from to) w.0 stands).1

-- a debugger that does not listen takes no frame
pub ignores_chunk : (came : Came) (end : Chunk) (before after : Option (List ℕ)) (faults faults_now : ℕ) (out : List ℕ) (from to : Mode) →
    WritesStep came (Some end) before after faults faults_now out → StandsSo came from to → listens from ≡ false →
    IgnoresChunk end before after faults faults_now
ignores_chunk came Taken before after faults faults_now out from to w stands deaf = (refl, w.1, w.2)
ignores_chunk came (Closes restored) before after faults faults_now out from to w stands deaf =
    absurd (never (listens from) (subst (λ (c : Came). StandsSo c from to) w.0 stands).0 deaf)
ignores_chunk came Unsent before after faults faults_now out from to w stands deaf =
    absurd (never (listens from) (subst (λ (c : Came). StandsSo c from to) w.0 stands).0 deaf)
ignores_chunk came ClosedUnsent before after faults faults_now out from to w stands deaf =
    absurd (never (listens from) (subst (λ (c : Came). StandsSo c from to) w.0 stands).0 deaf)

-- and so it stays
pub deaf_then : (came : Came) (from to : Mode) → StandsSo came from to → listens from ≡ false → listens to ≡ false
deaf_then Nothing from to stands deaf = ap listens stands ∙ deaf
deaf_then Frame from to stands deaf = absurd (never (listens from) stands.0 deaf)
deaf_then (Closed restored) from to stands deaf = absurd (never (listens from) stands.0 deaf)

module _ {F : Type 0} (flash : Flash F) (part_of : F → Part) (e : Emulator F) (job : Job F) (v : Seen F) where
  abbrev chip : Chip
  chip = chip_of e.tool.plan.part

  -- before any byte of a chunk
  pub none_taken : IsKept flash part_of e job v → Continues flash part_of (TakesFront chip []) e job v [] e v
  none_taken kept = record {
    job_then = job;
    kept = kept;
    goes = carries_said flash (λ h. h.job.flash) (StandsFor flash) (λ s t. t ≡ s) (TakesFront chip []) (place e job v) (place e job v) []
        (λ s t before after is. subst (λ (x : Session). TakesFront chip [] s x) (sym is) (front_none chip s))
        (carries_none flash (λ h. h.job.flash) (StandsFor flash) (held e job) v.launches v.faults v.faults (omega arith));
  }

  module _ (chunk : List ℕ) (used more : ℕ) (out sent : List ℕ) (mid after : Emulator F) (now later : Seen F) (came : Came)
      (front : Continues flash part_of (TakesFront chip (take used chunk)) e job v out mid now)
      (same_part : mid.tool.plan.part ≡ e.tool.plan.part) (rest : List ℕ) (is_rest : rest ≡ drop used chunk)
      (step : (own : Job F) → IsKept flash part_of mid own now → Steps flash part_of came mid own now rest more sent after later) where
    abbrev bytes : List ℕ
    bytes = take (used + more) chunk

    abbrev Step_here : Session → Session → Type 0
    Step_here = IsStep came chip (take more rest) (drop more rest)

    stepped : Continues flash part_of Step_here mid front.job_then now sent after later
    stepped = subst (λ (x : Part). Continues flash part_of (IsStep came (chip_of x) (take more rest) (drop more rest)) mid front.job_then now
        sent after later) same_part (step front.job_then front.kept)

    -- behind the steps before no launch is unanswered
    abbrev Front_so : Session → Session → Type 0
    Front_so s m = TakesFront chip (take used chunk) s m × (launch_if_prepared m.state ≡ m.state)

    both : GoesOn flash (Along Front_so Step_here) (place e job v) (out ++ sent) (place after stepped.job_then later)
    both =
        carries_onward flash (λ h. h.job.flash) (StandsFor flash) Front_so Step_here (place e job v) (place mid front.job_then now)
        (place after stepped.job_then later) out sent
        (carries_said flash (λ h. h.job.flash) (StandsFor flash) (TakesFront chip (take used chunk)) Front_so (place e job v)
        (place mid front.job_then now) out
        (λ s m before behind goes. (goes, none_prepared flash mid front.job_then now m front.kept.answered behind)) front.goes)
        stepped.goes

    told : (Goes : Session → Session → Type 0) →
        ((s t : Session) → Stands (StandsFor flash) (place after stepped.job_then later) t → Along Front_so Step_here s t → Goes s t) →
        Continues flash part_of Goes e job v (out ++ sent) after later
    told Goes by = record {
      job_then = stepped.job_then;
      kept = stepped.kept;
      goes = carries_said flash (λ h. h.job.flash) (StandsFor flash) (Along Front_so Step_here) Goes (place e job v)
          (place after stepped.job_then later) (out ++ sent) (λ s t before behind h. by s t behind h) both;
    }

    its_bytes : take used chunk ++ take more rest ≡ bytes
    its_bytes = ap (λ (l : List ℕ). take used chunk ++ take more l) is_rest ∙ sym (take-add used more chunk)

    front_so : IsSome came → (s t : Session) → Along Front_so Step_here s t → TakesFront chip bytes s t
    front_so some s t h =
        subst (λ (l : List ℕ). TakesFront chip l s t) its_bytes
        (front_frame chip (take used chunk) (take more rest) s h.0 h.2.between t h.1.0
        (frame_heard came chip (take more rest) (drop more rest) h.0 h.2.between some h.2.takes) h.2.is)

    -- one frame more is taken
    pub taken_so : IsSome came → Continues flash part_of (TakesFront chip bytes) e job v (out ++ sent) after later
    taken_so some = told (TakesFront chip bytes) (λ s t behind h. front_so some s t h)

    -- where no frame came to wait all bytes of the chunk are used
    whole_so : came ≡ Nothing → more ≡ length rest → used ≤ length chunk → (s t : Session) → Along Front_so Step_here s t →
        IsChunk true chip chunk s t
    whole_so is all within s t h =
        let takes : HearsNone (take more rest) (drop more rest) h.0 h.2.between =
        subst (λ (c : Came). TakesSo c chip (take more rest) (drop more rest) h.0 h.2.between) is h.2.takes in
        subst (λ (l : List ℕ). IsChunk true chip l s t)
        (its_bytes ∙ take_all (used + more) chunk (omega (arith, all, within, ap length is_rest, length-drop used chunk)))
        (front_whole chip (take used chunk) (take more rest) s h.0 h.2.between t h.1.0
        (subst (λ (l : List ℕ). HearsNone (take more rest) l h.0 h.2.between) (drop_all more rest (omega (arith, all))) takes) h.2.is h.1.1)

    -- the session is over with the step
    over_so : IsSome came → listens after.tool.mode ≡ false → (s t : Session) →
        Stands (StandsFor flash) (place after stepped.job_then later) t → Along Front_so Step_here s t → IsChunk true chip chunk s t
    over_so some off s t behind h =
        subst (λ (l : List ℕ). IsChunk true chip l s t) (take-append-drop (used + more) chunk)
        (front_over chip bytes (drop (used + more) chunk) s t (front_so some s t h)
        (ap listens (mode_in flash after stepped.job_then later t behind) ∙ off))

    -- the chunk is cut short behind the step
    cut_so : IsSome came → (s t : Session) → Along Front_so Step_here s t → IsCutShort chip chunk s t
    cut_so some s t h =
        subst (λ (l : List ℕ). IsCutShort chip l s t)
        (ap (λ (l : List ℕ). l ++ drop (used + more) chunk) its_bytes ∙ take-append-drop (used + more) chunk)
        (front_cut chip (take used chunk) (take more rest) (drop (used + more) chunk) s h.0 h.2.between t h.1.0
        (frame_heard came chip (take more rest) (drop more rest) h.0 h.2.between some h.2.takes) h.2.is)

    -- how the chunk ends with this step
    pub chunk_ends : (end : Chunk) (before middle last : Option (List ℕ)) (faults between faults_now : ℕ) →
        WritesStep came (Some end) middle last between faults_now sent → WritesAll before middle faults between out →
        StandsSo came mid.tool.mode after.tool.mode → Spends came (length rest) more mid after → (came ≡ Nothing → sent ≡ []) →
        used ≤ length chunk → (listens e.tool.mode ≡ false → out ≡ []) →
        ChunkEnds flash part_of end e job v chunk before last faults faults_now after later
    chunk_ends Taken before middle last faults between faults_now w first stands spends still within silent =
        let spent = subst (λ (c : Came). Spends c (length rest) more mid after) w.0 spends in (
          out,
          subst (λ (l : List ℕ). Continues flash part_of (IsChunk true chip chunk) e job v l after later)
              (ap (λ (l : List ℕ). out ++ l) (still w.0) ∙ append-nil out)
              (told (IsChunk true chip chunk) (λ s t behind h. whole_so w.0 spent.0 within s t h)),
          (subst (λ (o : Option (List ℕ)). Appends before o out) (sym w.1) first.0, w.2 ∙ first.1),
          silent,
        )
    chunk_ends (Closes restored) before middle last faults between faults_now w first stands spends still within silent = (
      out ++ sent,
      told (IsChunk true chip chunk) (over_so (subst IsSome (sym w.0) tt)
          (ap listens (subst (λ (c : Came). StandsSo c mid.tool.mode after.tool.mode) w.0 stands).1)),
      behind_more restored before middle last faults between faults_now out sent first w.1,
    )
    chunk_ends Unsent before middle last faults between faults_now w first stands spends still within silent = (
      out ++ sent,
      told (IsCutShort chip chunk) (λ s t behind h. cut_so (subst IsSome (sym w.0) tt) s t h),
      front_more before middle last faults between faults_now out sent first w.1,
    )
    chunk_ends ClosedUnsent before middle last faults between faults_now w first stands spends still within silent = (
      out ++ sent,
      told (IsCutShort chip chunk) (λ s t behind h. cut_so (subst IsSome (sym w.0) tt) s t h),
      front_more before middle last faults between faults_now out sent first w.1,
    )
