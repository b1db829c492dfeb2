-- A session that was signed off by some front of the line of a made session is the made session.
use Rattle.std.proofs.Common.{◌≡◌, ℕ, Bool, true, false, List, [], ◌∷◌, ◌++◌, length, refl, sym, ap, subst, ◌∙◌}
use Rattle.std.proofs.lemmas.Bool.{true≢false}
use Rattle.part_spec.specs.Chip.{Chip}
use Rattle.line_spec.specs.Frames.{IsBytes, IsPartial}
use Rattle.line_spec.specs.Cut.{Item, whole, junk, Cuts}
use Rattle.line_spec.specs.Hearing.{Heard, HearsAll}
use Rattle.line_spec.proofs.Cuts.{Cuts-more, Cuts-append, no_junk_whole, no_junk_partial, no_partial_whole}
use Rattle.line_spec.proofs.FrameBytes.{same_begins}
use Rattle.debug_spec.specs.Device.{Device}
use Rattle.debug_spec.specs.Debugger.{Debugger, opened, listens}
use Rattle.debug_spec.specs.Running.{left, line_end, launch_if_prepared}
use Rattle.debug_spec.specs.Debugger.{dropping}
use Rattle.debug_spec.specs.Commands.{heard_by, item_launched}
use Rattle.debug_spec.specs.Replay.{settled, over, over_all, IsReplay}
use Rattle.debug_spec.specs.Schedule.{Session}
use Rattle.debug_spec.specs.TakeReplays.{IsReplayed}
use Rattle.debug_spec.proofs.Chunks.{HearsAll-append}
use Rattle.debug_spec.proofs.Hearings.{each_hearing}
use Rattle.debug_spec.proofs.OneChunk.{one_replay}
use Rattle.debug_spec.proofs.Sessions.{items_settle}
use Rattle.debug_spec.proofs.TakeReplayLemmas.{replays_go_on}

-- behind the first items of a cut stand the others
record Others (y rest : List ℕ) : Type 0 where
  others : List Item
  cuts : Cuts y others rest

others_behind : (x y rest : List ℕ) (items all : List Item) → Cuts x items y → Cuts x all rest → IsPartial rest → Others y rest
others_behind x y rest [] all c d p = record { others = all; cuts = subst (λ (t : List ℕ). Cuts t all rest) c d }
others_behind x y rest (whole frame ∷ items) [] c d p =
    absurd (no_partial_whole x c.0 frame (subst IsPartial (sym d) p) c.1)
others_behind x y rest (whole frame ∷ items) (whole other ∷ all) c d p =
    let same = same_begins x c.0 d.0 frame other c.1 d.1 in
    others_behind c.0 y rest items all c.2 (subst (λ (t : List ℕ). Cuts t all rest) (sym same.1) d.2) p
others_behind x y rest (whole frame ∷ items) (junk byte ∷ all) c d p = absurd (no_junk_whole x c.0 frame d.2 c.1)
others_behind x y rest (junk byte ∷ items) [] c d p = absurd (no_junk_partial x c.2 (subst IsPartial (sym d) p))
others_behind x y rest (junk byte ∷ items) (whole other ∷ all) c d p = absurd (no_junk_whole x d.0 other c.2 d.1)
others_behind x y rest (junk byte ∷ items) (junk also ∷ all) c d p =
    let same : c.0 ≡ d.0 = same_tails byte also c.0 d.0 (sym c.1 ∙ d.1) in
    others_behind c.0 y rest items all c.3 (subst (λ (t : List ℕ). Cuts t all rest) (sym same) d.3) p
  where
    same_tails : (a b : ℕ) (s t : List ℕ) → a ∷ s ≡ b ∷ t → s ≡ t
    same_tails a b s t e = cc

module _ (planted : Bool) (part : Chip) (stops : List ℕ) where
  over-append : (heard more : List Heard) (s : Debugger) →
      over planted part stops (heard ++ more) s ≡ over planted part stops more (over planted part stops heard s)
  over-append [] more s = refl
  over-append (one ∷ heard) more s = over-append heard more (settled planted part stops (item_launched planted part one s))

  -- what happens between two items has happened
  settled_over : (heard : List Heard) (s : Debugger) → settled planted part stops s ≡ s →
      settled planted part stops (over planted part stops heard s) ≡ over planted part stops heard s
  settled_over [] s rests = rests
  settled_over (one ∷ heard) s rests =
      settled_over heard (settled planted part stops (item_launched planted part one s))
      (items_settle.once planted part stops (item_launched planted part one s))

  -- a debugger that does not listen, and with which nothing more happens, stays as it is
  deaf_item : (one : Heard) (s : Debugger) → listens s.mode ≡ false → item_launched planted part one s ≡ s
  deaf_item one s deaf = ap (λ (b : Bool). elim b [ true ↦ launch_if_prepared (heard_by planted part one s) | false ↦ s ]) deaf

  deaf_over : (heard : List Heard) (s : Debugger) → listens s.mode ≡ false → settled planted part stops s ≡ s →
      over planted part stops heard s ≡ s
  deaf_over [] s deaf rests = refl
  deaf_over (one ∷ heard) s deaf rests =
      ap (λ (t : Debugger). over planted part stops heard (settled planted part stops t)) (deaf_item one s deaf) ∙
      ap (over planted part stops heard) rests ∙ deaf_over heard s deaf rests

  deaf_end : (held : List ℕ) (s : Debugger) → listens s.mode ≡ false → line_end part held s ≡ s
  deaf_end held s deaf = ap (λ (b : Bool). elim b [ true ↦ left part (dropping (length held) s) | false ↦ s ]) deaf

  -- a session that listens no more behind some bytes is the same over these and others
  pub signed_off : (prog : List ℕ) (device : Device) (bytes more line : List ℕ) (between : Session) (end all : Debugger) → bytes ++ more ≡ line →
      IsBytes bytes → IsReplayed planted part stops bytes (record { held = []; state = opened part prog device }) between →
      listens between.state.mode ≡ false → IsReplay planted part stops prog device bytes end →
      IsReplay planted part stops prog device line all → end ≡ all
  signed_off prog device bytes more line between end all joined valid r deaf own whole_line =
      front ∙ sym behind
    where
      start : Debugger
      start = opened part prog device

      rests : settled planted part stops between.state ≡ between.state
      rests = subst (λ (s : Debugger). settled planted part stops s ≡ s) (sym r.state) (settled_over r.heard start refl)

      ends_so : (held : List ℕ) → settled planted part stops (line_end part held between.state) ≡ between.state
      ends_so held = ap (settled planted part stops) (deaf_end held between.state deaf) ∙ rests

      front : end ≡ between.state
      front =
          one_replay planted part stops prog device bytes end _ own
          (replays_go_on.ends planted part stops prog bytes device between valid r (λ h. absurd (true≢false (sym h ∙ deaf))) rests)
          ∙ ends_so between.held

      cuts : Cuts line r.items (r.behind ++ more)
      cuts = subst (λ (t : List ℕ). Cuts t r.items (r.behind ++ more)) joined (Cuts-more bytes more r.behind r.items r.cuts)

      later : Others (r.behind ++ more) whole_line.rest
      later = others_behind line (r.behind ++ more) whole_line.rest r.items whole_line.items cuts whole_line.cut.cuts whole_line.cut.partial

      then_heard : (heard : List Heard) × HearsAll later.others heard
      then_heard = each_hearing later.others

      replayed : IsReplay planted part stops prog device line (over_all planted part stops (r.heard ++ then_heard.0) whole_line.rest start)
      replayed = record {
        items = r.items ++ later.others;
        rest = whole_line.rest;
        heard = r.heard ++ then_heard.0;
        cut = record {
          cuts = Cuts-append line (r.behind ++ more) whole_line.rest r.items later.others cuts later.cuts;
          partial = whole_line.cut.partial;
        };
        hears = HearsAll-append r.items later.others r.heard then_heard.0 r.hears then_heard.1;
        is_end = refl;
      }

      over_both : over planted part stops (r.heard ++ then_heard.0) start ≡ between.state
      over_both =
          over-append r.heard then_heard.0 start ∙ ap (over planted part stops then_heard.0) (sym r.state) ∙
          deaf_over then_heard.0 between.state deaf rests

      behind : all ≡ between.state
      behind =
          one_replay planted part stops prog device line all _ whole_line replayed ∙
          ap (λ (s : Debugger). settled planted part stops (line_end part whole_line.rest s)) over_both ∙ ends_so whole_line.rest
