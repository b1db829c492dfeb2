-- Replays that are cut short.
use Rattle.std.proofs.Common.{◌≡◌, ℕ, ◌+◌, Bool, true, false, List, [], ◌++◌, length, Option, Some, None, refl, sym, ◌∙◌, ap, ap₂, subst}
use Rattle.std.proofs.lemmas.Bool.{true≢false}
use Rattle.part_spec.specs.Chip.{Chip}
use Rattle.line_spec.specs.Frames.{Frame}
use Rattle.line_spec.specs.Cut.{Item, Cuts}
use Rattle.line_spec.specs.Hearing.{Heard, HearsAll}
use Rattle.line_spec.proofs.Cuts.{Cuts-more, Cuts-append, Cuts-bytes, has_cut, same_cut}
use Rattle.debug_spec.specs.Run.{End}
use Rattle.debug_spec.specs.Debugger.{Mode, launching, running, leaving, closed, Debugger, opened, listens}
use Rattle.debug_spec.specs.Running.{line_end}
use Rattle.debug_spec.specs.Replay.{steps_for, end_now, ended_if, settled, over, over_all, IsReplay}
use Rattle.debug_spec.specs.SessionLaws.{Grows, is_closed, LeavesProgram}
use Rattle.debug_spec.specs.Opening.{OpenedHasProgram}
use Rattle.debug_spec.specs.CutShortLaws.{EveryFrameIsCutShort, OneCutShort, CutsShortShow}
use Rattle.debug_spec.proofs.Fits.{synced-in_place}
use Rattle.debug_spec.proofs.Soundness.{at, grows-onward}
use Rattle.debug_spec.proofs.Moving.{moves-line_end}
use Rattle.debug_spec.proofs.Sessions.{moves-settled, moves-over, replays_close}
use Rattle.debug_spec.proofs.Chunks.{HearsAll-append}
use Rattle.debug_spec.proofs.Hearings.{each_hearing}
use Rattle.debug_spec.proofs.OneChunk.{one_hearing_all}
use Rattle.debug_spec.proofs.TakeReplayLemmas.{over-append}
use Rattle.debug_spec.proofs.JustTaken.{one_behind, Shortest, shortest, same_taken}

pub opened_has_program : OpenedHasProgram
opened_has_program part prog d full fit ok = synced-in_place part prog d full fit ok

pub every_frame_is_cut_short : EveryFrameIsCutShort
every_frame_is_cut_short planted part stops prog device bytes items behind valid cuts frame =
    let s : Shortest [] items bytes = shortest [] items bytes behind valid cuts in
    let heard = each_hearing items in (
      over_all planted part stops heard.0 s.behind (opened part prog device),
      record {
        taken = s.taken;
        left = s.left;
        held = s.behind;
        heard = heard.0;
        split = s.split;
        cuts = s.cuts;
        frame = frame;
        just_there = s.just_taken;
        hears = heard.1;
        is_end = refl;
      },
    )

pub one_cut_short : OneCutShort
one_cut_short planted part stops prog device bytes items end other h k =
    let taken : h.taken ≡ k.taken =
    same_taken [] items h.taken h.left k.taken k.left h.held k.held (sym h.split ∙ k.split) h.cuts h.just_there k.cuts k.just_there in
    let held : h.held ≡ k.held =
    one_behind h.taken h.held k.held items h.cuts (subst (λ (t : List ℕ). Cuts t items k.held) (sym taken) k.cuts) in
    let heard : h.heard ≡ k.heard = one_hearing_all items h.heard k.heard h.hears k.hears in
    h.is_end ∙ ap₂ (λ (t : List Heard) (rest : List ℕ). over_all planted part stops t rest (opened part prog device)) heard held ∙
    sym k.is_end

module _ (planted : Bool) (part : Chip) (stops : List ℕ) (held : List ℕ) where
  abbrev ended_line : Debugger → Debugger
  ended_line s = settled planted part stops (line_end part held s)

  -- a run that is left ends with no event, and drops no bytes
  ends_quietly : (m : Mode) (s : Debugger) → (ended_line (at m s)).sent ≡ s.sent
  ends_quietly running s = by_end (end_now planted part (steps_for stops s.launches) (line_end part held (at running s)))
    where
      by_end : (o : Option End) → (ended_if planted part o (line_end part held (at running s))).sent ≡ s.sent
      by_end None = refl
      by_end (Some e) = refl
  ends_quietly leaving s = by_end (end_now planted part (steps_for stops s.launches) (at leaving s))
    where
      by_end : (o : Option End) → (ended_if planted part o (at leaving s)).sent ≡ s.sent
      by_end None = refl
      by_end (Some e) = refl
  ends_quietly _ s = refl

  drops_held : (m : Mode) (s : Debugger) → listens m ≡ true → (ended_line (at m s)).dropped ≡ s.dropped + length held
  drops_held running s h = by_end (end_now planted part (steps_for stops s.launches) (line_end part held (at running s)))
    where
      by_end : (o : Option End) → (ended_if planted part o (line_end part held (at running s))).dropped ≡ s.dropped + length held
      by_end None = refl
      by_end (Some e) = refl
  drops_held (launching number) s h = absurd (true≢false (sym h))
  drops_held leaving s h = absurd (true≢false (sym h))
  drops_held (closed done) s h = absurd (true≢false (sym h))
  drops_held _ s h = refl

  drops_nothing : (m : Mode) (s : Debugger) → listens m ≡ false → (ended_line (at m s)).dropped ≡ s.dropped
  drops_nothing leaving s h = by_end (end_now planted part (steps_for stops s.launches) (at leaving s))
    where
      by_end : (o : Option End) → (ended_if planted part o (at leaving s)).dropped ≡ s.dropped
      by_end None = refl
      by_end (Some e) = refl
  drops_nothing (launching number) s h = refl
  drops_nothing (closed done) s h = refl
  drops_nothing _ s h = absurd (true≢false h)

  -- what was sent stays so
  pub line_grows : (heard more : List Heard) (s : Debugger) →
      Grows (over planted part stops heard s).sent (over_all planted part stops (heard ++ more) held s).sent
  line_grows heard more s =
      let t = over planted part stops heard s in
      let u = over planted part stops (heard ++ more) s in
      let v = line_end part held u in
      grows-onward t.sent u.sent (settled planted part stops v).sent
      (subst (λ (x : Debugger). Grows t.sent x.sent) (sym (over-append planted part stops heard more s))
      (moves-over planted part stops more t).sent)
      (grows-onward u.sent v.sent (settled planted part stops v).sent (moves-line_end part held u.mode u).sent
      (moves-settled planted part stops v.mode v).sent)

pub cuts_short_show : CutsShortShow
cuts_short_show planted part stops prog device bytes items end full fit valid h = record {
  counted = λ e. ap (λ (x : Debugger). x.dropped) h.is_end ∙ drops_held planted part stops h.held s.mode s e;
  not_counted = λ e. ap (λ (x : Debugger). x.dropped) h.is_end ∙ drops_nothing planted part stops h.held s.mode s e;
  sent = quiet;
  first = first;
  closes = subst (λ (x : Debugger). is_closed x.mode ≡ true) (sym h.is_end) shut.0;
  leaves = subst (λ (x : Debugger). LeavesProgram device x) (sym h.is_end) shut.1;
}
  where
    s : Debugger
    s = over planted part stops h.heard (opened part prog device)

    shut : (is_closed (over_all planted part stops h.heard h.held (opened part prog device)).mode ≡ true) ×
        LeavesProgram device (over_all planted part stops h.heard h.held (opened part prog device))
    shut = replays_close planted part stops prog device h.heard h.held full fit

    quiet : end.sent ≡ s.sent
    quiet = ap (λ (x : Debugger). x.sent) h.is_end ∙ ends_quietly planted part stops h.held s.mode s

    first : (all : Debugger) → IsReplay planted part stops prog device bytes all → Grows end.sent all.sent
    first all k =
        let place : bytes ≡ h.taken ++ h.left = h.split in
        let longer : Cuts bytes items (h.held ++ h.left) =
        subst (λ (t : List ℕ). Cuts t items (h.held ++ h.left)) (sym place) (Cuts-more h.taken h.left h.held items h.cuts) in
        let more = has_cut (h.held ++ h.left) (Cuts-bytes bytes (h.held ++ h.left) items longer valid) in
        let heard = each_hearing more.0 in
        let same = same_cut bytes more.1 k.rest (items ++ more.0) k.items
        (record { cuts = Cuts-append bytes (h.held ++ h.left) more.1 items more.0 longer more.2.cuts; partial = more.2.partial }) k.cut in
        let all_heard : h.heard ++ heard.0 ≡ k.heard =
        one_hearing_all k.items (h.heard ++ heard.0) k.heard
        (subst (λ (t : List Item). HearsAll t (h.heard ++ heard.0)) same.0 (HearsAll-append items more.0 h.heard heard.0 h.hears heard.1))
        k.hears in
        let grows = line_grows planted part stops k.rest h.heard heard.0 (opened part prog device) in
        let at_end : over_all planted part stops (h.heard ++ heard.0) k.rest (opened part prog device) ≡ all =
        ap (λ (t : List Heard). over_all planted part stops t k.rest (opened part prog device)) all_heard ∙ sym k.is_end in
        subst (λ (f : List Frame). Grows f all.sent) (sym quiet) (subst (λ (x : Debugger). Grows s.sent x.sent) at_end grows)
