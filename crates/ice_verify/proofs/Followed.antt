-- A line is true or not, and the verifier stands behind it.
use Rattle.std.proofs.Common.{◌≡◌, ℕ, ◌+◌, ◌%◌, ◌^◌, ◌<◌, ◌≤◌, ◌⊎◌, inl, inr, Bool, true, false, not, List, [], ◌++◌, length, take}
use Rattle.std.proofs.Common.{drop, Option, Some, None, refl, sym, ap, ◌∙◌, subst, arith, append-nil, append_assoc}
use Rattle.std.proofs.lemmas.List.{take-append-drop}
use Rattle.part_spec.specs.declared.part.Part.{Part}
use Rattle.part_spec.specs.Chip.{chip_of}
use Rattle.line_spec.specs.Frames.{IsPartial}
use Rattle.ice_recv.specs.Received.{Received}
use Rattle.ice_recv.specs.Receiving.{Waits, risen}
use Rattle.debug_spec.specs.Debugger.{Debugger, listens, dropping}
use Rattle.debug_spec.specs.Commands.{item}
use Rattle.debug_spec.specs.Replay.{bytes_sent}
use Rattle.debug_spec.specs.Schedule.{Session}
use Rattle.debug_spec.specs.Take.{goes_on, FrameWaits, TakesFrame, TakesNone, launched_then}
use Rattle.debug_spec.proofs.TakeLemmas.{none_waits, waits-more}
use Rattle.record_spec.specs.Lines.{Line, event, out, comes, waits}
use Rattle.record_spec.specs.Fits.{Point, is_placed}
use Rattle.ice_answer.specs.Feeding.{Feeds}
use Rattle.ice_answer.specs.Kept.{ToolState, kept_tool, prepared_number}
use Rattle.ice_answer.specs.Does.{IsAt}
use Rattle.ice_verify.specs.Standing.{at_of}
use Rattle.ice_verify.specs.Checking.{Stands, TakesWaiting, IsFollowed, owed_by}
use Rattle.ice_verify.specs.declared.verifier.Verifier.{Verifier}
use Rattle.ice_verify.proofs.TakesBytes.{behind_by, frame_is_taken}
use Rattle.ice_verify.proofs.Following.{by_true_back, keeps_back, listens_on, StandsSo, came, end_session, stands_then, sent_then, frame_waits}

no_way : false ≡ true → ⊥
no_way h = cc

no_other : true ≡ false → ⊥
no_other h = cc

-- what is owed where nothing is
pub nothing_owed : (owed : Option (List ℕ)) (owes : Bool) (sent : List ℕ) → owed ≡ owed_by owes sent → owes ≡ false → owed ≡ None
nothing_owed owed owes sent e f = e ∙ ap (λ (b : Bool). owed_by b sent) f

owing : (part : Part) (v : Verifier) (s : Session) (steps : ℕ) → StandsSo part v s →
    Stands part (record v { owes = true }) (record { session = s; owed = Some v.sent.items; steps = steps })
owing part v s steps so = record {
  tool = so.tool;
  core = so.core;
  comparators = so.comparators;
  held = so.held;
  good = so.good;
  owed = refl;
}

held_of : (part : Part) (v : Verifier) (at_ : Point) → Stands part v at_ → listens v.plain.tool.mode ≡ true → at_.session.held ≡ v.receiver.held
held_of part v at_ st on = keeps_back (goes_on at_.session.state.mode) v.receiver.held at_.session.held
    (listens_on at_.session.state.mode (ap (λ (k : ToolState). listens k.mode) (sym st.tool) ∙ on)) st.held

-- bytes came in, and the last of them made a frame whole or none did
pub came_so : (v0 v1 v2 : Verifier) (bytes : List ℕ) (used : ℕ) → v0.owes ≡ false → listens v0.plain.tool.mode ≡ true → length bytes ≤ used →
    Feeds v0.receiver bytes used v1.receiver → v0.receiver.dropped < 2 ^ 64 →
    v1.plain.tool ≡ record v0.plain.tool { dropped = (v0.plain.tool.dropped + risen v0.receiver.dropped v1.receiver.dropped) % 2 ^ 64 } →
    (v1.plain.core ≡ v0.plain.core) × (v1.plain.comparators ≡ v0.plain.comparators) → v1.sent.items ≡ [] →
    prepared_number v2.plain.tool.mode ≡ None → TakesWaiting v1 v2 → IsFollowed (event (comes bytes)) v0 true (record v2 { owes = true })
came_so v0 v1 v2 bytes used owes on all feeds range tool rest none calm takes = (
  λ yes part at_ st.
      let full : used ≡ length bytes = omega (arith, all, feeds.most) in
      let r = came part v0 v1 v2 at_ bytes st on (subst (λ (k : ℕ). Feeds v0.receiver bytes k v1.receiver) full feeds) range tool rest none calm takes in
      let to : Point = record { session = launched_then r.0; owed = Some v2.sent.items; steps = at_.steps + 0 } in (
        to,
        (
          nothing_owed at_.owed v0.owes v0.sent.items st.owed owes,
          v2.sent.items,
          launched_then r.0,
          record { happens = (ap (λ (k : ToolState). listens k.mode) (sym st.tool) ∙ on, r.0, r.1, refl); sends = r.3 },
          refl,
        ),
        owing part v2 (launched_then r.0) (at_.steps + 0) r.2,
      ),
  λ no. absurd (no_other no),
)

-- a front of the bytes made a frame whole
pub came_late : (v0 v : Verifier) (middle : Received) (bytes : List ℕ) (used : ℕ) → listens v0.plain.tool.mode ≡ true → used < length bytes →
    Feeds v0.receiver bytes used middle → IsFollowed (event (comes bytes)) v0 false v
came_late v0 v middle bytes used on less feeds = (
  λ no. absurd (no_way no),
  λ yes part at_ st to h.
      let e = held_of part v0 at_ st on in
      let x = at_.session.held ++ take used bytes in
      let waits : FrameWaits x = subst (λ (y : List ℕ). FrameWaits (y ++ take used bytes)) (sym e)
      (frame_waits (v0.receiver.held ++ take used bytes) middle.held feeds.drops.items feeds.drops.only feeds.drops.cuts (feeds.all less)) in
      let all : x ++ drop used bytes ≡ at_.session.held ++ bytes = append_assoc at_.session.held (take used bytes) (drop used bytes) ∙
      ap (λ (t : List ℕ). at_.session.held ++ t) (take-append-drop used bytes) in
      by_take part at_.session h.3.happens.1 used less waits (subst FrameWaits all (waits-more x (drop used bytes) waits))
      (by_true_back (listens at_.session.state.mode)
      (TakesFrame false (chip_of part) bytes at_.session h.3.happens.1 ⊎ TakesNone bytes [] at_.session h.3.happens.1)
      (([] ≡ []) × (h.3.happens.1 ≡ at_.session)) h.3.happens.0 h.3.happens.2),
)
  where
    by_take : (part : Part) (s taken : Session) (k : ℕ) → k < length bytes → FrameWaits (s.held ++ take k bytes) → FrameWaits (s.held ++ bytes) →
        TakesFrame false (chip_of part) bytes s taken ⊎ TakesNone bytes [] s taken → ⊥
    by_take part s taken k less w more (inl t) = t.no_sooner k less w
    by_take part s taken k less w more (inr t) =
        none_waits (s.held ++ bytes) taken.held more.2 t.ahead more.0 more.1 t.cuts t.partial more.3

-- a frame waited and was heard
pub waited_so : (v0 v2 : Verifier) → v0.owes ≡ false → listens v0.plain.tool.mode ≡ true → v0.sent.items ≡ [] → Waits v0.receiver.held →
    prepared_number v2.plain.tool.mode ≡ None → TakesWaiting v0 v2 → IsFollowed (event waits) v0 true (record v2 { owes = true })
unfolding end_session
waited_so v0 v2 owes on none w calm (inl n) = absurd (n.0 w)
waited_so v0 v2 owes on none w calm (inr f) = (
  λ yes part at_ st.
      let s = at_.session in
      let u : Debugger = dropping 0 s.state in
      let e = held_of part v0 at_ st on in
      let still : s.state.dropped ≡ s.state.dropped + 0 = omega arith in
      let here : IsAt part (bytes_sent s.state) (at_of v0.plain v0.sent.items) u = record {
        tool = st.tool ∙ ap (λ (k : ℕ). record (kept_tool part s.state) { dropped = k % 2 ^ 64 }) still;
        core = st.core;
        comparators = st.comparators;
        sent = sym (append-nil (bytes_sent s.state)) ∙ ap (λ (t : List ℕ). bytes_sent s.state ++ t) (sym none);
      } in
      let x = item false (chip_of part) f.heard u in
      let taken = behind_by (goes_on x.mode) v2.receiver.held (length f.takes.2.items) x in
      let so = stands_then part v0 v2 u (bytes_sent s.state) f here st.good calm in (
        record { session = launched_then taken; owed = Some v2.sent.items; steps = at_.steps + 0 },
        (
          nothing_owed at_.owed v0.owes v0.sent.items st.owed owes,
          v2.sent.items,
          launched_then taken,
          record {
            happens = (
              ap (λ (k : ToolState). listens k.mode) (sym st.tool) ∙ on,
              taken,
              frame_is_taken (chip_of part) [] s v0.receiver v2.receiver f.frame f.heard [] tt (append-nil s.held ∙ e)
                  (λ k less. absurd (omega (arith, less))) f.takes f.hears,
              refl,
            );
            sends = sent_then part v0 v2 u (bytes_sent s.state) f here st.good calm;
          },
          refl,
        ),
        owing part v2 (launched_then taken) (at_.steps + 0) so,
      ),
  λ no. absurd (no_other no),
)

-- none waited
pub none_waited : (v0 v : Verifier) → listens v0.plain.tool.mode ≡ true → IsPartial v0.receiver.held → IsFollowed (event waits) v0 false v
none_waited v0 v on partial = (
  λ no. absurd (no_way no),
  λ yes part at_ st to h.
      let e = held_of part v0 at_ st on in
      let t = h.3.happens.2 in
      let x : List ℕ = at_.session.held ++ [] in
      let is : x ≡ v0.receiver.held = append-nil at_.session.held ∙ e in
      none_waits x v0.receiver.held t.behind [] t.ahead t.frame is partial t.cuts,
)

-- the debugger does not listen
pub not_heard : (v0 v : Verifier) (bytes : List ℕ) → listens v0.plain.tool.mode ≡ false →
    IsFollowed (event (comes bytes)) v0 false v × IsFollowed (event waits) v0 false v
not_heard v0 v bytes off = (
  (λ no. absurd (no_way no), λ yes part at_ st to h. no_way (sym off ∙ ap (λ (k : ToolState). listens k.mode) st.tool ∙ h.3.happens.0)),
  (λ no. absurd (no_way no), λ yes part at_ st to h. no_way (sym off ∙ ap (λ (k : ToolState). listens k.mode) st.tool ∙ h.3.happens.0)),
)

-- an event stands where nothing is owed, and what was sent where something is
pub placed_event : (owes : Bool) (sent : List ℕ) (line : Line) (what : _) → line ≡ event what → is_placed (owed_by owes sent) line ≡ true → owes ≡ false
placed_event true sent line what is h = absurd (no_way (ap (λ (l : Line). is_placed (Some sent) l) (sym is) ∙ h))
placed_event false sent line what is h = refl

pub placed_out : (owes : Bool) (sent : List ℕ) (line : Line) (bytes : List ℕ) → line ≡ out bytes → is_placed (owed_by owes sent) line ≡ true → owes ≡ true
placed_out true sent line bytes is h = refl
placed_out false sent line bytes is h = absurd (no_way (ap (λ (l : Line). is_placed None l) (sym is) ∙ h))

-- whether a line stands in its place
pub event_placed : (owes : Bool) (sent : List ℕ) (line : Line) (what : _) → line ≡ event what → not owes ≡ is_placed (owed_by owes sent) line
event_placed true sent line what is = ap (λ (l : Line). is_placed (Some sent) l) (sym is)
event_placed false sent line what is = ap (λ (l : Line). is_placed None l) (sym is)

pub out_placed : (owes : Bool) (sent : List ℕ) (line : Line) (bytes : List ℕ) → line ≡ out bytes → owes ≡ is_placed (owed_by owes sent) line
out_placed true sent line bytes is = ap (λ (l : Line). is_placed (Some sent) l) (sym is)
out_placed false sent line bytes is = ap (λ (l : Line). is_placed None l) (sym is)

-- a line in other words
pub followed_as : (line other : Line) (v : Verifier) (result : Bool) (w : Verifier) → line ≡ other → IsFollowed line v result w →
    IsFollowed other v result w
followed_as line other v result w same h = subst (λ (l : Line). IsFollowed l v result w) same h
