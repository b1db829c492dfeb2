use Rattle.std.proofs.Common.{◌≡◌, true, false, refl, ℕ, ◌<◌, ◌≤◌, List, [], ◌∷◌, ◌++◌, sym, subst, ap, ◌∙◌, length, length-append, eqb-true, arith}
use Rattle.line_spec.specs.Frames.{IsBytes, IsPartial}
use Rattle.line_spec.proofs.Bytes.{IsBytes-along, IsBytes-append, IsBytes-cons, IsBytes-drop, IsBytes-nil}
use Rattle.line_spec.proofs.Cuts.{IsPartial-length}
use Rattle.ice_recv.specs.Received.{Received}
use Rattle.ice_recv.proofs.Founds.{byte_told, stands_none, told_junk, told_more, told_partial, told_whole}
use Rattle.ice_recv.proofs.Markings.{AreMarks-byte, AreMarks-dropped}
use Rattle.ice_recv.proofs.Settlings.{TakesByte-along, TakesByte-first, TakesByte-kept, TakesByte-junk}
use Rattle.ice_recv.proofs.receiver.Receiver.take_byte.Goals as goal

partial_inside : (held now : List ℕ) → held ≡ now → IsPartial now → IsPartial held
partial_inside held now e p = let P : List ℕ → Type 0 = λ t. IsPartial t in subst P (sym e) p

one_more_fits : (held now : List ℕ) (b : ℕ) → IsPartial held → now ≡ held ++ b ∷ [] → length now ≤ 4116
one_more_fits held now b p e = omega (arith, IsPartial-length held p, ap length e, length-append held (b ∷ []))

one_more_byte : (held now : List ℕ) (b : ℕ) → b < 256 → now ≡ held ++ b ∷ [] → IsBytes held → IsBytes now
one_more_byte held now b h e bytes = IsBytes-along _ _ (sym e) (IsBytes-append held (b ∷ []) bytes (IsBytes-cons b [] h IsBytes-nil))

pub byte-answer-requires-clause-going : goal.byte-answer-requires-clause-going
byte-answer-requires-clause-going c =
    let partial = partial_inside _ _ (ap (λ (r : Received). r.held) c.self.view_is) c.requires.partial in
    (c.self.inside.held.items, (stands_none _ _ _ c.self.invariant.stands partial).1, partial)

pub push-requires : goal.push-requires
push-requires c =
    omega (arith, IsPartial-length _ c.requires.partial, ap (λ (r : Received). length r.held) c.self.view_is, c.self.invariant.room)

pub returns-then-not-may_begin : goal.returns-then-not-may_begin
returns-then-not-may_begin c =
    let view = c.self.view_is in
    let partial = partial_inside _ _ (ap (λ (r : Received). r.held) view) c.requires.partial in
    TakesByte-along _ _ _ _ _ _ _ _ (ap (λ (r : Received). r.held ++ c.args.byte ∷ []) view) (ap (λ (r : Received). r.dropped) view)
    (TakesByte-first c.self.inside.held.items c.args.byte c.self.inside.dropped _ _
    (eqb-true _ _ (sym c.is_empty.ensures ∙ c.if-is_empty.true)) (c.may_begin.ensures.junk c.if-not-may_begin.true) partial
    (omega (arith, c.self.ranges)) refl refl)

pub invariant_of-self-in-More : goal.invariant_of-self-in-More
invariant_of-self-in-More c =
    let partial = partial_inside _ _ (ap (λ (r : Received). r.held) c.self.view_is) c.requires.partial in
    let told = byte_told _ _ _ _ _ _ _ c.self.invariant.stands partial c.byte-answer.ensures.stands c.push.ensures.items in
    record {
      stands = told_more _ _ _ _ _ _ c.self.invariant.stands partial told c.in-More.is;
      fits = one_more_fits _ _ c.args.byte partial c.push.ensures.items;
      room = c.push.ensures.capacity ∙ c.self.invariant.room;
      bytes = one_more_byte _ _ c.args.byte (omega (arith, c.ranges.byte)) c.push.ensures.items c.self.invariant.bytes;
      marks = AreMarks-byte _ _ _ c.args.byte c.push.ensures.items c.self.invariant.marks;
      marks_room = c.self.invariant.marks_room;
    }

pub returns-in-More : goal.returns-in-More
returns-in-More c =
    let view = c.self.view_is in
    let partial = partial_inside _ _ (ap (λ (r : Received). r.held) view) c.requires.partial in
    let told = byte_told _ _ _ _ _ _ _ c.self.invariant.stands partial c.byte-answer.ensures.stands c.push.ensures.items in
    let now = c.push.ensures.items ∙ ap (λ (r : Received). r.held ++ c.args.byte ∷ []) view in
    TakesByte-along _ _ _ _ _ _ _ _ now (ap (λ (r : Received). r.dropped) view)
    (TakesByte-kept _ _ _ _ _ false refl refl (omega (arith, c.self.ranges)) (told_partial _ _ told.1 c.in-More.is) c.byte-answer.ensures.look)

pub invariant_of-self-in-Whole : goal.invariant_of-self-in-Whole
invariant_of-self-in-Whole c =
    let partial = partial_inside _ _ (ap (λ (r : Received). r.held) c.self.view_is) c.requires.partial in
    let told = byte_told _ _ _ _ _ _ _ c.self.invariant.stands partial c.byte-answer.ensures.stands c.push.ensures.items in
    record {
      stands = told_whole _ _ _ told.1 c.in-Whole.is c.len.ensures.len;
      fits = one_more_fits _ _ c.args.byte partial c.push.ensures.items;
      room = c.push.ensures.capacity ∙ c.self.invariant.room;
      bytes = one_more_byte _ _ c.args.byte (omega (arith, c.ranges.byte)) c.push.ensures.items c.self.invariant.bytes;
      marks = AreMarks-byte _ _ _ c.args.byte c.push.ensures.items c.self.invariant.marks;
      marks_room = c.self.invariant.marks_room;
    }

pub returns-in-Whole : goal.returns-in-Whole
returns-in-Whole c =
    let view = c.self.view_is in
    let partial = partial_inside _ _ (ap (λ (r : Received). r.held) view) c.requires.partial in
    let told = byte_told _ _ _ _ _ _ _ c.self.invariant.stands partial c.byte-answer.ensures.stands c.push.ensures.items in
    let now = c.push.ensures.items ∙ ap (λ (r : Received). r.held ++ c.args.byte ∷ []) view in
    let stands = told_whole _ _ _ told.1 c.in-Whole.is c.len.ensures.len in
    TakesByte-along _ _ _ _ _ _ _ _ now (ap (λ (r : Received). r.dropped) view)
    (TakesByte-kept _ _ _ _ _ true refl refl (omega (arith, c.self.ranges)) (stands.0, _, stands.1) c.byte-answer.ensures.look)

pub returns : goal.returns
returns c =
    let view = c.self.view_is in
    let partial = partial_inside _ _ (ap (λ (r : Received). r.held) view) c.requires.partial in
    let told = byte_told _ _ _ _ _ _ _ c.self.invariant.stands partial c.byte-answer.ensures.stands c.push.ensures.items in
    let now = c.push.ensures.items ∙ ap (λ (r : Received). r.held ++ c.args.byte ∷ []) view in
    TakesByte-along _ _ _ _ _ _ _ _ now (ap (λ (r : Received). r.dropped) view)
    (TakesByte-junk _ _ _ (record { held = c.drop_first.new.held.items; dropped = c.drop_first.new.dropped }) _ _ _ _ _ _
    (told_junk _ _ told.1 c.in-Junk.is) (omega (arith, c.self.ranges)) c.drop_first.ensures.items c.drop_first.ensures.counts
    c.byte-answer.ensures.look c.settle-self-inside.ensures.front c.is_some.ensures)

pub settle-self-inside-requires-clause-marks : goal.settle-self-inside-requires-clause-marks
settle-self-inside-requires-clause-marks c =
    AreMarks-dropped _ _ _ _ 1 c.drop_first.ensures.marks c.drop_first.ensures.items
    (omega (arith, ap length c.push.ensures.items, length-append c.self.inside.held.items (c.args.byte ∷ [])))
    (AreMarks-byte _ _ _ c.args.byte c.push.ensures.items c.self.invariant.marks)

pub settle-self-inside-requires-clause-bytes : goal.settle-self-inside-requires-clause-bytes
settle-self-inside-requires-clause-bytes c =
    IsBytes-along _ _ (sym c.drop_first.ensures.items)
    (IsBytes-drop 1 _ (one_more_byte _ _ c.args.byte (omega (arith, c.ranges.byte)) c.push.ensures.items c.self.invariant.bytes))
