use Rattle.std.proofs.Common.{◌≡◌, ◌+◌, ◌-◌, ◌++◌, List, ℕ, ◌∷◌, [], ap, ap₂, get_or, subst, sym, ◌∙◌, length, length-append, eqb-true, arith}
use Rattle.std.proofs.lemmas.Bool.{eqb-false}
use Rattle.line_spec.specs.Check.{checked}
use Rattle.circular_buffer.specs.Buffer.{Buffer}
use Rattle.ice_recv.specs.Marks.{AreMarks}
use Rattle.ice_recv.proofs.Markings.{AreMarks-first, AreMarks-more}
use Rattle.ice_recv.proofs.marks.mark_all.Goals as goal
use Rattle.ice_recv.proofs.marks.mark_all.Goals.{then-is_empty, else-is_empty}

pub places-init : goal.places-init
places-init c =
    let P : List ℕ → Type 0 = λ t. AreMarks t c.args.held.now.items in
    elim c.if-is_empty.branch [
      | then-is_empty w ↦ (let items : c.if-is_empty.marks.items ≡ c.args.marks.now.items ++ 0xFFFF ∷ [] =
          ap (λ (b : Buffer ℕ). b.items) w.marks-is ∙ w.push_mark.ensures.items in
          record {
            marks = subst P (sym items) (AreMarks-first c.args.marks.now.items _
                (eqb-true _ _ (sym c.is_empty.ensures ∙ w.if-is_empty.true)));
            some = omega (arith, ap length items, length-append c.args.marks.now.items (0xFFFF ∷ []));
            capacity = ap (λ (b : Buffer ℕ). b.capacity) w.marks-is ∙ w.push_mark.ensures.capacity;
          })
      | else-is_empty w ↦ (let items : c.if-is_empty.marks.items ≡ c.args.marks.now.items = ap (λ (b : Buffer ℕ). b.items) w.marks-is in
          record {
            marks = subst P (sym items) c.requires.marks;
            some = omega (arith, ap length items, eqb-false _ _ (sym c.is_empty.ensures ∙ w.if-is_empty.false));
            capacity = ap (λ (b : Buffer ℕ). b.capacity) w.marks-is;
          })
    ]

pub places-preserved : goal.places-preserved
places-preserved c =
    let marks : List ℕ = c.places.marks.items in
    let place : ℕ = length marks - 1 in
    let one : length marks ≡ place + 1 = omega (arith, c.places.invariant.some) in
    let here : c.len-place.result - 1 ≡ place = omega (arith, c.len-place.ensures.len) in
    let P : List ℕ → Type 0 = λ t. AreMarks t c.args.held.now.items in
    record {
      marks = subst P (sym c.push_mark-in-places.ensures.items) (AreMarks-more marks c.args.held.now.items place c.crc_with-next.result
          c.places.invariant.marks one (omega (arith, one, c.len.ensures.len, c.len-in-places.ensures.len, c.places-test.true))
          (c.crc_with-next.ensures ∙ ap₂ (λ (k b : ℕ). checked k b) (c.mark_at.ensures ∙ ap (λ (k : ℕ). get_or marks k 0) here)
          (c.byte_at.ensures ∙ ap (λ (k : ℕ). get_or c.args.held.now.items k 0) here)));
      some = omega (arith, ap length c.push_mark-in-places.ensures.items, length-append marks (c.crc_with-next.result ∷ []));
      capacity = c.push_mark-in-places.ensures.capacity ∙ c.places.invariant.capacity;
    }
