-- What comes of a line.
use Rattle.std.proofs.Common.{◌≡◌, ℕ, ◌≤◌, List, refl, sym, ap, ◌∙◌, subst}
use Rattle.std.specs.Prelude.{Option, Result, Ok, Err}
use Rattle.part_spec.specs.Chip.{Chip, words_of}
use Rattle.asm_spec.specs.declared.kind.AsmKind.{AsmKind}
use Rattle.asm_spec.specs.Reading.{Line, Order, nothing, origin, put, reading}
use Rattle.asm_spec.specs.Words.{Laid, with_label, with_order}
use Rattle.avr_asm.specs.declared.readings.Line.{Line as HeldLine}
use Rattle.avr_asm.specs.declared.sheet.Sheet.{Sheet}
use Rattle.avr_asm.specs.declared.sheet.Stop.{Stop}
use Rattle.avr_asm.specs.declared.sheet.Stop.TheVariants.{Wrong, Memory}
use Rattle.avr_asm.specs.Encodings.{FitsOrder}
use Rattle.avr_asm.specs.Orders.{capped_order, order_told}
use Rattle.avr_asm.specs.Readings.{capped_line, label_told, line_told}
use Rattle.avr_asm.specs.Sheets.{Follows, said_by}
use Rattle.avr_asm.proofs.Fitting.{said_fits}
use Rattle.avr_asm.proofs.Laying.{label_wrong, order_capped, order_next}

-- what is read of a line, as it is told
record IsRead (read : Result Line AsmKind) (held : HeldLine) : Type 0 where
  said : Line
  is : read ≡ Ok said
  label : said.label ≡ label_told held.label
  order : capped_order said.order ≡ order_told held.order

is_read : (read : Result Line AsmKind) (held : HeldLine) → line_told (Ok held) ≡ capped_line read → IsRead read held
is_read (Ok line) held same =
    let told : Line = record { label = label_told held.label; order = order_told held.order } in
    let capped : Line = record { label = line.label; order = capped_order line.order } in
    let e : told ≡ capped = cc in
    record { said = line; is = refl; label = sym (ap (λ (l : Line). l.label) e); order = sym (ap (λ (l : Line). l.order) e) }
is_read (Err kind) held same = absurd (cc)

fits_capped : (order : Order) → FitsOrder order → FitsOrder (capped_order order)
fits_capped nothing fits = fits
fits_capped (origin place) fits = fits
fits_capped (put item) fits = fits

module _ (part : Chip) (number : ℕ) (line : List ℕ) (laid : Laid) (held : HeldLine) (same : line_told (Ok held) ≡ capped_line (reading part line)) where
  pub follows_order : (result : Result (Unit {0}) Stop) (sheet : Sheet) (named : Laid) → with_label (label_told held.label) laid ≡ Ok named →
      words_of part ≤ 16384 →
      (FitsOrder (order_told held.order) → Follows part result sheet (with_order part number (order_told held.order) named)) →
      Follows part result sheet (said_by part number line laid)
  follows_order result sheet named label small follows =
      let read = is_read (reading part line) held same in
      let fits : FitsOrder (order_told held.order) =
      subst FitsOrder read.order (fits_capped read.said.order (said_fits part line read.said read.is)) in
      subst (λ (r : Result Laid AsmKind). Follows part result sheet r)
      (ap (λ (o : Order). with_order part number o named) (sym read.order) ∙ order_capped part number read.said.order named small
      ∙ sym (order_next part number line laid named read.said read.is (ap (λ (l : Option (List ℕ)). with_label l laid) read.label ∙ label)))
      (follows fits)

  pub follows_label : (stop : Stop) (sheet : Sheet) → Follows part (Err stop) sheet (with_label (label_told held.label) laid) →
      Follows part (Err stop) sheet (said_by part number line laid)
  follows_label (Wrong kind) sheet wrong =
      let read = is_read (reading part line) held same in
      label_wrong part number line laid read.said kind read.is (ap (λ (l : Option (List ℕ)). with_label l laid) read.label ∙ wrong)
  follows_label Memory sheet wrong = tt
