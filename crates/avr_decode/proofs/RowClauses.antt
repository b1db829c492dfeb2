-- What a decoded instruction has to do with the rows of the instruction table.
use Rattle.std.proofs.Common.{◌≡◌, ℕ, Bool, true, false, Option, Some, ◌⊎◌, inl, inr, ◌↔◌, slice_get, map, refl, sym, ap, ◌∙◌, subst}
use Rattle.avr_spec.specs.declared.instruction.Instr.{Instr}
use Rattle.avr_spec.specs.declared.instruction.Instr.TheVariants.{Undefined}
use Rattle.avr_spec.specs.Table.{Row, table}
use Rattle.avr_spec.specs.Decode.{bits, fits, field_of, decode}
use Rattle.avr_spec.specs.Laws.{HasRow, HasNone, has_row}
use Rattle.avr_spec.proofs.RowLemmas.{each_word_decodes, rows_exclude, map_at}
use Rattle.avr_decode.specs.Rows.{IsSaidByRows, HasNoRow}

row_fits_here : (first index : ℕ) (row : Row) → slice_get table index ≡ Some row → fits row.letters (bits first) ≡ true →
    has_row (slice_get table index) (bits first) ≡ true
row_fits_here first index row there fit = ap (λ (o : Option Row). has_row o (bits first)) there ∙ fit

pub said_by_rows : (first second : ℕ) → IsSaidByRows first second (decode first second)
unfolding IsSaidByRows
said_by_rows first second index row there fit = by_row (each_word_decodes first)
  where
    by_row : HasRow first ⊎ HasNone first → decode first second ≡ row.instr (field_of row.letters first) second
    by_row (inl h) =
        let place : h.index ≡ index =
        rows_exclude first h.index index (row_fits_here first h.index h.row h.there h.fixed) (row_fits_here first index row there fit) in
        let mine : slice_get table index ≡ Some h.row = subst (λ (i : ℕ). slice_get table i ≡ Some h.row) place h.there in
        let same : h.row ≡ row = cc in
        h.says second ∙ ap (λ (r : Row). r.instr (field_of r.letters first) second) same
    by_row (inr h) =
        let yes : has_row (slice_get table index) (bits first) ≡ true = row_fits_here first index row there fit in
        let no_one : has_row (slice_get table index) (bits first) ≡ false = h.none index in
        cc

-- an instruction of a row
abbrev is_defined : Instr → Bool
is_defined (Undefined w) = false
is_defined _ = true

rows_are_defined : (fields : ℕ → ℕ) (second : ℕ) → map (λ row. is_defined (row.instr fields second)) table ≡ map (λ (row : Row). true) table
rows_are_defined fields second = refl

pub undefined_without_row : (first second : ℕ) → (decode first second ≡ Undefined first) ↔ HasNoRow first
unfolding HasNoRow
undefined_without_row first second = (to (each_word_decodes first), from (each_word_decodes first))
  where
    to : HasRow first ⊎ HasNone first → decode first second ≡ Undefined first → HasNoRow first
    to (inl h) e =
        let yes : is_defined (h.row.instr (field_of h.row.letters first) second) ≡ true =
        map_at (λ row. is_defined (row.instr (field_of h.row.letters first) second)) (λ row. true) table h.index h.row
        (rows_are_defined (field_of h.row.letters first) second) h.there in
        let same : h.row.instr (field_of h.row.letters first) second ≡ Undefined first = sym (h.says second) ∙ e in
        let none : is_defined (h.row.instr (field_of h.row.letters first) second) ≡ false = ap is_defined same in
        absurd (differ (sym yes ∙ none))
      where
        differ : true ≡ false → ⊥
        differ e = cc
    to (inr h) e = h.none

    from : HasRow first ⊎ HasNone first → HasNoRow first → decode first second ≡ Undefined first
    from (inl h) none =
        let yes : has_row (slice_get table h.index) (bits first) ≡ true = row_fits_here first h.index h.row h.there h.fixed in
        let not : has_row (slice_get table h.index) (bits first) ≡ false = none h.index in
        cc
    from (inr h) none = h.undefined second
