-- From agreement with the rows over a block of first words, which is computed, to agreement with the instruction table.
use Rattle.std.proofs.Common.{◌≡◌, ℕ, ◌+◌, ◌<◌, ◌≤◌, Bool, true, false, List, Option, Some, None, refl, sym, ap, ◌∙◌}
use Rattle.avr_spec.specs.declared.instruction.Instr.{Instr}
use Rattle.avr_spec.specs.Table.{Row, table}
use Rattle.avr_spec.specs.Decode.{bits, fits, find_row, instr_of, decode}
use Rattle.avr_spec.proofs.Computing.{tabulate, block_at}
use Rattle.avr_spec.proofs.RowLemmas.{narrowed, find_row-narrowed, decode-is}

-- what these rows make of a first word with these leading letters
abbrev pub by_rows : List Row → List ℕ → ℕ → ℕ → Option Instr
by_rows rows leading second first =
    elim (fits leading (bits first)) [ true ↦ Some (instr_of (find_row rows (bits first)) first second) | false ↦ None ]

-- a choice of instructions agrees with the rows at the n first words from `from` on, which have these leading letters
abbrev pub Agrees : List ℕ → (ℕ → ℕ → Instr) → ℕ → ℕ → ℕ → Type 0
Agrees leading choice second from n =
    tabulate (by_rows (narrowed leading table) leading second) from n ≡ tabulate (λ first. Some (choice first second)) from n

pub decodes_in : (leading : List ℕ) (choice : ℕ → ℕ → Instr) (second from n : ℕ) → Agrees leading choice second from n →
    (first : ℕ) → from ≤ first → first < from + n → choice first second ≡ decode first second
decodes_in leading choice second from n e first low high =
    told (fits leading (bits first)) refl (block_at (by_rows (narrowed leading table) leading second) (λ w. Some (choice w second)) from n e first low high)
  where
    told : (b : Bool) → fits leading (bits first) ≡ b →
        (elim b [ true ↦ Some (instr_of (find_row (narrowed leading table) (bits first)) first second) | false ↦ None ]) ≡ Some (choice first second) →
        choice first second ≡ decode first second
    told true led same =
        let here : instr_of (find_row (narrowed leading table) (bits first)) first second ≡ choice first second = cc in
        sym here ∙
        ap (λ (o : Option Row). instr_of o first second) (sym (find_row-narrowed leading (bits first) led table)) ∙
        sym (decode-is first second)
    told false led same = cc
