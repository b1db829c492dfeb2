-- An instruction of two words is known by its first word but for what the second adds.
use Rattle.std.proofs.Common.{◌≡◌, ℕ, ◌+◌, ◌*◌, map, ◌⊎◌, inl, inr, sym, ap, ◌∙◌, arith}
use Rattle.avr_spec.specs.declared.instruction.Instr.{Instr}
use Rattle.avr_spec.specs.declared.instruction.Instr.TheVariants.{Lds, Sts, Jmp, Call}
use Rattle.avr_spec.specs.Table.{table}
use Rattle.avr_spec.specs.Decode.{decode, field_of}
use Rattle.avr_spec.specs.Laws.{HasRow, HasNone}
use Rattle.avr_spec.proofs.RowLemmas.{each_word_decodes, map_at}

-- an instruction decoded with 0 as its second word, once that word is known
abbrev pub completed : Instr → ℕ → Instr
completed (Lds d address) second = Lds d second
completed (Sts r address) second = Sts r second
completed (Jmp k) second = Jmp (k + second)
completed (Call k) second = Call (k + second)
completed instr second = instr

-- the letter of an address's bits in a row
abbrev letter_k : ℕ
letter_k = 107

-- an instruction with this number as its jump's or call's address
abbrev with_address : ℕ → Instr → Instr
with_address n (Jmp k) = Jmp n
with_address n (Call k) = Call n
with_address n instr = instr

rows_completed : (fields : ℕ → ℕ) (second : ℕ) →
    map (λ row. row.instr fields second) table ≡ map (λ row. completed (row.instr fields 0) second) table
rows_completed fields second =
    let k = fields letter_k * 65536 in
    let same : k + second ≡ k + 0 + second = omega arith in
    ap (λ (n : ℕ). map (λ row. with_address n (row.instr fields second)) table) same

pub decode-completed : (first second : ℕ) → decode first second ≡ completed (decode first 0) second
decode-completed first second = by_row (each_word_decodes first)
  where
    by_row : HasRow first ⊎ HasNone first → decode first second ≡ completed (decode first 0) second
    by_row (inl h) =
        let fields = field_of h.row.letters first in
        h.says second ∙
        map_at (λ row. row.instr fields second) (λ row. completed (row.instr fields 0) second)
        table h.index h.row (rows_completed fields second) h.there ∙
        sym (ap (λ (i : Instr). completed i second) (h.says 0))
    by_row (inr h) = h.undefined second ∙ sym (ap (λ (i : Instr). completed i second) (h.undefined 0))
