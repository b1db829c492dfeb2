use Rattle.std.proofs.Common.{◌≡◌, ◌∙◌, sym, subst, arith, ◌<◌}
use Rattle.avr_spec.specs.Decode as spec
use Rattle.avr_spec.specs.Fields.{FieldsFit}
use Rattle.avr_spec.specs.declared.instruction.Instr.{Instr}
use Rattle.avr_spec.specs.declared.instruction.Instr.TheVariants.{Undefined}
use Rattle.avr_spec.proofs.FieldLemmas.{decoded_fields_fit}
use Rattle.avr_decode.specs.Rows.{IsSaidByRows, HasNoRow}
use Rattle.std.specs.Prelude.{◌↔◌}
use Rattle.avr_decode.proofs.Decoded.{by_six_bits-decode}
use Rattle.avr_decode.proofs.RowClauses.{said_by_rows, undefined_without_row}
use Rattle.avr_decode.proofs.decoder.decode.Goals as goal

-- what the tests found is what the table says
decoded : (c : goal.After-by_six_bits) → spec.decode c.args.first c.args.second ≡ c.by_six_bits.result
decoded c =
    let word : c.args.first < 65536 = omega arith in
    sym (c.by_six_bits.ensures ∙ by_six_bits-decode c.args.first c.args.second word)

pub returns-clause-value : goal.returns-clause-value
returns-clause-value c = sym (decoded c)

pub returns-clause-row : goal.returns-clause-row
returns-clause-row c = subst (λ (i : Instr). IsSaidByRows c.args.first c.args.second i) (decoded c) (said_by_rows c.args.first c.args.second)

pub returns-clause-undefined : goal.returns-clause-undefined
returns-clause-undefined c =
    subst (λ (i : Instr). (i ≡ Undefined c.args.first) ↔ HasNoRow c.args.first) (decoded c) (undefined_without_row c.args.first c.args.second)

pub returns-clause-fields : goal.returns-clause-fields
returns-clause-fields c =
    let word : c.args.first < 65536 = omega arith in
    let behind : c.args.second < 65536 = omega arith in
    subst FieldsFit (decoded c) (decoded_fields_fit c.args.first c.args.second word behind)
