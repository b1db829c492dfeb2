use Rattle.std.proofs.Common.{ℕ, bit_and, bit_or, ap, ◌∙◌, arith}
use Rattle.avr_alu.proofs.StatusTables.{zero_narrows}
use Rattle.avr_alu.specs.Carries.{carry_bits, decided_by}
use Rattle.avr_alu.proofs.status.with_carries_of_more.Goals as goal

pub returns : goal.returns
returns c =
    ap (λ (n : ℕ). bit_and n (bit_or c.args.sreg 253)) c.with_carries.ensures ∙
    zero_narrows c.args.sreg (omega arith) (decided_by c.args.value (carry_bits c.args.carried))
