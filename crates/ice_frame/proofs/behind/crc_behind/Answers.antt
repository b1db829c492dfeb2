use Rattle.std.proofs.Common.{◌≡◌, ◌+◌, ◌*◌, ◌/◌, ◌%◌, ℕ, length, bit_xor, sym, ap, ap₂, ◌∙◌, arith}
use Rattle.line_spec.specs.Check.{check}
use Rattle.ice_frame.specs.Zeros.{over_zeros}
use Rattle.ice_frame.proofs.Linear.{check_behind, over_zeros_sum}
use Rattle.ice_frame.proofs.behind.crc_behind.Goals as goal

pub returns : goal.returns
returns c = λ front bytes a b n.
    let r : ℕ = bit_xor c.args.ahead 0xFFFF in
    let all : c.args.count / 64 * 64 + c.args.count % 64 ≡ length bytes = omega (arith, n) in
    let zeros : c.after_zeros.result ≡ over_zeros (length bytes) (bit_xor (check front) 0xFFFF) =
    c.after_zeros.ensures ∙ ap (λ (k : ℕ). over_zeros (c.args.count % 64) k) c.after_blocks-blocks.ensures
    ∙ sym (over_zeros_sum (c.args.count / 64 * 64) (c.args.count % 64) r)
    ∙ ap₂ (λ (k m : ℕ). over_zeros k (bit_xor m 0xFFFF)) all a in
    ap₂ (λ (k m : ℕ). bit_xor k m) b zeros ∙ sym (check_behind front bytes)
