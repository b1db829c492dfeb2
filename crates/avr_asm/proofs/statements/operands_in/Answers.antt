use Rattle.std.proofs.Common.{rules, tests, eqb, ◌≡◌, ◌<◌, ◌≤◌, ℕ, List, [], ◌∷◌, ◌++◌, length, get_or, map, take, ap, ◌∙◌, subst, arith}
use Rattle.std.proofs.lemmas.Bool.Decides.{nat_tests}
use Rattle.std.proofs.lemmas.List.{length_push}
use Rattle.std.proofs.lemmas.Iterator.Splits.{YieldsList-from_slice_split}
use Rattle.std.proofs.lemmas.Iterator.Consumers.{YieldsList-turn, YieldsList-end}
use Rattle.asm_spec.specs.Tokens.{trimmed}
use Rattle.avr_asm.specs.Statements.{AreFew}
use Rattle.avr_asm.proofs.Commas.{pieces_more, pieces_all, pieces_of}
use Rattle.avr_asm.proofs.statements.operands_in.Goals as goal
use Rattle.avr_asm.proofs.statements.operands_in.Goals.{In-Some}

-- the piece is the next one of the bytes
turn : (c : In-Some) → (length c.pieces.yielded < length (pieces_of c.args.bytes.now))
    × (c.in-Some.piece.now ≡ get_or (pieces_of c.args.bytes.now) (length c.pieces.yielded) c.in-Some.piece.now)
turn c =
    YieldsList-turn (YieldsList-from_slice_split _ (λ byte. eqb byte 44) c.args.bytes.now (cc) (cc) (cc) (λ x b q k. search (rules, tests)))
    c.pieces.yielded _ c.pieces.yielded_by _ _ c.in-Some.piece c.in-Some.is c.next.ensures.steps

pub pieces-preserved : goal.pieces-preserved
pieces-preserved c =
    let next = turn (goal.at.pieces-preserved c).In-Some in
    let pushed = length_push c.pieces.yielded c.in-Some.piece in
    record {
      few = subst (λ (operands : List (List ℕ)). AreFew c.one_more-few.result operands)
          (ap (λ (last : List ℕ). map trimmed (take (length c.pieces.yielded) (pieces_of c.args.bytes.now)) ++ last ∷ []) c.trimmed.ensures
          ∙ pieces_more (pieces_of c.args.bytes.now) (length c.pieces.yielded) _ c.in-Some.piece.now next.0 next.1 pushed)
          (c.one_more-few.ensures _ c.pieces.invariant.few);
    }

pub returns : goal.returns
returns c =
    let end = YieldsList-end (YieldsList-from_slice_split _ (λ byte. eqb byte 44) c.args.bytes.now (cc) (cc) (cc) (λ x b q k. search (rules, tests)))
    c.pieces.yielded _ c.pieces.yielded_by _ _ c.in-None.is c.next.ensures.steps in
    let some : 1 ≤ length c.args.bytes.now = grind (arith, nat_tests, c.if-is_empty.false) in
    subst (λ (operands : List (List ℕ)). AreFew c.pieces.few operands)
    (pieces_all c.args.bytes.now (length c.pieces.yielded) some end.1) c.pieces.invariant.few
