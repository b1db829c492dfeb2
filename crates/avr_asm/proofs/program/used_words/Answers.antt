use Rattle.std.proofs.Common.{◌≡◌, ℕ, ◌-◌, [], length, drop, get_or, sym, ap, ◌∙◌, arith}
use Rattle.std.proofs.lemmas.List.{drop_all}
use Rattle.asm_spec.specs.Listing.{are_erased}
use Rattle.asm_spec.proofs.Listings.{erased_more, last_used}
use Rattle.avr_asm.proofs.Pieces.{none_used}
use Rattle.avr_asm.proofs.program.used_words.Goals as goal

pub words-init : goal.words-init
words-init c =
    let none : drop (length c.args.program.now) c.args.program.now ≡ [] = drop_all (length c.args.program.now) c.args.program.now (omega arith) in
    record { within = omega arith; behind = ap are_erased none }

pub words-preserved : goal.words-preserved
words-preserved c =
    let same : c.words.used ≡ c.from.result = omega arith in
    let word : get_or c.args.program.now (c.words.used - 1) 0 ≡ 0xffff =
    ap (λ (n : ℕ). get_or c.args.program.now (n - 1) 0) same ∙ c.if-program-from.false in
    record {
      within = omega arith;
      behind = erased_more c.args.program.now c.words.used (omega arith) c.words.invariant.within word c.words.invariant.behind;
    }

pub returns-then-program-from-clause-erased : goal.returns-then-program-from-clause-erased
returns-then-program-from-clause-erased c =
    let same : c.words.used ≡ c.from.result = omega arith in
    last_used c.args.program.now c.words.used (omega arith) c.words.invariant.within
    (λ is. c.if-program-from.true (ap (λ (n : ℕ). get_or c.args.program.now (n - 1) 0) (sym same) ∙ is)) c.words.invariant.behind

pub returns-clause-erased : goal.returns-clause-erased
returns-clause-erased c = none_used c.args.program.now c.words.used (omega arith) c.words.invariant.behind
