use Rattle.std.proofs.Common.{◌≡◌, ◌<◌, ◌==◌, ◌&&◌, nat_lt, nat_le, Bool, true, ℕ, ap, ◌∙◌, arith}
use Rattle.std.proofs.lemmas.Bool.{lt-ltb, le-leb}
use Rattle.part_spec.specs.Chip.{chip_of, words_of}
use Rattle.debug_spec.specs.Breakpoints.{break_set, set_numbered, no_breakpoint, program_break}
use Rattle.debug_spec.specs.Debugger.{comparator_count}
use Rattle.ice_answer.specs.Kept.{ToolState}
use Rattle.ice_answer.proofs.Doing.{same_does, yes_if}
use Rattle.ice_answer.proofs.tool.Tool.set_break.Goals as goal

all_three : (a b d : Bool) → a ≡ true → b ≡ true → d ≡ true → (a && b && d) ≡ true
all_three a b d e f h = cc

pub returns-then-address-from-clause-does : goal.returns-then-address-from-clause-does
returns-then-address-from-clause-does c = λ core.
    same_does (λ part. set_numbered part c.args.frame c.args.number c.args.address) (λ part. break_set part c.args.frame c.args.kind c.args.number c.args.address) _ _
    (λ part before s e.
    let size : words_of (chip_of c.self.inside.plan.part) ≡ words_of (chip_of part) = ap (λ (k : ToolState). words_of (chip_of k.plan.part)) (c.self.view_is ∙ e.tool) in
    let within : c.args.address < words_of (chip_of part) =
    omega (arith, c.if-address-from.true, c.from.ensures, c.words.ensures, ap (λ p. words_of (chip_of p)) c.part.ensures, size) in
    yes_if ((c.args.kind == program_break) && nat_le c.args.number comparator_count && nat_lt c.args.address (words_of (chip_of part)))
    (set_numbered (chip_of part) c.args.frame c.args.number c.args.address s) (no_breakpoint c.args.frame s)
    (all_three (c.args.kind == program_break) (nat_le c.args.number comparator_count) (nat_lt c.args.address (words_of (chip_of part)))
    (ap (λ (k : ℕ). k == program_break) c.if-kind-eq-PROGRAM_BREAK.true) (le-leb c.args.number comparator_count c.if-number.true) (lt-ltb c.args.address (words_of (chip_of part)) within)))
    (c.set_numbered.ensures.does core)
