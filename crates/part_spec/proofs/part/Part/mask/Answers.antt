use Rattle.std.proofs.Common.{ℕ, ◌-◌, sym, subst}
use Rattle.part_spec.specs.Chip.{chip_of, IsMask}
use Rattle.part_spec.proofs.Numbers.{words-mask}
use Rattle.part_spec.proofs.part.Part.mask.Goals as goal

pub returns-clause-mask : goal.returns-clause-mask
returns-clause-mask c =
    let q = c.args.self.now in
    subst (λ (n : ℕ). IsMask (chip_of q) (n - 1)) (sym c.words.ensures) (words-mask q)
