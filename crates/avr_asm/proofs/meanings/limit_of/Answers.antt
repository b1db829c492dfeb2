use Rattle.std.proofs.Common.{arith}
use Rattle.avr_asm.proofs.Registers.{few_values, limit_more, limit_small}
use Rattle.avr_asm.proofs.meanings.limit_of.Goals as goal

pub doubled_if-limit-requires : goal.doubled_if-limit-requires
doubled_if-limit-requires c = omega (arith, few_values c.letters.limit c.letters.other-index (omega arith) c.letters.invariant.small)

pub letters-preserved : goal.letters-preserved
letters-preserved c = record {
  so_far = limit_more c.args.letter c.args.letters.now c.letters.other-index c.letters.limit _ _ (omega arith) c.doubled_if-limit.ensures
      c.letters.invariant.so_far;
  small = limit_small c.letters.limit _ c.letters.other-index _ c.doubled_if-limit.ensures c.letters.invariant.small;
}

pub returns-clause-few : goal.returns-clause-few
returns-clause-few c = few_values c.letters.limit c.letters.other-index (omega arith) c.letters.invariant.small
