use Rattle.std.proofs.Common.{◌++◌, List, ℕ, arith, refl, sym, subst, append-nil, take}
use Rattle.part_spec.specs.declared.part.Part.{Part}
use Rattle.record_check.specs.Taking.{HasTaken}
use Rattle.record_check.proofs.Reading.{stopped_more, taken_more, taken_whole}
use Rattle.record_check.proofs.checker.Checker.take_chunk.Goals as goal

pub bytes-init : goal.bytes-init
bytes-init c = record {
  going = c.requires.going;
  few = omega arith;
  takes = λ part prog taken h. subst (λ (l : List ℕ). HasTaken part prog l c.args.self.now) (sym (append-nil taken)) h;
}

pub bytes-preserved : goal.bytes-preserved
bytes-preserved c = record {
  going = c.in-None.ensures.going refl;
  few = omega (arith, c.bytes.invariant.few, c.take_byte.ensures.few);
  takes = λ part prog taken h.
      taken_more part prog taken c.args.chunk.now c.bytes.byte-index c.take_byte.new.self c.bytes-test.true
      (c.in-None.ensures.takes part prog (taken ++ take c.bytes.byte-index c.args.chunk.now) (c.bytes.invariant.takes part prog taken h));
}

pub returns-in-Some-clause-takes : goal.returns-in-Some-clause-takes
returns-in-Some-clause-takes c = λ part prog taken h.
    stopped_more part prog taken c.args.chunk.now c.bytes.byte-index c.in-Some.verdict c.take_byte.new.self c.bytes-test.true
    (c.in-Some.ensures.takes part prog (taken ++ take c.bytes.byte-index c.args.chunk.now) (c.bytes.invariant.takes part prog taken h))

pub returns-in-Some-clause-bytes : goal.returns-in-Some-clause-bytes
returns-in-Some-clause-bytes c = λ i. omega (arith, c.type_inv.chunk i)

pub returns-clause-takes : goal.returns-clause-takes
returns-clause-takes c = λ part prog taken h.
    taken_whole part prog taken c.args.chunk.now c.bytes.byte-index c.bytes.self c.bytes-test.false (c.bytes.invariant.takes part prog taken h)

pub returns-clause-bytes : goal.returns-clause-bytes
returns-clause-bytes c = λ i. omega (arith, c.type_inv.chunk i)
