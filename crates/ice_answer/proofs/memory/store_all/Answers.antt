use Rattle.std.proofs.Common.{◌≡◌, ℕ, suc, ◌+◌, List, take, ap, refl, ◌∙◌, arith}
use Rattle.std.proofs.lemmas.List.{take_all}
use Rattle.avr_spec.specs.Machine.{Machine}
use Rattle.avr_spec.specs.Kept.{kept}
use Rattle.avr_spec.specs.Memory.{store}
use Rattle.debug_spec.specs.MemoryTypes.{stored_from}
use Rattle.ice_answer.proofs.MemoryBytes.{stored_one_more}
use Rattle.ice_answer.proofs.memory.store_all.Goals as goal

pub loop-place-preserved : goal.loop-place-preserved
loop-place-preserved c =
    let bytes = c.args.bytes.now in
    let place = c.loop-place.place in
    let next : suc place ≡ place + 1 = omega arith in record {
      moves = λ part p h.
          c.set_data_at.ensures.moves part (stored_from (store part) c.args.address (take place bytes) p)
          (c.loop-place.invariant.moves part p h) ∙
          ap (λ (q : Machine). kept part q)
          (stored_one_more (store part) bytes place c.args.address (c.args.address + place) _ p (omega (arith, c.loop-place-test.true))
          refl refl ∙
          ap (λ (k : ℕ). stored_from (store part) c.args.address (take k bytes) p) next);
      part = c.set_data_at.ensures.part ∙ c.loop-place.invariant.part;
    }

pub returns-clause-moves : goal.returns-clause-moves
returns-clause-moves c = λ part p h.
    c.loop-place.invariant.moves part p h ∙
    ap (λ (t : List ℕ). kept part (stored_from (store part) c.args.address t p))
    (take_all c.loop-place.place c.args.bytes.now (omega (arith, c.loop-place-test.false)))
