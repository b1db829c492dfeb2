use Rattle.std.proofs.Common.{◌≡◌, ℕ, ◌+◌, ◌*◌, ◌<◌, suc, List, length, ap, sym, ◌∙◌, ◌++◌, [], ◌∷◌, take, slice_index, arith}
use Rattle.std.proofs.lemmas.List.{take_all, take_more_set, length-set}
use Rattle.part_spec.specs.Pages.{paired}
use Rattle.ice_answer.proofs.MemoryBytes.{length-paired, paired_one_more}
use Rattle.ice_answer.proofs.memory.paired_page.Goals as goal

pub loop-place-preserved : goal.loop-place-preserved
loop-place-preserved c =
    let bytes = c.args.bytes.now in
    let place = c.loop-place.place in
    let next : suc place ≡ place + 1 = omega arith in
    let inside : 2 * place + 1 < length bytes = omega (arith, c.loop-place-test.true, c.requires) in record {
      size = length-set c.loop-place.words place (c.from.result + 256 * c.from-in-loop-place.result) ∙ c.loop-place.invariant.size;
      words =
          take_more_set c.loop-place.words place (c.from.result + 256 * c.from-in-loop-place.result)
          (omega (arith, c.loop-place-test.true, c.loop-place.invariant.size)) ∙
          ap (λ (t : List ℕ). t ++ (c.from.result + 256 * c.from-in-loop-place.result) ∷ []) c.loop-place.invariant.words ∙
          ap (λ (n : ℕ). take place (paired bytes) ++ (n + 256 * c.from-in-loop-place.result) ∷ []) c.from.ensures ∙
          ap (λ (n : ℕ). take place (paired bytes) ++ (slice_index bytes (2 * place) + 256 * n) ∷ []) c.from-in-loop-place.ensures ∙
          sym (paired_one_more bytes place inside) ∙ ap (λ (k : ℕ). take k (paired bytes)) next;
    }

pub returns : goal.returns
returns c =
    let bytes = c.args.bytes.now in
    let half = length-paired bytes (omega (arith, c.requires)) in
    sym (take_all c.loop-place.place c.loop-place.words (omega (arith, c.loop-place-test.false, c.loop-place.invariant.size))) ∙
    c.loop-place.invariant.words ∙ take_all c.loop-place.place (paired bytes) (omega (arith, c.loop-place-test.false, half, c.requires))
