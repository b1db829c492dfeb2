use Rattle.std.proofs.Common.{◌≡◌, ℕ, suc, ◌+◌, ◌++◌, [], ◌∷◌, List, length, length-append, subst, sym, ap, ◌∙◌, arith}
use Rattle.part_spec.specs.Chip.{chip_of}
use Rattle.line_spec.specs.Frames.{IsBytes}
use Rattle.line_spec.proofs.Bytes.{IsBytes-append, IsBytes-cons, IsBytes-nil}
use Rattle.debug_spec.specs.MemoryTypes.{byte_in, bytes_from}
use Rattle.ice_answer.specs.Values.{memory_of}
use Rattle.ice_answer.proofs.MemoryBytes.{bytes_one_more}
use Rattle.ice_answer.proofs.tool.Tool.bytes_from.Goals as goal

pub loop-place-preserved : goal.loop-place-preserved
loop-place-preserved c =
    let place = c.loop-place.place in
    let IsAll : List ℕ → Type 0 = λ bytes. IsBytes bytes in
    let next : suc place ≡ place + 1 = omega arith in record {
      size = omega (
        arith,
        ap length c.push.ensures.items,
        length-append c.loop-place.bytes.items (c.byte_in.result ∷ []),
        c.loop-place.invariant.size,
      );
      range = subst IsAll (sym c.push.ensures.items)
          (IsBytes-append c.loop-place.bytes.items (c.byte_in.result ∷ []) c.loop-place.invariant.range
          (IsBytes-cons c.byte_in.result [] c.byte_in.type_inv IsBytes-nil));
      bytes = λ part s tool core.
          let f : ℕ → ℕ = byte_in (chip_of part) (memory_of c.args.memory) s in
          c.push.ensures.items ∙ ap (λ (t : List ℕ). t ++ c.byte_in.result ∷ []) (c.loop-place.invariant.bytes part s tool core) ∙
          ap (λ (b : ℕ). bytes_from f c.args.address place ++ b ∷ []) (c.byte_in.ensures part s tool core) ∙
          sym (bytes_one_more f place c.args.address) ∙ ap (λ (k : ℕ). bytes_from f c.args.address k) next;
    }

pub returns-clause-bytes : goal.returns-clause-bytes
returns-clause-bytes c = λ part s tool core.
    let all : c.loop-place.place ≡ c.args.count = omega (arith, c.loop-place-test.false, c.loop-place.auto.place-end) in
    c.loop-place.invariant.bytes part s tool core ∙
    ap (λ (k : ℕ). bytes_from (byte_in (chip_of part) (memory_of c.args.memory) s) c.args.address k) all
