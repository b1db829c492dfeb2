use Rattle.std.proofs.Common.{rules, ◌≡◌, length, take, drop, min, ◌+◌, ◌++◌, ◌≤◌, sym, ap, ◌∙◌}
use Rattle.std.proofs.lemmas.List.{drop-drop}
use Rattle.ice_base.specs.MemSource.{SourceState}
use Rattle.ice_base.proofs.Lists.{front_and_rest, drop_next}
use Rattle.ice_base.proofs.mem_source.MemSourceSource.read.Goals as goal

pub returns-clause-bytes : goal.returns-clause-bytes
returns-clause-bytes c =
    let inside = c.self.inside in
    let count = c.cut_to-count.result in
    let fits : inside.given + count ≤ length inside.bytes.items = search rules in
    let here : c.copy_from_slice.new.self ≡ take count (drop inside.given inside.bytes.items) = search rules in
    let all = front_and_rest inside.bytes.items (drop count c.args.buf.now) inside.given count fits in
    let left : drop inside.given inside.bytes.items ≡ c.args.self.now.left = ap (λ s. s.left) (c.self.view_is ∙ c.begin_call.ensures.after) in
    sym left ∙ all ∙ ap (λ l. take count (l ++ drop count c.args.buf.now) ++ drop (inside.given + count) inside.bytes.items) (sym here)

pub returns-clause-after : goal.returns-clause-after
returns-clause-after c =
    let inside = c.self.inside in
    let count = c.cut_to-count.result in
    let left : drop (inside.given + count) inside.bytes.items ≡ drop count (drop inside.given inside.bytes.items) = sym (drop-drop count inside.given inside.bytes.items) in
    let place : c.min-self-inside.result ≡ min (inside.reads + 1) (length inside.cuts.items) = search rules in
    let cuts : drop c.min-self-inside.result inside.cuts.items ≡ drop 1 (drop inside.reads inside.cuts.items) = ap (λ n. drop n inside.cuts.items) place ∙ drop_next inside.cuts.items inside.reads in
    let begun = c.self.view_is ∙ c.begin_call.ensures.after in
    rw (left, cuts) (ap (λ (s : SourceState). record s { left = drop count s.left; cuts = drop 1 s.cuts }) begun)
