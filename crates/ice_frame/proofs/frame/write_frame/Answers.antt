use Rattle.std.proofs.Common.{List, ℕ, ◌++◌, ap, ◌∙◌}
use Rattle.std.specs.Int.{w32, to_le_bytes}
use Rattle.line_spec.specs.Check.{check}
use Rattle.ice_frame.specs.Front.{frame_of}
use Rattle.ice_frame.proofs.Writing.{written}
use Rattle.ice_frame.proofs.frame.write_frame.Goals as goal

pub returns : goal.returns
returns c =
    let start : List ℕ = c.push.new.self.items in
    let number : List ℕ = c.append.new.out.items in
    let size : List ℕ = c.append-2.new.out.items in
    let token : List ℕ = c.push-2.new.self.items in
    let body : List ℕ = c.append-3.new.out.items in
    let size_bytes = c.to_le_bytes-2.ensures ∙ ap (λ (k : ℕ). to_le_bytes w32 k) c.len-size.ensures.value in
    written (frame_of c.args.frame.now) c.crc-check.result c.args.out.now.items start number size token body c.append-4.new.out.items
    c.requires c.push.ensures.items
    (c.append.ensures ∙ ap (λ (t : List ℕ). start ++ t) c.to_le_bytes.ensures)
    (c.append-2.ensures ∙ ap (λ (t : List ℕ). number ++ t) size_bytes)
    c.push-2.ensures.items
    (c.append-3.ensures ∙ ap (λ (t : List ℕ). token ++ t) c.as_slice.ensures.value)
    (c.crc-check.ensures ∙ ap (λ (t : List ℕ). check t) c.as_slice-2.ensures.value)
    (c.append-4.ensures ∙ ap (λ (t : List ℕ). body ++ t) c.to_le_bytes-3.ensures)
