use Rattle.std.proofs.Common.{[], ◌∷◌, refl, arith}
use Rattle.line_spec.specs.Cut.{junk, Cuts}
use Rattle.line_spec.proofs.Fronts.{junk_by_start}
use Rattle.line_spec.proofs.Cuts.{IsPartial-nil}
use Rattle.line_spec.proofs.heard.junk_goes_byte_by_byte.Goals as goal

pub returns : goal.returns
returns c =
    let second : Cuts (0x06 ∷ []) (junk 0x06 ∷ []) [] = ([], refl, junk_by_start (0x06 ∷ []) (λ e. omega (arith, e)), refl) in
    record {
      cuts = (0x06 ∷ [], refl, junk_by_start (0x05 ∷ 0x06 ∷ []) (λ e. omega (arith, e)), second);
      partial = IsPartial-nil;
    }
