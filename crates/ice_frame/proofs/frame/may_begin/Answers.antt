use Rattle.std.proofs.Common.{ℕ, [], ◌∷◌, drop, refl, subst, sym, arith}
use Rattle.std.proofs.lemmas.Bool.{eqb-true, eqb-false}
use Rattle.line_spec.specs.Frames.{Frame, IsPartial, bytes_of, unchecked}
use Rattle.line_spec.proofs.Fronts.{junk_by_start}
use Rattle.std.proofs.lemmas.List.{length-drop}
use Rattle.line_spec.proofs.Bytes.{IsBytes-nil}
use Rattle.line_spec.proofs.FrameBytes.{length-bytes_of}
use Rattle.ice_frame.proofs.frame.may_begin.Goals as goal

-- the first byte of a frame with an empty body
start_is_partial : IsPartial (0x1B ∷ [])
unfolding bytes_of unchecked
start_is_partial =
    let empty : Frame = record { number = 0; body = [] } in
    record {
      frame = empty;
      missing = drop 1 (bytes_of empty);
      valid = record { number = omega arith; body = omega arith; bytes = IsBytes-nil };
      some_missing = omega (arith, length-bytes_of empty, length-drop 1 (bytes_of empty));
      split = refl;
    }

pub returns-clause-begins : goal.returns-clause-begins
returns-clause-begins c = λ e. subst (λ (byte : ℕ). IsPartial (byte ∷ [])) (sym (eqb-true _ _ e)) start_is_partial

pub returns-clause-junk : goal.returns-clause-junk
returns-clause-junk c = λ e. junk_by_start (c.args.byte ∷ []) (λ same. eqb-false _ _ e same)
