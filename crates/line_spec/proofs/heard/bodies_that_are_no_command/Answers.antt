use Rattle.std.proofs.Common.{◌≡◌, ℕ, ◌<◌, List, [], ◌∷◌, length, slice_index, refl, ap, arith, lit<}
use Rattle.line_spec.specs.Messages.{go, write_memory, command_codes, IsNoCommand}
use Rattle.line_spec.proofs.Bodies.{none_ignored, command_belongs_back, one_byte, written_belongs}
use Rattle.line_spec.proofs.HeardLemmas.{not_contained}
use Rattle.line_spec.proofs.heard.bodies_that_are_no_command.Goals as goal

pub returns-clause-none : goal.returns-clause-none
returns-clause-none c = λ h. h

pub returns-clause-unknown : goal.returns-clause-unknown
returns-clause-unknown c = not_contained command_codes 0x0e refl

pub returns-clause-known : goal.returns-clause-known
returns-clause-known c = written_belongs go tt

pub returns-clause-behind : goal.returns-clause-behind
returns-clause-behind c = (
  (8, lit< tt, refl),
  λ command belongs.
      let g = command_belongs_back (0x08 ∷ 0x00 ∷ []) command belongs in
      omega (arith, ap length g.made, ap length (none_ignored g.ignored g.so_many)),
)

pub returns-clause-counted : goal.returns-clause-counted
returns-clause-counted c = written_belongs (write_memory 0x20 0x60 (0x2a ∷ [])) (lit< tt, lit< tt, one_byte 0x2a (lit< tt), lit< tt)

-- a body of WRITE_MEMORY with another count than it has bytes
miscounted : (count : ℕ) → count < 256 → (count ≡ 1 → ⊥) → IsNoCommand (0x04 ∷ 0x20 ∷ count ∷ 0 ∷ 0 ∷ 0 ∷ 0x60 ∷ 0 ∷ 0 ∷ 0 ∷ 0x01 ∷ [])
miscounted count fits other command belongs =
    let w = command_belongs_back (0x04 ∷ 0x20 ∷ count ∷ 0 ∷ 0 ∷ 0 ∷ 0x60 ∷ 0 ∷ 0 ∷ 0 ∷ 0x01 ∷ []) command belongs in
    other (ap (λ (t : List ℕ). slice_index t 2) w.made)

pub returns-clause-too_few : goal.returns-clause-too_few
returns-clause-too_few c = ((4, lit< tt, refl), miscounted 2 (lit< tt) (λ e. omega (arith, e)))

pub returns-clause-too_many : goal.returns-clause-too_many
returns-clause-too_many c = ((4, lit< tt, refl), miscounted 0 (lit< tt) (λ e. omega (arith, e)))
