use Rattle.std.proofs.Common.{◌≡◌, ℕ, List, [], ◌∷◌, inl, true, false, refl, sym, ap, ◌∙◌, Some, None}
use Rattle.line_spec.specs.Check.{checked, check}
use Rattle.line_spec.specs.Frames.{unchecked, bytes_of}
use Rattle.part_spec.specs.Chip.{Chip}
use Rattle.debug_spec.specs.SessionLaws.{is_closed}
use Rattle.record_spec.specs.Lines.{comes, event}
use Rattle.record_spec.specs.Fits.{Point, Follows, beginning}
use Rattle.record_spec.specs.inside.Examples.{sign_off_bytes, okay_bytes}
use Rattle.record_spec.proofs.Ways.{one_way}
use Rattle.record_spec.proofs.RecordRows.{signed_off, sign_off_comes}
use Rattle.record_spec.proofs.rows.a_sign_off_fits.Goals as goal

-- the point behind the first line
told : Chip → List ℕ → Point
told part prog = record { session = signed_off part prog; owed = Some okay_bytes; steps = 0 }

first : (part : Chip) (prog : List ℕ) → Follows part (event (comes sign_off_bytes)) (beginning part prog) (told part prog)
unfolding checked check unchecked bytes_of told
first part prog = (
  refl,
  okay_bytes,
  signed_off part prog,
  record { happens = (refl, signed_off part prog, inl (sign_off_comes part prog), refl); sends = refl },
  refl,
)

pub returns-clause-fits : goal.returns-clause-fits
unfolding told
returns-clause-fits c = λ part prog.
    let end : Point = record (told part prog) { owed = None } in record {
      end = end;
      reaches = (told part prog, first part prog, (end, (refl, refl), refl));
      told = refl;
      closed = refl;
    }

-- what is owed there
owed_there : (part : Chip) (prog : List ℕ) (at : Point) → Follows part (event (comes sign_off_bytes)) (beginning part prog) at →
    at.owed ≡ Some okay_bytes
unfolding told
owed_there part prog at h = ap (λ (p : Point). p.owed) (one_way part (event (comes sign_off_bytes)) (beginning part prog) at (told part prog) h (first part prog))

pub returns-clause-other : goal.returns-clause-other
returns-clause-other c = λ part prog f. let one = f.reaches.1 in let two = f.reaches.2.1 in
    absurd (apart (sym (owed_there part prog f.reaches.0 one) ∙ two.0))
  where
    apart : Some okay_bytes ≡ Some (0x1b ∷ 0 ∷ 0 ∷ 1 ∷ 0 ∷ 0 ∷ 0 ∷ 0x0e ∷ 0x80 ∷ 0x72 ∷ 0x03 ∷ []) → ⊥
    apart h = cc

pub returns-clause-short : goal.returns-clause-short
returns-clause-short c = λ part prog f.
    absurd (apart (sym (owed_there part prog f.reaches.0 f.reaches.1) ∙ ap (λ (p : Point). p.owed) (sym f.reaches.2) ∙ f.told))
  where
    apart : Some okay_bytes ≡ None → ⊥
    apart h = cc

pub returns-clause-none : goal.returns-clause-none
returns-clause-none c = λ part prog f. apart (ap (λ (p : Point). is_closed p.session.state.mode) (sym f.reaches) ∙ f.closed)
  where
    apart : false ≡ true → ⊥
    apart h = cc
