-- What is written, piece by piece.
use Rattle.std.proofs.Common.{◌≡◌, ◌+◌, ℕ, Bool, true, false, List, ◌++◌, Option, length, take, drop}
use Rattle.std.proofs.Common.{sym, ap, ◌∙◌, subst, arith, append-nil, append_assoc, take-append-drop}
use Rattle.std.proofs.Math.Seq.{take-append-add}
use Rattle.std.proofs.KnownBytes.{Appends-trans}
use Rattle.std.specs.Io.KnownBytes.{Appends}
use Rattle.ice_line.specs.Lines.{WritesFront, WritesAll, Writes}

-- a front of the first piece is one of both
front_of : (a b : List ℕ) (n : ℕ) → take (length (take n a) + 0) (a ++ b) ≡ take n a
front_of a b n =
    ap (λ (l : List ℕ). take (length (take n a) + 0) (l ++ b)) (sym (take-append-drop n a)) ∙
    ap (take (length (take n a) + 0)) (append_assoc (take n a) (drop n a) b) ∙
    take-append-add (take n a) (drop n a ++ b) 0 ∙ append-nil (take n a)

pub front_first : (before after : Option (List ℕ)) (faults faults_now : ℕ) (a b : List ℕ) → WritesFront before after faults faults_now a →
    WritesFront before after faults faults_now (a ++ b)
front_first before after faults faults_now a b h = (
  (length (take h.0.0 a) + 0, subst (λ (l : List ℕ). Appends before after l) (sym (front_of a b h.0.0)) h.0.1),
  h.1,
)

-- a front of the second behind the first
pub front_more : (before middle after : Option (List ℕ)) (faults between faults_now : ℕ) (a b : List ℕ) →
    WritesAll before middle faults between a → WritesFront middle after between faults_now b →
    WritesFront before after faults faults_now (a ++ b)
front_more before middle after faults between faults_now a b first h = (
  (
    length a + h.0.0,
    subst (λ (l : List ℕ). Appends before after l) (sym (take-append-add a b h.0.0))
        (Appends-trans before middle after a (take h.0.0 b) first.0 h.0.1),
  ),
  omega (arith, first.1, h.1),
)

-- all of the second, or a front of it, behind the first
pub writes_more : (all : Bool) (before middle after : Option (List ℕ)) (faults between faults_now : ℕ) (a b : List ℕ) →
    WritesAll before middle faults between a → Writes all middle after between faults_now b → Writes all before after faults faults_now (a ++ b)
writes_more true before middle after faults between faults_now a b first h =
    (Appends-trans before middle after a b first.0 h.0, h.1 ∙ first.1)
writes_more false before middle after faults between faults_now a b first h =
    front_more before middle after faults between faults_now a b first h
