-- What is written where a session is closed or cut short.
use Rattle.std.proofs.Common.{ℕ, Bool, true, false, List, ◌++◌, Option, Result, Ok, Err, take, sym, subst, ◌∙◌, arith}
use Rattle.std.proofs.Common.{append_assoc}
use Rattle.std.proofs.KnownBytes.{Appends-trans}
use Rattle.std.specs.Prelude.{⊤}
use Rattle.std.specs.Io.KnownBytes.{Appends}
use Rattle.flash_patch.specs.declared.plan.FlashFault.{FlashFault}
use Rattle.ice_line.specs.Lines.{WritesFront, WritesAll}
use Rattle.ice_line.proofs.Pieces.{front_more}
use Rattle.ice_replay.specs.Lines.{WritesPast, WritesLate, WritesBehind}

module _ (before middle after : Option (List ℕ)) (faults between faults_now : ℕ) where
  -- a front of the second behind all of the first
  pub past_first : (a b : List ℕ) → WritesAll before middle faults between a → WritesFront middle after between faults_now b →
      WritesPast before after faults faults_now a b
  past_first a b first h = ((h.0.0, Appends-trans before middle after a (take h.0.0 b) first.0 h.0.1), omega (arith, first.1, h.1))

  -- and behind what was written before
  pub past_more : (a ahead more : List ℕ) → WritesAll before middle faults between a → WritesPast middle after between faults_now ahead more →
      WritesPast before after faults faults_now (a ++ ahead) more
  past_more a ahead more first h = (
    (
      h.0.0,
      subst (λ (l : List ℕ). Appends before after l) (sym (append_assoc a ahead (take h.0.0 more)))
          (Appends-trans before middle after a (ahead ++ take h.0.0 more) first.0 h.0.1),
    ),
    omega (arith, first.1, h.1),
  )

  late_more : (late : Bool) (a b : List ℕ) → WritesAll before middle faults between a → WritesLate late middle after between faults_now b →
      WritesLate late before after faults faults_now (a ++ b)
  late_more false a b first h = Appends-trans before middle after a b first.0 h
  late_more true a b first h = front_more before middle after faults between faults_now a b first h

  pub behind_more : (stopped late : Bool) (restored : Result ⊤ FlashFault) (a b : List ℕ) → WritesAll before middle faults between a →
      WritesBehind stopped late restored middle after between faults_now b → WritesBehind stopped late restored before after faults faults_now (a ++ b)
  behind_more stopped late (Ok done) a b first h = (Appends-trans before middle after a b first.0 h.0, h.1 ∙ first.1)
  behind_more stopped late (Err fault) a b first h = (late_more late a b first h.0, h.1)
