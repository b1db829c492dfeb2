-- What is written where a session is closed or cut short.
use Rattle.std.specs.Prelude.{◌≡◌, ℕ, Bool, true, false, List, ◌++◌, Option, take, Result, ⊤, Ok, Err}
use Rattle.std.specs.Io.KnownBytes.{Appends}
use Rattle.flash_patch.specs.declared.plan.FlashFault.{FlashFault}
use Rattle.ice_base.specs.Counts.{Rose}
use Rattle.ice_line.specs.Lines.{WritesFront, WritesAll}

-- all of some bytes were written, and of those behind them a front, and the count rose
abbrev pub WritesPast : (before after : Option (List ℕ)) → (faults faults_now : ℕ) → (ahead more : List ℕ) → Type 0
WritesPast before after faults faults_now ahead more = ((n : ℕ) × Appends before after (ahead ++ take n more)) × Rose faults faults_now

-- all were written; or late, behind something that had failed, a front of them
abbrev pub WritesLate : (late : Bool) → (before after : Option (List ℕ)) → (faults faults_now : ℕ) → List ℕ → Type 0
WritesLate false before after faults faults_now bytes = Appends before after bytes
WritesLate true before after faults faults_now bytes = WritesFront before after faults faults_now bytes

-- what is written where a session is closed: all, where the flash is restored; and where it is not, that came before the writing, which
-- may have failed too, unless a run was stopped for it
abbrev pub WritesBehind : (stopped late : Bool) → Result ⊤ FlashFault → (before after : Option (List ℕ)) → (faults faults_now : ℕ) →
    List ℕ → Type 0
WritesBehind stopped late (Ok restored) before after faults faults_now bytes = WritesAll before after faults faults_now bytes
WritesBehind stopped late (Err fault) before after faults faults_now bytes =
    WritesLate late before after faults faults_now bytes × (late ≡ true → stopped ≡ false)
