-- Both ends of a line at one moment, and what is written to it.
use Rattle.std.specs.Prelude.{◌≡◌, ℕ, Bool, List, Option, take, MatchBool}
use Rattle.std.specs.Io.KnownBytes.{Appends}
use Rattle.ice_base.specs.Counts.{Rose}

-- both ends at one moment: the bytes left and the bytes written, where told, and the counts of faults
pub record Line : Type 0 where
  pub left : Option (List ℕ)
  pub source_faults : ℕ
  pub written : Option (List ℕ)
  pub sink_faults : ℕ

abbrev pub line_at : Option (List ℕ) → ℕ → Option (List ℕ) → ℕ → Line
line_at left source_faults written sink_faults =
    record { left = left; source_faults = source_faults; written = written; sink_faults = sink_faults }

-- some front of the bytes was written, and the count rose
abbrev pub WritesFront : (before after : Option (List ℕ)) → (faults faults_now : ℕ) → List ℕ → Type 0
WritesFront before after faults faults_now bytes = ((n : ℕ) × Appends before after (take n bytes)) × Rose faults faults_now

-- all were written, and the count stands still
abbrev pub WritesAll : (before after : Option (List ℕ)) → (faults faults_now : ℕ) → List ℕ → Type 0
WritesAll before after faults faults_now bytes = Appends before after bytes × (faults_now ≡ faults)

-- all were written, or some front of them
abbrev pub Writes : Bool → (before after : Option (List ℕ)) → (faults faults_now : ℕ) → List ℕ → Type 0
Writes all before after faults faults_now bytes =
    MatchBool all (WritesAll before after faults faults_now bytes) (WritesFront before after faults faults_now bytes)

-- a count stands still: no call failed
abbrev pub IsStill : ℕ → ℕ → Type 0
IsStill before after = after ≡ before
