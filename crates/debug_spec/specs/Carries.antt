-- What a holder of a flash carries out of a session: the shape of each contract that moves it.
use Rattle.std.specs.Prelude.{◌≡◌, ℕ, List, ◌++◌}
use Rattle.debug_spec.specs.Device.{Outcome, Asked}
use Rattle.debug_spec.specs.PageLaws.{AreAnswered}
use Rattle.debug_spec.specs.Moved.{Flash, Moved}
use Rattle.debug_spec.specs.Replay.{bytes_sent}
use Rattle.debug_spec.specs.Schedule.{Session}

-- there are asks by which the flash moved, and each session that the holder stood for, whose outcomes answer them, goes on by this
-- relation to one that the holder stands for then, with these bytes sent and the other outcomes left
pub record Carries {F E : Type 0} (flash : Flash F) (holds : E → F) (Stands : E → Session → Type 0) (Goes : Session → Session → Type 0)
    (before : E) (out : List ℕ) (after : E) : Type 0 where
  pub asks : List Asked
  pub moved : Moved flash (holds before) asks (holds after)
  pub leads : (s : Session) (left : List Outcome) → Stands before s → AreAnswered s.state.device.outcomes asks left →
      (t : Session) × Goes s t × Stands after t × (t.state.device.outcomes ≡ left) × (bytes_sent t.state ≡ bytes_sent s.state ++ out)

-- one relation and then another
abbrev pub Along : (Session → Session → Type 0) → (Session → Session → Type 0) → Session → Session → Type 0
Along Goes Then s t = (u : Session) × Goes s u × Then u t

-- what is carried out one after the other is carried out together; a relation may be weakened; and what stands for no change is one
pub record CarriesGoOn {F E : Type 0} (flash : Flash F) (holds : E → F) (Stands : E → Session → Type 0) : Type 1 where
  pub onward : (Goes Then : Session → Session → Type 0) (a b c : E) (out more : List ℕ) →
      Carries flash holds Stands Goes a out b → Carries flash holds Stands Then b more c →
      Carries flash holds Stands (Along Goes Then) a (out ++ more) c
  pub weaker : (Goes Then : Session → Session → Type 0) (a b : E) (out : List ℕ) → ((s t : Session) → Goes s t → Then s t) →
      Carries flash holds Stands Goes a out b → Carries flash holds Stands Then a out b
