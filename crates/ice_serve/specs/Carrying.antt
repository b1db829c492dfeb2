-- What a holder of a flash and of a runner carries out of a session, where launches may be refused.
use Rattle.std.specs.Prelude.{◌≡◌, ℕ, List, ◌++◌}
use Rattle.debug_spec.specs.Device.{Outcome, Asked}
use Rattle.debug_spec.specs.PageLaws.{AreAnswered}
use Rattle.debug_spec.specs.Moved.{Flash}
use Rattle.debug_spec.specs.Replay.{bytes_sent}
use Rattle.debug_spec.specs.Schedule.{Session}
use Rattle.ice_serve.specs.Outside.{outside, MovesBoth}

-- a holder of a flash, how many launches worked, and how many failed, up to the greatest u64
pub record Place (E : Type 0) : Type 0 where
  pub it : E
  pub launches : ℕ
  pub faults : ℕ

-- it stands for a session in which so many launches worked
pub record Stands {E : Type 0} (StandsFor : E → Session → Type 0) (p : Place E) (s : Session) : Type 0 where
  pub stands : StandsFor p.it s
  pub launches : s.state.launches ≡ p.launches

-- there are asks by which the flash and the runner moved, and each session for which the holder stood, whose outcomes answer them, goes on
-- so to one for which it stands then, with these bytes sent, these asks made, and the other outcomes left
pub record CarriesBoth {F E : Type 0} (flash : Flash F) (holds : E → F) (StandsFor : E → Session → Type 0)
    (Goes : Session → Session → Type 0) (before : Place E) (out : List ℕ) (after : Place E) : Type 0 where
  pub asks : List Asked
  pub moved : MovesBoth flash (outside (holds before.it) before.faults) asks (outside (holds after.it) after.faults)
  pub leads : (s : Session) (left : List Outcome) → Stands StandsFor before s → AreAnswered s.state.device.outcomes asks left →
      (t : Session) × Goes s t × Stands StandsFor after t × (t.state.device.outcomes ≡ left) ×
      (bytes_sent t.state ≡ bytes_sent s.state ++ out) × (t.state.device.asked ≡ s.state.device.asked ++ asks)
