-- A spawner that begins work by a function.
use Rattle.std.specs.Prelude.{◌≡◌, ℕ, Result, MatchResult}

-- the function, the refused starts so far, the starts that worked, the joins
pub record SpawnerState (F : Type 0) : Type 0 where
  pub begin : F
  pub faults : ℕ
  pub starts : ℕ
  pub joins : ℕ

-- what is given back once a work was to be begun: a ticket, which allows what the work gives alone, or else the work
abbrev pub Begins : {W D T : Type 0} → (W → D → Type 0) → (T → D → Type 0) → W → Result T W → Type 0
Begins {D = D} gives allows work answer = MatchResult answer (λ ticket. (done : D) → allows ticket done → gives work done) (λ given. given ≡ work)

-- a function, by what it asks and what it may answer, that may be called with any work and begins it
abbrev pub IsBeginning : {W D T : Type 0} → (W → D → Type 0) → (T → D → Type 0) → (W → Type 0) → (W → Result T W → Type 0) → Type 0
IsBeginning {W = W} {T = T} gives allows pre post = (work : W) → pre work × ((answer : Result T W) → post work answer → Begins gives allows work answer)
