-- A runner whose target runs on a thread of its own: what its calls rest on, and what it may give.
use Rattle.std.specs.Prelude.{◌≡◌, ℕ, ◌+◌, ◌-◌, ◌%◌, ◌^◌, ◌≤◌, Bool, true, false, List, All, Option, Some, None, ◌==◌}
use Rattle.std.specs.List.{list_any}
use Rattle.run_control.specs.declared.job.Halt.TheVariants.{Forced}
use Rattle.run_control.specs.declared.runner.Done.{Done}
use Rattle.ice_inbox.specs.declared.target_work.TargetDone.{TargetDone}
use Rattle.ice_inbox.specs.Stopping.{Raising}

-- how many starts of the spawner were no launches, and how many of its joins no job given back, modulo 2^64
pub record Kept : Type 0 where
  pub starts : ℕ
  pub joins : ℕ

abbrev pub kept_of : (starts launches joins collects : ℕ) → Kept
kept_of starts launches joins collects = record {
  starts = (starts + (2 ^ 64 - launches)) % 2 ^ 64;
  joins = (joins + (2 ^ 64 - collects)) % 2 ^ 64;
}

-- the number is among those raised
abbrev pub is_raised : ℕ → List ℕ → Bool
is_raised number raised = list_any (λ n. n == number) raised

module _ {F G T : Type 0} (allows : T → TargetDone F G → Type 0) where
  -- what may be given of the work of a ticket: an end that the ticket allows
  abbrev pub MayGive : Option T → Done F → Type 0
  MayGive None done = ⊥
  MayGive (Some ticket) done = (end : TargetDone F G) × allows ticket end × (end.done ≡ done)

  -- each end that the ticket allows has a looker of this stop word, and was forced only where its looker saw the number last
  abbrev pub AreOfWord : Raising → ℕ → T → Type 0
  AreOfWord raiser number ticket = (end : TargetDone F G) → allows ticket end →
      (end.looker.word ≡ raiser.word) × (end.done.halt ≡ Forced → end.looker.seen ≡ number)

  -- the parts are here, or they are out with a looker, and come back with it
  abbrev pub IsSeated : Raising → ℕ → Bool → Option T → Type 0
  IsSeated raiser number here None = (here ≡ true) × (raiser.is_out ≡ false)
  IsSeated raiser number here (Some ticket) = (raiser.is_out ≡ true) × (1 ≤ number) × AreOfWord raiser number ticket

-- the spawner is sound, no number was raised but those of jobs so far, and the parts are where they are to be
pub record IsSoundThreaded {F G T : Type 0} (is_sound : Type 0) (allows : T → TargetDone F G → Type 0) (raiser : Raising) (number : ℕ)
    (here : Bool) (ticket : Option T) : Type 0 where
  pub spawner : is_sound
  pub raised : All (λ n. n ≤ number) raiser.raised
  pub seated : IsSeated allows raiser number here ticket
