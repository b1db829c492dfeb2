-- What is carried out one after the other.
use Rattle.std.proofs.Common.{ℕ, List, ◌++◌, sym, ◌∙◌, ap, subst, append_assoc}
use Rattle.debug_spec.specs.Device.{Outcome}
use Rattle.debug_spec.specs.PageLaws.{AreAnswered}
use Rattle.debug_spec.specs.Moved.{Flash}
use Rattle.debug_spec.specs.Replay.{bytes_sent}
use Rattle.debug_spec.specs.Schedule.{Session}
use Rattle.debug_spec.specs.Carries.{Carries, Along, CarriesGoOn}
use Rattle.debug_spec.proofs.MovedLemmas.{flash_moves, answers_go_on}

module _ {F E : Type 0} (flash : Flash F) (holds : E → F) (Stands : E → Session → Type 0) where
  onward : (Goes Then : Session → Session → Type 0) (a b c : E) (out more : List ℕ) →
      Carries flash holds Stands Goes a out b → Carries flash holds Stands Then b more c →
      Carries flash holds Stands (Along Goes Then) a (out ++ more) c
  onward Goes Then a b c out more first second = record {
    asks = first.asks ++ second.asks;
    moved = (flash_moves flash).onward (holds a) (holds b) (holds c) first.asks second.asks first.moved second.moved;
    leads = λ s left stands answered.
        let parts = answers_go_on.back s.state.device.outcomes left first.asks second.asks answered in
        let u = first.leads s parts.0 stands parts.1 in
        let t = second.leads u.0 left u.2 (subst (λ (o : List Outcome). AreAnswered o second.asks left) (sym u.3) parts.2) in (
          t.0,
          (u.0, u.1, t.1),
          t.2,
          t.3,
          t.4 ∙ ap (λ (x : List ℕ). x ++ more) u.4 ∙ append_assoc (bytes_sent s.state) out more,
        );
  }

  weaker : (Goes Then : Session → Session → Type 0) (a b : E) (out : List ℕ) → ((s t : Session) → Goes s t → Then s t) →
      Carries flash holds Stands Goes a out b → Carries flash holds Stands Then a out b
  weaker Goes Then a b out w h = record {
    asks = h.asks;
    moved = h.moved;
    leads = λ s left stands answered. let t = h.leads s left stands answered in (t.0, w s t.0 t.1, t.2, t.3, t.4);
  }

  pub carries_go_on : CarriesGoOn flash holds Stands
  carries_go_on = record { onward = onward; weaker = weaker }
