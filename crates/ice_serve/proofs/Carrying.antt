-- What is carried out of a session, one after the other.
use Rattle.std.proofs.Common.{◌≡◌, ◌≤◌, ℕ, List, [], ◌∷◌, ◌++◌, refl, sym, ap, ◌∙◌, subst, append_assoc, append-nil}
use Rattle.debug_spec.specs.Device.{Outcome, Asked, launch}
use Rattle.debug_spec.specs.PageLaws.{AreAnswered}
use Rattle.debug_spec.specs.Moved.{Flash}
use Rattle.debug_spec.specs.Replay.{bytes_sent}
use Rattle.debug_spec.specs.Schedule.{Session}
use Rattle.debug_spec.specs.Take.{launched_then}
use Rattle.debug_spec.specs.Carries.{Carries, Along}
use Rattle.debug_spec.proofs.MovedLemmas.{answers_go_on}
use Rattle.ice_serve.specs.Outside.{outside, IsLaunch, MovesBoth}
use Rattle.ice_serve.specs.Carrying.{Place, Stands, CarriesBoth}
use Rattle.ice_serve.proofs.Both.{both_onward, both_flash, both_launch}

module _ {F E : Type 0} (flash : Flash F) (holds : E → F) (StandsFor : E → Session → Type 0) where
  -- one relation and then another
  pub carries_onward : (Goes Then : Session → Session → Type 0) (a b c : Place E) (out more : List ℕ) →
      CarriesBoth flash holds StandsFor Goes a out b → CarriesBoth flash holds StandsFor Then b more c →
      CarriesBoth flash holds StandsFor (Along Goes Then) a (out ++ more) c
  carries_onward Goes Then a b c out more first second = record {
    asks = first.asks ++ second.asks;
    moved = both_onward flash (holds a.it) (holds b.it) a.faults b.faults first.asks second.asks (outside (holds c.it) c.faults)
        first.moved second.moved;
    leads = λ s left stands answered.
        let parts = answers_go_on.back s.state.device.outcomes left first.asks second.asks answered in
        let u = first.leads s parts.0 stands parts.1 in
        let t = second.leads u.0 left u.2 (subst (λ (o : List Outcome). AreAnswered o second.asks left) (sym u.3) parts.2) in (
          t.0,
          (u.0, u.1, t.1),
          t.2,
          t.3,
          t.4 ∙ ap (λ (x : List ℕ). x ++ more) u.4 ∙ append_assoc (bytes_sent s.state) out more,
          t.5 ∙ ap (λ (l : List Asked). l ++ second.asks) u.5 ∙ append_assoc s.state.device.asked first.asks second.asks,
        );
  }

  -- a relation may be said of what the holder stands for before and after
  pub carries_said : (Goes Then : Session → Session → Type 0) (a b : Place E) (out : List ℕ) →
      ((s t : Session) → Stands StandsFor a s → Stands StandsFor b t → Goes s t → Then s t) →
      CarriesBoth flash holds StandsFor Goes a out b → CarriesBoth flash holds StandsFor Then a out b
  carries_said Goes Then a b out says h = record {
    asks = h.asks;
    moved = h.moved;
    leads = λ s left stands answered.
        let t = h.leads s left stands answered in (t.0, says s t.0 stands t.2 t.1, t.2, t.3, t.4, t.5);
  }

  -- and where nothing is sent, no bytes are
  pub carries_silent : (Goes : Session → Session → Type 0) (a b : Place E) (out : List ℕ) →
      ((s t : Session) → Stands StandsFor a s → Stands StandsFor b t → Goes s t → bytes_sent t.state ≡ bytes_sent s.state) →
      CarriesBoth flash holds StandsFor Goes a out b → CarriesBoth flash holds StandsFor Goes a [] b
  carries_silent Goes a b out silent h = record {
    asks = h.asks;
    moved = h.moved;
    leads = λ s left stands answered.
        let t = h.leads s left stands answered in (
          t.0,
          t.1,
          t.2,
          t.3,
          silent s t.0 stands t.2 t.1 ∙ sym (append-nil (bytes_sent s.state)),
          t.5,
        );
  }

  -- nothing is done
  pub carries_none : (a : E) (n m now : ℕ) → m ≤ now →
      CarriesBoth flash holds StandsFor (λ s t. t ≡ s) (record { it = a; launches = n; faults = m }) []
      (record { it = a; launches = n; faults = now })
  carries_none a n m now less = record {
    asks = [];
    moved = (refl, less);
    leads = λ s left stands answered. (
      s,
      refl,
      record { stands = stands.stands; launches = stands.launches },
      answered,
      sym (append-nil (bytes_sent s.state)),
      sym (append-nil s.state.device.asked),
    );
  }

  -- what asks for no launch
  pub carries_of : (Goes : Session → Session → Type 0) (asks : List Asked) (a b : E) (n m now : ℕ) (out : List ℕ) → m ≤ now →
      (c : Carries flash holds StandsFor (λ s t. Goes s t × (t.state.launches ≡ s.state.launches) ×
      (t.state.device.asked ≡ s.state.device.asked ++ asks)) a out b) → c.asks ≡ asks →
      CarriesBoth flash holds StandsFor Goes (record { it = a; launches = n; faults = m }) out
      (record { it = b; launches = n; faults = now })
  carries_of Goes asks a b n m now out less c same = record {
    asks = c.asks;
    moved = both_flash flash (holds a) (holds b) m now c.asks less c.moved;
    leads = λ s left stands answered.
        let t = c.leads s left stands.stands answered in (
          t.0,
          t.1.0,
          record { stands = t.2; launches = t.1.1 ∙ stands.launches },
          t.3,
          t.4,
          t.1.2 ∙ ap (λ (l : List Asked). s.state.device.asked ++ l) (sym same),
        );
  }

  -- a launch is answered
  pub carries_launch : (outcome : Outcome) (count : ℕ → ℕ) (a b : E) (n m now : ℕ) (out : List ℕ) → IsLaunch outcome m now →
      holds b ≡ holds a →
      ((s : Session) (left : List Outcome) → StandsFor a s → AreAnswered s.state.device.outcomes (launch outcome ∷ []) left →
      StandsFor b (launched_then s) × ((launched_then s).state.device.outcomes ≡ left) ×
      (bytes_sent (launched_then s).state ≡ bytes_sent s.state ++ out) × ((launched_then s).state.launches ≡ count s.state.launches) ×
      ((launched_then s).state.device.asked ≡ s.state.device.asked ++ launch outcome ∷ [])) →
      CarriesBoth flash holds StandsFor (λ s t. t ≡ launched_then s) (record { it = a; launches = n; faults = m }) out
      (record { it = b; launches = count n; faults = now })
  carries_launch outcome count a b n m now out is same answers = record {
    asks = launch outcome ∷ [];
    moved = subst (λ (f : F). MovesBoth flash (outside (holds a) m) (launch outcome ∷ []) (outside f now)) (sym same)
        (both_launch flash (holds a) m now outcome is);
    leads = λ s left stands answered.
        let t = answers s left stands.stands answered in (
          launched_then s,
          refl,
          record { stands = t.0; launches = t.3 ∙ ap count stands.launches },
          t.1,
          t.2,
          t.4,
        );
  }
