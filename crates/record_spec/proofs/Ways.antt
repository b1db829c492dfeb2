-- A line leads to one point only, and what it says of those before it.
use Rattle.std.proofs.Common.{◌≡◌, ℕ, ◌+◌, ◌<◌, ◌⊎◌, inl, inr, Bool, true, false, List, [], ◌∷◌, ◌++◌, length, refl, sym, ap, ◌∙◌, subst}
use Rattle.std.proofs.Common.{append-nil, Some}
use Rattle.std.proofs.lemmas.List.{append_cancel_left}
use Rattle.part_spec.specs.Chip.{Chip}
use Rattle.debug_spec.specs.Debugger.{listens}
use Rattle.debug_spec.specs.Replay.{bytes_sent}
use Rattle.debug_spec.specs.Schedule.{Session}
use Rattle.debug_spec.specs.Take.{FrameWaits, TakesFrame, TakesNone, IsTake, launched_then}
use Rattle.debug_spec.proofs.TakeLemmas.{one_take, none_waits, waits-more}
use Rattle.debug_spec.proofs.Sessions.{EitherBy}
use Rattle.record_spec.specs.Lines.{Event, comes, waits, line_ends, halts, Line, event, out}
use Rattle.record_spec.specs.Fits.{Point, Happens, Reaches, beginning, steps_in}
use Rattle.record_spec.specs.RecordLaws.{OneWay, ComesAlone, FrontsAreTrue}

by_true : (b : Bool) (x y : Type 0) → b ≡ true → x → EitherBy b x y
by_true true x y e h = h
by_true false x y e h = cc

by_true_back : (b : Bool) (x y : Type 0) → b ≡ true → EitherBy b x y → x
by_true_back true x y e h = h
by_true_back false x y e h = cc

-- a frame that waits is taken with no bytes used
pub waiting_take : (part : Chip) (before after : Session) → listens before.state.mode ≡ true → TakesFrame false part [] before after →
    IsTake false part [] [] before after
waiting_take part before after on t =
    by_true (listens before.state.mode) (TakesFrame false part [] before after ⊎ TakesNone [] [] before after) (([] ≡ []) × (after ≡ before))
    on (inl t)

pub one_event : (part : Chip) (what : Event) (before after other : Session) → Happens part what before after → Happens part what before other →
    after ≡ other
one_event part (comes bytes) before after other h k =
    let same = one_take false part bytes [] bytes [] before h.1 k.1 refl h.2 k.2 in
    h.3 ∙ ap launched_then same.2 ∙ sym k.3
one_event part waits before after other h k =
    let same = one_take false part [] [] [] [] before h.1 k.1 refl (waiting_take part before h.1 h.0 h.2) (waiting_take part before k.1 k.0 k.2) in
    h.3 ∙ ap launched_then same.2 ∙ sym k.3
one_event part line_ends before after other h k = h.1 ∙ sym k.1
one_event part (halts end) before after other h k = h.1 ∙ sym k.1

pub one_way : OneWay
one_way part (event what) before after other h k =
    let same = one_event part what before.session h.2 k.2 h.3.happens k.3.happens in
    let bytes : h.1 ≡ k.1 = append_cancel_left (bytes_sent before.session.state) h.1 k.1
    (sym h.3.sends ∙ ap (λ (s : Session). bytes_sent s.state) same ∙ k.3.sends) in
    h.4 ∙ ap (λ (s : Session). record { session = s; owed = Some h.1; steps = before.steps + steps_in (event what) }) same ∙
    ap (λ (b : List ℕ). record { session = k.2; owed = Some b; steps = before.steps + steps_in (event what) }) bytes ∙ sym k.4
one_way part (out bytes) before after other h k = h.1 ∙ sym k.1

waits_none : (part : Chip) (bytes : List ℕ) (before taken : Session) → 0 < length bytes →
    (TakesFrame false part bytes before taken ⊎ TakesNone bytes [] before taken) → FrameWaits before.held → ⊥
waits_none part bytes before taken some (inl t) w =
    t.no_sooner 0 some (subst FrameWaits (sym (append-nil before.held)) w)
waits_none part bytes before taken some (inr t) w =
    let more = waits-more before.held bytes w in
    none_waits (before.held ++ bytes) taken.held more.2 t.ahead more.0 more.1 t.cuts t.partial more.3

pub comes_alone : ComesAlone
comes_alone part bytes before after some h w =
    waits_none part bytes before h.1 some
    (by_true_back (listens before.state.mode) (TakesFrame false part bytes before h.1 ⊎ TakesNone bytes [] before h.1)
    (([] ≡ []) × (h.1 ≡ before)) h.0 h.2) w

reaches_front : (part : Chip) (lines more : List Line) (before end : Point) → Reaches part (lines ++ more) before end →
    (at : Point) × Reaches part lines before at
reaches_front part [] more before end r = (before, refl)
reaches_front part (line ∷ lines) more before end r =
    let later = reaches_front part lines more r.0 end r.2 in (later.0, (r.0, r.1, later.1))

pub fronts_are_true : FrontsAreTrue
fronts_are_true part prog lines more f = reaches_front part lines more (beginning part prog) f.end f.reaches
