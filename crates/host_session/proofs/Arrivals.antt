-- How bytes that have come are looked at.
use Rattle.std.proofs.Common.{◌≡◌, ℕ, ◌+◌, ◌-◌, ◌<◌, ◌≤◌, ◌⊎◌, inl, inr, List, [], ◌++◌, Option, None, Some, IfNone, length, take, drop}
use Rattle.std.proofs.Common.{sym, subst, ap, ◌∙◌, append-nil, append_assoc, take-append-drop, length-take, arith}
use Rattle.std.proofs.lemmas.Bool.{cases_lt}
use Rattle.std.proofs.lemmas.List.{drop-take, drop-drop}
use Rattle.std.proofs.Math.ListN.{drop_of_length-le}
use Rattle.line_spec.specs.Frames.{IsPartial}
use Rattle.line_spec.proofs.Cuts.{Begins-more, Cuts-more}
use Rattle.ice_frame.specs.Front.{frame_of}
use Rattle.ice_frame.specs.declared.frame.Frame.{Frame as Read}
use Rattle.ice_recv.specs.Received.{Received}
use Rattle.ice_recv.specs.Receiving.{Waits, Drops}
use Rattle.ice_recv.specs.Handing.{Hands}
use Rattle.host_session.specs.Hearing.{SkipsJunk, HandsNext}

-- what is behind the first bytes of a part
part_behind : (from to n : ℕ) (bytes : List ℕ) → n ≤ to - from
    → take (to - (from + n)) (drop (from + n) bytes) ≡ drop n (take (to - from) (drop from bytes))
part_behind from to n bytes h =
    let size : n + (to - (from + n)) ≡ to - from = omega (arith, h) in
    ap (λ (t : List ℕ). take (to - (from + n)) t) (sym (drop-drop n from bytes)) ∙ sym (drop-take n (to - (from + n)) (drop from bytes))
    ∙ ap (λ (k : ℕ). drop n (take k (drop from bytes))) size

-- the junk of the bytes that are fed is skipped, whatever comes behind them
skips_fed : (held behind : List ℕ) (n dropped : ℕ) (middle : Received) → Drops (held ++ take n behind) dropped middle
    → SkipsJunk (held ++ behind) (middle.held ++ drop n behind)
skips_fed held behind n dropped middle d =
    let P : List ℕ → Type 0 = λ t. SkipsJunk t (middle.held ++ drop n behind) in
    let all : (held ++ take n behind) ++ drop n behind ≡ held ++ behind =
    append_assoc held (take n behind) (drop n behind) ∙ ap (λ (t : List ℕ). held ++ t) (take-append-drop n behind) in
    subst P all (record {
      items = d.items;
      cuts = Cuts-more (held ++ take n behind) (drop n behind) middle.held d.items d.cuts;
      only = d.only;
    })

none_behind : (behind : List ℕ) (n : ℕ) (W : Type 0) → (W → ⊥) → (n < length behind → W) → drop n behind ≡ []
none_behind behind n W none all = elim (cases_lt n (length behind)) [
  | inl less ↦ absurd (none (all less))
  | inr more ↦ drop_of_length-le behind more
]

left_partial : (held : List ℕ) → (Waits held → ⊥) → Waits held ⊎ IsPartial held → IsPartial held
left_partial held none (inl waits) = absurd (none waits)
left_partial held none (inr partial) = partial

-- bytes are fed, and the frame that then waits is handed out
hands_fed : (held behind : List ℕ) (n dropped : ℕ) (middle after : Received) (read : Option Read)
    → Drops (held ++ take n behind) dropped middle → (n < length behind → Waits middle.held) → Hands middle read after
    → HandsNext (held ++ behind) read (after.held ++ drop n behind)
hands_fed held behind n dropped middle after None d all h =
    let rest : drop n behind ≡ [] = none_behind behind n (Waits middle.held) h.0 all in
    let same : after.held ++ drop n behind ≡ middle.held ++ drop n behind = ap (λ (r : Received). r.held ++ drop n behind) h.1 in
    let alone : after.held ++ drop n behind ≡ middle.held = same ∙ ap (λ (t : List ℕ). middle.held ++ t) rest ∙ append-nil middle.held in
    let P : List ℕ → Type 0 = λ t. SkipsJunk (held ++ behind) t in
    let Q : List ℕ → Type 0 = λ t. IsPartial t in
    (subst P (sym same) (skips_fed held behind n dropped middle d), subst Q (sym alone) (left_partial middle.held h.0 d.settled))
hands_fed held behind n dropped middle after (Some read) d all h = record {
  at = middle.held ++ drop n behind;
  behind = h.0 ++ drop n behind;
  ahead = skips_fed held behind n dropped middle d;
  begins = Begins-more middle.held h.0 (drop n behind) (frame_of read) h.1;
  rest = record { items = h.2.items; cuts = Cuts-more h.0 (drop n behind) after.held h.2.items h.2.cuts; only = h.2.only };
}

-- where none is handed out, all were fed
all_fed : (behind : List ℕ) (n : ℕ) (middle after : Received) (read : Option Read) → (n < length behind → Waits middle.held)
    → Hands middle read after → IfNone read (drop n behind ≡ [])
all_fed behind n middle after None all h = none_behind behind n (Waits middle.held) h.0 all
all_fed behind n middle after (Some read) all h = tt

-- a part of a chunk is fed, and the frame that then waits is handed out; where none is, the whole part was fed
pub hands_part : (held chunk part : List ℕ) (from to n dropped : ℕ) (middle after : Received) (read : Option Read)
    → part ≡ take (to - from) (drop from chunk) → n ≤ length part → Drops (held ++ take n part) dropped middle
    → (n < length part → Waits middle.held) → Hands middle read after
    → HandsNext (held ++ take (to - from) (drop from chunk)) read (after.held ++ take (to - (from + n)) (drop (from + n) chunk))
    × IfNone read (take (to - (from + n)) (drop (from + n) chunk) ≡ [])
hands_part held chunk part from to n dropped middle after read p most d all h =
    let size : n ≤ to - from = omega (arith, most, ap length p, length-take (to - from) (drop from chunk)) in
    let rest : drop n part ≡ take (to - (from + n)) (drop (from + n) chunk) =
    ap (λ (t : List ℕ). drop n t) p ∙ sym (part_behind from to n chunk size) in
    let P : List ℕ → List ℕ → Type 0 = λ before behind. HandsNext (held ++ before) read (after.held ++ behind) in
    let Q : List ℕ → Type 0 = λ behind. IfNone read (behind ≡ []) in
    let fed : P part (drop n part) = hands_fed held part n dropped middle after read d all h in (
      subst (P (take (to - from) (drop from chunk))) rest (subst (λ (t : List ℕ). P t (drop n part)) p fed),
      subst Q rest (all_fed part n middle after read all h),
    )
