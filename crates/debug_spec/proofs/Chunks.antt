-- Chunks of bytes go on, and may be heard in parts.
use Rattle.std.proofs.Common.{◌≡◌, ℕ, Bool, true, false, List, [], ◌∷◌, ◌++◌, refl, sym, ◌∙◌, ap, subst, append_assoc}
use Rattle.std.proofs.lemmas.Bool.{true≢false}
use Rattle.part_spec.specs.Chip.{Chip}
use Rattle.line_spec.specs.Frames.{IsPartial}
use Rattle.line_spec.specs.Cut.{Item, Cuts}
use Rattle.line_spec.proofs.Cuts.{Cuts-more, Cuts-append}
use Rattle.line_spec.specs.Hearing.{Heard, HearsAll}
use Rattle.debug_spec.specs.Debugger.{Debugger, listens}
use Rattle.debug_spec.specs.Commands.{item_launched}
use Rattle.debug_spec.specs.Schedule.{Session, heard_all, Keeps, Holds, IsPiece, IsHeard}
use Rattle.debug_spec.specs.SessionLaws.{ChunksGoOn, PartsMakeChunks}
use Rattle.debug_spec.proofs.Sessions.{EitherBy}

pub HearsAll-append : (items more : List Item) (heard then_on : List Heard) → HearsAll items heard → HearsAll more then_on →
    HearsAll (items ++ more) (heard ++ then_on)
HearsAll-append [] more [] then_on first later = later
HearsAll-append [] more (one ∷ heard) then_on first later = absurd first
HearsAll-append (item ∷ items) more [] then_on first later = absurd first
HearsAll-append (item ∷ items) more (one ∷ heard) then_on first later = (first.0, HearsAll-append items more heard then_on first.1 later)

pub heard_all-append : (planted : Bool) (part : Chip) (heard then_on : List Heard) (s : Debugger) →
    heard_all planted part (heard ++ then_on) s ≡ heard_all planted part then_on (heard_all planted part heard s)
heard_all-append planted part [] then_on s = refl
heard_all-append planted part (one ∷ heard) then_on s = heard_all-append planted part heard then_on (item_launched planted part one s)

module _ (planted : Bool) (part : Chip) (first second : List ℕ) (before between after : Session) where
  -- two chunks of which the second is heard, and of which it is ignored
  both_heard : (one : IsHeard planted part first before between) → between.held ≡ one.behind → IsHeard planted part second between after →
      IsHeard planted part (first ++ second) before after
  both_heard one held two = record {
    items = one.items ++ two.items;
    behind = two.behind;
    heard = one.heard ++ two.heard;
    cuts = subst (λ (x : List ℕ). Cuts x (one.items ++ two.items) two.behind) (append_assoc before.held first second)
        (Cuts-append ((before.held ++ first) ++ second) (one.behind ++ second) two.behind one.items two.items
        (Cuts-more (before.held ++ first) second one.behind one.items one.cuts)
        (subst (λ (x : List ℕ). Cuts (x ++ second) two.items two.behind) held two.cuts));
    hears = HearsAll-append one.items two.items one.heard two.heard one.hears two.hears;
    state = two.state ∙ ap (heard_all planted part two.heard) one.state ∙
        sym (heard_all-append planted part one.heard two.heard before.state);
    holds = two.holds;
  }

  pub first_heard : (one : IsHeard planted part first before between) → listens between.state.mode ≡ false → between.held ≡ [] →
      after ≡ between →
      IsHeard planted part (first ++ second) before after
  first_heard one deaf held same = record {
    items = one.items;
    behind = one.behind ++ second;
    heard = one.heard;
    cuts = subst (λ (x : List ℕ). Cuts x one.items (one.behind ++ second)) (append_assoc before.held first second)
        (Cuts-more (before.held ++ first) second one.behind one.items one.cuts);
    hears = one.hears;
    state = ap (λ (x : Session). x.state) same ∙ one.state;
    holds = subst (λ (b : Bool). Holds b (one.behind ++ second) after.held) (sym (ap (λ (x : Session). listens x.state.mode) same ∙ deaf))
        (ap (λ (x : Session). x.held) same ∙ held);
  }

  go_on : (a : Bool) → listens before.state.mode ≡ a → (b : Bool) → listens between.state.mode ≡ b →
      EitherBy a (IsHeard planted part first before between) (between ≡ before) →
      EitherBy b (IsHeard planted part second between after) (after ≡ between) →
      EitherBy a (IsHeard planted part (first ++ second) before after) (after ≡ before)
  go_on true at_first true at_second one two =
      both_heard one (subst (λ (b : Bool). Holds b one.behind between.held) at_second one.holds).1 two
  go_on true at_first false at_second one two =
      first_heard one at_second (subst (λ (b : Bool). Holds b one.behind between.held) at_second one.holds) two
  go_on false at_first true at_second one two =
      absurd (true≢false (sym at_second ∙ ap (λ (x : Session). listens x.state.mode) one ∙ at_first))
  go_on false at_first false at_second one two = two ∙ one

pub chunks_go_on : ChunksGoOn
chunks_go_on planted part first second before between after one two =
    go_on planted part first second before between after (listens before.state.mode) refl (listens between.state.mode) refl one two

-- parts of a chunk
module _ (planted : Bool) (part : Chip) where
  parts_onward : (first second : List ℕ) (before between after : Session) → (one : IsPiece planted part first before between) →
      between.held ≡ one.behind →
      IsPiece planted part second between after → IsPiece planted part (first ++ second) before after
  parts_onward first second before between after one held two = record {
    items = one.items ++ two.items;
    behind = two.behind;
    heard = one.heard ++ two.heard;
    cuts = subst (λ (x : List ℕ). Cuts x (one.items ++ two.items) two.behind) (append_assoc before.held first second)
        (Cuts-append ((before.held ++ first) ++ second) (one.behind ++ second) two.behind one.items two.items
        (Cuts-more (before.held ++ first) second one.behind one.items one.cuts)
        (subst (λ (x : List ℕ). Cuts (x ++ second) two.items two.behind) held two.cuts));
    hears = HearsAll-append one.items two.items one.heard two.heard one.hears two.hears;
    state = two.state ∙ ap (heard_all planted part two.heard) one.state ∙
        sym (heard_all-append planted part one.heard two.heard before.state);
    keeps = two.keeps;
  }

  part_whole : (chunk : List ℕ) (before after : Session) → (one : IsPiece planted part chunk before after) →
      (listens after.state.mode ≡ true → IsPartial after.held) →
      IsHeard planted part chunk before after
  part_whole chunk before after one partial = record {
    items = one.items;
    behind = one.behind;
    heard = one.heard;
    cuts = one.cuts;
    hears = one.hears;
    state = one.state;
    holds = by_listens (listens after.state.mode) partial one.keeps;
  }
    where
      by_listens : (b : Bool) → (b ≡ true → IsPartial after.held) → Keeps b one.behind after.held → Holds b one.behind after.held
      by_listens true partial e = (subst IsPartial e (partial refl), e)
      by_listens false partial e = e

pub parts_make_chunks : PartsMakeChunks
parts_make_chunks = record {
  onward = λ planted part first second before between after one hears two.
      parts_onward planted part first second before between after one
      (subst (λ (b : Bool). Keeps b one.behind between.held) hears one.keeps) two;
  whole = λ planted part chunk before after hears one partial.
      subst (λ (b : Bool). EitherBy b (IsHeard planted part chunk before after) (after ≡ before)) (sym hears)
      (part_whole planted part chunk before after one partial);
}
