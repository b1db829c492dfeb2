-- Each step on the inbox keeps its rule.
use Rattle.std.proofs.Common.{◌≡◌, ◌≢◌, ℕ, ◌≤◌, true, false, true≢false, Bool, List, [], ◌∷◌, ◌++◌, length, set}
use Rattle.std.proofs.Common.{sym, refl, ap, ◌∙◌, subst, ⊎_elim, append_assoc, length-append, arith}
use Rattle.std.specs.Prelude.{Option, None, Some, IfSome}
use Rattle.std.proofs.lemmas.List.{append-nil}
use mathlib.Core.List.{IsPrefix}
use mathlib.Core.Option as maybe
use mathlib.Core.Option.{some, none, some-injective, some-ne-none}
use lib.ListN.{get_elem?}
use Rattle.crossbeam_channel.specs.Fifo.{Pops, Forks, Merges, Learns}
use Rattle.atomic_table.proofs.Lists.{at_set, at_snoc}
use Rattle.ice_inbox.proofs.Views.{All, all_set, all_one, at_end}
use Rattle.ice_inbox.specs.declared.inbox.Note.{Note}
use Rattle.ice_inbox.specs.declared.inbox.Note.TheVariants.{Halted}
use Rattle.ice_inbox.specs.declared.inbox.View.{View}
use Rattle.ice_inbox.specs.Notes.{is_of_line, is_of_target, of_line, of_target, bytes_in, line_limit}
use Rattle.ice_inbox.specs.Posting.{Past, Fits, FitsLine, FitsTarget, FitsReader, Posted, capacity}
use Rattle.ice_inbox.specs.Posting.{whole_view, sender_view, spent_view, sent_more, taken_more, knows_line}
use Rattle.ice_inbox.specs.Posting.{MaySend, Takes, Compares, TakenInOrder}
use Rattle.ice_inbox.proofs.Notes.{of_line-one, bytes_in-front, filter-more, filter-prefix}

-- a flag that is off is not on
off : {A : Type 0} (b : Bool) → b ≡ false → b ≡ true → A
off b is_off is_on = absurd (true≢false (sym is_on ∙ is_off))

-- the line's pass is not two passes
one_line : {A : Type 0} (line : maybe.Option ℕ) (pass j : ℕ) → line ≡ some pass → line ≡ some j → j ≢ pass → A
one_line line pass j here there other = absurd (other (some-injective j pass (sym there ∙ here)))

-- while the line has a pass, nobody knows all that it has sent
no_known : (line : maybe.Option ℕ) (pass : ℕ) (known : Option (List Note)) (by_line : List Note) (F : List Note → Type 0) → line ≡ some pass
    → IfSome known (λ sent. (line ≡ none) × (sent ≡ by_line)) → IfSome known F
no_known line pass None by_line F here k = tt
no_known line pass (Some sent) by_line F here k = absurd (some-ne-none pass (sym here ∙ k.0))

-- so a reader fits whatever the line's pass and list become
other_line : (past : Past) (line : maybe.Option ℕ) (by_line : List Note) (pass j : ℕ) (u : View) → past.line ≡ some pass
    → FitsReader past j u → FitsReader (record past { line = line; by_line = by_line }) j u
other_line past line by_line pass j u here fits reads =
    ((fits reads).0, (fits reads).1, no_known past.line pass u.known past.by_line _ here (fits reads).2)

-- what was taken of the line is a prefix of what is known that it has sent
known_prefix : (line : maybe.Option ℕ) (known : Option (List Note)) (taken items by_line : List Note) → of_line (taken ++ items) ≡ by_line
    → IfSome known (λ sent. (line ≡ none) × (sent ≡ by_line)) → IfSome known (λ sent. IsPrefix (of_line taken) sent)
known_prefix line None taken items by_line whole k = tt
known_prefix line (Some sent) taken items by_line whole k = filter-prefix is_of_line taken items sent (whole ∙ sym k.1)

pub begins : Posted [] (whole_view ∷ [])
begins =
    let past : Past = record { line = some 0; target = 0; reader = 0; by_line = []; by_target = []; taken = [] } in
    record {
      past = past;
      line_order = refl;
      target_order = refl;
      bounded = omega arith;
      room = omega arith;
      each = all_one (Fits past) whole_view ((λ _. (refl, refl)), (λ _. (refl, refl)), (λ _. (refl, refl, tt)));
    }

pub line_sends : (n pass : ℕ) (v : View) (note : Note) → v.lines ≡ true → v.targets ≡ false → is_of_line note ≡ true
    → bytes_in (v.sent ++ note ∷ []) ≤ line_limit → n ≡ capacity → MaySend n pass v note
line_sends n pass v note lines not_target of bounded size items views below h at =
    let mine = h.each pass v at in
    let here = mine.0 lines in
    let one = of_line-one note of in
    let sent : List Note = h.past.by_line ++ note ∷ [] in
    let past : Past = record h.past { by_line = sent } in (
      sent_more v note,
      record {
        past = past;
        line_order = filter-more is_of_line h.past.taken items h.past.by_line (note ∷ []) note h.line_order one.0;
        target_order =
            filter-more is_of_target h.past.taken items h.past.by_target [] note h.target_order one.1 ∙ append-nil h.past.by_target;
        bounded = subst (λ (l : List Note). bytes_in (l ++ note ∷ []) ≤ line_limit) here.1 bounded;
        room = omega (arith, size, below, length-append items (note ∷ []));
        each = all_set (Fits past) views pass (sent_more v note) (
          (λ _. (here.0, ap (λ l. l ++ note ∷ []) here.1)),
          (λ t. off v.targets not_target t),
          other_line h.past _ _ pass pass v here.0 mine.2,
        )
            (λ j u other e. let theirs = h.each j u e in
            ((λ l. one_line _ pass j here.0 (theirs.0 l).0 other), theirs.1, other_line h.past _ _ pass j u here.0 theirs.2));
      },
      refl,
    )

pub target_sends : (n pass : ℕ) (v : View) (number : ℕ) → v.targets ≡ true → v.lines ≡ false → n ≡ capacity
    → MaySend n pass v (Halted number)
target_sends n pass v number targets not_line size items views below h at =
    let mine = h.each pass v at in
    let here = mine.1 targets in
    let note : Note = Halted number in
    let past : Past = record h.past { by_target = h.past.by_target ++ note ∷ [] } in (
      sent_more v note,
      record {
        past = past;
        line_order = filter-more is_of_line h.past.taken items h.past.by_line [] note h.line_order refl ∙ append-nil h.past.by_line;
        target_order = filter-more is_of_target h.past.taken items h.past.by_target (note ∷ []) note h.target_order refl;
        bounded = h.bounded;
        room = omega (arith, size, below, length-append items (note ∷ []));
        each = all_set (Fits past) views pass (sent_more v note)
            ((λ l. off v.lines not_line l), (λ _. (here.0, ap (λ l. l ++ note ∷ []) here.1)), mine.2)
            (λ j u other e. let theirs = h.each j u e in (theirs.0, (λ t. absurd (other (sym (theirs.1 t).0 ∙ here.0))), theirs.2));
      },
      refl,
    )

pub takes : (pass : ℕ) (v : View) → v.reads ≡ true → Pops Posted pass v (Takes v)
takes pass v reads note items views h at =
    let mine = h.each pass v at in
    let here = mine.2 reads in
    let taken : List Note = h.past.taken ++ note ∷ [] in
    let past : Past = record h.past { taken = taken } in
    let lines : of_line (taken ++ items) ≡ h.past.by_line = ap of_line (append_assoc h.past.taken (note ∷ []) items) ∙ h.line_order in
    let whole : of_line ((v.taken ++ note ∷ []) ++ items) ≡ h.past.by_line =
    ap (λ (l : List Note). of_line ((l ++ note ∷ []) ++ items)) here.1 ∙ lines in (
      taken_more v note,
      record {
        past = past;
        line_order = lines;
        target_order = ap (λ (l : List Note). of_target l) (append_assoc h.past.taken (note ∷ []) items) ∙ h.target_order;
        bounded = h.bounded;
        room = omega (arith, h.room);
        each = all_set (Fits past) views pass (taken_more v note)
            (mine.0, mine.1, (λ _. (here.0, ap (λ l. l ++ note ∷ []) here.1, here.2)))
            (λ j u other e. let theirs = h.each j u e in (theirs.0, theirs.1, (λ r. absurd (other (sym (theirs.2 r).0 ∙ here.0)))));
      },
      (
        refl,
        bytes_in-front (v.taken ++ note ∷ []) items h.past.by_line whole h.bounded,
        known_prefix h.past.line v.known (v.taken ++ note ∷ []) items h.past.by_line whole here.2,
      ),
    )

pub compares : (pass : ℕ) (v : View) → v.reads ≡ true → Learns Posted pass v (λ items. Compares v)
compares pass v reads items views h at =
    let here = (h.each pass v at).2 reads in
    let whole : of_line (v.taken ++ items) ≡ h.past.by_line = ap (λ (l : List Note). of_line (l ++ items)) here.1 ∙ h.line_order in
    known_prefix h.past.line v.known v.taken items h.past.by_line whole here.2

-- where only passes change hands, the rule stays as it is
reseated : (items : List Note) (views new : List View) (h : Posted items views) (line : maybe.Option ℕ) (target : ℕ)
    → All (Fits (record h.past { line = line; target = target })) new → Posted items new
reseated items views new h line target each = record {
  past = record h.past { line = line; target = target };
  line_order = h.line_order;
  target_order = h.target_order;
  bounded = h.bounded;
  room = h.room;
  each = each;
}

pub line_leaves : (pass : ℕ) (v : View) → v.lines ≡ true → v.sent ≡ []
    → Forks Posted pass v (record v { lines = false }) (sender_view true false)
line_leaves pass v lines none_sent items views h at =
    let mine = h.each pass v at in
    let here = mine.0 lines in
    let left : View = record v { lines = false } in
    let right : View = sender_view true false in
    let vs : List View = set views pass left in
    let past : Past = record h.past { line = some (length vs) } in
    let nothing_sent : (u : View) → right ≡ u → u.sent ≡ h.past.by_line =
    λ u is. ap (λ (y : View). y.sent) (sym is) ∙ sym none_sent ∙ here.1 in
    let Old : ℕ → View → Type 0 = λ j u. (u.lines ≢ true) × FitsTarget past j u × FitsReader past j u in
    let old : All Old vs = all_set Old views pass left
    ((λ l. true≢false (sym l)), mine.1, other_line h.past _ _ pass pass v here.0 mine.2)
    (λ j u other e. let theirs = h.each j u e in
    ((λ l. one_line _ pass j here.0 (theirs.0 l).0 other), theirs.1, other_line h.past _ _ pass j u here.0 theirs.2)) in
    reseated items views _ h (some (length vs)) h.past.target
    (λ j u e.
    ⊎_elim (λ (x : get_elem? vs j ≡ some u). ((λ l. absurd ((old j u x).0 l)), (old j u x).1, (old j u x).2))
    (λ (is : right ≡ u). (
      (λ l. (ap some (sym (at_end vs right u j (λ x. (old j u x).0 l) e)), nothing_sent u is)),
      (λ t. off u.targets (ap (λ (y : View). y.targets) (sym is)) t),
      (λ r. off u.reads (ap (λ (y : View). y.reads) (sym is)) r),
    )) (at_snoc vs right u j e))

pub target_leaves : (pass : ℕ) (v : View) → v.targets ≡ true → v.sent ≡ []
    → Forks Posted pass v (record v { targets = false }) (sender_view false true)
target_leaves pass v targets none_sent items views h at =
    let mine = h.each pass v at in
    let here = mine.1 targets in
    let left : View = record v { targets = false } in
    let right : View = sender_view false true in
    let vs : List View = set views pass left in
    let past : Past = record h.past { target = length vs } in
    let nothing_sent : (u : View) → right ≡ u → u.sent ≡ h.past.by_target =
    λ u is. ap (λ (y : View). y.sent) (sym is) ∙ sym none_sent ∙ here.1 in
    let Old : ℕ → View → Type 0 = λ j u. FitsLine past j u × (u.targets ≢ true) × FitsReader past j u in
    let old : All Old vs = all_set Old views pass left (mine.0, (λ t. true≢false (sym t)), mine.2)
    (λ j u other e. let theirs = h.each j u e in (theirs.0, (λ t. other (sym (theirs.1 t).0 ∙ here.0)), theirs.2)) in
    reseated items views _ h h.past.line (length vs)
    (λ j u e.
    ⊎_elim (λ (x : get_elem? vs j ≡ some u). ((old j u x).0, (λ t. absurd ((old j u x).1 t)), (old j u x).2))
    (λ (is : right ≡ u). (
      (λ l. off u.lines (ap (λ (y : View). y.lines) (sym is)) l),
      (λ t. (sym (at_end vs right u j (λ x. (old j u x).1 t) e), nothing_sent u is)),
      (λ r. off u.reads (ap (λ (y : View). y.reads) (sym is)) r),
    )) (at_snoc vs right u j e))

pub line_returns : (pass : ℕ) (v : View) (other : ℕ) (u : View) → v.reads ≡ true → u.lines ≡ true
    → Merges Posted pass v other u (knows_line v u) spent_view
line_returns pass v other u reads lines items views h at two at' =
    let both : View = knows_line v u in
    let mine = h.each pass v at in
    let here = mine.2 reads in
    let vs : List View = set views pass both in
    let was : get_elem? views other ≡ some u = ⊎_elim (λ x. absurd (two x.0)) (λ x. x.1) (at_set views pass other both u at') in
    let theirs = (h.each other u was).0 lines in
    let past : Past = record h.past { line = none } in
    let Now : ℕ → View → Type 0 = λ j y. j ≢ other → Fits past j y in
    let now : All Now vs = all_set Now views pass both
    (λ apart. ((λ l. one_line _ other pass theirs.0 (mine.0 l).0 apart), mine.1, (λ _. (here.0, here.1, (refl, theirs.1)))))
    (λ j y away e apart. let its = h.each j y e in
    ((λ l. one_line _ other j theirs.0 (its.0 l).0 apart), its.1, (λ r. absurd (away (sym (its.2 r).0 ∙ here.0))))) in
    reseated items views _ h none h.past.target
    (all_set (Fits past) vs other spent_view ((λ l. off false refl l), (λ t. off false refl t), (λ r. off false refl r))
    (λ j y apart e. now j y e apart))

pub taken_in_order : (items : List Note) (views : List View) → Posted items views → TakenInOrder views
taken_in_order items views h i j sender reader at_sender at_reader reads =
    let its = h.each i sender at_sender in
    let here = (h.each j reader at_reader).2 reads in (
      (λ lines. filter-prefix is_of_line reader.taken items sender.sent
          (ap (λ (l : List Note). of_line (l ++ items)) here.1 ∙ h.line_order ∙ sym (its.0 lines).1)),
      (λ targets. filter-prefix is_of_target reader.taken items sender.sent
          (ap (λ (l : List Note). of_target (l ++ items)) here.1 ∙ h.target_order ∙ sym (its.1 targets).1)),
    )
