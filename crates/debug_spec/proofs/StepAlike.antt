-- Steps and stops under a program and under the same with a set planted in it.
use Rattle.std.proofs.Common.{◌≡◌, ℕ, suc, ◌+◌, ◌/◌, ◌%◌, ◌<◌, ◌≤◌, ◌==◌, ◌&&◌, ◌||◌, not, cond, Bool, true, false, List, [], map, length}
use Rattle.std.proofs.Common.{Option, Some, None, refl, subst, sym, ◌∙◌, ap, arith, ◌⊎◌, inl, inr}
use Rattle.std.specs.Prelude.{ltb}
use Rattle.std.proofs.Math.Nat.{mod-eq_of_lt, mod_self}
use Rattle.std.proofs.lemmas.List.{get_or_past}
use Rattle.std.proofs.lemmas.Bool.{and_parts, or_cases, and_cases, not-true, ltb-true, cases_Bool, cases_lt, or_left, cond-true, true≢false}
use Rattle.part_spec.specs.Chip.{Chip, words_of}
use Rattle.avr_spec.specs.declared.instruction.Instr.{Instr}
use Rattle.avr_spec.specs.declared.instruction.Instr.TheVariants.{Nop, Lds, Sts, Jmp, Call, Break}
use Rattle.avr_spec.specs.declared.target.Vector.{Vector}
use Rattle.avr_spec.specs.declared.target.Ahead.{Ahead}
use Rattle.avr_spec.specs.declared.target.Ahead.TheVariants.{Interrupt, Ready, Break as BreakAhead, Undefined as UndefinedAhead}
use Rattle.avr_spec.specs.Bytes.{low, high}
use Rattle.avr_spec.specs.Decode.{decode, words, skips, two_word, is_skip}
use Rattle.avr_spec.specs.Table.{table}
use Rattle.avr_spec.specs.Machine.{Machine}
use Rattle.avr_spec.specs.Effect.{Effect, Acts, Skips, Reads_flash, At_break, At_undefined, effect}
use Rattle.avr_spec.specs.Step.{word_at, behind, instr_at, ended, advanced, due, finished, effect_here, executed, step, seen, ahead, go_by}
use Rattle.avr_spec.specs.Step.{go_on}
use Rattle.avr_spec.specs.Laws.{SameByteRead}
use Rattle.avr_spec.proofs.RowLemmas.{told_by_first, first_word_tells}
use Rattle.avr_spec.proofs.StepLemmas.{step_by, step-is, ahead_by, ahead-is, go-is, ahead_sees_one_word}
use Rattle.debug_spec.specs.Patch.{break_word, has, patch, before}
use Rattle.debug_spec.specs.Stop.{Cause, breakpoint, own_break, undefined, compared, word_stop, stop_by, stop}
use Rattle.debug_spec.specs.Clean.{reads_planted, is_clean, clean_step}
use Rattle.debug_spec.specs.RunLaws.{StepsAlike, DueStepsAlike, AllPlantable, CleanStepsAlike, StopsAgree, named, PlantedWordsStop}
use Rattle.debug_spec.specs.RunLaws.{IsReason, StopsHaveReasons}
use Rattle.debug_spec.proofs.Sets.{patch-kept, patch-planted}

-- a step and a look ahead, where it is known what is due
step_told : (part : Chip) (p : Machine) (flash : List ℕ) (o : Option Vector) → due part p ≡ o → step part p flash ≡ step_by part p flash o
step_told part p flash o e = step-is part p flash ∙ ap (step_by part p flash) e

pub ahead_told : (part : Chip) (p : Machine) (flash : List ℕ) (o : Option Vector) → due part p ≡ o → ahead part p flash ≡ ahead_by p flash o
ahead_told part p flash o e = ahead-is part p flash ∙ ap (ahead_by p flash) e

-- where the look ahead and the step are the same, so is the step that runs a BREAK
go_alike : (part : Chip) (p : Machine) (flash other : List ℕ) → ahead part p flash ≡ ahead part p other →
    step part p flash ≡ step part p other → go_on part p flash ≡ go_on part p other
go_alike part p flash other same_ahead same_step =
    go-is part p flash ∙ ap (go_by part p flash) same_ahead ∙ by_ahead (ahead part p other) ∙ sym (go-is part p other)
  where
    by_ahead : (a : Ahead) → go_by part p flash a ≡ go_by part p other a
    by_ahead BreakAhead = refl
    by_ahead Interrupt = same_step
    by_ahead Ready = same_step
    by_ahead UndefinedAhead = same_step

pub due_steps_alike : DueStepsAlike
due_steps_alike part p flash other v e =
    let same : step part p flash ≡ step part p other = step_told part p flash (Some v) e ∙ sym (step_told part p other (Some v) e) in
    let look : ahead part p flash ≡ ahead part p other = ahead_told part p flash (Some v) e ∙ sym (ahead_told part p other (Some v) e) in
    (same, go_alike part p flash other look same)

-- an instruction of one word, as it is; one of two words, as none
one_word : Instr → Instr
one_word (Lds d address) = Nop
one_word (Sts r address) = Nop
one_word (Jmp k) = Nop
one_word (Call k) = Nop
one_word instr = instr

one_word_told : (fields : ℕ → ℕ) (second : ℕ) →
    map (λ row. one_word (row.instr fields second)) table ≡ map (λ row. one_word (row.instr fields 0)) table
unfolding one_word
one_word_told fields second = refl

one_word_is : (instr : Instr) → (words instr == 2) ≡ false → one_word instr ≡ instr
unfolding one_word
one_word_is (Lds d address) e = absurd (true≢false e)
one_word_is (Sts r address) e = absurd (true≢false e)
one_word_is (Jmp k) e = absurd (true≢false e)
one_word_is (Call k) e = absurd (true≢false e)
one_word_is _ e = refl

two_words_told : (first second : ℕ) → (words (decode first second) == 2) ≡ two_word first
two_words_told first second = ap (λ (n : ℕ). n == 2) (first_word_tells first second).0

-- an instruction of one word does not depend on the word behind it
one_word_decoded : (first second other : ℕ) → two_word first ≡ false → decode first second ≡ decode first other
one_word_decoded first second other e =
    sym (one_word_is (decode first second) (two_words_told first second ∙ e)) ∙
    told_by_first one_word one_word_told first second ∙
    sym (told_by_first one_word one_word_told first other) ∙
    one_word_is (decode first other) (two_words_told first other ∙ e)

-- an effect skips
skips_by : Effect → Bool
skips_by (Acts cycles after) = false
skips_by (Skips over) = true
skips_by (Reads_flash cycles address after) = false
skips_by At_break = false
skips_by At_undefined = false

effect_skips : (part : Chip) (p : Machine) (instr : Instr) → skips_by (effect part instr p) ≡ skips instr
unfolding skips_by
effect_skips part p Break = refl
effect_skips part p _ = refl

-- an effect comes out the same where what it skips has one length and what it reads is one byte
finished_alike : (part : Chip) (p : Machine) (flash other : List ℕ) (e : Effect) →
    (skips_by e ≡ true → words (decode (word_at flash (behind part p.pc 1)) 0) ≡ words (decode (word_at other (behind part p.pc 1)) 0)) →
    SameByteRead e flash other → finished part p flash e ≡ finished part p other e
unfolding skips_by
finished_alike part p flash other (Acts cycles after) skipped byte = refl
finished_alike part p flash other (Skips over) skipped byte =
    ap (λ (w : ℕ). let n = cond over w 0 in ended (1 + n) p (advanced part (1 + n) p)) (skipped refl)
finished_alike part p flash other (Reads_flash cycles address after) skipped byte = ap (λ (b : ℕ). ended cycles p (after b)) byte
finished_alike part p flash other At_break skipped byte = refl
finished_alike part p flash other At_undefined skipped byte = refl

-- a byte of a word that is not planted is the program's
same_byte : (prog set : List ℕ) (e : Effect) → reads_planted set e ≡ false → SameByteRead e (patch prog set) prog
same_byte prog set (Acts cycles after) h = tt
same_byte prog set (Skips over) h = tt
same_byte prog set (Reads_flash cycles address after) h =
    ap (λ (w : ℕ). cond (address % 2 == 0) (low w) (high w)) (patch-kept prog set (address / 2) h)
same_byte prog set At_break h = tt
same_byte prog set At_undefined h = tt

-- the word of a BREAK has one word
break_is_one_word : (second : ℕ) → words (decode break_word second) ≡ 1
unfolding decode
break_is_one_word second = refl

-- the word behind the last of the flash is a NOP
nothing_skips : (second : ℕ) → skips (decode 0 second) ≡ false
unfolding decode
nothing_skips second = refl

one_or_two : (instr : Instr) → (words instr == 2) ≡ false → words instr ≡ 1
one_or_two (Lds d address) e = absurd (true≢false e)
one_or_two (Sts r address) e = absurd (true≢false e)
one_or_two (Jmp k) e = absurd (true≢false e)
one_or_two (Call k) e = absurd (true≢false e)
one_or_two _ e = refl

-- the address before the one behind another is that one
before_behind : (part : Chip) (pc : ℕ) → pc < words_of part → before part (behind part pc 1) ≡ pc
before_behind part pc inside = by_place (cases_lt (pc + 1) (words_of part))
  where
    by_place : ((pc + 1 < words_of part) ⊎ (words_of part ≤ pc + 1)) → before part (behind part pc 1) ≡ pc
    by_place (inl low) =
        let next : behind part pc 1 ≡ suc pc = mod-eq_of_lt low ∙ (let h : pc + 1 ≡ suc pc = omega arith in h) in
        ap (before part) next
    by_place (inr high) =
        let last : pc + 1 ≡ words_of part = omega arith in
        let next : behind part pc 1 ≡ 0 = ap (λ (n : ℕ). n % words_of part) last ∙ mod_self (words_of part) in
        ap (before part) next ∙ (let h : before part 0 ≡ pc = omega arith in h)

module _ (part : Chip) (p : Machine) (prog set : List ℕ) (whole : length prog ≡ words_of part) (plants : AllPlantable part prog set)
    (here : has set p.pc ≡ false) where
  next : ℕ
  next = behind part p.pc 1

  -- at pc the words are the same
  same_here : word_at (patch prog set) p.pc ≡ word_at prog p.pc
  same_here = patch-kept prog set p.pc here

  -- what a skip goes over has one length: a planted word is a BREAK, and no two-word instruction stood there
  same_skipped : skips (decode (word_at prog p.pc) 0) ≡ true →
      words (decode (word_at (patch prog set) next) 0) ≡ words (decode (word_at prog next) 0)
  unfolding next
  same_skipped skip = by_planted (cases_Bool (has set next)) (cases_lt p.pc (words_of part))
    where
      by_planted : (has set next ≡ true) ⊎ (has set next ≡ false) → (p.pc < words_of part) ⊎ (words_of part ≤ p.pc) →
          words (decode (word_at (patch prog set) next) 0) ≡ words (decode (word_at prog next) 0)
      by_planted (inr out) place = ap (λ (w : ℕ). words (decode w 0)) (patch-kept prog set next out)
      by_planted (inl in_set) (inr past) =
          let none : word_at prog p.pc ≡ 0 = get_or_past prog p.pc 0 (omega (arith, whole, past)) in
          absurd (true≢false (sym skip ∙ ap (λ (w : ℕ). skips (decode w 0)) none ∙ nothing_skips 0))
      by_planted (inl in_set) (inl inside) =
          let may = and_parts (ltb next (words_of part)) (not (two_word (word_at prog next) && is_skip (word_at prog (before part next))))
          (plants next in_set) in
          let in_flash : next < length prog = omega (arith, ltb-true next (words_of part) may.0, whole) in
          let skip_before : is_skip (word_at prog (before part next)) ≡ true =
          ap (λ (a : ℕ). is_skip (word_at prog a)) (before_behind part p.pc inside) ∙ skip in
          let one : words (decode (word_at prog next) 0) ≡ 1 = one_or_two (decode (word_at prog next) 0)
          (no_left (two_word (word_at prog next)) (is_skip (word_at prog (before part next)))
          (not-true (two_word (word_at prog next) && is_skip (word_at prog (before part next))) may.1) skip_before) in
          ap (λ (w : ℕ). words (decode w 0)) (patch-planted prog set next in_set in_flash) ∙ break_is_one_word 0 ∙ sym one
        where
          no_left : (a b : Bool) → (a && b) ≡ false → b ≡ true → a ≡ false
          no_left true b e h = absurd (true≢false (sym h ∙ e))
          no_left false b e h = refl

  -- the instruction at pc is the same: where the word behind it is planted, it has one word
  same_instr : ((words (instr_at part prog p.pc) == 2) && has set next) ≡ false →
      instr_at part (patch prog set) p.pc ≡ instr_at part prog p.pc
  unfolding next
  same_instr clean =
      ap (λ (w : ℕ). decode w (word_at (patch prog set) next)) same_here ∙
      by_cases (and_cases (words (instr_at part prog p.pc) == 2) (has set next) clean)
    where
      by_cases : ((words (instr_at part prog p.pc) == 2) ≡ false) ⊎ (has set next ≡ false) →
          decode (word_at prog p.pc) (word_at (patch prog set) next) ≡ instr_at part prog p.pc
      by_cases (inl one) =
          let first : two_word (word_at prog p.pc) ≡ false = sym (two_words_told (word_at prog p.pc) (word_at prog next)) ∙ one in
          one_word_decoded (word_at prog p.pc) (word_at (patch prog set) next) (word_at prog next) first
      by_cases (inr out) = ap (decode (word_at prog p.pc)) (patch-kept prog set next out)

  same_executed : is_clean part p set (instr_at part prog p.pc) ≡ true → executed part p (patch prog set) ≡ executed part p prog
  unfolding next
  same_executed clean =
      let instr = instr_at part prog p.pc in
      let parts = and_parts (not ((words instr == 2) && has set (behind part p.pc 1))) (not (reads_planted set (effect_here part p instr)))
      clean in
      let skipped : skips_by (effect_here part p instr) ≡ true →
      words (decode (word_at (patch prog set) (behind part p.pc 1)) 0) ≡ words (decode (word_at prog (behind part p.pc 1)) 0) =
      λ e. same_skipped (sym (first_word_tells (word_at prog p.pc) (word_at prog (behind part p.pc 1))).1 ∙
      sym (effect_skips part (advanced part (words instr) p) instr) ∙ e) in
      ap (λ (i : Instr). finished part p (patch prog set) (effect_here part p i))
      (same_instr (not-true ((words instr == 2) && has set (behind part p.pc 1)) parts.0)) ∙
      finished_alike part p (patch prog set) prog (effect_here part p instr) skipped
      (same_byte prog set (effect_here part p instr) (not-true (reads_planted set (effect_here part p instr)) parts.1))

  steps_alike : clean_step part p prog set ≡ true → StepsAlike part p (patch prog set) prog
  steps_alike clean = by_due (due part p) refl clean
    where
      by_due : (o : Option Vector) → due part p ≡ o →
          (elim o [ Some v ↦ true | None ↦ is_clean part p set (instr_at part prog p.pc) ]) ≡ true →
          StepsAlike part p (patch prog set) prog
      by_due (Some v) e h = due_steps_alike part p (patch prog set) prog v e
      by_due None e h =
          let same : step part p (patch prog set) ≡ step part p prog =
          step_told part p (patch prog set) None e ∙ same_executed h ∙ sym (step_told part p prog None e) in
          (same, go_alike part p (patch prog set) prog (ahead_sees_one_word part p (patch prog set) prog same_here) same)

pub clean_steps_alike : CleanStepsAlike
clean_steps_alike part p prog set whole plants here clean = steps_alike part p prog set whole plants here clean

-- an instruction ahead: an address comes before its word
stop_at_instr : (pc : ℕ) (set : List ℕ) (comparators : List (Option ℕ)) (instr : Instr) →
    stop_by pc set comparators (seen instr) ≡ cond (has set pc || compared comparators pc) (Some breakpoint) (word_stop (seen instr))
stop_at_instr pc set comparators Break = refl
stop_at_instr pc set comparators _ = refl

-- what stops the target, told what is due
abbrev pub stop_due : Machine → List ℕ → List ℕ → List (Option ℕ) → Option Vector → Option Cause
stop_due p flash set comparators (Some v) = None
stop_due p flash set comparators None =
    cond (has set p.pc || compared comparators p.pc) (Some breakpoint) (word_stop (seen (decode (word_at flash p.pc) 0)))

pub stop-is : (part : Chip) (p : Machine) (flash set : List ℕ) (comparators : List (Option ℕ)) →
    stop part p flash set comparators ≡ stop_due p flash set comparators (due part p)
stop-is part p flash set comparators = ap (stop_by p.pc set comparators) (ahead-is part p flash) ∙ by_due (due part p)
  where
    by_due : (o : Option Vector) → stop_by p.pc set comparators (ahead_by p flash o) ≡ stop_due p flash set comparators o
    by_due (Some v) = refl
    by_due None = stop_at_instr p.pc set comparators (decode (word_at flash p.pc) 0)

pub stops_agree : StopsAgree
stops_agree part p prog set comparators =
    stop-is part p (patch prog set) set comparators ∙ by_due (due part p) (cases_Bool (has set p.pc)) ∙
    sym (stop-is part p prog set comparators)
  where
    by_due : (o : Option Vector) → (has set p.pc ≡ true) ⊎ (has set p.pc ≡ false) →
        stop_due p (patch prog set) set comparators o ≡ stop_due p prog set comparators o
    by_due (Some v) planted = refl
    by_due None (inl planted) =
        let hit : (has set p.pc || compared comparators p.pc) ≡ true = or_left (has set p.pc) (compared comparators p.pc) planted in
        cond-true (has set p.pc || compared comparators p.pc) (Some breakpoint)
        (word_stop (seen (decode (word_at (patch prog set) p.pc) 0))) hit ∙
        sym (cond-true (has set p.pc || compared comparators p.pc) (Some breakpoint) (word_stop (seen (decode (word_at prog p.pc) 0))) hit)
    by_due None (inr kept) =
        ap (λ (w : ℕ). cond (has set p.pc || compared comparators p.pc) (Some breakpoint) (word_stop (seen (decode w 0))))
        (patch-kept prog set p.pc kept)

-- a BREAK stops
break_stops : word_stop (seen (decode break_word 0)) ≡ Some own_break
unfolding decode
break_stops = refl

-- what a word stops for is its own BREAK or a word that does not run
named_word : (set : List ℕ) (pc : ℕ) (hit : Bool) (a : Ahead) → has set pc ≡ false →
    named set pc (cond hit (Some breakpoint) (word_stop a)) ≡ cond hit (Some breakpoint) (word_stop a)
named_word set pc true a out = refl
named_word set pc false BreakAhead out = ap (λ (t : Bool). Some (cond t breakpoint own_break)) out
named_word set pc false UndefinedAhead out = refl
named_word set pc false Ready out = refl
named_word set pc false Interrupt out = refl

pub planted_words_stop : PlantedWordsStop
planted_words_stop part p prog set comparators inside =
    stop-is part p (patch prog set) set comparators ∙ by_due (due part p) (cases_Bool (has set p.pc)) ∙
    sym (ap (named set p.pc) (stop-is part p (patch prog set) [] comparators))
  where
    by_due : (o : Option Vector) → (has set p.pc ≡ true) ⊎ (has set p.pc ≡ false) →
        stop_due p (patch prog set) set comparators o ≡ named set p.pc (stop_due p (patch prog set) [] comparators o)
    by_due (Some v) planted = refl
    by_due None (inl planted) =
        let hit : (has set p.pc || compared comparators p.pc) ≡ true = or_left (has set p.pc) (compared comparators p.pc) planted in
        let word : word_stop (seen (decode (word_at (patch prog set) p.pc) 0)) ≡ Some own_break =
        ap (λ (w : ℕ). word_stop (seen (decode w 0))) (patch-planted prog set p.pc planted (inside p.pc planted)) ∙ break_stops in
        cond-true (has set p.pc || compared comparators p.pc) (Some breakpoint)
        (word_stop (seen (decode (word_at (patch prog set) p.pc) 0))) hit ∙
        sym (by_hit (compared comparators p.pc) planted) ∙
        ap (λ (o : Option Cause). named set p.pc (cond (compared comparators p.pc) (Some breakpoint) o)) (sym word)
      where
        by_hit : (t : Bool) → has set p.pc ≡ true → named set p.pc (cond t (Some breakpoint) (Some own_break)) ≡ Some breakpoint
        by_hit true planted = refl
        by_hit false planted = ap (λ (t : Bool). Some (cond t breakpoint own_break)) planted
    by_due None (inr kept) =
        ap (λ (t : Bool). cond (t || compared comparators p.pc) (Some breakpoint)
        (word_stop (seen (decode (word_at (patch prog set) p.pc) 0)))) kept ∙
        sym (named_word set p.pc (compared comparators p.pc) (seen (decode (word_at (patch prog set) p.pc) 0)) kept)

-- one cause is one cause
same_cause : (a b : Cause) → Some a ≡ Some b → a ≡ b
same_cause a b e = cc

-- why the target stops, told what is due
by_reason : (part : Chip) (p : Machine) (prog set : List ℕ) (comparators : List (Option ℕ)) (a : Ahead) → ahead part p prog ≡ a →
    (hit : Bool) →
    (has set p.pc || compared comparators p.pc) ≡ hit → (cause : Cause) → cond hit (Some breakpoint) (word_stop a) ≡ Some cause →
    IsReason part p prog set comparators cause
by_reason part p prog set comparators a e true hit cause h =
    subst (IsReason part p prog set comparators) (same_cause breakpoint cause h) (or_cases (has set p.pc) (compared comparators p.pc) hit)
by_reason part p prog set comparators BreakAhead e false hit cause h =
    subst (IsReason part p prog set comparators) (same_cause own_break cause h) e
by_reason part p prog set comparators UndefinedAhead e false hit cause h =
    subst (IsReason part p prog set comparators) (same_cause undefined cause h) e
by_reason part p prog set comparators Ready e false hit cause h = cc
by_reason part p prog set comparators Interrupt e false hit cause h = cc

pub stops_have_reasons : StopsHaveReasons
stops_have_reasons part p prog set comparators cause h =
    by_ahead (ahead part p prog) refl h
  where
    by_ahead : (a : Ahead) → ahead part p prog ≡ a → stop_by p.pc set comparators a ≡ Some cause →
        IsReason part p prog set comparators cause
    by_ahead Interrupt e h = cc
    by_ahead Ready e h = by_reason part p prog set comparators Ready e (has set p.pc || compared comparators p.pc) refl cause h
    by_ahead BreakAhead e h = by_reason part p prog set comparators BreakAhead e (has set p.pc || compared comparators p.pc) refl cause h
    by_ahead UndefinedAhead e h =
        by_reason part p prog set comparators UndefinedAhead e (has set p.pc || compared comparators p.pc) refl cause h
