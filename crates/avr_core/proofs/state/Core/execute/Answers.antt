use Rattle.std.proofs.Common.{◌≡◌, ◌≢◌, ℕ, ◌+◌, ◌%◌, ◌^◌, ◌<◌, Bool, true, false, List, refl, sym, ap, ◌∙◌, subst}
use Rattle.std.proofs.Math.Nat.{mod-eq_of_lt}
use Rattle.part_spec.specs.Chip.{Chip, words_of}
use Rattle.avr_spec.specs.declared.instruction.Instr.{Instr}
use Rattle.avr_spec.specs.declared.target.Ahead.{Ahead}
use Rattle.avr_spec.specs.declared.target.Ahead.TheVariants.{Ready}
use Rattle.avr_spec.specs.Decode.{decode}
use Rattle.avr_spec.specs.Timers.{ticks}
use Rattle.avr_spec.specs.Machine.{Machine}
use Rattle.avr_spec.specs.Kept.{Kept, kept}
use Rattle.avr_spec.specs.Effect.{with_pc}
use Rattle.avr_spec.specs.Step.{word_at, seen, behind, advanced, executed}
use Rattle.avr_core.specs.declared.outcome.Outcome.{Outcome}
use Rattle.avr_core.specs.declared.outcome.Outcome.TheVariants.{Took, Break as TheBreak, Undefined as TheUndefined}
use Rattle.avr_core.specs.Answer.{answer_of}
use Rattle.avr_core.specs.Stands.{Moves}
use Rattle.avr_core.specs.Leaves.{after_effect, IsLeft, effect_at, past}
use Rattle.avr_core.proofs.Executing.{cycles_told, over, ran, stayed}
use Rattle.avr_core.proofs.Stopping.{shown, shown-is, leaves_all}
use Rattle.avr_core.proofs.state.Core.execute.Given as given
use Rattle.avr_core.proofs.state.Core.execute.Goals as goal

-- pc put back
back : (part : Chip) (p : Machine) (core : Kept) (pc : ℕ) → core ≡ kept part p → pc ≡ core.pc → pc < words_of core.part →
    kept part (with_pc (pc % words_of part) p) ≡ kept part p
back part p core pc h pc_is in_flash =
    let here : pc ≡ p.pc = pc_is ∙ ap (λ (k : Kept). k.pc) h in
    ap (λ (n : ℕ). kept part (with_pc n p)) (mod-eq_of_lt (subst (λ (k : Kept). pc < words_of k.part) h in_flash) ∙ here)

-- where the instruction runs the hold is off
off : (hold : Bool) → (hold ≡ true → ⊥) → hold ≡ false
off true runs = absurd (runs refl)
off false runs = refl

-- an instruction at pc of a state that a core stands for, begun behind its first word
module _ (part : Chip) (flash : List ℕ) (p : Machine) (core : Kept) (instr : Instr) (h : core ≡ kept part p)
    (is : instr ≡ decode (word_at flash p.pc) 0) where
  abbrev begun : Machine
  begun = past part 1 p

  abbrev IsBegun : Kept → Outcome → Type 0
  IsBegun = IsLeft part flash begun (effect_at part flash begun instr)

  -- what it is to one who looks ahead, by what came of it
  told : (after : Kept) (outcome : Outcome) → IsBegun after outcome → seen instr ≡ shown outcome
  told after outcome left = sym (ap shown left.1 ∙ shown-is part flash begun instr)

  told_here : (after : Kept) (outcome : Outcome) → IsBegun after outcome →
      answer_of (shown outcome) ≡ answer_of (seen (decode (word_at flash p.pc) 0))
  told_here after outcome left = ap (λ (a : Ahead). answer_of a) (sym (told after outcome left) ∙ ap (λ (i : Instr). seen i) is)

  -- where it runs, the book begins with the same state
  begins : (core.hold ≡ true → seen (decode (word_at flash core.pc) 0) ≢ Ready) → seen instr ≡ Ready → begun ≡ advanced part 1 p
  begins unheld ready =
      let runs : seen (decode (word_at flash core.pc) 0) ≡ Ready =
      ap (λ (k : Kept). seen (decode (word_at flash k.pc) 0)) h ∙ sym (ap (λ (i : Instr). seen i) is) ∙ ready in
      let free : p.hold ≡ false = sym (ap (λ (k : Kept). k.hold) h) ∙ off core.hold (λ on. unheld on runs) in
      ap (λ (b : Bool). record p { pc = behind part p.pc 1; hold = b }) free

  -- it ran, and its cycles passed
  ran_here : (done after : Kept) (cycles passed : ℕ) → passed ≡ cycles →
      (core.hold ≡ true → seen (decode (word_at flash core.pc) 0) ≢ Ready) → IsBegun done (Took cycles) →
      Moves done after (λ part s. record s { io = ticks passed s.io; steps = (s.steps + 1) % 2 ^ 64 }) →
      after ≡ kept part (executed part p flash)
  ran_here done after cycles passed same unheld left ended =
      let ready = told done (Took cycles) left in
      let s = after_effect part flash begun (effect_at part flash begun instr) in
      ended part s left.0 ∙
      ap (λ (n : ℕ). kept part (record s { io = ticks n s.io; steps = (s.steps + 1) % 2 ^ 64 })) same ∙
      ap (λ (o : Outcome). kept part (record s { io = ticks (cycles_told o) s.io; steps = (s.steps + 1) % 2 ^ 64 })) left.1 ∙
      ap (λ (m : Machine). kept part (over part flash m (effect_at part flash m instr))) (begins unheld ready) ∙
      ap (λ (r : Machine). kept part r) (ran part p flash instr is ready)

  -- it does not run, and pc was put back
  stands : (done after : Kept) (pc : ℕ) (outcome : Outcome) → shown outcome ≢ Ready → pc ≡ core.pc → pc < words_of core.part →
      IsBegun done outcome → Moves done after (λ part p. with_pc (pc % words_of part) p) → after ≡ kept part p
  stands done after pc outcome stops pc_is in_flash left went =
      let stopped : seen instr ≢ Ready = λ e. stops (sym (told done outcome left) ∙ e) in
      went part (after_effect part flash begun (effect_at part flash begun instr)) left.0 ∙
      ap (λ (s : Machine). kept part (with_pc (pc % words_of part) s)) (leaves_all part flash begun instr stopped) ∙
      back part p core pc h pc_is in_flash

  stays : (done : Kept) (outcome : Outcome) → shown outcome ≢ Ready → IsBegun done outcome → kept part p ≡ kept part (executed part p flash)
  stays done outcome stops left =
      let ahead : seen (decode (word_at flash p.pc) 0) ≡ shown outcome = sym (ap (λ (i : Instr). seen i) is) ∙ told done outcome left in
      ap (λ (s : Machine). kept part s) (sym (stayed part p flash (λ e. stops (sym ahead ∙ e))))

pub returns-in-Took-eq1-clause-state : goal.returns-in-Took-eq1-clause-state
returns-in-Took-eq1-clause-state g c = λ part p h.
    let flash = g.F.Flash.words c.args.flash.now in
    let is = c.decode.ensures.value ∙ ap (λ (n : ℕ). decode n 0) (c.next_word-first.ensures.word part p h) in
    let left = c.in-Took-eq1.ensures part (past part 1 p) (c.next_word-first.ensures.past part p h) in
    ran_here part flash p c.args.self.now c.decode.result h is c.act.new.self c.end.new.self c.in-Took-eq1.field-0 1 (sym c.in-Took-eq1.field-0-test)
    c.requires.unheld left c.end.ensures

pub returns-in-Took-eq1-clause-answer : goal.returns-in-Took-eq1-clause-answer
returns-in-Took-eq1-clause-answer g c = λ part p h.
    let flash = g.F.Flash.words c.args.flash.now in
    let is = c.decode.ensures.value ∙ ap (λ (n : ℕ). decode n 0) (c.next_word-first.ensures.word part p h) in
    let left = c.in-Took-eq1.ensures part (past part 1 p) (c.next_word-first.ensures.past part p h) in
    told_here part flash p c.args.self.now c.decode.result h is c.act.new.self (Took c.in-Took-eq1.field-0) left

pub returns-in-Took-clause-state : goal.returns-in-Took-clause-state
returns-in-Took-clause-state g c = λ part p h.
    let flash = g.F.Flash.words c.args.flash.now in
    let is = c.decode.ensures.value ∙ ap (λ (n : ℕ). decode n 0) (c.next_word-first.ensures.word part p h) in
    let left = c.in-Took.ensures part (past part 1 p) (c.next_word-first.ensures.past part p h) in
    ran_here part flash p c.args.self.now c.decode.result h is c.act.new.self c.end-in-Took.new.self c.in-Took.cycles c.in-Took.cycles refl
    c.requires.unheld left c.end-in-Took.ensures

pub returns-in-Took-clause-answer : goal.returns-in-Took-clause-answer
returns-in-Took-clause-answer g c = λ part p h.
    let flash = g.F.Flash.words c.args.flash.now in
    let is = c.decode.ensures.value ∙ ap (λ (n : ℕ). decode n 0) (c.next_word-first.ensures.word part p h) in
    let left = c.in-Took.ensures part (past part 1 p) (c.next_word-first.ensures.past part p h) in
    told_here part flash p c.args.self.now c.decode.result h is c.act.new.self (Took c.in-Took.cycles) left

at_break : (g : given.Over) (c : goal.After-go_to g) (part : Chip) (p : Machine) → c.args.self.now ≡ kept part p →
    c.go_to.new.self ≡ kept part p
at_break g c part p h =
    let flash = g.F.Flash.words c.args.flash.now in
    let is = c.decode.ensures.value ∙ ap (λ (n : ℕ). decode n 0) (c.next_word-first.ensures.word part p h) in
    let left = c.in-Break.ensures part (past part 1 p) (c.next_word-first.ensures.past part p h) in
    let core = c.args.self.now in
    let in_flash = subst (λ (n : ℕ). n < words_of core.part) (sym c.from.ensures) c.pc-before.ensures.in_flash in
    stands part flash p core c.decode.result h is c.act.new.self c.go_to.new.self c.from.result TheBreak (λ e. cc)
    (c.from.ensures ∙ c.pc-before.ensures.pc) in_flash left c.go_to.ensures

pub returns-in-Break-clause-state : goal.returns-in-Break-clause-state
returns-in-Break-clause-state g c = λ part p h.
    let flash = g.F.Flash.words c.args.flash.now in
    let is = c.decode.ensures.value ∙ ap (λ (n : ℕ). decode n 0) (c.next_word-first.ensures.word part p h) in
    let left = c.in-Break.ensures part (past part 1 p) (c.next_word-first.ensures.past part p h) in
    at_break g c part p h ∙ stays part flash p c.args.self.now c.decode.result h is c.act.new.self TheBreak (λ e. cc) left

pub returns-in-Break-clause-answer : goal.returns-in-Break-clause-answer
returns-in-Break-clause-answer g c = λ part p h.
    let flash = g.F.Flash.words c.args.flash.now in
    let is = c.decode.ensures.value ∙ ap (λ (n : ℕ). decode n 0) (c.next_word-first.ensures.word part p h) in
    let left = c.in-Break.ensures part (past part 1 p) (c.next_word-first.ensures.past part p h) in
    told_here part flash p c.args.self.now c.decode.result h is c.act.new.self TheBreak left

pub returns-in-Break-clause-stays : goal.returns-in-Break-clause-stays
returns-in-Break-clause-stays g c = λ _.
    let some = c.stands_for_a_state.ensures in at_break g c c.args.self.now.part some.state some.is ∙ sym some.is

at_undefined : (g : given.Over) (c : goal.After-go_to-in-Undefined g) (part : Chip) (p : Machine) → c.args.self.now ≡ kept part p →
    c.go_to-in-Undefined.new.self ≡ kept part p
at_undefined g c part p h =
    let flash = g.F.Flash.words c.args.flash.now in
    let is = c.decode.ensures.value ∙ ap (λ (n : ℕ). decode n 0) (c.next_word-first.ensures.word part p h) in
    let left = c.in-Undefined.ensures part (past part 1 p) (c.next_word-first.ensures.past part p h) in
    let core = c.args.self.now in
    let in_flash = subst (λ (n : ℕ). n < words_of core.part) (sym c.from-in-Undefined.ensures) c.pc-before.ensures.in_flash in
    stands part flash p core c.decode.result h is c.act.new.self c.go_to-in-Undefined.new.self c.from-in-Undefined.result TheUndefined (λ e. cc)
    (c.from-in-Undefined.ensures ∙ c.pc-before.ensures.pc) in_flash left c.go_to-in-Undefined.ensures

pub returns-in-Undefined-clause-state : goal.returns-in-Undefined-clause-state
returns-in-Undefined-clause-state g c = λ part p h.
    let flash = g.F.Flash.words c.args.flash.now in
    let is = c.decode.ensures.value ∙ ap (λ (n : ℕ). decode n 0) (c.next_word-first.ensures.word part p h) in
    let left = c.in-Undefined.ensures part (past part 1 p) (c.next_word-first.ensures.past part p h) in
    at_undefined g c part p h ∙ stays part flash p c.args.self.now c.decode.result h is c.act.new.self TheUndefined (λ e. cc) left

pub returns-in-Undefined-clause-answer : goal.returns-in-Undefined-clause-answer
returns-in-Undefined-clause-answer g c = λ part p h.
    let flash = g.F.Flash.words c.args.flash.now in
    let is = c.decode.ensures.value ∙ ap (λ (n : ℕ). decode n 0) (c.next_word-first.ensures.word part p h) in
    let left = c.in-Undefined.ensures part (past part 1 p) (c.next_word-first.ensures.past part p h) in
    told_here part flash p c.args.self.now c.decode.result h is c.act.new.self TheUndefined left

pub returns-in-Undefined-clause-stays : goal.returns-in-Undefined-clause-stays
returns-in-Undefined-clause-stays g c = λ _.
    let some = c.stands_for_a_state.ensures in at_undefined g c c.args.self.now.part some.state some.is ∙ sym some.is

pub act-requires-clause-part : goal.act-requires-clause-part
act-requires-clause-part g c =
    let some = c.stands_for_a_state.ensures in
    let part = c.args.self.now.part in
    c.requires.part ∙ sym (ap (λ (k : Kept). k.part) (c.next_word-first.ensures.past part some.state some.is))
