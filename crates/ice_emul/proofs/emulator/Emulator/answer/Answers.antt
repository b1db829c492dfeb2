use Rattle.std.proofs.Common.{◌≡◌, Bool, true, false, ℕ, List, [], Option, Some, None, Result, Ok, Err, refl, sym, ap, ◌∙◌, subst}
use Rattle.std.specs.Prelude.{is_some, IfSome}
use Rattle.part_spec.specs.Chip.{Chip}
use Rattle.avr_spec.specs.Kept.{Kept}
use Rattle.line_spec.specs.Frames.{Frame}
use Rattle.line_spec.specs.Cut.{whole}
use Rattle.line_spec.specs.Hearing.{Hears, IsRequest, request, event_number}
use Rattle.debug_spec.specs.Moved.{Flash}
use Rattle.debug_spec.specs.Debugger.{Debugger, is_out, listens}
use Rattle.debug_spec.specs.Commands.{answered}
use Rattle.run_control.specs.declared.job.Job.{Job}
use Rattle.ice_frame.specs.Front.{frame_of}
use Rattle.ice_msg.specs.Reading.{ReadsCommand}
use Rattle.ice_msg.specs.declared.command.Command.{Command}
use Rattle.ice_msg.specs.declared.bad.Bad.{Bad}
use Rattle.ice_msg.specs.declared.bad.Bad.TheVariants.{Code, Length}
use Rattle.flash_patch.specs.Asking.{seen}
use Rattle.ice_answer.specs.Values.{request_of}
use Rattle.ice_answer.specs.Kept.{ToolState}
use Rattle.ice_answer.specs.Does.{At, at, Does}
use Rattle.ice_emul.specs.Asking.{DoesAsking}
use Rattle.ice_emul.specs.Taking.{ClosesFor}
use Rattle.ice_emul.specs.declared.emulator.Next.TheVariants.{Answered, RaiseStop}
use Rattle.ice_emul.proofs.HeardFrames.{heard_away, heard_at_home, sound_then, stands_then, some_then, stays_then, part_then, cause_then, receiver_stays, home_is_in, is_running, takes_at_home}
use Rattle.ice_emul.proofs.emulator.Emulator.answer.Goals as goal

-- what a body asks
read_asks : (body : List ℕ) (answer : Result Command Bad) → ReadsCommand body answer → IsRequest body (request_of answer)
read_asks body (Ok command) r = r
read_asks body (Err Code) r = r
read_asks body (Err Length) r = r

asks_so : (frame : Frame) (bytes : List ℕ) (answer : Result Command Bad) → (frame.number ≡ event_number → ⊥) → bytes ≡ frame.body →
    ReadsCommand bytes answer → Hears (whole frame) (request frame.number (request_of answer))
asks_so frame bytes answer other same reads =
    let P : List ℕ → Type 0 = λ b. IsRequest b (request_of answer) in (other, refl, subst P same (read_asks bytes answer reads))

with_nothing : (change : Chip → Debugger → Debugger) (tool : ToolState) (core : Kept) (comparators : List (Option ℕ)) (out : List ℕ) (b : At) →
    out ≡ [] → Does change (at tool core comparators out) b → Does change (at tool core comparators []) b
with_nothing change tool core comparators out b empty does = subst (λ (o : List ℕ). Does change (at tool core comparators o) b) empty does

asking_with_nothing : {F : Type 0} (flash : Flash F) (change : Chip → Debugger → Debugger) (tool : ToolState) (core : Kept)
    (comparators : List (Option ℕ)) (out : List ℕ) (b : At) (from to : F) → out ≡ [] →
    DoesAsking flash change (at tool core comparators out) from b to → DoesAsking flash change (at tool core comparators []) from b to
asking_with_nothing flash change tool core comparators out b from to empty does =
    subst (λ (o : List ℕ). DoesAsking flash change (at tool core comparators o) from b to) empty does

no_target : {F : Type 0} (target : Option (Job F)) (rest : Bool) → is_some target ≡ rest → target ≡ None → rest ≡ false
no_target target rest here none = sym here ∙ ap (λ (o : Option (Job _)). is_some o) none

pub returns-then-answer_away-clause-hears : goal.returns-then-answer_away-clause-hears
returns-then-answer_away-clause-hears g c = λ job held.
    let out = is_running c.args.self.now.tool.mode (no_target c.args.self.now.target _ c.requires.sound.here c.in-None.is) c.requires.listens in
    heard_away (seen g.F.Flash.words g.F.Flash.journal g.F.Flash.faults g.F.Flash.writes) g.F.Flash.part c.args.self.now (frame_of c.args.frame.now) c.answer_away.new.out.items c.args.frame.now.seq
    (request_of c.read_command-request.result)
    (asks_so (frame_of c.args.frame.now) c.as_slice.result.now c.read_command-request.result (λ e. c.requires.number e) c.as_slice.ensures.value c.read_command-request.ensures)
    c.requires.listens job RaiseStop c.answer_away.new.self c.in-None.is held
    (ap is_out out, c.answer_away.ensures.stops c.if-answer_away.true)
    (c.answer_away.ensures.out, c.answer_away.ensures.asked c.if-answer_away.true)
    c.answer_away.ensures.plan.0 c.answer_away.ensures.plan.1
    (with_nothing (λ part. answered true part c.args.frame.now.seq (request_of c.read_command-request.result)) c.args.self.now.tool job.core job.comparators c.args.out.now.items _ c.requires.empty
    (c.answer_away.ensures.does true job.core job.comparators))

pub returns-in-None-clause-hears : goal.returns-in-None-clause-hears
returns-in-None-clause-hears g c = λ job held.
    heard_away (seen g.F.Flash.words g.F.Flash.journal g.F.Flash.faults g.F.Flash.writes) g.F.Flash.part c.args.self.now (frame_of c.args.frame.now) c.answer_away.new.out.items c.args.frame.now.seq
    (request_of c.read_command-request.result)
    (asks_so (frame_of c.args.frame.now) c.as_slice.result.now c.read_command-request.result (λ e. c.requires.number e) c.as_slice.ensures.value c.read_command-request.ensures)
    c.requires.listens job Answered c.answer_away.new.self c.in-None.is held
    (λ out. c.answer_away.ensures.goes c.if-answer_away.false)
    (ap listens (c.answer_away.ensures.still c.if-answer_away.false).1)
    c.answer_away.ensures.plan.0 c.answer_away.ensures.plan.1
    (with_nothing (λ part. answered true part c.args.frame.now.seq (request_of c.read_command-request.result)) c.args.self.now.tool job.core job.comparators c.args.out.now.items _ c.requires.empty
    (c.answer_away.ensures.does true job.core job.comparators))

pub returns-clause-sound : goal.returns-clause-sound
returns-clause-sound g c = sound_then (seen g.F.Flash.words g.F.Flash.journal g.F.Flash.faults g.F.Flash.writes) g.F.Flash.part _ _ _ c.answer.new.job c.go_on.result refl refl
    c.answer.ensures.home c.answer.ensures.soft (c.go_on.ensures.goes c.answer.new.job refl)

pub returns-clause-stands : goal.returns-clause-stands
returns-clause-stands g c = stands_then (seen g.F.Flash.words g.F.Flash.journal g.F.Flash.faults g.F.Flash.writes) g.F.Flash.part _ c.args.self.now _ _ c.answer.new.job c.go_on.result refl
    c.answer.ensures.home (c.go_on.ensures.may c.answer.new.job refl) (c.go_on.ensures.goes c.answer.new.job refl)

pub returns-clause-receiver : goal.returns-clause-receiver
returns-clause-receiver g c = receiver_stays (seen g.F.Flash.words g.F.Flash.journal g.F.Flash.faults g.F.Flash.writes) g.F.Flash.part _ _ _ c.answer.new.job c.go_on.result
    (c.go_on.ensures.goes c.answer.new.job refl)

has_target : {F : Type 0} (target : Option (Job F)) (rest : Bool) (own : Job F) → is_some target ≡ rest → target ≡ Some own → rest ≡ true
has_target target rest own here some = sym here ∙ ap (λ (o : Option (Job _)). is_some o) some

pub returns-clause-stays : goal.returns-clause-stays
returns-clause-stays g c = stays_then (seen g.F.Flash.words g.F.Flash.journal g.F.Flash.faults g.F.Flash.writes) g.F.Flash.part c.go_on.result
    c.args.self.now.tool.mode _ (home_is_in c.args.self.now.tool.mode
    (has_target c.args.self.now.target _ c.in-Some.job c.requires.sound.here c.in-Some.is))

pub returns-clause-some : goal.returns-clause-some
returns-clause-some g c = some_then (seen g.F.Flash.words g.F.Flash.journal g.F.Flash.faults g.F.Flash.writes) g.F.Flash.part _ _ _
    c.answer.new.job c.go_on.result (c.go_on.ensures.goes c.answer.new.job refl)

pub returns-clause-hears : goal.returns-clause-hears
returns-clause-hears g c = λ job held.
    heard_at_home (seen g.F.Flash.words g.F.Flash.journal g.F.Flash.faults g.F.Flash.writes) g.F.Flash.part c.args.self.now (frame_of c.args.frame.now) c.answer.new.out.items c.args.frame.now.seq
    (request_of c.read_command-request.result)
    (asks_so (frame_of c.args.frame.now) c.as_slice.result.now c.read_command-request.result (λ e. c.requires.number e) c.as_slice.ensures.value c.read_command-request.ensures)
    c.requires.listens c.in-Some.job c.answer.new.job c.answer.new.tool c.in-Some.is
    (takes_at_home c.args.self.now.tool.mode (has_target c.args.self.now.target _ c.in-Some.job c.requires.sound.here c.in-Some.is) c.requires.listens)
    c.answer.ensures.home c.answer.ensures.part
    (asking_with_nothing (seen g.F.Flash.words g.F.Flash.journal g.F.Flash.faults g.F.Flash.writes) _ c.args.self.now.tool c.in-Some.job.core c.in-Some.job.comparators
    c.args.out.now.items _ _ _ c.requires.empty c.answer.ensures.asks)
    job c.go_on.result c.go_on.new.self held (c.go_on.ensures.goes c.answer.new.job refl)

pub returns-clause-part : goal.returns-clause-part
returns-clause-part g c =
    part_then (seen g.F.Flash.words g.F.Flash.journal g.F.Flash.faults g.F.Flash.writes) g.F.Flash.part _ _ _ c.answer.new.job c.go_on.result (c.go_on.ensures.goes c.answer.new.job refl) ∙
    c.answer.ensures.part

pub returns-clause-cause : goal.returns-clause-cause
returns-clause-cause g c =
    subst (λ (o : Option (Job g.row.F.Denot)). IfSome o (λ own. ClosesFor (seen g.F.Flash.words g.F.Flash.journal g.F.Flash.faults g.F.Flash.writes)
    c.go_on.result own.flash c.go_on.new.self.target)) (sym c.in-Some.is)
    (cause_then (seen g.F.Flash.words g.F.Flash.journal g.F.Flash.faults g.F.Flash.writes) g.F.Flash.part _ _ _ c.answer.new.job c.go_on.result c.in-Some.job.flash refl refl c.answer.ensures.cause
    (c.go_on.ensures.goes c.answer.new.job refl))
