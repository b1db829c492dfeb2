use Rattle.std.proofs.Common.{ℕ, ◌-◌, length, ap, ◌∙◌, arith}
use Rattle.line_spec.specs.Frames.{Frame, bytes_of}
use Rattle.line_spec.specs.Messages.{command_body, ignored_written}
use Rattle.line_spec.proofs.FrameBytes.{length-bytes_of}
use Rattle.ice_msg.specs.Reading.{asked}
use Rattle.made_session.proofs.Comings.{line_left-begun}
use Rattle.made_session.proofs.line.MadeLine.begin_frame.Goals as goal

pub returns-clause-left : goal.returns-clause-left
returns-clause-left c =
    let before = c.args.self.now in
    let choice = c.next_choice-choice in
    let command = asked choice.result.command in
    let left : ℕ = before.to_come - 1 in
    line_left-begun before.frame.items c.command_frame-self.result.items before.given before.seed choice.result.seed before.made _ before.to_come left
    command c.requires.read (omega arith) (choice.ensures.comes left (omega (arith, c.requires.some)))
    (c.command_frame-self.ensures ∙
    ap (λ (number : ℕ). bytes_of (record { number = number; body = command_body command (ignored_written command) })) c.number_behind.ensures)

pub returns-clause-more : goal.returns-clause-more
returns-clause-more c =
    let command = asked c.next_choice-choice.result.command in
    let frame : Frame = record { number = c.number_behind.result; body = command_body command (ignored_written command) } in
    omega (arith, ap length c.command_frame-self.ensures, length-bytes_of frame)
