use Rattle.std.proofs.Common.{false}
use Rattle.line_spec.specs.Hearing.{request}
use Rattle.debug_spec.specs.Commands.{answered}
use Rattle.ice_frame.specs.Front.{frame_of}
use Rattle.ice_answer.specs.Values.{request_of}
use Rattle.ice_verify.proofs.DoingWell.{well}
use Rattle.ice_verify.proofs.HearingWell.{asks_so, item_well}
use Rattle.ice_verify.proofs.plain.Plain.answer_frame.Goals as goal

pub returns-then-is_out-clause-hears : goal.returns-then-is_out-clause-hears
returns-then-is_out-clause-hears c =
    let asked = request_of c.read_command-request.result in (
      request c.args.frame.now.seq asked,
      asks_so (frame_of c.args.frame.now) c.as_slice.result.now c.read_command-request.result (λ e. c.requires.number e) c.as_slice.ensures.value
          c.read_command-request.ensures,
      item_well c.args.frame.now.seq asked c.args.self.now.tool c.args.self.now.core c.args.self.now.comparators c.args.out.now.items _
          c.requires.listens (well (λ part. answered false part c.args.frame.now.seq asked) _ _ (c.answer_away.ensures.does false c.args.self.now.core c.args.self.now.comparators)),
    )

pub returns-clause-hears : goal.returns-clause-hears
returns-clause-hears c =
    let asked = request_of c.read_command-request.result in (
      request c.args.frame.now.seq asked,
      asks_so (frame_of c.args.frame.now) c.as_slice.result.now c.read_command-request.result (λ e. c.requires.number e) c.as_slice.ensures.value
          c.read_command-request.ensures,
      item_well c.args.frame.now.seq asked c.args.self.now.tool c.args.self.now.core c.args.self.now.comparators c.args.out.now.items _
          c.requires.listens c.answer.ensures.does,
    )
