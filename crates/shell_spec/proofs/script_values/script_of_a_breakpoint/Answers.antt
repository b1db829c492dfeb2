use Rattle.std.proofs.Common.{ℕ, List, [], ◌∷◌, codes, refl, arith}
use Rattle.hex.specs.Hex.{encode_with}
use Rattle.avr_spec.specs.Step.{step, ahead, go_on}
use Rattle.avr_spec.specs.Decode.{decode}
use Rattle.avr_spec.specs.Timers.{tick, clocked}
use Rattle.line_spec.specs.Messages.{okay, program_counter, memory, break_at}
use Rattle.debug_spec.specs.inside.Examples.{okays, port_bytes, sends, tells}
use Rattle.shell_spec.specs.Lines.{Line, break, go, pc, quit, read}
use Rattle.shell_spec.specs.Printed.{line}
use Rattle.shell_spec.specs.Transcript.{IsAnswerText, IsEventText}
use Rattle.shell_spec.proofs.Streams.{are_bytes}
use Rattle.shell_spec.proofs.script_values.script_of_a_breakpoint.Goals as goal

pub returns-clause-said : goal.returns-clause-said
unfolding step ahead go_on decode tick clocked
returns-clause-said c = refl

ok : (shell_line : Line) (number : ℕ) → IsAnswerText shell_line (okays number) (line (codes "ok"))
ok shell_line number = record { response = okay; body = (tt, refl); is = refl }

met : IsEventText (tells 2 1) (line (codes "event 0002 cause 01"))
unfolding encode_with
met = record { told = break_at 2 1; body = ((omega arith, omega arith), refl); is = refl }

stands : IsAnswerText pc (sends 2 (0x84 ∷ 2 ∷ 0 ∷ 0 ∷ 0 ∷ [])) (line (codes "pc 0002"))
unfolding encode_with
stands = record { response = program_counter 2; body = (omega arith, refl); is = refl }

dumped : IsAnswerText (read 0xa0 0 8) (sends 3 port_bytes) (line (codes "0000 01e007bb08bbffcf"))
unfolding encode_with
dumped =
    let bytes : List ℕ = 0x01 ∷ 0xe0 ∷ 0x07 ∷ 0xbb ∷ 0x08 ∷ 0xbb ∷ 0xff ∷ 0xcf ∷ [] in
    record { response = memory bytes; body = ((are_bytes bytes refl, omega arith), refl); is = refl }

pub returns-clause-transcript : goal.returns-clause-transcript
unfolding step ahead go_on decode tick clocked
returns-clause-transcript c = record {
  texts = (
    _,
    _,
    ok (break 2) 0,
    (_, _, ok go 1, (_, _, met, (_, _, stands, (_, _, dumped, (_, [], ok quit 4, refl, refl), refl), refl), refl), refl),
    refl,
  );
  is_ending = refl;
  is_end = refl;
}

pub returns-clause-totals : goal.returns-clause-totals
unfolding step ahead go_on decode tick clocked
returns-clause-totals c = refl
