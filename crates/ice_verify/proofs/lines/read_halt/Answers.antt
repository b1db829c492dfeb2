use Rattle.std.proofs.Common.{◌+◌, ◌∷◌, ◌++◌, codes, refl, sym, ap, ◌∙◌}
use Rattle.std.proofs.lemmas.List.{take_rest}
use Rattle.debug_spec.specs.Stop.{cause_code}
use Rattle.record_spec.specs.Lines.{event, halts}
use Rattle.ice_answer.specs.Values.{why_of}
use Rattle.ice_verify.proofs.Texts.{halt_front}
use Rattle.ice_verify.proofs.lines.read_halt.Goals as goal

pub returns : goal.returns
returns c =
    let told = c.in-Some-read_steps.ensures in (
      event (halts (record { steps = told.0; cause = why_of c.in-Some.cause })),
      (told.0, told.2, refl),
      (
        _,
        told.1,
        ap (λ t. codes "halt " ++ t)
            (halt_front c.args.text.now (48 + cause_code (why_of c.in-Some.cause)) c.in-len3-up.len_at_least c.if-zero-ne48.false c.in-Some.ensures
            c.if-blank-ne32.false ∙
            ap (λ t. 48 ∷ (48 + cause_code (why_of c.in-Some.cause)) ∷ 32 ∷ t) (sym (take_rest c.args.text.now 3))),
      ),
    )
