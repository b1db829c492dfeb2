use Rattle.std.proofs.Common.{sym, ◌∙◌, arith}
use Rattle.ice_verify.proofs.Judged.{bad_text, bad_place, long_so, few_steps, refuted_so, goes_on_so}
use Rattle.ice_verify.proofs.verifier.Verifier.judge.Goals as goal

pub returns-in_default-clause-says : goal.returns-in_default-clause-says
returns-in_default-clause-says c = λ part at_ st. bad_text at_ c.args.line.now c.in_default.ensures

pub returns-then-not-is_placed-clause-says : goal.returns-then-not-is_placed-clause-says
returns-then-not-is_placed-clause-says c = λ part at_ st.
    bad_place part c.args.self.now at_ c.args.line.now c.in-Some.told st c.in-Some.ensures.0 c.in-Some.ensures.1
    (λ line t. sym (c.is_placed.ensures line t) ∙ c.if-not-is_placed.true)

pub overflow_add-steps : goal.overflow_add-steps
overflow_add-steps c =
    omega (arith, c.requires.sound.steps, c.steps_in.ensures.steps c.in-Some.ensures.1.0 c.in-Some.ensures.1.1)

pub returns-then-steps-gt-STEP_LIMIT-clause-says : goal.returns-then-steps-gt-STEP_LIMIT-clause-says
returns-then-steps-gt-STEP_LIMIT-clause-says c = λ part at_ st.
    long_so part c.args.self.now at_ c.args.line.now c.in-Some.told st c.in-Some.ensures.0 c.in-Some.ensures.1
    (λ line t. sym (c.is_placed.ensures line t) ∙ c.if-not-is_placed.false) c.steps_in.result c.steps_in.ensures.steps
    (omega (arith, c.if-steps-gt-STEP_LIMIT.true))

pub follow-requires-clause-placed : goal.follow-requires-clause-placed
follow-requires-clause-placed c = λ line t. sym (c.is_placed.ensures line t) ∙ c.if-not-is_placed.false

pub follow-requires-clause-few : goal.follow-requires-clause-few
follow-requires-clause-few c =
    few_steps c.in-Some.told c.args.self.now.steps c.steps_in.result c.steps_in.ensures.steps (omega (arith, c.if-steps-gt-STEP_LIMIT.false))

pub follow-requires-clause-told : goal.follow-requires-clause-told
follow-requires-clause-told c = (c.args.line.now, c.in-Some.ensures.1)

pub returns-then-not-follow-clause-says : goal.returns-then-not-follow-clause-says
returns-then-not-follow-clause-says c = λ part at_ st.
    refuted_so part c.args.self.now at_ c.args.line.now c.in-Some.told st c.in-Some.ensures.0 c.in-Some.ensures.1
    (λ line t. sym (c.is_placed.ensures line t) ∙ c.if-not-is_placed.false) c.steps_in.result c.steps_in.ensures.steps
    (omega (arith, c.if-steps-gt-STEP_LIMIT.false)) c.follow.new.self c.follow.result c.follow.ensures.follows c.if-not-follow.true

pub returns-clause-says : goal.returns-clause-says
returns-clause-says c = λ part at_ st.
    goes_on_so part c.args.self.now at_ c.args.line.now c.in-Some.told st c.in-Some.ensures.0 c.in-Some.ensures.1
    (λ line t. sym (c.is_placed.ensures line t) ∙ c.if-not-is_placed.false) c.steps_in.result c.steps_in.ensures.steps
    (omega (arith, c.if-steps-gt-STEP_LIMIT.false)) c.follow.new.self c.follow.result c.follow.ensures.follows c.if-not-follow.false
    _ (omega arith)
