use Rattle.std.proofs.Common.{length, ap, sym, arith, inl, inr}
use Rattle.std.proofs.lemmas.Bool.{cases_lt, true≢false}
use Rattle.ice_script.proofs.queue.append.Goals as goal

pub returns-in-Err-clause-full : goal.returns-in-Err-clause-full
returns-in-Err-clause-full c = λ failed.
    elim (cases_lt (length c.bytes.bytes.items) c.bytes.bytes.capacity) [
      | inl less ↦ absurd (true≢false (sym (c.in-Err.ensures.variant.1 less)))
      | inr enough ↦ omega (
        arith,
        enough,
        c.bytes.invariant.capacity,
        ap (λ (b : _). length b.items) c.in-Err.ensures.err.1,
      )
    ]
