use Rattle.std.proofs.Common.{◌≡◌, ℕ, ◌<◌, ◌≤◌, List, [], length, take, refl, sym, ap, ◌∙◌, subst, arith}
use Rattle.std.proofs.lemmas.List.{length-take}
use Rattle.std.proofs.KnownBytes.{Consumes-nil, Consumes-kept}
use Rattle.std.specs.Io.KnownBytes.{Consumes}
use Rattle.ice_inbox.proofs.line_work.hear.Goals as goal

pub returns-in-Err : goal.returns-in-Err
returns-in-Err g c =
    let left = g.S.Source.left in (
      [],
      Consumes-kept (left c.args.source.now) (left c.args.source.now) (left c.read.new.self) []
          (Consumes-nil (left c.args.source.now)) c.in-Err.ensures.err,
      (refl, c.in-Err.ensures.cause.1),
    )

pub returns-in-Ok-eq0 : goal.returns-in-Ok-eq0
returns-in-Ok-eq0 g c =
    let left = g.S.Source.left in (
      [],
      subst (λ (n : ℕ). Consumes (left c.args.source.now) (left c.read.new.self) (take n c.read.new.buf))
          c.in-Ok-eq0.field-0-test c.in-Ok-eq0.ensures.bytes,
      (refl, c.in-Ok-eq0.ensures.end c.in-Ok-eq0.field-0-test c.requires.some.0, c.in-Ok-eq0.ensures.still),
    )

pub returns-in-Ok : goal.returns-in-Ok
returns-in-Ok g c =
    let read = take c.in-Ok.field-0 c.read.new.buf in
    let some = c.in-Ok.field-0-test.1 in
    let further = c.requires.further c.if-sent-eq-LINE_LIMIT.true in (
      read,
      c.in-Ok.ensures.bytes,
      (
        omega (arith, length-take c.in-Ok.field-0 c.read.new.buf, c.in-Ok.ensures.count, further, some),
        c.if-sent-eq-LINE_LIMIT.true,
        c.in-Ok.ensures.still,
      ),
    )

pub returns-in-Ok-2 : goal.returns-in-Ok-2
returns-in-Ok-2 g c =
    let left = g.S.Source.left in
    let read : List ℕ = take c.in-Ok.field-0 c.read.new.buf in
    let same : c.chunk_of.result.items ≡ read = c.chunk_of.ensures in
    let some : c.in-Ok.field-0 ≡ 0 → ⊥ = c.in-Ok.field-0-test.1 in
    let within : (c.in-Ok.field-0 ≤ length c.args.buf.now) × (length c.read.new.buf ≡ length c.args.buf.now) =
    (c.in-Ok.ensures.count, omega arith) in
    let below : c.args.sent < 67108864 = omega (arith, c.requires.sent, c.if-sent-eq-LINE_LIMIT.false) in
    let len : length c.chunk_of.result.items ≡ c.in-Ok.field-0 =
    ap length same ∙ omega (arith, length-take c.in-Ok.field-0 c.read.new.buf, within) in (
      omega (arith, len, some),
      omega (arith, len, within, c.requires.room below),
      subst (λ (bytes : List ℕ). Consumes (left c.args.source.now) (left c.read.new.self) bytes) (sym same) c.in-Ok.ensures.bytes,
      c.in-Ok.ensures.still,
    )
