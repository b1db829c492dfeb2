use Rattle.std.proofs.Common.{◌∙◌, refl, arith}
use Rattle.line_spec.proofs.Cuts.{IsPartial-length}
use Rattle.ice_frame.proofs.Headers.{partial_header}
use Rattle.ice_frame.proofs.Scanning.{stands, after_header, after_body, after_check}
use Rattle.ice_frame.proofs.scan.Scan.byte.Goals as goal

pub overflow_add-self : goal.overflow_add-self
overflow_add-self c =
    let going = c.requires.going in
    omega (arith, IsPartial-length going.0 going.2, (stands _ going.0 (c.self.view_is ∙ going.1)).seen)

pub with_size-self-inside-requires : goal.with_size-self-inside-requires
with_size-self-inside-requires c =
    let going = c.requires.going in
    omega (arith, (partial_header going.0 going.2).size, (stands _ going.0 (c.self.view_is ∙ going.1)).size)

pub returns-then-at-lt-HEADER-clause-stands : goal.returns-then-at-lt-HEADER-clause-stands
returns-then-at-lt-HEADER-clause-stands c = λ bytes e p.
    after_header bytes _ c.args.b _ _ _ (stands _ bytes (c.self.view_is ∙ e)) p (omega (arith, c.ranges.b)) c.if-at-lt-HEADER.true
    c.with_size-self-inside.ensures c.crc_with-self-inside.ensures c.in_header.ensures

pub returns-then-at-end-clause-stands : goal.returns-then-at-end-clause-stands
returns-then-at-end-clause-stands c = λ bytes e p.
    after_body bytes _ c.args.b _ (stands _ bytes (c.self.view_is ∙ e)) p (omega (arith, c.ranges.b)) c.if-at-lt-HEADER.false
    c.if-at-end.true c.crc_with-self-inside-then-at-end.ensures

pub returns-clause-stands : goal.returns-clause-stands
returns-clause-stands c = λ bytes e p.
    after_check bytes _ c.args.b _ _ (stands _ bytes (c.self.view_is ∙ e)) p (omega (arith, c.ranges.b)) c.if-at-end.false refl c.in_check.ensures
