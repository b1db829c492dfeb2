use Rattle.std.proofs.Common.{arith}
use Rattle.line_spec.proofs.Cuts.{IsPartial-nil}
use Rattle.ice_recv.proofs.Founds.{found_front, skipped}
use Rattle.ice_recv.proofs.held.scan_held.Goals as goal

pub scan_places-requires-clause-partial : goal.scan_places-requires-clause-partial
scan_places-requires-clause-partial c = IsPartial-nil

pub scan_places-header-requires-clause-partial : goal.scan_places-header-requires-clause-partial
scan_places-header-requires-clause-partial c = IsPartial-nil

pub returns-in-Whole-clause-found : goal.returns-in-Whole-clause-found
returns-in-Whole-clause-found c = found_front _ 8 _ _ c.scan_places-header.ensures.found (λ e. cc)

pub returns-in-Junk-clause-found : goal.returns-in-Junk-clause-found
returns-in-Junk-clause-found c = found_front _ 8 _ _ c.scan_places-header.ensures.found (λ e. cc)

pub scan_places-requires-2-clause-stands : goal.scan_places-requires-2-clause-stands
scan_places-requires-2-clause-stands c =
    (skipped _ _ _ _ c.min-end.result c.check_of_front.result c.scan_places-header.ensures.found c.in-More.is c.requires.bytes
    (omega (arith, c.min-end.ensures, c.end.ensures, c.if-count-le-HEADER.false))
    (omega (arith, c.min-end.ensures, c.len-count.ensures.len)) (omega (arith, c.min-end.ensures, c.end.ensures))
    (c.check_of_front.ensures _ c.mark_all.ensures.marks) c.skip.ensures).0

pub scan_places-requires-2-clause-partial : goal.scan_places-requires-2-clause-partial
scan_places-requires-2-clause-partial c =
    (skipped _ _ _ _ c.min-end.result c.check_of_front.result c.scan_places-header.ensures.found c.in-More.is c.requires.bytes
    (omega (arith, c.min-end.ensures, c.end.ensures, c.if-count-le-HEADER.false))
    (omega (arith, c.min-end.ensures, c.len-count.ensures.len)) (omega (arith, c.min-end.ensures, c.end.ensures))
    (c.check_of_front.ensures _ c.mark_all.ensures.marks) c.skip.ensures).1
