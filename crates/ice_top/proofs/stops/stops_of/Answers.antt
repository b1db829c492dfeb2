use Rattle.std.proofs.Common.{rules, tests, ◌≡◌, ◌<◌, length, get_or, sym, arith, eqb, eqb-true}
use Rattle.std.proofs.lemmas.Bool.{eqb-false}
use Rattle.std.proofs.lemmas.List.{length_push}
use Rattle.std.proofs.lemmas.Iterator.Splits.{YieldsList-from_slice_split}
use Rattle.std.proofs.lemmas.Iterator.Consumers.{YieldsList-turn, YieldsList-end}
use Rattle.ice_top.specs.Stops.{pieces_of}
use Rattle.ice_top.proofs.StopLemmas.{Read-more, Read-all, IsStops-other}
use Rattle.ice_top.proofs.stops.stops_of.Goals as goal
use Rattle.ice_top.proofs.stops.stops_of.Goals.{In-Some}

-- the piece is the next one of the text
turn : (c : In-Some) → (length c.loop-piece.yielded < length (pieces_of c.args.text.now))
    × (c.in-Some.piece.now ≡ get_or (pieces_of c.args.text.now) (length c.loop-piece.yielded) c.in-Some.piece.now)
turn c =
    YieldsList-turn (YieldsList-from_slice_split _ (λ byte. eqb byte 44) c.args.text.now (cc) (cc) (cc) (λ x b q k. search (rules, tests)))
    c.loop-piece.yielded _ c.loop-piece.yielded_by _ _ c.in-Some.piece c.in-Some.is c.next.ensures.steps

pub returns-then-is_full : goal.returns-then-is_full
returns-then-is_full c =
    let next = turn (goal.at.returns-then-is_full c).In-Some in
    let full = eqb-true _ _ (sym c.if-is_full.ensures.value) in
    λ stops. absurd (omega (arith, next.0, stops.count, c.loop-piece.invariant.read.count, full))

pub returns-in_default : goal.returns-in_default
returns-in_default c =
    let next = turn (goal.at.returns-in_default c).In-Some in
    IsStops-other c.args.text.now _ _ next.0 next.1 c.in_default.ensures

pub loop-piece-preserved : goal.loop-piece-preserved
loop-piece-preserved c =
    let next = turn (goal.at.loop-piece-preserved c).In-Some in
    let number = c.in-Some-number_of.ensures in
    let pushed = length_push c.loop-piece.yielded c.in-Some.piece in
    record {
      read = Read-more c.args.text.now _ _ _ _ _ _ c.loop-piece.invariant.read next.0 next.1 number.0 number.1 c.push.ensures.items pushed;
      most =
          omega (arith, pushed, c.loop-piece.invariant.read.count, c.loop-piece.invariant.most, eqb-false _ _ (sym c.if-is_full.ensures.value));
    }

pub returns : goal.returns
returns c =
    let end = YieldsList-end (YieldsList-from_slice_split _ (λ byte. eqb byte 44) c.args.text.now (cc) (cc) (cc) (λ x b q k. search (rules, tests)))
    c.loop-piece.yielded _ c.loop-piece.yielded_by _ _ c.in-None.is c.next.ensures.steps in
    Read-all c.args.text.now _ _ c.loop-piece.invariant.read end.1 c.loop-piece.invariant.most
