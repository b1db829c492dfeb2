use Rattle.std.proofs.Common.{◌<◌, refl, sym, ap, ◌∙◌, length, arith}
use Rattle.line_spec.proofs.Bytes.{IsBytes-along, IsBytes-drop}
use Rattle.ice_recv.proofs.Founds.{found_all, found_frame, found_junk}
use Rattle.ice_recv.proofs.Markings.{AreMarks-dropped}
use Rattle.ice_recv.proofs.Settlings.{JunkAhead-start, JunkAhead-more, junk_shorter}
use Rattle.ice_recv.proofs.held.settle.Goals as goal

pub items-init : goal.items-init
items-init c = record {
  ahead = JunkAhead-start _ (omega (arith, c.type_inv._start));
  cost = omega arith;
  capacity = refl;
  marks = c.requires.marks;
  bytes = c.requires.bytes;
  room = c.requires.room;
}

pub returns-in-Whole-clause-front : goal.returns-in-Whole-clause-front
returns-in-Whole-clause-front c = record {
  ahead = c.items.invariant.ahead;
  stands = found_frame _ _ _ c.scan_held-found.ensures.found c.in-Whole.is;
  cost = omega (arith, c.items.invariant.cost, c.scan_held-found.ensures.looks, c.scan_held-found.ensures.found.within, c.items.invariant.ahead.size, c.requires.fits);
}

pub returns-in-More-clause-front : goal.returns-in-More-clause-front
returns-in-More-clause-front c = record {
  ahead = c.items.invariant.ahead;
  stands = found_all _ _ _ c.scan_held-found.ensures.found c.in-More.is;
  cost = omega (arith, c.items.invariant.cost, c.scan_held-found.ensures.looks, c.scan_held-found.ensures.found.within, c.items.invariant.ahead.size, c.requires.fits);
}

pub items-smaller : goal.items-smaller
items-smaller c =
    let junk = found_junk _ _ _ c.scan_held-found.ensures.found c.in-Junk.is in
    let less : length c.drop_first.new.held.items < length c.items.held.items =
    omega (arith, junk_shorter _ junk, ap length c.drop_first.ensures.items) in
    less

pub items-preserved : goal.items-preserved
items-preserved c =
    let junk = found_junk _ _ _ c.scan_held-found.ensures.found c.in-Junk.is in
    let before = c.items.invariant.ahead in
    let after = JunkAhead-more _ _ _ (record { held = c.drop_first.new.held.items; dropped = c.drop_first.new.dropped })
    before junk c.drop_first.ensures.items c.drop_first.ensures.counts in
    record {
      ahead = after;
      cost = omega (
        arith,
        c.items.invariant.cost,
        c.scan_held-found.ensures.looks,
        c.scan_held-found.ensures.found.within,
        c.requires.fits,
        before.size,
        after.size,
        junk_shorter _ junk,
        ap length c.drop_first.ensures.items,
      );
      capacity = c.drop_first.ensures.capacity ∙ c.items.invariant.capacity;
      marks = AreMarks-dropped _ _ _ _ 1 c.drop_first.ensures.marks c.drop_first.ensures.items (omega (arith, junk_shorter _ junk))
          c.scan_held-found.ensures.marks;
      bytes = IsBytes-along _ _ (sym c.drop_first.ensures.items) (IsBytes-drop 1 _ c.items.invariant.bytes);
      room = c.drop_first.ensures.room ∙ c.scan_held-found.ensures.capacity ∙ c.items.invariant.room;
    }
