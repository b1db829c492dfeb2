use Rattle.std.proofs.Common.{◌≡◌, ◌+◌, ◌≤◌, length}
use Rattle.image_hex.specs.Lines.{lines_of}
use Rattle.image_hex.specs.Hex.{filled}
use Rattle.image_hex.specs.Taking.{image_shown}
use Rattle.image_hex.proofs.filling.fill.Given as goal

abbrev pub invariant-loop-rest : goal.invariant-loop-rest
invariant-loop-rest l = record {
  count : l.number + length l.rest ≤ 1 + length l.text;
  size : length l.image.bytes.items ≡ length l.initial.image.bytes.items;
  rest : filled (lines_of l.rest) l.number (image_shown l.image) ≡ filled (lines_of l.text) 1 (image_shown l.initial.image);
}

abbrev pub decreases-loop-rest : goal.decreases-loop-rest
decreases-loop-rest l = length l.rest
