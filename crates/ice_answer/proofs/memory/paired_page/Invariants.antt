use Rattle.std.proofs.Common.{◌≡◌, length, take}
use Rattle.part_spec.specs.Chip.{page_words}
use Rattle.part_spec.specs.Pages.{paired}
use Rattle.ice_answer.proofs.memory.paired_page.Given as goal

abbrev pub invariant-loop-place : goal.invariant-loop-place
invariant-loop-place l = record {
  size : length l.words ≡ page_words;
  words : take l.place l.words ≡ take l.place (paired l.bytes);
}
