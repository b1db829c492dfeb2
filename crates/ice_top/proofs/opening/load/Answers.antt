use Rattle.ice_top.proofs.opening.load.Goals as goal

pub returns-in-Ok-read_image_for-clause-loads : goal.returns-in-Ok-read_image_for-clause-loads
returns-in-Ok-read_image_for-clause-loads g c = record {
  image = c.in-Ok.image.items;
  gave = c.in-Ok.ensures.bytes;
  gives = rw (← c.as_slice.ensures.value) c.in-Ok-read_image_for.ensures.answer;
}
