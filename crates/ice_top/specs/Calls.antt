-- The call that the code reads from the words.
use Rattle.ice_top.specs.Words.{Form, replay, script, frames, gen, listing, verifying, assembling, serving, connecting}
use Rattle.ice_top.specs.declared.words.Form.{Form as Held}
use Rattle.ice_top.specs.declared.words.Form.TheVariants.{Replay, Script, Frames, Gen, Listing, Verify, Assembly, Serve, Connect}

-- what it does
abbrev pub form_told : Held → Form
form_told (Replay image stops) = replay image.now stops.items
form_told (Script image stops) = script image.now stops.items
form_told Frames = frames
form_told (Gen seed count) = gen seed count
form_told (Listing image) = listing image.now
form_told (Verify image) = verifying image.now
form_told Assembly = assembling
form_told (Serve port image) = serving port image.now
form_told (Connect port) = connecting port
