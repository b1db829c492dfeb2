use Rattle.std.proofs.Common.{refl}
use Rattle.ice_top.proofs.Commands.{served_alone, connected_alone}
use Rattle.ice_top.proofs.Openings.{stops_told, script_stops_told, few_told, EndsBy-replay, EndsBy-script, EndsBy-gen, EndsBy-listing}
use Rattle.ice_top.proofs.Openings.{EndsBy-assembly, EndsBy-verify, assembly_told}
use Rattle.ice_top.proofs.Openings.{EndsBy-no_call, SaysNoneLocal-none, served_told, connected_told}
use Rattle.ice_top.proofs.Plainly.{are_as_plain, leave_program}
use Rattle.ice_top.proofs.call.ice2.Goals as goal

pub returns-in_default-clause-ends : goal.returns-in_default-clause-ends
returns-in_default-clause-ends g c =
    EndsBy-no_call _ _ _ _ _ _ _ c.no_call.ensures.status (SaysNoneLocal-none _ c.in_default.ensures) refl c.no_call.ensures.noted
    c.no_call.ensures.flash

pub returns-in_default-clause-plain : goal.returns-in_default-clause-plain
returns-in_default-clause-plain g c = are_as_plain _ _ _ _ _

pub returns-in_default-clause-program : goal.returns-in_default-clause-program
returns-in_default-clause-program g c = leave_program _ _ _ _ _

pub replay_image-requires-clause-stops : goal.replay_image-requires-clause-stops
replay_image-requires-clause-stops g c = stops_told _ _ _ c.in-Some.ensures _ _ c.in-Replay.is

pub returns-in-Replay-clause-ends : goal.returns-in-Replay-clause-ends
returns-in-Replay-clause-ends g c =
    EndsBy-replay _ _ _ c.in-Some.ensures _ _ _ _ _ _ _ _ c.in-Replay.is c.replay_image.ensures.ends

pub returns-in-Replay-clause-plain : goal.returns-in-Replay-clause-plain
returns-in-Replay-clause-plain g c = are_as_plain _ _ _ _ _

pub returns-in-Replay-clause-program : goal.returns-in-Replay-clause-program
returns-in-Replay-clause-program g c = leave_program _ _ _ _ _

pub returns-in-Frames-clause-plain : goal.returns-in-Frames-clause-plain
returns-in-Frames-clause-plain g c = are_as_plain _ _ _ _ _

pub returns-in-Frames-clause-program : goal.returns-in-Frames-clause-program
returns-in-Frames-clause-program g c = leave_program _ _ _ _ _

pub make-requires-clause-few : goal.make-requires-clause-few
make-requires-clause-few g c = few_told _ _ _ c.in-Some.ensures _ _ c.in-Gen.is

pub returns-in-Gen-clause-ends : goal.returns-in-Gen-clause-ends
returns-in-Gen-clause-ends g c =
    EndsBy-gen _ _ _ c.in-Some.ensures _ _ _ _ _ _ _ _ c.in-Gen.is (c.make.ensures.made _ _, refl)

pub returns-in-Gen-clause-plain : goal.returns-in-Gen-clause-plain
returns-in-Gen-clause-plain g c = are_as_plain _ _ _ _ _

pub returns-in-Gen-clause-program : goal.returns-in-Gen-clause-program
returns-in-Gen-clause-program g c = leave_program _ _ _ _ _

pub script_image-requires-clause-stops : goal.script_image-requires-clause-stops
script_image-requires-clause-stops g c = script_stops_told _ _ _ c.in-Some.ensures _ _ c.in-Script.is

pub returns-in-Script-clause-ends : goal.returns-in-Script-clause-ends
returns-in-Script-clause-ends g c =
    EndsBy-script _ _ _ c.in-Some.ensures _ _ _ _ _ _ _ _ c.in-Script.is c.script_image.ensures.ends

pub returns-in-Script-clause-plain : goal.returns-in-Script-clause-plain
returns-in-Script-clause-plain g c = are_as_plain _ _ _ _ _

pub returns-in-Script-clause-program : goal.returns-in-Script-clause-program
returns-in-Script-clause-program g c = leave_program _ _ _ _ _

pub returns-in-Listing-clause-ends : goal.returns-in-Listing-clause-ends
returns-in-Listing-clause-ends g c =
    EndsBy-listing _ _ _ c.in-Some.ensures _ _ _ _ _ _ _ c.in-Listing.is (c.list_image.ensures.ends _ _, refl)

pub returns-in-Listing-clause-plain : goal.returns-in-Listing-clause-plain
returns-in-Listing-clause-plain g c = are_as_plain _ _ _ _ _

pub returns-in-Listing-clause-program : goal.returns-in-Listing-clause-program
returns-in-Listing-clause-program g c = leave_program _ _ _ _ _

pub returns-in-Serve-clause-ends : goal.returns-in-Serve-clause-ends
returns-in-Serve-clause-ends g c =
    EndsBy-no_call _ _ _ _ _ _ _ c.no_call-in-Serve.ensures.status
    (served_alone _ _ _ _ (served_told _ _ _ c.in-Some.ensures _ _ c.in-Serve.is)) refl c.no_call-in-Serve.ensures.noted
    c.no_call-in-Serve.ensures.flash

pub returns-in-Serve-clause-plain : goal.returns-in-Serve-clause-plain
returns-in-Serve-clause-plain g c = are_as_plain _ _ _ _ _

pub returns-in-Serve-clause-program : goal.returns-in-Serve-clause-program
returns-in-Serve-clause-program g c = leave_program _ _ _ _ _

pub returns-in-Connect-clause-ends : goal.returns-in-Connect-clause-ends
returns-in-Connect-clause-ends g c =
    EndsBy-no_call _ _ _ _ _ _ _ c.no_call-in-Connect.ensures.status
    (connected_alone _ _ _ (connected_told _ _ _ c.in-Some.ensures _ c.in-Connect.is)) refl c.no_call-in-Connect.ensures.noted
    c.no_call-in-Connect.ensures.flash

pub returns-in-Connect-clause-plain : goal.returns-in-Connect-clause-plain
returns-in-Connect-clause-plain g c = are_as_plain _ _ _ _ _

pub returns-in-Connect-clause-program : goal.returns-in-Connect-clause-program
returns-in-Connect-clause-program g c = leave_program _ _ _ _ _

pub returns-in-Assembly-clause-ends : goal.returns-in-Assembly-clause-ends
returns-in-Assembly-clause-ends g c =
    EndsBy-assembly _ _ _ c.in-Some.ensures _ _ _ _ _ _ c.in-Assembly.is (c.assemble_text.ensures.assembled, refl, refl)

pub returns-in-Assembly-clause-plain : goal.returns-in-Assembly-clause-plain
returns-in-Assembly-clause-plain g c = are_as_plain _ _ _ _ _

pub returns-in-Assembly-clause-program : goal.returns-in-Assembly-clause-program
returns-in-Assembly-clause-program g c = leave_program _ _ _ _ _

pub returns-in-Assembly-clause-untouched : goal.returns-in-Assembly-clause-untouched
returns-in-Assembly-clause-untouched g c = λ unopened none. absurd (none _ (assembly_told _ _ _ c.in-Some.ensures c.in-Assembly.is))

pub returns-in-Verify-clause-ends : goal.returns-in-Verify-clause-ends
returns-in-Verify-clause-ends g c =
    EndsBy-verify _ _ _ c.in-Some.ensures _ _ _ _ _ _ _ c.in-Verify.is (c.verify_image.ensures.ends, refl)

pub returns-in-Verify-clause-plain : goal.returns-in-Verify-clause-plain
returns-in-Verify-clause-plain g c = are_as_plain _ _ _ _ _

pub returns-in-Verify-clause-program : goal.returns-in-Verify-clause-program
returns-in-Verify-clause-program g c = leave_program _ _ _ _ _
