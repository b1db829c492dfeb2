-- A message's body has its code, so it is read as a message, and a body belongs to one message at most.
use Rattle.std.proofs.Common.{◌≡◌, ℕ, List, refl, sym, ap, subst, lit<, Result, Ok, Err, IsOkAnd}
use Rattle.line_spec.specs.Messages.{IsCommand, IsCommandBody, command_body, ignored_written, HasCode, IsResponseBody, Event as Told, break_at, event_body, event_codes, IsEvent, IsEventBody}
use Rattle.line_spec.proofs.Bodies.{one_command, one_response, one_event, written_belongs}
use Rattle.ice_msg.specs.declared.bad.Bad.{Bad}
use Rattle.ice_msg.specs.declared.bad.Bad.TheVariants.{Code, Length}
use Rattle.ice_msg.specs.declared.command.Command.{Command}
use Rattle.ice_msg.specs.declared.event.Event.{Event}
use Rattle.ice_msg.specs.declared.event.Event.TheVariants.{Break}
use Rattle.ice_msg.specs.declared.response.Response.{Response}
use Rattle.ice_msg.specs.Reading.{asked, answered, told, ReadsCommand, ReadsResponse, ReadsEvent}
use Rattle.ice_msg.proofs.Replies.{response_has_code}
use Rattle.ice_msg.proofs.Requests.{command_has_code}

pub command_back : (body : List ℕ) (command : Command) (read : Result Command Bad) → IsCommandBody (asked command) body
    → ReadsCommand body read → IsOkAnd read (λ back. asked back ≡ asked command)
command_back body command (Ok back) belongs reads = one_command body (asked back) (asked command) reads belongs
command_back body command (Err Code) belongs reads = reads (command_has_code body (asked command) belongs)
command_back body command (Err Length) belongs reads = reads.1 (asked command) belongs

pub written_back : (command : Command) (read : Result Command Bad) → IsCommand (asked command)
    → ReadsCommand (command_body (asked command) (ignored_written (asked command))) read
    → IsOkAnd read (λ back. asked back ≡ asked command)
written_back command read valid reads = command_back _ command read (written_belongs (asked command) valid) reads

pub response_back : (body : List ℕ) (response : Response) (read : Result Response Bad)
    → IsResponseBody (answered response) body → ReadsResponse body read
    → IsOkAnd read (λ back. answered back ≡ answered response)
response_back body response (Ok back) belongs reads = one_response body (answered back) (answered response) reads belongs
response_back body response (Err Code) belongs reads = reads (response_has_code body (answered response) belongs)
response_back body response (Err Length) belongs reads = reads.1 (answered response) belongs

event_has_code : (body : List ℕ) (event : Told) → IsEventBody event body → HasCode event_codes body
event_has_code body (break_at address cause) belongs = subst (HasCode event_codes) (sym belongs.1) (0, lit< tt, refl)

-- the code's value that stands for the event
abbrev value_of : Told → Event
value_of (break_at address cause) = Break address cause

told_back : (back event : Event) → told back ≡ told event → back ≡ event
told_back (Break back_pc back_cause) (Break pc cause) same = ap value_of same

pub event_back : (event : Event) (read : Result Event Bad) → IsEvent (told event) → ReadsEvent (event_body (told event)) read
    → IsOkAnd read (λ back. back ≡ event)
event_back event (Ok back) valid reads =
    told_back back event (one_event (event_body (told event)) (told back) (told event) reads (valid, refl))
event_back event (Err Code) valid reads = reads (event_has_code (event_body (told event)) (told event) (valid, refl))
event_back event (Err Length) valid reads = reads.1 (told event) (valid, refl)
