-- Commands in frames, and what is sent back.
use Rattle.std.specs.Prelude.{ℕ, suc, ◌%◌, ◌==◌, Bool, not, List, [], ◌∷◌, filter}
use Rattle.line_spec.specs.Frames.{Frame}
use Rattle.line_spec.specs.Hearing.{Heard, request, asks, event_number}
use Rattle.line_spec.specs.Messages.{Command, command_body, ignored_written}

-- the number of a command's frame behind so many others: the number of events is left out
abbrev pub number_behind : (count : ℕ) → ℕ
number_behind count = count % event_number

-- commands as frames, behind so many others
abbrev pub frames_of : (count : ℕ) → List Command → List Frame
frames_of count [] = []
frames_of count (command ∷ commands) =
    record { number = number_behind count; body = command_body command (ignored_written command) } ∷ frames_of (suc count) commands

-- what is heard of them
abbrev pub requests_of : (count : ℕ) → List Command → List Heard
requests_of count [] = []
requests_of count (command ∷ commands) = request (number_behind count) (asks command) ∷ requests_of (suc count) commands

-- the frame is an event
abbrev pub is_event : Frame → Bool
is_event frame = frame.number == event_number

-- the events among frames
abbrev pub events_in : List Frame → List Frame
events_in frames = filter is_event frames

-- the replies among them
abbrev pub replies_in : List Frame → List Frame
replies_in frames = filter (λ frame. not (is_event frame)) frames
