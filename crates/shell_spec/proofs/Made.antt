-- The frames of a made session are frames, and their commands are heard.
use Rattle.std.proofs.Common.{◌≡◌, ℕ, zero, suc, ◌<◌, ◌≤◌, ◌/◌, ◌%◌, ◌^◌, List}
use Rattle.std.proofs.Common.{[], ◌∷◌, ◌++◌, map, length, slice_index_or, Bool, refl, ap, arith, length-append}
use Rattle.std.specs.List.{All, flat_map}
use Rattle.std.specs.Int.{w32, to_le_bytes}
use Rattle.std.proofs.lemmas.List.Elements.{All-nil, All-cons, All-append}
use Rattle.line_spec.specs.Frames.{IsBytes, bytes_of, body_limit}
use Rattle.line_spec.specs.Cut.{whole, IsCut}
use Rattle.line_spec.specs.Hearing.{HearsAll}
use Rattle.line_spec.specs.Messages.{Command, get_sync, single_step, set_break, clear_break}
use Rattle.line_spec.specs.Messages.{go, forced_stop, read_memory, read_pc, sign_off}
use Rattle.line_spec.specs.Messages.{IsCommand, command_body, ignored_written}
use Rattle.line_spec.proofs.Bodies.{written_belongs}
use Rattle.line_spec.proofs.Bytes.{IsBytes-four, IsBytes-append}
use Rattle.line_spec.proofs.Cuts.{IsCut-frame, IsPartial-nil}
use Rattle.part_spec.specs.Chip.{Chip}
use Rattle.debug_spec.specs.Device.{Device}
use Rattle.debug_spec.specs.Replay.{IsReplay}
use Rattle.shell_spec.specs.Generator.{choices, chosen, chosen_behind, next_seed, made_commands, made_bytes, made_program, made_session}
use Rattle.shell_spec.specs.Generator.{made_stops}
use Rattle.shell_spec.specs.Sent.{frames_of, requests_of}
use Rattle.shell_spec.proofs.Streams.{are_bytes}

-- the command can be sent in a frame
record CanBeSent (command : Command) : Type 0 where
  pub valid : IsCommand command
  pub bytes : IsBytes (command_body command (ignored_written command))
  pub limit : length (command_body command (ignored_written command)) ≤ body_limit

-- a code, a few bytes, an address, and bytes behind it
addressed : (front behind : List ℕ) (address : ℕ) → IsBytes front → IsBytes behind → IsBytes (front ++ (to_le_bytes w32 address ++ behind))
addressed front behind address before after =
    let four : IsBytes (to_le_bytes w32 address) = IsBytes-four _ _ _ _ (omega arith) (omega arith) (omega arith) (omega arith) in
    IsBytes-append front (to_le_bytes w32 address ++ behind) before (IsBytes-append (to_le_bytes w32 address) behind four after)

sent_sync : CanBeSent get_sync
sent_sync = record { valid = tt; bytes = are_bytes (0x0f ∷ []) refl; limit = omega arith }

sent_step : CanBeSent single_step
sent_step = record { valid = tt; bytes = are_bytes (0x09 ∷ []) refl; limit = omega arith }

sent_break : (address : ℕ) → address < 6 → CanBeSent (set_break 1 0 address)
sent_break address low = record {
  valid = (omega arith, omega arith, omega (arith, low));
  bytes = addressed (0x11 ∷ 0x01 ∷ 0x00 ∷ []) (0x00 ∷ []) address (are_bytes (0x11 ∷ 0x01 ∷ 0x00 ∷ []) refl) (are_bytes (0x00 ∷ []) refl);
  limit = omega arith;
}

sent_clear : (address : ℕ) → address < 6 → CanBeSent (clear_break 0 address)
sent_clear address low = record {
  valid = (omega arith, omega (arith, low));
  bytes = addressed (0x1a ∷ 0x00 ∷ []) [] address (are_bytes (0x1a ∷ 0x00 ∷ []) refl) (are_bytes [] refl);
  limit = omega arith;
}

sent_go : CanBeSent go
sent_go = record { valid = tt; bytes = are_bytes (0x08 ∷ []) refl; limit = omega arith }

sent_stop : CanBeSent forced_stop
sent_stop = record { valid = tt; bytes = are_bytes (0x0a ∷ 0x01 ∷ []) refl; limit = omega arith }

sent_read : CanBeSent (read_memory 0x20 0x10 0x10)
sent_read = record {
  valid = (omega arith, omega arith, omega arith);
  bytes = are_bytes (0x05 ∷ 0x20 ∷ 0x10 ∷ 0 ∷ 0 ∷ 0 ∷ 0x10 ∷ 0 ∷ 0 ∷ 0 ∷ []) refl;
  limit = omega arith;
}

sent_pc : CanBeSent read_pc
sent_pc = record { valid = tt; bytes = are_bytes (0x07 ∷ []) refl; limit = omega arith }

sent_off : CanBeSent sign_off
sent_off = record { valid = tt; bytes = are_bytes (0x00 ∷ []) refl; limit = omega arith }

sent_at : (address k : ℕ) → address < 6 → CanBeSent (slice_index_or (choices address) k get_sync)
sent_at address zero low = sent_sync
sent_at address (suc zero) low = sent_step
sent_at address (suc (suc zero)) low = sent_break address low
sent_at address (suc (suc (suc zero))) low = sent_clear address low
sent_at address (suc (suc (suc (suc zero)))) low = sent_go
sent_at address (suc (suc (suc (suc (suc zero))))) low = sent_stop
sent_at address (suc (suc (suc (suc (suc (suc zero)))))) low = sent_read
sent_at address (suc (suc (suc (suc (suc (suc (suc zero))))))) low = sent_pc
sent_at address (suc (suc (suc (suc (suc (suc (suc (suc k)))))))) low = sent_sync

sent_chosen : (seed : ℕ) → CanBeSent (chosen seed)
sent_chosen seed = sent_at (seed / 256 % 6) (seed / 2 ^ 24 % 8) (omega arith)

sent_behind : (seed count : ℕ) → All CanBeSent (chosen_behind seed count)
sent_behind seed zero = All-nil CanBeSent
sent_behind seed (suc count) =
    let next = next_seed seed in All-cons CanBeSent (chosen next) (chosen_behind next count) (sent_chosen next) (sent_behind next count)

-- commands that can be sent are heard as they were sent
abbrev AreHeard : (count : ℕ) → List Command → Type 0
AreHeard count commands =
    let frames = frames_of count commands in
    IsCut (flat_map bytes_of frames) (map whole frames) [] × HearsAll (map whole frames) (requests_of count commands)

sent_are_heard : (count : ℕ) (commands : List Command) → All CanBeSent commands → AreHeard count commands
sent_are_heard count [] all = (record { cuts = refl; partial = IsPartial-nil }, tt)
sent_are_heard count (command ∷ commands) all =
    let first : CanBeSent command = all 0 command (omega arith) in
    let later = sent_are_heard (suc count) commands (λ k d inside. all (suc k) d (omega (arith, inside))) in
    let frames = frames_of (suc count) commands in (
      IsCut-frame _ (flat_map bytes_of frames) [] (map whole frames)
          (record { number = omega arith; body = first.limit; bytes = first.bytes }) later.0,
      ((λ same. omega (arith, same), refl, written_belongs command first.valid), later.1),
    )

made_are_heard : (seed count : ℕ) → AreHeard 0 (made_commands seed count)
made_are_heard seed count =
    sent_are_heard 0 (made_commands seed count)
    (All-append CanBeSent (chosen_behind seed count) (sign_off ∷ []) (sent_behind seed count)
    (All-cons CanBeSent sign_off [] sent_off (All-nil CanBeSent)))

pub made_are_replays : (planted : Bool) (part : Chip) (seed count : ℕ) (device : Device) →
    IsReplay planted part made_stops (made_program part) device (made_bytes seed count) (made_session planted part seed count device)
made_are_replays planted part seed count device =
    let heard = made_are_heard seed count in
    record {
      items = map whole (frames_of 0 (made_commands seed count));
      rest = [];
      heard = requests_of 0 (made_commands seed count);
      cut = heard.0;
      hears = heard.1;
      is_end = refl;
    }

length-frames_of : (count : ℕ) (commands : List Command) → length (frames_of count commands) ≡ length commands
length-frames_of count [] = refl
length-frames_of count (command ∷ commands) = ap suc (length-frames_of (suc count) commands)

length-behind : (seed count : ℕ) → length (chosen_behind seed count) ≡ count
length-behind seed zero = refl
length-behind seed (suc count) = ap suc (length-behind (next_seed seed) count)

pub one_frame_more : (seed count : ℕ) → length (frames_of 0 (made_commands seed count)) ≡ suc count
one_frame_more seed count =
    omega (
      arith,
      length-frames_of 0 (made_commands seed count),
      length-append (chosen_behind seed count) (sign_off ∷ []),
      length-behind seed count,
    )
