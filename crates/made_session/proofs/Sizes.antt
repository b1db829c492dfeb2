-- How many frames and bytes the line of a made session has.
use Rattle.std.proofs.Common.{◌≡◌, ℕ, zero, suc, ◌+◌, ◌*◌, ◌<◌, ◌≤◌, ◌/◌, ◌%◌, ◌^◌, List, [], ◌∷◌, length, refl, ap, arith}
use Rattle.std.proofs.Common.{slice_index_or, length-append}
use Rattle.std.specs.List.{All, flat_map}
use Rattle.std.proofs.lemmas.List.Elements.{All-nil, All-cons, All-append}
use Rattle.line_spec.specs.Frames.{bytes_of}
use Rattle.line_spec.specs.Messages.{Command, get_sync, sign_off, IsCommand, command_body, ignored_written}
use Rattle.line_spec.proofs.FrameBytes.{length-bytes_of}
use Rattle.shell_spec.specs.Generator.{choices, chosen, chosen_behind, next_seed, made_commands, made_bytes}
use Rattle.shell_spec.specs.Sent.{number_behind, frames_of}

-- the body of a command has at most ten bytes, and its numbers are within their fields
pub record IsShort (command : Command) : Type 0 where
  pub valid : IsCommand command
  pub few : length (command_body command (ignored_written command)) ≤ 10

short_at : (address k : ℕ) → address < 6 → IsShort (slice_index_or (choices address) k get_sync)
short_at address zero low = record { valid = tt; few = omega arith }
short_at address (suc zero) low = record { valid = tt; few = omega arith }
short_at address (suc (suc zero)) low = record { valid = (omega arith, omega arith, omega (arith, low)); few = omega arith }
short_at address (suc (suc (suc zero))) low = record { valid = (omega arith, omega (arith, low)); few = omega arith }
short_at address (suc (suc (suc (suc zero)))) low = record { valid = tt; few = omega arith }
short_at address (suc (suc (suc (suc (suc zero))))) low = record { valid = tt; few = omega arith }
short_at address (suc (suc (suc (suc (suc (suc zero)))))) low = record { valid = (omega arith, omega arith, omega arith); few = omega arith }
short_at address (suc (suc (suc (suc (suc (suc (suc zero))))))) low = record { valid = tt; few = omega arith }
short_at address (suc (suc (suc (suc (suc (suc (suc (suc k)))))))) low = record { valid = tt; few = omega arith }

pub short_chosen : (seed : ℕ) → IsShort (chosen seed)
short_chosen seed = short_at (seed / 256 % 6) (seed / 2 ^ 24 % 8) (omega arith)

pub short_sign_off : IsShort sign_off
short_sign_off = record { valid = tt; few = omega arith }

short_behind : (seed count : ℕ) → All IsShort (chosen_behind seed count)
short_behind seed zero = All-nil IsShort
short_behind seed (suc count) =
    let next = next_seed seed in
    All-cons IsShort (chosen next) (chosen_behind next count) (short_chosen next) (short_behind next count)

short_made : (seed count : ℕ) → All IsShort (made_commands seed count)
short_made seed count =
    All-append IsShort (chosen_behind seed count) (sign_off ∷ []) (short_behind seed count)
    (All-cons IsShort sign_off [] short_sign_off (All-nil IsShort))

length-behind : (seed count : ℕ) → length (chosen_behind seed count) ≡ count
length-behind seed zero = refl
length-behind seed (suc count) = ap suc (length-behind (next_seed seed) count)

-- one command more than was asked for
pub length-made : (seed count : ℕ) → length (made_commands seed count) ≡ count + 1
length-made seed count = omega (arith, length-append (chosen_behind seed count) (sign_off ∷ []), length-behind seed count)

few_bytes : (made : ℕ) (commands : List Command) → All IsShort commands →
    length (flat_map bytes_of (frames_of made commands)) ≤ 20 * length commands
few_bytes made [] all = omega arith
few_bytes made (command ∷ commands) all =
    let body = command_body command (ignored_written command) in
    let first : IsShort command = all 0 command (omega arith) in
    omega (
      arith,
      first.few,
      length-bytes_of (record { number = number_behind made; body = body }),
      length-append (bytes_of (record { number = number_behind made; body = body })) (flat_map bytes_of (frames_of (suc made) commands)),
      few_bytes (suc made) commands (λ k d inside. all (suc k) d (omega (arith, inside))),
    )

-- twenty bytes a command at most
pub length-made_bytes : (seed count : ℕ) → length (made_bytes seed count) ≤ 20 * (count + 1)
length-made_bytes seed count = omega (arith, length-made seed count, few_bytes 0 (made_commands seed count) (short_made seed count))
