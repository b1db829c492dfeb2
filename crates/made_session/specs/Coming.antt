-- The bytes of a made session that are still to come.
use Rattle.std.specs.Prelude.{ℕ, zero, suc, List, [], ◌∷◌, ◌++◌, drop, flat_map}
use Rattle.line_spec.specs.Frames.{bytes_of}
use Rattle.line_spec.specs.Messages.{Command, sign_off}
use Rattle.shell_spec.specs.Generator.{next_seed, chosen}
use Rattle.shell_spec.specs.Sent.{frames_of}

-- the commands where so many are still to come: those that the seeds behind this one choose, and last the one that signs off
abbrev pub coming : (seed to_come : ℕ) → List Command
coming seed zero = []
coming seed (suc zero) = sign_off ∷ []
coming seed (suc (suc more)) = let next = next_seed seed in chosen next ∷ coming next (suc more)

-- the bytes of a line of which so many of a frame's were read, and so many frames made: those left of the frame, and those of the
-- commands behind it
abbrev pub line_left : (frame : List ℕ) → (given seed made to_come : ℕ) → List ℕ
line_left frame given seed made to_come = drop given frame ++ flat_map bytes_of (frames_of made (coming seed to_come))
