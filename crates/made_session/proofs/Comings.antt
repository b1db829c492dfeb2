-- The commands that are still to come, and the bytes of their frames.
use Rattle.std.proofs.Common.{◌≡◌, ℕ, zero, suc, ◌+◌, ◌≤◌, List, [], ◌∷◌, ◌++◌, length, take, drop, refl, sym, ap, ◌∙◌, arith, append_assoc}
use Rattle.std.proofs.lemmas.List.{drop_all, take-append-drop, drop-drop, length-take, length-drop, take-append-le}
use Rattle.std.proofs.Math.Seq.{take-length}
use Rattle.std.specs.List.{flat_map}
use Rattle.line_spec.specs.Frames.{bytes_of}
use Rattle.line_spec.specs.Messages.{Command, command_body, ignored_written}
use Rattle.shell_spec.specs.Generator.{next_seed, chosen, made_commands, made_bytes}
use Rattle.shell_spec.specs.Sent.{number_behind, frames_of}
use Rattle.made_session.specs.Coming.{coming, line_left}

-- at the start all commands are still to come
pub coming-made : (seed count : ℕ) → coming seed (suc count) ≡ made_commands seed count
coming-made seed zero = refl
coming-made seed (suc count) =
    let next = next_seed seed in ap (λ (later : List Command). chosen next ∷ later) (coming-made next count)

pub line_left-made : (seed count to_come : ℕ) → to_come ≡ suc count → line_left [] 0 seed 0 to_come ≡ made_bytes seed count
line_left-made seed count to_come all =
    let bytes : List Command → List ℕ = λ commands. drop 0 [] ++ flat_map bytes_of (frames_of 0 commands) in
    ap bytes (ap (coming seed) all ∙ coming-made seed count)

-- a command more than the last is chosen by the seed behind this one
pub coming-more : (seed to_come left : ℕ) → to_come ≡ suc left → (to_come ≡ 1 → ⊥) →
    coming seed to_come ≡ chosen (next_seed seed) ∷ coming (next_seed seed) left
coming-more seed to_come zero is more = absurd (more is)
coming-more seed to_come (suc left) is more = ap (coming seed) is

-- a frame that is made takes nothing away
pub line_left-begun : (frame bytes : List ℕ) (given seed seed_now made made_now to_come left : ℕ) (command : Command) →
    given ≡ length frame → made_now ≡ suc made → coming seed to_come ≡ command ∷ coming seed_now left →
    bytes ≡ bytes_of (record { number = number_behind made; body = command_body command (ignored_written command) }) →
    line_left bytes 0 seed_now made_now left ≡ line_left frame given seed made to_come
line_left-begun frame bytes given seed seed_now made made_now to_come left command read one_more comes is =
    let behind : ℕ → List ℕ = λ count. flat_map bytes_of (frames_of count (coming seed_now left)) in
    let old : List ℕ → List ℕ = λ front. front ++ flat_map bytes_of (frames_of made (coming seed to_come)) in
    let none : drop given frame ≡ [] = drop_all given frame (omega (arith, read)) in
    ap (λ (front : List ℕ). front ++ behind made_now) is ∙
    ap (λ (count : ℕ). bytes_of (record { number = number_behind made; body = command_body command (ignored_written command) }) ++ behind count) one_more ∙
    ap (λ (commands : List Command). flat_map bytes_of (frames_of made commands)) (sym comes) ∙
    ap old (sym none)

-- what was read of a frame, put at the front of a buffer, and what is left are all
pub left_given : (frame rest behind : List ℕ) (given count : ℕ) → given + count ≤ length frame →
    drop given frame ++ behind ≡ take count (take count (drop given frame) ++ rest) ++ (drop (given + count) frame ++ behind)
left_given frame rest behind given count fits =
    let front : List ℕ = take count (drop given frame) in
    let size : length front ≡ count = omega (arith, length-take count (drop given frame), length-drop given frame, fits) in
    let fronted : take count (front ++ rest) ≡ front =
    take-append-le count front rest (omega (arith, size)) ∙ ap (λ (n : ℕ). take n front) (sym size) ∙ take-length front in
    ap (λ (t : List ℕ). t ++ behind) (sym (take-append-drop count (drop given frame))) ∙
    append_assoc front (drop count (drop given frame)) behind ∙
    ap (λ (t : List ℕ). front ++ (t ++ behind)) (drop-drop count given frame) ∙
    ap (λ (t : List ℕ). t ++ (drop (given + count) frame ++ behind)) (sym fronted)
