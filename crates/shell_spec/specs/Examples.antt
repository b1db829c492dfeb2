-- How the scripts of `src/script_values.rt` are set up.
use Rattle.std.specs.Prelude.{ℕ, true, List, [], ◌∷◌, ◌++◌, codes}
use Rattle.debug_spec.specs.inside.Examples.{erased_device, filled, port_words, small}
use Rattle.shell_spec.specs.Printed.{line}
use Rattle.shell_spec.specs.Script.{Script, script}

-- the patched debugger's script of these lines, over the program of one port, with runs of at most 100 steps
abbrev pub port_script : List (List ℕ) → Script
port_script lines = script true small (100 ∷ []) (filled port_words) (erased_device small []) lines

-- a breakpoint, a run to it, and what is read behind it
abbrev pub port_lines : List (List ℕ)
port_lines = codes "break 2" ∷ codes "go" ∷ codes "wait" ∷ codes "pc" ∷ codes "read flash 0 8" ∷ codes "quit" ∷ []

-- what is printed of it
abbrev pub port_transcript : List ℕ
port_transcript =
    line (codes "ok") ++ line (codes "ok") ++ line (codes "event 0002 cause 01") ++ line (codes "pc 0002") ++
    line (codes "0000 01e007bb08bbffcf") ++ line (codes "ok")
