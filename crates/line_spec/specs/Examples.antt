-- How the values of `src/values.rt` are set up and read.
use Rattle.std.specs.Prelude.{ℕ, List, [], ◌∷◌, map, Result, Ok, Err}
use Rattle.line_spec.specs.declared.refusal.Refusal.{Refusal}
use Rattle.line_spec.specs.Messages.{Command, ignored_written, command_body}
use Rattle.line_spec.specs.Parameters.{Parameter, parameters_at_start, parameter_read, parameter_written}

-- the body of a command as this project writes it
abbrev pub own_body : Command → List ℕ
own_body command = command_body command (ignored_written command)

-- why a write is refused, if it is
abbrev pub refusal_in : Result (List Parameter) Refusal → List Refusal
refusal_in (Ok done) = []
refusal_in (Err refusal) = refusal ∷ []

-- whether this value may be written at the start to the parameter with the id: nothing, or the refusal
abbrev pub write_answer : ℕ → List ℕ → List Refusal
write_answer id value = refusal_in (parameter_written parameters_at_start id value)

-- the values of these parameters at the start, while the target is in this state
abbrev pub read_at_start : ℕ → List ℕ → List (Result (List ℕ) Refusal)
read_at_start state ids = map (parameter_read parameters_at_start state) ids
