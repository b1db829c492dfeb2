use Rattle.std.proofs.Common.{◌≡◌, ℕ, Bool, true, false, List, [], ◌∷◌, Option, Some, None, Err, length, refl}
use Rattle.std.specs.Prelude.{◌≢◌, ◌==◌, if◌then◌else◌}
use Rattle.std.proofs.lemmas.Bool.{ne_eqb, and_right}
use Rattle.line_spec.specs.Parameters.{Accepted, Parameter, read_only, any_value, numbers, mcu_state, parameter_of, parameter_read, parameter_written, written_at}
use Rattle.line_spec.specs.declared.refusal.Refusal.TheVariants.{IllegalParameter}

-- none of the parameters has the id
abbrev pub Misses : List Parameter → ℕ → Type 0
Misses [] id = Unit {0}
Misses (parameter ∷ others) id = (id ≢ parameter.id) × Misses others id

none_found : (parameters : List Parameter) (id : ℕ) → Misses parameters id → parameter_of parameters id ≡ None
none_found [] id misses = refl
none_found (parameter ∷ others) id misses = rw (ne_eqb id parameter.id misses.0) (none_found others id misses.1)

-- then a read is refused
pub unread : {kept now : List Parameter} (state id : ℕ) → kept ≡ now → Misses kept id → id ≢ mcu_state
    → parameter_read now state id ≡ Err IllegalParameter
unread {kept = kept} state id same misses other =
    rw (← same, ne_eqb id mcu_state other, none_found kept id misses) refl

-- the parameter is read-only, or has not the id
abbrev pub NoneOf : Accepted → Type 0 → Type 0
NoneOf read_only Other = Unit {0}
NoneOf any_value Other = Other
NoneOf (numbers least most) Other = Other

-- none of the parameters that may be written has the id
abbrev pub MissesWritable : List Parameter → ℕ → Type 0
MissesWritable [] id = Unit {0}
MissesWritable (parameter ∷ others) id = NoneOf parameter.accepted (id ≢ parameter.id) × MissesWritable others id

-- a parameter that is read-only refuses
refused_first : (here : Bool) (parameter : Parameter) (rest : Option Parameter) (all : List Parameter) (id : ℕ) (value : List ℕ)
    → parameter.accepted ≡ read_only → written_at rest all id value ≡ Err IllegalParameter
    → written_at (if here then Some parameter else rest) all id value ≡ Err IllegalParameter
refused_first true parameter rest all id value only behind =
    rw (only, and_right (length value == length parameter.value) false refl) refl
refused_first false parameter rest all id value only behind = behind

refused_one : (accepted : Accepted) (parameter : Parameter) (rest : Option Parameter) (all : List Parameter) (id : ℕ) (value : List ℕ)
    → parameter.accepted ≡ accepted → NoneOf accepted (id ≢ parameter.id) → written_at rest all id value ≡ Err IllegalParameter
    → written_at (if id == parameter.id then Some parameter else rest) all id value ≡ Err IllegalParameter
refused_one read_only parameter rest all id value only misses behind =
    refused_first (id == parameter.id) parameter rest all id value only behind
refused_one any_value parameter rest all id value only misses behind = rw (ne_eqb id parameter.id misses) behind
refused_one (numbers least most) parameter rest all id value only misses behind = rw (ne_eqb id parameter.id misses) behind

refused_at : (parameters all : List Parameter) (id : ℕ) (value : List ℕ) → MissesWritable parameters id
    → written_at (parameter_of parameters id) all id value ≡ Err IllegalParameter
refused_at [] all id value misses = refl
refused_at (parameter ∷ others) all id value misses =
    refused_one parameter.accepted parameter (parameter_of others id) all id value refl misses.0
    (refused_at others all id value misses.1)

-- then a write is refused
pub unwritten : {kept now : List Parameter} (id : ℕ) (value : List ℕ) → kept ≡ now → MissesWritable kept id
    → parameter_written now id value ≡ Err IllegalParameter
unwritten {kept = kept} id value same misses = rw (← same) (refused_at kept kept id value misses)
