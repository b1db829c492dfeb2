-- What a write changes of the parameters, and what it leaves.
use Rattle.std.proofs.Common.{◌≡◌, ◌∙◌, sym, ap, refl, ℕ, Bool, true, false, List, [], ◌∷◌, length, map, Option, None, Some, Ok, Err, arith}
use Rattle.std.specs.Prelude.{◌≢◌, ◌==◌, if◌then◌else◌, Result, is_ok, is_some}
use Rattle.std.specs.Option.{option_map}
use Rattle.std.proofs.lemmas.Bool.{eqb-true, ne_eqb, false≢true, and_parts}
use Rattle.line_spec.specs.declared.refusal.Refusal.{Refusal}
use Rattle.line_spec.specs.Parameters.{Accepted, Parameter, parameters_at_start, mcu_state, parameter_of, value_of, parameter_read, takes}
use Rattle.line_spec.specs.Parameters.{write_refusal, with_value, written_at, parameter_written, shape_of, IsTable}

-- what is known of a write that was not refused
pub record IsWritten (parameters : List Parameter) (id : ℕ) (value : List ℕ) (after : List Parameter) : Type 0 where
  pub parameter : Parameter
  pub found : parameter_of parameters id ≡ Some parameter
  pub taken : takes parameter value ≡ true
  pub left : with_value parameters id value ≡ after

abbrev parameters_in : Result (List Parameter) Refusal → List Parameter
parameters_in (Ok parameters) = parameters
parameters_in (Err refusal) = []

written_where : (parameters after : List Parameter) (id : ℕ) (value : List ℕ) (parameter : Parameter) (here : Bool)
    → parameter_of parameters id ≡ Some parameter → takes parameter value ≡ here
    → (if here then Ok (with_value parameters id value) else Err (write_refusal parameter.accepted)) ≡ Ok after
    → IsWritten parameters id value after
written_where parameters after id value parameter true found taken written =
    record { parameter = parameter; found = found; taken = taken; left = ap parameters_in written }
written_where parameters after id value parameter false found taken written = absurd (false≢true (ap is_ok written))

written_at_one : (parameters after : List Parameter) (id : ℕ) (value : List ℕ) (one : Option Parameter)
    → parameter_of parameters id ≡ one → written_at one parameters id value ≡ Ok after → IsWritten parameters id value after
written_at_one parameters after id value None found written = absurd (false≢true (ap is_ok written))
written_at_one parameters after id value (Some parameter) found written =
    written_where parameters after id value parameter (takes parameter value) found refl written

pub is_written : (parameters after : List Parameter) (id : ℕ) (value : List ℕ) → parameter_written parameters id value ≡ Ok after
    → IsWritten parameters id value after
is_written parameters after id value written =
    written_at_one parameters after id value (parameter_of parameters id) refl written

abbrev size_of : Option Parameter → ℕ
size_of None = 0
size_of (Some parameter) = length parameter.value

shape_first : (here : Bool) (first parameter : Parameter) (others changed : List Parameter) (found : Option Parameter) (value : List ℕ)
    → (if here then Some first else found) ≡ Some parameter → length value ≡ length parameter.value
    → (found ≡ Some parameter → map shape_of changed ≡ map shape_of others)
    → map shape_of (if here then record first { value = value } ∷ others else first ∷ changed) ≡ map shape_of (first ∷ others)
shape_first true first parameter others changed found value is size behind =
    ap (λ (n : ℕ). (first.id, n, first.accepted) ∷ map shape_of others) (size ∙ sym (ap size_of is))
shape_first false first parameter others changed found value is size behind =
    ap (λ (shapes : List (ℕ × ℕ × Accepted)). shape_of first ∷ shapes) (behind is)

-- a value of the parameter's size leaves the shapes
same_shapes : (parameters : List Parameter) (id : ℕ) (value : List ℕ) (parameter : Parameter)
    → parameter_of parameters id ≡ Some parameter → length value ≡ length parameter.value
    → map shape_of (with_value parameters id value) ≡ map shape_of parameters
same_shapes [] id value parameter found size = refl
same_shapes (first ∷ others) id value parameter found size =
    shape_first (id == first.id) first parameter others (with_value others id value) (parameter_of others id) value found size
    (λ is. same_shapes others id value parameter is size)

pub keeps_table : (parameters after : List Parameter) (id : ℕ) (value : List ℕ) → IsTable parameters
    → parameter_written parameters id value ≡ Ok after → IsTable after
keeps_table parameters after id value table written =
    let w = is_written parameters after id value written in
    let size : length value ≡ length w.parameter.value =
    eqb-true (length value) (length w.parameter.value) (and_parts _ _ w.taken).0 in
    ap (map shape_of) (sym w.left) ∙ same_shapes parameters id value w.parameter w.found size ∙ table

read_first : (here : Bool) (first parameter : Parameter) (others changed : List Parameter) (found : Option Parameter)
    (id : ℕ) (value : List ℕ)
    → (id == first.id) ≡ here → (if here then Some first else found) ≡ Some parameter
    → (found ≡ Some parameter → value_of (parameter_of changed id) ≡ Ok value)
    → value_of (parameter_of (if here then record first { value = value } ∷ others else first ∷ changed) id) ≡ Ok value
read_first true first parameter others changed found id value here is behind = rw here refl
read_first false first parameter others changed found id value here is behind = rw here (behind is)

-- the value is found where it was put
found_back : (parameters : List Parameter) (id : ℕ) (value : List ℕ) (parameter : Parameter)
    → parameter_of parameters id ≡ Some parameter → value_of (parameter_of (with_value parameters id value) id) ≡ Ok value
found_back [] id value parameter found = absurd (false≢true (ap is_some found))
found_back (first ∷ others) id value parameter found =
    read_first (id == first.id) first parameter others (with_value others id value) (parameter_of others id) id value refl found
    (λ is. found_back others id value parameter is)

other_first : (here : Bool) (first : Parameter) (others changed : List Parameter) (id other : ℕ) (value : List ℕ)
    → (id == first.id) ≡ here → other ≢ id → parameter_of changed other ≡ parameter_of others other
    → parameter_of (if here then record first { value = value } ∷ others else first ∷ changed) other ≡ parameter_of (first ∷ others) other
other_first true first others changed id other value here differs behind =
    let apart : other ≢ first.id = λ same. differs (same ∙ sym (eqb-true id first.id here)) in
    rw (ne_eqb other first.id apart) refl
other_first false first others changed id other value here differs behind =
    ap (λ (one : Option Parameter). if other == first.id then Some first else one) behind

-- another parameter is found as before
found_other : (parameters : List Parameter) (id other : ℕ) (value : List ℕ) → other ≢ id
    → parameter_of (with_value parameters id value) other ≡ parameter_of parameters other
found_other [] id other value differs = refl
found_other (first ∷ others) id other value differs =
    other_first (id == first.id) first others (with_value others id value) id other value refl differs
    (found_other others id other value differs)

pub leaves_others : (parameters after : List Parameter) (state id other : ℕ) (value : List ℕ) → other ≢ id
    → parameter_written parameters id value ≡ Ok after
    → parameter_read after state other ≡ parameter_read parameters state other
leaves_others parameters after state id other value differs written =
    let w = is_written parameters after id value written in
    ap (λ (ps : List Parameter). parameter_read ps state other) (sym w.left)
    ∙ ap (λ (one : Option Parameter). if other == mcu_state then Ok (state ∷ []) else value_of one)
    (found_other parameters id other value differs)

abbrev Shape : Type 0
Shape = ℕ × ℕ × Accepted

abbrev head_or : Shape → List Shape → Shape
head_or default [] = default
head_or default (shape ∷ shapes) = shape

abbrev tail_of : List Shape → List Shape
tail_of [] = []
tail_of (shape ∷ shapes) = shapes

same_where : (here : Bool) (one another : Parameter) (found other : Option Parameter) → shape_of one ≡ shape_of another
    → option_map shape_of found ≡ option_map shape_of other
    → option_map shape_of (if here then Some one else found) ≡ option_map shape_of (if here then Some another else other)
same_where true one another found other same behind = ap Some same
same_where false one another found other same behind = behind

-- parameters of the same shapes are found with the same shape
same_found : (parameters others : List Parameter) (id : ℕ) → map shape_of parameters ≡ map shape_of others
    → option_map shape_of (parameter_of parameters id) ≡ option_map shape_of (parameter_of others id)
same_found [] [] id same = refl
same_found [] (other ∷ others) id same = absurd (omega (arith, ap length same))
same_found (one ∷ ones) [] id same = absurd (omega (arith, ap length same))
same_found (one ∷ ones) (other ∷ others) id same =
    let first : shape_of one ≡ shape_of other = ap (head_or (shape_of one)) same in
    ap (λ (n : ℕ). option_map shape_of (if id == n then Some one else parameter_of ones id)) (ap (λ (s : Shape). s.0) first)
    ∙ same_where (id == other.id) one other (parameter_of ones id) (parameter_of others id) first
    (same_found ones others id (ap tail_of same))

-- no value of MCU_STATE is kept
no_state_kept : (parameters : List Parameter) (id : ℕ) (parameter : Parameter) → IsTable parameters
    → parameter_of parameters id ≡ Some parameter → id ≢ mcu_state
no_state_kept parameters id parameter table found is =
    let none : option_map shape_of (parameter_of parameters mcu_state) ≡ None =
    same_found parameters parameters_at_start mcu_state table in
    let some : parameter_of parameters mcu_state ≡ Some parameter = ap (parameter_of parameters) (sym is) ∙ found in
    false≢true (ap is_some (sym none ∙ ap (option_map shape_of) some))

pub state_not_written : (parameters after : List Parameter) (value : List ℕ) → IsTable parameters
    → parameter_written parameters mcu_state value ≡ Ok after → ⊥
state_not_written parameters after value table written =
    let w = is_written parameters after mcu_state value written in
    no_state_kept parameters mcu_state w.parameter table w.found refl

pub reads_back : (parameters after : List Parameter) (state id : ℕ) (value : List ℕ) → IsTable parameters
    → parameter_written parameters id value ≡ Ok after → parameter_read after state id ≡ Ok value
reads_back parameters after state id value table written =
    let w = is_written parameters after id value written in
    let kept : id ≢ mcu_state = no_state_kept parameters id w.parameter table w.found in
    ap (λ (ps : List Parameter). parameter_read ps state id) (sym w.left)
    ∙ ap (λ (b : Bool). if b then Ok (state ∷ []) else value_of (parameter_of (with_value parameters id value) id))
    (ne_eqb id mcu_state kept)
    ∙ found_back parameters id value w.parameter w.found

abbrev length_read : Result (List ℕ) Refusal → ℕ
length_read (Ok value) = length value
length_read (Err refusal) = 0

abbrev shape_size : Option Shape → ℕ
shape_size None = 0
shape_size (Some shape) = shape.1

length_found : (one : Option Parameter) → length_read (value_of one) ≡ shape_size (option_map shape_of one)
length_found None = refl
length_found (Some parameter) = refl

same_length : (here : Bool) (state : ℕ) (one other : Option Parameter) → option_map shape_of one ≡ option_map shape_of other
    → length_read (if here then Ok (state ∷ []) else value_of one) ≡ length_read (if here then Ok (state ∷ []) else value_of other)
same_length true state one other same = refl
same_length false state one other same = length_found one ∙ ap shape_size same ∙ sym (length_found other)

pub has_size : (parameters : List Parameter) (state id : ℕ) (value start : List ℕ) → IsTable parameters
    → parameter_read parameters state id ≡ Ok value → parameter_read parameters_at_start state id ≡ Ok start
    → length value ≡ length start
has_size parameters state id value start table read at_start =
    sym (ap length_read read)
    ∙ same_length (id == mcu_state) state (parameter_of parameters id) (parameter_of parameters_at_start id)
    (same_found parameters parameters_at_start id table)
    ∙ ap length_read at_start
