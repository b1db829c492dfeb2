-- What is heard: each byte is, and a body is one request.
use Rattle.std.proofs.Common.{◌≡◌, ℕ, zero, suc, ◌+◌, List, [], ◌∷◌, length, refl, sym, ◌∙◌, ap, subst, arith, lit<}
use Rattle.std.proofs.Common.{length-append}
use Rattle.std.proofs.Common.{◌==◌, true, false, eqb}
use Rattle.std.specs.List.{list_any}
use Rattle.std.specs.Prelude.{Contains}
use Rattle.std.proofs.lemmas.Bool.{or_left, or_right, eq-eqb, true≢false}
use Rattle.line_spec.specs.Frames.{bytes_of}
use Rattle.line_spec.specs.Cut.{whole, junk}
use Rattle.line_spec.specs.Messages.{Command, sign_off, get_sign_on, set_parameter, get_parameter, write_memory, read_memory, write_pc}
use Rattle.line_spec.specs.Messages.{read_pc, go, single_step, forced_stop, reset, set_device_descriptor, erase_page, get_sync, set_break}
use Rattle.line_spec.specs.Messages.{chip_erase, enter_programming, leave_programming, clear_break, run_to, clear_events, command_code}
use Rattle.line_spec.specs.Messages.{command_codes, IsCommandBody, HasCode}
use Rattle.line_spec.specs.Hearing.{asks, unknown_code, wrong_length, Heard, request, dropped}
use Rattle.line_spec.specs.HearingLaws.{dropped_bytes, EachByteIsHeard, OneRequest}
use Rattle.line_spec.proofs.Bodies.{one_command}

pub each_byte_is_heard : EachByteIsHeard
each_byte_is_heard bytes behind [] [] cuts hears = omega (arith, ap length cuts)
each_byte_is_heard bytes behind [] (one ∷ heard) cuts hears = absurd hears
each_byte_is_heard bytes behind (item ∷ items) [] cuts hears = absurd hears
each_byte_is_heard bytes behind (whole frame ∷ items) (request number asked ∷ heard) (after, begins, cuts) hears =
    let later = each_byte_is_heard after behind items heard cuts hears.1 in
    omega (arith, later, ap length begins.split, length-append (bytes_of frame) after)
each_byte_is_heard bytes behind (whole frame ∷ items) (dropped count ∷ heard) (after, begins, cuts) hears =
    let later = each_byte_is_heard after behind items heard cuts hears.1 in
    let all : count ≡ length (bytes_of frame) = hears.0.1 in
    omega (arith, later, all, ap length begins.split, length-append (bytes_of frame) after)
each_byte_is_heard bytes behind (junk byte ∷ items) (one ∷ heard) (after, split, is_junk, cuts) hears =
    let later = each_byte_is_heard after behind items heard cuts hears.1 in
    let counted : dropped_bytes (one ∷ heard) ≡ 1 + dropped_bytes heard = ap (λ (h : Heard). dropped_bytes (h ∷ heard)) hears.0 in
    omega (arith, later, counted, ap length split)

-- the code of a command is one of the codes
pub known_code : (command : Command) → Contains command_codes (command_code command)
known_code sign_off = (0, lit< tt, refl)
known_code get_sign_on = (1, lit< tt, refl)
known_code (set_parameter id value) = (2, lit< tt, refl)
known_code (get_parameter id) = (3, lit< tt, refl)
known_code (write_memory kind address bytes) = (4, lit< tt, refl)
known_code (read_memory kind count address) = (5, lit< tt, refl)
known_code (write_pc address) = (6, lit< tt, refl)
known_code read_pc = (7, lit< tt, refl)
known_code go = (8, lit< tt, refl)
known_code single_step = (9, lit< tt, refl)
known_code forced_stop = (10, lit< tt, refl)
known_code reset = (11, lit< tt, refl)
known_code (set_device_descriptor bytes) = (12, lit< tt, refl)
known_code (erase_page address) = (13, lit< tt, refl)
known_code get_sync = (14, lit< tt, refl)
known_code (set_break kind number address) = (15, lit< tt, refl)
known_code chip_erase = (16, lit< tt, refl)
known_code enter_programming = (17, lit< tt, refl)
known_code leave_programming = (18, lit< tt, refl)
known_code (clear_break number address) = (19, lit< tt, refl)
known_code (run_to address) = (20, lit< tt, refl)
known_code clear_events = (21, lit< tt, refl)

-- so the body of a command has one of the codes
pub has_known_code : (body : List ℕ) (command : Command) → IsCommandBody command body → HasCode command_codes body
has_known_code body command belongs = subst (λ (b : List ℕ). HasCode command_codes b) (sym belongs.made) (known_code command)

pub one_request : OneRequest
one_request body (asks command) (asks other) a b = ap asks (one_command body command other a b)
one_request body (asks command) unknown_code a b = absurd (b (has_known_code body command a))
one_request body (asks command) wrong_length a b = absurd (b.1 command a)
one_request body unknown_code (asks other) a b = absurd (a (has_known_code body other b))
one_request body unknown_code unknown_code a b = refl
one_request body unknown_code wrong_length a b = absurd (a b.0)
one_request body wrong_length (asks other) a b = absurd (a.1 other b)
one_request body wrong_length unknown_code a b = absurd (b a.0)
one_request body wrong_length wrong_length a b = refl

-- a list that has a number passes the test for it
contained_found : (numbers : List ℕ) (n : ℕ) → Contains numbers n → list_any (eqb n) numbers ≡ true
contained_found [] n (k, below, found) = absurd (omega (arith, below))
contained_found (first ∷ numbers) n (zero, below, found) = or_left (n == first) (list_any (eqb n) numbers) (eq-eqb n first (sym found))
contained_found (first ∷ numbers) n (suc k, below, found) =
    or_right (n == first) (list_any (eqb n) numbers) (contained_found numbers n (k, omega (arith, below), found))

-- a number that fails the test is not in the list
pub not_contained : (numbers : List ℕ) (n : ℕ) → list_any (eqb n) numbers ≡ false → Contains numbers n → ⊥
not_contained numbers n fails inside = true≢false (sym (contained_found numbers n inside) ∙ fails)
