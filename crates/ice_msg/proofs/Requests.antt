-- What follows where a body belongs to a command.
use Rattle.std.proofs.Common.{◌≡◌, ◌≢◌, ℕ, zero, suc, ◌+◌, ◌-◌, ◌<◌, ◌≤◌, ◌^◌, List, [], ◌∷◌, ◌++◌, length, take, drop, slice_index, refl, sym, ap, subst, ◌∙◌, arith, lit<, append-nil, length-append}
use Rattle.std.specs.Int.{w32, to_le_bytes, from_le_bytes}
use Rattle.std.specs.List.{Contains}
use Rattle.std.proofs.lemmas.List.{get_or-drop, length-drop, take_all}
use Rattle.std.proofs.lemmas.Slice.Eq.{text_from_reads}
use Rattle.std.proofs.lemmas.Nat.{from_le_bytes-to_le_bytes_4}
use Rattle.line_spec.specs.Frames.{IsBytes}
use Rattle.line_spec.specs.Messages.{Command, sign_off, get_sign_on, set_parameter, get_parameter, write_memory, read_memory, write_pc, read_pc, go, single_step, forced_stop, reset, set_device_descriptor, erase_page, get_sync, set_break, chip_erase, enter_programming, leave_programming, clear_break, run_to, clear_events, command_code, command_codes, command_fields, ignored_lengths, IsCommand, IsCommandBody, IsNoCommand, HasCode}
use Rattle.line_spec.proofs.Bodies.{command_of, command_belongs_back, number_at}
use Rattle.ice_msg.specs.Readers.{IsBare, IsFlagged}
use Rattle.ice_msg.proofs.Numbers.{four_at, four_written, four_bytes_of, five_bytes_of}

pub known : (command : Command) → Contains command_codes (command_code command)
known sign_off = (0, lit< tt, refl)
known get_sign_on = (1, lit< tt, refl)
known (set_parameter id value) = (2, lit< tt, refl)
known (get_parameter id) = (3, lit< tt, refl)
known (write_memory kind address bytes) = (4, lit< tt, refl)
known (read_memory kind count address) = (5, lit< tt, refl)
known (write_pc address) = (6, lit< tt, refl)
known read_pc = (7, lit< tt, refl)
known go = (8, lit< tt, refl)
known single_step = (9, lit< tt, refl)
known forced_stop = (10, lit< tt, refl)
known reset = (11, lit< tt, refl)
known (set_device_descriptor bytes) = (12, lit< tt, refl)
known (erase_page address) = (13, lit< tt, refl)
known get_sync = (14, lit< tt, refl)
known (set_break kind number address) = (15, lit< tt, refl)
known chip_erase = (16, lit< tt, refl)
known enter_programming = (17, lit< tt, refl)
known leave_programming = (18, lit< tt, refl)
known (clear_break number address) = (19, lit< tt, refl)
known (run_to address) = (20, lit< tt, refl)
known clear_events = (21, lit< tt, refl)

pub command_has_code : (body : List ℕ) (command : Command) → IsCommandBody command body → HasCode command_codes body
command_has_code body command belongs = subst (HasCode command_codes) (sym belongs.made) (known command)

-- only the command that is read off a body can be its command
no_command : (body : List ℕ) → (IsCommandBody (command_of body) body → ⊥) → IsNoCommand body
no_command body differs command belongs = differs (command_belongs_back body command belongs)

-- where so many bytes alone may be ignored, so many are
one_of : (n k : ℕ) → Contains (k ∷ []) n → n ≡ k
one_of n k (zero, below, found) = sym found
one_of n k (suc i, below, found) = absurd (omega (arith, below))

-- the length of what stands behind the code, where so many bytes are ignored
rest_length : (command : Command) (rest : List ℕ) (count : ℕ) → ignored_lengths command ≡ count ∷ []
    → IsCommandBody command (command_code command ∷ rest) → length rest ≡ length (command_fields command) + count
rest_length command rest count strict belongs =
    let so_many : length belongs.ignored ≡ count =
    one_of (length belongs.ignored) count (subst (λ (ks : List ℕ). Contains ks (length belongs.ignored)) strict belongs.so_many) in
    omega (arith, ap length belongs.made, length-append (command_fields command) belongs.ignored, so_many)

-- the code and the fields, with no byte behind them, make a body
pub fields_read : (command : Command) (rest : List ℕ) → IsCommand command → Contains (ignored_lengths command) 0
    → command_fields command ≡ rest → IsCommandBody command (command_code command ∷ rest)
fields_read command rest valid strict written = record {
  valid = valid;
  ignored = [];
  any_bytes = λ i. lit< tt;
  so_many = strict;
  made = ap (λ (xs : List ℕ). command_code command ∷ xs) (sym written ∙ sym (append-nil (command_fields command)));
}

-- a command without fields, by its code alone
record Fieldless (command : Command) (lengths : List ℕ) : Type 0 where
  fieldless : command_fields command ≡ []
  lengths_are : ignored_lengths command ≡ lengths
  valid : IsCommand command
  own : (rest : List ℕ) → command_of (command_code command ∷ rest) ≡ command

bare : (command : Command) → IsBare command → Fieldless command (0 ∷ [])
bare sign_off is = record { fieldless = refl; lengths_are = refl; valid = tt; own = λ rest. refl }
bare get_sign_on is = record { fieldless = refl; lengths_are = refl; valid = tt; own = λ rest. refl }
bare read_pc is = record { fieldless = refl; lengths_are = refl; valid = tt; own = λ rest. refl }
bare go is = record { fieldless = refl; lengths_are = refl; valid = tt; own = λ rest. refl }
bare get_sync is = record { fieldless = refl; lengths_are = refl; valid = tt; own = λ rest. refl }
bare chip_erase is = record { fieldless = refl; lengths_are = refl; valid = tt; own = λ rest. refl }
bare enter_programming is = record { fieldless = refl; lengths_are = refl; valid = tt; own = λ rest. refl }
bare leave_programming is = record { fieldless = refl; lengths_are = refl; valid = tt; own = λ rest. refl }
bare clear_events is = record { fieldless = refl; lengths_are = refl; valid = tt; own = λ rest. refl }
bare (erase_page address) is = absurd is
bare (set_parameter id value) is = absurd is
bare (get_parameter id) is = absurd is
bare (write_memory kind address bytes) is = absurd is
bare (read_memory kind count address) is = absurd is
bare (write_pc address) is = absurd is
bare single_step is = absurd is
bare forced_stop is = absurd is
bare reset is = absurd is
bare (set_device_descriptor bytes) is = absurd is
bare (set_break kind number address) is = absurd is
bare (clear_break number address) is = absurd is
bare (run_to address) is = absurd is

flagged : (command : Command) → IsFlagged command → Fieldless command (0 ∷ 1 ∷ [])
flagged forced_stop is = record { fieldless = refl; lengths_are = refl; valid = tt; own = λ rest. refl }
flagged reset is = record { fieldless = refl; lengths_are = refl; valid = tt; own = λ rest. refl }
flagged sign_off is = absurd is
flagged get_sign_on is = absurd is
flagged (set_parameter id value) is = absurd is
flagged (get_parameter id) is = absurd is
flagged (write_memory kind address bytes) is = absurd is
flagged (read_memory kind count address) is = absurd is
flagged (write_pc address) is = absurd is
flagged read_pc is = absurd is
flagged go is = absurd is
flagged single_step is = absurd is
flagged (set_device_descriptor bytes) is = absurd is
flagged (erase_page address) is = absurd is
flagged get_sync is = absurd is
flagged chip_erase is = absurd is
flagged enter_programming is = absurd is
flagged leave_programming is = absurd is
flagged (set_break kind number address) is = absurd is
flagged (clear_break number address) is = absurd is
flagged (run_to address) is = absurd is
flagged clear_events is = absurd is

-- the code with so many ignored bytes is a body
fieldless_read : (command : Command) (lengths rest : List ℕ) → Fieldless command lengths → IsBytes rest
    → Contains lengths (length rest) → IsCommandBody command (command_code command ∷ rest)
fieldless_read command lengths rest facts bytes so_many = record {
  valid = facts.valid;
  ignored = rest;
  any_bytes = bytes;
  so_many = subst (λ (ks : List ℕ). Contains ks (length rest)) (sym facts.lengths_are) so_many;
  made = ap (λ (xs : List ℕ). command_code command ∷ xs ++ rest) (sym facts.fieldless);
}

-- the code with another number of bytes is a body of no command
fieldless_length : (command : Command) (lengths rest : List ℕ) → Fieldless command lengths
    → (Contains lengths (length rest) → ⊥) → IsNoCommand (command_code command ∷ rest)
fieldless_length command lengths rest facts other =
    no_command (command_code command ∷ rest) (λ belongs.
    let here : IsCommandBody command (command_code command ∷ rest) =
    subst (λ (c : Command). IsCommandBody c (command_code command ∷ rest)) (facts.own rest) belongs in
    let same : length here.ignored ≡ length rest =
    omega (arith, ap length here.made, length-append (command_fields command) here.ignored, ap length facts.fieldless) in
    other (subst (λ (n : ℕ). Contains lengths n) same
    (subst (λ (ks : List ℕ). Contains ks (length here.ignored)) facts.lengths_are here.so_many)))

pub bare_read : (command : Command) (rest : List ℕ) → IsBare command → length rest ≡ 0 → IsCommandBody command (command_code command ∷ rest)
bare_read command [] is none = fieldless_read command (0 ∷ []) [] (bare command is) (λ i. lit< tt) (0, lit< tt, refl)
bare_read command (byte ∷ rest) is none = absurd (omega (arith, none))

pub bare_alone : (command : Command) (rest : List ℕ) → IsBare command → 0 < length rest → IsNoCommand (command_code command ∷ rest)
bare_alone command rest is more =
    fieldless_length command (0 ∷ []) rest (bare command is) (λ none. omega (arith, one_of (length rest) 0 none, more))

-- where one of two numbers of bytes may be ignored
two_of : (n k m : ℕ) → Contains (k ∷ m ∷ []) n → n ≢ k → n ≢ m → ⊥
two_of n k m (zero, below, found) other another = other (sym found)
two_of n k m (suc zero, below, found) other another = another (sym found)
two_of n k m (suc (suc i), below, found) other another = omega (arith, below)

none_or_one : (rest : List ℕ) → length rest ≤ 1 → Contains (0 ∷ 1 ∷ []) (length rest)
none_or_one [] few = (0, lit< tt, refl)
none_or_one (byte ∷ []) few = (1, lit< tt, refl)
none_or_one (byte ∷ other ∷ rest) few = absurd (omega (arith, few))

pub flagged_read : (command : Command) (rest : List ℕ) → IsFlagged command → IsBytes rest → length rest ≤ 1
    → IsCommandBody command (command_code command ∷ rest)
flagged_read command rest is bytes few =
    fieldless_read command (0 ∷ 1 ∷ []) rest (flagged command is) bytes (none_or_one rest few)

pub flagged_longer : (command : Command) (rest : List ℕ) → IsFlagged command → 1 < length rest
    → IsNoCommand (command_code command ∷ rest)
flagged_longer command rest is more =
    fieldless_length command (0 ∷ 1 ∷ []) rest (flagged command is)
    (λ few. two_of (length rest) 0 1 few (λ none. omega (arith, none, more)) (λ one. omega (arith, one, more)))

step_facts : Fieldless single_step (0 ∷ 2 ∷ [])
step_facts = record { fieldless = refl; lengths_are = refl; valid = tt; own = λ rest. refl }

none_or_two : (rest : List ℕ) → (length rest ≢ 0 → length rest ≡ 2) → Contains (0 ∷ 2 ∷ []) (length rest)
none_or_two [] few = (0, lit< tt, refl)
none_or_two (byte ∷ rest) few = (1, lit< tt, sym (few (λ none. omega (arith, none))))

pub step_read : (rest : List ℕ) → IsBytes rest → (length rest ≢ 0 → length rest ≡ 2) → IsCommandBody single_step (0x09 ∷ rest)
step_read rest bytes few = fieldless_read single_step (0 ∷ 2 ∷ []) rest step_facts bytes (none_or_two rest few)

pub step_length : (rest : List ℕ) → length rest ≢ 0 → length rest ≢ 2 → IsNoCommand (0x09 ∷ rest)
step_length rest some other =
    fieldless_length single_step (0 ∷ 2 ∷ []) rest step_facts (λ few. two_of (length rest) 0 2 few some other)

-- a body of the code with another length than the fields' belongs to no command
pub set_parameter_length : (rest : List ℕ) → (0 < length rest → 4105 < length rest) → IsNoCommand (0x02 ∷ rest)
set_parameter_length rest beyond =
    no_command (0x02 ∷ rest) (λ own. grind (arith, beyond, own.valid.2, rest_length (command_of (0x02 ∷ rest)) rest 0 refl own))

pub get_parameter_length : (rest : List ℕ) → length rest ≢ 1 → IsNoCommand (0x03 ∷ rest)
get_parameter_length rest other =
    no_command (0x03 ∷ rest) (λ own. other (omega (arith, rest_length (command_of (0x03 ∷ rest)) rest 0 refl own)))

pub read_memory_length : (rest : List ℕ) → length rest ≢ 9 → IsNoCommand (0x05 ∷ rest)
read_memory_length rest other =
    no_command (0x05 ∷ rest) (λ own. other (omega (arith, rest_length (command_of (0x05 ∷ rest)) rest 0 refl own)))

pub write_pc_length : (rest : List ℕ) → length rest ≢ 4 → IsNoCommand (0x06 ∷ rest)
write_pc_length rest other =
    no_command (0x06 ∷ rest) (λ own. other (omega (arith, rest_length (command_of (0x06 ∷ rest)) rest 0 refl own)))

pub descriptor_length : (rest : List ℕ) → 4105 < length rest → IsNoCommand (0x0C ∷ rest)
descriptor_length rest beyond =
    no_command (0x0C ∷ rest) (λ own. omega (arith, beyond, own.valid.1))

pub set_break_length : (rest : List ℕ) → length rest ≢ 7 → IsNoCommand (0x11 ∷ rest)
set_break_length rest other =
    no_command (0x11 ∷ rest) (λ own. other (omega (arith, rest_length (command_of (0x11 ∷ rest)) rest 1 refl own)))

pub clear_break_length : (rest : List ℕ) → length rest ≢ 5 → IsNoCommand (0x1A ∷ rest)
clear_break_length rest other =
    no_command (0x1A ∷ rest) (λ own. other (omega (arith, rest_length (command_of (0x1A ∷ rest)) rest 0 refl own)))

pub erase_page_length : (rest : List ℕ) → length rest ≢ 4 → IsNoCommand (0x0D ∷ rest)
erase_page_length rest other =
    no_command (0x0D ∷ rest) (λ own. other (omega (arith, rest_length (command_of (0x0D ∷ rest)) rest 0 refl own)))

pub run_to_length : (rest : List ℕ) → length rest ≢ 4 → IsNoCommand (0x1C ∷ rest)
run_to_length rest other =
    no_command (0x1C ∷ rest) (λ own. other (omega (arith, rest_length (command_of (0x1C ∷ rest)) rest 0 refl own)))

pub write_memory_short : (rest : List ℕ) → length rest < 9 → IsNoCommand (0x04 ∷ rest)
write_memory_short rest short =
    no_command (0x04 ∷ rest) (λ own. omega (arith, short, rest_length (command_of (0x04 ∷ rest)) rest 0 refl own))

-- the count of a write is the number of its bytes
pub write_memory_count : (rest : List ℕ) → number_at 1 rest ≢ length (drop 9 rest) → IsNoCommand (0x04 ∷ rest)
write_memory_count rest other =
    no_command (0x04 ∷ rest) (λ own. other (ap (λ (body : List ℕ). number_at 2 body) own.made ∙ from_le_bytes-to_le_bytes_4 (length (drop 9 rest)) own.valid.3))

seven_bytes_of : (rest : List ℕ) → length rest ≡ 7
    → rest ≡ slice_index rest 0 ∷ slice_index rest 1 ∷ four_at 2 rest ++ slice_index rest 6 ∷ []
seven_bytes_of rest seven = text_from_reads rest _ seven (refl, (refl, (refl, (refl, (refl, (refl, (refl, tt)))))))

nine_bytes_of : (rest : List ℕ) → length rest ≡ 9 → rest ≡ slice_index rest 0 ∷ four_at 1 rest ++ four_at 5 rest
nine_bytes_of rest nine = text_from_reads rest _ nine (refl, (refl, (refl, (refl, (refl, (refl, (refl, (refl, (refl, tt)))))))))

nine_and_more : (rest : List ℕ) → 9 ≤ length rest → rest ≡ slice_index rest 0 ∷ four_at 1 rest ++ four_at 5 rest ++ drop 9 rest
nine_and_more (a ∷ b ∷ c ∷ d ∷ e ∷ f ∷ g ∷ h ∷ i ∷ more) long = refl
nine_and_more [] long = absurd (omega (arith, long))
nine_and_more (a ∷ []) long = absurd (omega (arith, long))
nine_and_more (a ∷ b ∷ []) long = absurd (omega (arith, long))
nine_and_more (a ∷ b ∷ c ∷ []) long = absurd (omega (arith, long))
nine_and_more (a ∷ b ∷ c ∷ d ∷ []) long = absurd (omega (arith, long))
nine_and_more (a ∷ b ∷ c ∷ d ∷ e ∷ []) long = absurd (omega (arith, long))
nine_and_more (a ∷ b ∷ c ∷ d ∷ e ∷ f ∷ []) long = absurd (omega (arith, long))
nine_and_more (a ∷ b ∷ c ∷ d ∷ e ∷ f ∷ g ∷ []) long = absurd (omega (arith, long))
nine_and_more (a ∷ b ∷ c ∷ d ∷ e ∷ f ∷ g ∷ h ∷ []) long = absurd (omega (arith, long))

-- the fields of the commands with one number
pub write_pc_read : (rest : List ℕ) (address : ℕ) → IsBytes rest → length rest ≡ 4 → address < 2 ^ 32
    → address ≡ from_le_bytes w32 (four_at 0 rest) → IsCommandBody (write_pc address) (0x06 ∷ rest)
write_pc_read rest address bytes four fits made =
    fields_read (write_pc address) rest fits (0, lit< tt, refl) (four_written 0 address rest bytes made ∙ sym (four_bytes_of rest four))

pub erase_page_read : (rest : List ℕ) (address : ℕ) → IsBytes rest → length rest ≡ 4 → address < 2 ^ 32
    → address ≡ from_le_bytes w32 (four_at 0 rest) → IsCommandBody (erase_page address) (0x0D ∷ rest)
erase_page_read rest address bytes four fits made =
    fields_read (erase_page address) rest fits (0, lit< tt, refl) (four_written 0 address rest bytes made ∙ sym (four_bytes_of rest four))

pub run_to_read : (rest : List ℕ) (address : ℕ) → IsBytes rest → length rest ≡ 4 → address < 2 ^ 32
    → address ≡ from_le_bytes w32 (four_at 0 rest) → IsCommandBody (run_to address) (0x1C ∷ rest)
run_to_read rest address bytes four fits made =
    fields_read (run_to address) rest fits (0, lit< tt, refl) (four_written 0 address rest bytes made ∙ sym (four_bytes_of rest four))

pub clear_break_read : (rest : List ℕ) (address : ℕ) → IsBytes rest → length rest ≡ 5 → address < 2 ^ 32
    → address ≡ from_le_bytes w32 (four_at 1 rest) → IsCommandBody (clear_break (slice_index rest 0) address) (0x1A ∷ rest)
clear_break_read rest address bytes five fits made =
    fields_read (clear_break (slice_index rest 0) address) rest (bytes 0, fits) (0, lit< tt, refl)
    (ap (λ (xs : List ℕ). slice_index rest 0 ∷ xs) (four_written 1 address rest bytes made) ∙ sym (five_bytes_of rest five))

mode_bytes : (byte : ℕ) → byte < 256 → IsBytes (byte ∷ [])
mode_bytes byte fits zero = fits
mode_bytes byte fits (suc i) = lit< tt

pub set_break_read : (rest : List ℕ) (address : ℕ) → IsBytes rest → length rest ≡ 7 → address < 2 ^ 32
    → address ≡ from_le_bytes w32 (four_at 2 rest)
    → IsCommandBody (set_break (slice_index rest 0) (slice_index rest 1) address) (0x11 ∷ rest)
set_break_read rest address bytes seven fits made = record {
  valid = (bytes 0, bytes 1, fits);
  ignored = slice_index rest 6 ∷ [];
  any_bytes = mode_bytes (slice_index rest 6) (bytes 6);
  so_many = (0, lit< tt, refl);
  made =
      ap (λ (xs : List ℕ). 0x11 ∷ xs) (seven_bytes_of rest seven)
      ∙ ap (λ (xs : List ℕ). 0x11 ∷ slice_index rest 0 ∷ slice_index rest 1 ∷ xs ++ slice_index rest 6 ∷ []) (sym (four_written 2 address rest bytes made));
}

-- a type and two numbers make a read of memory
pub read_memory_read : (rest : List ℕ) (count address : ℕ) → IsBytes rest → length rest ≡ 9 → count < 2 ^ 32 → address < 2 ^ 32
    → count ≡ from_le_bytes w32 (four_at 1 rest) → address ≡ from_le_bytes w32 (four_at 5 rest)
    → IsCommandBody (read_memory (slice_index rest 0) count address) (0x05 ∷ rest)
read_memory_read rest count address bytes nine count_fits address_fits count_made address_made =
    let kind : ℕ = slice_index rest 0 in
    fields_read (read_memory kind count address) rest (bytes 0, count_fits, address_fits) (0, lit< tt, refl)
    (ap (λ (xs : List ℕ). kind ∷ xs ++ to_le_bytes w32 address) (four_written 1 count rest bytes count_made)
    ∙ ap (λ (xs : List ℕ). kind ∷ four_at 1 rest ++ xs) (four_written 5 address rest bytes address_made)
    ∙ sym (nine_bytes_of rest nine))

pub descriptor_read : (rest : List ℕ) → IsBytes rest → length rest ≤ 4105 → IsCommandBody (set_device_descriptor rest) (0x0C ∷ rest)
descriptor_read rest bytes few = fields_read (set_device_descriptor rest) rest (bytes, few) (0, lit< tt, refl) refl

pub get_parameter_read : (rest : List ℕ) → IsBytes rest → length rest ≡ 1 → IsCommandBody (get_parameter (slice_index rest 0)) (0x03 ∷ rest)
get_parameter_read rest bytes one =
    fields_read (get_parameter (slice_index rest 0)) rest (bytes 0) (0, lit< tt, refl) (sym (text_from_reads rest _ one (refl, tt)))

bytes_behind : (rest : List ℕ) (byte : ℕ) → IsBytes (byte ∷ rest) → IsBytes rest
bytes_behind rest byte bytes i = bytes (suc i)

set_parameter_parts : (rest : List ℕ) → IsBytes rest → 1 ≤ length rest → length rest ≤ 4105
    → IsCommandBody (set_parameter (slice_index rest 0) (drop 1 rest)) (0x02 ∷ rest)
set_parameter_parts [] bytes some few = absurd (omega (arith, some))
set_parameter_parts (id ∷ value) bytes some few =
    fields_read (set_parameter id value) (id ∷ value) (bytes 0, bytes_behind value id bytes, omega (arith, few)) (0, lit< tt, refl) refl

-- what a slice has behind its first elements is what is dropped of them
behind : (count : ℕ) (rest : List ℕ) → take (length rest - count) (drop count rest) ≡ drop count rest
behind count rest = take_all (length rest - count) (drop count rest) (omega (arith, length-drop count rest))

pub set_parameter_read : (rest : List ℕ) → IsBytes rest → 1 ≤ length rest → length rest ≤ 4105
    → IsCommandBody (set_parameter (slice_index rest 0) (take (length rest - 1) (drop 1 rest))) (0x02 ∷ rest)
set_parameter_read rest bytes some few =
    subst (λ (value : List ℕ). IsCommandBody (set_parameter (slice_index rest 0) value) (0x02 ∷ rest)) (sym (behind 1 rest))
    (set_parameter_parts rest bytes some few)

bytes_from : (count : ℕ) (rest : List ℕ) → IsBytes rest → IsBytes (drop count rest)
bytes_from count rest bytes i = rw (get_or-drop count rest i 0) (bytes (count + i))

write_memory_parts : (rest : List ℕ) (address : ℕ) → IsBytes rest → 9 ≤ length rest → length (drop 9 rest) < 2 ^ 32 → address < 2 ^ 32
    → length (drop 9 rest) ≡ from_le_bytes w32 (four_at 1 rest) → address ≡ from_le_bytes w32 (four_at 5 rest)
    → IsCommandBody (write_memory (slice_index rest 0) address (drop 9 rest)) (0x04 ∷ rest)
write_memory_parts rest address fit long count_fits address_fits count_made address_made =
    let kind : ℕ = slice_index rest 0 in
    let bytes : List ℕ = drop 9 rest in
    fields_read (write_memory kind address bytes) rest (fit 0, address_fits, bytes_from 9 rest fit, count_fits) (0, lit< tt, refl)
    (ap (λ (xs : List ℕ). kind ∷ xs ++ to_le_bytes w32 address ++ bytes) (four_written 1 (length bytes) rest fit count_made)
    ∙ ap (λ (xs : List ℕ). kind ∷ four_at 1 rest ++ xs ++ bytes) (four_written 5 address rest fit address_made)
    ∙ sym (nine_and_more rest long))

-- a type, a count, an address and as many bytes make a write of memory
pub write_memory_read : (rest : List ℕ) (count address : ℕ) → IsBytes rest → 9 ≤ length rest → count < 2 ^ 32 → address < 2 ^ 32
    → count ≡ length rest - 9 → count ≡ from_le_bytes w32 (four_at 1 rest) → address ≡ from_le_bytes w32 (four_at 5 rest)
    → IsCommandBody (write_memory (slice_index rest 0) address (take (length rest - 9) (drop 9 rest))) (0x04 ∷ rest)
write_memory_read rest count address fit long count_fits address_fits counted count_made address_made =
    let same : length (drop 9 rest) ≡ count = omega (arith, length-drop 9 rest, counted) in
    subst (λ (bytes : List ℕ). IsCommandBody (write_memory (slice_index rest 0) address bytes) (0x04 ∷ rest)) (sym (behind 9 rest))
    (write_memory_parts rest address fit long (omega (arith, same, count_fits)) address_fits (same ∙ count_made) address_made)

number_same : (place : ℕ) (rest : List ℕ) → 9 ≤ length rest → from_le_bytes w32 (four_at 1 rest) ≡ number_at 1 rest
number_same place rest long = ap (λ (xs : List ℕ). number_at 1 xs) (sym (nine_and_more rest long))

-- the count of a write is the number of its bytes
pub write_memory_other : (rest : List ℕ) (count : ℕ) → 9 ≤ length rest → count ≢ length rest - 9
    → count ≡ from_le_bytes w32 (four_at 1 rest) → IsNoCommand (0x04 ∷ rest)
write_memory_other rest count long other made =
    write_memory_count rest (λ same. other (made ∙ number_same 1 rest long ∙ same ∙ omega (arith, length-drop 9 rest)))
