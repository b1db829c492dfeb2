-- The tables of the status register hold the flags that they say, found by computing.
use Rattle.std.proofs.Common.{◌≡◌, ℕ, ◌<◌, ◌==◌, Bool, true, false, get_or, bit_and, bit_or, bit_xor, refl, ap, ◌∙◌, eqb-true}
use Rattle.avr_spec.proofs.Computing.{all_below, at_below, all_pairs, at_pairs, all_bools, at_bool}
use Rattle.avr_spec.specs.Sreg.{flags_of, byte_of}
use Rattle.avr_spec.specs.Flags.{signs_of}
use Rattle.avr_alu.specs.declared.status.TheConstants.{SIGNS, CARRIES}
use Rattle.avr_alu.specs.declared.status.Decided.{Decided}
use Rattle.avr_alu.specs.Status.{with_decided, still_zero}
use Rattle.avr_alu.specs.Carries.{decided_by}

-- H, V, N, Z and C of a result byte with these carries, as the tables have them
abbrev pub looked_up : ℕ → ℕ → ℕ
looked_up value carries = bit_xor (get_or SIGNS value 0) (get_or CARRIES carries 0)

abbrev finds : ℕ → ℕ → Bool
finds value carries = looked_up value carries == byte_of (with_decided (decided_by value carries) (flags_of 0))

each_found : all_pairs 256 32 finds ≡ true
each_found = refl

-- the flags decided
abbrev five : Bool → Bool → Bool → Bool → Bool → Decided
five h v n z c = record { half_carry = h; overflow = v; negative = n; zero = z; carry = c }

-- what holds of each byte and each five flags
abbrev of_all : (ℕ → Decided → Bool) → ℕ → Bool
of_all p sreg =
    all_bools (λ h. all_bools (λ v. all_bools (λ n. all_bools (λ z. all_bools (λ c. p sreg (five h v n z c))))))

at_all : (p : ℕ → Decided → Bool) → all_below 256 (of_all p) ≡ true → (sreg : ℕ) → sreg < 256 → (d : Decided) → p sreg d ≡ true
at_all p each sreg small d =
    let e_h = at_below 256 (of_all p) each sreg small in
    let e_v = at_bool (λ h. all_bools (λ v. all_bools (λ n. all_bools (λ z. all_bools (λ c. p sreg (five h v n z c)))))) e_h d.half_carry in
    let e_n = at_bool (λ v. all_bools (λ n. all_bools (λ z. all_bools (λ c. p sreg (five d.half_carry v n z c))))) e_v d.overflow in
    let e_z = at_bool (λ n. all_bools (λ z. all_bools (λ c. p sreg (five d.half_carry d.overflow n z c)))) e_n d.negative in
    let e_c = at_bool (λ z. all_bools (λ c. p sreg (five d.half_carry d.overflow d.negative z c))) e_z d.zero in
    at_bool (λ c. p sreg (five d.half_carry d.overflow d.negative d.zero c)) e_c d.carry

abbrev keeps : ℕ → Decided → Bool
keeps sreg d = bit_or (bit_and sreg 192) (byte_of (with_decided d (flags_of 0))) == byte_of (with_decided d (flags_of sreg))

each_keeps : all_below 256 (of_all keeps) ≡ true
each_keeps = refl

pub tables_are_flags : (sreg value carries : ℕ) → sreg < 256 → value < 256 → carries < 32 →
    bit_or (bit_and sreg 192) (looked_up value carries) ≡ byte_of (with_decided (decided_by value carries) (flags_of sreg))
tables_are_flags sreg value carries small byte five_bits =
    let d = decided_by value carries in
    ap (λ (n : ℕ). bit_or (bit_and sreg 192) n) (eqb-true _ _ (at_pairs 256 32 finds each_found value carries byte five_bits)) ∙
    eqb-true _ _ (at_all keeps each_keeps sreg small d)

-- Z stays only where it was
abbrev narrows : ℕ → Decided → Bool
narrows sreg d =
    bit_and (byte_of (with_decided d (flags_of sreg))) (bit_or sreg 253)
    == byte_of (with_decided (still_zero (flags_of sreg) d) (flags_of sreg))

each_narrows : all_below 256 (of_all narrows) ≡ true
each_narrows = refl

pub zero_narrows : (sreg : ℕ) → sreg < 256 → (d : Decided) →
    bit_and (byte_of (with_decided d (flags_of sreg))) (bit_or sreg 253)
    ≡ byte_of (with_decided (still_zero (flags_of sreg) d) (flags_of sreg))
zero_narrows sreg small d = eqb-true _ _ (at_all narrows each_narrows sreg small d)

-- the signs of a result byte where V is 0
abbrev signs_fit : ℕ → ℕ → Bool
signs_fit sreg value = bit_or (bit_and sreg 225) (get_or SIGNS value 0) == byte_of (signs_of (flags_of sreg) false value)

each_sign : all_pairs 256 256 signs_fit ≡ true
each_sign = refl

pub signs_are_flags : (sreg value : ℕ) → sreg < 256 → value < 256 →
    bit_or (bit_and sreg 225) (get_or SIGNS value 0) ≡ byte_of (signs_of (flags_of sreg) false value)
signs_are_flags sreg value small byte = eqb-true _ _ (at_pairs 256 256 signs_fit each_sign sreg value small byte)
