-- What is kept of output writes is a ring, and behind each ring stands some list of output writes.
use Rattle.std.proofs.Common.{◌≡◌, ℕ, zero, suc, ◌+◌, ◌-◌, ◌%◌, ◌^◌, ◌<◌, ◌≤◌, List, [], ◌∷◌, ◌++◌, length, take, replicate, refl, sym, ap}
use Rattle.std.proofs.Common.{◌∙◌, subst, arith, ◌⊎◌, inl, inr, length-take, length-append, min, take_all}
use Rattle.std.proofs.lemmas.Bool.{cases_lt}
use Rattle.std.proofs.lemmas.List.{length-replicate, take-append-le}
use Rattle.std.proofs.Math.Seq.{take-length}
use Rattle.std.proofs.Math.Nat.{mod-eq_of_lt, mod-lt}
use Rattle.avr_spec.specs.declared.target.OutWrite.{OutWrite}
use Rattle.avr_spec.specs.Kept.{ring_size, ring_of, total_of}
use Rattle.avr_spec.specs.Laws.{HasOutputs, KeptIsRing, RingHasOutputs}

pub kept_is_ring : KeptIsRing
kept_is_ring outputs =
    let of_ring : length (ring_of outputs) ≡ min ring_size (length outputs) = length-take ring_size outputs in
    record {
      ring_fits = omega arith;
      all_there = λ short. let few : length outputs < 2 ^ 64 = omega arith in mod-eq_of_lt few ∙ omega arith;
      total_fits = mod-lt (length outputs) (omega arith);
    }

-- any output write
abbrev blank : OutWrite
blank = record { cycle = 0; a = 0; byte = 0 }

-- a list that begins with the ring and is as long as wanted
padded : List OutWrite → ℕ → List OutWrite
padded ring n = ring ++ replicate n blank

padded-length : (ring : List OutWrite) (n : ℕ) → length (padded ring n) ≡ length ring + n
unfolding padded
padded-length ring n = omega (arith, length-append ring (replicate n blank), length-replicate n blank)

padded-take : (ring : List OutWrite) (n k : ℕ) → length ring ≡ k → take k (padded ring n) ≡ ring
unfolding padded
padded-take ring n k full =
    take-append-le k ring (replicate n blank) (omega arith) ∙
    ap (λ i. take i ring) (sym full) ∙ take-length ring

-- the length of a full ring and enough more, modulo 2^64
wrapped : (n t : ℕ) → n ≡ ring_size → t < 2 ^ 64 → (n + (t + 2 ^ 64 - ring_size)) % 2 ^ 64 ≡ t
wrapped n t e h = omega arith

pub ring_has_outputs : RingHasOutputs
ring_has_outputs ring total is_ring = told (cases_lt (length ring) ring_size)
  where
    told : (length ring < ring_size) ⊎ (ring_size ≤ length ring) → HasOutputs ring total
    told (inl short) = record {
      outputs = ring;
      is_ring = take_all ring_size ring is_ring.ring_fits;
      is_total = ap (λ (k : ℕ). k % 2 ^ 64) (sym (is_ring.all_there short)) ∙ mod-eq_of_lt is_ring.total_fits;
    }
    told (inr full) =
        let as_long : length ring ≡ ring_size = omega (arith, is_ring.ring_fits) in
        let more : ℕ = total + 2 ^ 64 - ring_size in
        record {
          outputs = padded ring more;
          is_ring = padded-take ring more ring_size as_long;
          is_total = ap (λ (k : ℕ). k % 2 ^ 64) (padded-length ring more) ∙ wrapped (length ring) total as_long is_ring.total_fits;
        }

-- a front of a front
take_front : (n : ℕ) (xs : List OutWrite) → take n (take (suc n) xs) ≡ take n xs
take_front zero xs = refl
take_front (suc n) [] = refl
take_front (suc n) (x ∷ xs) = ap (λ (r : List OutWrite). x ∷ r) (take_front n xs)

ring-more : (n k : ℕ) (w : OutWrite) (outputs : List OutWrite) → n ≡ suc k → take n (w ∷ outputs) ≡ take n (w ∷ take n outputs)
ring-more n k w outputs e =
    subst (λ (m : ℕ). take m (w ∷ outputs) ≡ take m (w ∷ take m outputs)) (sym e)
    (ap (λ (r : List OutWrite). w ∷ r) (sym (take_front k outputs)))

-- one output write more: the ring and the total go on from what was kept
pub ring_of-more : (w : OutWrite) (outputs : List OutWrite) → ring_of (w ∷ outputs) ≡ ring_of (w ∷ ring_of outputs)
ring_of-more w outputs = ring-more ring_size 4095 w outputs refl

pub total_of-more : (w : OutWrite) (outputs : List OutWrite) → total_of (w ∷ outputs) ≡ (total_of outputs + 1) % 2 ^ 64
total_of-more w outputs = counted (length outputs)
  where
    counted : (n : ℕ) → suc n % 2 ^ 64 ≡ (n % 2 ^ 64 + 1) % 2 ^ 64
    counted n = omega arith
