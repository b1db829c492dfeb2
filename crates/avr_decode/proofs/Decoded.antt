-- The tests by bits give what the instruction table says, for every first word.
use Rattle.std.proofs.Common.{◌≡◌, ℕ, ◌<◌, ◌≤◌, ◌⊎◌, inl, inr, arith}
use Rattle.std.specs.Prelude.{codes}
use Rattle.avr_spec.specs.Decode.{decode}
use Rattle.avr_decode.specs.Choices.{by_six_bits}
use Rattle.avr_decode.proofs.Blocks.{decodes_in}
use Rattle.avr_decode.proofs.Words0.{begins_0}
use Rattle.avr_decode.proofs.Words1To2.{begins_1, begins_2}
use Rattle.avr_decode.proofs.Words3To7.{begins_3, begins_4, begins_5, begins_6, begins_7}
use Rattle.avr_decode.proofs.Words8AndA.{begins_8, begins_a}
use Rattle.avr_decode.proofs.Words9.{loads, stores, one_register, word_sums, io_bits, products}
use Rattle.avr_decode.proofs.WordsBToE.{begins_b, begins_c, begins_d, begins_e}
use Rattle.avr_decode.proofs.WordsF.{begins_f}

-- a number is below a bound, or at it or above
side : (n bound : ℕ) → (n < bound) ⊎ (bound ≤ n)
side n bound = grind arith

pub by_six_bits-decode : (first second : ℕ) → first < 65536 → by_six_bits first second ≡ decode first second
by_six_bits-decode first second word = in_0 (omega arith) (side first 0x1000)
  where
    in_f : 0xf000 ≤ first → by_six_bits first second ≡ decode first second
    in_f low = decodes_in (codes "1111") by_six_bits second 0xf000 4096 (begins_f second) first low word

    in_e : 0xe000 ≤ first → (first < 0xf000) ⊎ (0xf000 ≤ first) → by_six_bits first second ≡ decode first second
    in_e low (inl high) = decodes_in (codes "1110") by_six_bits second 0xe000 4096 (begins_e second) first low high
    in_e low (inr above) = in_f above

    in_d : 0xd000 ≤ first → (first < 0xe000) ⊎ (0xe000 ≤ first) → by_six_bits first second ≡ decode first second
    in_d low (inl high) = decodes_in (codes "1101") by_six_bits second 0xd000 4096 (begins_d second) first low high
    in_d low (inr above) = in_e above (side first 0xf000)

    in_c : 0xc000 ≤ first → (first < 0xd000) ⊎ (0xd000 ≤ first) → by_six_bits first second ≡ decode first second
    in_c low (inl high) = decodes_in (codes "1100") by_six_bits second 0xc000 4096 (begins_c second) first low high
    in_c low (inr above) = in_d above (side first 0xe000)

    in_b : 0xb000 ≤ first → (first < 0xc000) ⊎ (0xc000 ≤ first) → by_six_bits first second ≡ decode first second
    in_b low (inl high) = decodes_in (codes "1011") by_six_bits second 0xb000 4096 (begins_b second) first low high
    in_b low (inr above) = in_c above (side first 0xd000)

    in_a : 0xa000 ≤ first → (first < 0xb000) ⊎ (0xb000 ≤ first) → by_six_bits first second ≡ decode first second
    in_a low (inl high) = decodes_in (codes "1010") by_six_bits second 0xa000 4096 (begins_a second) first low high
    in_a low (inr above) = in_b above (side first 0xc000)

    in_9c : 0x9c00 ≤ first → (first < 0xa000) ⊎ (0xa000 ≤ first) → by_six_bits first second ≡ decode first second
    in_9c low (inl high) = decodes_in (codes "1001 11") by_six_bits second 0x9c00 1024 (products second) first low high
    in_9c low (inr above) = in_a above (side first 0xb000)

    in_98 : 0x9800 ≤ first → (first < 0x9c00) ⊎ (0x9c00 ≤ first) → by_six_bits first second ≡ decode first second
    in_98 low (inl high) = decodes_in (codes "1001 10") by_six_bits second 0x9800 1024 (io_bits second) first low high
    in_98 low (inr above) = in_9c above (side first 0xa000)

    in_96 : 0x9600 ≤ first → (first < 0x9800) ⊎ (0x9800 ≤ first) → by_six_bits first second ≡ decode first second
    in_96 low (inl high) = decodes_in (codes "1001 011") by_six_bits second 0x9600 512 (word_sums second) first low high
    in_96 low (inr above) = in_98 above (side first 0x9c00)

    in_94 : 0x9400 ≤ first → (first < 0x9600) ⊎ (0x9600 ≤ first) → by_six_bits first second ≡ decode first second
    in_94 low (inl high) = decodes_in (codes "1001 010") by_six_bits second 0x9400 512 (one_register second) first low high
    in_94 low (inr above) = in_96 above (side first 0x9800)

    in_92 : 0x9200 ≤ first → (first < 0x9400) ⊎ (0x9400 ≤ first) → by_six_bits first second ≡ decode first second
    in_92 low (inl high) = decodes_in (codes "1001 001") by_six_bits second 0x9200 512 (stores second) first low high
    in_92 low (inr above) = in_94 above (side first 0x9600)

    in_90 : 0x9000 ≤ first → (first < 0x9200) ⊎ (0x9200 ≤ first) → by_six_bits first second ≡ decode first second
    in_90 low (inl high) = decodes_in (codes "1001 000") by_six_bits second 0x9000 512 (loads second) first low high
    in_90 low (inr above) = in_92 above (side first 0x9400)

    in_8 : 0x8000 ≤ first → (first < 0x9000) ⊎ (0x9000 ≤ first) → by_six_bits first second ≡ decode first second
    in_8 low (inl high) = decodes_in (codes "1000") by_six_bits second 0x8000 4096 (begins_8 second) first low high
    in_8 low (inr above) = in_90 above (side first 0x9200)

    in_7 : 0x7000 ≤ first → (first < 0x8000) ⊎ (0x8000 ≤ first) → by_six_bits first second ≡ decode first second
    in_7 low (inl high) = decodes_in (codes "0111") by_six_bits second 0x7000 4096 (begins_7 second) first low high
    in_7 low (inr above) = in_8 above (side first 0x9000)

    in_6 : 0x6000 ≤ first → (first < 0x7000) ⊎ (0x7000 ≤ first) → by_six_bits first second ≡ decode first second
    in_6 low (inl high) = decodes_in (codes "0110") by_six_bits second 0x6000 4096 (begins_6 second) first low high
    in_6 low (inr above) = in_7 above (side first 0x8000)

    in_5 : 0x5000 ≤ first → (first < 0x6000) ⊎ (0x6000 ≤ first) → by_six_bits first second ≡ decode first second
    in_5 low (inl high) = decodes_in (codes "0101") by_six_bits second 0x5000 4096 (begins_5 second) first low high
    in_5 low (inr above) = in_6 above (side first 0x7000)

    in_4 : 0x4000 ≤ first → (first < 0x5000) ⊎ (0x5000 ≤ first) → by_six_bits first second ≡ decode first second
    in_4 low (inl high) = decodes_in (codes "0100") by_six_bits second 0x4000 4096 (begins_4 second) first low high
    in_4 low (inr above) = in_5 above (side first 0x6000)

    in_3 : 0x3000 ≤ first → (first < 0x4000) ⊎ (0x4000 ≤ first) → by_six_bits first second ≡ decode first second
    in_3 low (inl high) = decodes_in (codes "0011") by_six_bits second 0x3000 4096 (begins_3 second) first low high
    in_3 low (inr above) = in_4 above (side first 0x5000)

    in_2 : 0x2000 ≤ first → (first < 0x3000) ⊎ (0x3000 ≤ first) → by_six_bits first second ≡ decode first second
    in_2 low (inl high) = decodes_in (codes "0010") by_six_bits second 0x2000 4096 (begins_2 second) first low high
    in_2 low (inr above) = in_3 above (side first 0x4000)

    in_1 : 0x1000 ≤ first → (first < 0x2000) ⊎ (0x2000 ≤ first) → by_six_bits first second ≡ decode first second
    in_1 low (inl high) = decodes_in (codes "0001") by_six_bits second 0x1000 4096 (begins_1 second) first low high
    in_1 low (inr above) = in_2 above (side first 0x3000)

    in_0 : 0x0000 ≤ first → (first < 0x1000) ⊎ (0x1000 ≤ first) → by_six_bits first second ≡ decode first second
    in_0 low (inl high) = decodes_in (codes "0000") by_six_bits second 0x0000 4096 (begins_0 second) first low high
    in_0 low (inr above) = in_1 above (side first 0x2000)
