-- Programs written as records, and read back.
use Rattle.std.proofs.Common.{◌≡◌, ℕ, zero, suc, ◌+◌, ◌-◌, ◌*◌, ◌/◌, ◌%◌, ◌≤◌, ◌<◌, Bool, true, false, List, [], ◌∷◌, ◌++◌, Option, Some, None, Result, Ok, Err, length, get_or, take, refl, sym, ap, ap₂, ◌∙◌, subst, zero-add, append-nil, append_assoc, eq-eqb, le-leb, arith}
use Rattle.std.specs.Prelude.{◌≢◌, ◌==◌, if◌then◌else◌, sum}
use Rattle.std.specs.List.{All, AllPass, slice_split}
use Rattle.std.proofs.Math.Seq.{take-append_seam}
use Rattle.std.proofs.lemmas.Bool.{ne_eqb}
use Rattle.std.proofs.lemmas.List.{length-append}
use Rattle.std.proofs.lemmas.List.Splits.{length-slice_split, slice_split_at}
use Rattle.std.proofs.lemmas.List.Sums.{sum_by-append}
use Rattle.hex.specs.Hex.{IsBytes, encode_upper, is_hex_digit}
use Rattle.hex.proofs.HexLemmas.{decode_of-ok, decode_of-encode_upper}
use Rattle.part_spec.specs.Chip.{Chip, chip_of, words_of, flash_bytes}
use Rattle.part_spec.specs.declared.part.Part.{Part}
use Rattle.part_spec.specs.declared.part.Part.TheVariants.{M16, M32}
use Rattle.part_spec.specs.Pages.{paired}
use Rattle.image_hex.specs.Lines.{line_feed, carriage_return, lines_cut, lines_of}
use Rattle.image_hex.specs.Records.{Record, gives, ends, colon, record_of, record_in, decoded, summed, told, record_at}
use Rattle.image_hex.specs.Hex.{Filling, onward, all_placed, effect, filled, words_in, hex_image}
use Rattle.image_hex.specs.Raw.{program_of, raw_image}
use Rattle.image_hex.specs.Written.{sum_byte, record_line, data_record, text_of, joined, ArePieces}
use Rattle.image_hex.specs.declared.error.ImageError.{ImageError}
use Rattle.image_hex.specs.declared.error.ImageError.TheVariants.{BadSum, TooLarge, Odd}
use Rattle.image_hex.proofs.Begun.{begun, all_placed-begun, words_in-begun}
use Rattle.image_hex.proofs.Cutting.{lines_cut-more, without_return-other}
use Rattle.image_hex.proofs.Pairing.{length-paired}

-- ---- the line of a record

digit-other : (character other : ℕ) → is_hex_digit character ≡ true → is_hex_digit other ≡ false → character ≢ other
digit-other character other is not_is same = cc (sym is ∙ ap is_hex_digit same ∙ not_is)

-- what holds of a colon and of each digit holds of each character of a line
all_of_line : (P : ℕ → Type 0) → P colon → ((character : ℕ) → is_hex_digit character ≡ true → P character) → (digits : List ℕ)
    → AllPass is_hex_digit digits → All P (colon ∷ digits)
all_of_line P first each digits are zero d inside = first
all_of_line P first each digits are (suc k) d inside = each (get_or digits k d) (are k d (omega arith))

lines_of-record : (bytes text : List ℕ) → IsBytes (bytes ++ sum_byte bytes ∷ []) → lines_of (record_line bytes ++ line_feed ∷ text)
    ≡ record_line bytes ∷ lines_of text
lines_of-record bytes text are =
    let whole = bytes ++ sum_byte bytes ∷ [] in
    let digits = encode_upper whole in
    let good : AllPass is_hex_digit digits = (decode_of-ok digits whole (decode_of-encode_upper whole are)).1 in
    let no_feed = all_of_line (λ c. (c == line_feed) ≡ false) refl (λ c is. ne_eqb c line_feed
    (digit-other c line_feed is refl)) digits good in
    let no_return = all_of_line (λ c. c ≢ carriage_return) (λ same. omega (arith, same))
    (λ c is. digit-other c carriage_return is refl) digits good in
    let cut = slice_split_at (λ byte. byte == line_feed) (colon ∷ digits) line_feed text no_feed refl in
    let parts = slice_split (λ byte. byte == line_feed) text in
    ap lines_cut cut
    ∙ lines_cut-more (colon ∷ digits) parts (omega (arith, length-slice_split (λ byte. byte == line_feed) text))
    ∙ ap (λ (line : List ℕ). line ∷ lines_of text) (sym (without_return-other (colon ∷ digits) (length digits) refl (no_return
    (length digits) 0 (omega arith))))

summed-zero : (bytes : List ℕ) → (sum (bytes ++ sum_byte bytes ∷ []) % 256 == 0) ≡ true
summed-zero bytes = eq-eqb (sum (bytes ++ sum_byte bytes ∷ []) % 256) 0 (omega (arith, sum_by-append (λ x. x) bytes (sum_byte bytes ∷ [])))

-- the record of a line is that of its bytes
record_at-line : (number : ℕ) (bytes : List ℕ) (record_ : Record) → IsBytes (bytes ++ sum_byte bytes ∷ [])
    → record_in (bytes ++ sum_byte bytes ∷ []) ≡ Some record_
    → record_at number (record_line bytes) ≡ Ok record_
record_at-line number bytes record_ are is =
    let whole = bytes ++ sum_byte bytes ∷ [] in
    ap (λ (read : Option (List ℕ)). told number read) (ap decoded (decode_of-encode_upper whole are))
    ∙ ap (summed number whole) is
    ∙ ap (λ (zeroed : Bool). if zeroed then Ok record_ else Err (BadSum number)) (summed-zero bytes)

-- ---- a record of bytes

IsBytes-push : (bytes : List ℕ) (last : ℕ) → last < 256 → IsBytes bytes → IsBytes (bytes ++ last ∷ [])
IsBytes-push [] last small are zero = small
IsBytes-push [] last small are (suc i) = omega arith
IsBytes-push (byte ∷ bytes) last small are zero = are 0
IsBytes-push (byte ∷ bytes) last small are (suc i) = IsBytes-push bytes last small (λ k. are (suc k)) i

IsBytes-data : (address last : ℕ) (piece : List ℕ) → address < 65536 → length piece ≤ 255 → last < 256 → IsBytes piece
    → IsBytes (data_record address piece ++ last ∷ [])
IsBytes-data address last piece within fits small are zero = omega arith
IsBytes-data address last piece within fits small are (suc zero) = omega arith
IsBytes-data address last piece within fits small are (suc (suc zero)) = omega arith
IsBytes-data address last piece within fits small are (suc (suc (suc zero))) = omega arith
IsBytes-data address last piece within fits small are (suc (suc (suc (suc i)))) = IsBytes-push piece last small are i

record_in-data : (address last : ℕ) (piece : List ℕ) → record_in (data_record address piece ++ last ∷ []) ≡ Some (gives address piece)
record_in-data address last piece =
    let size : (length (piece ++ last ∷ []) == length piece + 1)
    ≡ true = eq-eqb (length (piece ++ last ∷ [])) (length piece + 1) (length-append piece (last ∷ [])) in
    let place : 256 * (address / 256) + address % 256 ≡ address = omega arith in
    ap (λ (fits : Bool). if fits then record_of 0 (256 * (address / 256) + address % 256)
    (take (length piece) (piece ++ last ∷ [])) else None) size
    ∙ ap₂ (λ (at : ℕ) (bytes : List ℕ). Some (gives at bytes)) place (take-append_seam piece (last ∷ []))

record_at-data : (number address : ℕ) (piece : List ℕ) → address < 65536 → length piece ≤ 255 → IsBytes piece
    → record_at number (record_line (data_record address piece)) ≡ Ok (gives address piece)
record_at-data number address piece within fits are =
    record_at-line number (data_record address piece) (gives address piece)
    (IsBytes-data address (sum_byte (data_record address piece)) piece within fits (omega arith) are)
    (record_in-data address (sum_byte (data_record address piece)) piece)

-- ---- whole texts

IsBytes-end : IsBytes (0 ∷ 0 ∷ 0 ∷ 1 ∷ 255 ∷ [])
IsBytes-end zero = omega arith
IsBytes-end (suc zero) = omega arith
IsBytes-end (suc (suc zero)) = omega arith
IsBytes-end (suc (suc (suc zero))) = omega arith
IsBytes-end (suc (suc (suc (suc zero)))) = omega arith
IsBytes-end (suc (suc (suc (suc (suc i))))) = omega arith

-- the pieces are placed one behind the other
filled-pieces : (pieces : List (List ℕ)) (front : List ℕ) (free left number : ℕ) → ArePieces pieces
    → length front + length (joined pieces) < 65536
    → free ≡ length (joined pieces) + left
    → filled (lines_of (text_of pieces (length front))) number (record { base = 0; bytes = begun front free })
    ≡ Ok (begun (front ++ joined pieces) left)
filled-pieces [] front free left number are within size =
    let image : Filling = record { base = 0; bytes = begun front free } in
    let end : List ℕ = 0 ∷ 0 ∷ 0 ∷ 1 ∷ [] in
    let same : free ≡ left = omega (arith, size) in
    ap (λ (lines : List (List ℕ)). filled lines number image) (lines_of-record end [] IsBytes-end)
    ∙ ap (λ (read : Result Record ImageError). onward read (λ record_. effect record_ image (filled [] (number + 1))))
    (record_at-line number end ends IsBytes-end refl)
    ∙ ap Ok (ap₂ begun (sym (append-nil front)) same)
filled-pieces (piece ∷ pieces) front free left number are within size =
    let image : Filling = record { base = 0; bytes = begun front free } in
    let at = length front in
    let both = length-append piece (joined pieces) in
    let here : at < 65536 = omega arith in
    let more = length (joined pieces) + left in
    let behind : Filling → Result (List (Option ℕ)) ImageError = filled (lines_of (text_of pieces (at + length piece))) (number + 1) in
    let line = lines_of-record (data_record at piece) (text_of pieces (at + length piece))
    (IsBytes-data at (sum_byte (data_record at piece)) piece here are.0 (omega arith) are.1) in
    let longer = length-append front piece in
    let P : ℕ → Type 0 = λ n. filled (lines_of (text_of pieces n)) (number + 1) (record { base = 0; bytes = begun (front ++ piece) more })
    ≡ Ok (begun ((front ++ piece) ++ joined pieces) left) in
    let rest = filled-pieces pieces (front ++ piece) more left (number + 1) are.2 (omega (arith, within, both, longer)) refl in
    ap (λ (lines : List (List ℕ)). filled lines number image) line
    ∙ ap (λ (read : Result Record ImageError). onward read (λ record_. effect record_ image behind))
    (record_at-data number at piece here are.0 are.1)
    ∙ ap (λ (n : ℕ). onward (all_placed piece n (begun front free)) (λ flash. behind (record { base = 0; bytes = flash }))) (zero-add at)
    ∙ ap (λ (flash : Result (List (Option ℕ)) ImageError). onward flash (λ flash. behind (record { base = 0; bytes = flash })))
    (all_placed-begun piece front free more (omega (arith, size, both)))
    ∙ subst P longer rest
    ∙ ap (λ (all : List ℕ). Ok (begun all left)) (append_assoc front piece (joined pieces))

raw_image-right : (chip : Chip) (bytes : List ℕ) → length bytes ≤ flash_bytes chip → length bytes % 2 ≡ 0 → raw_image chip bytes
    ≡ Ok (program_of chip bytes)
raw_image-right chip bytes fits even =
    ap (λ (within : Bool). if within then (if length bytes % 2 == 0 then Ok (program_of chip bytes) else Err Odd) else Err TooLarge)
    (le-leb (length bytes) (flash_bytes chip) fits)
    ∙ ap (λ (paired_ : Bool). if paired_ then Ok (program_of chip bytes) else Err Odd) (eq-eqb (length bytes % 2) 0 even)

flash_bytes-small : (part : Part) → flash_bytes (chip_of part) < 65536
flash_bytes-small M16 = omega arith
flash_bytes-small M32 = omega arith

-- a program that is written as records reads as its raw image
pub hex_image-written : (part : Part) (pieces : List (List ℕ)) → ArePieces pieces → length (joined pieces) ≤ flash_bytes (chip_of part)
    → length (joined pieces) % 2 ≡ 0
    → hex_image (chip_of part) (text_of pieces 0) ≡ raw_image (chip_of part) (joined pieces)
hex_image-written part pieces are fits even =
    let chip = chip_of part in
    let bytes = joined pieces in
    let left = flash_bytes chip - length bytes in
    let read = filled-pieces pieces [] (flash_bytes chip) left 1 are (omega (arith, flash_bytes-small part)) (omega arith) in
    let words : left ≡ 2 * (words_of chip - length (paired bytes)) = omega (arith, length-paired bytes) in
    ap (λ (flash : Result (List (Option ℕ)) ImageError). onward flash (λ flash. Ok (words_in flash))) read
    ∙ ap Ok (words_in-begun bytes left (words_of chip - length (paired bytes)) even words)
    ∙ sym (raw_image-right chip bytes fits even)
