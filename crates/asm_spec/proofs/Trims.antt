-- A line of a mnemonic and clean operands, cut into its parts.
use Rattle.std.proofs.Common.{◌≡◌, ℕ, suc, ◌+◌, ◌≤◌, ◌==◌, ◌&&◌, Bool, true, false, cond, List, [], ◌∷◌, ◌++◌, length, drop, take, map, refl, sym, ap, ◌∙◌, arith}
use Rattle.std.specs.Prelude.{codes, not, nat_le, if◌then◌else◌, reverse, Option, None, Some}
use Rattle.std.specs.List.{list_all, prefix_len, slice_split, take_while, onto_first}
use Rattle.std.proofs.lemmas.Bool.Decides.{nat_tests}
use Rattle.std.proofs.lemmas.List.{append-nil, drop_at, reverse-append, reverse-reverse, take_at, append_assoc, drop_all}
use Rattle.part_spec.specs.Chip.{Chip}
use Rattle.asm_spec.specs.Forms.{joined}
use Rattle.asm_spec.specs.Tokens.{Statement, behind_blanks, is_blank, operands_in, statement_of, trimmed}
use Rattle.asm_spec.specs.Reading.{at_colon, by_colon, labelled, order_in, order_of, reading, with_front, without_comment}
use Rattle.asm_spec.proofs.Tests.{and_parts, all_append, all_reverse, all_weaker}
use Rattle.asm_spec.proofs.CleanTexts.{is_clean, is_clean_text}

-- ---- bytes
not_blank : (byte : ℕ) → is_clean byte ≡ true → is_blank byte ≡ false
not_blank byte h = grind (arith, nat_tests)

not_comma : (byte : ℕ) → is_clean byte ≡ true → (byte == 0x2c) ≡ false
not_comma byte h = grind (arith, nat_tests)

-- a byte of a line with no label and no comment, and no end of it
abbrev pub is_plain_byte : ℕ → Bool
is_plain_byte byte = nat_le 0x20 byte && not (byte == 0x3b) && not (byte == 0x3a)

clean_plain : (byte : ℕ) → is_clean byte ≡ true → is_plain_byte byte ≡ true
clean_plain byte h = grind (arith, nat_tests)

no_comment : (byte : ℕ) → is_plain_byte byte ≡ true → not (byte == 0x3b) ≡ true
no_comment byte h = grind (arith, nat_tests)

no_colon : (byte : ℕ) → is_plain_byte byte ≡ true → (byte == 0x3a) ≡ false
no_colon byte h = grind (arith, nat_tests)

-- ---- a line without label and comment
front_all : (p : ℕ → Bool) (bytes : List ℕ) → list_all p bytes ≡ true → prefix_len p bytes ≡ length bytes
front_all p [] h = refl
front_all p (byte ∷ bytes) h =
    let parts = and_parts (p byte) (list_all p bytes) h in
    ap (λ (b : Bool). cond b (1 + prefix_len p bytes) 0) parts.0 ∙ (let e : 1 + prefix_len p bytes ≡ suc (length bytes) = omega (arith, front_all p bytes parts.1) in e)

front_at : (p : ℕ → Bool) (bytes : List ℕ) (stop : ℕ) (behind : List ℕ) → list_all p bytes ≡ true → p stop ≡ false →
    prefix_len p (bytes ++ stop ∷ behind) ≡ length bytes
front_at p [] stop behind h s = ap (λ (b : Bool). cond b (1 + prefix_len p behind) 0) s
front_at p (byte ∷ bytes) stop behind h s =
    let parts = and_parts (p byte) (list_all p bytes) h in
    ap (λ (b : Bool). cond b (1 + prefix_len p (bytes ++ stop ∷ behind)) 0) parts.0 ∙
    (let e : 1 + prefix_len p (bytes ++ stop ∷ behind) ≡ suc (length bytes) = omega (arith, front_at p bytes stop behind parts.1 s) in e)

take_length : (bytes : List ℕ) → take (length bytes) bytes ≡ bytes
take_length [] = refl
take_length (byte ∷ bytes) = ap (λ (l : List ℕ). byte ∷ l) (take_length bytes)

while_all : (p : ℕ → Bool) (bytes : List ℕ) → list_all p bytes ≡ true → take_while p bytes ≡ bytes
while_all p bytes h = ap (λ (n : ℕ). take n bytes) (front_all p bytes h) ∙ take_length bytes

while_at : (p : ℕ → Bool) (bytes : List ℕ) (stop : ℕ) (behind : List ℕ) → list_all p bytes ≡ true → p stop ≡ false →
    take_while p (bytes ++ stop ∷ behind) ≡ bytes
while_at p bytes stop behind h s =
    ap (λ (n : ℕ). take n (bytes ++ stop ∷ behind)) (front_at p bytes stop behind h s) ∙ take_at bytes (stop ∷ behind) (length bytes) refl

without_colon : (bytes : List ℕ) → list_all is_plain_byte bytes ≡ true → at_colon bytes ≡ None
without_colon [] h = refl
without_colon (byte ∷ bytes) h =
    let parts = and_parts (is_plain_byte byte) (list_all is_plain_byte bytes) h in
    ap (λ (b : Bool). if b then Some ([], bytes) else with_front byte (at_colon bytes)) (no_colon byte parts.0) ∙
    ap (λ (o : Option (List ℕ × List ℕ)). with_front byte o) (without_colon bytes parts.1)

-- a line of plain bytes is a statement, without blanks at its ends
plain_line : (part : Chip) (line : List ℕ) → list_all is_plain_byte line ≡ true → reading part line ≡ labelled None (order_in part (trimmed line))
unfolding reading
plain_line part line h =
    let all : without_comment line ≡ line =
    while_all (λ other. not (other == 0x3b)) line (all_weaker is_plain_byte (λ other. not (other == 0x3b)) no_comment line h) in
    ap (λ (l : List ℕ). by_colon part l (at_colon l)) all ∙
    ap (λ (o : Option (List ℕ × List ℕ)). by_colon part line o) (without_colon line h)

-- ---- clean texts
clean_all : (text : List ℕ) → is_clean_text text ≡ true → list_all is_clean text ≡ true
clean_all [] h = cc
clean_all (byte ∷ bytes) h = h

-- with no blank in front nothing is left out
no_blank_ahead : (text behind : List ℕ) → is_clean_text text ≡ true → behind_blanks (text ++ behind) ≡ text ++ behind
no_blank_ahead [] behind h = cc
no_blank_ahead (byte ∷ bytes) behind h =
    let first : is_blank byte ≡ false = not_blank byte (and_parts (is_clean byte) (list_all is_clean bytes) h).0 in
    ap (λ (b : Bool). if b then behind_blanks (bytes ++ behind) else byte ∷ (bytes ++ behind)) first

-- a text from its end is clean too
ends_clean : (text : List ℕ) → (text ≡ [] → ⊥) → list_all is_clean text ≡ true → is_clean_text text ≡ true
ends_clean [] some h = absurd (some refl)
ends_clean (byte ∷ bytes) some h = h

not_empty : (text : List ℕ) → is_clean_text text ≡ true → reverse text ≡ [] → ⊥
not_empty text h e = let empty : text ≡ [] = sym (reverse-reverse text) ∙ ap reverse e in never text h empty
  where
    never : (text : List ℕ) → is_clean_text text ≡ true → text ≡ [] → ⊥
    never [] h e = cc
    never (byte ∷ bytes) h e = cc

reverse_clean : (text : List ℕ) → is_clean_text text ≡ true → is_clean_text (reverse text) ≡ true
reverse_clean text h = ends_clean (reverse text) (not_empty text h) (all_reverse is_clean text (clean_all text h))

-- nothing is trimmed of bytes that begin and end with clean texts
trimmed_from : (front text : List ℕ) → is_clean_text text ≡ true → reverse (behind_blanks (reverse (front ++ text))) ≡ front ++ text
trimmed_from front text h =
    ap (λ (l : List ℕ). reverse (behind_blanks l)) (reverse-append front text) ∙
    ap reverse (no_blank_ahead (reverse text) (reverse front) (reverse_clean text h) ∙ sym (reverse-append front text)) ∙
    reverse-reverse (front ++ text)

trimmed_clean : (text : List ℕ) → is_clean_text text ≡ true → trimmed text ≡ text
trimmed_clean text h =
    let ahead : behind_blanks text ≡ text =
    ap behind_blanks (sym (append-nil text)) ∙ no_blank_ahead text [] h ∙ append-nil text in
    ap (λ (l : List ℕ). reverse (behind_blanks (reverse l))) ahead ∙ trimmed_from [] text h

trimmed_between : (first middle last : List ℕ) → is_clean_text first ≡ true → is_clean_text last ≡ true →
    trimmed (first ++ (middle ++ last)) ≡ first ++ (middle ++ last)
trimmed_between first middle last h k =
    ap (λ (l : List ℕ). reverse (behind_blanks (reverse l))) (no_blank_ahead first (middle ++ last) h) ∙
    ap (λ (l : List ℕ). reverse (behind_blanks (reverse l))) (sym (append_assoc first middle last)) ∙
    trimmed_from (first ++ middle) last k ∙ append_assoc first middle last

-- ---- commas
one_piece : (text : List ℕ) → list_all is_clean text ≡ true → slice_split (λ other. other == 0x2c) text ≡ text ∷ []
one_piece [] h = refl
one_piece (byte ∷ bytes) h =
    let parts = and_parts (is_clean byte) (list_all is_clean bytes) h in
    let pieces : List (List ℕ) = slice_split (λ other. other == 0x2c) bytes in
    ap (λ (b : Bool). cond b ([] ∷ pieces) (onto_first byte pieces)) (not_comma byte parts.0) ∙ ap (onto_first byte) (one_piece bytes parts.1)

two_pieces : (text behind : List ℕ) → list_all is_clean text ≡ true →
    slice_split (λ other. other == 0x2c) (text ++ 0x2c ∷ behind) ≡ text ∷ slice_split (λ other. other == 0x2c) behind
two_pieces [] behind h = refl
two_pieces (byte ∷ bytes) behind h =
    let parts = and_parts (is_clean byte) (list_all is_clean bytes) h in
    let pieces : List (List ℕ) = slice_split (λ other. other == 0x2c) (bytes ++ 0x2c ∷ behind) in
    ap (λ (b : Bool). cond b ([] ∷ pieces) (onto_first byte pieces)) (not_comma byte parts.0) ∙ ap (onto_first byte) (two_pieces bytes behind parts.1)

some_operands : (text behind : List ℕ) → is_clean_text text ≡ true →
    operands_in (text ++ behind) ≡ map trimmed (slice_split (λ other. other == 0x2c) (text ++ behind))
some_operands [] behind h = cc
some_operands (byte ∷ bytes) behind h = refl

-- ---- statements
-- the mnemonic up to the first blank
name_before : (name behind : List ℕ) → is_clean_text name ≡ true →
    statement_of (name ++ 0x20 ∷ behind) ≡ record { name = name; operands = operands_in (behind_blanks behind) }
name_before name behind h =
    let blanks : list_all (λ byte. not (is_blank byte)) name ≡ true =
    all_weaker is_clean (λ byte. not (is_blank byte)) (λ byte clean. ap not (not_blank byte clean)) name (clean_all name h) in
    let is : take_while (λ byte. not (is_blank byte)) (name ++ 0x20 ∷ behind) ≡ name =
    while_at (λ byte. not (is_blank byte)) name 0x20 behind blanks refl in
    ap (λ (n : List ℕ). record { name = n; operands = operands_in (behind_blanks (drop (length n) (name ++ 0x20 ∷ behind))) }) is ∙
    ap (λ (l : List ℕ). record { name = name; operands = operands_in (behind_blanks l) }) (drop_at name (0x20 ∷ behind) (length name) refl)

name_alone : (name : List ℕ) → is_clean_text name ≡ true → statement_of name ≡ record { name = name; operands = [] }
name_alone name h =
    let blanks : list_all (λ byte. not (is_blank byte)) name ≡ true =
    all_weaker is_clean (λ byte. not (is_blank byte)) (λ byte clean. ap not (not_blank byte clean)) name (clean_all name h) in
    let is : take_while (λ byte. not (is_blank byte)) name ≡ name = while_all (λ byte. not (is_blank byte)) name blanks in
    ap (λ (n : List ℕ). record { name = n; operands = operands_in (behind_blanks (drop (length n) name)) }) is ∙
    ap (λ (l : List ℕ). record { name = name; operands = operands_in (behind_blanks l) }) (drop_all (length name) name (omega arith))

-- an operand, and two of them
one_operand : (text : List ℕ) → is_clean_text text ≡ true → operands_in (behind_blanks text) ≡ text ∷ []
one_operand text h =
    let ahead : behind_blanks text ≡ text =
    ap behind_blanks (sym (append-nil text)) ∙ no_blank_ahead text [] h ∙ append-nil text in
    ap operands_in (ahead ∙ sym (append-nil text)) ∙ some_operands text [] h ∙
    ap (λ (l : List ℕ). map trimmed (slice_split (λ other. other == 0x2c) l)) (append-nil text) ∙
    ap (map trimmed) (one_piece text (clean_all text h)) ∙ ap (λ (l : List ℕ). l ∷ []) (trimmed_clean text h)

two_operands : (left right : List ℕ) → is_clean_text left ≡ true → is_clean_text right ≡ true →
    operands_in (behind_blanks (left ++ 0x2c ∷ 0x20 ∷ right)) ≡ left ∷ right ∷ []
two_operands left right h k =
    let last : slice_split (λ other. other == 0x2c) (0x20 ∷ right) ≡ (0x20 ∷ right) ∷ [] =
    ap (onto_first 0x20) (one_piece right (clean_all right k)) in
    ap operands_in (no_blank_ahead left (0x2c ∷ 0x20 ∷ right) h) ∙ some_operands left (0x2c ∷ 0x20 ∷ right) h ∙
    ap (map trimmed) (two_pieces left (0x20 ∷ right) (clean_all left h) ∙ ap (λ (l : List (List ℕ)). left ∷ l) last) ∙
    ap (λ (l : List ℕ). l ∷ trimmed right ∷ []) (trimmed_clean left h) ∙ ap (λ (l : List ℕ). left ∷ l ∷ []) (trimmed_clean right k)

-- ---- lines
-- what such bytes say
some_order : (part : Chip) (text behind : List ℕ) → is_clean_text text ≡ true →
    order_in part (text ++ behind) ≡ order_of part (statement_of (text ++ behind))
some_order part [] behind h = cc
some_order part (byte ∷ bytes) behind h = refl

plain_text : (text : List ℕ) → is_clean_text text ≡ true → list_all is_plain_byte text ≡ true
plain_text text h = all_weaker is_clean is_plain_byte clean_plain text (clean_all text h)

-- the line of a mnemonic with none, one or two clean operands
module _ (part : Chip) (name : List ℕ) (clean : is_clean_text name ≡ true) where
  -- a line that begins with the mnemonic
  said : (line behind : List ℕ) → line ≡ name ++ behind → trimmed line ≡ line → list_all is_plain_byte line ≡ true →
      reading part line ≡ labelled None (order_of part (statement_of line))
  said line behind is whole plain =
      plain_line part line plain ∙ ap (λ (l : List ℕ). labelled None (order_in part l)) (whole ∙ is) ∙
      ap (labelled None) (some_order part name behind clean) ∙ ap (λ (l : List ℕ). labelled None (order_of part (statement_of l))) (sym is)

  no_text : reading part name ≡ labelled None (order_of part (record { name = name; operands = [] }))
  no_text =
      said name [] (sym (append-nil name)) (trimmed_clean name clean) (plain_text name clean) ∙
      ap (λ (s : Statement). labelled None (order_of part s)) (name_alone name clean)

  one_text : (text : List ℕ) → is_clean_text text ≡ true →
      reading part (name ++ 0x20 ∷ text) ≡ labelled None (order_of part (record { name = name; operands = text ∷ [] }))
  one_text text h =
      let plain : list_all is_plain_byte (name ++ 0x20 ∷ text) ≡ true =
      all_append is_plain_byte name (0x20 ∷ text) (plain_text name clean) (plain_text text h) in
      said (name ++ 0x20 ∷ text) (0x20 ∷ text) refl (trimmed_between name (0x20 ∷ []) text clean h) plain ∙
      ap (λ (s : Statement). labelled None (order_of part s)) (name_before name text clean) ∙
      ap (λ (l : List (List ℕ)). labelled None (order_of part (record { name = name; operands = l }))) (one_operand text h)

  two_texts : (left right : List ℕ) → is_clean_text left ≡ true → is_clean_text right ≡ true →
      reading part (name ++ 0x20 ∷ (left ++ 0x2c ∷ 0x20 ∷ right)) ≡
      labelled None (order_of part (record { name = name; operands = left ∷ right ∷ [] }))
  two_texts left right h k =
      let behind : List ℕ = left ++ 0x2c ∷ 0x20 ∷ right in
      let plain : list_all is_plain_byte (name ++ 0x20 ∷ behind) ≡ true =
      all_append is_plain_byte name (0x20 ∷ behind) (plain_text name clean)
      (all_append is_plain_byte left (0x2c ∷ 0x20 ∷ right) (plain_text left h) (plain_text right k)) in
      let cut : (0x20 ∷ (left ++ 0x2c ∷ 0x20 ∷ [])) ++ right ≡ 0x20 ∷ behind = ap (λ (l : List ℕ). 0x20 ∷ l) (append_assoc left (0x2c ∷ 0x20 ∷ []) right) in
      let whole : trimmed (name ++ 0x20 ∷ behind) ≡ name ++ 0x20 ∷ behind =
      ap (λ (l : List ℕ). trimmed (name ++ l)) (sym cut) ∙ trimmed_between name (0x20 ∷ (left ++ 0x2c ∷ 0x20 ∷ [])) right clean k ∙
      ap (λ (l : List ℕ). name ++ l) cut in
      said (name ++ 0x20 ∷ behind) (0x20 ∷ behind) refl whole plain ∙
      ap (λ (s : Statement). labelled None (order_of part s)) (name_before name behind clean) ∙
      ap (λ (l : List (List ℕ)). labelled None (order_of part (record { name = name; operands = l }))) (two_operands left right h k)

  pub line_says : (texts : List (List ℕ)) → length texts ≤ 2 → list_all is_clean_text texts ≡ true →
      reading part (joined name texts) ≡ labelled None (order_of part (record { name = name; operands = texts }))
  line_says [] few all = no_text
  line_says (text ∷ []) few all =
      ap (reading part) (append_assoc name (codes " ") text) ∙ one_text text (and_parts (is_clean_text text) true all).0
  line_says (left ∷ right ∷ []) few all =
      let parts = and_parts (is_clean_text left) (list_all is_clean_text (right ∷ [])) all in
      ap (reading part) (append_assoc name (codes " ") (left ++ codes ", " ++ right) ∙
      ap (λ (l : List ℕ). name ++ 0x20 ∷ l) (append_assoc left (codes ", ") right)) ∙
      two_texts left right parts.0 (and_parts (is_clean_text right) true parts.1).0
  line_says (first ∷ second ∷ third ∷ more) few all = absurd (omega arith)

  -- no byte of it ends a line
  pub line_plain : (texts : List (List ℕ)) → length texts ≤ 2 → list_all is_clean_text texts ≡ true →
      list_all is_plain_byte (joined name texts) ≡ true
  line_plain [] few all = plain_text name clean
  line_plain (text ∷ []) few all =
      all_append is_plain_byte (name ++ codes " ") text (all_append is_plain_byte name (codes " ") (plain_text name clean) refl)
      (plain_text text (and_parts (is_clean_text text) true all).0)
  line_plain (left ∷ right ∷ []) few all =
      let parts = and_parts (is_clean_text left) (list_all is_clean_text (right ∷ [])) all in
      all_append is_plain_byte (name ++ codes " ") (left ++ codes ", " ++ right)
      (all_append is_plain_byte name (codes " ") (plain_text name clean) refl)
      (all_append is_plain_byte (left ++ codes ", ") right (all_append is_plain_byte left (codes ", ") (plain_text left parts.0) refl)
      (plain_text right (and_parts (is_clean_text right) true parts.1).0))
  line_plain (first ∷ second ∷ third ∷ more) few all = absurd (omega arith)
