-- A line of which only the front is kept is read as if all of it were there.
use Rattle.std.proofs.Common.{◌≡◌, ℕ, ◌<◌, List, [], ◌∷◌, ◌++◌, Err, length, refl, sym, ap, ◌∙◌, inl, inr, length-take, arith}
use Rattle.std.proofs.lemmas.Bool.{cases_lt}
use Rattle.std.proofs.lemmas.List.{take_all, take-append-le}
use Rattle.std.proofs.lemmas.Grind.{common_steps}
use Rattle.shell_spec.specs.declared.error.LineError.TheVariants.{Long}
use Rattle.shell_spec.specs.Reading.{read_bare, reading}
use Rattle.shell_spec.specs.Words.{without_end}
use Rattle.debug_shell.specs.Steps.{held_of}

-- an end has at most two bytes
without_end-size : (line : List ℕ) → 322 < length line → 320 < length (without_end line)
without_end-size line long = grind (arith, common_steps)

read_bare-long : (line : List ℕ) → 320 < length line → read_bare line ≡ Err Long
read_bare-long line long = grind (arith, common_steps)

reading-long : (line : List ℕ) → 322 < length line → reading line ≡ Err Long
reading-long line long = read_bare-long (without_end line) (without_end-size line long)

pub reading-held : (line : List ℕ) → reading (held_of line) ≡ reading line
reading-held line = elim (cases_lt 323 (length line)) [
  | inl long ↦ reading-long (held_of line) (omega (arith, long, length-take 323 line)) ∙ sym (reading-long line (omega (arith, long)))
  | inr short ↦ ap reading (take_all 323 line short)
]

-- what is kept of a longer line is what is kept of the front with what is behind it
pub held_of-more : (held opened more : List ℕ) → held ≡ held_of opened → held_of (held ++ more) ≡ held_of (opened ++ more)
held_of-more held opened more is = elim (cases_lt (length opened) 323) [
  | inl short ↦ ap (λ (front : List ℕ). held_of (front ++ more)) (is ∙ take_all 323 opened (omega (arith, short)))
  | inr long ↦ let full : length held ≡ 323 = omega (arith, long, ap length is, length-take 323 opened) in
      take-append-le 323 held more (omega (arith, full)) ∙ take_all 323 held (omega (arith, full)) ∙ is ∙ sym (take-append-le 323 opened more long)
]

pub held_of-none : (opened : List ℕ) → held_of opened ≡ [] → opened ≡ []
held_of-none [] none = refl
held_of-none (byte ∷ opened) none = absurd (omega (arith, ap length none, length-take 323 (byte ∷ opened)))
