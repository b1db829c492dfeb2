-- The stack, over the values that the code has at hand: each is the book's.
use Rattle.std.proofs.Common.{◌≡◌, ℕ, ◌+◌, ◌*◌, ◌%◌, ap, ◌∙◌, arith}
use Rattle.part_spec.specs.Chip.{Chip, words_of}
use Rattle.avr_spec.specs.Bytes.{low, high}
use Rattle.avr_spec.specs.Machine.{Machine}
use Rattle.avr_spec.specs.Kept.{kept}
use Rattle.avr_spec.specs.Memory.{plus, minus, load, store, sp, with_sp, pushed_pc, popped_pc}
use Rattle.avr_spec.specs.Effect.{with_pc}

-- an address lowered by 1 or by 2, as the code wraps it
pub lowered : (address : ℕ) → (address + 65535) % 65536 ≡ minus address 1
lowered address = omega arith

pub lowered_twice : (address : ℕ) → (address + 65534) % 65536 ≡ minus address 2
lowered_twice address = omega arith

module _ (part : Chip) where
  -- two bytes stored, and then the stack pointer set
  abbrev pub pushing : Machine → ℕ → ℕ → ℕ → ℕ → ℕ → Machine
  pushing p top once twice l h = with_sp twice (store part once h (store part top l p))

  pub pushing-is : (p : Machine) (top l h : ℕ) → l ≡ low p.pc → h ≡ high p.pc → top ≡ sp p →
      kept part (pushing p top ((top + 65535) % 65536) ((top + 65534) % 65536) l h) ≡ kept part (pushed_pc part p)
  pushing-is p top l h low_is high_is top_is =
      ap (λ (a : ℕ). kept part (pushing p top a ((top + 65534) % 65536) l h)) (lowered top) ∙
      ap (λ (a : ℕ). kept part (pushing p top (minus top 1) a l h)) (lowered_twice top) ∙
      ap (λ (b : ℕ). kept part (pushing p top (minus top 1) (minus top 2) b h)) low_is ∙
      ap (λ (b : ℕ). kept part (pushing p top (minus top 1) (minus top 2) (low p.pc) b)) high_is ∙
      ap (λ (t : ℕ). kept part (pushing p t (minus t 1) (minus t 2) (low p.pc) (high p.pc))) top_is

  -- the stack pointer raised by 2, and pc set to a word
  abbrev pub popping : Machine → ℕ → ℕ → Machine
  popping p top word = with_pc (word % words_of part) (with_sp (plus top 2) p)

  -- the word above a stack pointer, its high byte first
  abbrev pub above : Machine → ℕ → ℕ
  above p top = load part (plus top 2) p + 256 * load part (plus top 1) p

  pub popping-is : (p : Machine) (top l h word : ℕ) → word ≡ l + 256 * h →
      l ≡ load part (plus top 2) p → h ≡ load part (plus top 1) p → top ≡ sp p →
      kept part (popping p top word) ≡ kept part (popped_pc part p)
  popping-is p top l h word word_is low_is high_is top_is =
      ap (λ (w : ℕ). kept part (popping p top w)) word_is ∙
      ap (λ (b : ℕ). kept part (popping p top (b + 256 * h))) low_is ∙
      ap (λ (b : ℕ). kept part (popping p top (load part (plus top 2) p + 256 * b))) high_is ∙
      ap (λ (t : ℕ). kept part (popping p t (above p t))) top_is
