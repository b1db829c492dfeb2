-- Where the first line of bytes ends.
use Rattle.std.proofs.Common.{◌≡◌, ℕ, suc, ◌+◌, ◌<◌, ◌≤◌, List, [], ◌∷◌, ◌++◌, length, refl, sym, ap, ap₂, ◌∙◌, arith}
use Rattle.std.specs.Prelude.{◌≢◌}
use Rattle.std.proofs.lemmas.List.Elements.{All-head, All-tail}
use Rattle.shell_spec.specs.Words.{line_feed}
use Rattle.shell_spec.specs.Text.{IsOpen}

first_is : (x : ℕ) (xs : List ℕ) → IsOpen (x ∷ xs) → x ≡ line_feed → ⊥
first_is x xs open_ = All-head (λ b. b ≢ line_feed) x xs open_

rest_is : (x : ℕ) (xs : List ℕ) → IsOpen (x ∷ xs) → IsOpen xs
rest_is x xs open_ = All-tail (λ b. b ≢ line_feed) x xs open_

heads : (x y : ℕ) (xs ys : List ℕ) → x ∷ xs ≡ y ∷ ys → x ≡ y
heads x y xs ys e = cc

tails : (x y : ℕ) (xs ys : List ℕ) → x ∷ xs ≡ y ∷ ys → xs ≡ ys
tails x y xs ys e = cc

-- bytes in which no line ends hold no line feed
pub no_feed : (a b more : List ℕ) → IsOpen a → a ≡ b ++ line_feed ∷ more → ⊥
no_feed [] [] more open_ e = cc
no_feed [] (y ∷ b) more open_ e = cc
no_feed (x ∷ a) [] more open_ e = first_is x a open_ (heads x line_feed a more e)
no_feed (x ∷ a) (y ∷ b) more open_ e = no_feed a b more (rest_is x a open_) (tails x y a (b ++ line_feed ∷ more) e)

-- the first line of bytes is one
pub one_text : (a b more other : List ℕ) → IsOpen a → IsOpen b → a ++ line_feed ∷ more ≡ b ++ line_feed ∷ other →
    (a ≡ b) × (more ≡ other)
one_text [] [] more other open_a open_b e = (refl, tails line_feed line_feed more other e)
one_text [] (y ∷ b) more other open_a open_b e =
    absurd (first_is y b open_b (sym (heads line_feed y more (b ++ line_feed ∷ other) e)))
one_text (x ∷ a) [] more other open_a open_b e =
    absurd (first_is x a open_a (heads x line_feed (a ++ line_feed ∷ more) other e))
one_text (x ∷ a) (y ∷ b) more other open_a open_b e =
    let rest = one_text a b more other (rest_is x a open_a) (rest_is y b open_b)
    (tails x y (a ++ line_feed ∷ more) (b ++ line_feed ∷ other) e) in
    (ap₂ (λ (n : ℕ) (l : List ℕ). n ∷ l) (heads x y (a ++ line_feed ∷ more) (b ++ line_feed ∷ other) e) rest.0, rest.1)

-- bytes in which no line ends are no longer than the first line
pub no_longer : (a b more other : List ℕ) → IsOpen a → a ++ more ≡ b ++ line_feed ∷ other → length a ≤ length b
no_longer [] b more other open_ e = omega arith
no_longer (x ∷ a) [] more other open_ e = absurd (first_is x a open_ (heads x line_feed (a ++ more) other e))
no_longer (x ∷ a) (y ∷ b) more other open_ e =
    omega (arith, no_longer a b more other (rest_is x a open_) (tails x y (a ++ more) (b ++ line_feed ∷ other) e))
