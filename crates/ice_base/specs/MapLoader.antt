-- A loader in memory, and what it has by a name.
use Rattle.std.specs.Prelude.{ℕ, List, Option}
use Rattle.std.specs.List.{find}
use Rattle.std.specs.Option.{option_map}
use Rattle.std.specs.Str.{bytes_eq}

-- the pairs of a name and its content, the failed calls so far
pub record LoaderState : Type 0 where
  pub pairs : List (List ℕ × List ℕ)
  pub faults : ℕ

-- the content with this name: of several pairs with one name the first counts
abbrev pub content_of : List (List ℕ × List ℕ) → List ℕ → Option (List ℕ)
content_of pairs name = option_map (λ pair. pair.1) (find (λ pair. bytes_eq pair.0 name) pairs)
