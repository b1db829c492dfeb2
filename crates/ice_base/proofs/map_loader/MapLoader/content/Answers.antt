use Rattle.std.proofs.Common.{rules, ◌≡◌, ℕ, List, string_bytes, map, sym, ◌∙◌}
use Rattle.std.specs.Option.{option_copied, option_map}
use Rattle.std.specs.List.{find}
use Rattle.std.specs.Str.{bytes_eq}
use Rattle.ice_base.specs.MapLoader.{content_of}
use Rattle.ice_base.proofs.Lists.{find-map}
use Rattle.ice_base.proofs.map_loader.MapLoader.content.Goals as goal

pub returns : goal.returns
returns c =
    let pairs = c.self.inside.pairs.items in
    let name = c.args.name.now in
    let found : option_copied c.find_content.result ≡ option_map (λ pair. pair.1.items) (find (λ pair. bytes_eq (string_bytes pair.0) name) pairs) = search rules in
    let seen : content_of (map (λ pair. (string_bytes pair.0, pair.1.items)) pairs) name ≡ option_map (λ pair. pair.1.items) (find (λ pair. bytes_eq (string_bytes pair.0) name) pairs) =
    find-map (λ pair. (string_bytes pair.0, pair.1.items)) (λ (pair : List ℕ × List ℕ). bytes_eq pair.0 name) (λ (pair : List ℕ × List ℕ). pair.1) pairs in
    rw (← c.self.view_is) (found ∙ sym seen)
