-- Attributes, one by one: which of them are kept.
use Rattle.std.proofs.Common.{◌≡◌, ℕ, ◌<◌, cond, List, [], ◌∷◌, ◌++◌, length, map, Option, Some, None, ap, ◌∙◌, arith}
use Rattle.std.specs.Prelude.{IfSome}
use Rattle.std.specs.List.{list_any}
use Rattle.std.specs.Str.{bytes_eq}
use Rattle.std.proofs.lemmas.Option.{some_pair_parts}
use Rattle.markup_rules.specs.Reading.{attribute_at}
use Rattle.markup_rules.proofs.Shorter.{attribute_shortens}
use Rattle.basics.specs.Optional.{◌>>=◌}

abbrev Named : Type 0
Named = List ℕ × List ℕ

abbrev pub names_of : List (List ℕ × List ℕ) → List (List ℕ)
names_of attributes = map (λ (a : List ℕ × List ℕ). a.0) attributes

-- the attributes kept so far and one more
abbrev pub with_attribute : List ℕ × List ℕ → List (List ℕ × List ℕ) → List (List ℕ × List ℕ)
with_attribute a kept = cond (list_any (bytes_eq a.0) (names_of kept)) kept (kept ++ a ∷ [])

shorter_found : (bytes : List ℕ) (found : Option (Named × List ℕ)) (a : Named) (rest : List ℕ) → IfSome found (λ r. length r.1 < length bytes) → (let o : Option (Named × List ℕ) = Some (a, rest) in found ≡ o) → length rest < length bytes
shorter_found bytes (Some p) a rest below e =
    let less : length p.1 < length bytes = below in
    let parts = some_pair_parts p.0 a p.1 rest e in
    omega (arith, ap length parts.1)
shorter_found bytes None a rest below e = absurd cc

pub attribute_shorter : (bytes : List ℕ) (a : Named) (rest : List ℕ) → attribute_at bytes ≡ Some (a, rest) → length rest < length bytes
attribute_shorter bytes a rest found = shorter_found bytes (attribute_at bytes) a rest (attribute_shortens bytes) found
