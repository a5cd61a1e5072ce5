-- The locations of sources within limits are normalised.
use Rattle.std.proofs.Common.{ℕ, List, [], ◌∷◌, All}
use Rattle.std.specs.List.{AllByRecursion}
use Rattle.std.proofs.lemmas.List.Elements.{All-head, All-tail}
use Rattle.region_support.specs.Regions.{AreNormalisedLocations, IsNormalised}
use Rattle.designspace.specs.Limits.{IsSourceOn}
use Rattle.designspace.specs.declared.source.Source.{Source}
use Rattle.font_sources.specs.Document.{locations_of}

by_recursion : {A : Type 0} (P : A → Type 0) (xs : List A) → All P xs → AllByRecursion P xs
by_recursion P [] all = tt
by_recursion P (x ∷ xs) all = (All-head P x xs all, by_recursion P xs (All-tail P x xs all))

pub normalised_sources : (axes : ℕ) (sources : List Source) → All (IsSourceOn axes) sources → AreNormalisedLocations (locations_of sources)
normalised_sources axes [] all = tt
normalised_sources axes (source ∷ sources) all =
    (by_recursion IsNormalised source.location.items (All-head (IsSourceOn axes) source sources all).normalised, normalised_sources axes sources (All-tail (IsSourceOn axes) source sources all))
