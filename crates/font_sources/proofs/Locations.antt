-- The locations of the sources, and the number of the default source.
use Rattle.std.proofs.Common.{◌≡◌, ◌<◌, ℕ, ℤ, List, [], ◌∷◌, length, get_or, sym, ◌∙◌, ap, subst, arith}
use Rattle.std.specs.Prelude.{All}
use Rattle.std.proofs.lemmas.List.{get_or-map, length-map}
use Rattle.arrayvec.specs.ArrayVec.{ArrayVec, array_vec_len}
use Rattle.region_support.specs.Coordinates.{coordinates_of}
use Rattle.region_support.specs.MasterOrder.{axes_of}
use Rattle.region_support.specs.Sorting.{IsOrder}
use Rattle.region_support.proofs.LocationLemmas.{number_below, same_axes}
use Rattle.designspace.specs.Limits.{IsSourceOn}
use Rattle.designspace.specs.declared.source.Source.{Source}
use Rattle.font_sources.specs.Document.{locations_of}
use Rattle.font_sources.specs.Sources.{no_source}

-- every location has as many axes as the first
pub lengths_of : (axes : ℕ) (sources : List Source) (locations : List (ArrayVec ℤ)) → coordinates_of locations ≡ locations_of sources
    → All (IsSourceOn axes) sources → All (λ at. array_vec_len at ≡ axes_of (coordinates_of locations)) locations
lengths_of axes sources locations same each =
    same_axes axes locations
    (λ k at below.
    let inside : k < length sources = omega (arith, simp length-map at (ap length same)) in
    let here : (get_or locations k at).items ≡ (get_or sources k no_source).location.items =
    sym (get_or-map (λ (at : ArrayVec ℤ). at.items) locations k at [] below) ∙ (ap (λ (all : List (List ℤ)). get_or all k []) same ∙ get_or-map (λ (source : Source). source.location.items) sources k no_source [] inside) in
    ap length here ∙ (each k no_source inside).coordinates)

-- there is a first number
first_number : (locations : List (List ℤ)) (order : List ℕ) → IsOrder locations order → 0 < length order
first_number locations [] is = absurd is.rising.default_first
first_number locations (number ∷ order) is = omega arith

pub default_below : (sources : List Source) (order : List ℕ) → IsOrder (locations_of sources) order → get_or order 0 0 < length sources
default_below sources order is =
    let below : get_or order 0 0 < length (locations_of sources) = number_below (locations_of sources) order is 0 0 (first_number (locations_of sources) order is) in
    simp length-map at below
