-- What holds of the order of masters, and of the regions of masters in their order.
use Rattle.std.specs.Prelude.{◌≡◌, ℕ, ℤ, List, length}
use Rattle.std.specs.declared.cmp.Ordering.TheVariants.{Equal}
use Rattle.region_support.specs.MasterOrder.{compare_masters, AreMasters}
use Rattle.region_support.specs.Regions.{AreTriangular, regions_of}
use Rattle.region_support.specs.Sorting.{IsOrder}

-- two locations of equal length that tie are equal, whatever the masters are
abbrev pub KeysTellApart : Type 0
KeysTellApart = (locations : List (List ℤ)) (a b : List ℤ) → length a ≡ length b → compare_masters locations a b ≡ Equal → a ≡ b

-- locations have one order at most
abbrev pub OneOrder : Type 0
OneOrder = (locations : List (List ℤ)) (a b : List ℕ) → IsOrder locations a → IsOrder locations b → a ≡ b

-- at each master's location its own region is whole, and every later one has no influence
abbrev pub OwnOneLaterNothing : Type 0
OwnOneLaterNothing = (axes : ℕ) (locations : List (List ℤ)) → AreMasters axes locations → AreTriangular (regions_of locations) locations
