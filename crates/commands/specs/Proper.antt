-- What holds of each command that words ask for.
use Rattle.std.specs.Prelude.{◌≡◌, ℤ, ◌≤◌, List, length, map, All}
use Rattle.region_support.specs.MasterOrder.{axes_of}
use Rattle.region_support.specs.Regions.{AreNormalisedLocations}
use Rattle.commands.specs.Command.{Command, Located, tuples, build}

abbrev pub locations_of_drawings : List Located → List (List ℤ)
locations_of_drawings located = map (λ (one : Located). one.at) located

-- At most 128 drawings, at locations of as many axes, 1 to 8, with coordinates from -1 to 1.
pub record AreLocated (drawings : List Located) : Type 0 where
  pub some_axes : 1 ≤ axes_of (locations_of_drawings drawings)
  pub few_axes : axes_of (locations_of_drawings drawings) ≤ 8
  pub few : length drawings ≤ 128
  pub same_axes : All (λ (located : Located). length located.at ≡ axes_of (locations_of_drawings drawings)) drawings
  pub normalised : AreNormalisedLocations (locations_of_drawings drawings)

abbrev pub IsProper : Command → Type 0
IsProper (tuples command) = AreLocated command.drawings
IsProper (build command) = Unit {0}
