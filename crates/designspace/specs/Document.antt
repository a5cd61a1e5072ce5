-- The value of a designspace document (Designspace), or its first fault.
use Rattle.std.specs.Prelude.{ℕ, ◌==◌, ℤ, pos, negsuc, ◌||◌, List, [], codes, Option, Some, None, Result, Ok, Err, if◌then◌else◌}
use Rattle.std.specs.List.{before_first}
use Rattle.std.specs.Ordering.{int_eq}
use Rattle.fixpoint.specs.DecimalText.{whole_of}
use Rattle.fixpoint.specs.declared.decimal.NumberFault.{NumberFault}
use Rattle.markup_rules.specs.Tree.{Tree, attribute_of, is_named}
use Rattle.basics.specs.Reading.{◌>>=◌, spot_of}
use Rattle.basics.specs.declared.kinds.Kind.TheVariants.{FormatVersion, NotDesignspace}
use Rattle.basics.specs.declared.fault.Spot.{Spot}
use Rattle.attributes.specs.Attributes.{fault}
use Rattle.design_axes.specs.Axes.{axes_of}
use Rattle.designspace.specs.Instances.{instances_of}
use Rattle.designspace.specs.Rules.{rules_of}
use Rattle.designspace.specs.Sources.{sources_of}
use Rattle.designspace.specs.declared.document.Designspace.{Designspace}

-- ---- the format

-- a version that isn't a whole number is told as -1
abbrev pub version_or : Result ℤ NumberFault → ℤ
version_or (Ok n) = n
version_or (Err _) = negsuc 0

-- 46 is the point, before which the version stands
unfoldable pub version_in : List ℕ → ℤ
version_in text = version_or (whole_of (before_first (λ byte. byte == 46) text))

abbrev pub version_of : Option (List ℕ) → ℤ
version_of None = negsuc 0
version_of (Some text) = version_in text

-- Designspace 4 and 5 are read
abbrev pub is_version : ℤ → Result (Unit {0}) Spot
is_version version = if int_eq version (pos 4) || int_eq version (pos 5) then Ok tt else Err (spot_of FormatVersion [] 0 version)

unfoldable pub format_of : Tree → Result (Unit {0}) Spot
format_of tree = is_version (version_of (attribute_of (codes "format") tree))

-- ---- the document

-- what a document with this root, whose sources lie in this folder, tells
unfoldable pub parts_of : List ℕ → Tree → Result Designspace Spot
parts_of folder tree = do
  format ← format_of tree
  axes ← axes_of tree
  sources ← sources_of folder axes tree
  rules ← rules_of axes tree
  instances ← instances_of axes tree
  Ok (record { axes = axes; sources = sources; rules = rules.rules; last = rules.last; instances = instances })

unfoldable pub designspace_of : List ℕ → Tree → Result Designspace Spot
designspace_of folder tree = if is_named (codes "designspace") tree then parts_of folder tree else fault NotDesignspace tree
