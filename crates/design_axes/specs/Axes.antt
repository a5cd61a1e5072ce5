-- The axes of a designspace document (Designspace, "axes"), or the first fault.
use Rattle.std.specs.Prelude.{◌≢◌, ℕ, pos, Bool, ◌&&◌, ◌||◌, nat_le, ◌≤◌, List, [], ◌∷◌, ◌++◌, length, codes, find, position, Option, Some, None, Result, Ok, Err, if◌then◌else◌}
use Rattle.std.specs.Str.{bytes_eq}
use Rattle.font_text.specs.Utf16.{utf16_length}
use Rattle.markup_rules.specs.Tree.{Tree, children_of, is_named}
use Rattle.basics.specs.Reading.{◌>>=◌, in_turn, spot_of}
use Rattle.basics.specs.declared.kinds.Kind.TheVariants.{CrossAxisMap, DuplicateAxis, NoAxes, TooManyAxes}
use Rattle.basics.specs.declared.fault.Spot.{Spot}
use Rattle.attributes.specs.Attributes.{fault}
use Rattle.design_axes.specs.Elements.{first_named, named}
use Rattle.design_axes.specs.Names.{identity_of, is_hidden, label_of}
use Rattle.design_axes.specs.Spots.{axis_fault}
use Rattle.design_axes.specs.Values.{mapping_of, user_limits}
use Rattle.design_axes.specs.declared.axis.Axis.{Axis}
use Rattle.design_axes.specs.declared.identity.Identity.{Identity}

-- ---- one axis, of which the earlier ones are read

-- an axis has this tag or this name
abbrev pub has_either : Identity → Axis → Bool
has_either identity axis = bytes_eq axis.tag identity.tag || bytes_eq axis.name identity.name

abbrev pub none_or_duplicate : ℕ → Option ℕ → Result (Unit {0}) Spot
none_or_duplicate axis None = Ok tt
none_or_duplicate axis (Some earlier) = axis_fault DuplicateAxis earlier axis

-- no earlier axis has its tag or its name
unfoldable pub distinct : List Axis → Identity → Result (Unit {0}) Spot
distinct earlier identity = none_or_duplicate (length earlier) (position (has_either identity) earlier)

-- the axis of an element
unfoldable pub axis_of : List Axis → Tree → Result Axis Spot
axis_of earlier tree = do
  identity ← identity_of (length earlier) tree
  user ← user_limits (length earlier) tree
  alone ← distinct earlier identity
  label ← label_of identity.name tree
  mapping ← mapping_of (length earlier) user tree
  Ok (record { tag = identity.tag; name = identity.name; label = label; hidden = is_hidden tree; map = mapping })

-- the earlier axes and one more
abbrev pub and_axis : List Axis → Tree → Result (List Axis) Spot
and_axis earlier tree = axis_of earlier tree >>= λ axis. Ok (earlier ++ axis ∷ [])

-- ---- all axes

abbrev pub no_axes : {A : Type 0} → Result A Spot
no_axes = Err (spot_of NoAxes [] 0 (pos 0))

-- there are one to eight
unfoldable pub counted : List Tree → Result (Unit {0}) Spot
counted [] = no_axes
counted (t ∷ ts) = if nat_le (length (t ∷ ts)) 8 then Ok tt else Err (spot_of TooManyAxes [] 0 (pos (length (t ∷ ts))))

abbrev pub has_children : List Tree → Bool
has_children [] = Bool.false
has_children (t ∷ ts) = Bool.true

-- a map that takes several axes together (Designspace, "mappings")
abbrev pub is_cross_map : Tree → Bool
is_cross_map tree = is_named (codes "mappings") tree && has_children (children_of tree)

abbrev pub none_or_cross_map : Option Tree → Result (Unit {0}) Spot
none_or_cross_map None = Ok tt
none_or_cross_map (Some tree) = fault CrossAxisMap tree

-- those of an element `axes`
unfoldable pub axes_in : Tree → Result (List Axis) Spot
axes_in tree = do
  some ← counted (named (codes "axis") tree)
  axes ← in_turn and_axis [] (named (codes "axis") tree)
  alone ← none_or_cross_map (find is_cross_map (children_of tree))
  Ok axes

-- those of the first such element; a document without one has no axes
abbrev pub axes_by : Option Tree → Result (List Axis) Spot
axes_by None = no_axes
axes_by (Some tree) = axes_in tree

-- the axes of a document, off its root element
unfoldable pub axes_of : Tree → Result (List Axis) Spot
axes_of designspace = axes_by (first_named (codes "axes") designspace)

-- its name and its label have at most 100 units of UTF-16
pub record IsShort (axis : Axis) : Type 0 where
  pub name : utf16_length axis.name ≤ 100
  pub label : utf16_length axis.label ≤ 100

-- one to eight
pub record AreFew (axes : List Axis) : Type 0 where
  pub some : 1 ≤ length axes
  pub few : length axes ≤ 8

-- they have neither one tag nor one name
pub record AreApart (a b : Axis) : Type 0 where
  pub tags : a.tag ≢ b.tag
  pub names : a.name ≢ b.name
