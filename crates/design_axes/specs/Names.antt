-- What names an axis (Designspace, "axis" and "labelname"): its tag, its name and its label, or the first fault.
use Rattle.std.specs.Prelude.{ℕ, pos, Bool, false, ◌&&◌, ◌||◌, nat_le, List, codes, find, Option, Some, None, Result, Ok, Err, if◌then◌else◌}
use Rattle.std.specs.Str.{bytes_eq}
use Rattle.font_text.specs.Tags.{tag_of}
use Rattle.font_text.specs.Utf16.{utf16_length}
use Rattle.markup_rules.specs.Tree.{Tree, at_of, attribute_of, children_of, is_named, text_of}
use Rattle.basics.specs.Reading.{◌>>=◌, spot_of}
use Rattle.basics.specs.declared.kinds.Kind.TheVariants.{BadTag, DiscreteAxis, NameLength}
use Rattle.basics.specs.declared.fault.Spot.{Spot}
use Rattle.attributes.specs.Attributes.{needed}
use Rattle.design_axes.specs.Spots.{axis_fault}
use Rattle.design_axes.specs.declared.identity.Identity.{Identity}

-- ---- texts of limited length

-- a text of the element of at most 100 units of UTF-16; the item of its fault is what the text is of
unfoldable pub short_name : List ℕ → Tree → List ℕ → Result (List ℕ) Spot
short_name item tree text =
    if nat_le (utf16_length text) 100 then Ok text else Err (spot_of NameLength item (at_of tree) (pos (utf16_length text)))

-- ---- the tag and the name

abbrev pub tag_or_fault : Tree → List ℕ → Option (List ℕ) → Result (List ℕ) Spot
tag_or_fault tree text None = Err (spot_of BadTag text (at_of tree) (pos 0))
tag_or_fault tree text (Some tag) = Ok tag

unfoldable pub tag_in : Tree → Result (List ℕ) Spot
tag_in tree = needed (codes "tag") tree >>= λ text. tag_or_fault tree text (tag_of text)

unfoldable pub name_in : Tree → Result (List ℕ) Spot
name_in tree = needed (codes "name") tree >>= λ text. short_name (codes "name") tree text

-- the axis has a range of values, and no single ones
abbrev pub ranging : ℕ → Option (List ℕ) → Result (Unit {0}) Spot
ranging axis None = Ok tt
ranging axis (Some values) = axis_fault DiscreteAxis axis 0

unfoldable pub identity_of : ℕ → Tree → Result Identity Spot
identity_of axis tree = do
  continuous ← ranging axis (attribute_of (codes "values") tree)
  tag ← tag_in tree
  name ← name_in tree
  Ok (record { tag = tag; name = name })

-- ---- the label

abbrev pub is_in_english : Option (List ℕ) → Bool
is_in_english None = false
is_in_english (Some language) = bytes_eq language (codes "en")

-- a `labelname` in English
abbrev pub is_label : Tree → Bool
is_label tree = is_named (codes "labelname") tree && is_in_english (attribute_of (codes "xml:lang") tree)

-- the text of the first one, or the name where there is none
abbrev pub label_by : List ℕ → Option Tree → Result (List ℕ) Spot
label_by name None = Ok name
label_by name (Some tree) = short_name (codes "labelname") tree (text_of tree)

unfoldable pub label_of : List ℕ → Tree → Result (List ℕ) Spot
label_of name tree = label_by name (find is_label (children_of tree))

-- ---- whether applications show the axis

abbrev pub is_set : Option (List ℕ) → Bool
is_set None = false
is_set (Some text) = bytes_eq text (codes "1") || bytes_eq text (codes "true")

abbrev pub is_hidden : Tree → Bool
is_hidden tree = is_set (attribute_of (codes "hidden") tree)
