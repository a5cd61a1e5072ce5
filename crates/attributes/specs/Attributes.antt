-- Attributes of an element and the numbers in them: the value, or the first fault. The offset of a fault is that of the
-- element, and the item of a fault of an attribute is the attribute's name.
use Rattle.std.specs.Prelude.{ℕ, ℤ, pos, int_le, ◌≤ℤ◌, ◌&&◌, List, [], Option, Some, None, Result, Ok, Err, if◌then◌else◌}
use Rattle.fixpoint.specs.DecimalText.{fix16_of, whole_of}
use Rattle.fixpoint.specs.declared.decimal.NumberFault.{NumberFault}
use Rattle.fixpoint.specs.declared.decimal.NumberFault.TheVariants as number
use Rattle.markup_rules.specs.Tree.{Tree, at_of, attribute_of}
use Rattle.basics.specs.Reading.{◌>>=◌, spot_of}
use Rattle.basics.specs.declared.kinds.Kind.{Kind}
use Rattle.basics.specs.declared.kinds.Kind.TheVariants.{NotNumber, NotWhole, NumberRange, MissingAttribute}
use Rattle.basics.specs.declared.fault.Spot.{Spot}
use Rattle.attributes.specs.declared.limits.Limits.{Limits}

-- a fault of an attribute of the element at this offset
abbrev pub fault_at : {A : Type 0} → Kind → List ℕ → ℕ → Result A Spot
fault_at kind name at = Err (spot_of kind name at (pos 0))

-- a fault of the element, and one of an attribute of it
abbrev pub fault : {A : Type 0} → Kind → Tree → Result A Spot
fault kind tree = Err (spot_of kind [] (at_of tree) (pos 0))

abbrev pub attribute_fault : {A : Type 0} → Kind → List ℕ → Tree → Result A Spot
attribute_fault kind name tree = fault_at kind name (at_of tree)

-- ---- attributes that have to be there, and others

abbrev pub text_or_fault : List ℕ → ℕ → Option (List ℕ) → Result (List ℕ) Spot
text_or_fault name at None = fault_at MissingAttribute name at
text_or_fault name at (Some text) = Ok text

-- the text of an attribute that has to be there
unfoldable pub needed : List ℕ → Tree → Result (List ℕ) Spot
needed name tree = text_or_fault name (at_of tree) (attribute_of name tree)

-- what a reading makes of a text, where there is one
abbrev pub if_there : {A : Type 0} → (List ℕ → Result A Spot) → Option (List ℕ) → Result (Option A) Spot
if_there read None = Ok None
if_there read (Some text) = read text >>= λ value. Ok (Some value)

-- ---- the number that an attribute's text writes

abbrev pub number_kind : NumberFault → Kind
number_kind number.NotNumber = NotNumber
number_kind number.NotWhole = NotWhole
number_kind number.NumberRange = NumberRange

abbrev pub number_or_fault : List ℕ → ℕ → Result ℤ NumberFault → Result ℤ Spot
number_or_fault name at (Ok n) = Ok n
number_or_fault name at (Err why) = fault_at (number_kind why) name at

-- ---- decimal numbers, as raw numbers with 16 binary places

unfoldable pub decimal_in : List ℕ → Tree → List ℕ → Result ℤ Spot
decimal_in name tree text = number_or_fault name (at_of tree) (fix16_of text)

unfoldable pub decimal : List ℕ → Tree → Result ℤ Spot
decimal name tree = needed name tree >>= λ text. decimal_in name tree text

unfoldable pub optional_decimal : List ℕ → Tree → Result (Option ℤ) Spot
optional_decimal name tree = if_there (decimal_in name tree) (attribute_of name tree)

-- ---- whole numbers within limits

pub record IsWithin (limits : Limits) (number : ℤ) : Type 0 where
  pub least : limits.least ≤ℤ number
  pub greatest : number ≤ℤ limits.greatest

unfoldable pub ranged : Limits → List ℕ → Tree → ℤ → Result ℤ Spot
ranged limits name tree n =
    if int_le limits.least n && int_le n limits.greatest then Ok n else Err (spot_of limits.kind name (at_of tree) n)

unfoldable pub whole_in : Limits → List ℕ → Tree → List ℕ → Result ℤ Spot
whole_in limits name tree text = number_or_fault name (at_of tree) (whole_of text) >>= λ n. ranged limits name tree n

unfoldable pub whole : Limits → List ℕ → Tree → Result ℤ Spot
whole limits name tree = needed name tree >>= λ text. whole_in limits name tree text

unfoldable pub optional_whole : Limits → List ℕ → Tree → Result (Option ℤ) Spot
optional_whole limits name tree = if_there (whole_in limits name tree) (attribute_of name tree)
