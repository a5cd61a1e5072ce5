-- The value of one key of `fontinfo.plist` (UFO 3), or its fault. All faults are at 0, and the item is the key, but
-- for a value of the wrong kind and for units of the em, which have none, and for a tag, whose item is its text.
use Rattle.std.specs.Prelude.{ℕ, ◌≤◌, ℤ, pos, int_le, nat_le, ◌&&◌, List, [], Option, Some, None, Result, Ok, Err, if◌then◌else◌}
use Rattle.basics.specs.Reading.{◌>>=◌, spot_of}
use Rattle.basics.specs.declared.kinds.Kind.{Kind}
use Rattle.basics.specs.declared.kinds.Kind.TheVariants.{BadTag, NameLength, NotNumber, NotPlist, NotWhole, NumberRange}
use Rattle.basics.specs.declared.fault.Spot.{Spot}
use Rattle.fixpoint.specs.DecimalText.{fix16_of}
use Rattle.fixpoint.specs.Rounding.{round_up}
use Rattle.fixpoint.specs.declared.decimal.NumberFault.{NumberFault}
use Rattle.fixpoint.specs.declared.decimal.NumberFault.TheVariants as number
use Rattle.plist.specs.Values.{PlainValue, as_number, as_text, get}
use Rattle.fontinfo.specs.KeyNames.{key_name}
use Rattle.fontinfo.specs.declared.key.Key.{Key}
use Rattle.fontinfo.specs.declared.keys.Range.{Range}
use Rattle.font_text.specs.Tags.{tag_of}
use Rattle.font_text.specs.Utf16.{utf16_length}

-- a value of the wrong kind
abbrev pub wrong_kind : {A : Type 0} → Result A Spot
wrong_kind = Err (spot_of NotPlist [] 0 (pos 0))

abbrev pub of_kind : {A : Type 0} → Option A → Result A Spot
of_kind None = wrong_kind
of_kind (Some x) = Ok x

abbrev pub key_fault : {A : Type 0} → Kind → Key → Result A Spot
key_fault kind key = Err (spot_of kind (key_name key) 0 (pos 0))

-- what the key's value is read as, or what stands for it where the key is absent
abbrev pub by_key : {A : Type 0} → (PlainValue → Result A Spot) → A → Option PlainValue → Result A Spot
by_key reading default None = Ok default
by_key reading default (Some value) = reading value

-- ---- numbers

abbrev pub number_kind : NumberFault → Kind
number_kind number.NotNumber = NotNumber
number_kind number.NotWhole = NotWhole
number_kind number.NumberRange = NumberRange

abbrev pub number_or_fault : Key → Result ℤ NumberFault → Result ℤ Spot
number_or_fault key (Ok n) = Ok n
number_or_fault key (Err why) = key_fault (number_kind why) key

-- a number with 16 binary places, as its raw number
unfoldable pub fixed_of : Key → PlainValue → Result ℤ Spot
fixed_of key value = of_kind (as_number value) >>= λ text. number_or_fault key (fix16_of text)

-- the whole number nearest to it, a tie going up
unfoldable pub rounded_of : Key → PlainValue → Result ℤ Spot
rounded_of key value = fixed_of key value >>= λ raw. Ok (round_up raw 65536)

abbrev pub ranged : Range → Key → ℤ → Result ℤ Spot
ranged range key n = if int_le range.least n && int_le n range.greatest then Ok n else key_fault NumberRange key

unfoldable pub number_of : Range → Key → PlainValue → Result ℤ Spot
number_of range key value = rounded_of key value >>= λ n. ranged range key n

unfoldable pub number_or : Range → ℤ → Key → PlainValue → Result ℤ Spot
number_or range default key info = by_key (number_of range key) default (get (key_name key) info)

-- a number that may be absent
abbrev pub some_number_of : Range → Key → PlainValue → Result (Option ℤ) Spot
some_number_of range key value = number_of range key value >>= λ n. Ok (Some n)

unfoldable pub number_if_there : Range → Key → PlainValue → Result (Option ℤ) Spot
number_if_there range key info = by_key (some_number_of range key) None (get (key_name key) info)

unfoldable pub fixed_or_zero : Key → PlainValue → Result ℤ Spot
fixed_or_zero key info = by_key (fixed_of key) (pos 0) (get (key_name key) info)

-- ---- texts

-- a text of at most so many units of UTF-16
abbrev pub IsShort : ℕ → List ℕ → Type 0
IsShort most text = utf16_length text ≤ most

abbrev pub short : ℕ → Key → List ℕ → Result (List ℕ) Spot
short most key text = if nat_le (utf16_length text) most then Ok text else Err (spot_of NameLength (key_name key) 0 (pos (utf16_length text)))

unfoldable pub text_of : ℕ → Key → PlainValue → Result (List ℕ) Spot
text_of most key value = of_kind (as_text value) >>= λ text. short most key text

unfoldable pub text_or : ℕ → List ℕ → Key → PlainValue → Result (List ℕ) Spot
text_or most default key info = by_key (text_of most key) default (get (key_name key) info)

-- a text that may be absent
abbrev pub some_text_of : ℕ → Key → PlainValue → Result (Option (List ℕ)) Spot
some_text_of most key value = text_of most key value >>= λ text. Ok (Some text)

unfoldable pub text_if_there : ℕ → Key → PlainValue → Result (Option (List ℕ)) Spot
text_if_there most key info = by_key (some_text_of most key) None (get (key_name key) info)

abbrev pub tag_or_fault : List ℕ → Option (List ℕ) → Result (List ℕ) Spot
tag_or_fault text None = Err (spot_of BadTag text 0 (pos 0))
tag_or_fault text (Some tag) = Ok tag

unfoldable pub tag_value : PlainValue → Result (List ℕ) Spot
tag_value value = of_kind (as_text value) >>= λ text. tag_or_fault text (tag_of text)
