-- The rest of what the table `OS/2` says: where glyphs are cut off, the classes of weight and width, and the vendor.
use Rattle.std.specs.Prelude.{ℕ, pos, List, [], ◌∷◌, IfSome, Result, Ok}
use Rattle.basics.specs.Reading.{◌>>=◌}
use Rattle.basics.specs.declared.fault.Spot.{Spot}
use Rattle.plist.specs.Values.{PlainValue, get}
use Rattle.fontinfo.specs.declared.classes.Classes.{Classes}
use Rattle.fontinfo.specs.declared.classes.Clipping.{Clipping}
use Rattle.fontinfo.specs.declared.key.Key.TheVariants as key
use Rattle.fontinfo.specs.KeyNames.{key_name}
use Rattle.fontinfo.specs.Keys.{by_key, number_if_there, number_or, tag_value}
use Rattle.fontinfo.specs.Ranges as range
use Rattle.fontinfo.specs.Ranges.{IsWithin}

unfoldable pub clipping_of : PlainValue → Result Clipping Spot
clipping_of info = do
  ascent ← number_if_there range.height key.WinAscent info
  descent ← number_if_there range.height key.WinDescent info
  Ok (record { ascent = ascent; descent = descent })

-- four spaces where it is absent
unfoldable pub vendor_of : PlainValue → Result (List ℕ) Spot
vendor_of info = by_key tag_value (32 ∷ 32 ∷ 32 ∷ 32 ∷ []) (get (key_name key.VendorId) info)

unfoldable pub classes_of : PlainValue → Result Classes Spot
classes_of info = do
  weight ← number_or range.weight (pos 400) key.WeightClass info
  width ← number_or range.width (pos 5) key.WidthClass info
  vendor ← vendor_of info
  Ok (record { weight = weight; width = width; vendor = vendor })

pub record IsClippingWithin (clipping : Clipping) : Type 0 where
  pub ascent_within : IfSome clipping.ascent (IsWithin range.height)
  pub descent_within : IfSome clipping.descent (IsWithin range.height)

pub record AreClassesWithin (classes : Classes) : Type 0 where
  pub weight_within : IsWithin range.weight classes.weight
  pub width_within : IsWithin range.width classes.width
