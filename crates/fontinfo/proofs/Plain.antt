-- The information of a property list that tells none.
use Rattle.std.proofs.Common.{arith, refl}
use Rattle.std.proofs.lemmas.Fmt.{decimal_digit}
use Rattle.std.specs.Prelude.{◌≡◌, decimal, pos, negsuc, codes, None, [], ◌∷◌, Ok}
use Rattle.plist.specs.Values.{dict, no_entries}
use Rattle.fontinfo.specs.Classes.{classes_of, clipping_of, vendor_of}
use Rattle.fontinfo.specs.FontInfo.{info_of}
use Rattle.fontinfo.specs.Keys.{fixed_or_zero, number_if_there, number_or, text_if_there, text_or}
use Rattle.fontinfo.specs.Lines.{hhea_of, typo_of}
use Rattle.fontinfo.specs.Metrics.{heights_of, letters_of, metrics_of, part_of, units_of}
use Rattle.fontinfo.specs.Naming.{legal_of, names_of, naming_of, version_of}
use Rattle.fontinfo.specs.Tables.{os2_of, tables_of}
use Rattle.fontinfo.specs.Version.{version_text}
use Rattle.fontinfo.specs.Underlines.{underline_of}

first_version : version_text 0 0 ≡ codes "Version 0.000"
unfolding version_text
first_version =
    let zero : decimal 0 ≡ 48 ∷ [] = decimal_digit 0 (omega arith) in
    rw zero refl

pub plain_is : info_of (dict no_entries) ≡ Ok (record {
  units = pos 1000;
  ascender = pos 800;
  descender = negsuc 199;
  x_height = pos 500;
  cap_height = pos 700;
  italic = pos 0;
  family = codes "Untitled";
  style = codes "Regular";
  major = pos 0;
  minor = pos 0;
  copyright = None;
  version = codes "Version 0.000";
  hhea_ascender = pos 800;
  hhea_descender = negsuc 199;
  hhea_gap = pos 0;
  typo_ascender = pos 800;
  typo_descender = negsuc 199;
  typo_gap = pos 0;
  win_ascent = None;
  win_descent = None;
  weight = pos 400;
  width = pos 5;
  vendor = 32 ∷ 32 ∷ 32 ∷ 32 ∷ [];
  underline_at = negsuc 99;
  underline_size = pos 50;
})
unfolding info_of metrics_of units_of heights_of letters_of part_of naming_of names_of version_of legal_of tables_of hhea_of os2_of typo_of clipping_of classes_of vendor_of underline_of number_or number_if_there fixed_or_zero text_or text_if_there
plain_is = rw first_version refl
