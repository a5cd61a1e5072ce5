-- The tables as the file has them.
use Rattle.std.proofs.Common.{◌≡◌, ℕ, ℤ, pos, ◌+◌, ◌<◌, ◌≤◌, ◌^◌, Bool, true, false, List, [], ◌∷◌, ◌++◌, length, map, take, drop, Option, Some, None, Vec, Global, refl, sym, ap, ◌∙◌, arith}
use Rattle.std.proofs.lemmas.Bool.{le-leb}
use Rattle.std.specs.Prelude.{if◌then◌else◌, is_some, nat_eq, nat_le, option_map}
use Rattle.std.specs.List.{AllByRecursion, concat}
use Rattle.basics.specs.Optional.{◌>>=◌}
use Rattle.be_bytes.specs.Reading.{int16, prefix_of, uint16, uint32}
use Rattle.be_bytes.specs.declared.field.Field.TheVariants.{Uint8}
use Rattle.font_build.specs.FontReading.{form_of, tags_in, glyph_count_in, long_offsets_in, metric_count_in}
use Rattle.font_build.specs.FontTags.{font_tags, AVAR, CMAP, FVAR, GLYF, GSUB, GVAR, HHEA, HMTX, HVAR, LOCA, MAXP, NAME, OS2, POST}
use Rattle.font_build.specs.TableSteps.{gsub_slices, plain_slices_of, slices_of}
use Rattle.font_build.specs.declared.tables.Tables.{Tables}
use Rattle.plain_tables.specs.FixedFields.{AreRead}
use Rattle.plain_tables.specs.FontHeader.{head_fields, head_of, maxp_fields, maxp_of}
use Rattle.plain_tables.specs.HorizontalMetrics.{hhea_fields, hhea_of}
use Rattle.plain_tables.specs.declared.facts.Facts.{Facts}
use Rattle.sfnt_write.specs.FontFile.{HEAD, TableRecord, table_in}
use Rattle.sfnt_write.specs.Holds.{HasTable, HoldsTables, IsHeadWith}
use Rattle.sfnt_write.specs.Layout.{ArePieces, adjustment_of, filled, piece_of, plain_file, records_from, tables_offset}
use Rattle.sfnt_write.specs.Steps.{FitsTag}
use Rattle.sfnt_write.specs.Tables.{CanBeFont, IsPlainHead, Rise, Slice, bytes_of, total_size}
use Rattle.sfnt_write.proofs.DirectoryReading.{directory_read}
use Rattle.sfnt_write.proofs.Lift.{head_is_given}

-- ---- the list of tables

-- the table of another tag is that of the others
behind : (gsub : Option (Vec ℕ Global)) (others : List Slice) (tag : ℕ) → nat_eq GSUB tag ≡ false → bytes_of tag (gsub_slices gsub ++ others) ≡ bytes_of tag others
behind None others tag differs = refl
behind (Some gsub) others tag differs = ap (λ (same : Bool). if same then Some gsub.items else bytes_of tag others) differs

-- the table of substitutions is the one that was made, or none
gsub_among : (gsub : Option (Vec ℕ Global)) (tables : Tables) → bytes_of GSUB (gsub_slices gsub ++ plain_slices_of tables) ≡ option_map (λ own. own.items) gsub
gsub_among None tables = refl
gsub_among (Some gsub) tables = refl

plain_rise : (tag : ℕ) (tables : Tables) → tag ≤ HVAR → Rise tag (plain_slices_of tables)
plain_rise tag tables least =
    (least, (omega arith, (omega arith, (omega arith, (omega arith, (omega arith, (omega arith, (omega arith, (omega arith, (omega arith, (omega arith, (omega arith, (omega arith, (omega arith, tt))))))))))))))

tags_rise : (gsub : Option (Vec ℕ Global)) (tables : Tables) → Rise 0 (gsub_slices gsub ++ plain_slices_of tables)
tags_rise None tables = plain_rise 0 tables (omega arith)
tags_rise (Some gsub) tables = (omega arith, plain_rise (GSUB + 1) tables (omega arith))

few_tables : (gsub : Option (Vec ℕ Global)) (tables : Tables) → length (gsub_slices gsub ++ plain_slices_of tables) ≤ 32
few_tables None tables = omega arith
few_tables (Some gsub) tables = omega arith

pub can_be_font : (tables : Tables) → IsPlainHead tables.fixed.head.items → total_size (slices_of tables) < 2 ^ 31 → CanBeFont (slices_of tables)
can_be_font tables plain small = record {
  rise = tags_rise tables.gsub tables;
  few = few_tables tables.gsub tables;
  small = small;
  head = tables.fixed.head.items;
  head_there = behind tables.gsub (plain_slices_of tables) HEAD refl;
  head_plain = plain;
}

-- ---- the tags of the table directory

plain_tags_fit : (tables : Tables) → AllByRecursion FitsTag (plain_slices_of tables)
plain_tags_fit tables =
    (omega arith, (omega arith, (omega arith, (omega arith, (omega arith, (omega arith, (omega arith, (omega arith, (omega arith, (omega arith, (omega arith, (omega arith, (omega arith, (omega arith, tt))))))))))))))

tags_fit : (gsub : Option (Vec ℕ Global)) (tables : Tables) → AllByRecursion FitsTag (gsub_slices gsub ++ plain_slices_of tables)
tags_fit None tables = plain_tags_fit tables
tags_fit (Some gsub) tables = (omega arith, plain_tags_fit tables)

-- a record has the tag of its table
records_tags : (offset : ℕ) (slices : List Slice) → map (λ (own : TableRecord). own.tag) (records_from offset slices) ≡ map (λ (own : Slice). own.tag) slices
records_tags offset [] = refl
records_tags offset (own ∷ slices) = ap (λ (tags : List ℕ). own.tag ∷ tags) (records_tags (offset + length (filled own.bytes)) slices)

tags_are : (gsub : Option (Vec ℕ Global)) (tables : Tables) → map (λ (own : Slice). own.tag) (gsub_slices gsub ++ plain_slices_of tables) ≡ font_tags (is_some gsub)
tags_are None tables = refl
tags_are (Some gsub) tables = refl

pub tags_read : (tables : Tables) (pieces : List (List ℕ)) → total_size (slices_of tables) < 2 ^ 31 → ArePieces (slices_of tables) pieces → tags_in (concat pieces) ≡ Some (font_tags (is_some tables.gsub))
tags_read tables pieces small are =
    let slices : List Slice = slices_of tables in
    let bytes : List (List ℕ) = map (piece_of (adjustment_of (plain_file are.search slices))) slices in
    ap (λ (some : List (List ℕ)). tags_in (concat some)) are.pieces_are
    ∙ ap (λ (directory : Option (List TableRecord)). directory >>= λ records. Some (map (λ (own : TableRecord). own.tag) records)) (directory_read are.search slices (concat bytes) (few_tables tables.gsub tables) small (tags_fit tables.gsub tables))
    ∙ ap (λ (tags : List ℕ). Some tags) (records_tags (tables_offset (length slices)) slices ∙ tags_are tables.gsub tables)

-- ---- the tables

-- each table is in the file, head but for its adjustment, and that of substitutions where it is there
pub record InFile (tables : Tables) (file : List ℕ) : Type 0 where
  pub gsub : table_in file GSUB ≡ option_map (λ gsub. gsub.items) tables.gsub
  pub hvar : table_in file HVAR ≡ Some tables.hvar.items
  pub os2 : table_in file OS2 ≡ Some tables.fixed.os2.items
  pub avar : table_in file AVAR ≡ Some tables.design.avar.items
  pub cmap : table_in file CMAP ≡ Some tables.cmap.items
  pub fvar : table_in file FVAR ≡ Some tables.design.fvar.items
  pub glyf : table_in file GLYF ≡ Some tables.glyf.items
  pub gvar : table_in file GVAR ≡ Some tables.varied.bytes.items
  pub adjustment : ℕ
  pub head : HasTable file HEAD (IsHeadWith adjustment tables.fixed.head.items)
  pub hhea : table_in file HHEA ≡ Some tables.fixed.hhea.items
  pub hmtx : table_in file HMTX ≡ Some tables.fixed.hmtx.items
  pub loca : table_in file LOCA ≡ Some tables.loca.items
  pub maxp : table_in file MAXP ≡ Some tables.fixed.maxp.items
  pub name : table_in file NAME ≡ Some tables.design.name.items
  pub post : table_in file POST ≡ Some tables.fixed.post.items

pub in_file : (tables : Tables) (file : List ℕ) → HoldsTables (slices_of tables) file → IsPlainHead tables.fixed.head.items → InFile tables file
in_file tables file holds plain = record {
  gsub = holds.others GSUB (λ same. absurd (omega arith)) ∙ gsub_among tables.gsub tables;
  hvar = holds.others HVAR (λ same. absurd (omega arith)) ∙ behind tables.gsub (plain_slices_of tables) HVAR refl;
  os2 = holds.others OS2 (λ same. absurd (omega arith)) ∙ behind tables.gsub (plain_slices_of tables) OS2 refl;
  avar = holds.others AVAR (λ same. absurd (omega arith)) ∙ behind tables.gsub (plain_slices_of tables) AVAR refl;
  cmap = holds.others CMAP (λ same. absurd (omega arith)) ∙ behind tables.gsub (plain_slices_of tables) CMAP refl;
  fvar = holds.others FVAR (λ same. absurd (omega arith)) ∙ behind tables.gsub (plain_slices_of tables) FVAR refl;
  glyf = holds.others GLYF (λ same. absurd (omega arith)) ∙ behind tables.gsub (plain_slices_of tables) GLYF refl;
  gvar = holds.others GVAR (λ same. absurd (omega arith)) ∙ behind tables.gsub (plain_slices_of tables) GVAR refl;
  adjustment = holds.adjustment;
  head = head_is_given (slices_of tables) file tables.fixed.head.items holds plain (behind tables.gsub (plain_slices_of tables) HEAD refl);
  hhea = holds.others HHEA (λ same. absurd (omega arith)) ∙ behind tables.gsub (plain_slices_of tables) HHEA refl;
  hmtx = holds.others HMTX (λ same. absurd (omega arith)) ∙ behind tables.gsub (plain_slices_of tables) HMTX refl;
  loca = holds.others LOCA (λ same. absurd (omega arith)) ∙ behind tables.gsub (plain_slices_of tables) LOCA refl;
  maxp = holds.others MAXP (λ same. absurd (omega arith)) ∙ behind tables.gsub (plain_slices_of tables) MAXP refl;
  name = holds.others NAME (λ same. absurd (omega arith)) ∙ behind tables.gsub (plain_slices_of tables) NAME refl;
  post = holds.others POST (λ same. absurd (omega arith)) ∙ behind tables.gsub (plain_slices_of tables) POST refl;
}

-- ---- fields that others are read by

count_read : (facts : Facts) (bytes : List ℕ) → AreRead (maxp_of facts) bytes → uint16 (drop 4 bytes) ≡ Some (length facts.names)
unfolding maxp_fields
count_read facts bytes are = are 1 (0, Uint8 0) (omega arith)

pub count_is : (tables : Tables) (file : List ℕ) (facts : Facts) → InFile tables file → AreRead (maxp_of facts) tables.fixed.maxp.items → glyph_count_in file ≡ Some (length facts.names)
count_is tables file facts own are = ap (λ (maxp : Option (List ℕ)). maxp >>= λ bytes. uint16 (drop 4 bytes)) own.maxp ∙ count_read facts tables.fixed.maxp.items are

metrics_read : (facts : Facts) (bytes : List ℕ) → AreRead (hhea_of facts) bytes → uint16 (drop 34 bytes) ≡ Some (length facts.names)
unfolding hhea_fields
metrics_read facts bytes are = are 17 (0, Uint8 0) (omega arith)

pub metric_count_is : (tables : Tables) (file : List ℕ) (facts : Facts) → InFile tables file → AreRead (hhea_of facts) tables.fixed.hhea.items → metric_count_in file ≡ Some (length facts.names)
metric_count_is tables file facts own are = ap (λ (hhea : Option (List ℕ)). hhea >>= λ bytes. uint16 (drop 34 bytes)) own.hhea ∙ metrics_read facts tables.fixed.hhea.items are

form_read : (facts : Facts) (bytes : List ℕ) → AreRead (head_of facts) bytes → int16 (drop 50 bytes) ≡ Some (if facts.long then pos 1 else pos 0)
unfolding head_fields
form_read facts bytes are = are 16 (0, Uint8 0) (omega arith)

form_is : (long : Bool) → form_of (if long then pos 1 else pos 0) ≡ Some long
form_is true = refl
form_is false = refl

pub long_is : (tables : Tables) (file : List ℕ) (facts : Facts) → InFile tables file → AreRead (head_of facts) tables.fixed.head.items → long_offsets_in file ≡ Some facts.long
long_is tables file facts own are =
    ap (λ (head : Option (List ℕ)). head >>= λ bytes. int16 (drop 50 bytes) >>= form_of) own.head.there
    ∙ ap (λ (bytes : List ℕ). int16 bytes >>= form_of) (own.head.meant.after 50 (omega arith))
    ∙ ap (λ (form : Option ℤ). form >>= form_of) (form_read facts tables.fixed.head.items are)
    ∙ form_is facts.long

-- ---- a field by its own bytes alone

pub uint16_by : (bytes : List ℕ) → uint16 bytes ≡ (prefix_of 2 bytes >>= uint16)
uint16_by [] = refl
uint16_by (a ∷ []) = refl
uint16_by (a ∷ b ∷ rest) =
    let there : nat_le 2 (length (a ∷ b ∷ rest)) ≡ true = le-leb 2 (length (a ∷ b ∷ rest)) (omega arith) in
    sym (ap (λ (t : Bool). (if t then Some (take 2 (a ∷ b ∷ rest)) else None) >>= uint16) there)

pub uint32_by : (bytes : List ℕ) → uint32 bytes ≡ (prefix_of 4 bytes >>= uint32)
uint32_by [] = refl
uint32_by (a ∷ []) = refl
uint32_by (a ∷ b ∷ []) = refl
uint32_by (a ∷ b ∷ c ∷ []) = refl
uint32_by (a ∷ b ∷ c ∷ d ∷ rest) =
    let there : nat_le 4 (length (a ∷ b ∷ c ∷ d ∷ rest)) ≡ true = le-leb 4 (length (a ∷ b ∷ c ∷ d ∷ rest)) (omega arith) in
    sym (ap (λ (t : Bool). (if t then Some (take 4 (a ∷ b ∷ c ∷ d ∷ rest)) else None) >>= uint32) there)
