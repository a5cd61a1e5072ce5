-- The table is read back as it was written, and means what it was made of.
use Rattle.std.proofs.Common.{◌≡◌, ℕ, ℤ, ◌+◌, ◌<◌, ◌≤◌, Bool, true, false, List, [], ◌∷◌, ◌++◌, length, map, drop, Some, refl, sym, ap, ◌∙◌, arith}
use Rattle.std.proofs.lemmas.List.{drop-drop, drop_at, length-map}
use Rattle.std.proofs.lemmas.List.Elements.{All-from_recursion, recursion_from_All}
use Rattle.std.specs.Prelude.{All, codes, nat_eq}
use Rattle.std.specs.List.{AllByRecursion}
use Rattle.be_bytes.specs.Fields.{fields_bytes}
use Rattle.be_bytes.specs.Reading.{uint16, uint32}
use Rattle.be_bytes.proofs.FieldLemmas.{uint32-field}
use Rattle.be_bytes.proofs.RecordLemmas.{each_of}
use Rattle.region_support.specs.Regions.{IsNormalised}
use Rattle.rule_boxes.specs.declared.cell.Cell.{Cell}
use Rattle.rule_boxes.specs.Cells.{IsLocation, lists_at}
use Rattle.rule_boxes.specs.Substitution.{first_list, substituted}
use Rattle.feature_var.specs.Features.{Feature, features_in, scripts_in}
use Rattle.feature_var.specs.Layout.{feature_fields, header_fields, in_glyph_order, lookup_list_bytes, script_fields, table_bytes, variations_bytes, written_table}
use Rattle.feature_var.specs.Lookups.{lookups_in}
use Rattle.feature_var.specs.Meaning.{AreWritable, IsTableOf, IsWritableCell, MeansSubstitutions, axes_of, feature_tag}
use Rattle.feature_var.specs.Table.{Substitutions, act, listed_by, matching, substitute, substitutions_in}
use Rattle.feature_var.specs.Variations.{Variation, variations_in}
use Rattle.feature_var.proofs.Acting.{AreNumbers, acts}
use Rattle.feature_var.proofs.FeatureReading.{features_back, scripts_back}
use Rattle.feature_var.proofs.LookupReading.{lookups_back, lookups_small}
use Rattle.feature_var.proofs.Matching.{IsBoxOn, first_listed, matching_lists, of_first_list}
use Rattle.feature_var.specs.Limits.{IsGlyphPair}
use Rattle.feature_var.proofs.SingleReading.{AreSingle}
use Rattle.feature_var.proofs.VariationReading.{IsBlockOf, above_zero, variation_of, variations_back}
use Rattle.feature_var.proofs.WritableCells.{blocks_are, cell_box, cell_numbers, cells_axes, each_cell, each_words, singles_are}

-- ---- reading

read_table : (bytes : List ℕ) (place : ℕ) (feature : Feature) (lookups : List (List (ℕ × ℕ))) (variations : List Variation) → uint16 bytes ≡ Some 1 → uint16 (drop 2 bytes) ≡ Some 1 → uint16 (drop 4 bytes) ≡ Some 14 → uint16 (drop 6 bytes) ≡ Some 34 → uint16 (drop 8 bytes) ≡ Some 46
    → uint32 (drop 10 bytes) ≡ Some place → nat_eq place 0 ≡ false → scripts_in (drop 14 bytes) ≡ Some (record { tag = codes "DFLT"; features = 0 ∷ [] } ∷ []) → features_in (drop 34 bytes) ≡ Some (feature ∷ []) → lookups_in (drop 46 bytes) ≡ Some lookups → variations_in (drop place bytes) ≡ Some variations
    → substitutions_in bytes ≡ Some (record { feature = feature; lookups = lookups; variations = variations })
read_table bytes place feature lookups variations a b c d e f g h i j k = rw (a, b, c, d, e, f, g, h, i, j, k) refl

-- what is read
abbrev table_of : List ℕ → List Cell → List (List (ℕ × ℕ)) → Substitutions
table_of tag cells lists = record { feature = record { tag = tag; lookups = [] }; lookups = lists; variations = map variation_of cells }

letters_back : (a b c d : ℕ) (cells : List Cell) (lists : List (List (ℕ × ℕ))) → length lists ≤ 64 → AllByRecursion AreSingle lists → length cells ≤ 32768 → AllByRecursion IsBlockOf cells → substitutions_in (table_bytes (a ∷ b ∷ c ∷ d ∷ []) cells lists) ≡ Some (table_of (a ∷ b ∷ c ∷ d ∷ []) cells lists)
unfolding header_fields script_fields feature_fields
letters_back a b c d cells lists few_lists singles few_cells blocks =
    let letters : List ℕ = a ∷ b ∷ c ∷ d ∷ [] in
    let bytes : List ℕ = table_bytes letters cells lists in
    let lookups : List ℕ = lookup_list_bytes lists in
    let variations : List ℕ = variations_bytes cells in
    let place : ℕ = 46 + length lookups in
    let behind : List ℕ = fields_bytes (feature_fields letters) ++ (lookups ++ variations) in
    let there : drop place bytes ≡ variations = sym (drop-drop (length lookups) 46 bytes) ∙ drop_at lookups variations (length lookups) refl in
    read_table bytes place (record { tag = letters; lookups = [] }) lists (map variation_of cells) refl refl refl refl refl
    (uint32-field place (fields_bytes script_fields ++ behind) (omega (arith, lookups_small lists few_lists singles)))
    (above_zero place (omega arith))
    (scripts_back behind)
    (features_back a b c d (lookups ++ variations))
    (lookups_back lists variations few_lists singles)
    (ap variations_in there ∙ variations_back cells few_cells blocks)

tagged_back : (last : Bool) (cells : List Cell) (lists : List (List (ℕ × ℕ))) → length lists ≤ 64 → AllByRecursion AreSingle lists → length cells ≤ 32768 → AllByRecursion IsBlockOf cells → substitutions_in (table_bytes (feature_tag last) cells lists) ≡ Some (table_of (feature_tag last) cells lists)
tagged_back true cells lists few_lists singles few_cells blocks = letters_back 114 99 108 116 cells lists few_lists singles few_cells blocks
tagged_back false cells lists few_lists singles few_cells blocks = letters_back 114 118 114 110 cells lists few_lists singles few_cells blocks

-- ---- meaning

module _ (cells : List Cell) (subs : List (List (ℕ × ℕ))) (are : AreWritable cells subs) where
  matching_are : (at : List ℤ) → IsLocation (axes_of cells) at → map (λ variation. listed_by [] variation.alternates) (matching (map variation_of cells) at) ≡ lists_at cells at
  matching_are at is =
      matching_lists (axes_of cells) cells at (each_of (IsWritableCell (axes_of cells) (length subs)) (IsBoxOn (axes_of cells)) (λ cell own. cell_box (axes_of cells) (length subs) cell own) cells (each_cell cells subs are)) is.count (recursion_from_All IsNormalised at is.normalised)

  -- the numbers that the first feature lists at a location
  numbers_are : (at : List ℤ) → AreNumbers (length subs) (first_list (lists_at cells at))
  numbers_are at =
      of_first_list (AreNumbers (length subs)) cells at (record { rising = λ k below. absurd (omega arith); there = tt })
      (each_of (IsWritableCell (axes_of cells) (length subs)) (λ cell. AreNumbers (length subs) cell.rules) (λ cell own. cell_numbers (axes_of cells) (length subs) cell own) cells (each_cell cells subs are))

  substitution_is : (tag : List ℕ) (at : List ℤ) (glyph : ℕ) → IsLocation (axes_of cells) at → substitute (table_of tag cells (map in_glyph_order subs)) at glyph ≡ substituted nat_eq cells subs at glyph
  substitution_is tag at glyph is =
      ap (λ (numbers : List ℕ). act 0 (map in_glyph_order subs) numbers glyph) (first_listed (matching (map variation_of cells) at) ∙ ap first_list (matching_are at is))
      ∙ acts subs (first_list (lists_at cells at)) glyph (numbers_are at)

  pub means_substitutions : (last : Bool) → AllByRecursion (AllByRecursion IsGlyphPair) subs → MeansSubstitutions last cells subs (table_bytes (feature_tag last) cells (map in_glyph_order subs))
  means_substitutions last words =
      let lists : List (List (ℕ × ℕ)) = map in_glyph_order subs in
      record {
        table = table_of (feature_tag last) cells lists;
        read = tagged_back last cells lists (omega (arith, length-map subs in_glyph_order, are.few_lists)) (singles_are subs (recursion_from_All (λ pairs. length pairs ≤ 4096) subs are.few_pairs) words) are.few_cells (blocks_are cells subs are);
        tag_is = refl;
        none_else = refl;
        axes_there = All-from_recursion (λ variation. All (λ condition. condition.axis < axes_of cells) variation.conditions) (map variation_of cells) (cells_axes (axes_of cells) (length subs) cells (each_cell cells subs are));
        matching_are = matching_are;
        substitution_is = substitution_is (feature_tag last);
      }

pub is_table : (last : Bool) (cells : List Cell) (subs : List (List (ℕ × ℕ))) → AreWritable cells subs → All (λ pairs. All IsGlyphPair pairs) subs → IsTableOf last cells subs (written_table last cells subs)
is_table last [] subs are words = refl
is_table last (cell ∷ cells) subs are words = (λ none. (cc), means_substitutions (cell ∷ cells) subs are last (each_words subs words))
