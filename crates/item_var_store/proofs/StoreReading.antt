-- A store is read back as it was written.
use Rattle.std.proofs.Common.{◌≡◌, ℕ, ℤ, ◌+◌, ◌-◌, ◌*◌, ◌%◌, ◌^◌, ◌<◌, ◌≤◌, Bool, true, false, List, [], ◌∷◌, ◌++◌, length, drop, Option, Some, FitsSigned, refl, sym, ap, ◌∙◌, arith}
use Rattle.std.proofs.lemmas.Bool.{le-leb, lt-leb, lt-ltb}
use Rattle.std.proofs.lemmas.Int.{ints}
use Rattle.std.proofs.lemmas.List.{append-nil, drop-drop, drop_at, length-map}
use Rattle.std.proofs.lemmas.List.Elements.{All-weaker, recursion_from_All}
use Rattle.std.proofs.lemmas.Nat.{mul-le}
use Rattle.std.specs.Prelude.{All, nat_le, nat_lt}
use Rattle.std.specs.Int.{w16}
use Rattle.std.specs.List.{AllByRecursion, flat_map}
use Rattle.be_bytes.specs.Fields.{field_bytes, fields_bytes}
use Rattle.be_bytes.specs.Reading.{int16, records, uint16, uint32}
use Rattle.be_bytes.specs.declared.field.Field.TheVariants.{Int16, Uint16, Uint32}
use Rattle.be_bytes.proofs.FieldLemmas.{int16-field, uint16-field, uint32-field}
use Rattle.be_bytes.proofs.RecordLemmas.{ComesBack, each_of, records_back, records_size}
use Rattle.arrayvec.specs.ArrayVec.{ArrayVec, array_vec_len}
use Rattle.region_support.specs.Coordinates.{regions_in}
use Rattle.region_support.specs.Regions.{IsNormalised, IsNormalisedTriple}
use Rattle.variation_rules.specs.PackedPoints.{count_from}
use Rattle.variation_rules.specs.declared.region.Triple.{Triple}
use Rattle.item_var_store.specs.Layout.{delta_bytes, index_bytes, item_data_bytes, region_bytes, region_list_bytes, row_bytes, store_bytes, store_header, triple_bytes, triple_fields}
use Rattle.item_var_store.specs.Rows.{AreRows, MeansRows}
use Rattle.item_var_store.specs.Store.{ItemData, RegionList, item_data_in, region_list_in, row_in, rows_in, store_in, triple_in, wide_in}
use Rattle.item_var_store.proofs.RowLemmas.{count_length, counted_words, has_rows, store_of}

-- ---- arrays

-- so many records, before other bytes
counted_back : {A : Type 0} (spell : A → List ℕ) (read : List ℕ → Option A) (size count : ℕ) (xs : List A) (rest : List ℕ) → length xs ≡ count → AllByRecursion (ComesBack spell read size) xs → records read size count (flat_map spell xs ++ rest) ≡ Some xs
counted_back spell read size count xs rest counted each =
    ap (λ (n : ℕ). records read size n (flat_map spell xs ++ rest)) (sym counted) ∙ records_back spell read size xs rest each

-- an array is a record
array_back : {A : Type 0} (spell : A → List ℕ) (read : List ℕ → Option A) (size count : ℕ) (xs : List A) → length xs ≡ count → AllByRecursion (ComesBack spell read size) xs → ComesBack (flat_map spell) (records read size count) (size * count) xs
array_back spell read size count xs counted each = record {
  size_is = records_size spell read size xs each ∙ ap (λ (n : ℕ). size * n) counted;
  back = ap (records read size count) (sym (append-nil (flat_map spell xs))) ∙ counted_back spell read size count xs [] counted each;
}

-- ---- the regions

read_triple : (bytes : List ℕ) (start peak end : ℤ) → int16 bytes ≡ Some start → int16 (drop 2 bytes) ≡ Some peak → int16 (drop 4 bytes) ≡ Some end → triple_in bytes ≡ Some (record { start = start; peak = peak; end = end })
read_triple bytes start peak end a b c = rw (a, b, c) refl

word_of : (z : ℤ) → IsNormalised z → FitsSigned w16 z
word_of z is = omega (arith, ints)

triple_back : (triple : Triple) → IsNormalisedTriple triple → ComesBack triple_bytes triple_in 6 triple
unfolding triple_fields
triple_back triple is = record {
  size_is = refl;
  back = read_triple (triple_bytes triple) triple.start triple.peak triple.end
      (int16-field triple.start (fields_bytes (Int16 triple.peak ∷ Int16 triple.end ∷ [])) (word_of triple.start is.0))
      (int16-field triple.peak (fields_bytes (Int16 triple.end ∷ [])) (word_of triple.peak is.1))
      (int16-field triple.end [] (word_of triple.end is.2));
}

region_back : (axes : ℕ) (region : List Triple) → length region ≡ axes → AllByRecursion IsNormalisedTriple region → ComesBack region_bytes (records triple_in 6 axes) (6 * axes) region
region_back axes region counted each =
    array_back triple_bytes triple_in 6 axes region counted (each_of IsNormalisedTriple (ComesBack triple_bytes triple_in 6) triple_back region each)

-- regions that are written on so many axes
pub record IsRegionOn (axes : ℕ) (region : List Triple) : Type 0 where
  pub counted : length region ≡ axes
  pub normalised : AllByRecursion IsNormalisedTriple region

each_region : (axes : ℕ) (regions : List (List Triple)) → AllByRecursion (IsRegionOn axes) regions → AllByRecursion (ComesBack region_bytes (records triple_in 6 axes) (6 * axes)) regions
each_region axes regions each =
    each_of (IsRegionOn axes) (ComesBack region_bytes (records triple_in 6 axes) (6 * axes)) (λ region own. region_back axes region own.counted own.normalised) regions each

read_list : (bytes : List ℕ) (axes count : ℕ) (regions : List (List Triple)) → uint16 bytes ≡ Some axes → uint16 (drop 2 bytes) ≡ Some count → records (records triple_in 6 axes) (6 * axes) count (drop 4 bytes) ≡ Some regions → nat_lt count 32768 ≡ true → region_list_in bytes ≡ Some (record { axes = axes; regions = regions })
read_list bytes axes count regions a b c d = rw (a, b, c, d) refl

list_back : (axes : ℕ) (regions : List (List Triple)) (rest : List ℕ) → axes ≤ 8 → length regions ≤ 32767 → AllByRecursion (IsRegionOn axes) regions → region_list_in (region_list_bytes axes regions ++ rest) ≡ Some (record { axes = axes; regions = regions })
list_back axes regions rest few_axes few each =
    let own : List ℕ = flat_map region_bytes regions in
    read_list (region_list_bytes axes regions ++ rest) axes (length regions) regions
    (uint16-field axes (fields_bytes (Uint16 (length regions) ∷ []) ++ (own ++ rest)) (omega arith))
    (uint16-field (length regions) (own ++ rest) (omega arith))
    (records_back region_bytes (records triple_in 6 axes) (6 * axes) regions rest (each_region axes regions each))
    (lt-ltb (length regions) 32768 (omega arith))

-- ---- the rows

index_back : (index : ℕ) → index < 2 ^ 16 → ComesBack index_bytes uint16 2 index
index_back index fits = record { size_is = refl; back = uint16-field index [] fits }

delta_back : (delta : ℤ) → FitsSigned w16 delta → ComesBack delta_bytes (wide_in false) 2 delta
delta_back delta fits = record { size_is = refl; back = int16-field delta [] fits }

read_row : (wide : ℕ) (bytes : List ℕ) (row : List ℤ) → records (wide_in false) 2 wide bytes ≡ Some row → row_in false wide 0 bytes ≡ Some row
read_row wide bytes row a = rw a (ap Some (append-nil row))

-- rows that are written with so many words
pub record IsRowOf (columns : ℕ) (row : List ℤ) : Type 0 where
  pub counted : length row ≡ columns
  pub words : AllByRecursion (FitsSigned w16) row

row_back : (columns : ℕ) (row : List ℤ) → IsRowOf columns row → ComesBack row_bytes (row_in false columns 0) (2 * columns) row
row_back columns row own =
    let array : ComesBack (flat_map delta_bytes) (records (wide_in false) 2 columns) (2 * columns) row =
    array_back delta_bytes (wide_in false) 2 columns row own.counted (each_of (FitsSigned w16) (ComesBack delta_bytes (wide_in false) 2) delta_back row own.words) in
    record { size_is = array.size_is; back = read_row columns (row_bytes row) row array.back }

read_rows : (columns count : ℕ) (bytes : List ℕ) (rows : List (List ℤ)) → nat_le columns columns ≡ true → columns - columns ≡ 0 → records (row_in false columns 0) (2 * columns) count bytes ≡ Some rows → rows_in false columns columns count bytes ≡ Some rows
read_rows columns count bytes rows a b c =
    let size : 2 * columns + 0 ≡ 2 * columns = omega arith in
    rw (a, b) (ap (λ (n : ℕ). records (row_in false columns 0) n count bytes) size ∙ c)

rows_back : (columns : ℕ) (rows : List (List ℤ)) → AllByRecursion (IsRowOf columns) rows → rows_in false columns columns (length rows) (flat_map row_bytes rows) ≡ Some rows
rows_back columns rows each =
    let array : ComesBack (flat_map row_bytes) (records (row_in false columns 0) (2 * columns) (length rows)) (2 * columns * length rows) rows =
    array_back row_bytes (row_in false columns 0) (2 * columns) (length rows) rows refl (each_of (IsRowOf columns) (ComesBack row_bytes (row_in false columns 0) (2 * columns)) (row_back columns) rows each) in
    read_rows columns (length rows) (flat_map row_bytes rows) rows (le-leb columns columns (omega arith)) (omega arith) array.back

read_data : (bytes : List ℕ) (count words columns wide : ℕ) (long : Bool) (indexes : List ℕ) (rows : List (List ℤ)) → uint16 bytes ≡ Some count → uint16 (drop 2 bytes) ≡ Some words → uint16 (drop 4 bytes) ≡ Some columns → records uint16 2 columns (drop 6 bytes) ≡ Some indexes
    → nat_le 32768 words ≡ long → words % 32768 ≡ wide → rows_in long wide columns count (drop (6 + 2 * columns) bytes) ≡ Some rows
    → item_data_in bytes ≡ Some (record { indexes = indexes; rows = rows })
read_data bytes count words columns wide long indexes rows a b c d e f g = rw (a, b, c, d, e, f, g) refl

data_back : (columns : ℕ) (rows : List (List ℤ)) → columns ≤ 32767 → length rows ≤ 65535 → AllByRecursion (IsRowOf columns) rows → item_data_in (item_data_bytes columns rows) ≡ Some (record { indexes = count_from columns 0; rows = rows })
data_back columns rows few few_rows each =
    let bytes : List ℕ = item_data_bytes columns rows in
    let own : List ℕ = flat_map index_bytes (count_from columns 0) in
    let more : List ℕ = flat_map row_bytes rows in
    let each_index = each_of (λ (k : ℕ). k < 2 ^ 16) (ComesBack index_bytes uint16 2) index_back (count_from columns 0) (counted_words columns 0 (omega arith)) in
    let size : length own ≡ 2 * columns = records_size index_bytes uint16 2 (count_from columns 0) each_index ∙ ap (λ (n : ℕ). 2 * n) (count_length columns 0) in
    let after : drop (6 + 2 * columns) bytes ≡ more = sym (drop-drop (2 * columns) 6 bytes) ∙ drop_at own more (2 * columns) size in
    read_data bytes (length rows) columns columns columns false (count_from columns 0) rows
    (uint16-field (length rows) (fields_bytes (Uint16 columns ∷ Uint16 columns ∷ []) ++ (own ++ more)) (omega arith))
    (uint16-field columns (fields_bytes (Uint16 columns ∷ []) ++ (own ++ more)) (omega arith))
    (uint16-field columns (own ++ more) (omega arith))
    (counted_back index_bytes uint16 2 columns (count_from columns 0) more (count_length columns 0) each_index)
    (lt-leb 32768 columns (omega arith))
    (omega arith)
    (ap (rows_in false columns columns (length rows)) after ∙ rows_back columns rows each)

-- ---- the store

read_store : (bytes : List ℕ) (list_offset count offset : ℕ) (list : RegionList) (own : ItemData) → uint16 bytes ≡ Some 1 → uint32 (drop 2 bytes) ≡ Some list_offset → uint16 (drop 6 bytes) ≡ Some count → records uint32 4 count (drop 8 bytes) ≡ Some (offset ∷ [])
    → region_list_in (drop list_offset bytes) ≡ Some list → item_data_in (drop offset bytes) ≡ Some own
    → store_in bytes ≡ Some (record { axes = list.axes; regions = list.regions; item_data = own ∷ [] })
read_store bytes list_offset count offset list own a b c d e f = rw (a, b, c, d, e, f) refl

pub store_back : (axes : ℕ) (regions : List (List Triple)) (rows : List (List ℤ)) → axes ≤ 8 → length regions ≤ 32767 → length rows ≤ 65535 → AllByRecursion (IsRegionOn axes) regions → AllByRecursion (IsRowOf (length regions)) rows
    → store_in (store_bytes axes regions rows) ≡ Some (store_of axes regions rows)
unfolding store_header
store_back axes regions rows few_axes few few_rows each each_row =
    let n : ℕ = length regions in
    let offset : ℕ = 16 + 6 * axes * n in
    let bytes : List ℕ = store_bytes axes regions rows in
    let own : List ℕ = flat_map region_bytes regions in
    let more : List ℕ = item_data_bytes n rows in
    let small : offset < 2 ^ 32 = omega (arith, mul-le (6 * axes) n 48 32767 (omega arith) few) in
    let size : length own ≡ 6 * axes * n = records_size region_bytes (records triple_in 6 axes) (6 * axes) regions (each_region axes regions each) in
    let after : drop offset bytes ≡ more = sym (drop-drop (6 * axes * n) 16 bytes) ∙ drop_at own more (6 * axes * n) size in
    read_store bytes 12 1 offset (record { axes = axes; regions = regions }) (record { indexes = count_from n 0; rows = rows })
    refl
    refl
    refl
    (records_back (λ (k : ℕ). field_bytes (Uint32 k)) uint32 4 (offset ∷ []) (region_list_bytes axes regions ++ more) (record { size_is = refl; back = uint32-field offset [] small }, tt))
    (list_back axes regions more few_axes few each)
    (ap item_data_in after ∙ data_back n rows few few_rows each_row)

-- ---- the conditions

each_region_on : (axes : ℕ) (regions : List (ArrayVec Triple)) → AllByRecursion (λ region. array_vec_len region ≡ axes) regions → AllByRecursion (λ region. All IsNormalisedTriple region.items) regions → AllByRecursion (IsRegionOn axes) (regions_in regions)
each_region_on axes [] counted normalised = tt
each_region_on axes (region ∷ regions) counted normalised =
    (record { counted = counted.0; normalised = recursion_from_All IsNormalisedTriple region.items normalised.0 }, each_region_on axes regions counted.1 normalised.1)

each_row_of : (columns : ℕ) (rows : List (List ℤ)) → AllByRecursion (λ row. length row ≡ columns) rows → AllByRecursion (λ row. All (FitsSigned w16) row) rows → AllByRecursion (IsRowOf columns) rows
each_row_of columns [] counted words = tt
each_row_of columns (row ∷ rows) counted words =
    (record { counted = counted.0; words = recursion_from_All (FitsSigned w16) row words.0 }, each_row_of columns rows counted.1 words.1)

pub means_rows : (axes : ℕ) (regions : List (ArrayVec Triple)) (rows : List (List ℤ)) (bytes : List ℕ) → AreRows axes regions rows → bytes ≡ store_bytes axes (regions_in regions) rows → MeansRows axes (regions_in regions) rows bytes
means_rows axes regions rows bytes are spelled =
    let lists : List (List Triple) = regions_in regions in
    let count : length lists ≡ length regions = length-map regions (λ (region : ArrayVec Triple). region.items) in
    let each = each_region_on axes regions (recursion_from_All (λ (region : ArrayVec Triple). array_vec_len region ≡ axes) regions are.axis_each) (recursion_from_All (λ (region : ArrayVec Triple). All IsNormalisedTriple region.items) regions are.normalised) in
    let counted : All (λ (row : List ℤ). length row ≡ length lists) rows =
    All-weaker (λ (row : List ℤ). length row ≡ length regions) (λ (row : List ℤ). length row ≡ length lists) (λ (row : List ℤ) (e : length row ≡ length regions). e ∙ sym count) rows are.one_each in
    let counted_each = recursion_from_All (λ (row : List ℤ). length row ≡ length lists) rows counted in
    let each_row = each_row_of (length lists) rows counted_each (recursion_from_All (λ (row : List ℤ). All (FitsSigned w16) row) rows are.words) in
    record {
      store = store_of axes lists rows;
      read = ap store_in spelled ∙ store_back axes lists rows are.few_axes (omega (arith, count, are.few_regions)) are.few_rows each each_row;
      has = has_rows axes lists rows counted_each;
    }
