-- The table that is written is read back: its fields, its offsets and the slice of each glyph.
use Rattle.std.proofs.Common.{◌≡◌, ℕ, zero, suc, ◌+◌, ◌-◌, ◌*◌, ◌^◌, ◌<◌, ◌≤◌, List, [], ◌∷◌, ◌++◌, length, map, take, drop, get_or, refl, sym, ap, subst, ◌∙◌, arith, length-append, append_assoc, add-one}
use Rattle.std.proofs.lemmas.List.{drop-drop, drop_at, take_at}
use Rattle.std.proofs.lemmas.List.Elements.{All-nil}
use Rattle.std.proofs.lemmas.Nat.{from_be_bytes-to_be_bytes_2, from_be_bytes-to_be_bytes_4}
use Rattle.std.specs.Int.{w16, w32, from_be_bytes}
use Rattle.std.specs.List.{flat_map}
use Rattle.variation_rules.specs.Fields.{word}
use Rattle.variation_rules.specs.TupleVariations.{IsTuple, MeansTuples, PacksTuples}
use Rattle.variation_rules.specs.VariationsTable.{IsVariationsTable, glyph_slice, long_in, offset_in, word_in}
use Rattle.gvar_table.specs.declared.tuple.Tuple.{Tuple}
use Rattle.gvar_table.specs.Layout.{IsWritten}
use Rattle.gvar_table.specs.Table.{AreGlyphsOf, IsWrittenTable, data_offset, ends_from, joined, long, offset_bytes, table_header}
use Rattle.gvar_table.specs.Tuples.{variation_of}
use Rattle.gvar_table.proofs.GlyphLemmas.{means, packs}
use Rattle.gvar_table.proofs.TableLemmas.{table_block_each, tuples_at, written_at}

-- one of the offsets
at_long : (xs : List ℕ) (rest : List ℕ) (g : ℕ) → g < length xs → take 4 (drop (4 * g) (flat_map long xs ++ rest)) ≡ long (get_or xs g 0)
at_long [] rest g inside = absurd (omega arith)
at_long (x ∷ xs) rest zero inside = refl
at_long (x ∷ xs) rest (suc g) inside =
    let further : 4 * suc g ≡ 4 + 4 * g = omega arith in
    ap (λ n. take 4 (drop n (flat_map long (x ∷ xs) ++ rest))) further
    ∙ ap (take 4) (sym (drop-drop (4 * g) 4 (flat_map long (x ∷ xs) ++ rest)))
    ∙ at_long xs rest g (omega arith)

offsets_length : (xs : List ℕ) → length (flat_map long xs) ≡ 4 * length xs
offsets_length [] = refl
offsets_length (x ∷ xs) = omega (arith, offsets_length xs)

ends_length : (at : ℕ) (blocks : List (List ℕ)) → length (ends_from at blocks) ≡ length blocks
ends_length at [] = refl
ends_length at (own ∷ blocks) = omega (arith, ends_length (at + length own) blocks)

-- where the data of a glyph begin, and after the last one's end
abbrev start_of : ℕ → List (List ℕ) → ℕ → ℕ
start_of at blocks g = get_or (at ∷ ends_from at blocks) g 0

-- starts rise weakly
starts_rise : (at : ℕ) (blocks : List (List ℕ)) (g : ℕ) → g < length blocks → start_of at blocks g ≤ start_of at blocks (suc g)
starts_rise at [] g inside = absurd (omega arith)
starts_rise at (own ∷ blocks) zero inside = omega arith
starts_rise at (own ∷ blocks) (suc g) inside = starts_rise (at + length own) blocks g (omega arith)

-- from the first on
starts_from : (at : ℕ) (blocks : List (List ℕ)) (g : ℕ) → g ≤ length blocks → at ≤ start_of at blocks g
starts_from at blocks zero inside = omega arith
starts_from at [] (suc g) inside = absurd (omega arith)
starts_from at (own ∷ blocks) (suc g) inside = omega (arith, starts_from (at + length own) blocks g (omega arith))

-- up to the end of all
starts_within : (at : ℕ) (blocks : List (List ℕ)) (g : ℕ) → g ≤ length blocks → start_of at blocks g ≤ at + length (joined blocks)
starts_within at blocks zero inside = omega arith
starts_within at [] (suc g) inside = absurd (omega arith)
starts_within at (own ∷ blocks) (suc g) inside = omega (arith, starts_within (at + length own) blocks g (omega arith), length-append own (joined blocks))

last_start : (at : ℕ) (blocks : List (List ℕ)) → start_of at blocks (length blocks) ≡ at + length (joined blocks)
last_start at [] = omega arith
last_start at (own ∷ blocks) = omega (arith, last_start (at + length own) blocks, length-append own (joined blocks))

-- the bytes from a glyph's start to the next one are its data
slice_is : (at : ℕ) (blocks : List (List ℕ)) (g : ℕ) → g < length blocks → take (start_of at blocks (suc g) - start_of at blocks g) (drop (start_of at blocks g - at) (joined blocks)) ≡ get_or blocks g []
slice_is at [] g inside = absurd (omega arith)
slice_is at (own ∷ blocks) zero inside =
    let size : at + length own - at ≡ length own = omega arith in
    let none : at - at ≡ 0 = omega arith in
    ap (λ n. take n (drop (at - at) (own ++ joined blocks))) size ∙ ap (λ n. take (length own) (drop n (own ++ joined blocks))) none ∙ take_at own (joined blocks) (length own) refl
slice_is at (own ∷ blocks) (suc g) inside =
    let from = starts_from (at + length own) blocks g (omega arith) in
    let further : start_of (at + length own) blocks g - at ≡ length own + (start_of (at + length own) blocks g - (at + length own)) = omega (arith, from) in
    ap (λ n. take (start_of (at + length own) blocks (suc g) - start_of (at + length own) blocks g) (drop n (own ++ joined blocks))) further
    ∙ ap (take (start_of (at + length own) blocks (suc g) - start_of (at + length own) blocks g))
    (sym (drop-drop (start_of (at + length own) blocks g - (at + length own)) (length own) (own ++ joined blocks)) ∙ ap (drop (start_of (at + length own) blocks g - (at + length own))) (drop_at own (joined blocks) (length own) refl))
    ∙ slice_is (at + length own) blocks g (omega arith)

-- the header's fields, each at its offset
header_length : (axes glyphs : ℕ) → length (table_header axes glyphs) ≡ 20
unfolding table_header
header_length axes glyphs = refl

major_at : (axes glyphs : ℕ) (rest : List ℕ) → take 2 (drop 0 (table_header axes glyphs ++ rest)) ≡ word 1
unfolding table_header
major_at axes glyphs rest = refl

minor_at : (axes glyphs : ℕ) (rest : List ℕ) → take 2 (drop 2 (table_header axes glyphs ++ rest)) ≡ word 0
unfolding table_header
minor_at axes glyphs rest = refl

axes_at : (axes glyphs : ℕ) (rest : List ℕ) → take 2 (drop 4 (table_header axes glyphs ++ rest)) ≡ word axes
unfolding table_header
axes_at axes glyphs rest = refl

peaks_at : (axes glyphs : ℕ) (rest : List ℕ) → take 2 (drop 6 (table_header axes glyphs ++ rest)) ≡ word 0
unfolding table_header
peaks_at axes glyphs rest = refl

glyphs_at : (axes glyphs : ℕ) (rest : List ℕ) → take 2 (drop 12 (table_header axes glyphs ++ rest)) ≡ word glyphs
unfolding table_header
glyphs_at axes glyphs rest = refl

flags_at : (axes glyphs : ℕ) (rest : List ℕ) → take 2 (drop 14 (table_header axes glyphs ++ rest)) ≡ word 1
unfolding table_header
flags_at axes glyphs rest = refl

offset_at : (axes glyphs : ℕ) (rest : List ℕ) → take 4 (drop 16 (table_header axes glyphs ++ rest)) ≡ long (data_offset glyphs)
unfolding table_header
offset_at axes glyphs rest = refl

read_word : (bytes : List ℕ) (offset n : ℕ) → n < 2 ^ 16 → take 2 (drop offset bytes) ≡ word n → word_in bytes offset ≡ n
read_word bytes offset n fits is = ap (from_be_bytes w16) is ∙ from_be_bytes-to_be_bytes_2 n fits

read_long : (bytes : List ℕ) (offset n : ℕ) → n < 2 ^ 32 → take 4 (drop offset bytes) ≡ long n → long_in bytes offset ≡ n
read_long bytes offset n fits is = ap (from_be_bytes w32) is ∙ from_be_bytes-to_be_bytes_4 n fits

module _ (axes : ℕ) (blocks : List (List ℕ)) (axes_fit : axes < 2 ^ 16) (glyphs_fit : length blocks < 2 ^ 16) (data_fit : length (joined blocks) < 2 ^ 32) where
  abbrev table_bytes : List ℕ
  table_bytes = table_header axes (length blocks) ++ (offset_bytes blocks ++ joined blocks)

  pub offset_same : long_in table_bytes 16 ≡ data_offset (length blocks)
  offset_same = read_long table_bytes 16 (data_offset (length blocks)) (omega arith) (offset_at axes (length blocks) (offset_bytes blocks ++ joined blocks))

  pub offset_is : (g : ℕ) → g ≤ length blocks → offset_in table_bytes g ≡ start_of 0 blocks g
  offset_is g within =
      let rest : List ℕ = offset_bytes blocks ++ joined blocks in
      let after : drop (20 + 4 * g) table_bytes ≡ drop (4 * g) rest = sym (drop-drop (4 * g) 20 table_bytes) ∙ ap (drop (4 * g)) (drop_at (table_header axes (length blocks)) rest 20 (header_length axes (length blocks))) in
      let there = at_long (0 ∷ ends_from 0 blocks) (joined blocks) g (omega (arith, ends_length 0 blocks)) in
      read_long table_bytes (20 + 4 * g) (start_of 0 blocks g) (omega (arith, starts_within 0 blocks g within)) (ap (take 4) after ∙ there)

  -- after the offset of the data and a glyph's start
  data_after : (n : ℕ) → drop (data_offset (length blocks) + n) table_bytes ≡ drop n (joined blocks)
  data_after n =
      let prefix : List ℕ = table_header axes (length blocks) ++ offset_bytes blocks in
      let size : length prefix ≡ data_offset (length blocks) = omega (arith, length-append (table_header axes (length blocks)) (offset_bytes blocks), header_length axes (length blocks), offsets_length (0 ∷ ends_from 0 blocks), ends_length 0 blocks) in
      ap (drop (data_offset (length blocks) + n)) (sym (append_assoc (table_header axes (length blocks)) (offset_bytes blocks) (joined blocks)))
      ∙ sym (drop-drop n (data_offset (length blocks)) (prefix ++ joined blocks))
      ∙ ap (drop n) (drop_at prefix (joined blocks) (data_offset (length blocks)) size)

  pub slice_at : (g : ℕ) → g < length blocks → glyph_slice table_bytes g ≡ get_or blocks g []
  slice_at g inside =
      let here = offset_is g (omega arith) in
      let next : offset_in table_bytes (g + 1) ≡ start_of 0 blocks (suc g) = offset_is (g + 1) (omega arith) ∙ ap (start_of 0 blocks) (add-one g) in
      let none : start_of 0 blocks g - 0 ≡ start_of 0 blocks g = omega arith in
      ap (λ n. take (n - offset_in table_bytes g) (drop (long_in table_bytes 16 + offset_in table_bytes g) table_bytes)) next
      ∙ ap (λ n. take (start_of 0 blocks (suc g) - n) (drop (long_in table_bytes 16 + n) table_bytes)) here
      ∙ ap (λ p. take (start_of 0 blocks (suc g) - start_of 0 blocks g) (drop (p + start_of 0 blocks g) table_bytes)) offset_same
      ∙ ap (take (start_of 0 blocks (suc g) - start_of 0 blocks g)) (data_after (start_of 0 blocks g) ∙ ap (λ n. drop n (joined blocks)) (sym none))
      ∙ slice_is 0 blocks g inside

  pub is_table : IsVariationsTable axes (length blocks) [] table_bytes
  is_table =
      let rest : List ℕ = offset_bytes blocks ++ joined blocks in
      let prefix : List ℕ = table_header axes (length blocks) ++ offset_bytes blocks in
      record {
        major = read_word table_bytes 0 1 (omega arith) (major_at axes (length blocks) rest);
        minor = read_word table_bytes 2 0 (omega arith) (minor_at axes (length blocks) rest);
        axis_count = read_word table_bytes 4 axes axes_fit (axes_at axes (length blocks) rest);
        peak_count = read_word table_bytes 6 0 (omega arith) (peaks_at axes (length blocks) rest);
        peak_each = All-nil (IsTuple axes);
        peaks_there = refl;
        glyph_count = read_word table_bytes 12 (length blocks) glyphs_fit (glyphs_at axes (length blocks) rest);
        flags = read_word table_bytes 14 1 (omega arith) (flags_at axes (length blocks) rest);
        offsets_before = omega (arith, offset_same);
        first = offset_is 0 (omega arith);
        rise = λ g inside. omega (arith, offset_is g (omega arith), offset_is (g + 1) (omega arith), ap (start_of 0 blocks) (add-one g), starts_rise 0 blocks g inside);
        last = omega (arith, offset_same, offset_is (length blocks) (omega arith), last_start 0 blocks, length-append (table_header axes (length blocks)) rest, length-append (offset_bytes blocks) (joined blocks), header_length axes (length blocks), offsets_length (0 ∷ ends_from 0 blocks), ends_length 0 blocks);
      }

-- the table that is written is one
pub reads : (axes : ℕ) (counts : List ℕ) (glyphs : List (List Tuple)) (bytes : List ℕ) → AreGlyphsOf axes counts glyphs → IsWrittenTable axes counts glyphs bytes → IsVariationsTable axes (length glyphs) [] bytes
reads axes counts glyphs bytes are table =
    let each = table_block_each axes counts glyphs bytes table in
    subst (λ (n : ℕ). IsVariationsTable axes n [] bytes) each
    (subst (λ (b : List ℕ). IsVariationsTable axes (length table.blocks) [] b) (sym table.spelled) (is_table axes table.blocks (omega (arith, are.few_axes)) (omega (arith, each, are.few)) table.small))

-- the slice of a glyph is what is written of its tuples
slice_written : (axes : ℕ) (counts : List ℕ) (glyphs : List (List Tuple)) (bytes : List ℕ) (g : ℕ) → AreGlyphsOf axes counts glyphs → (table : IsWrittenTable axes counts glyphs bytes) → g < length glyphs → IsWritten (get_or counts g 0) (glyph_slice bytes g) (map variation_of (get_or glyphs g []))
slice_written axes counts glyphs bytes g are table inside =
    let each = table_block_each axes counts glyphs bytes table in
    let slice = slice_at axes table.blocks (omega (arith, are.few_axes)) (omega (arith, each, are.few)) table.small g (omega (arith, each)) in
    let here : glyph_slice bytes g ≡ get_or table.blocks g [] = ap (λ b. glyph_slice b g) table.spelled ∙ slice in
    subst (λ (b : List ℕ). IsWritten (get_or counts g 0) b (map variation_of (get_or glyphs g []))) (sym here) (written_at counts glyphs table.blocks g inside table.each)

pub means_at : (axes : ℕ) (counts : List ℕ) (glyphs : List (List Tuple)) (bytes : List ℕ) → AreGlyphsOf axes counts glyphs → IsWrittenTable axes counts glyphs bytes → (g : ℕ) → g < length glyphs → MeansTuples axes (get_or counts g 0) [] (glyph_slice bytes g) (map variation_of (get_or glyphs g []))
means_at axes counts glyphs bytes are table g inside = means axes (get_or counts g 0) (glyph_slice bytes g) (get_or glyphs g []) (tuples_at axes counts glyphs g [] inside are.each) (slice_written axes counts glyphs bytes g are table inside)

pub packs_at : (axes : ℕ) (counts : List ℕ) (glyphs : List (List Tuple)) (bytes : List ℕ) → AreGlyphsOf axes counts glyphs → IsWrittenTable axes counts glyphs bytes → (g : ℕ) → g < length glyphs → PacksTuples axes (get_or counts g 0) [] (glyph_slice bytes g) (map variation_of (get_or glyphs g []))
packs_at axes counts glyphs bytes are table g inside = packs axes (get_or counts g 0) (glyph_slice bytes g) (get_or glyphs g []) (tuples_at axes counts glyphs g [] inside are.each) (slice_written axes counts glyphs bytes g are table inside)
