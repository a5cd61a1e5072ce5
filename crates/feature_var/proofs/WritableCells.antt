-- What boxes and pairs that can be written keep to, as the other lemmas take it.
use Rattle.std.proofs.Common.{◌≡◌, ℕ, ℤ, ◌+◌, ◌<◌, ◌≤◌, List, [], ◌∷◌, length, map, sym, ap, ◌∙◌, arith}
use Rattle.std.proofs.lemmas.List.{length-map}
use Rattle.std.proofs.lemmas.List.Elements.{All-from_recursion, recursion_from_All}
use Rattle.std.specs.Prelude.{All}
use Rattle.std.specs.List.{AllByRecursion}
use Rattle.be_bytes.proofs.RecordLemmas.{each_of}
use Rattle.region_support.specs.Regions.{IsNormalised}
use Rattle.rule_boxes.specs.declared.condition.Condition.{Condition}
use Rattle.rule_boxes.specs.declared.cell.Cell.{Cell}
use Rattle.feature_var.specs.Layout.{conditions_of, in_glyph_order, lookup_list_bytes}
use Rattle.feature_var.specs.Meaning.{AreWritable, IsWritableCell, axes_of}
use Rattle.feature_var.proofs.Acting.{AreNumbers, Rise, rise}
use Rattle.feature_var.proofs.ConditionReading.{IsBound}
use Rattle.feature_var.proofs.LookupReading.{lookups_small}
use Rattle.feature_var.proofs.Matching.{IsBoxOn, conditions_few, of_conditions}
use Rattle.feature_var.specs.Limits.{IsGlyphPair, IsSmallCell}
use Rattle.feature_var.proofs.PairOrder.{order_single}
use Rattle.feature_var.proofs.Places.{IsWord}
use Rattle.feature_var.proofs.SingleReading.{AreSingle}
use Rattle.feature_var.proofs.VariationReading.{IsBlockOf, variation_of}

-- rising numbers below a limit are no more than it
rise_few : (limit least : ℕ) (numbers : List ℕ) → Rise least numbers → AllByRecursion (λ number. number < limit) numbers → least ≤ limit → least + length numbers ≤ limit
rise_few limit least [] rises there low = omega arith
rise_few limit least (number ∷ numbers) rises there low = omega (arith, rises.0, rise_few limit (number + 1) numbers rises.1 there.1 (omega (arith, there.0)))

pub cell_numbers : (axes lists : ℕ) (cell : Cell) → IsWritableCell axes lists cell → AreNumbers lists cell.rules
cell_numbers axes lists cell is = record { rising = is.rising; there = recursion_from_All (λ number. number < lists) cell.rules is.there }

pub cell_box : (axes lists : ℕ) (cell : Cell) → IsWritableCell axes lists cell → IsBoxOn axes cell
cell_box axes lists cell is = record { low_each = is.low_each; high_each = is.high_each }

pub cell_block : (axes lists : ℕ) (cell : Cell) → axes ≤ 8 → lists ≤ 64 → IsWritableCell axes lists cell → IsBlockOf cell
cell_block axes lists cell few_axes few_lists is =
    let numbers : AreNumbers lists cell.rules = cell_numbers axes lists cell is in
    let lows : List ℤ = cell.low.items in
    let highs : List ℤ = cell.high.items in
    record {
      few_conditions = omega (arith, conditions_few 0 lows highs, is.low_each);
      bounds = of_conditions IsBound 0 lows highs (λ number low high below first second. record { axis = omega (arith, is.low_each); low = first; high = second })
          (recursion_from_All IsNormalised lows is.low) (recursion_from_All IsNormalised highs is.high);
      few_rules = omega (arith, rise_few lists 0 cell.rules (rise cell.rules numbers.rising) numbers.there (omega arith));
      words = each_of (λ number. number < lists) IsWord (λ number below. omega arith) cell.rules numbers.there;
    }

-- the conditions of a box are on its axes
cell_axes : (axes lists : ℕ) (cell : Cell) → IsWritableCell axes lists cell → All (λ condition. condition.axis < axes) (conditions_of cell)
cell_axes axes lists cell is =
    All-from_recursion (λ (condition : Condition). condition.axis < axes) (conditions_of cell)
    (of_conditions (λ condition. condition.axis < axes) 0 cell.low.items cell.high.items (λ number low high below first second. omega (arith, is.low_each))
    (recursion_from_All IsNormalised cell.low.items is.low) (recursion_from_All IsNormalised cell.high.items is.high))

pub cells_axes : (axes lists : ℕ) (cells : List Cell) → AllByRecursion (IsWritableCell axes lists) cells → AllByRecursion (λ variation. All (λ condition. condition.axis < axes) variation.conditions) (map variation_of cells)
cells_axes axes lists [] are = tt
cells_axes axes lists (cell ∷ cells) are = (cell_axes axes lists cell are.0, cells_axes axes lists cells are.1)

pub each_cell : (cells : List Cell) (subs : List (List (ℕ × ℕ))) → AreWritable cells subs → AllByRecursion (IsWritableCell (axes_of cells) (length subs)) cells
each_cell cells subs are = recursion_from_All (IsWritableCell (axes_of cells) (length subs)) cells are.each

pub blocks_are : (cells : List Cell) (subs : List (List (ℕ × ℕ))) → AreWritable cells subs → AllByRecursion IsBlockOf cells
blocks_are cells subs are =
    each_of (IsWritableCell (axes_of cells) (length subs)) IsBlockOf (λ cell is. cell_block (axes_of cells) (length subs) cell are.few_axes are.few_lists is) cells (each_cell cells subs are)

-- lists of pairs of glyphs that can be written
pub singles_are : (subs : List (List (ℕ × ℕ))) → AllByRecursion (λ pairs. length pairs ≤ 4096) subs → AllByRecursion (AllByRecursion IsGlyphPair) subs → AllByRecursion AreSingle (map in_glyph_order subs)
singles_are [] few words = tt
singles_are (pairs ∷ subs) few words = (order_single pairs few.0 words.0, singles_are subs few.1 words.1)

pub each_words : (subs : List (List (ℕ × ℕ))) → All (λ pairs. All IsGlyphPair pairs) subs → AllByRecursion (AllByRecursion IsGlyphPair) subs
each_words subs words =
    each_of (λ pairs. All IsGlyphPair pairs) (AllByRecursion IsGlyphPair) (λ pairs own. recursion_from_All IsGlyphPair pairs own) subs (recursion_from_All (λ (pairs : List (ℕ × ℕ)). All IsGlyphPair pairs) subs words)

-- ---- what the steps of the writer ask

small_cell : (axes lists : ℕ) (cell : Cell) → axes ≤ 8 → lists ≤ 64 → IsWritableCell axes lists cell → IsSmallCell cell
small_cell axes lists cell few_axes few_lists is =
    let numbers : AreNumbers lists cell.rules = cell_numbers axes lists cell is in
    record {
      few_axes = omega (arith, is.low_each);
      same_axes = is.high_each ∙ sym is.low_each;
      low = is.low;
      high = is.high;
      few_numbers = omega (arith, rise_few lists 0 cell.rules (rise cell.rules numbers.rising) numbers.there (omega arith));
      small_numbers = All-from_recursion (λ (number : ℕ). number < 64) cell.rules (each_of (λ number. number < lists) (λ number. number < 64) (λ number below. omega arith) cell.rules numbers.there);
    }

pub small_cells : (cells : List Cell) (subs : List (List (ℕ × ℕ))) → AreWritable cells subs → All IsSmallCell cells
small_cells cells subs are =
    All-from_recursion IsSmallCell cells (each_of (IsWritableCell (axes_of cells) (length subs)) IsSmallCell (λ cell is. small_cell (axes_of cells) (length subs) cell are.few_axes are.few_lists is) cells (each_cell cells subs are))

pub lookups_fit : (cells : List Cell) (subs : List (List (ℕ × ℕ))) (bytes : List ℕ) → AreWritable cells subs → All (λ pairs. All IsGlyphPair pairs) subs → bytes ≡ lookup_list_bytes (map in_glyph_order subs) → length bytes ≤ 1_050_370
lookups_fit cells subs bytes are words is =
    let small : length (lookup_list_bytes (map in_glyph_order subs)) ≤ 1_050_370 =
    lookups_small (map in_glyph_order subs) (omega (arith, length-map subs in_glyph_order, are.few_lists)) (singles_are subs (recursion_from_All (λ (pairs : List (ℕ × ℕ)). length pairs ≤ 4096) subs are.few_pairs) (each_words subs words)) in
    omega (arith, ap length is)
