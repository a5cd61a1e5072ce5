-- The records that match at a location are those of the boxes that have it.
use Rattle.std.proofs.Common.{◌≡◌, ℕ, ℤ, pos, ◌+◌, ◌<◌, Bool, true, false, ◌&&◌, List, [], ◌∷◌, ◌++◌, length, map, refl, sym, ap, subst, ◌∙◌, arith, length-append, append_assoc}
use Rattle.std.proofs.lemmas.Bool.{and_from, and_parts}
use Rattle.std.proofs.lemmas.Bool.Decides.{Decides-int_eq}
use Rattle.std.proofs.lemmas.Int.{ints}
use Rattle.std.proofs.lemmas.List.{get_or_at}
use Rattle.std.specs.Prelude.{cond, if◌then◌else◌, int_le, neg_ℤ, ◌≤ℤ◌}
use Rattle.std.specs.List.{AllByRecursion}
use Rattle.std.specs.Ordering.{int_eq}
use Rattle.region_support.specs.MasterOrder.{value_on}
use Rattle.region_support.specs.Regions.{IsNormalised}
use Rattle.rule_boxes.specs.declared.condition.Condition.{Condition}
use Rattle.rule_boxes.specs.declared.cell.Cell.{Cell}
use Rattle.rule_boxes.specs.Cells.{has_location, is_between, lists_at}
use Rattle.rule_boxes.specs.Conditions.{set_holds}
use Rattle.rule_boxes.specs.Substitution.{first_list}
use Rattle.feature_var.specs.Layout.{conditions_from, conditions_of, is_whole}
use Rattle.feature_var.specs.Table.{listed_by, listed_first, matching}
use Rattle.feature_var.specs.Variations.{Variation}
use Rattle.feature_var.proofs.VariationReading.{variation_of}

-- ---- one box

int_le_true : (a b : ℤ) → a ≤ℤ b → int_le a b ≡ true
int_le_true a b le = grind (arith, ints)

-- a whole axis has every coordinate
whole_has : (low high value : ℤ) → is_whole low high ≡ true → IsNormalised value → (int_le low value && int_le value high) ≡ true
whole_has low high value whole is =
    let ends = and_parts (int_eq low (neg_ℤ (pos 16384))) (int_eq high (pos 16384)) whole in
    let low_is : low ≡ neg_ℤ (pos 16384) = (Decides-int_eq low (neg_ℤ (pos 16384))).0 ends.0 in
    let high_is : high ≡ pos 16384 = (Decides-int_eq high (pos 16384)).0 ends.1 in
    and_from (int_le low value) (int_le value high) (int_le_true low value (subst (λ (z : ℤ). z ≤ℤ value) (sym low_is) is.0)) (int_le_true value high (subst (λ (z : ℤ). value ≤ℤ z) (sym high_is) is.1))

-- with the condition of an axis or without it, by whether the axis is whole
by_whole : (whole : Bool) (low high value : ℤ) (axis : ℕ) (more : List Condition) (at : List ℤ) (others : Bool) → is_whole low high ≡ whole → IsNormalised value → value_on axis at ≡ value → set_holds more at ≡ others
    → set_holds (if whole then more else (record { axis = axis; low = low; high = high }) ∷ more) at ≡ ((int_le low value && int_le value high) && others)
by_whole true low high value axis more at others whole is here rest = rw (whole_has low high value whole is) rest
by_whole false low high value axis more at others whole is here rest = rw (here, rest) refl

holds_from : (front lows highs values : List ℤ) (axis : ℕ) → length front ≡ axis → length lows ≡ length values → length highs ≡ length values → AllByRecursion IsNormalised values → set_holds (conditions_from axis lows highs) (front ++ values) ≡ is_between lows highs values
holds_from front [] highs values axis sized low_each high_each normalised = refl
holds_from front (low ∷ lows) [] values axis sized low_each high_each normalised = refl
holds_from front (low ∷ lows) (high ∷ highs) [] axis sized low_each high_each normalised = absurd (omega arith)
holds_from front (low ∷ lows) (high ∷ highs) (value ∷ values) axis sized low_each high_each normalised =
    by_whole (is_whole low high) low high value axis (conditions_from (axis + 1) lows highs) (front ++ value ∷ values) (is_between lows highs values) refl normalised.0 (get_or_at front value values (pos 0) axis sized)
    (ap (set_holds (conditions_from (axis + 1) lows highs)) (sym (append_assoc front (value ∷ []) values))
    ∙ holds_from (front ++ value ∷ []) lows highs values (axis + 1) (omega (arith, length-append front (value ∷ []))) (omega arith) (omega arith) normalised.1)

-- ---- all boxes

-- a box with a low end and a high one for each of so many axes
pub record IsBoxOn (axes : ℕ) (cell : Cell) : Type 0 where
  pub low_each : length cell.low.items ≡ axes
  pub high_each : length cell.high.items ≡ axes

box_holds : (axes : ℕ) (cell : Cell) (at : List ℤ) → IsBoxOn axes cell → length at ≡ axes → AllByRecursion IsNormalised at → set_holds (conditions_of cell) at ≡ has_location cell at
box_holds axes cell at is count normalised = holds_from [] cell.low.items cell.high.items at 0 refl (is.low_each ∙ sym count) (is.high_each ∙ sym count) normalised

-- the record of a box is among those that match, or isn't
list_more : (here : Bool) (cell : Cell) (more : List Variation) (lists : List (List ℕ)) → map (λ variation. listed_by [] variation.alternates) more ≡ lists
    → map (λ variation. listed_by [] variation.alternates) (cond here (variation_of cell ∷ more) more) ≡ (if here then cell.rules ∷ lists else lists)
list_more true cell more lists same = ap (λ (own : List (List ℕ)). cell.rules ∷ own) same
list_more false cell more lists same = same

pub matching_lists : (axes : ℕ) (cells : List Cell) (at : List ℤ) → AllByRecursion (IsBoxOn axes) cells → length at ≡ axes → AllByRecursion IsNormalised at
    → map (λ variation. listed_by [] variation.alternates) (matching (map variation_of cells) at) ≡ lists_at cells at
matching_lists axes [] at are count normalised = refl
matching_lists axes (cell ∷ cells) at are count normalised =
    ap (λ (here : Bool). map (λ (variation : Variation). listed_by [] variation.alternates) (cond here (variation_of cell ∷ matching (map variation_of cells) at) (matching (map variation_of cells) at))) (box_holds axes cell at are.0 count normalised)
    ∙ list_more (has_location cell at) cell (matching (map variation_of cells) at) (lists_at cells at) (matching_lists axes cells at are.1 count normalised)

-- the first of the records lists the numbers of the first list
pub first_listed : (variations : List Variation) → listed_first [] variations ≡ first_list (map (λ variation. listed_by [] variation.alternates) variations)
first_listed [] = refl
first_listed (variation ∷ variations) = refl

-- what holds of no numbers and of those of each box holds of the first list at a location
pub of_first_list : (P : List ℕ → Type 0) (cells : List Cell) (at : List ℤ) → P [] → AllByRecursion (λ cell. P cell.rules) cells → P (first_list (lists_at cells at))
of_first_list P [] at none each = none
of_first_list P (cell ∷ cells) at none each = either (has_location cell at) (lists_at cells at) (of_first_list P cells at none each.1)
  where
    either : (here : Bool) (lists : List (List ℕ)) → P (first_list lists) → P (first_list (if here then cell.rules ∷ lists else lists))
    either true lists later = each.0
    either false lists later = later

-- ---- axes of conditions

-- what holds of each condition that the axes give
pub of_conditions : (P : Condition → Type 0) (axis : ℕ) (lows highs : List ℤ) → ((number : ℕ) (low high : ℤ) → number < axis + length lows → IsNormalised low → IsNormalised high → P (record { axis = number; low = low; high = high }))
    → AllByRecursion IsNormalised lows → AllByRecursion IsNormalised highs → AllByRecursion P (conditions_from axis lows highs)
of_conditions P axis [] highs own low high = tt
of_conditions P axis (a ∷ lows) [] own low high = tt
of_conditions P axis (a ∷ lows) (b ∷ highs) own low high =
    either (is_whole a b) (conditions_from (axis + 1) lows highs) (own axis a b (omega arith) low.0 high.0) (of_conditions P (axis + 1) lows highs (λ number first last below. own number first last (omega arith)) low.1 high.1)
  where
    either : (whole : Bool) (more : List Condition) → P (record { axis = axis; low = a; high = b }) → AllByRecursion P more → AllByRecursion P (if whole then more else (record { axis = axis; low = a; high = b }) ∷ more)
    either true more first later = later
    either false more first later = (first, later)

pub conditions_few : (axis : ℕ) (lows highs : List ℤ) → length (conditions_from axis lows highs) < length lows + 1
conditions_few axis [] highs = omega arith
conditions_few axis (a ∷ lows) [] = omega arith
conditions_few axis (a ∷ lows) (b ∷ highs) = either (is_whole a b) (conditions_from (axis + 1) lows highs) (conditions_few (axis + 1) lows highs)
  where
    either : (whole : Bool) (more : List Condition) → length more < length lows + 1 → length (if whole then more else (record { axis = axis; low = a; high = b }) ∷ more) < length (a ∷ lows) + 1
    either true more few = omega arith
    either false more few = omega arith
