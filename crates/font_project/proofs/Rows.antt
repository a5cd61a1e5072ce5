-- The outlines of masters in their order, of sources whose outlines have the shapes of the default's.
use Rattle.std.proofs.Common.{◌≡◌, ◌≢◌, ℕ, ℤ, zero, suc, ◌+◌, ◌<◌, List, [], ◌∷◌, length, get_or, All, Option, Some, None, Ok, refl, sym, ◌∙◌, ap, subst, arith}
use Rattle.std.specs.Prelude.{nat_eq, slice_get}
use Rattle.std.specs.List.{AllPairs}
use Rattle.std.proofs.lemmas.Bool.Decides.{Decides-eqb, nat_tests}
use Rattle.std.proofs.lemmas.List.{length-map}
use Rattle.std.proofs.lemmas.Map.Keys.{IsDistinct-IsPermutation}
use Rattle.std.proofs.lemmas.Map.Made.{AllPairs-from_IsDistinct, IsDistinct-from_AllPairs}
use Rattle.variation_rules.specs.PackedPoints.{count_from}
use Rattle.basics.specs.Reading.{all_pass}
use Rattle.glif.specs.Limits.{IsWithinLimits}
use Rattle.glif.specs.Shapes.{contour_kinds}
use Rattle.glif.specs.declared.shape.Outline.{Outline}
use Rattle.compat.specs.declared.compared.Difference.{Difference}
use Rattle.compat.proofs.Alike.{none_alike}
use Rattle.region_support.specs.Sorting.{IsOrder, location_at}
use Rattle.region_support.proofs.LocationLemmas.{number_below, order_length}
use Rattle.delta_solve.specs.GlyphModels.{default_of}
use Rattle.font_project.specs.Columns.{column, no_outlines, nothing, rows_in}
use Rattle.font_project.specs.Fonts.{default_outlined}
use Rattle.font_project.specs.Limits.{AreAlikeWithin, IsOutlinedWithin}
use Rattle.font_project.specs.Masters.{AreFitRows}
use Rattle.font_project.specs.Shapes.{has_shape, has_shape_in_each, have_shapes, same_shape_or, shapes_differ}
use Rattle.font_project.specs.declared.outlined.OutlinedSource.{OutlinedSource}
use Rattle.font_project.proofs.Passing.{item_at, pass_at}

-- ---- the order of masters

-- numbers that count up differ
pub count_length : (n first : ℕ) → length (count_from n first) ≡ n
count_length zero first = refl
count_length (suc n) first = ap suc (count_length n (first + 1))

pub counted : (n first k d : ℕ) → k < n → get_or (count_from n first) k d ≡ first + k
counted zero first k d below = absurd (omega arith)
counted (suc n) first zero d below = omega arith
counted (suc n) first (suc k) d below = counted n (first + 1) k d (omega arith) ∙ omega arith

count_apart : (n : ℕ) → AllPairs (λ first second. first ≢ second) (count_from n 0)
count_apart n i j d before inside same =
    let below : j < n = omega (arith, count_length n 0) in
    absurd (omega (arith, counted n 0 i d (omega arith), counted n 0 j d below, same))

flipped : (x y : ℕ) → nat_eq x y ≡ nat_eq y x
flipped x y = grind (arith, nat_tests)

-- no number stands twice in an order
pub numbers_apart : (listed : List (List ℤ)) (order : List ℕ) → IsOrder listed order → AllPairs (λ first second. first ≢ second) order
numbers_apart listed order is =
    let numbers = count_from (length listed) 0 in
    AllPairs-from_IsDistinct Decides-eqb order
    (IsDistinct-IsPermutation nat_eq flipped numbers order is.all (IsDistinct-from_AllPairs Decides-eqb numbers (count_apart (length listed))))

pub order_count : (listed : List (List ℤ)) (order : List ℕ) → IsOrder listed order → length order ≡ length listed
order_count listed order is = sym (length-map order (location_at listed)) ∙ order_length listed order is

-- there is a first
pub some_order : (listed : List (List ℤ)) (order : List ℕ) → IsOrder listed order → 0 < length order
some_order listed [] is = absurd is.rising.default_first
some_order listed (number ∷ order) is = omega arith

pub numbers_below : (listed : List (List ℤ)) (order : List ℕ) (count : ℕ) → IsOrder listed order → count ≡ length listed → All (λ number. number < count) order
numbers_below listed order count is same k d below = omega (arith, number_below listed order is k d below, same)

-- ---- shapes

no_difference : (folder name : List ℕ) (difference : Option Difference) → same_shape_or folder name difference ≡ Ok tt → difference ≡ None
no_difference folder name None passes = refl
no_difference folder name (Some difference) passes = cc

-- a source's outline of a glyph has the kinds of the default's
pub kinds_same : (names : List (List ℕ)) (default : OutlinedSource) (outlined : List OutlinedSource) → have_shapes names default outlined ≡ Ok tt → (s : ℕ) (source : OutlinedSource) → slice_get outlined s ≡ Some source
    → (glyph : ℕ) → glyph < length names → glyph < length default.outlines → glyph < length source.outlines → contour_kinds (get_or source.outlines glyph nothing) ≡ contour_kinds (get_or default.outlines glyph nothing)
unfolding has_shape_in_each
kinds_same names default outlined all s source stands glyph below first second =
    let name : List ℕ = get_or names glyph [] in
    let each : all_pass (has_shape default (0 + glyph) name) 0 outlined ≡ Ok tt = pass_at (has_shape_in_each default outlined) 0 names all glyph name (item_at names glyph [] below) in
    let here : has_shape default (0 + glyph) name (0 + s) source ≡ Ok tt = pass_at (has_shape default (0 + glyph) name) 0 outlined each s source stands in
    let number : 0 + glyph ≡ glyph = omega arith in
    let none : shapes_differ (slice_get default.outlines glyph) (slice_get source.outlines glyph) ≡ None =
    no_difference source.folder name (shapes_differ (slice_get default.outlines glyph) (slice_get source.outlines glyph))
    (subst (λ (n : ℕ). same_shape_or source.folder name (shapes_differ (slice_get default.outlines n) (slice_get source.outlines n)) ≡ Ok tt) number here) in
    let a : Outline = get_or default.outlines glyph nothing in
    let b : Outline = get_or source.outlines glyph nothing in
    let same : shapes_differ (Some a) (Some b) ≡ None =
    subst (λ (found : Option Outline). shapes_differ found (Some b) ≡ None) (item_at default.outlines glyph nothing first)
    (subst (λ (found : Option Outline). shapes_differ (slice_get default.outlines glyph) found ≡ None) (item_at source.outlines glyph nothing second) none) in
    sym (none_alike a b same)

-- ---- the rows

abbrev pub row_at : List OutlinedSource → ℕ → List Outline
row_at outlined number = (get_or outlined number no_outlines).outlines

-- the default's outline in a column
pub default_in_column : (outlined : List OutlinedSource) (order : List ℕ) (glyph : ℕ) → 0 < length order → default_of (column (rows_in outlined order) glyph) ≡ get_or (row_at outlined (get_or order 0 0)) glyph nothing
default_in_column outlined [] glyph some = absurd (omega arith)
default_in_column outlined (number ∷ order) glyph some = refl

-- a master's outline in a column
in_column : (outlined : List OutlinedSource) (order : List ℕ) (glyph k : ℕ) (d : Outline) → k < length order → get_or (column (rows_in outlined order) glyph) k d ≡ get_or (row_at outlined (get_or order k 0)) glyph nothing
in_column outlined [] glyph k d below = absurd (omega arith)
in_column outlined (number ∷ order) glyph zero d below = refl
in_column outlined (number ∷ order) glyph (suc k) d below = in_column outlined order glyph k d (omega (arith, below))

column_length : (outlined : List OutlinedSource) (order : List ℕ) (glyph : ℕ) → length (column (rows_in outlined order) glyph) ≡ length order
column_length outlined [] glyph = refl
column_length outlined (number ∷ order) glyph = ap suc (column_length outlined order glyph)

pub row_within : (names : List (List ℕ)) (sources default number : ℕ) (outlined : List OutlinedSource) → AreAlikeWithin (length names) sources default outlined → number < sources → IsOutlinedWithin (length names) (get_or outlined number no_outlines)
row_within names sources default number outlined within below = within.each number no_outlines (omega (arith, below, within.one_each))

pub fit_rows : (names : List (List ℕ)) (listed : List (List ℤ)) (order : List ℕ) (outlined : List OutlinedSource) → IsOrder listed order → AreAlikeWithin (length names) (length listed) (get_or order 0 0) outlined
    → AreFitRows (length listed) (length names) (rows_in outlined order)
fit_rows names listed order outlined is within =
    let some = some_order listed order is in record {
      one_each = length-map order (row_at outlined) ∙ order_count listed order is;
      within = λ glyph inside k d below.
          let place : k < length order = omega (arith, below, column_length outlined order glyph) in
          let source = row_within names (length listed) (get_or order 0 0) (get_or order k 0) outlined within (number_below listed order is k 0 place) in
          subst IsWithinLimits (sym (in_column outlined order glyph k d place)) (source.within glyph nothing (omega (arith, inside, source.one_each)));
      alike = λ glyph inside k d below.
          let place : k < length order = omega (arith, below, column_length outlined order glyph) in
          let number : get_or order k 0 < length listed = number_below listed order is k 0 place in
          ap contour_kinds (in_column outlined order glyph k d place)
          ∙ (within.alike (get_or order k 0) glyph number inside ∙ ap contour_kinds (sym (default_in_column outlined order glyph some)));
    }
