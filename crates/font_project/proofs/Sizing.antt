-- The models together are few enough where the outlines are.
use Rattle.std.proofs.Common.{◌≡◌, ◌≢◌, ℕ, ℤ, zero, suc, ◌+◌, ◌*◌, ◌<◌, ◌≤◌, Bool, true, false, cond, List, [], ◌∷◌, length, map, get_or, All, Option, Some, Result, Ok, Err, refl, sym, ◌∙◌, ap, subst, arith, mul_comm, mul-add}
use Rattle.std.specs.Prelude.{nat_eq, nat_le, slice_get, sum, sum_by}
use Rattle.std.specs.List.{AllZip}
use Rattle.std.proofs.lemmas.Bool.Decides.{nat_tests}
use Rattle.std.proofs.lemmas.Bool.{eqb-true}
use Rattle.std.proofs.lemmas.List.Elements.{All-cons, All-head, All-nil, All-tail}
use Rattle.std.proofs.lemmas.List.Sums.{sum_by-cons, sum-map}
use Rattle.variation_rules.specs.declared.region.Triple.{Triple}
use Rattle.basics.specs.Reading.{◌>>=◌, in_turn}
use Rattle.glif.specs.Shapes.{contour_kinds}
use Rattle.glif.specs.declared.shape.Outline.{Outline}
use Rattle.delta_solve.specs.GlyphModels.{IsModelOf, default_of}
use Rattle.delta_solve.specs.Deltas.{whole_rows}
use Rattle.delta_solve.specs.Outlines.{points_of}
use Rattle.delta_solve.specs.declared.model.GlyphModel.{GlyphModel}
use Rattle.delta_solve.proofs.Columns.{same_points}
use Rattle.glyph_variations.specs.Conditions.{point_count}
use Rattle.glyph_variations.proofs.DrawsLemmas.{outline_count}
use Rattle.glyph_variations.proofs.ModelLemmas.{points_of_default}
use Rattle.font_model.specs.Fit.{points_in}
use Rattle.font_project.specs.Columns.{no_outlines, nothing}
use Rattle.font_project.specs.Numbers.{default_first, others_from}
use Rattle.font_project.specs.Sizes.{are_few, outline_size, size_fault, size_of, size_or, with_outline, with_outlines, with_source}
use Rattle.font_project.specs.declared.outlined.OutlinedSource.{OutlinedSource}
use Rattle.font_project.proofs.Passing.{item_at}

-- ---- the numbers

-- one number more
others_more : (default count number : ℕ) (test : Bool) → nat_eq number default ≡ test
    → (number + 1 ≤ default → default < number + 1 + count → length (others_from default count (number + 1)) + 1 ≡ count) → (default < number + 1 → length (others_from default count (number + 1)) ≡ count)
    → (number ≤ default → default < number + suc count → length (cond test (others_from default count (number + 1)) (number ∷ others_from default count (number + 1))) + 1 ≡ suc count)
    × (default < number → length (cond test (others_from default count (number + 1)) (number ∷ others_from default count (number + 1))) ≡ suc count)
others_more default count number true is before behind =
    let same : number ≡ default = eqb-true number default is in
    (λ low high. let rest = behind (omega arith) in omega (arith, rest), λ low. absurd (omega arith))
others_more default count number false is before behind =
    let differ : number ≢ default = λ same. absurd (let test : nat_eq number default ≡ true = grind (arith, nat_tests, same) in cc) in
    (λ low high. let rest = before (omega (arith, differ)) (omega arith) in omega (arith, rest), λ low. let rest = behind (omega arith) in omega (arith, rest))

others_length : (default count number : ℕ) → (number ≤ default → default < number + count → length (others_from default count number) + 1 ≡ count) × (default < number → length (others_from default count number) ≡ count)
others_length default zero number = (λ low high. absurd (omega arith), λ low. refl)
others_length default (suc count) number =
    let rest = others_length default count (number + 1) in
    others_more default count number (nat_eq number default) refl rest.0 rest.1

numbers_length : (default count : ℕ) → default < count → length (default_first default count) ≡ count
unfolding default_first
numbers_length default count there =
    let rest = (others_length default count 0).0 (omega arith) (omega arith) in omega (arith, rest)

-- each is below the count
below_more : (default count number bound : ℕ) (test : Bool) → number < bound → All (λ n. n < bound) (others_from default count (number + 1)) → All (λ n. n < bound) (cond test (others_from default count (number + 1)) (number ∷ others_from default count (number + 1)))
below_more default count number bound true less rest = rest
below_more default count number bound false less rest = All-cons (λ n. n < bound) number (others_from default count (number + 1)) less rest

others_below : (default count number bound : ℕ) → number + count ≤ bound → All (λ n. n < bound) (others_from default count number)
others_below default zero number bound within = All-nil (λ n. n < bound)
others_below default (suc count) number bound within =
    below_more default count number bound (nat_eq number default) (omega arith) (others_below default count (number + 1) bound (omega arith))

numbers_below : (default count : ℕ) → default < count → All (λ n. n < count) (default_first default count)
unfolding default_first
numbers_below default count there = All-cons (λ n. n < count) default (others_from default count 0) there (others_below default count 0 count (omega arith))

-- ---- sums

-- the value on the way
both_ok : {A B F : Type 0} (step : Result A F) (next : A → Result B F) (y : B) → (step >>= next) ≡ Ok y → (x : A) × (step ≡ Ok x) × (next x ≡ Ok y)
both_ok (Ok x) next y both = (x, refl, both)
both_ok (Err fault) next y both = cc

size_step : (few : Bool) (sum x : ℕ) → cond few (Ok sum) (Err (size_fault sum)) ≡ Ok x → (few ≡ true) × (x ≡ sum)
size_step true sum x is = (refl, cc)
size_step false sum x is = cc

size_is : (sum x : ℕ) → size_or sum ≡ Ok x → (x ≡ sum) × (x ≤ 16777216)
size_is sum x is =
    let step = size_step (nat_le sum 16777216) sum x is in
    let few : sum ≤ 16777216 = grind (arith, nat_tests, step.0) in
    (step.1, omega (arith, few, step.1))

-- the sum behind the outlines of a source
sum_outlines : (sum : ℕ) (outlines : List Outline) (total : ℕ) → in_turn with_outline sum outlines ≡ Ok total → (total ≡ sum + sum_by outline_size outlines) × (sum ≤ 16777216 → total ≤ 16777216)
sum_outlines sum [] total is =
    let same : sum ≡ total = cc in
    (omega arith, λ few. omega arith)
sum_outlines sum (outline ∷ outlines) total is =
    let both = both_ok (with_outline sum outline) (λ next. in_turn with_outline next outlines) total is in
    let here = size_is (sum + outline_size outline) both.0 both.1 in
    let rest = sum_outlines both.0 outlines total both.2 in
    let parts : sum_by outline_size (outline ∷ outlines) ≡ outline_size outline + sum_by outline_size outlines = sum_by-cons outline_size outline outlines in
    (rest.0 ∙ (ap (λ n. n + sum_by outline_size outlines) here.0 ∙ (omega arith ∙ ap (λ n. sum + n) (sym parts))), λ few. rest.1 here.1)

-- behind a source that has this size
sum_source : (sum size : ℕ) (sources : List OutlinedSource) (number total : ℕ) → number < length sources → sum_by outline_size (get_or sources number no_outlines).outlines ≡ size
    → with_source sum (slice_get sources number) ≡ Ok total → (total ≡ sum + size) × (sum ≤ 16777216 → total ≤ 16777216)
unfolding with_outlines
sum_source sum size sources number total below sized is =
    let here : with_source sum (Some (get_or sources number no_outlines)) ≡ Ok total = subst (λ (found : Option OutlinedSource). with_source sum found ≡ Ok total) (item_at sources number no_outlines below) is in
    let both = sum_outlines sum (get_or sources number no_outlines).outlines total here in
    (both.0 ∙ ap (λ n. sum + n) sized, both.1)

sum_sources : (size : ℕ) (sources : List OutlinedSource) → ((number : ℕ) → number < length sources → sum_by outline_size (get_or sources number no_outlines).outlines ≡ size)
    → (sum : ℕ) (numbers : List ℕ) (total : ℕ) → All (λ number. number < length sources) numbers → in_turn (λ sum number. with_source sum (slice_get sources number)) sum numbers ≡ Ok total
    → (total ≡ sum + length numbers * size) × (sum ≤ 16777216 → total ≤ 16777216)
sum_sources size sources sized sum [] total below is =
    let same : sum ≡ total = cc in
    (omega arith, λ few. omega arith)
sum_sources size sources sized sum (number ∷ numbers) total below is =
    let both = both_ok (with_source sum (slice_get sources number)) (λ next. in_turn (λ sum number. with_source sum (slice_get sources number)) next numbers) total is in
    let first : number < length sources = All-head (λ number. number < length sources) number numbers below in
    let here = sum_source sum size sources number both.0 first (sized number first) both.1 in
    let rest = sum_sources size sources sized both.0 numbers total (All-tail (λ number. number < length sources) number numbers below) both.2 in
    let product : suc (length numbers) * size ≡ size + length numbers * size = omega arith in
    (rest.0 ∙ (ap (λ n. n + length numbers * size) here.0 ∙ (omega (arith, product))), λ few. rest.1 (here.1 few))

-- so many outlines of this size are few
pub sources_few : (size default : ℕ) (sources : List OutlinedSource) → default < length sources → ((number : ℕ) → number < length sources → sum_by outline_size (get_or sources number no_outlines).outlines ≡ size)
    → are_few sources (default_first default (length sources)) ≡ Ok tt → length sources * size ≤ 16777216
sources_few size default sources there sized few =
    let numbers = default_first default (length sources) in
    let both = both_ok (size_of sources numbers) (λ _. Ok tt) tt few in
    let sums = sum_sources size sources sized 0 numbers both.0 (numbers_below default (length sources) there) both.1 in
    let count : length numbers ≡ length sources = numbers_length default (length sources) there in
    let total : both.0 ≡ length sources * size = sums.0 ∙ (omega arith ∙ ap (λ n. n * size) count) in
    omega (arith, total, sums.1 (omega arith))

-- ---- the sizes of outlines

size_of_points : (outline : Outline) → outline_size outline ≡ length (points_of outline) + 4
size_of_points outline = ap (λ n. n + 4) (sym (sum-map length outline.contours) ∙ outline_count outline)

pub same_size : (a b : Outline) → contour_kinds a ≡ contour_kinds b → outline_size a ≡ outline_size b
same_size a b same = size_of_points a ∙ (ap (λ n. n + 4) (same_points a b same) ∙ sym (size_of_points b))

-- lists of outlines of equal kinds have one size
pub same_sizes : (xs ys : List Outline) → length xs ≡ length ys → ((glyph : ℕ) → glyph < length xs → contour_kinds (get_or xs glyph nothing) ≡ contour_kinds (get_or ys glyph nothing)) → sum_by outline_size xs ≡ sum_by outline_size ys
same_sizes [] [] count same = refl
same_sizes [] (y ∷ ys) count same = absurd (omega arith)
same_sizes (x ∷ xs) [] count same = absurd (omega arith)
same_sizes (x ∷ xs) (y ∷ ys) count same =
    sum_by-cons outline_size x xs
    ∙ (ap (λ n. n + sum_by outline_size xs) (same_size x y (same 0 (omega arith)))
    ∙ (ap (λ n. outline_size y + n) (same_sizes xs ys (omega arith) (λ glyph below. same (suc glyph) (omega (arith, below))))
    ∙ sym (sum_by-cons outline_size y ys)))

-- the sizes of models
pub models_size : (regions : List (List Triple)) (locations : List (List ℤ)) (masters : ℕ) (columns : List (List Outline)) (models : List GlyphModel) → All (λ column. length column ≡ masters) columns
    → AllZip (IsModelOf regions locations) columns models → sum_by points_in models ≡ masters * sum_by outline_size (map default_of columns)
models_size regions locations masters [] [] counts are = omega arith
models_size regions locations masters [] (model ∷ models) counts are = absurd are
models_size regions locations masters (column ∷ columns) [] counts are = absurd are
models_size regions locations masters (column ∷ columns) (model ∷ models) counts are =
    let P : List Outline → Type 0 = λ column. length column ≡ masters in
    let rest = models_size regions locations masters columns models (All-tail P column columns counts) are.1 in
    let points : point_count model.tuples + 4 ≡ outline_size (default_of column) = ap (λ n. n + 4) (points_of_default (whole_rows regions locations) column model.tuples are.0.tuples) ∙ sym (size_of_points (default_of column)) in
    let count : length model.tuples ≡ masters = are.0.tuples.one_each ∙ All-head P column columns counts in
    let here : points_in model ≡ masters * outline_size (default_of column) = ap (λ n. n * length model.tuples) points ∙ (ap (λ n. outline_size (default_of column) * n) count ∙ mul_comm (outline_size (default_of column)) masters) in
    sum_by-cons points_in model models
    ∙ (ap (λ n. n + sum_by points_in models) here
    ∙ (ap (λ n. masters * outline_size (default_of column) + n) rest
    ∙ (sym (mul-add masters (outline_size (default_of column)) (sum_by outline_size (map default_of columns)))
    ∙ ap (λ n. masters * n) (sym (sum_by-cons outline_size (default_of column) (map default_of columns))))))
