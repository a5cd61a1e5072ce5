-- The rows of a table, made master by master.
use Rattle.std.proofs.Common.{◌≡◌, ℕ, ℤ, ◌+◌, ◌<◌, List, [], ◌∷◌, ◌++◌, length, take, drop, get_or, ◌∙◌, arith}
use Rattle.std.proofs.lemmas.List.{drop_more, map_more, append_assoc, length_push}
use Rattle.arrayvec.specs.ArrayVec.{ArrayVec}
use Rattle.variation_rules.specs.declared.region.Triple.{Triple}
use Rattle.variation_rules.proofs.FillingLemmas.{each_pushed}
use Rattle.region_support.specs.Coordinates.{coordinates_of, regions_in}
use Rattle.delta_solve.specs.Deltas.{scalars_at, rows_after}
use Rattle.delta_solve.specs.Tables.{AreRows, IsRow}

-- one row more
pub rows_step : (rows : List (List ℤ)) (supports : List (ArrayVec Triple)) (sorted : List (ArrayVec ℤ)) (k : ℕ) (at : ArrayVec ℤ) (row : List ℤ) (whole : List (List ℤ)) → k < length supports → k < length sorted → at ≡ get_or sorted k at → row ≡ scalars_at (regions_in (take k supports)) at.items
    → rows ++ rows_after (regions_in (take k supports)) (regions_in (drop k supports)) (coordinates_of (drop k sorted)) ≡ whole
    → (rows ++ row ∷ []) ++ rows_after (regions_in (take (k + 1) supports)) (regions_in (drop (k + 1) supports)) (coordinates_of (drop (k + 1) sorted)) ≡ whole
rows_step rows supports sorted k at row whole inside also at_is row_is so_far =
    let none : ArrayVec Triple = record { items = [] } in
    let support = get_or supports k none in
    let next : drop k supports ≡ support ∷ drop (k + 1) supports = drop_more supports k none inside in
    let next_at : drop k sorted ≡ at ∷ drop (k + 1) sorted = rw (drop_more sorted k at also, ← at_is) in
    let grown : regions_in (take (k + 1) supports) ≡ regions_in (take k supports) ++ (support.items ∷ []) = map_more (λ (s : ArrayVec Triple). s.items) supports k none inside in
    let rest = rows_after (regions_in (take k supports) ++ (support.items ∷ [])) (regions_in (drop (k + 1) supports)) (coordinates_of (drop (k + 1) sorted)) in
    let step : rows ++ (scalars_at (regions_in (take k supports)) at.items ∷ rest) ≡ whole = rw (next, next_at) at so_far in
    rw (grown, row_is) (append_assoc rows (scalars_at (regions_in (take k supports)) at.items ∷ []) rest ∙ step)

pub rows_pushed : (rows : List (List ℤ)) (row : List ℤ) (k : ℕ) → length rows ≡ k → AreRows rows → IsRow k row → AreRows (rows ++ row ∷ [])
rows_pushed rows row k count are own master below =
    each_pushed IsRow rows row [] k count (λ m inside. are m (omega arith)) own master (omega (arith, length_push rows row))
