-- The columns that are walked, and the models of the glyphs so far.
use Rattle.std.proofs.Common.{◌≡◌, ℕ, zero, suc, ◌+◌, ◌<◌, List, [], ◌∷◌, ◌++◌, length, map, drop, get_or, Result, Ok, refl, sym, ◌∙◌, ap, subst, arith}
use Rattle.std.specs.List.{AllZip}
use Rattle.std.proofs.lemmas.List.{at_drop_more, map-append}
use Rattle.basics.specs.Reading.{◌>>=◌, all_pass}
use Rattle.basics.specs.declared.fault.Fault.{Fault}
use Rattle.source_files.specs.Stops.{StopsBy}
use Rattle.source_files.specs.declared.stop.ReadStop.{ReadStop}
use Rattle.variation_rules.specs.PackedPoints.{count_from}
use Rattle.glif.specs.declared.shape.Outline.{Outline}
use Rattle.font_project.specs.Columns.{column, columns, first_or_nothing, nothing, rest_of}
use Rattle.font_project.proofs.JoinedSteps.{stop_at}

-- ---- columns

first_drop : (row : List Outline) (glyph : ℕ) → first_or_nothing (drop glyph row) ≡ get_or row glyph nothing
first_drop [] zero = refl
first_drop [] (suc glyph) = refl
first_drop (outline ∷ row) zero = refl
first_drop (outline ∷ row) (suc glyph) = first_drop row glyph

rest_drop : (row : List Outline) (glyph : ℕ) → rest_of (drop glyph row) ≡ drop (suc glyph) row
rest_drop [] zero = refl
rest_drop [] (suc glyph) = refl
rest_drop (outline ∷ row) zero = refl
rest_drop (outline ∷ row) (suc glyph) = rest_drop row glyph

pub column_now : (rows : List (List Outline)) (glyph : ℕ) → map first_or_nothing (map (drop glyph) rows) ≡ column rows glyph
column_now [] glyph = refl
column_now (row ∷ rows) glyph = ap (λ (outline : Outline). outline ∷ map first_or_nothing (map (drop glyph) rows)) (first_drop row glyph) ∙ ap (λ (rest : List Outline). get_or row glyph nothing ∷ rest) (column_now rows glyph)

pub rests_now : (rows : List (List Outline)) (glyph : ℕ) → map rest_of (map (drop glyph) rows) ≡ map (drop (glyph + 1)) rows
rests_now [] glyph = refl
rests_now (row ∷ rows) glyph =
    let next : suc glyph ≡ glyph + 1 = omega arith in
    ap (λ (left : List Outline). left ∷ map rest_of (map (drop glyph) rows)) (rest_drop row glyph ∙ ap (λ (n : ℕ). drop n row) next) ∙ ap (λ (rest : List (List Outline)). drop (glyph + 1) row ∷ rest) (rests_now rows glyph)

pub drop_none : (rows : List (List Outline)) → map (drop 0) rows ≡ rows
drop_none [] = refl
drop_none (row ∷ rows) = ap (λ (rest : List (List Outline)). row ∷ rest) (drop_none rows)

count_push : (n first : ℕ) → count_from (suc n) first ≡ count_from n first ++ (first + n) ∷ []
count_push zero first = let same : first ≡ first + 0 = omega arith in ap (λ (k : ℕ). k ∷ []) same
count_push (suc n) first =
    let same : first + 1 + n ≡ first + suc n = omega arith in
    ap (λ (rest : List ℕ). first ∷ rest) (count_push n (first + 1) ∙ ap (λ (k : ℕ). count_from n (first + 1) ++ k ∷ []) same)

pub columns_more : (rows : List (List Outline)) (count : ℕ) → columns rows (count + 1) ≡ columns rows count ++ column rows count ∷ []
columns_more rows count =
    let next : count + 1 ≡ suc count = omega arith in
    let last : 0 + count ≡ count = omega arith in
    ap (λ (n : ℕ). columns rows n) next ∙ (ap (map (column rows)) (count_push count 0) ∙ (map-append (column rows) (count_from count 0) ((0 + count) ∷ []) ∙ ap (λ (n : ℕ). columns rows count ++ column rows n ∷ []) last))

-- ---- place by place

pub zip_push : {A B : Type 0} (R : A → B → Type 0) (xs : List A) (ys : List B) (x : A) (y : B) → AllZip R xs ys → R x y → AllZip R (xs ++ x ∷ []) (ys ++ y ∷ [])
zip_push R [] [] x y all holds = (holds, tt)
zip_push R [] (z ∷ ys) x y all holds = absurd all
zip_push R (z ∷ xs) [] x y all holds = absurd all
zip_push R (z ∷ xs) (w ∷ ys) x y all holds = (all.0, zip_push R xs ys x y all.1 holds)

-- ---- the test of each name

pub fit_step : (test : ℕ → List ℕ → Result (Unit {0}) Fault) (i : ℕ) (names : List (List ℕ)) (name : List ℕ) (whole : Result (Unit {0}) Fault) → i < length names → name ≡ get_or names i name → test i name ≡ Ok tt
    → whole ≡ all_pass test i (drop i names) → whole ≡ all_pass test (i + 1) (drop (i + 1) names)
fit_step test i names name whole below is passes before =
    before ∙ (at_drop_more (all_pass test i) names i name below ∙ ap (λ (r : Result (Unit {0}) Fault). r >>= λ _. all_pass test (i + 1) (drop (i + 1) names)) (ap (test i) (sym is) ∙ passes))

pub fit_stop : (test : ℕ → List ℕ → Result (Unit {0}) Fault) (i : ℕ) (names : List (List ℕ)) (name : List ℕ) (whole : Result (Unit {0}) Fault) (stop : ReadStop) → i < length names → name ≡ get_or names i name
    → StopsBy stop (test i name) → whole ≡ all_pass test i (drop i names) → StopsBy stop whole
fit_stop test i names name whole stop below is stops before =
    let here : StopsBy stop (test i (get_or names i name)) = subst (λ (n : List ℕ). StopsBy stop (test i n)) is stops in
    let rest : Unit {0} → Result (Unit {0}) Fault = λ _. all_pass test (i + 1) (drop (i + 1) names) in
    subst (λ (r : Result (Unit {0}) Fault). StopsBy stop r) (sym (before ∙ at_drop_more (all_pass test i) names i name below)) (stop_at (test i (get_or names i name)) rest stop here)
