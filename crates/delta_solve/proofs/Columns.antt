-- One number of a glyph over all masters: its deltas in the tuples so far, and those that the masters left give.
use Rattle.std.proofs.Common.{◌≡◌, ℕ, ℤ, zero, suc, pos, ◌+◌, ◌<◌, ◌≤◌, Bool, true, false, List, [], ◌∷◌, ◌++◌, length, map, flat_map, drop, get_or, All, refl, sym, ◌∙◌, ap, arith}
use Rattle.std.proofs.lemmas.List.{drop_more, map_push, append_assoc, append-nil, get_or_at, drop_all, length-map, length-append, length_push}
use Rattle.std.proofs.lemmas.List.Elements.{All-push}
use Rattle.glif.specs.declared.shape.Outline.{Outline}
use Rattle.glif.specs.declared.shape.Point.{Point}
use Rattle.variation_rules.specs.PackedPoints.{count_from}
use Rattle.delta_solve.specs.Deltas.{next_delta, deltas_after, deltas_by}
use Rattle.delta_solve.specs.GlyphModels.{AreTuplesBy, IsNextTuple, default_of, delta_advance, delta_at, delta_x, delta_y, fault_by, first_some, misfit, misfits_in, misfits_of, next_advance, next_misfits, next_x, next_y, point_misfits}
use Rattle.delta_solve.specs.Outlines.{advance_of, all_points, position, points_of, x_of, y_of}
use Rattle.glif.specs.Shapes.{contour_kinds}
use Rattle.delta_solve.specs.declared.model.GlyphTuple.{GlyphTuple}

-- the deltas so far and those of the masters from this one on are all
abbrev pub IsColumn : (GlyphTuple → ℤ) → (Outline → ℤ) → List (List ℤ) → List Outline → ℕ → List GlyphTuple → Type 0
IsColumn delta value rows outlines master tuples =
    map delta tuples ++ deltas_after (map delta tuples) (drop master rows) (map value (drop master outlines)) ≡ deltas_by rows (map value outlines)

-- what is left begins with this master's delta
column_next : (delta : GlyphTuple → ℤ) (value : Outline → ℤ) (rows : List (List ℤ)) (outlines : List Outline) (k : ℕ) (tuples : List GlyphTuple) (row : List ℤ) (outline : Outline) → k < length rows → k < length outlines → row ≡ get_or rows k row → outline ≡ get_or outlines k outline
    → IsColumn delta value rows outlines k tuples
    → map delta tuples ++ (next_delta row (value outline) (map delta tuples) ∷ deltas_after (map delta tuples ++ (next_delta row (value outline) (map delta tuples) ∷ [])) (drop (k + 1) rows) (map value (drop (k + 1) outlines))) ≡ deltas_by rows (map value outlines)
column_next delta value rows outlines k tuples row outline inside also row_is outline_is so_far =
    let next : drop k rows ≡ row ∷ drop (k + 1) rows = rw (drop_more rows k row inside, ← row_is) in
    let next_outline : drop k outlines ≡ outline ∷ drop (k + 1) outlines = rw (drop_more outlines k outline also, ← outline_is) in
    rw (next, next_outline) at so_far

-- one master more
pub column_step : (delta : GlyphTuple → ℤ) (value : Outline → ℤ) (rows : List (List ℤ)) (outlines : List Outline) (k : ℕ) (tuples : List GlyphTuple) (tuple : GlyphTuple) (row : List ℤ) (outline : Outline) → k < length rows → k < length outlines → row ≡ get_or rows k row → outline ≡ get_or outlines k outline
    → delta tuple ≡ next_delta row (value outline) (map delta tuples) → IsColumn delta value rows outlines k tuples → IsColumn delta value rows outlines (k + 1) (tuples ++ tuple ∷ [])
column_step delta value rows outlines k tuples tuple row outline inside also row_is outline_is own so_far =
    let next = next_delta row (value outline) (map delta tuples) in
    let grown : map delta (tuples ++ tuple ∷ []) ≡ map delta tuples ++ (next ∷ []) = map_push delta tuples tuple ∙ ap (λ d. map delta tuples ++ (d ∷ [])) own in
    let rest = deltas_after (map delta tuples ++ (next ∷ [])) (drop (k + 1) rows) (map value (drop (k + 1) outlines)) in
    ap (λ deltas. deltas ++ deltas_after deltas (drop (k + 1) rows) (map value (drop (k + 1) outlines))) grown
    ∙ (append_assoc (map delta tuples) (next ∷ []) rest ∙ column_next delta value rows outlines k tuples row outline inside also row_is outline_is so_far)

-- the master's delta among those of all
pub column_here : (delta : GlyphTuple → ℤ) (value : Outline → ℤ) (rows : List (List ℤ)) (outlines : List Outline) (k : ℕ) (tuples : List GlyphTuple) (row : List ℤ) (outline : Outline) → k < length rows → k < length outlines → row ≡ get_or rows k row → outline ≡ get_or outlines k outline
    → length tuples ≡ k → IsColumn delta value rows outlines k tuples → delta_at rows (map value outlines) k ≡ next_delta row (value outline) (map delta tuples)
column_here delta value rows outlines k tuples row outline inside also row_is outline_is count so_far =
    let next = next_delta row (value outline) (map delta tuples) in
    let rest = deltas_after (map delta tuples ++ (next ∷ [])) (drop (k + 1) rows) (map value (drop (k + 1) outlines)) in
    ap (λ deltas. get_or deltas k (pos 0)) (sym (column_next delta value rows outlines k tuples row outline inside also row_is outline_is so_far))
    ∙ get_or_at (map delta tuples) next rest (pos 0) k (length-map tuples delta ∙ count)

-- at the end the tuples have all deltas
pub column_end : (delta : GlyphTuple → ℤ) (value : Outline → ℤ) (rows : List (List ℤ)) (outlines : List Outline) (k : ℕ) (tuples : List GlyphTuple) → length rows ≤ k → IsColumn delta value rows outlines k tuples → map delta tuples ≡ deltas_by rows (map value outlines)
column_end delta value rows outlines k tuples ended so_far =
    let none : drop k rows ≡ [] = drop_all k rows ended in
    sym (append-nil (map delta tuples)) ∙ (rw none at so_far)

-- ---- all numbers of a glyph

-- outlines with points of the same kinds have as many points
kinds_count : (contours : List (List Point)) → length (flat_map (λ (contour : List Point). contour) contours) ≡ length (flat_map (λ (kinds : List Bool). kinds) (map (λ (contour : List Point). map (λ (point : Point). point.on) contour) contours))
kinds_count [] = refl
kinds_count (contour ∷ contours) =
    let kinds = map (λ (point : Point). point.on) contour in
    let rest = flat_map (λ (contour : List Point). contour) contours in
    let rest_kinds = flat_map (λ (kinds : List Bool). kinds) (map (λ (contour : List Point). map (λ (point : Point). point.on) contour) contours) in
    omega (arith, kinds_count contours, length-append contour rest, length-append kinds rest_kinds, length-map contour (λ (point : Point). point.on))

pub same_points : (outline other : Outline) → contour_kinds outline ≡ contour_kinds other → length (points_of outline) ≡ length (points_of other)
same_points outline other alike =
    omega (arith, length-map (all_points outline) position, length-map (all_points other) position, kinds_count outline.contours, kinds_count other.contours, ap (λ kinds. length (flat_map (λ (kind : List Bool). kind) kinds)) alike)

-- The tuples so far: of each number the masters that are left complete the deltas.
pub record AreSoFar (rows : List (List ℤ)) (outlines : List Outline) (master : ℕ) (tuples : List GlyphTuple) : Type 0 where
  pub count : length tuples ≡ master
  pub points : All (λ (tuple : GlyphTuple). length tuple.deltas ≡ length (points_of (default_of outlines))) tuples
  pub xs : (point : ℕ) → point < length (points_of (default_of outlines)) → IsColumn (delta_x point) (x_of point) rows outlines master tuples
  pub ys : (point : ℕ) → point < length (points_of (default_of outlines)) → IsColumn (delta_y point) (y_of point) rows outlines master tuples
  pub advances : IsColumn delta_advance advance_of rows outlines master tuples

pub none_so_far : (rows : List (List ℤ)) (outlines : List Outline) → AreSoFar rows outlines 0 []
none_so_far rows outlines = record {
  count = refl;
  points = λ k d below. absurd (omega arith);
  xs = λ point below. refl;
  ys = λ point below. refl;
  advances = refl;
}

-- one tuple more
pub one_more : (rows : List (List ℤ)) (outlines : List Outline) (k : ℕ) (tuples : List GlyphTuple) (tuple : GlyphTuple) (row : List ℤ) (outline : Outline) → k < length rows → k < length outlines → row ≡ get_or rows k row → outline ≡ get_or outlines k outline → contour_kinds outline ≡ contour_kinds (default_of outlines)
    → IsNextTuple row tuples outline tuple → AreSoFar rows outlines k tuples → AreSoFar rows outlines (k + 1) (tuples ++ tuple ∷ [])
one_more rows outlines k tuples tuple row outline inside also row_is outline_is alike next so_far =
    let same = same_points outline (default_of outlines) alike in record {
      count = length_push tuples tuple ∙ ap (λ (n : ℕ). n + 1) so_far.count;
      points = All-push (λ (tuple : GlyphTuple). length tuple.deltas ≡ length (points_of (default_of outlines))) tuples tuple so_far.points (next.deltas.one_each ∙ same);
      xs = λ point below. column_step (delta_x point) (x_of point) rows outlines k tuples tuple row outline inside also row_is outline_is (next.deltas.xs point (omega arith)) (so_far.xs point below);
      ys = λ point below. column_step (delta_y point) (y_of point) rows outlines k tuples tuple row outline inside also row_is outline_is (next.deltas.ys point (omega arith)) (so_far.ys point below);
      advances = column_step delta_advance advance_of rows outlines k tuples tuple row outline inside also row_is outline_is next.advance so_far.advances;
    }

-- all tuples
pub all_so_far : (rows : List (List ℤ)) (outlines : List Outline) (k : ℕ) (tuples : List GlyphTuple) → length rows ≡ length outlines → k ≡ length outlines → AreSoFar rows outlines k tuples → AreTuplesBy rows outlines tuples
all_so_far rows outlines k tuples one_each ended so_far = record {
  one_each = so_far.count ∙ ended;
  points = so_far.points;
  xs = λ point below. column_end (delta_x point) (x_of point) rows outlines k tuples (omega arith) (so_far.xs point below);
  ys = λ point below. column_end (delta_y point) (y_of point) rows outlines k tuples (omega arith) (so_far.ys point below);
  advances = column_end delta_advance advance_of rows outlines k tuples (omega arith) so_far.advances;
}

-- what is made of numbers in turn is the same where it is the same of each
counted_same : {A : Type 0} (f g : ℕ → List A) (n first : ℕ) → ((k : ℕ) → first ≤ k → k < first + n → f k ≡ g k) → flat_map f (count_from n first) ≡ flat_map g (count_from n first)
counted_same f g zero first same = refl
counted_same f g (suc n) first same =
    let here = same first (omega arith) (omega arith) in
    let rest = counted_same f g n (first + 1) (λ k low high. same k (omega arith) (omega arith)) in
    λ i. here i ++ rest i

misfits_same : (master points : ℕ) (x y other_x other_y : ℕ → ℤ) (advance other : ℤ) → ((k : ℕ) → k < points → x k ≡ other_x k) → ((k : ℕ) → k < points → y k ≡ other_y k) → advance ≡ other → misfits_in master points x y advance ≡ misfits_in master points other_x other_y other
misfits_same master points x y other_x other_y advance other xs ys same =
    let each = counted_same (point_misfits master x y) (point_misfits master other_x other_y) points 0
    (λ k low high. let x_same = xs k (omega arith) in let y_same = ys k (omega arith) in
    λ i. misfit master k false (x_same i) ∷ misfit master k true (y_same i) ∷ []) in
    λ i. each i ++ (misfit master (points + 1) false (same i) ∷ [])

-- the misfits of this master are those of its tuple
pub misfits_here : (rows : List (List ℤ)) (outlines : List Outline) (k : ℕ) (tuples : List GlyphTuple) (row : List ℤ) (outline : Outline) → k < length rows → k < length outlines → row ≡ get_or rows k row → outline ≡ get_or outlines k outline → contour_kinds outline ≡ contour_kinds (default_of outlines)
    → AreSoFar rows outlines k tuples → misfits_of rows outlines k ≡ next_misfits k row tuples outline
misfits_here rows outlines k tuples row outline inside also row_is outline_is alike so_far =
    let same = same_points outline (default_of outlines) alike in
    let points = points_of outline in
    misfits_same k (length (points_of (default_of outlines)))
    (λ point. delta_at rows (map (x_of point) outlines) k) (λ point. delta_at rows (map (y_of point) outlines) k) (next_x row tuples points) (next_y row tuples points)
    (delta_at rows (map advance_of outlines) k) (next_advance row tuples (advance_of outline))
    (λ point below. column_here (delta_x point) (x_of point) rows outlines k tuples row outline inside also row_is outline_is so_far.count (so_far.xs point below))
    (λ point below. column_here (delta_y point) (y_of point) rows outlines k tuples row outline inside also row_is outline_is so_far.count (so_far.ys point below))
    (column_here delta_advance advance_of rows outlines k tuples row outline inside also row_is outline_is so_far.count so_far.advances)
    ∙ ap (λ n. misfits_in k n (next_x row tuples points) (next_y row tuples points) (next_advance row tuples (advance_of outline))) (sym same)

-- ---- rows that give the same deltas

-- make the same tuples
pub same_tuples : (rows other : List (List ℤ)) (outlines : List Outline) (tuples : List GlyphTuple) → ((values : List ℤ) → length values ≡ length outlines → deltas_by rows values ≡ deltas_by other values) → AreTuplesBy rows outlines tuples → AreTuplesBy other outlines tuples
same_tuples rows other outlines tuples same are = record {
  one_each = are.one_each;
  points = are.points;
  xs = λ point below. are.xs point below ∙ same (map (x_of point) outlines) (length-map outlines (x_of point));
  ys = λ point below. are.ys point below ∙ same (map (y_of point) outlines) (length-map outlines (y_of point));
  advances = are.advances ∙ same (map advance_of outlines) (length-map outlines advance_of);
}

-- and have the same first fault
pub same_fault : (rows other : List (List ℤ)) (outlines : List Outline) → ((values : List ℤ) → length values ≡ length outlines → deltas_by rows values ≡ deltas_by other values) → fault_by rows outlines ≡ fault_by other outlines
same_fault rows other outlines same =
    let points = length (points_of (default_of outlines)) in
    let advance = same (map advance_of outlines) (length-map outlines advance_of) in
    let x : (point : ℕ) → deltas_by rows (map (x_of point) outlines) ≡ deltas_by other (map (x_of point) outlines) = λ point. same (map (x_of point) outlines) (length-map outlines (x_of point)) in
    let y : (point : ℕ) → deltas_by rows (map (y_of point) outlines) ≡ deltas_by other (map (y_of point) outlines) = λ point. same (map (y_of point) outlines) (length-map outlines (y_of point)) in
    λ i. first_some (flat_map (λ master. misfits_in master points (λ point. get_or (x point i) master (pos 0)) (λ point. get_or (y point i) master (pos 0)) (get_or (advance i) master (pos 0))) (count_from (length outlines) 0))
