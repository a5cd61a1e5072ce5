-- The masters come back, and a row needs the scalars of the earlier regions alone.
use Rattle.std.proofs.Common.{◌≡◌, ℕ, ℤ, pos, ◌+ℤ◌, ◌-ℤ◌, ◌*ℤ◌, List, [], ◌∷◌, ◌++◌, length, map, refl, sym, ◌∙◌, ap, subst, arith}
use Rattle.std.proofs.lemmas.Int.{ints}
use Rattle.std.proofs.lemmas.List.{append_assoc, length-map, map-append, length_push}
use Rattle.std.proofs.Math.IntN.{+ℤ_idr, +ℤ_assoc}
use Rattle.std.specs.List.{AllByRecursion}
use Rattle.fixpoint.specs.Rounding.{round_up, round_down}
use Rattle.fixpoint.proofs.RoundingLemmas.{comes_back}
use Rattle.variation_rules.specs.Scalar.{scalar_of}
use Rattle.variation_rules.specs.declared.region.Triple.{Triple}
use Rattle.region_support.specs.Regions.{AreTriangular, EndsTheRow}
use Rattle.delta_solve.specs.Deltas.{dot, scalars_at, model_value, next_delta, deltas_after, ComeBack, MastersReturn, rows_after, RowsSuffice}

-- what stands after the last delta doesn't count
dot_prefix : (a b c : List ℤ) → length a ≡ length c → dot (a ++ b) c ≡ dot a c
dot_prefix [] [] [] same = refl
dot_prefix [] (b ∷ bs) [] same = refl
dot_prefix [] b (c ∷ cs) same = absurd (omega arith)
dot_prefix (a ∷ as') b [] same = absurd (omega arith)
dot_prefix (a ∷ as') b (c ∷ cs) same = ap (λ z. (a *ℤ c) +ℤ z) (dot_prefix as' b cs (omega arith))

-- a sum of products in two parts
dot_split : (a b c d : List ℤ) → length a ≡ length c → dot (a ++ b) (c ++ d) ≡ dot a c +ℤ dot b d
dot_split [] b [] d same = omega (arith, ints)
dot_split [] b (c ∷ cs) d same = absurd (omega arith)
dot_split (a ∷ as') b [] d same = absurd (omega arith)
dot_split (a ∷ as') b (c ∷ cs) d same =
    ap (λ z. (a *ℤ c) +ℤ z) (dot_split as' b cs d (omega arith)) ∙ sym (+ℤ_assoc (a *ℤ c) (dot as' cs) (dot b d))

-- regions without influence give nothing
none_given : (regions : List (List Triple)) (at deltas : List ℤ) → AllByRecursion (λ region. (positions : ℕ) → scalar_of positions region at ≡ pos 0) regions → dot (scalars_at regions at) deltas ≡ pos 0
none_given [] at deltas none = refl
none_given (region ∷ regions) at [] none = refl
none_given (region ∷ regions) at (d ∷ ds) none =
    let rest = none_given regions at ds none.1 in
    let nothing : pos 0 *ℤ d ≡ pos 0 = omega (arith, ints) in
    rw (none.0 16, rest, nothing) refl

-- the earlier deltas meet the earlier regions alone
earlier_alone : (done rest : List (List Triple)) (at earlier : List ℤ) → length earlier ≡ length done → dot (scalars_at (done ++ rest) at) earlier ≡ dot (scalars_at done at) earlier
earlier_alone done rest at earlier same =
    let f : List Triple → ℤ = λ region. scalar_of 16 region at in
    ap (λ row. dot row earlier) (map-append f done rest) ∙ dot_prefix (map f done) (map f rest) earlier (omega (arith, length-map done f))

-- so both rows give the master one delta
same_next : (done rest : List (List Triple)) (at earlier : List ℤ) (value : ℤ) → length earlier ≡ length done → next_delta (scalars_at (done ++ rest) at) value earlier ≡ next_delta (scalars_at done at) value earlier
unfolding next_delta
same_next done rest at earlier value same =
    ap (λ given. round_down ((pos 65536 *ℤ value) -ℤ given) 65536) (earlier_alone done rest at earlier same)

-- the masters that are left have the same deltas by both rows
rows_from : (done regions : List (List Triple)) (earlier : List ℤ) (ats : List (List ℤ)) (values : List ℤ) → length earlier ≡ length done → length values ≡ length (rows_after done regions ats)
    → deltas_after earlier (rows_after done regions ats) values ≡ deltas_after earlier (map (scalars_at (done ++ regions)) ats) values
rows_from done [] earlier [] [] same count = refl
rows_from done [] earlier (at ∷ ats) [] same count = refl
rows_from done [] earlier ats (v ∷ vs) same count = absurd (omega arith)
rows_from done (r ∷ rs) earlier [] [] same count = refl
rows_from done (r ∷ rs) earlier [] (v ∷ vs) same count = absurd (omega arith)
rows_from done (r ∷ rs) earlier (at ∷ ats) [] same count = absurd (omega arith)
rows_from done (r ∷ rs) earlier (at ∷ ats) (v ∷ vs) same count =
    let d = next_delta (scalars_at done at) v earlier in
    let own : next_delta (scalars_at (done ++ r ∷ rs) at) v earlier ≡ d = same_next done (r ∷ rs) at earlier v same in
    let whole : (done ++ (r ∷ [])) ++ rs ≡ done ++ r ∷ rs = append_assoc done (r ∷ []) rs in
    let rest = rows_from (done ++ (r ∷ [])) rs (earlier ++ (d ∷ [])) ats vs (omega (arith, length_push done r, length_push earlier d)) (omega arith) in
    let moved : deltas_after (earlier ++ (d ∷ [])) (rows_after (done ++ (r ∷ [])) rs ats) vs ≡ deltas_after (earlier ++ (d ∷ [])) (map (scalars_at (done ++ r ∷ rs)) ats) vs =
    rest ∙ ap (λ all. deltas_after (earlier ++ (d ∷ [])) (map (scalars_at all) ats) vs) whole in
    ap (λ more. d ∷ more) moved ∙ ap (λ e. e ∷ deltas_after (earlier ++ (e ∷ [])) (map (scalars_at (done ++ r ∷ rs)) ats) vs) (sym own)

pub rows_law : RowsSuffice
rows_law regions locations values count = rows_from [] regions [] locations values refl count

-- At a location where the own region is whole and the later ones don't count, the value of all deltas is what the
-- earlier ones give and the own delta.
value_here : (done later : List (List Triple)) (own : List Triple) (at earlier : List ℤ) (d : ℤ) (more : List ℤ) → length earlier ≡ length done → EndsTheRow (own ∷ later) at
    → model_value (done ++ own ∷ later) (earlier ++ d ∷ more) at ≡ dot (scalars_at (done ++ own ∷ later) at) earlier +ℤ (pos 65536 *ℤ d)
value_here done later own at earlier d more same ends =
    let f : List Triple → ℤ = λ region. scalar_of 16 region at in
    let split = dot_split (map f done) (f own ∷ map f later) earlier (d ∷ more) (omega (arith, length-map done f)) in
    let none = none_given later at more ends.1 in
    let own_part : (f own *ℤ d) +ℤ dot (map f later) more ≡ pos 65536 *ℤ d =
    ap (λ s. (s *ℤ d) +ℤ dot (map f later) more) (ends.0 16) ∙ (ap (λ z. (pos 65536 *ℤ d) +ℤ z) none ∙ +ℤ_idr (pos 65536 *ℤ d)) in
    ap (λ row. dot row (earlier ++ d ∷ more)) (map-append f done (own ∷ later))
    ∙ (split ∙ (ap (λ z. dot (map f done) earlier +ℤ z) own_part ∙ ap (λ z. z +ℤ (pos 65536 *ℤ d)) (sym (earlier_alone done (own ∷ later) at earlier same))))

-- a master's delta brings its value back
own_returns : (row earlier : List ℤ) (value : ℤ) → round_up (dot row earlier +ℤ (pos 65536 *ℤ next_delta row value earlier)) 65536 ≡ value
unfolding next_delta
own_returns row earlier value = comes_back (dot row earlier) value

-- the masters that are left come back
return_after : (done regions : List (List Triple)) (earlier : List ℤ) (ats : List (List ℤ)) (values : List ℤ) → length earlier ≡ length done → AreTriangular regions ats
    → ComeBack (done ++ regions) (earlier ++ deltas_after earlier (map (scalars_at (done ++ regions)) ats) values) ats values
return_after done regions earlier [] values same ends = tt
return_after done [] earlier (at ∷ ats) values same ends = absurd ends
return_after done (own ∷ later) earlier (at ∷ ats) [] same ends = tt
return_after done (own ∷ later) earlier (at ∷ ats) (v ∷ vs) same ends =
    let row = scalars_at (done ++ own ∷ later) at in
    let d = next_delta row v earlier in
    let more = deltas_after (earlier ++ (d ∷ [])) (map (scalars_at (done ++ own ∷ later)) ats) vs in
    let here = ap (λ z. round_up z 65536) (value_here done later own at earlier d more same ends.0) ∙ own_returns row earlier v in
    let rest = return_after (done ++ (own ∷ [])) later (earlier ++ (d ∷ [])) ats vs (omega (arith, length_push done own, length_push earlier d)) ends.1 in
    let whole : (done ++ (own ∷ [])) ++ later ≡ done ++ own ∷ later = append_assoc done (own ∷ []) later in
    let of_whole = subst (λ all. ComeBack all ((earlier ++ (d ∷ [])) ++ deltas_after (earlier ++ (d ∷ [])) (map (scalars_at all) ats) vs) ats vs) whole rest in
    (here, subst (λ deltas. ComeBack (done ++ own ∷ later) deltas ats vs) (append_assoc earlier (d ∷ []) more) of_whole)

pub masters_law : MastersReturn
masters_law regions locations values ends = return_after [] regions [] locations values refl ends
