-- The deltas of one number, made master by master.
use Rattle.std.proofs.Common.{◌≡◌, ℕ, ℤ, pos, ◌+◌, ◌<◌, false, List, [], ◌∷◌, ◌++◌, length, drop, get_or, Option, Some, None, refl, sym, ◌∙◌, ap, subst}
use Rattle.std.proofs.lemmas.List.{drop_more, append_assoc}
use Rattle.variation_rules.specs.declared.region.Triple.{Triple}
use Rattle.region_support.specs.Regions.{AreTriangular}
use Rattle.delta_solve.specs.Deltas.{next_delta, deltas_after, deltas_by, deltas_of, rows_of, ComeBack}
use Rattle.delta_solve.specs.GlyphModels.{first_some, misfit, misfits_from, IsStopOf}
use Rattle.delta_solve.specs.declared.model.DeltaStop.{DeltaStop}
use Rattle.delta_solve.proofs.GlyphLemmas.{first_some_past, stop_of}
use Rattle.delta_solve.proofs.MasterLaw.{rows_law, masters_law}

-- what is left begins with this master's delta
next_first : (rows : List (List ℤ)) (values earlier : List ℤ) (k : ℕ) (row : List ℤ) (delta : ℤ) → k < length rows → k < length values → row ≡ get_or rows k row → delta ≡ next_delta row (get_or values k (pos 0)) earlier
    → deltas_after earlier (drop k rows) (drop k values) ≡ delta ∷ deltas_after (earlier ++ (delta ∷ [])) (drop (k + 1) rows) (drop (k + 1) values)
next_first rows values earlier k row delta inside also row_is delta_is =
    let next : drop k rows ≡ row ∷ drop (k + 1) rows = rw (drop_more rows k row inside, ← row_is) in
    rw (next, drop_more values k (pos 0) also, delta_is) refl

-- one delta more
pub number_step : (rows : List (List ℤ)) (values earlier : List ℤ) (k : ℕ) (row : List ℤ) (delta : ℤ) (whole : List ℤ) → k < length rows → k < length values → row ≡ get_or rows k row → delta ≡ next_delta row (get_or values k (pos 0)) earlier
    → earlier ++ deltas_after earlier (drop k rows) (drop k values) ≡ whole → (earlier ++ delta ∷ []) ++ deltas_after (earlier ++ delta ∷ []) (drop (k + 1) rows) (drop (k + 1) values) ≡ whole
number_step rows values earlier k row delta whole inside also row_is delta_is so_far =
    let rest = deltas_after (earlier ++ (delta ∷ [])) (drop (k + 1) rows) (drop (k + 1) values) in
    append_assoc earlier (delta ∷ []) rest ∙ (ap (λ more. earlier ++ more) (sym (next_first rows values earlier k row delta inside also row_is delta_is)) ∙ so_far)

-- and where it fits, the first fault comes later
pub number_fits : (rows : List (List ℤ)) (values earlier : List ℤ) (k : ℕ) (row : List ℤ) (delta : ℤ) (whole : Option DeltaStop) → k < length rows → k < length values → row ≡ get_or rows k row → delta ≡ next_delta row (get_or values k (pos 0)) earlier → misfit k 0 false delta ≡ None
    → first_some (misfits_from k (deltas_after earlier (drop k rows) (drop k values))) ≡ whole → first_some (misfits_from (k + 1) (deltas_after (earlier ++ delta ∷ []) (drop (k + 1) rows) (drop (k + 1) values))) ≡ whole
number_fits rows values earlier k row delta whole inside also row_is delta_is fits so_far =
    let rest = deltas_after (earlier ++ (delta ∷ [])) (drop (k + 1) rows) (drop (k + 1) values) in
    sym (first_some_past (misfit k 0 false delta ∷ []) (misfits_from (k + 1) rest) (ap (λ fault. first_some (fault ∷ [])) fits))
    ∙ (ap (λ deltas. first_some (misfits_from k deltas)) (sym (next_first rows values earlier k row delta inside also row_is delta_is)) ∙ so_far)

-- where it doesn't, it is the first fault
pub number_stops : (rows : List (List ℤ)) (values earlier : List ℤ) (k : ℕ) (row : List ℤ) (delta : ℤ) (whole : Option DeltaStop) (stop : DeltaStop) → k < length rows → k < length values → row ≡ get_or rows k row → delta ≡ next_delta row (get_or values k (pos 0)) earlier → misfit k 0 false delta ≡ Some stop
    → first_some (misfits_from k (deltas_after earlier (drop k rows) (drop k values))) ≡ whole → IsStopOf whole stop
number_stops rows values earlier k row delta whole stop inside also row_is delta_is misfits so_far =
    let rest = deltas_after (earlier ++ (delta ∷ [])) (drop (k + 1) rows) (drop (k + 1) values) in
    let first : first_some (misfit k 0 false delta ∷ misfits_from (k + 1) rest) ≡ Some stop = ap (λ fault. first_some (fault ∷ misfits_from (k + 1) rest)) misfits in
    stop_of whole stop (sym so_far ∙ (ap (λ deltas. first_some (misfits_from k deltas)) (next_first rows values earlier k row delta inside also row_is delta_is) ∙ first))

-- the deltas of a table's rows are those of the regions and locations that it was made for
pub of_regions : (rows : List (List ℤ)) (values : List ℤ) (regions : List (List Triple)) (locations : List (List ℤ)) → length values ≡ length rows → rows ≡ rows_of regions locations → deltas_by rows values ≡ deltas_of regions locations values
of_regions rows values regions locations count is =
    ap (λ rows. deltas_by rows values) is ∙ rows_law regions locations values (count ∙ ap length is)

pub come_back : (rows : List (List ℤ)) (values : List ℤ) (regions : List (List Triple)) (locations : List (List ℤ)) → length values ≡ length rows → rows ≡ rows_of regions locations → AreTriangular regions locations → ComeBack regions (deltas_by rows values) locations values
come_back rows values regions locations count is ends =
    subst (λ deltas. ComeBack regions deltas locations values) (sym (of_regions rows values regions locations count is)) (masters_law regions locations values ends)
