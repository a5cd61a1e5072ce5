use Rattle.std.proofs.Common.{◌≡◌, ℤ, List, ◌∙◌, sym, subst}
use Rattle.std.proofs.lemmas.Result.{IfOk-weaker}
use Rattle.variation_rules.specs.declared.region.Triple.{Triple}
use Rattle.region_support.specs.Regions.{AreTriangular}
use Rattle.delta_solve.specs.Deltas.{ComeBack, deltas_by, deltas_of, rows_of}
use Rattle.delta_solve.proofs.NumberLemmas.{of_regions, come_back}
use Rattle.delta_solve.proofs.number.solve.Goals as goal

pub returns-clause-of_regions : goal.returns-clause-of_regions
returns-clause-of_regions c =
    let rows = c.args.table.now in
    let values = c.args.values.now in
    IfOk-weaker c.number_deltas.result (λ deltas. deltas ≡ deltas_by rows values)
    (λ deltas. (regions : List (List Triple)) (locations : List (List ℤ)) → rows ≡ rows_of regions locations → deltas ≡ deltas_of regions locations values)
    (λ deltas is regions locations table_is. is ∙ of_regions rows values regions locations c.requires table_is)
    (rw (c.rows.ensures.value, c.as_slice.ensures) at c.number_deltas.ensures.deltas)

pub returns-clause-comes_back : goal.returns-clause-comes_back
returns-clause-comes_back c =
    let rows = c.args.table.now in
    let values = c.args.values.now in
    IfOk-weaker c.number_deltas.result (λ deltas. deltas ≡ deltas_by rows values)
    (λ deltas. (regions : List (List Triple)) (locations : List (List ℤ)) → rows ≡ rows_of regions locations → AreTriangular regions locations → ComeBack regions deltas locations values)
    (λ deltas is regions locations table_is ends. subst (λ found. ComeBack regions found locations values) (sym is) (come_back rows values regions locations c.requires table_is ends))
    (rw (c.rows.ensures.value, c.as_slice.ensures) at c.number_deltas.ensures.deltas)
