use Rattle.std.proofs.Common.{◌≡◌, arith, ◌++◌, ◌∷◌, [], List, sym, subst, ap, ◌∙◌, append_assoc, append-nil}
use Rattle.std.specs.Vec.Iter.{into_iter_items}
use Rattle.std.proofs.lemmas.List.{nil_from_length}
use Rattle.std.proofs.lemmas.List.Elements.{All-rest}
use Rattle.compat.specs.Flattened.{AreFit}
use Rattle.font_project.specs.Flats.{AreFlatSources}
use Rattle.font_project.specs.declared.drawn.DrawnSource.{DrawnSource}
use Rattle.font_project.specs.declared.flat.FlatSource.{FlatSource}
use Rattle.font_project.proofs.flat.flat_sources.Goals as goal

pub loop-source-preserved : goal.loop-source-preserved
loop-source-preserved c = record {
  fit = All-rest (λ (source : DrawnSource). AreFit source.drawings) c.in-Some.source (into_iter_items c.next.new.self) (into_iter_items c.loop-source.source-iterator) c.in-Some.ensures.steps.0 c.loop-source.invariant.fit;
  flat = λ rest zip.
      let here : AreFlatSources (into_iter_items c.loop-source.source-iterator) (c.in_ok-flat.flat ∷ rest) =
      subst (λ (items : List DrawnSource). AreFlatSources items (c.in_ok-flat.flat ∷ rest)) (sym c.in-Some.ensures.steps.0) (c.in_ok-flat.ensures, zip) in
      subst (AreFlatSources c.args.drawn) (sym (ap (λ (sources : List FlatSource). sources ++ rest) c.in_ok-push.ensures.ok ∙ append_assoc c.loop-source.sources (c.in_ok-flat.flat ∷ []) rest))
      (c.loop-source.invariant.flat (c.in_ok-flat.flat ∷ rest) here);
}

pub returns : goal.returns
returns c =
    let ended : into_iter_items c.loop-source.source-iterator ≡ [] = nil_from_length (into_iter_items c.loop-source.source-iterator) (omega (arith, c.in-None.ensures.steps.0)) in
    let none : AreFlatSources (into_iter_items c.loop-source.source-iterator) [] = subst (λ (items : List DrawnSource). AreFlatSources items []) (sym ended) tt in
    subst (AreFlatSources c.args.drawn) (append-nil c.loop-source.sources) (c.loop-source.invariant.flat [] none)
