use Rattle.std.proofs.Common.{◌∙◌, ap}
use Rattle.std.proofs.lemmas.List.Elements.{same_from_all_zip}
use Rattle.glyph_variations.specs.Variations.{picked}
use Rattle.glyph_variations.proofs.tuples.tuple_of.Goals as goal

pub returns : goal.returns
returns c = record {
  region_is = same_from_all_zip _ _ _ c.in_ok-clone.ensures.cases (λ x y same. same);
  explicit = c.in_ok-named.ensures.are;
  deltas_are = c.in_ok-deltas.ensures ∙ ap (picked c.args.deltas.now) c.as_slice.ensures;
}
