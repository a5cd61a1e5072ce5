use Rattle.std.proofs.Common.{◌+◌, [], ◌∙◌, sym, subst, map}
use Rattle.std.proofs.lemmas.List.{length-map}
use Rattle.variation_rules.specs.TupleVariations.{MeansTuples}
use Rattle.gvar_table.specs.Layout.{IsWritten}
use Rattle.gvar_table.specs.Tuples.{variation_of}
use Rattle.glyph_variations.specs.Conditions.{point_count}
use Rattle.glyph_variations.specs.Variations.{AreVariations}
use Rattle.vfb.specs.Glyph.{axis_count, regions}
use Rattle.vfb.specs.Making.{shown}
use Rattle.vfb.proofs.GlyphLemmas.{are_writable, is_drawn, is_made, variable}
use Rattle.vfb.proofs.glyph.data_of.Goals as goal

pub variations-requires : goal.variations-requires
variations-requires c = variable (shown c.args.masters.now) c.requires c.in_ok-model.model c.in_ok-model.ensures.model c.in_ok-model.ensures.within

pub all_count-requires : goal.all_count-requires
all_count-requires c = (variable (shown c.args.masters.now) c.requires c.in_ok-model.model c.in_ok-model.ensures.model c.in_ok-model.ensures.within).tuples_are

pub glyph_data-requires : goal.glyph_data-requires
glyph_data-requires c =
    let masters = shown c.args.masters.now in
    let boxes = c.in_ok-supports.ensures in
    let writable = are_writable masters c.in_ok-supports.supports c.requires boxes.lengths boxes.normalised boxes.none in
    rw (c.axis_count.ensures, c.all_count.ensures) (c.in_ok-found.ensures.writable (axis_count masters) writable)

pub returns-clause-makes : goal.returns-clause-makes
returns-clause-makes c =
    let masters = shown c.args.masters.now in
    let model = c.in_ok-model.ensures in
    let found = c.in_ok-found.ensures in
    let written = c.in_ok-bytes.ensures in
    let tuples = map variation_of c.in_ok-found.found.tuples in
    let are : AreVariations c.in_ok-model.model.lengths (regions masters) c.in_ok-model.model.tuples tuples =
    subst (λ regions. AreVariations c.in_ok-model.model.lengths regions c.in_ok-model.model.tuples tuples) c.in_ok-supports.ensures.value found.tuples in (
      masters,
      model.fits,
      is_made masters c.requires c.in_ok-model.model model.model tuples c.in_ok-bytes.bytes.items _ _ _ are
          (subst (λ n. IsWritten n c.in_ok-bytes.bytes.items tuples) c.all_count.ensures written.written)
          (c.len.ensures ∙ sym (length-map c.in_ok-found.found.tuples variation_of)) found.explicit found.points,
      is_drawn masters c.requires c.in_ok-model.model model.model tuples c.in_ok-bytes.bytes.items model.within are
          (subst (λ n. MeansTuples n (point_count c.in_ok-model.model.tuples + 4) [] c.in_ok-bytes.bytes.items tuples) c.axis_count.ensures
          (subst (λ n. MeansTuples c.axis_count.result n [] c.in_ok-bytes.bytes.items tuples) c.all_count.ensures written.means)),
    )
