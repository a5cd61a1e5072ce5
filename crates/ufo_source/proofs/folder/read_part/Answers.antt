use Rattle.std.proofs.Common.{◌∙◌, subst}
use Rattle.ufo_source.specs.Limits.{AreGlyphsOf}
use Rattle.ufo_source.proofs.Masters.{part_is, part_within}
use Rattle.ufo_source.proofs.folder.read_part.Goals as goal

pub returns-clause-within : goal.returns-clause-within
returns-clause-within g c =
    part_within _ c.args.wanted.now (c.in_ok-names.ensures ∙ c.as_slice-3.ensures) c.in_ok-info.ensures.numbers c.in_ok-info.ensures.texts
    (subst (λ names. AreGlyphsOf names c.in_ok-glyphs.glyphs) c.as_slice-2.ensures c.in_ok-glyphs.ensures.all)

pub returns-clause-wanted : goal.returns-clause-wanted
returns-clause-wanted g c =
    part_is c.args.wanted.now _ (c.in_ok-names.ensures ∙ c.as_slice-3.ensures)
    (subst (λ names. AreGlyphsOf names c.in_ok-glyphs.glyphs) c.as_slice-2.ensures c.in_ok-glyphs.ensures.all)
