use Rattle.std.proofs.Common.{map, subst}
use Rattle.ufo_source.specs.Limits.{AreAllGlyphs}
use Rattle.ufo_source.proofs.Masters.{whole_is, whole_within}
use Rattle.ufo_source.proofs.folder.read_whole.Goals as goal

pub returns-clause-within : goal.returns-clause-within
returns-clause-within g c =
    whole_within _ _ c.in_ok-names.ensures c.in_ok-info.ensures.numbers c.in_ok-info.ensures.texts
    (subst (λ entries. AreAllGlyphs (map (λ entry. entry.0) entries) c.in_ok-glyphs.glyphs) c.as_slice.ensures c.in_ok-glyphs.ensures.all)

pub returns-clause-whole : goal.returns-clause-whole
returns-clause-whole g c =
    whole_is _ _ c.in_ok-names.ensures c.in_ok-entries.ensures.names
    (subst (λ entries. AreAllGlyphs (map (λ entry. entry.0) entries) c.in_ok-glyphs.glyphs) c.as_slice.ensures c.in_ok-glyphs.ensures.all)
