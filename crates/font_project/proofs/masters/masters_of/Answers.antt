use Rattle.std.proofs.Common.{sym, subst, ap, ◌∙◌, length}
use Rattle.region_support.specs.Regions.{AreNormalisedLocations}
use Rattle.font_sources.specs.Document.{locations_of}
use Rattle.font_project.proofs.DesignLemmas.{normalised_sources}
use Rattle.font_project.proofs.masters.masters_of.Goals as goal

pub masters_at-requires-clause-normalised : goal.masters_at-requires-clause-normalised
masters_at-requires-clause-normalised c =
    c.in_ok-sorted.ensures.normalised (subst AreNormalisedLocations (sym (c.in_ok-listed.ensures.exact ∙ ap locations_of c.as_slice.ensures)) (normalised_sources (length c.args.design.now.axes) c.args.design.now.sources c.requires.design.sources))
