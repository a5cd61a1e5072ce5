use Rattle.std.proofs.Common.{List, Ok, ap, map, subst}
use Rattle.font_project.specs.Filtering.{Image}
use Rattle.font_project.specs.Fonts.{IsFontOf}
use Rattle.font_project.specs.Making.{MakesProject}
use Rattle.font_project.proofs.steps.project_through.Goals as goal

pub returns-clause-makes : goal.returns-clause-makes
returns-clause-makes g c =
    subst (λ (images : List Image). MakesProject (IsFontOf c.args.path.now images (Ok c.args.found)) c.project_of.result)
    (ap (map (λ filter. (goal.GlyphFilter-dyn g (filter.vtable, filter.value)).image filter.value ((goal.GlyphFilter-dyn g (filter.vtable, filter.value)).setting filter.value))) c.as_mut_slice.ensures.value)
    c.project_of.ensures.makes
