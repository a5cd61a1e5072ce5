use Rattle.std.proofs.Common.{◌≡◌, ◌∙◌, ◌<◌, ℕ, List, Ok, ap, get_or, length, map, sym, subst}
use Rattle.font_project.specs.Filtering.{Image, filtered}
use Rattle.font_project.specs.Fonts.{default_number}
use Rattle.font_project.proofs.Alike.{alike_within, images_alike}
use Rattle.font_project.proofs.FontSteps.{made_of_images}
use Rattle.font_project.proofs.JoinedSteps.{seen_so}
use Rattle.font_project.proofs.steps.finished_filtered.Goals as goal

pub finished-requires-clause-outlined : goal.finished-requires-clause-outlined
finished-requires-clause-outlined g c =
    images_alike _ (length c.args.found.names) (length c.args.found.design.sources) (default_number c.args.found) c.args.outlined c.in_ok-outlined.outlined
    (alike_within c.args.found.names (length c.args.found.design.sources) (default_number c.args.found) c.args.outlined c.requires.outlined) c.in_ok-outlined.ensures.shape

pub returns-clause-makes : goal.returns-clause-makes
returns-clause-makes g c =
    let images : List Image = map (λ filter. (goal.GlyphFilter-dyn g (filter.vtable, filter.value)).image filter.value ((goal.GlyphFilter-dyn g (filter.vtable, filter.value)).setting filter.value)) c.args.filters.now in
    made_of_images c.args.path.now images c.args.found c.args.codes c.args.outlined c.in_ok-outlined.outlined c.finished.result
    (seen_so (λ (names : List (List ℕ)) (default : ℕ). filtered images names default c.args.outlined) c.as_slice-2.result.now c.args.found.names (get_or c.as_slice.result.now 0 0) (default_number c.args.found) (Ok c.in_ok-outlined.outlined)
    c.as_slice-2.ensures (ap (λ (order : List ℕ). get_or order 0 0) c.as_slice.ensures) c.in_ok-outlined.ensures.answers)
    c.finished.ensures.makes
