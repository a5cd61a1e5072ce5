use Rattle.std.proofs.Common.{◌∙◌, ◌<◌, ◌≢◌, List, sym, ap, subst, length, map, All, get_or}
use Rattle.std.specs.List.{AllPairs}
use Rattle.glif.specs.declared.shape.Drawing.{Drawing}
use Rattle.region_support.specs.Coordinates.{coordinates_of}
use Rattle.vfb.specs.Masters.{drawing_numbered}
use Rattle.vfb.proofs.MasterLemmas.{numbers_apart, numbers_below, first_below, shown_is}
use Rattle.vfb.proofs.masters.masters_in.Goals as goal

pub bounds-drawn-numbers : goal.bounds-drawn-numbers
bounds-drawn-numbers c =
    subst (λ (drawings : List Drawing). get_or c.as_slice-numbers.result.now 0 0 < length drawings) (sym c.as_slice-drawn.ensures)
    (first_below c.args.listed.now c.args.drawings c.args.order.now _ c.as_slice-numbers.ensures c.requires.order c.requires.one_each)

pub outlines_in-requires-clause-numbers : goal.outlines_in-requires-clause-numbers
outlines_in-requires-clause-numbers c =
    subst (λ (drawings : List Drawing). All (λ number. number < length drawings) c.as_slice-numbers.result.now) (sym c.into_vec.ensures)
    (numbers_below c.args.listed.now c.args.drawings c.args.order.now _ c.as_slice-numbers.ensures c.requires.order c.requires.one_each)

pub outlines_in-requires-clause-apart : goal.outlines_in-requires-clause-apart
outlines_in-requires-clause-apart c = subst (AllPairs (λ first second. first ≢ second)) (sym c.as_slice-numbers.ensures) (numbers_apart (coordinates_of c.args.listed.now) c.args.order.now c.requires.order)

pub returns : goal.returns
returns c =
    let numbers = c.as_slice-numbers.result.now in
    let below = first_below c.args.listed.now c.args.drawings c.args.order.now numbers c.as_slice-numbers.ensures c.requires.order c.requires.one_each in
    shown_is _ (coordinates_of c.args.listed.now) c.args.drawings c.args.order.now numbers c.index-drawn-numbers.result
    c.in_ok-locations.ensures.value c.as_slice-numbers.ensures below
    (c.in_ok-name.ensures ∙ ap (λ (drawings : List Drawing). (get_or drawings (get_or numbers 0 0) c.index-drawn-numbers.result).name) c.as_slice-drawn.ensures)
    (c.in_ok-outlines.ensures ∙ ap (λ (drawings : List Drawing). map (λ number. (drawing_numbered drawings number).outline) numbers) c.into_vec.ensures)
