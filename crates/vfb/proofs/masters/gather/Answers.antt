use Rattle.source_files.specs.Stops.{StopsBy}
use Rattle.vfb.specs.Masters.{all_alike, gathered}
use Rattle.std.proofs.Common.{◌≡◌, List, Ok, rules, subst, sym, ◌∙◌, map}
use Rattle.glif.specs.declared.shape.Drawing.{Drawing}
use Rattle.std.proofs.lemmas.List.{length-map}
use Rattle.region_support.specs.Coordinates.{coordinates_of}
use Rattle.commands.specs.Words.{seen}
use Rattle.vfb.proofs.MasterLemmas.{locations_on_axes, one_location_each, first_below, default_among, gathered_stop, gathered_ok, are_gathered}
use Rattle.vfb.proofs.masters.gather.Goals as goal

pub ordered-requires-clause-lengths : goal.ordered-requires-clause-lengths
ordered-requires-clause-lengths c = locations_on_axes c.in_ok-listed.listed _ c.in_ok-listed.ensures c.requires.located.same_axes

pub returns-in_err-all_alike-clause-gathers : goal.returns-in_err-all_alike-clause-gathers
returns-in_err-all_alike-clause-gathers c =
    let each = one_location_each c.in_ok-listed.listed c.args.located.now c.args.drawings c.in_ok-listed.ensures c.requires.one_each in
    let below = first_below c.in_ok-listed.listed c.args.drawings c.in_ok-order.order c.as_slice.result.now c.as_slice.ensures c.in_ok-order.ensures.masters each in
    let default = default_among c.as_slice-drawn.result.now c.args.drawings c.in_ok-order.order c.as_slice.result.now c.index-drawn-as_slice.result c.as_slice-drawn.ensures c.index-drawn-as_slice.is c.as_slice.ensures below in
    let alike = subst (λ (drawings : List Drawing). StopsBy c.in_err-all_alike.field-0.0 (all_alike c.index-drawn-as_slice.result (map seen c.args.located.now) drawings)) c.as_slice-drawn.ensures c.in_err-all_alike.ensures.alike in
    let stops : StopsBy c.in_err-all_alike.field-0.0 (gathered (map seen c.args.located.now) c.args.drawings) =
    gathered_stop (map seen c.args.located.now) c.args.drawings (coordinates_of c.in_ok-listed.listed) c.in_ok-order.order c.index-drawn-as_slice.result _
    c.in_ok-listed.ensures c.in_ok-order.ensures.order default alike in
    search rules

pub returns-clause-gathers : goal.returns-clause-gathers
returns-clause-gathers c =
    let each = one_location_each c.in_ok-listed.listed c.args.located.now c.args.drawings c.in_ok-listed.ensures c.requires.one_each in
    let below = first_below c.in_ok-listed.listed c.args.drawings c.in_ok-order.order c.as_slice.result.now c.as_slice.ensures c.in_ok-order.ensures.masters each in
    let default = default_among c.as_slice-drawn.result.now c.args.drawings c.in_ok-order.order c.as_slice.result.now c.index-drawn-as_slice.result c.as_slice-drawn.ensures c.index-drawn-as_slice.is c.as_slice.ensures below in
    let alike = subst (λ (drawings : List Drawing). all_alike c.index-drawn-as_slice.result (map seen c.args.located.now) drawings ≡ Ok tt) c.as_slice-drawn.ensures c.in_ok-all_alike.ensures.alike in
    gathered_ok (map seen c.args.located.now) c.args.drawings (coordinates_of c.in_ok-listed.listed) c.in_ok-order.order c.index-drawn-as_slice.result _
    c.in_ok-listed.ensures c.in_ok-order.ensures.order default alike c.in_ok-masters_in.ensures

pub returns-clause-gathered : goal.returns-clause-gathered
returns-clause-gathered c =
    let each = one_location_each c.in_ok-listed.listed c.args.located.now c.args.drawings c.in_ok-listed.ensures c.requires.one_each in
    let below = first_below c.in_ok-listed.listed c.args.drawings c.in_ok-order.order c.as_slice.result.now c.as_slice.ensures c.in_ok-order.ensures.masters each in
    let default = default_among c.as_slice-drawn.result.now c.args.drawings c.in_ok-order.order c.as_slice.result.now c.index-drawn-as_slice.result c.as_slice-drawn.ensures c.index-drawn-as_slice.is c.as_slice.ensures below in
    let alike = subst (λ (drawings : List Drawing). all_alike c.index-drawn-as_slice.result (map seen c.args.located.now) drawings ≡ Ok tt) c.as_slice-drawn.ensures c.in_ok-all_alike.ensures.alike in
    are_gathered (map seen c.args.located.now) c.args.drawings (coordinates_of c.in_ok-listed.listed) c.in_ok-order.order c.index-drawn-as_slice.result _
    c.requires.located (c.requires.one_each ∙ sym (length-map c.args.located.now seen)) c.requires.within c.in_ok-listed.ensures c.in_ok-order.ensures.masters default alike c.in_ok-masters_in.ensures
