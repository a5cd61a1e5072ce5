use Rattle.std.proofs.Common.{◌≡◌, ◌∙◌, ℕ, List, map, sym, ap, Some, None}
use Rattle.std.specs.Prelude.{Option}
use Rattle.markup_rules.specs.Reading.{attribute_at}
use Rattle.markup_rules.proofs.Attributes.{attribute_shorter}
use Rattle.markup.specs.declared.tag.Attribute.{Attribute}
use Rattle.markup.specs.Openings.{end_at, Ending}
use Rattle.markup.specs.Views.{attribute_view}
use Rattle.markup.proofs.Endings.{ending_after, ending_begins, ending_done, ending_none, ending_step}
use Rattle.markup.proofs.attributes.attributes_to_end.Goals as goal

pub loop-end-init : goal.loop-end-init
loop-end-init c = (tt, ap (λ (kept : List Attribute). ending_after (map attribute_view kept) c.args.bytes.now) c.clear.ensures.items ∙ ending_begins c.args.bytes.now)

pub returns-in-Some : goal.returns-in-Some
returns-in-Some c =
    let end : end_at c.loop-end.rest.now ≡ Some (c.in-Some.end.0, c.in-Some.end.1.now) = c.in-Some.ensures in
    sym c.loop-end.invariant.1 ∙ ending_done (map attribute_view c.loop-end.room.items) c.loop-end.rest.now c.in-Some.end.0 c.in-Some.end.1.now end

pub returns-in_default-2 : goal.returns-in_default-2
returns-in_default-2 c =
    let none : attribute_at c.loop-end.rest.now ≡ None = rw c.in_default-2.is at c.in_ok-attribute.ensures in
    sym c.loop-end.invariant.1 ∙ ending_none (map attribute_view c.loop-end.room.items) c.loop-end.rest.now c.in_default.ensures none

pub loop-end-smaller : goal.loop-end-smaller
loop-end-smaller c =
    let found : attribute_at c.loop-end.rest.now ≡ Some (attribute_view c.in-Some-2.attribute, c.in-Some-2.after.now) = rw c.in-Some-2.is at c.in_ok-attribute.ensures in
    attribute_shorter c.loop-end.rest.now (attribute_view c.in-Some-2.attribute) c.in-Some-2.after.now found

pub loop-end-preserved : goal.loop-end-preserved
loop-end-preserved c =
    let found : attribute_at c.loop-end.rest.now ≡ Some (attribute_view c.in-Some-2.attribute, c.in-Some-2.after.now) = rw c.in-Some-2.is at c.in_ok-attribute.ensures in (
      c.in_ok-push_first.ensures.names,
      ap (λ kept. ending_after kept c.in-Some-2.after.now) c.in_ok-push_first.ensures.kept ∙
          (ending_step (map attribute_view c.loop-end.room.items) c.loop-end.rest.now (attribute_view c.in-Some-2.attribute) c.in-Some-2.after.now c.in_default.ensures found ∙ c.loop-end.invariant.1),
    )
