use Rattle.std.proofs.Common.{◌++◌, ap, ◌∙◌}
use Rattle.std.specs.Vec.Iter.{into_iter_items}
use Rattle.plist.proofs.EqualKeys.{Turn, has, unseen, unseen_first, passed, added}
use Rattle.plist.proofs.entries.first_of_each.Goals as goal

pub loop-entry-init : goal.loop-entry-init
loop-entry-init c =
    ap (λ kept. kept ++ unseen (has c.new-keys.result) (into_iter_items c.into_iter-entry-iterator.result)) c.new-kept.ensures.items
    ∙ (ap (unseen (has c.new-keys.result)) c.into_iter-entry-iterator.ensures.into_iter_gives.0
    ∙ unseen_first c.new-keys.result c.args.entries.items c.new-keys.ensures.empty)

pub loop-entry-preserved-then-not-is_new : goal.loop-entry-preserved-then-not-is_new
loop-entry-preserved-then-not-is_new c =
    let old = c.loop-entry.keys in
    let new = c.insert.new.self in
    let turn : Turn old new c.in-Some.entry.0 c.in_ok-key.key c.in_ok-is_new.is_new = record { copied = c.in_ok-key.ensures; updated = c.in_ok-is_new.ensures.updates; told = c.in_ok-is_new.ensures.added } in
    passed c.loop-entry.kept.items old new c.in-Some.entry c.in_ok-key.key c.in_ok-is_new.is_new (into_iter_items c.next.new.self) (into_iter_items c.loop-entry.entry-iterator) turn c.if-not-is_new.true c.in-Some.ensures.steps.0 ∙ c.loop-entry.invariant

pub loop-entry-preserved : goal.loop-entry-preserved
loop-entry-preserved c =
    let old = c.loop-entry.keys in
    let new = c.insert.new.self in
    let turn : Turn old new c.in-Some.entry.0 c.in_ok-key.key c.in_ok-is_new.is_new = record { copied = c.in_ok-key.ensures; updated = c.in_ok-is_new.ensures.updates; told = c.in_ok-is_new.ensures.added } in
    added c.loop-entry.kept.items c.push.new.self.items old new c.in-Some.entry c.in_ok-key.key c.in_ok-is_new.is_new (into_iter_items c.next.new.self) (into_iter_items c.loop-entry.entry-iterator) turn c.if-not-is_new.false c.in-Some.ensures.steps.0 c.in_ok-push.ensures.items ∙ c.loop-entry.invariant
