use Rattle.std.proofs.Common.{◌≡◌, ◌+◌, List, ◌∷◌, [], ◌++◌, take, get_or, sym, ◌∙◌, subst, Vec, Global}
use Rattle.std.proofs.lemmas.List.{take_more, take_all}
use Rattle.rule_boxes.specs.declared.area.Zone.{Zone}
use Rattle.rule_boxes.specs.Merging.{IsMerged}
use Rattle.rule_boxes.proofs.MergeLemmas.{merged_start, merged_next, merged_skip}
use Rattle.rule_boxes.proofs.merge.merged.Goals as goal
use Rattle.rule_boxes.proofs.merge.merged.Goals.{then-has_some+in_ok-absorb, else-has_some}

pub loop-zone-init : goal.loop-zone-init
loop-zone-init c = subst (λ (l : List Zone). IsMerged [] l) (sym c.new-merged.ensures.items) merged_start

-- the items of a vector that is another one
moved : (zones : List Zone) (a b : Vec Zone Global) → a ≡ b → IsMerged zones b.items → IsMerged zones a.items
moved zones a b same is = subst (λ (v : Vec Zone Global). IsMerged zones v.items) (sym same) is

pub loop-zone-preserved : goal.loop-zone-preserved
loop-zone-preserved c =
    let index = c.loop-zone.zone-index in
    let zones = c.args.zones.now in
    let past : Zone = record { area = []; rules = [] } in
    let zone = get_or zones index past in
    let merged = c.loop-zone.merged.items in
    let more : take (index + 1) zones ≡ take index zones ++ zone ∷ [] = take_more zones index past c.loop-zone-test.true in
    subst (λ (l : List Zone). IsMerged l c.if-has_some.merged.items) (sym more) (elim c.if-has_some.branch [
      | then-has_some+in_ok-absorb w ↦
          moved (take index zones ++ zone ∷ []) c.if-has_some.merged w.absorb.new.zones w.merged-is
          (merged_next (take index zones) merged zone w.absorb.new.zones.items c.loop-zone.invariant (sym c.has_some.ensures ∙ w.if-has_some.true) w.in_ok-absorb.ensures)
      | else-has_some w ↦
          moved (take index zones ++ zone ∷ []) c.if-has_some.merged c.loop-zone.merged w.merged-is
          (merged_skip (take index zones) merged zone c.loop-zone.invariant (sym c.has_some.ensures ∙ w.if-has_some.false))
    ])

pub returns : goal.returns
returns c = subst (λ (l : List Zone). IsMerged l c.loop-zone.merged.items) (take_all c.loop-zone.zone-index c.args.zones.now c.loop-zone-test.false) c.loop-zone.invariant
