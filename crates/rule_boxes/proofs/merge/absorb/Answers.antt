use Rattle.std.proofs.Common.{◌≡◌, ◌≤◌, ℕ, Bool, true, false, List, Option, Some, None, cond, ltb, length, position, sym, ◌∙◌, ap, subst, refl, arith}
use Rattle.std.specs.List.{AllByRecursion, position_or_len}
use Rattle.std.proofs.lemmas.Bool.{ltb-false}
use Rattle.std.proofs.lemmas.List.Elements.{recursion_from_All}
use Rattle.std.proofs.lemmas.List.Quantifiers.{position-Some}
use Rattle.std.proofs.lemmas.List.Sums.{fails_before_first}
use Rattle.rule_boxes.specs.declared.area.Zone.{Zone}
use Rattle.rule_boxes.specs.Merging.{can_join, joined, Absorbs}
use Rattle.rule_boxes.proofs.MergeLemmas.{Joins, joins_start, joins_next, joins_end}
use Rattle.rule_boxes.proofs.merge.absorb.Goals as goal

-- the test with which a partner is looked for
abbrev joins_with : Zone → Zone → Bool
joins_with zone other = can_join other zone

found : (zones slice : List Zone) (zone : Zone) (result : Option ℕ) (index : ℕ) → slice ≡ zones → result ≡ position (joins_with zone) slice → result ≡ Some index → position (joins_with zone) zones ≡ Some index
found zones slice zone result index same is some = ap (position (joins_with zone)) (sym same) ∙ (sym is ∙ some)

-- where no index is found, none passes
none_by : (p : Zone → Bool) (xs : List Zone) (below : Bool) → ltb (position_or_len p xs) (length xs) ≡ below → ((index : ℕ) → position p xs ≡ Some index → ⊥) → AllByRecursion (λ x. p x ≡ false) xs
none_by p xs true is none = absurd (none (position_or_len p xs) (ap (λ (b : Bool). cond b (Some (position_or_len p xs)) None) is))
none_by p xs false is none =
    let past : length xs ≤ position_or_len p xs = ltb-false (position_or_len p xs) (length xs) is in
    recursion_from_All (λ x. p x ≡ false) xs (λ k d here. fails_before_first p xs k d (omega arith))

pub loop-index-init : goal.loop-index-init
loop-index-init c = joins_start c.args.zones.now.items c.args.zone.now

pub loop-index-preserved : goal.loop-index-preserved
loop-index-preserved c =
    let zones = c.loop-index.zones.items in
    let zone = c.loop-index.zone in
    let other = c.remove-other.result in
    let at = position-Some (joins_with zone) zones c.in-Some.index other (found zones c.deref.result.now zone c.partner.result c.in-Some.index c.deref.ensures.value c.partner.ensures c.in-Some.is) in
    let can : can_join other zone ≡ true = ap (λ (z : Zone). can_join z zone) c.remove-other.ensures.value ∙ at.1 in
    let next = joins_next c.args.zones.now.items c.args.zone.now zones zone other c.in-Some.index c.loop-index.invariant at.0 c.remove-other.ensures.value can in
    subst (λ (z : Zone). Joins c.args.zones.now.items c.args.zone.now c.remove-other.new.self.items z) (sym c.joined-zone.ensures)
    (subst (λ (l : List Zone). Joins c.args.zones.now.items c.args.zone.now l (joined other zone)) (sym c.remove-other.ensures.items) next)

pub returns : goal.returns
returns c =
    let zones = c.loop-index.zones.items in
    let zone = c.loop-index.zone in
    let none = none_by (joins_with zone) zones (ltb (position_or_len (joins_with zone) zones) (length zones)) refl
    (λ index some. c.in_default.not-Some index (c.partner.ensures ∙ (ap (position (joins_with zone)) c.deref.ensures.value ∙ some))) in
    subst (λ (l : List Zone). Absorbs c.args.zones.now.items c.args.zone.now l) (sym c.in_ok-push.ensures.items) (joins_end c.args.zones.now.items c.args.zone.now zones zone c.loop-index.invariant none)
