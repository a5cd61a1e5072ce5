use Rattle.std.proofs.Common.{◌≡◌, ◌↔◌, IsTrue, pos, ◌<ℤ◌, sym, ◌∙◌, subst, arith}
use Rattle.std.proofs.lemmas.Int.{ints}
use Rattle.iup_optimal.specs.declared.side.Relative.{Relative}
use Rattle.iup_optimal.specs.declared.sight.Sight.{Sight}
use Rattle.iup_optimal.specs.Sides.{FollowsAt, AllowsAt, Allows, Follows, relative_of, turned}
use Rattle.iup_optimal.proofs.SideLemmas.{tests_same}
use Rattle.iup_optimal.proofs.SightLemmas.{sight_seeing, follows_from_between, between_from_follows}
use Rattle.iup_optimal.proofs.sight.Sight.see.Goals as goal
use Rattle.iup_optimal.proofs.sight.Sight.see.Goals.{then-self, else-self, then-self-2, else-self-2}

pub returns-clause-admits : goal.returns-clause-admits
returns-clause-admits c end =
    let old = c.args.self.now in
    let first = c.args.self.now.first in
    let point = c.args.point in
    let relative = c.between-relative.result in
    let new : Sight = record { first = first; level = c.if-self.level; still = c.if-self-2.still; above = c.see.new.self; below = c.see-2.new.self } in
    let same = tests_same relative.step (pos 0) (omega (arith, ints, c.between-relative.ensures.within.step.low, c.between-relative.ensures.within.step.high)) (omega (arith, ints)) in
    let none = tests_same point.delta (pos 0) (omega (arith, ints)) (omega (arith, ints)) in
    let level : IsTrue c.if-self.level ↔ (IsTrue old.level × (relative.step ≡ pos 0)) = elim c.if-self.branch [
      | then-self w ↦ (λ holds. (w.if-self.true, same.0 (sym w.level-is ∙ holds)), λ parts. w.level-is ∙ same.1 parts.1)
      | else-self w ↦ (λ holds. absurd cc, λ parts. let level : IsTrue old.level = parts.0 in absurd cc)
    ] in
    let still : IsTrue c.if-self-2.still ↔ (IsTrue old.still × (point.delta ≡ pos 0)) = elim c.if-self-2.branch [
      | then-self-2 w ↦ (λ holds. (w.if-self-2.true, none.0 (sym w.still-is ∙ holds)), λ parts. w.still-is ∙ none.1 parts.1)
      | else-self-2 w ↦ (λ holds. absurd cc, λ parts. let still : IsTrue old.still = parts.0 in absurd cc)
    ] in
    let below : (e : Relative) → pos 0 <ℤ e.way → Allows c.see-2.new.self e ↔ (Allows old.below e × Follows e (turned relative)) =
    λ e some. subst (λ (l : Relative). Allows c.see-2.new.self e ↔ (Allows old.below e × Follows e l)) c.turned.ensures.value (c.see-2.ensures.allows e some) in
    let all = sight_seeing old new relative (relative_of first end) point.delta c.see.ensures.allows below level still in
    let seen = subst (λ (l : Relative). AllowsAt new (relative_of first end) ↔ (AllowsAt old (relative_of first end) × FollowsAt (relative_of first end) l point.delta)) c.between-relative.ensures.value all in (
      λ admitted. ((seen.0 admitted).0, between_from_follows first end point (seen.0 admitted).1),
      λ parts. seen.1 (parts.0, follows_from_between first end point parts.1),
    )
