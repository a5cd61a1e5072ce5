-- One more point seen from the first reference of an arc, on both sides; and what is seen is what is inferred.
use Rattle.std.proofs.Common.{◌≡◌, ◌≢◌, ◌↔◌, Bool, IsTrue, ℕ, ℤ, pos, negsuc, neg_ℤ, ◌+◌, ◌*◌, ◌-ℤ◌, ◌*ℤ◌, ◌<ℤ◌, ◌≤ℤ◌, refl, sym, ap, subst, arith}
use Rattle.std.proofs.lemmas.Int.{ints, by_lt_z}
use borrow.Author.Differences.{up, down, same_in}
use Rattle.variation_rules.specs.declared.inferred.Reference.{Reference}
use Rattle.variation_rules.proofs.InferredLemmas.{between_turned, between_inside, step_from_line, line_from_products}
use Rattle.iup_optimal.specs.declared.side.Relative.{Relative}
use Rattle.iup_optimal.specs.declared.side.Nearest.{Nearest}
use Rattle.iup_optimal.specs.declared.side.Farthest.{Farthest}
use Rattle.iup_optimal.specs.declared.side.Side.{Side}
use Rattle.iup_optimal.specs.declared.sight.Sight.{Sight}
use Rattle.iup_optimal.specs.Sides.{Follows, Allows, FollowsAt, AllowsAt, BetweenThem, turned, relative_of}
use Rattle.iup_optimal.proofs.SideLemmas.{TakesNear, TakesFar, times_pos, pos_times}

-- a point at or behind the first reference
pub side_behind : (side : Side) (level : Bool) (point end : Relative) → point.way ≤ℤ pos 0 → pos 0 <ℤ end.way → (IsTrue level ↔ (IsTrue side.level_behind × (point.step ≡ pos 0))) → Allows (record { level_behind = level; nearest = side.nearest; farthest = side.farthest }) end ↔ (Allows side end × Follows end point)
side_behind side level point end behind some is = (
  λ allowed. (
    record { behind = (is.0 allowed.behind).0; near = allowed.near; far = allowed.far },
    record {
      behind = λ _. (is.0 allowed.behind).1;
      inside = λ ahead _. absurd (omega (arith, ints));
      beyond = λ past. absurd (omega (arith, ints));
    },
  ),
  λ both. record { behind = is.1 (both.0.behind, both.1.behind behind); near = both.0.near; far = both.0.far },
)

-- a point ahead of it
pub side_ahead : (side : Side) (nearest : Nearest) (farthest : Farthest) (point end : Relative) → pos 0 <ℤ point.way → TakesNear nearest side.nearest point end → TakesFar farthest side.farthest point end → Allows (record { level_behind = side.level_behind; nearest = nearest; farthest = farthest }) end ↔ (Allows side end × Follows end point)
side_ahead side nearest farthest point end ahead sees reaches = (
  λ allowed. (
    record { behind = allowed.behind; near = (sees.0 allowed.near).0; far = (reaches.0 allowed.far).0 },
    record {
      behind = λ low. absurd (omega (arith, ints));
      inside = λ _ less. (sees.0 allowed.near).1 less;
      beyond = λ past. (reaches.0 allowed.far).1 past;
    },
  ),
  λ both. record {
    behind = both.0.behind;
    near = sees.1 (both.0.near, λ less. both.1.inside ahead less);
    far = reaches.1 (both.0.far, λ past. both.1.beyond past);
  },
)

-- a point on either side
pub sight_seeing : (old new : Sight) (point end : Relative) (delta : ℤ) → ((e : Relative) → pos 0 <ℤ e.way → Allows new.above e ↔ (Allows old.above e × Follows e point)) → ((e : Relative) → pos 0 <ℤ e.way → Allows new.below e ↔ (Allows old.below e × Follows e (turned point))) → (IsTrue new.level ↔ (IsTrue old.level × (point.step ≡ pos 0))) → (IsTrue new.still ↔ (IsTrue old.still × (delta ≡ pos 0))) → AllowsAt new end ↔ (AllowsAt old end × FollowsAt end point delta)
sight_seeing old new point end delta above below level still = (
  λ allowed. (
    record {
      above = λ more. ((above end more).0 (allowed.above more)).0;
      below = λ less. ((below (turned end) (omega (arith, ints))).0 (allowed.below less)).0;
      level = λ here same. (level.0 (allowed.level here same)).0;
      still = λ here other. (still.0 (allowed.still here other)).0;
    },
    record {
      above = λ more. ((above end more).0 (allowed.above more)).1;
      below = λ less. ((below (turned end) (omega (arith, ints))).0 (allowed.below less)).1;
      level = λ here same. (level.0 (allowed.level here same)).1;
      still = λ here other. (still.0 (allowed.still here other)).1;
    },
  ),
  λ both. record {
    above = λ more. (above end more).1 (both.0.above more, both.1.above more);
    below = λ less. (below (turned end) (omega (arith, ints))).1 (both.0.below less, both.1.below less);
    level = λ here same. level.1 (both.0.level here same, both.1.level here same);
    still = λ here other. still.1 (both.0.still here other, both.1.still here other);
  },
)

-- the answers at an end, by the side on which it lies
pub admits_above : (sight : Sight) (end : Relative) (test : Bool) → pos 0 <ℤ end.way → (IsTrue test ↔ Allows sight.above end) → IsTrue test ↔ AllowsAt sight end
admits_above sight end test more is = (
  λ holds. record {
    above = λ _. is.0 holds;
    below = λ less. absurd (omega (arith, ints));
    level = λ here _. absurd (omega (arith, ints));
    still = λ here _. absurd (omega (arith, ints));
  },
  λ allowed. is.1 (allowed.above more),
)

pub admits_below : (sight : Sight) (end : Relative) (test : Bool) → end.way <ℤ pos 0 → (IsTrue test ↔ Allows sight.below (turned end)) → IsTrue test ↔ AllowsAt sight end
admits_below sight end test less is = (
  λ holds. record {
    above = λ more. absurd (omega (arith, ints));
    below = λ _. is.0 holds;
    level = λ here _. absurd (omega (arith, ints));
    still = λ here _. absurd (omega (arith, ints));
  },
  λ allowed. is.1 (allowed.below less),
)

pub admits_level : (sight : Sight) (end : Relative) → end.way ≡ pos 0 → end.step ≡ pos 0 → IsTrue sight.level ↔ AllowsAt sight end
admits_level sight end here same = (
  λ holds. record {
    above = λ more. absurd (omega (arith, ints));
    below = λ less. absurd (omega (arith, ints));
    level = λ _ _. holds;
    still = λ _ other. absurd (other same);
  },
  λ allowed. allowed.level here same,
)

pub admits_still : (sight : Sight) (end : Relative) → end.way ≡ pos 0 → end.step ≢ pos 0 → IsTrue sight.still ↔ AllowsAt sight end
admits_still sight end here other = (
  λ holds. record {
    above = λ more. absurd (omega (arith, ints));
    below = λ less. absurd (omega (arith, ints));
    level = λ _ same. absurd (other same);
    still = λ _ _. holds;
  },
  λ allowed. allowed.still here other,
)

-- a part of a difference
part_of : (x y : ℤ) (k : ℕ) → up (x -ℤ y) * k + down x * k + up y * k ≡ down (x -ℤ y) * k + up x * k + down y * k
part_of x y k =
    let apart : up (x -ℤ y) + down x + up y ≡ down (x -ℤ y) + up x + down y = omega (arith, ints) in
    omega (arith, ap (λ n. n * k) apart)

-- a step from the one reference in proportion to the way from it, and from the other in proportion to the way from that
step_between : (d1 d2 d : ℤ) (a b : ℕ) → (d -ℤ d2) *ℤ pos (a + b) ≡ pos b *ℤ (d1 -ℤ d2) → (d -ℤ d1) *ℤ pos (a + b) ≡ pos a *ℤ (d2 -ℤ d1)
step_between d1 d2 d a b step =
    same_in ((d -ℤ d1) *ℤ pos (a + b)) (pos a *ℤ (d2 -ℤ d1))
    (omega (arith, step_parts))
  where
    step_parts : up ((d -ℤ d1) *ℤ pos (a + b)) + down (pos a *ℤ (d2 -ℤ d1)) ≡ down ((d -ℤ d1) *ℤ pos (a + b)) + up (pos a *ℤ (d2 -ℤ d1))
    step_parts =
        let one : up (d -ℤ d2) * (a + b) + down (d1 -ℤ d2) * b ≡ down (d -ℤ d2) * (a + b) + up (d1 -ℤ d2) * b = omega (arith, ints, times_pos (d -ℤ d2) (a + b), pos_times (d1 -ℤ d2) b) in
        omega (arith, one, times_pos (d -ℤ d1) (a + b), pos_times (d2 -ℤ d1) a, part_of d d2 (a + b), part_of d1 d2 b, part_of d d1 (a + b), part_of d2 d1 a)

positive_is : (z : ℤ) → pos 0 <ℤ z → z ≡ pos (up z)
positive_is (pos n) some = refl
positive_is (negsuc n) some = absurd (omega (arith, ints))

-- the same of references whose coordinates fall
step_falling : (c1 d1 c2 d2 c d : ℤ) → c2 <ℤ c → c <ℤ c1 → (d -ℤ d2) *ℤ (c1 -ℤ c2) ≡ (c -ℤ c2) *ℤ (d1 -ℤ d2) → (d -ℤ d1) *ℤ neg_ℤ (c2 -ℤ c1) ≡ neg_ℤ (c -ℤ c1) *ℤ (d2 -ℤ d1)
step_falling c1 d1 c2 d2 c d left right step =
    let b = up (c -ℤ c2) in
    let a = up (c1 -ℤ c) in
    let near : c -ℤ c2 ≡ pos b = positive_is (c -ℤ c2) (omega (arith, ints)) in
    let far : c1 -ℤ c ≡ pos a = positive_is (c1 -ℤ c) (omega (arith, ints)) in
    let whole : c1 -ℤ c2 ≡ pos (a + b) = omega (arith, ints) in
    let whole_turned : neg_ℤ (c2 -ℤ c1) ≡ pos (a + b) = omega (arith, ints) in
    let far_turned : neg_ℤ (c -ℤ c1) ≡ pos a = omega (arith, ints) in
    let plain : (d -ℤ d2) *ℤ pos (a + b) ≡ pos b *ℤ (d1 -ℤ d2) = subst (λ z. (d -ℤ d2) *ℤ z ≡ pos b *ℤ (d1 -ℤ d2)) whole (subst (λ z. (d -ℤ d2) *ℤ (c1 -ℤ c2) ≡ z *ℤ (d1 -ℤ d2)) near step) in
    subst (λ z. (d -ℤ d1) *ℤ z ≡ neg_ℤ (c -ℤ c1) *ℤ (d2 -ℤ d1)) (sym whole_turned)
    (subst (λ z. (d -ℤ d1) *ℤ pos (a + b) ≡ z *ℤ (d2 -ℤ d1)) (sym far_turned) (step_between d1 d2 d a b plain))

step_rising : (c1 d1 c2 d2 c d : ℤ) → c2 <ℤ c → c <ℤ c1 → (d -ℤ d1) *ℤ neg_ℤ (c2 -ℤ c1) ≡ neg_ℤ (c -ℤ c1) *ℤ (d2 -ℤ d1) → (d -ℤ d2) *ℤ (c1 -ℤ c2) ≡ (c -ℤ c2) *ℤ (d1 -ℤ d2)
step_rising c1 d1 c2 d2 c d left right step =
    let b = up (c -ℤ c2) in
    let a = up (c1 -ℤ c) in
    let near : c -ℤ c2 ≡ pos b = positive_is (c -ℤ c2) (omega (arith, ints)) in
    let far : c1 -ℤ c ≡ pos a = positive_is (c1 -ℤ c) (omega (arith, ints)) in
    let whole : c1 -ℤ c2 ≡ pos (b + a) = omega (arith, ints) in
    let whole_turned : neg_ℤ (c2 -ℤ c1) ≡ pos (b + a) = omega (arith, ints) in
    let far_turned : neg_ℤ (c -ℤ c1) ≡ pos a = omega (arith, ints) in
    let plain : (d -ℤ d1) *ℤ pos (b + a) ≡ pos a *ℤ (d2 -ℤ d1) = subst (λ z. (d -ℤ d1) *ℤ z ≡ pos a *ℤ (d2 -ℤ d1)) whole_turned (subst (λ z. (d -ℤ d1) *ℤ neg_ℤ (c2 -ℤ c1) ≡ z *ℤ (d2 -ℤ d1)) far_turned step) in
    subst (λ z. (d -ℤ d2) *ℤ z ≡ (c -ℤ c2) *ℤ (d1 -ℤ d2)) (sym whole)
    (subst (λ z. (d -ℤ d2) *ℤ pos (b + a) ≡ z *ℤ (d1 -ℤ d2)) (sym near) (step_between d2 d1 d b a plain))

-- a point is inferred from two references exactly where it follows from them as it is seen from the first
pub follows_from_between : (first second point : Reference) → BetweenThem first second point → FollowsAt (relative_of first second) (relative_of first point) point.delta
follows_from_between first second point between = record {
  above = λ more. record {
    behind = λ low. let same = between.below_first (omega (arith, ints)) (omega (arith, ints)) in omega (arith, ints);
    inside = λ ahead less. step_from_line first.at first.delta second.at second.delta point.at point.delta (omega (arith, ints)) (omega (arith, ints)) (between.rising (omega (arith, ints)) (omega (arith, ints)));
    beyond = λ past. let same = between.above_second (omega (arith, ints)) (omega (arith, ints)) in omega (arith, ints);
  };
  below = λ less. record {
    behind = λ low. let same = between.above_first (omega (arith, ints)) (omega (arith, ints)) in omega (arith, ints);
    inside = λ ahead near.
        let other = between_turned second.at second.delta first.at first.delta point.at point.delta between in
        let low : second.at <ℤ point.at = omega (arith, ints) in
        let high : point.at <ℤ first.at = omega (arith, ints) in
        step_falling first.at first.delta second.at second.delta point.at point.delta low high
        (step_from_line second.at second.delta first.at first.delta point.at point.delta low high (other.rising low high));
    beyond = λ past. let same = between.below_second (omega (arith, ints)) (omega (arith, ints)) in omega (arith, ints);
  };
  level = λ here same. let equal = between.agree (omega (arith, ints)) (omega (arith, ints)) in omega (arith, ints);
  still = λ here other. between.differ (omega (arith, ints)) (λ equal. other (omega (arith, ints)));
}

pub between_from_follows : (first second point : Reference) → FollowsAt (relative_of first second) (relative_of first point) point.delta → BetweenThem first second point
between_from_follows first second point follows = record {
  agree = λ same level. let equal = follows.level (omega (arith, ints)) (omega (arith, ints)) in omega (arith, ints);
  differ = λ same apart. follows.still (omega (arith, ints)) (λ equal. apart (omega (arith, ints)));
  below_first = λ less low. let equal = (follows.above (omega (arith, ints))).behind (omega (arith, ints)) in omega (arith, ints);
  above_second = λ less high. let equal = (follows.above (omega (arith, ints))).beyond (omega (arith, ints)) in omega (arith, ints);
  below_second = λ more low. let equal = (follows.below (omega (arith, ints))).beyond (omega (arith, ints)) in omega (arith, ints);
  above_first = λ more high. let equal = (follows.below (omega (arith, ints))).behind (omega (arith, ints)) in omega (arith, ints);
  rising = λ left right. line_from_products first.at first.delta second.at second.delta point.at point.delta left right ((follows.above (omega (arith, ints))).inside (omega (arith, ints)) (omega (arith, ints)));
  falling = λ left right.
      let step = (follows.below (omega (arith, ints))).inside (omega (arith, ints)) (omega (arith, ints)) in
      let line = line_from_products second.at second.delta first.at first.delta point.at point.delta left right (step_rising first.at first.delta second.at second.delta point.at point.delta left right step) in
      (between_turned first.at first.delta second.at second.delta point.at point.delta (between_inside second.at second.delta first.at first.delta point.at point.delta left right line)).falling left right;
}

-- where nothing is left open on either side, and neither at the first reference's own coordinate, nothing is admitted
pub sight_closed : (sight : Sight) → (IsTrue sight.level → ⊥) → (IsTrue sight.still → ⊥) → ((end : Relative) → Allows sight.above end → ⊥) → ((end : Relative) → Allows sight.below end → ⊥) → (end : Reference) → AllowsAt sight (relative_of sight.first end) → ⊥
sight_closed sight level still above below end admitted =
    let relative : Relative = relative_of sight.first end in
    by_lt_z (pos 0) relative.way
    (λ more. above relative (admitted.above more))
    (λ not_more. by_lt_z relative.way (pos 0)
    (λ less. below (turned relative) (admitted.below less))
    (λ not_less.
    let here : relative.way ≡ pos 0 = omega (arith, ints) in
    still (admitted.still here (λ same. level (admitted.level here same)))))
