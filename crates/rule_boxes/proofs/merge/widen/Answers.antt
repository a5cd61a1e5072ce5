use Rattle.std.proofs.Common.{◌≡◌, ◌≤◌, min, List, [], ◌∷◌, ◌++◌, length, take, drop, refl, sym, ◌∙◌, ap, arith}
use Rattle.std.proofs.lemmas.List.{length-drop, take-append-drop}
use Rattle.rule_boxes.specs.declared.area.Interval.{Interval}
use Rattle.rule_boxes.specs.Merging.{hulls}
use Rattle.rule_boxes.proofs.merge.widen.Goals as goal

-- where one of the lists has ended, nothing is left to widen
widen_end : (ts : List Interval) (vs : List Interval) → min (length ts) (length vs) ≤ 0 → hulls ts vs ≡ ts
widen_end [] vs ended = refl
widen_end (t ∷ ts) [] ended = refl
widen_end (t ∷ ts) (v ∷ vs) ended = absurd (omega arith)

pub returns : goal.returns
returns c =
    let axis = c.loop-axis.axis in
    let area = c.loop-axis.area in
    let other = c.args.other.now in
    let ended : min (length (drop axis area)) (length (drop axis other)) ≤ 0 = omega (arith, length-drop axis area, length-drop axis other) in
    sym (take-append-drop axis area) ∙ (ap (λ (ts : List Interval). take axis area ++ ts) (sym (widen_end (drop axis area) (drop axis other) ended)) ∙ c.loop-axis.invariant.whole)
