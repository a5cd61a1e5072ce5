use Rattle.std.proofs.Common.{◌≡◌, ℕ, ℤ, ◌≤◌, min, List, [], ◌∷◌, ◌++◌, length, take, drop, refl, sym, ◌∙◌, ap, arith}
use Rattle.std.proofs.lemmas.List.{length-drop, take-append-drop}
use Rattle.variation_rules.specs.declared.region.Triple.{Triple}
use Rattle.region_support.specs.Regions.{cut_triples}
use Rattle.region_support.proofs.cut.cut_triples.Goals as goal

-- where one of the lists has ended, nothing is left to cut
cut_end : (g : ℕ × ℕ) (ts : List Triple) (vs : List ℤ) → min (length ts) (length vs) ≤ 0 → cut_triples g ts vs ≡ ts
cut_end g [] vs ended = refl
cut_end g (t ∷ ts) [] ended = refl
cut_end g (t ∷ ts) (v ∷ vs) ended = absurd (omega arith)

pub returns : goal.returns
returns c =
    let axis = c.loop-axis.axis in
    let region = c.loop-axis.region in
    let other = c.args.other.now in
    let g : ℕ × ℕ = (c.args.greatest.part, c.args.greatest.whole) in
    let ended : min (length (drop axis region)) (length (drop axis other)) ≤ 0 = omega (arith, length-drop axis region, length-drop axis other) in
    sym (take-append-drop axis region) ∙ (ap (λ (ts : List Triple). take axis region ++ ts) (sym (cut_end g (drop axis region) (drop axis other) ended)) ∙ c.loop-axis.invariant.whole)
