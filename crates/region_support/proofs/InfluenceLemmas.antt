-- Regions at locations: which locations a region excludes, and that a cut excludes the master that makes it.
use Rattle.std.proofs.Common.{◌≡◌, ◌≢◌, refl, sym, ◌∙◌, ap, subst, ℕ, ℤ, pos, ◌+◌, ◌<◌, ◌≤◌, Bool, true, false, ◌&&◌, true≢false, ◌⊎◌, inl, inr, List, [], ◌∷◌, if◌then◌else◌, length, arith}
use Rattle.std.specs.Cmp.{first_so, second_so}
use Rattle.variation_rules.specs.declared.region.Triple.{Triple}
use Rattle.variation_rules.specs.Scalar.{scaled, scalar_from}
use Rattle.region_support.specs.MasterOrder.{rank}
use Rattle.region_support.specs.Regions.{is_within, cuts, ratio, is_below, greatest_ratio, cut_triples, cut_by}
use Rattle.region_support.proofs.AxisLemmas.{IsOut, IsShaped, eq_tells, inside_tells, outside_tells, out_at_default, at_peak_tells, peak_ratio, zero_below, below_some, below_not_itself, cut_peak, cut_shaped, cut_keeps_out, cut_puts_out, whole_at_peak, nothing_outside, nothing_stays}

-- the region has its peaks at the location, and each axis has its form
abbrev pub IsWellFormed : List ℤ → List Triple → Type 0
IsWellFormed [] [] = Unit {0}
IsWellFormed [] (t ∷ ts) = ⊥
IsWellFormed (p ∷ ps) [] = ⊥
IsWellFormed (p ∷ ps) (t ∷ ts) = (t.peak ≡ p) × IsShaped t × IsWellFormed ps ts

-- the location is outside on some axis
abbrev pub IsExcluded : List Triple → List ℤ → Type 0
IsExcluded [] vs = ⊥
IsExcluded (t ∷ ts) [] = ⊥
IsExcluded (t ∷ ts) (v ∷ vs) = IsOut t v ⊎ IsExcluded ts vs

-- at its own location a region is whole
pub own_whole : (s : ℤ) (at : List ℤ) (region : List Triple) → IsWellFormed at region → scalar_from s region at ≡ s
own_whole s [] [] formed = refl
own_whole s [] (t ∷ ts) formed = absurd formed
own_whole s (p ∷ ps) [] formed = absurd formed
own_whole s (p ∷ ps) (t ∷ ts) formed = ap (λ (z : ℤ). scalar_from z ts ps) (whole_at_peak s t p formed.0) ∙ own_whole s ps ts formed.2

nothing_more : (ts : List Triple) (vs : List ℤ) → scalar_from (pos 0) ts vs ≡ pos 0
nothing_more [] vs = refl
nothing_more (t ∷ ts) [] = refl
nothing_more (t ∷ ts) (v ∷ vs) = ap (λ (z : ℤ). scalar_from z ts vs) (nothing_stays t v) ∙ nothing_more ts vs

-- at a location that it excludes it is nothing
pub excluded_nothing : (s : ℤ) (ts : List Triple) (vs : List ℤ) → IsExcluded ts vs → scalar_from s ts vs ≡ pos 0
excluded_nothing s [] vs out = absurd out
excluded_nothing s (t ∷ ts) [] out = absurd out
excluded_nothing s (t ∷ ts) (v ∷ vs) (inl out) = ap (λ (z : ℤ). scalar_from z ts vs) (nothing_outside s t v out) ∙ nothing_more ts vs
excluded_nothing s (t ∷ ts) (v ∷ vs) (inr out) = excluded_nothing (scaled s t v) ts vs out

-- a cut keeps the form of a region
pub cut_formed : (g : ℕ × ℕ) (at : List ℤ) (ts : List Triple) (ws : List ℤ) → IsWellFormed at ts → cuts ts ws ≡ true → IsWellFormed at (cut_triples g ts ws)
cut_formed g [] [] ws formed within = tt
cut_formed g [] (t ∷ ts) ws formed within = absurd formed
cut_formed g (p ∷ ps) [] ws formed within = absurd formed
cut_formed g (p ∷ ps) (t ∷ ts) [] formed within = formed
cut_formed g (p ∷ ps) (t ∷ ts) (w ∷ ws) formed within =
    let head = first_so (is_within t w) (cuts ts ws) within in
    let rest = second_so (is_within t w) (cuts ts ws) within in
    (cut_peak g t w ∙ formed.0, cut_shaped g t w formed.1 head, cut_formed g ps ts ws formed.2 rest)

-- and what it excludes stays excluded
pub cut_keeps_excluded : (g : ℕ × ℕ) (at : List ℤ) (ts : List Triple) (ws vs : List ℤ) → IsWellFormed at ts → cuts ts ws ≡ true → IsExcluded ts vs → IsExcluded (cut_triples g ts ws) vs
cut_keeps_excluded g at [] ws vs formed within out = absurd out
cut_keeps_excluded g [] (t ∷ ts) ws vs formed within out = absurd formed
cut_keeps_excluded g (p ∷ ps) (t ∷ ts) ws [] formed within out = absurd out
cut_keeps_excluded g (p ∷ ps) (t ∷ ts) [] (v ∷ vs) formed within out = out
cut_keeps_excluded g (p ∷ ps) (t ∷ ts) (w ∷ ws) (v ∷ vs) formed within (inl out) =
    inl (cut_keeps_out g t w v formed.1 (first_so (is_within t w) (cuts ts ws) within) out)
cut_keeps_excluded g (p ∷ ps) (t ∷ ts) (w ∷ ws) (v ∷ vs) formed within (inr out) =
    inr (cut_keeps_excluded g ps ts ws vs formed.2 (second_so (is_within t w) (cuts ts ws) within) out)

greatest_tells : (t : Triple) (ts : List Triple) (v : ℤ) (vs : List ℤ) → ((is_below (ratio t v) (greatest_ratio ts vs) ≡ true) × (greatest_ratio (t ∷ ts) (v ∷ vs) ≡ greatest_ratio ts vs))
    ⊎ ((is_below (ratio t v) (greatest_ratio ts vs) ≡ false) × (greatest_ratio (t ∷ ts) (v ∷ vs) ≡ ratio t v))
greatest_tells t ts v vs = by (is_below (ratio t v) (greatest_ratio ts vs)) refl
  where
    by : (b : Bool) → is_below (ratio t v) (greatest_ratio ts vs) ≡ b → ((is_below (ratio t v) (greatest_ratio ts vs) ≡ true) × (greatest_ratio (t ∷ ts) (v ∷ vs) ≡ greatest_ratio ts vs)) ⊎ ((is_below (ratio t v) (greatest_ratio ts vs) ≡ false) × (greatest_ratio (t ∷ ts) (v ∷ vs) ≡ ratio t v))
    by true e = inl (e, grind arith)
    by false e = inr (e, grind arith)

-- an axis of the greatest ratio excludes the master that cuts it
pub cut_excludes : (g : ℕ × ℕ) (at : List ℤ) (ts : List Triple) (vs : List ℤ) → IsWellFormed at ts → cuts ts vs ≡ true → is_below (greatest_ratio ts vs) g ≡ false → 0 < g.0 → IsExcluded (cut_triples g ts vs) vs
cut_excludes g at [] vs formed within greatest some = absurd (true≢false (sym (zero_below g some) ∙ greatest))
cut_excludes g at (t ∷ ts) [] formed within greatest some = absurd (true≢false (sym (zero_below g some) ∙ greatest))
cut_excludes g [] (t ∷ ts) (v ∷ vs) formed within greatest some = absurd formed
cut_excludes g (p ∷ ps) (t ∷ ts) (v ∷ vs) formed within greatest some =
    let head = first_so (is_within t v) (cuts ts vs) within in
    let rest = second_so (is_within t v) (cuts ts vs) within in
    let P : ℕ × ℕ → Type 0 = λ r. is_below r g ≡ false in
    elim (greatest_tells t ts v vs) [
      | inl e ↦ inr (cut_excludes g ps ts vs formed.2 rest (subst P e.1 greatest) some)
      | inr e ↦ inl (cut_puts_out g t v formed.1 head (subst P e.1 greatest) some)
    ]

-- a ratio of 0 on every axis is that of the location itself
pub no_ratio : (at : List ℤ) (ts : List Triple) (vs : List ℤ) → IsWellFormed at ts → length vs ≡ length at → (greatest_ratio ts vs).0 ≡ 0 → vs ≡ at
no_ratio [] [] [] formed same none = refl
no_ratio [] [] (v ∷ vs) formed same none = absurd (omega arith)
no_ratio [] (t ∷ ts) vs formed same none = absurd formed
no_ratio (p ∷ ps) [] vs formed same none = absurd formed
no_ratio (p ∷ ps) (t ∷ ts) [] formed same none = absurd (omega arith)
no_ratio (p ∷ ps) (t ∷ ts) (v ∷ vs) formed same none =
    elim (greatest_tells t ts v vs) [
      | inl e ↦ absurd (omega (arith, below_some (ratio t v) (greatest_ratio ts vs) e.0, ap (λ (r : ℕ × ℕ). r.0) e.1))
      | inr e ↦
          let head : v ≡ t.peak = at_peak_tells t v (sym (ap (λ (r : ℕ × ℕ). r.0) e.1) ∙ none) in
          let flat : is_below (0, 1) (greatest_ratio ts vs) ≡ false = sym (ap (λ (r : ℕ × ℕ). is_below r (greatest_ratio ts vs)) (peak_ratio t v head)) ∙ e.0 in
          let rest : (greatest_ratio ts vs).0 ≡ 0 = zero_or (greatest_ratio ts vs) flat in
          let tail : vs ≡ ps = no_ratio ps ts vs formed.2 (omega arith) rest in
          let first : v ≡ p = head ∙ formed.0 in
          cc
    ]
  where
    zero_or : (g : ℕ × ℕ) → is_below (0, 1) g ≡ false → g.0 ≡ 0
    zero_or g flat = grind arith

pub rank_tells : (v : ℤ) (vs : List ℤ) → ((v ≡ pos 0) × (rank (v ∷ vs) ≡ rank vs)) ⊎ ((v ≢ pos 0) × (rank (v ∷ vs) ≡ rank vs + 1))
rank_tells v vs = elim (eq_tells v (pos 0)) [
  | inl e ↦ inl (e.1, grind arith)
  | inr e ↦ inr (e.1, grind arith)
]

longer : (v : ℤ) (vs : List ℤ) → rank vs ≤ rank (v ∷ vs)
longer v vs = elim (rank_tells v vs) [ inl e ↦ omega (arith, e.1) | inr e ↦ omega (arith, e.1) ]

-- a location that isn't excluded has at least the axes of the region
covered : (at : List ℤ) (ts : List Triple) (vs : List ℤ) → IsWellFormed at ts → length vs ≡ length at → IsExcluded ts vs ⊎ (rank at ≤ rank vs)
covered [] [] vs formed same = inr (omega arith)
covered [] (t ∷ ts) vs formed same = absurd formed
covered (p ∷ ps) [] vs formed same = absurd formed
covered (p ∷ ps) (t ∷ ts) [] formed same = absurd (omega arith)
covered (p ∷ ps) (t ∷ ts) (v ∷ vs) formed same =
    elim (covered ps ts vs formed.2 (omega arith)) [
      | inl out ↦ inl (inr out)
      | inr more ↦ elim (rank_tells p ps) [
        | inl own ↦ inr (omega (arith, own.1, more, longer v vs))
        | inr own ↦ elim (rank_tells v vs) [
          | inl other ↦ inl (inl (subst (λ (z : ℤ). IsOut t z) (sym other.0) (out_at_default t formed.1 (λ none. own.0 (sym formed.0 ∙ none)))))
          | inr other ↦ inr (omega (arith, own.1, other.1, more))
        ]
      ]
    ]

and_false : (x y : Bool) → (x && y) ≡ false → (x ≡ false) ⊎ ((x ≡ true) × (y ≡ false))
and_false true y e = inr (refl, e)
and_false false y e = inl refl

-- and one that doesn't cut it either has more
beside : (at : List ℤ) (ts : List Triple) (vs : List ℤ) → IsWellFormed at ts → length vs ≡ length at → cuts ts vs ≡ false → IsExcluded ts vs ⊎ (rank at < rank vs)
beside [] [] vs formed same apart = absurd (true≢false apart)
beside [] (t ∷ ts) vs formed same apart = absurd formed
beside (p ∷ ps) [] vs formed same apart = absurd formed
beside (p ∷ ps) (t ∷ ts) [] formed same apart = absurd (omega arith)
beside (p ∷ ps) (t ∷ ts) (v ∷ vs) formed same apart =
    elim (and_false (is_within t v) (cuts ts vs) apart) [
      | inl out ↦ elim (outside_tells t v formed.1 out) [
        | inl none ↦ elim (covered ps ts vs formed.2 (omega arith)) [
          | inl rest ↦ inl (inr rest)
          | inr more ↦ inr (one_more p v ps vs (sym formed.0 ∙ none.0) none.1 more)
        ]
        | inr here ↦ inl (inl here)
      ]
      | inr within ↦ elim (beside ps ts vs formed.2 (omega arith) within.1) [
        | inl rest ↦ inl (inr rest)
        | inr more ↦ elim (inside_tells t v within.0) [
          | inl none ↦ inr (omega (arith, no_more p ps (sym formed.0 ∙ none.0), longer v vs, more))
          | inr inside ↦ inr (omega (arith, at_most p ps, counted v vs inside.other, more))
        ]
      ]
    ]
  where
    no_more : (q : ℤ) (qs : List ℤ) → q ≡ pos 0 → rank (q ∷ qs) ≡ rank qs
    no_more q qs none = elim (rank_tells q qs) [ inl e ↦ e.1 | inr e ↦ absurd (e.0 none) ]

    counted : (q : ℤ) (qs : List ℤ) → q ≢ pos 0 → rank (q ∷ qs) ≡ rank qs + 1
    counted q qs some = elim (rank_tells q qs) [ inl e ↦ absurd (some e.0) | inr e ↦ e.1 ]

    at_most : (q : ℤ) (qs : List ℤ) → rank (q ∷ qs) ≤ rank qs + 1
    at_most q qs = elim (rank_tells q qs) [ inl e ↦ omega (arith, e.1) | inr e ↦ omega (arith, e.1) ]

    one_more : (q w : ℤ) (qs ws : List ℤ) → q ≡ pos 0 → w ≢ pos 0 → rank qs ≤ rank ws → rank (q ∷ qs) < rank (w ∷ ws)
    one_more q w qs ws none some more = omega (arith, no_more q qs none, counted w ws some, more)

-- whether another master cuts the region
pub cut_by_tells : (region : List Triple) (other : List ℤ) → ((cuts region other ≡ true) × (cut_by region other ≡ cut_triples (greatest_ratio region other) region other)) ⊎ ((cuts region other ≡ false) × (cut_by region other ≡ region))
cut_by_tells region other = by (cuts region other) refl
  where
    by : (b : Bool) → cuts region other ≡ b → ((cuts region other ≡ true) × (cut_by region other ≡ cut_triples (greatest_ratio region other) region other)) ⊎ ((cuts region other ≡ false) × (cut_by region other ≡ region))
    by true e = inl (e, ap (λ (b : Bool). if b then cut_triples (greatest_ratio region other) region other else region) e)
    by false e = inr (e, ap (λ (b : Bool). if b then cut_triples (greatest_ratio region other) region other else region) e)

-- an earlier master is excluded once the region has met it
pub meets : (at : List ℤ) (region : List Triple) (other : List ℤ) → IsWellFormed at region → length other ≡ length at → other ≢ at → rank other ≤ rank at → IsExcluded (cut_by region other) other
meets at region other formed same differs few =
    let P : List Triple → Type 0 = λ r. IsExcluded r other in
    elim (cut_by_tells region other) [
      | inl cut ↦ subst P (sym cut.1) (cut_excludes (greatest_ratio region other) at region other formed cut.0 (below_not_itself (greatest_ratio region other)) (positive (greatest_ratio region other).0 (λ none. differs (no_ratio at region other formed same none))))
      | inr apart ↦ subst P (sym apart.1) (elim (beside at region other formed same apart.0) [
        | inl out ↦ out
        | inr more ↦ absurd (omega (arith, more, few))
      ])
    ]
  where
    positive : (n : ℕ) → n ≢ 0 → 0 < n
    positive n some = omega (arith, some)

-- the region keeps its form, and what it excludes, as it meets a master
pub meets_formed : (at : List ℤ) (region : List Triple) (other : List ℤ) → IsWellFormed at region → IsWellFormed at (cut_by region other)
meets_formed at region other formed =
    let P : List Triple → Type 0 = λ r. IsWellFormed at r in
    elim (cut_by_tells region other) [
      | inl cut ↦ subst P (sym cut.1) (cut_formed (greatest_ratio region other) at region other formed cut.0)
      | inr apart ↦ subst P (sym apart.1) formed
    ]

pub meets_keeps : (at : List ℤ) (region : List Triple) (other vs : List ℤ) → IsWellFormed at region → IsExcluded region vs → IsExcluded (cut_by region other) vs
meets_keeps at region other vs formed out =
    let P : List Triple → Type 0 = λ r. IsExcluded r vs in
    elim (cut_by_tells region other) [
      | inl cut ↦ subst P (sym cut.1) (cut_keeps_excluded (greatest_ratio region other) at region other vs formed cut.0 out)
      | inr apart ↦ subst P (sym apart.1) out
    ]
