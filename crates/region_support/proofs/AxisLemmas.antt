-- One axis of a region at a value: where the factor is 1, where it is 0, and what a cut leaves.
use Rattle.std.proofs.Common.{◌≡◌, ◌≢◌, refl, sym, ◌∙◌, ap, subst, ℕ, ℤ, pos, negsuc, ◌*ℤ◌, ◌≤ℤ◌, ◌<ℤ◌, ◌<◌, true, false, true≢false, ◌⊎◌, inl, inr, arith}
use Rattle.std.specs.Prelude.{unsigned_abs}
use Rattle.std.specs.Ordering.{int_eq}
use Rattle.std.proofs.lemmas.Int.{ints}
use Rattle.fixpoint.specs.Rounding.{round_up}
use Rattle.fixpoint.proofs.RoundingLemmas.{scaled_by_one, scaled_by_zero}
use Rattle.variation_rules.specs.declared.region.Triple.{Triple}
use Rattle.variation_rules.specs.Scalar.{is_ignored, factor, scaled}
use Rattle.region_support.specs.Regions.{no_axis, IsNoneIfIgnored, is_within, ratio, is_below, cut_triple}

pub eq_tells : (a b : ℤ) → ((int_eq a b ≡ true) × (a ≡ b)) ⊎ ((int_eq a b ≡ false) × (a ≢ b))
eq_tells a b = grind (arith, ints)

-- the peak's own value
pub one_at_peak : (t : Triple) → factor t t.peak ≡ (pos 1, pos 1)
one_at_peak t = grind (arith, ints)

-- the axis counts, and the value is at or beyond one of its ends
pub record IsOut (t : Triple) (value : ℤ) : Type 0 where
  pub counts : is_ignored t ≡ false
  pub beyond : ((value ≤ℤ t.start) × (value <ℤ t.peak)) ⊎ ((t.end ≤ℤ value) × (t.peak <ℤ value))

pub zero_outside : (t : Triple) (value : ℤ) → IsOut t value → factor t value ≡ (pos 0, pos 1)
zero_outside t value out = elim out.beyond [ inl low ↦ grind (arith, ints, out.counts) | inr high ↦ grind (arith, ints, out.counts) ]

-- the axis of a region, in one of its three forms: left out, above the default, or below it
pub record IsAbove (t : Triple) : Type 0 where
  pub start : pos 0 ≤ℤ t.start
  pub peak : t.start <ℤ t.peak
  pub end : t.peak ≤ℤ t.end

pub record IsBelow (t : Triple) : Type 0 where
  pub start : t.start ≤ℤ t.peak
  pub peak : t.peak <ℤ t.end
  pub end : t.end ≤ℤ pos 0

abbrev pub IsShaped : Triple → Type 0
IsShaped t = (t ≡ no_axis) ⊎ (IsAbove t ⊎ IsBelow t)

no_axis_peak : (t : Triple) → t ≡ no_axis → t.peak ≡ pos 0
no_axis_peak t none = ap (λ (u : Triple). u.peak) none

above_counts : (t : Triple) → IsAbove t → is_ignored t ≡ false
above_counts t above = let record { start = a; peak = b; end = c } = above in grind (arith, ints)

below_counts : (t : Triple) → IsBelow t → is_ignored t ≡ false
below_counts t below = let record { start = a; peak = b; end = c } = below in grind (arith, ints)

shaped_counts : (t : Triple) → IsShaped t → t.peak ≢ pos 0 → is_ignored t ≡ false
shaped_counts t (inl none) some = absurd (some (no_axis_peak t none))
shaped_counts t (inr (inl above)) some = above_counts t above
shaped_counts t (inr (inr below)) some = below_counts t below

out_has_peak : (t : Triple) (value : ℤ) → IsOut t value → t.peak ≢ pos 0
out_has_peak t value out none = let counts = out.counts in grind (arith, ints)

-- at the default such an axis, unless it is left out, is 0
pub out_at_default : (t : Triple) → IsShaped t → t.peak ≢ pos 0 → IsOut t (pos 0)
out_at_default t (inl none) some = absurd (some (no_axis_peak t none))
out_at_default t (inr (inl above)) some =
    let record { start = a; peak = b; end = c } = above in
    record { counts = above_counts t above; beyond = inl (omega (arith, ints), omega (arith, ints)) }
out_at_default t (inr (inr below)) some =
    let record { start = a; peak = b; end = c } = below in
    record { counts = below_counts t below; beyond = inr (omega (arith, ints), omega (arith, ints)) }

-- what it says that another master's value is within
pub record IsInside (t : Triple) (value : ℤ) : Type 0 where
  pub some : t.peak ≢ pos 0
  pub other : value ≢ pos 0
  pub strictly : (value ≡ t.peak) ⊎ ((t.start <ℤ value) × (value <ℤ t.end))

pub inside_tells : (t : Triple) (value : ℤ) → is_within t value ≡ true → ((t.peak ≡ pos 0) × (value ≡ pos 0)) ⊎ IsInside t value
inside_tells t value within =
    elim (eq_tells t.peak (pos 0)) [
      | inl e ↦ inl (e.1, grind (arith, ints))
      | inr e ↦ inr (record { some = e.1; other = grind (arith, ints); strictly = grind (arith, ints) })
    ]

-- and that it isn't
pub outside_tells : (t : Triple) (value : ℤ) → IsShaped t → is_within t value ≡ false → ((t.peak ≡ pos 0) × (value ≢ pos 0)) ⊎ IsOut t value
outside_tells t value (inl none) beside = let none_at : t.peak ≡ pos 0 = no_axis_peak t none in inl (none_at, grind (arith, ints))
outside_tells t value (inr (inl above)) beside =
    let record { start = a; peak = b; end = c } = above in
    inr (record { counts = above_counts t above; beyond = grind (arith, ints) })
outside_tells t value (inr (inr below)) beside =
    let record { start = a; peak = b; end = c } = below in
    inr (record { counts = below_counts t below; beyond = grind (arith, ints) })

-- what a cut does to the axis
pub cut_tells : (g : ℕ × ℕ) (t : Triple) (value : ℤ) → ((cut_triple g t value ≡ t) × ((is_below (ratio t value) g ≡ true) ⊎ (value ≡ t.peak)))
    ⊎ (((t.peak <ℤ value) × (cut_triple g t value ≡ record t { end = value }))
    ⊎ ((value <ℤ t.peak) × (cut_triple g t value ≡ record t { start = value })))
cut_tells g t value = grind (arith, ints)

pub at_peak_tells : (t : Triple) (value : ℤ) → (ratio t value).0 ≡ 0 → value ≡ t.peak
at_peak_tells t value none = grind (arith, ints)

-- a cut leaves the peak, and so the form of the axis
pub cut_peak : (g : ℕ × ℕ) (t : Triple) (value : ℤ) → (cut_triple g t value).peak ≡ t.peak
cut_peak g t value = elim (cut_tells g t value) [
  | inl same ↦ ap (λ (u : Triple). u.peak) same.0
  | inr (inl high) ↦ ap (λ (u : Triple). u.peak) high.1
  | inr (inr low) ↦ ap (λ (u : Triple). u.peak) low.1
]

end_shaped : (t : Triple) (value : ℤ) → IsAbove t ⊎ IsBelow t → t.peak <ℤ value → value <ℤ t.end → IsAbove (record t { end = value }) ⊎ IsBelow (record t { end = value })
end_shaped t value (inl above) high inside =
    let record { start = a; peak = b; end = c } = above in
    inl (record { start = omega (arith, ints); peak = omega (arith, ints); end = omega (arith, ints) })
end_shaped t value (inr below) high inside =
    let record { start = a; peak = b; end = c } = below in
    inr (record { start = omega (arith, ints); peak = omega (arith, ints); end = omega (arith, ints) })

start_shaped : (t : Triple) (value : ℤ) → IsAbove t ⊎ IsBelow t → value <ℤ t.peak → t.start <ℤ value → IsAbove (record t { start = value }) ⊎ IsBelow (record t { start = value })
start_shaped t value (inl above) low inside =
    let record { start = a; peak = b; end = c } = above in
    inl (record { start = omega (arith, ints); peak = omega (arith, ints); end = omega (arith, ints) })
start_shaped t value (inr below) low inside =
    let record { start = a; peak = b; end = c } = below in
    inr (record { start = omega (arith, ints); peak = omega (arith, ints); end = omega (arith, ints) })

inside_above : (t : Triple) (value : ℤ) → IsInside t value → t.peak <ℤ value → value <ℤ t.end
inside_above t value inside high = elim inside.strictly [ inl e ↦ absurd (omega (arith, ints, ap (λ (z : ℤ). z) e)) | inr e ↦ e.1 ]

inside_below : (t : Triple) (value : ℤ) → IsInside t value → value <ℤ t.peak → t.start <ℤ value
inside_below t value inside low = elim inside.strictly [ inl e ↦ absurd (omega (arith, ints, ap (λ (z : ℤ). z) e)) | inr e ↦ e.0 ]

used_shaped : (t : Triple) → IsShaped t → t.peak ≢ pos 0 → IsAbove t ⊎ IsBelow t
used_shaped t (inl none) some = absurd (some (no_axis_peak t none))
used_shaped t (inr used) some = used

cut_used : (g : ℕ × ℕ) (t : Triple) (value : ℤ) → IsAbove t ⊎ IsBelow t → IsInside t value → IsAbove (cut_triple g t value) ⊎ IsBelow (cut_triple g t value)
cut_used g t value used inside =
    let P : Triple → Type 0 = λ u. IsAbove u ⊎ IsBelow u in
    elim (cut_tells g t value) [
      | inl same ↦ subst P (sym same.0) used
      | inr (inl high) ↦ subst P (sym high.1) (end_shaped t value used high.0 (inside_above t value inside high.0))
      | inr (inr low) ↦ subst P (sym low.1) (start_shaped t value used low.0 (inside_below t value inside low.0))
    ]

used_peak : (t : Triple) → IsAbove t ⊎ IsBelow t → t.peak ≢ pos 0
used_peak t (inl above) none = let record { start = a; peak = b; end = c } = above in absurd (omega (arith, ints, ap (λ (z : ℤ). z) none))
used_peak t (inr below) none = let record { start = a; peak = b; end = c } = below in absurd (omega (arith, ints, ap (λ (z : ℤ). z) none))

cut_none : (g : ℕ × ℕ) (t : Triple) (value : ℤ) → IsShaped t → t.peak ≡ pos 0 → value ≡ pos 0 → IsShaped (cut_triple g t value)
cut_none g t value (inr used) none at = absurd (used_peak t used none)
cut_none g t value (inl is) none at = inl (elim (cut_tells g t value) [
  | inl same ↦ same.0 ∙ is
  | inr (inl high) ↦ absurd (omega (arith, ints, high.0, ap (λ (z : ℤ). z) none, ap (λ (z : ℤ). z) at))
  | inr (inr low) ↦ absurd (omega (arith, ints, low.0, ap (λ (z : ℤ). z) none, ap (λ (z : ℤ). z) at))
])

pub cut_shaped : (g : ℕ × ℕ) (t : Triple) (value : ℤ) → IsShaped t → is_within t value ≡ true → IsShaped (cut_triple g t value)
cut_shaped g t value shaped within =
    elim (inside_tells t value within) [
      | inl none ↦ cut_none g t value shaped none.0 none.1
      | inr inside ↦ inr (cut_used g t value (used_shaped t shaped inside.some) inside)
    ]

-- and what was outside stays outside
cut_beyond : (g : ℕ × ℕ) (t : Triple) (value at : ℤ) → IsInside t value → IsOut t at → ((at ≤ℤ (cut_triple g t value).start) × (at <ℤ (cut_triple g t value).peak)) ⊎ (((cut_triple g t value).end ≤ℤ at) × ((cut_triple g t value).peak <ℤ at))
cut_beyond g t value at inside out =
    let P : Triple → Type 0 = λ u. ((at ≤ℤ u.start) × (at <ℤ u.peak)) ⊎ ((u.end ≤ℤ at) × (u.peak <ℤ at)) in
    let end_at : t.peak <ℤ value → P (record t { end = value }) = λ high.
    let kept = inside_above t value inside high in
    elim out.beyond [ inl e ↦ inl e | inr e ↦ inr (omega (arith, ints), e.1) ] in
    let start_at : value <ℤ t.peak → P (record t { start = value }) = λ low.
    let kept = inside_below t value inside low in
    elim out.beyond [ inl e ↦ inl (omega (arith, ints), e.1) | inr e ↦ inr e ] in
    elim (cut_tells g t value) [
      | inl same ↦ subst P (sym same.0) out.beyond
      | inr (inl high) ↦ subst P (sym high.1) (end_at high.0)
      | inr (inr low) ↦ subst P (sym low.1) (start_at low.0)
    ]

pub cut_keeps_out : (g : ℕ × ℕ) (t : Triple) (value at : ℤ) → IsShaped t → is_within t value ≡ true → IsOut t at → IsOut (cut_triple g t value) at
cut_keeps_out g t value at shaped within out =
    elim (inside_tells t value within) [
      | inl none ↦ absurd (out_has_peak t at out none.0)
      | inr inside ↦ record {
        counts = shaped_counts (cut_triple g t value) (cut_shaped g t value shaped within) (λ none. inside.some (sym (cut_peak g t value) ∙ none));
        beyond = cut_beyond g t value at inside out;
      }
    ]

pub peak_ratio : (t : Triple) (value : ℤ) → value ≡ t.peak → ratio t value ≡ (0, 1)
peak_ratio t value e = grind (arith, ints)

-- the ratio 0 is below each that isn't 0, and none is below it
pub zero_below : (g : ℕ × ℕ) → 0 < g.0 → is_below (0, 1) g ≡ true
zero_below g some = grind arith

pub below_some : (r g : ℕ × ℕ) → is_below r g ≡ true → 0 < g.0
below_some r g below = grind arith

pub below_not_itself : (g : ℕ × ℕ) → is_below g g ≡ false
below_not_itself g = grind arith

peak_below : (g : ℕ × ℕ) (t : Triple) (value : ℤ) → value ≡ t.peak → 0 < g.0 → is_below (ratio t value) g ≡ true
peak_below g t value e some = ap (λ (r : ℕ × ℕ). is_below r g) (peak_ratio t value e) ∙ zero_below g some

-- where the axis has the greatest ratio and that isn't 0, the other master is outside after the cut
cut_at : (g : ℕ × ℕ) (t : Triple) (value : ℤ) → is_below (ratio t value) g ≡ false → 0 < g.0 → ((value ≤ℤ (cut_triple g t value).start) × (value <ℤ (cut_triple g t value).peak)) ⊎ (((cut_triple g t value).end ≤ℤ value) × ((cut_triple g t value).peak <ℤ value))
cut_at g t value greatest some =
    let P : Triple → Type 0 = λ u. ((value ≤ℤ u.start) × (value <ℤ u.peak)) ⊎ ((u.end ≤ℤ value) × (u.peak <ℤ value)) in
    elim (cut_tells g t value) [
      | inl same ↦ absurd (elim same.1 [ inl e ↦ true≢false (sym e ∙ greatest) | inr e ↦ true≢false (sym (peak_below g t value e some) ∙ greatest) ])
      | inr (inl high) ↦ subst P (sym high.1) (inr (omega (arith, ints), high.0))
      | inr (inr low) ↦ subst P (sym low.1) (inl (omega (arith, ints), low.0))
    ]

pub cut_puts_out : (g : ℕ × ℕ) (t : Triple) (value : ℤ) → IsShaped t → is_within t value ≡ true → is_below (ratio t value) g ≡ false → 0 < g.0 → IsOut (cut_triple g t value) value
cut_puts_out g t value shaped within greatest some =
    elim (inside_tells t value within) [
      | inl none ↦ absurd (true≢false (sym (peak_below g t value (none.1 ∙ sym none.0) some) ∙ greatest))
      | inr inside ↦ record {
        counts = shaped_counts (cut_triple g t value) (cut_shaped g t value shaped within) (λ none. inside.some (sym (cut_peak g t value) ∙ none));
        beyond = cut_at g t value greatest some;
      }
    ]

-- an axis of a region that the scalar leaves out is 0 throughout
pub shaped_none : (t : Triple) → IsShaped t → IsNoneIfIgnored t
shaped_none t (inl none) ignored = none
shaped_none t (inr used) ignored = absurd (true≢false (sym ignored ∙ shaped_counts t (inr used) (used_peak t used)))

-- the scalar at the peak is as before, outside it is 0, and once it is 0 it stays so
one_at : (t : Triple) (value : ℤ) → t.peak ≡ value → factor t value ≡ (pos 1, pos 1)
one_at t value e = subst (λ (z : ℤ). factor t z ≡ (pos 1, pos 1)) e (one_at_peak t)

zero_times : (s : ℤ) → pos 0 *ℤ s ≡ pos 0 *ℤ pos 0
zero_times (pos n) = omega (arith, ints)
zero_times (negsuc n) = omega (arith, ints)

pub whole_at_peak : (s : ℤ) (t : Triple) (value : ℤ) → t.peak ≡ value → scaled s t value ≡ s
unfolding scaled
whole_at_peak s t value e = ap (λ (f : ℤ × ℤ). round_up (s *ℤ f.0) (unsigned_abs f.1)) (one_at t value e) ∙ scaled_by_one s 1 (omega arith)

pub nothing_outside : (s : ℤ) (t : Triple) (value : ℤ) → IsOut t value → scaled s t value ≡ pos 0
unfolding scaled
nothing_outside s t value out = ap (λ (f : ℤ × ℤ). round_up (s *ℤ f.0) (unsigned_abs f.1)) (zero_outside t value out) ∙ scaled_by_zero s 1 (omega arith)

some_below : (t : Triple) (value : ℤ) → 0 < unsigned_abs (factor t value).1
some_below t value = grind (arith, ints)

none_factor : (value : ℤ) → factor no_axis value ≡ (pos 1, pos 1)
none_factor value = refl

pub none_leaves : (s : ℤ) (value : ℤ) → scaled s no_axis value ≡ s
unfolding scaled
none_leaves s value = ap (λ (f : ℤ × ℤ). round_up (s *ℤ f.0) (unsigned_abs f.1)) (none_factor value) ∙ scaled_by_one s 1 (omega arith)

pub nothing_stays : (t : Triple) (value : ℤ) → scaled (pos 0) t value ≡ pos 0
unfolding scaled
nothing_stays t value =
    let d = unsigned_abs (factor t value).1 in
    let product : pos 0 *ℤ (factor t value).0 ≡ pos 0 *ℤ pos 0 = zero_times (factor t value).0 in
    ap (λ (n : ℤ). round_up n d) product ∙ scaled_by_zero (pos 0) d (some_below t value)
