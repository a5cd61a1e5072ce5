-- A drawing has at most one flattened outline, and drawings at most one first fault.
use Rattle.std.proofs.Common.{◌≡◌, ◌<◌, inl, inr, ℕ, zero, suc, ℤ, pos, List, [], ◌∷◌, ◌++◌, Option, Some, None, refl, sym, ◌∙◌, ap, subst, arith}
use Rattle.std.specs.Prelude.{slice_get}
use Rattle.std.specs.List.{AllZip}
use Rattle.std.proofs.lemmas.Bool.{cases_order}
use Rattle.std.proofs.lemmas.Option.{same_Some, slice_get_within}
use Rattle.basics.specs.declared.kinds.Kind.{Kind}
use Rattle.basics.specs.declared.kinds.Kind.TheVariants.{ComponentCycle}
use Rattle.glif.specs.declared.shape.Point.{Point}
use Rattle.glif.specs.declared.shape.Outline.{Outline}
use Rattle.glif.specs.declared.shape.Component.{Component}
use Rattle.glif.specs.declared.shape.Drawing.{Drawing}
use Rattle.compat.specs.References.{IsFirstOnCycle}
use Rattle.compat.specs.Names.{references}
use Rattle.compat.specs.Flattened.{moved_contours, IsNamed, AreDrawn, nothing, drawn, IsFlattened, flat_fault, HasFlatFault, refusal_of, IsFirstRefusal, dangling, cycle, flat, IsFlatOutline, AreFlattened}
use Rattle.compat.specs.declared.refusal.Refusal.{Refusal}

one_named : (drawings : List Drawing) (name : List ℕ) (a b : Drawing) → IsNamed drawings name a → IsNamed drawings name b → b ≡ a
one_named drawings name a b first second =
    let number = same_Some _ _ (sym first.named ∙ second.named) in
    same_Some _ _ (sym second.stands ∙ ap (slice_get drawings) (sym number) ∙ first.stands)

drawn_once : (drawings : List Drawing) {components : List Component} {a b : List (List Point)} → AreDrawn drawings components a → AreDrawn drawings components b → a ≡ b
drawn_once drawings nothing nothing = refl
drawn_once drawings (drawn {component} {more} {base} {below} {beside} named under next) (drawn {base = base'} {below = below'} {beside = beside'} named' under' next') =
    let same = one_named drawings component.base base base' named named' in
    let first = drawn_once drawings under (subst (λ (d : Drawing). AreDrawn drawings d.components below') same under') in
    let rest = drawn_once drawings next next' in
    ap (λ c. moved_contours component (base.outline.contours ++ c) ++ beside) first
    ∙ ap (λ (d : Drawing). moved_contours component (d.outline.contours ++ below') ++ beside) (sym same)
    ∙ ap (λ c. moved_contours component (base'.outline.contours ++ below') ++ c) rest

pub flattened_once : (drawings : List Drawing) (drawing : Drawing) (a b : List (List Point)) → IsFlattened drawings drawing a → IsFlattened drawings drawing b → a ≡ b
flattened_once drawings drawing a b first second =
    first.whole ∙ (ap (λ c. drawing.outline.contours ++ c) (drawn_once drawings first.drawn_below second.drawn_below) ∙ sym second.whole)

one_fault : (drawings : List Drawing) (drawing : Drawing) (a b : Option (Kind × ℤ)) → HasFlatFault drawings drawing a → HasFlatFault drawings drawing b → a ≡ b
one_fault drawings drawing a b first second =
    sym first.is ∙ (ap flat_fault (flattened_once drawings drawing first.contours second.contours first.flattened second.flattened) ∙ second.is)

no_fault_before : (drawings : List Drawing) (low high : ℕ) (drawing : Drawing) (fault : Kind × ℤ) → low < high → slice_get drawings low ≡ Some drawing → HasFlatFault drawings drawing (Some fault)
    → ((other : ℕ) (before : Drawing) → other < high → slice_get drawings other ≡ Some before → HasFlatFault drawings before None) → ⊥
no_fault_before drawings low high drawing fault less stands has before = let same = one_fault drawings drawing None (Some fault) (before low drawing less stands) has in cc

one_cycle : (graph : List (List ℕ)) (a b : ℕ) → IsFirstOnCycle graph a → IsFirstOnCycle graph b → a ≡ b
one_cycle graph a b first second = elim (cases_order a b) [
  | inl e ↦ e
  | inr apart ↦ elim apart [
    | inl less ↦ absurd (second.none_before a less first.on_cycle)
    | inr more ↦ absurd (first.none_before b more second.on_cycle)
  ]
]

one_flat : (drawings : List Drawing) (a b : ℕ) (first second : Drawing) (fault other : Kind × ℤ) → slice_get drawings a ≡ Some first → slice_get drawings b ≡ Some second → HasFlatFault drawings first (Some fault) → HasFlatFault drawings second (Some other)
    → ((n : ℕ) (before : Drawing) → n < a → slice_get drawings n ≡ Some before → HasFlatFault drawings before None) → ((n : ℕ) (before : Drawing) → n < b → slice_get drawings n ≡ Some before → HasFlatFault drawings before None)
    → refusal_of a fault ≡ refusal_of b other
one_flat drawings a b first second fault other stands stands' has has' before before' = elim (cases_order a b) [
  | inl e ↦
      let same = same_Some _ _ (sym stands ∙ ap (slice_get drawings) e ∙ stands') in
      let faults = same_Some _ _ (one_fault drawings second (Some fault) (Some other) (subst (λ d. HasFlatFault drawings d (Some fault)) same has) has') in
      ap (λ n. refusal_of n fault) e ∙ ap (refusal_of b) faults
  | inr apart ↦ elim apart [
    | inl less ↦ absurd (no_fault_before drawings a b first fault less stands has before')
    | inr more ↦ absurd (no_fault_before drawings b a second other more stands' has' before)
  ]
]

pub refused_once : (drawings : List Drawing) (a b : Refusal) → IsFirstRefusal drawings a → IsFirstRefusal drawings b → a ≡ b
refused_once drawings a b (dangling found) (dangling found') = same_Some _ _ (sym found ∙ found')
refused_once drawings a b (dangling found) (cycle none first) = cc
refused_once drawings a b (dangling found) (flat none acyclic stands has before) = cc
refused_once drawings a b (cycle none first) (dangling found) = cc
refused_once drawings a b (cycle {number} none first) (cycle {number = number'} none' first') = ap (λ n. record { drawing = n; kind = ComponentCycle; at = 0; first = pos 0 }) (one_cycle (references drawings) number number' first first')
refused_once drawings a b (cycle {number} none first) (flat none' acyclic stands has before) = absurd (acyclic number first.on_cycle)
refused_once drawings a b (flat none acyclic stands has before) (dangling found) = cc
refused_once drawings a b (flat none acyclic stands has before) (cycle {number} none' first) = absurd (acyclic number first.on_cycle)
refused_once drawings a b (flat {number} {drawing} {fault} none acyclic stands has before) (flat {number = number'} {drawing = drawing'} {fault = fault'} none' acyclic' stands' has' before') =
    one_flat drawings number number' drawing drawing' fault fault' stands stands' has has' before before'

zip_at : (drawings : List Drawing) (all : List Drawing) (outlines : List Outline) → AllZip (IsFlatOutline drawings) all outlines → (number : ℕ) (drawing : Drawing) → slice_get all number ≡ Some drawing → HasFlatFault drawings drawing None
zip_at drawings [] outlines each number drawing stands = absurd (let less = slice_get_within [] number drawing stands in omega (arith, less))
zip_at drawings (first ∷ all) [] each number drawing stands = absurd each
zip_at drawings (first ∷ all) (outline ∷ outlines) each zero drawing stands =
    subst (λ d. HasFlatFault drawings d None) (same_Some _ _ stands) (record { contours = outline.contours; flattened = each.0.flattened; is = each.0.within })
zip_at drawings (first ∷ all) (outline ∷ outlines) each (suc number) drawing stands = zip_at drawings all outlines each.1 number drawing stands

pub none_refused : (drawings : List Drawing) (outlines : List Outline) (refusal : Refusal) → AreFlattened drawings outlines → IsFirstRefusal drawings refusal → ⊥
none_refused drawings outlines refusal all (dangling found) = let none = all.none_dangling in cc
none_refused drawings outlines refusal all (cycle {number} none first) = all.no_cycle number first.on_cycle
none_refused drawings outlines refusal all (flat {number} {drawing} {fault} none acyclic stands has before) =
    let same = one_fault drawings drawing None (Some fault) (zip_at drawings drawings outlines all.each number drawing stands) has in cc
