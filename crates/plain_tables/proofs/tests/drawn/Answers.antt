use Rattle.std.proofs.Common.{◌≡◌, ℕ, ℤ, pos, negsuc, List, [], ◌∷◌, length, sym, ap, subst, ◌∙◌, arith}
use Rattle.std.proofs.lemmas.Int.{ints}
use Rattle.std.proofs.lemmas.List.Elements.{All-from_recursion, All-same}
use Rattle.std.specs.Prelude.{All}
use Rattle.std.specs.List.{AllByRecursion}
use Rattle.glyf_loca.specs.declared.extent.Bounds.{Bounds}
use Rattle.plain_tables.specs.Conditions.{AreBoundsWithin, AreLengthsWithin, CodesRise, IsAdvanceWithin}
use Rattle.plain_tables.proofs.tests.drawn.Goals as goal

held : {A : Type 0} (P : A → Type 0) (xs ys : List A) → xs ≡ ys → AllByRecursion P ys → All P xs
held P xs ys is each = All-same P xs ys is (All-from_recursion P ys each)

pub returns : goal.returns
returns c =
    let advances : List ℤ = pos 501 ∷ pos 0 ∷ pos 600 ∷ [] in
    let bounds : List Bounds = record { x_min = pos 50; y_min = negsuc 11; x_max = pos 450; y_max = pos 700 } ∷ record { x_min = negsuc 998; y_min = negsuc 998; x_max = pos 999; y_max = pos 999 } ∷ record { x_min = negsuc 19; y_min = negsuc 209; x_max = pos 640; y_max = pos 520 } ∷ [] in
    let lengths : List (ℕ × ℕ) = (8, 2) ∷ (0, 0) ∷ (14, 1) ∷ [] in
    record {
      least = omega (arith, c.in_ok-names.ensures.count);
      greatest = omega (arith, c.in_ok-names.ensures.count);
      advance_each = ap (λ (xs : List ℤ). length xs) c.in_ok-advances.ensures ∙ sym c.in_ok-names.ensures.count;
      bounds_each = ap (λ (xs : List Bounds). length xs) c.in_ok-bounds.ensures ∙ sym c.in_ok-names.ensures.count;
      lengths_each = ap (λ (xs : List (ℕ × ℕ)). length xs) c.in_ok-lengths.ensures ∙ sym c.in_ok-names.ensures.count;
      names = c.in_ok-names.ensures.within;
      advances = held IsAdvanceWithin c.in_ok-advances.advances advances c.in_ok-advances.ensures (record { least = omega (arith, ints); greatest = omega (arith, ints) }, (record { least = omega (arith, ints); greatest = omega (arith, ints) }, (record { least = omega (arith, ints); greatest = omega (arith, ints) }, tt)));
      bounds = held AreBoundsWithin c.in_ok-bounds.bounds bounds c.in_ok-bounds.ensures (record { least_x_min = omega (arith, ints); greatest_x_min = omega (arith, ints); least_y_min = omega (arith, ints); greatest_y_min = omega (arith, ints); least_x_max = omega (arith, ints); greatest_x_max = omega (arith, ints); least_y_max = omega (arith, ints); greatest_y_max = omega (arith, ints) }, (record { least_x_min = omega (arith, ints); greatest_x_min = omega (arith, ints); least_y_min = omega (arith, ints); greatest_y_min = omega (arith, ints); least_x_max = omega (arith, ints); greatest_x_max = omega (arith, ints); least_y_max = omega (arith, ints); greatest_y_max = omega (arith, ints) }, (record { least_x_min = omega (arith, ints); greatest_x_min = omega (arith, ints); least_y_min = omega (arith, ints); greatest_y_min = omega (arith, ints); least_x_max = omega (arith, ints); greatest_x_max = omega (arith, ints); least_y_max = omega (arith, ints); greatest_y_max = omega (arith, ints) }, tt)));
      lengths = held AreLengthsWithin c.in_ok-lengths.lengths lengths c.in_ok-lengths.ensures (record { points = omega arith; contours = omega arith }, (record { points = omega arith; contours = omega arith }, (record { points = omega arith; contours = omega arith }, tt)));
      numbers = c.in_ok-info.ensures;
      codes = subst (CodesRise 0) (sym c.in_ok-codes.ensures) (omega arith, (omega arith, tt));
    }
