use Rattle.std.proofs.Common.{◌≡◌, ◌+◌, ◌<◌, ℕ, ℤ, Bool, true, false, List, ◌∷◌, Some, cond, length, drop, get_or, refl, sym, ◌∙◌, ap, add-one, drop-cons, arith}
use Rattle.std.specs.List.{position_from}
use Rattle.std.proofs.lemmas.Iterator.Adapters.{position_from-zero}
use Rattle.std.proofs.lemmas.List.{drop_all}
use Rattle.arrayvec.specs.ArrayVec.{ArrayVec}
use Rattle.region_support.specs.Coordinates.{coordinates_of}
use Rattle.region_support.specs.Sorting.{is_same_location}
use Rattle.region_support.proofs.sorting.first_same.Goals as goal

-- one location more
step : (p : List ℤ → Bool) (n : ℕ) (xs : List (ArrayVec ℤ)) (x : ArrayVec ℤ) → n < length xs → x ≡ get_or xs n x
    → position_from p n (coordinates_of (drop n xs)) ≡ cond (p x.items) (Some n) (position_from p (n + 1) (coordinates_of (drop (n + 1) xs)))
step p n xs x here is =
    let head : drop n xs ≡ get_or xs n x ∷ drop (n + 1) xs = rw (add-one, drop-cons xs n x) refl in
    ap (λ (l : List (ArrayVec ℤ)). position_from p n (coordinates_of l)) head ∙ ap (λ (y : ArrayVec ℤ). cond (p y.items) (Some n) (position_from p (n + 1) (coordinates_of (drop (n + 1) xs)))) (sym is)

pub returns-then-eq : goal.returns-then-eq
returns-then-eq c =
    let p = is_same_location c.args.at.now.items in
    let same : p c.index-earlier-number.result.items ≡ true = sym c.if-eq.ensures in
    let now = step p c.loop-number.number c.args.earlier.now c.index-earlier-number.result (omega arith) c.index-earlier-number.is in
    let found = ap (λ (b : Bool). cond b (Some c.loop-number.number) (position_from p (c.loop-number.number + 1) (coordinates_of (drop (c.loop-number.number + 1) c.args.earlier.now)))) same in
    sym (now ∙ found) ∙ (c.loop-number.invariant ∙ sym (position_from-zero p (coordinates_of c.args.earlier.now)))

pub loop-number-preserved : goal.loop-number-preserved
loop-number-preserved c =
    let p = is_same_location c.args.at.now.items in
    let other : p c.index-earlier-number.result.items ≡ false = sym c.if-eq.ensures in
    let now = step p c.loop-number.number c.args.earlier.now c.index-earlier-number.result (omega arith) c.index-earlier-number.is in
    let passed = ap (λ (b : Bool). cond b (Some c.loop-number.number) (position_from p (c.loop-number.number + 1) (coordinates_of (drop (c.loop-number.number + 1) c.args.earlier.now)))) other in
    sym (now ∙ passed) ∙ c.loop-number.invariant

pub returns : goal.returns
returns c =
    let p = is_same_location c.args.at.now.items in
    let ended = ap (λ (l : List (ArrayVec ℤ)). position_from p c.loop-number.number (coordinates_of l)) (drop_all c.loop-number.number c.args.earlier.now (omega arith)) in
    sym ended ∙ (c.loop-number.invariant ∙ sym (position_from-zero p (coordinates_of c.args.earlier.now)))
