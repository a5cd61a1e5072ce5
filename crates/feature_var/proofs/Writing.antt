-- Steps of the loops that append.
use Rattle.std.proofs.Common.{◌≡◌, ℕ, ◌+◌, ◌-◌, ◌*◌, ◌<◌, suc, List, ◌∷◌, ◌++◌, ap, sym, ◌∙◌, arith, append_assoc}
use Rattle.std.specs.List.{flat_map}
use Rattle.feature_var.specs.Layout.{places_from}

-- one place more, of those that are left
pub places_next : (size place count done : ℕ) → done < count → places_from size place (count - done) ≡ place ∷ places_from size (place + size) (count - (done + 1))
places_next size place count done below =
    let left : count - done ≡ suc (count - (done + 1)) = omega arith in
    ap (places_from size place) left

-- what is appended goes from what is left to what is done
pub pushed : (before own more whole after : List ℕ) → after ≡ before ++ own → before ++ (own ++ more) ≡ whole → after ++ more ≡ whole
pushed before own more whole after appended so_far = ap (λ (bytes : List ℕ). bytes ++ more) appended ∙ (append_assoc before own more ∙ so_far)

-- one offset more is appended, of those of things of one size
pub offset_more : (spell : ℕ → List ℕ) (size start count number : ℕ) (before after whole : List ℕ) → number < count → after ≡ before ++ spell (start + size * number)
    → before ++ flat_map spell (places_from size (start + size * number) (count - number)) ≡ whole → after ++ flat_map spell (places_from size (start + size * (number + 1)) (count - (number + 1))) ≡ whole
offset_more spell size start count number before after whole below appended so_far =
    let place : ℕ = start + size * number in
    let left : ℕ = count - (number + 1) in
    let next : start + size * (number + 1) ≡ place + size = omega arith in
    ap (λ (n : ℕ). after ++ flat_map spell (places_from size n left)) next
    ∙ pushed before (spell place) (flat_map spell (places_from size (place + size) left)) whole after appended
    (sym (ap (λ (places : List ℕ). before ++ flat_map spell places) (places_next size place count number below)) ∙ so_far)
