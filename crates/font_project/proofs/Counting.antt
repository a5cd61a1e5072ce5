-- The numbers that are left of those without the default's.
use Rattle.std.proofs.Common.{◌≡◌, ◌≢◌, ℕ, suc, ◌+◌, ◌-◌, ◌<◌, true, false, cond, List, [], ◌∷◌, ◌++◌, append_assoc, sym, ◌∙◌, ap, arith}
use Rattle.std.specs.Prelude.{nat_eq}
use Rattle.std.proofs.lemmas.Bool.Decides.{nat_tests}
use Rattle.font_project.specs.Numbers.{others_from}

turn : (default count number : ℕ) → number < count
    → others_from default (count - number) number ≡ cond (nat_eq number default) (others_from default (count - (number + 1)) (number + 1)) (number ∷ others_from default (count - (number + 1)) (number + 1))
turn default count number below =
    let more : count - number ≡ suc (count - (number + 1)) = omega arith in
    ap (λ (n : ℕ). others_from default n number) more

-- the default's is passed over
pub passed : (default count number : ℕ) (done whole : List ℕ) → number < count → number ≡ default → done ++ others_from default (count - number) number ≡ whole
    → done ++ others_from default (count - (number + 1)) (number + 1) ≡ whole
passed default count number done whole below same before =
    let test : nat_eq number default ≡ true = grind (arith, nat_tests) in
    let rest = others_from default (count - (number + 1)) (number + 1) in
    sym (ap (λ (list : List ℕ). done ++ list) (turn default count number below ∙ ap (λ b. cond b rest (number ∷ rest)) test)) ∙ before

-- another one is taken
pub taken : (default count number : ℕ) (done new whole : List ℕ) → number < count → number ≢ default → new ≡ done ++ number ∷ [] → done ++ others_from default (count - number) number ≡ whole
    → new ++ others_from default (count - (number + 1)) (number + 1) ≡ whole
taken default count number done new whole below other grown before =
    let test : nat_eq number default ≡ false = grind (arith, nat_tests) in
    let rest = others_from default (count - (number + 1)) (number + 1) in
    ap (λ (list : List ℕ). list ++ rest) grown ∙ (append_assoc done (number ∷ []) rest
    ∙ (sym (ap (λ (list : List ℕ). done ++ list) (turn default count number below ∙ ap (λ b. cond b rest (number ∷ rest)) test)) ∙ before))
