-- The numbers of names that differ.
use Rattle.std.proofs.Common.{◌≡◌, ◌≢◌, ℕ, suc, ◌+◌, ◌<◌, Bool, true, false, cond, List, [], ◌∷◌, ◌++◌, length, take, get_or, All, refl, sym, ◌∙◌, ap, subst, arith}
use Rattle.std.specs.List.{AllPairs}
use Rattle.std.proofs.lemmas.List.{get_or-take, get_or_default, length-take-le}
use Rattle.std.proofs.lemmas.List.Elements.{All-head, All-tail}
use Rattle.indexmap.specs.IndexMap.{insert_entry}
use Rattle.font_model.specs.Fonts.{numbered}

new_step : (test : Bool) (other name : List ℕ) (number value : ℕ) (rest : List (List ℕ × ℕ)) (same new : List (List ℕ × ℕ)) → test ≡ false → cond test same ((other, number) ∷ new) ≡ (other, number) ∷ new
new_step test other name number value rest same new differs = ap (λ b. cond b same ((other, number) ∷ new)) differs

-- a test that holds of no two names that differ
differ_test : (test : Bool) (other name : List ℕ) → (test ≡ true → name ≡ other) → other ≢ name → test ≡ false
differ_test true other name sound differ = absurd (differ (sym (sound refl)))
differ_test false other name sound differ = refl

-- a name that isn't there goes last
pub insert_new : (eq : List ℕ → List ℕ → Bool) → ((a b : List ℕ) → eq a b ≡ true → a ≡ b) → (done : List (List ℕ)) (name : List ℕ) (number value : ℕ) → All (λ other. other ≢ name) done
    → insert_entry eq (numbered number done) name value ≡ numbered number done ++ (name, value) ∷ []
insert_new eq sound [] name number value differ = refl
insert_new eq sound (other ∷ done) name number value differ =
    new_step (eq name other) other name number value (numbered (number + 1) done) ((other, value) ∷ numbered (number + 1) done) (insert_entry eq (numbered (number + 1) done) name value)
    (differ_test (eq name other) other name (sound name other) (All-head (λ other. other ≢ name) other done differ))
    ∙ ap (λ (rest : List (List ℕ × ℕ)). (other, number) ∷ rest) (insert_new eq sound done name (number + 1) value (All-tail (λ other. other ≢ name) other done differ))

-- with the number behind the others'
pub numbered_push : (done : List (List ℕ)) (name : List ℕ) (number : ℕ) → numbered number done ++ (name, number + length done) ∷ [] ≡ numbered number (done ++ name ∷ [])
numbered_push [] name number = let same : number + 0 ≡ number = omega arith in ap (λ (n : ℕ). (name, n) ∷ []) same
numbered_push (other ∷ done) name number =
    let same : number + suc (length done) ≡ number + 1 + length done = omega arith in
    ap (λ (rest : List (List ℕ × ℕ)). (other, number) ∷ rest) (ap (λ (n : ℕ). numbered (number + 1) done ++ (name, n) ∷ []) same ∙ numbered_push done name (number + 1))

-- of names that differ none of the earlier is the next
pub none_before : (names : List (List ℕ)) (i : ℕ) (d : List ℕ) → AllPairs (λ earlier later. earlier ≢ later) names → i < length names → All (λ other. other ≢ get_or names i d) (take i names)
none_before names i d apart below k e inside =
    let less : k < i = omega (arith, inside, length-take-le i names (omega arith)) in
    subst (λ (other : List ℕ). other ≢ get_or names i d) (sym (get_or-take i names k e less))
    (subst (λ (name : List ℕ). get_or names k e ≢ name) (get_or_default names i e d below) (apart k i e less below))
