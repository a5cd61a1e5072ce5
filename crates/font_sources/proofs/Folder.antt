-- The folder of a path.
use Rattle.std.proofs.Common.{◌≡◌, ℕ, zero, suc, ◌+◌, ◌-◌, ◌<◌, ◌≢◌, List, [], length, take, drop, get_or, Option, Some, None, refl, sym, ◌∙◌, ap, arith, inl, inr, if◌then◌else◌, length-drop, codes, lit<, eq-eqb, get_or-drop}
use Rattle.std.specs.Prelude.{◌==◌}
use Rattle.std.specs.Str.Pattern.{RFindsChar, HasCharAt, SplitsAroundMatch}
use Rattle.std.specs.Path.{rsplit_once, rfind_below}
use Rattle.std.proofs.lemmas.Bool.{ne_eqb}
use Rattle.std.proofs.lemmas.Str.Pattern.{NoCharPasses-char}
use Rattle.std.proofs.Math.Nat.{eq-or-lt_of_le}
use Rattle.font_sources.specs.Document.{folder_of, or_root}

rfind_none : (text : List ℕ) (n : ℕ) → ((i : ℕ) → i < n → get_or text i 0 ≢ 47) → rfind_below 47 text n ≡ None
rfind_none text zero lacks = refl
rfind_none text (suc n) lacks = rw (ne_eqb (get_or text n 0) 47 (lacks n (omega arith))) (rfind_none text n (λ i below. lacks i (omega arith)))

rfind_some : (text : List ℕ) (at n : ℕ) → at < n → get_or text at 0 ≡ 47 → ((i : ℕ) → at < i → i < n → get_or text i 0 ≢ 47) → rfind_below 47 text n ≡ Some at
rfind_some text at zero below is lacks = absurd (omega arith)
rfind_some text at (suc n) below is lacks =
    elim (eq-or-lt_of_le {n = at} {m = n} (omega arith)) [
      | inl same ↦ rw (eq-eqb (get_or text n 0) 47 (ap (λ i. get_or text i 0) (sym same) ∙ is)) (ap Some (sym same))
      | inr lower ↦ rw (ne_eqb (get_or text n 0) 47 (lacks n lower (omega arith))) (rfind_some text at n lower is (λ i above under. lacks i above (omega arith)))
    ]

-- `rsplit_once` at a slash
splits_last : (path folder name : List ℕ) → SplitsAroundMatch (RFindsChar 47) path folder name → rsplit_once 47 path ≡ Some (folder, name)
unfolding rsplit_once
splits_last path folder name cut =
    let i = cut.0 in
    let j = cut.1 in
    let at : HasCharAt 47 path i j = cut.2.1 in
    let next : j ≡ i + 1 = at.ends in
    let size : length name + j ≡ length path = cut.7 in
    let lacks : (k : ℕ) → i < k → k < length path → get_or path k 0 ≢ 47 =
    λ k above below is. NoCharPasses-char 47 (drop j path) (k - j) cut.2.0 (lit< tt) (omega (arith, length-drop j path))
    (get_or-drop j path (k - j) 0 ∙ (ap (λ n. get_or path n 0) (omega arith) ∙ is)) in
    let before : take i path ≡ folder = sym cut.3 in
    let after : drop (i + 1) path ≡ name = ap (λ n. drop n path) (sym next) ∙ sym cut.4 in
    rw (rfind_some path i (length path) (omega arith) (at.byte (lit< tt)) lacks) (cc)

splits_nowhere : (path : List ℕ) → RFindsChar 47 path None → rsplit_once 47 path ≡ None
unfolding rsplit_once
splits_nowhere path lacks = rw (rfind_none path (length path) (λ i below. NoCharPasses-char 47 path i lacks (lit< tt) below)) refl

pub folder_named : (path folder name : List ℕ) → SplitsAroundMatch (RFindsChar 47) path folder name → or_root folder ≡ folder_of path
unfolding folder_of
folder_named path folder name cut = rw (splits_last path folder name cut) refl

pub folder_none : (path : List ℕ) → RFindsChar 47 path None → [] ≡ folder_of path
unfolding folder_of
folder_none path lacks = rw (splits_nowhere path lacks) refl
