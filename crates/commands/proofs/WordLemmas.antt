-- Places and drawings in words.
use Rattle.std.proofs.Common.{◌≡◌, ℕ, ℤ, zero, suc, ◌+◌, ◌-◌, ◌<◌, ◌≤◌, ◌≢◌, ◌⊎◌, false, List, [], ◌∷◌, ◌++◌, length, take, drop, get_or, Option, Some, None, refl, sym, ◌∙◌, ap, subst, arith, inl, inr, if◌then◌else◌, nat_le, nat_eq, map, ◌&&◌, append_assoc, append-nil, length-append, length-drop, lit<, eq-eqb, get_or-drop, take_all}
use Rattle.std.specs.Prelude.{◌==◌, IsSomeAnd, All}
use Rattle.std.specs.List.{slice_split, list_all}
use Rattle.std.specs.Str.Pattern.{FindsChar, RFindsChar, HasCharAt, SplitsAroundMatch}
use Rattle.std.specs.Path.{rsplit_once, rfind_below}
use Rattle.std.proofs.lemmas.Bool.{lt-leb, le-leb, ne_eqb}
use Rattle.std.proofs.lemmas.List.Splits.{slice_split_at, slice_split_none}
use Rattle.std.proofs.lemmas.Str.Pattern.{NoCharPasses-char, drop_at_char}
use Rattle.std.proofs.lemmas.List.{take-append-drop}
use Rattle.std.proofs.lemmas.List.Elements.{All-from_get_or}
use Rattle.std.specs.Str.{NoCharPasses}
use Rattle.std.proofs.Math.Nat.{eq-or-lt_of_le}
use Rattle.commands.specs.Command.{coordinate_of, location_of, located_of, Located, are_on_axes}
use Rattle.commands.specs.Words.{seen}
use Rattle.commands.specs.declared.located.Located as words
use Rattle.basics.specs.Optional.{◌>>=◌, each}

-- ---- what each item gives

-- what is left completes what was found
abbrev pub with_prefix : {A : Type 0} → List A → Option (List A) → Option (List A)
with_prefix prefix rest = rest >>= λ xs. Some (prefix ++ xs)

with_prefix-cons : {B : Type 0} (prefix : List B) (y : B) (rest : Option (List B)) → with_prefix prefix (rest >>= λ ys. Some (y ∷ ys)) ≡ with_prefix (prefix ++ (y ∷ [])) rest
with_prefix-cons prefix y None = refl
with_prefix-cons prefix y (Some ys) = ap Some (sym (append_assoc prefix (y ∷ []) ys))

-- one item more is found
pub each_of-step : {A B : Type 0} (f : A → Option B) (prefix : List B) (x : A) (y : B) (xs : List A) → f x ≡ Some y
    → with_prefix prefix (each f (x ∷ xs)) ≡ with_prefix (prefix ++ (y ∷ [])) (each f xs)
each_of-step f prefix x y xs is = rw is (with_prefix-cons prefix y (each f xs))

-- ---- a location

abbrev pub fits : List ℤ → Option (List ℤ)
fits at = if nat_le (length at) 8 then Some at else None

-- the parts between commas
abbrev pub parts : List ℕ → List (List ℕ)
parts text = slice_split (λ b. b == 44) text

-- what is left completes a location
abbrev pub IsLeft : List ℕ → List ℤ → List ℕ → Type 0
IsLeft text prefix rest = each coordinate_of (parts text) ≡ with_prefix prefix (each coordinate_of (parts rest))

too_long : (prefix : List ℤ) (y : ℤ) (rest : Option (List ℤ)) → length prefix ≡ 8 → (with_prefix prefix (rest >>= λ ys. Some (y ∷ ys)) >>= fits) ≡ None
too_long prefix y None is = refl
too_long prefix y (Some ys) is = rw (lt-leb (length (prefix ++ (y ∷ ys))) 8 (omega (arith, length-append prefix (y ∷ ys)))) refl

-- a location with a part that is no coordinate, or with a ninth one, is none
pub no_location : (text : List ℕ) (prefix : List ℤ) (x : List ℕ) (xs : List (List ℕ)) → each coordinate_of (parts text) ≡ with_prefix prefix (each coordinate_of (x ∷ xs))
    → (coordinate_of x ≡ None) ⊎ (length prefix ≡ 8) → location_of text ≡ None
unfolding location_of
no_location text prefix x xs left (inl none) = rw left (rw none refl)
no_location text prefix x xs left (inr full) = rw left (choose (coordinate_of x))
  where
    choose : (found : Option ℤ) → (with_prefix prefix (found >>= λ y. each coordinate_of xs >>= λ ys. Some (y ∷ ys)) >>= fits) ≡ None
    choose None = refl
    choose (Some y) = too_long prefix y (each coordinate_of xs) full

pub more_location : (text : List ℕ) (prefix new : List ℤ) (x : List ℕ) (xs : List (List ℕ)) → each coordinate_of (parts text) ≡ with_prefix prefix (each coordinate_of (x ∷ xs))
    → IsSomeAnd (coordinate_of x) (λ value. new ≡ prefix ++ (value ∷ [])) → each coordinate_of (parts text) ≡ with_prefix new (each coordinate_of xs)
more_location text prefix new x xs left found = left ∙ choose (coordinate_of x) refl found
  where
    choose : (y : Option ℤ) → coordinate_of x ≡ y → IsSomeAnd y (λ value. new ≡ prefix ++ (value ∷ [])) → with_prefix prefix (each coordinate_of (x ∷ xs)) ≡ with_prefix new (each coordinate_of xs)
    choose None is none = absurd none
    choose (Some y) is grown = each_of-step coordinate_of prefix x y xs is ∙ ap (λ prefix. with_prefix prefix (each coordinate_of xs)) (sym grown)

-- the last part ends a location
pub whole_location : (text : List ℕ) (at : List ℤ) → each coordinate_of (parts text) ≡ with_prefix at (Some []) → length at ≤ 8 → Some at ≡ location_of text
unfolding location_of
whole_location text at left few = sym (rw (left, append-nil at, le-leb (length at) 8 few) refl)

-- ---- cutting at a comma

no_comma : (text : List ℕ) → NoCharPasses (λ d. d == 44) text → All (λ b. (b == 44) ≡ false) text
no_comma text lacks = All-from_get_or (λ b. (b == 44) ≡ false) text 0 (λ i below. ne_eqb _ 44 (NoCharPasses-char 44 text i lacks (lit< tt) below))

-- `split_once` at a comma parts the rest in two
pub parts_of_comma : (rest first more : List ℕ) → SplitsAroundMatch (FindsChar 44) rest first more → parts rest ≡ first ∷ parts more
parts_of_comma rest first more cut =
    let i = cut.0 in
    let found = cut.2 in
    let start : first ≡ take i rest = cut.3 in
    let end : more ≡ drop cut.1 rest = cut.4 in
    let tail : drop i rest ≡ 44 ∷ drop cut.1 rest = drop_at_char 44 rest i cut.1 found.1 (lit< tt) in
    let whole : take i rest ++ drop i rest ≡ rest = take-append-drop i rest in
    let is : rest ≡ first ++ (44 ∷ more) = cc in
    ap parts is
    ∙ slice_split_at (λ b. b == 44) first 44 more (no_comma first (subst (NoCharPasses (λ d. d == 44)) (sym start) found.0)) refl

-- a rest without a comma is one part
pub parts_of_last : (rest : List ℕ) → FindsChar 44 rest None → parts rest ≡ rest ∷ []
parts_of_last rest lacks = slice_split_none (λ b. b == 44) rest (no_comma rest lacks)

-- ---- the steps of the loop over a location's parts

pub loop_more : (text rest first more : List ℕ) (at new : List ℤ) → IsLeft text at rest → SplitsAroundMatch (FindsChar 44) rest first more
    → IsSomeAnd (coordinate_of first) (λ value. new ≡ at ++ (value ∷ [])) → IsLeft text new more
loop_more text rest first more at new left cut found =
    more_location text at new first (parts more) (left ∙ ap (λ parts. with_prefix at (each coordinate_of parts)) (parts_of_comma rest first more cut)) found

pub loop_none : (text rest first more : List ℕ) (at : List ℤ) → IsLeft text at rest → SplitsAroundMatch (FindsChar 44) rest first more
    → (coordinate_of first ≡ None) ⊎ (length at ≡ 8) → location_of text ≡ None
loop_none text rest first more at left cut lacks =
    no_location text at first (parts more) (left ∙ ap (λ parts. with_prefix at (each coordinate_of parts)) (parts_of_comma rest first more cut)) lacks

pub end_some : (text rest : List ℕ) (at new : List ℤ) → IsLeft text at rest → FindsChar 44 rest None
    → IsSomeAnd (coordinate_of rest) (λ value. new ≡ at ++ (value ∷ [])) → length new ≤ 8 → Some new ≡ location_of text
end_some text rest at new left last found few =
    whole_location text new (more_location text at new rest [] (left ∙ ap (λ parts. with_prefix at (each coordinate_of parts)) (parts_of_last rest last)) found) few

pub end_none : (text rest : List ℕ) (at : List ℤ) → IsLeft text at rest → FindsChar 44 rest None → (coordinate_of rest ≡ None) ⊎ (length at ≡ 8) → location_of text ≡ None
end_none text rest at left last lacks = no_location text at rest [] (left ∙ ap (λ parts. with_prefix at (each coordinate_of parts)) (parts_of_last rest last)) lacks

-- ---- cutting at the last sign @

rfind_none : (text : List ℕ) (n : ℕ) → ((i : ℕ) → i < n → get_or text i 0 ≢ 64) → rfind_below 64 text n ≡ None
rfind_none text zero lacks = refl
rfind_none text (suc n) lacks = rw (ne_eqb (get_or text n 0) 64 (lacks n (omega arith))) (rfind_none text n (λ i below. lacks i (omega arith)))

rfind_some : (text : List ℕ) (at n : ℕ) → at < n → get_or text at 0 ≡ 64 → ((i : ℕ) → at < i → i < n → get_or text i 0 ≢ 64) → rfind_below 64 text n ≡ Some at
rfind_some text at zero below is lacks = absurd (omega arith)
rfind_some text at (suc n) below is lacks =
    elim (eq-or-lt_of_le {n = at} {m = n} (omega arith)) [
      | inl same ↦ rw (eq-eqb (get_or text n 0) 64 (ap (λ i. get_or text i 0) (sym same) ∙ is)) (ap Some (sym same))
      | inr lower ↦ rw (ne_eqb (get_or text n 0) 64 (lacks n lower (omega arith))) (rfind_some text at n lower is (λ i above under. lacks i above (omega arith)))
    ]

-- `rsplit_once` at that sign
pub splits_last : (word path location : List ℕ) → SplitsAroundMatch (RFindsChar 64) word path location → rsplit_once 64 word ≡ Some (path, location)
unfolding rsplit_once
splits_last word path location cut =
    let i = cut.0 in
    let j = cut.1 in
    let at : HasCharAt 64 word i j = cut.2.1 in
    let next : j ≡ i + 1 = at.ends in
    let size : length location + j ≡ length word = cut.7 in
    let lacks : (k : ℕ) → i < k → k < length word → get_or word k 0 ≢ 64 =
    λ k above below is. NoCharPasses-char 64 (drop j word) (k - j) cut.2.0 (lit< tt) (omega (arith, length-drop j word))
    (get_or-drop j word (k - j) 0 ∙ (ap (λ n. get_or word n 0) (omega arith) ∙ is)) in
    let prefix : take i word ≡ path = sym cut.3 in
    let end : drop (i + 1) word ≡ location = ap (λ n. drop n word) (sym next) ∙ sym cut.4 in
    rw (rfind_some word i (length word) (omega arith) (at.byte (lit< tt)) lacks) (cc)

pub splits_nowhere : (word : List ℕ) → RFindsChar 64 word None → rsplit_once 64 word ≡ None
unfolding rsplit_once
splits_nowhere word lacks = rw (rfind_none word (length word) (λ i below. NoCharPasses-char 64 word i lacks (lit< tt) below)) refl

-- ---- a drawing

pub drawing_nowhere : (word : List ℕ) → RFindsChar 64 word None → located_of word ≡ None
unfolding located_of
drawing_nowhere word lacks = rw (splits_nowhere word lacks) refl

pub drawing_no_location : (word path location : List ℕ) → SplitsAroundMatch (RFindsChar 64) word path location → location_of location ≡ None → located_of word ≡ None
unfolding located_of
drawing_no_location word path location cut none = rw (splits_last word path location cut, none) refl

pub drawing_located : (word path location : List ℕ) (at : List ℤ) → SplitsAroundMatch (RFindsChar 64) word path location → location_of location ≡ Some at → located_of word ≡ Some (record { path = path; at = at })
unfolding located_of
drawing_located word path location at cut is = rw (splits_last word path location cut, is) refl

-- ---- the drawings of the words

abbrev pub AreLeft : List (List ℕ) → List Located → List (List ℕ) → Type 0
AreLeft words prefix rest = each located_of words ≡ with_prefix prefix (each located_of rest)

too_many : (prefix : List Located) (y : Located) (rest : Option (List Located)) → length prefix ≡ 128
    → (with_prefix prefix (rest >>= λ ys. Some (y ∷ ys)) >>= λ drawings. if nat_le (length drawings) 128 && are_on_axes drawings then Some drawings else None) ≡ None
too_many prefix y None is = refl
too_many prefix y (Some ys) is = rw (lt-leb (length (prefix ++ (y ∷ ys))) 128 (omega (arith, length-append prefix (y ∷ ys)))) refl

-- the tests of the drawings after the first are those of the words' drawings
on_same_axes : (axes : ℕ) (drawings : List words.Located) → list_all (λ (located : words.Located). nat_eq (length located.at.items) axes) drawings ≡ list_all (λ (located : Located). nat_eq (length located.at) axes) (map seen drawings)
on_same_axes axes [] = refl
on_same_axes axes (located ∷ more) = ap (λ rest. nat_eq (length located.at.items) axes && rest) (on_same_axes axes more)

pub are_on_axes_by_first : (drawings : List words.Located) (first : words.Located) (axes : ℕ) → 1 ≤ length drawings → first ≡ get_or drawings 0 first → axes ≡ length first.at.items
    → list_all (λ (located : words.Located). nat_eq (length located.at.items) axes) (take (length drawings - 1) (drop 1 drawings)) ≡ are_on_axes (map seen drawings)
are_on_axes_by_first [] first axes some is named = absurd (omega arith)
are_on_axes_by_first (x ∷ more) first axes some is named =
    ap (λ rest. list_all (λ (located : words.Located). nat_eq (length located.at.items) axes) rest) (take_all (length (x ∷ more) - 1) more (omega arith))
    ∙ (on_same_axes axes more ∙ ap (λ n. list_all (λ (located : Located). nat_eq (length located.at) n) (map seen more)) (named ∙ ap (λ (p : words.Located). length p.at.items) is))
