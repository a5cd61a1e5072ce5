-- Items one after another: how many may come is no matter where each takes a byte at least.
use Rattle.std.proofs.Common.{◌≡◌, ℕ, zero, suc, ◌+◌, ◌<◌, ◌≤◌, Bool, true, false, cond, List, [], ◌∷◌, length, take, drop, Option, Some, None, refl, ap, arith}
use Rattle.std.specs.Prelude.{◌==◌, option_map, codes, IfSome}
use Rattle.std.proofs.lemmas.List.{length-drop}
use Rattle.markup_rules.specs.Reading.{with_first, no_more, many_to, many, Item, comment, instruction, declaration, broken, tag, item_at, markup_at, data_by, body_by, tag_by, tag_before, tag_end, items_to, items_of, opens, Entry}
use Rattle.basics.specs.Bytes.{after_run, begins, first_index, index_of}
use Rattle.basics.specs.Optional.{◌>>=◌}

-- the reader leaves fewer bytes than it was given
abbrev pub Shortens : {A : Type 0} → (List ℕ → Option (A × List ℕ)) → Type 0
Shortens item = (bytes : List ℕ) → IfSome (item bytes) (λ x. length x.1 < length bytes)

abbrev Same : {A : Type 0} → (List ℕ → Bool) → (List ℕ → Option (A × List ℕ)) → ℕ → ℕ → Type 0
Same ends item n m = (bytes : List ℕ) → length bytes < n → length bytes < m → many_to ends item n bytes ≡ many_to ends item m bytes

many_after : {A : Type 0} (ends : List ℕ → Bool) (item : List ℕ → Option (A × List ℕ)) (n m count : ℕ) → Same ends item n m → count ≤ n → count ≤ m → (found : Option (A × List ℕ)) → IfSome found (λ x. length x.1 < count)
    → (found >>= λ x. with_first x.0 (many_to ends item n x.1)) ≡ (found >>= λ x. with_first x.0 (many_to ends item m x.1))
many_after {A} ends item n m count same low high (Some x) shorter =
    let rest : length x.1 < count = shorter in
    ap (with_first x.0) (same x.1 (omega arith) (omega arith))
many_after ends item n m count same low high None shorter = refl

many_step : {A : Type 0} (ends : List ℕ → Bool) (item : List ℕ → Option (A × List ℕ)) (n m : ℕ) (bytes : List ℕ) → Same ends item n m → length bytes ≤ n → length bytes ≤ m → IfSome (item bytes) (λ x. length x.1 < length bytes) → (end : Bool)
    → cond end (no_more bytes) (item bytes >>= λ x. with_first x.0 (many_to ends item n x.1)) ≡ cond end (no_more bytes) (item bytes >>= λ x. with_first x.0 (many_to ends item m x.1))
many_step ends item n m bytes same low high shorter true = refl
many_step ends item n m bytes same low high shorter false = many_after ends item n m (length bytes) same low high (item bytes) shorter

many_same : {A : Type 0} (ends : List ℕ → Bool) (item : List ℕ → Option (A × List ℕ)) → Shortens item → (n m : ℕ) → Same ends item n m
many_same ends item shortens zero m bytes low high = absurd (omega arith)
many_same ends item shortens (suc n) zero bytes low high = absurd (omega arith)
many_same ends item shortens (suc n) (suc m) bytes low high =
    many_step ends item n m bytes (many_same ends item shortens n m) (omega arith) (omega arith) (shortens bytes) (ends bytes)

-- one item at the start, and the others
abbrev pub many_by : {A : Type 0} → (List ℕ → Bool) → (List ℕ → Option (A × List ℕ)) → List ℕ → Bool → Option (List A × List ℕ)
many_by ends item bytes true = no_more bytes
many_by ends item bytes false = item bytes >>= λ x. with_first x.0 (many ends item x.1)

many_open : {A : Type 0} (ends : List ℕ → Bool) (item : List ℕ → Option (A × List ℕ)) (bytes : List ℕ) → Shortens item → (found : Option (A × List ℕ)) → IfSome found (λ x. length x.1 < length bytes)
    → (found >>= λ x. with_first x.0 (many_to ends item (length bytes) x.1)) ≡ (found >>= λ x. with_first x.0 (many ends item x.1))
unfolding many
many_open {A} ends item bytes shortens (Some x) shorter =
    let rest : length x.1 < length bytes = shorter in
    ap (with_first x.0) (many_same ends item shortens (length bytes) (suc (length x.1)) x.1 rest (omega arith))
many_open ends item bytes shortens None shorter = refl

many_cases : {A : Type 0} (ends : List ℕ → Bool) (item : List ℕ → Option (A × List ℕ)) (bytes : List ℕ) → Shortens item → (end : Bool)
    → cond end (no_more bytes) (item bytes >>= λ x. with_first x.0 (many_to ends item (length bytes) x.1)) ≡ many_by ends item bytes end
many_cases ends item bytes shortens true = refl
many_cases ends item bytes shortens false = many_open ends item bytes shortens (item bytes) (shortens bytes)

pub many_next : {A : Type 0} (ends : List ℕ → Bool) (item : List ℕ → Option (A × List ℕ)) → Shortens item → (bytes : List ℕ) → many ends item bytes ≡ many_by ends item bytes (ends bytes)
unfolding many
many_next ends item shortens bytes = many_cases ends item bytes shortens (ends bytes)

-- ---- items of a text

run_cases : (class : ℕ → Bool) (b : ℕ) (bytes : List ℕ) (is : Bool) → length (after_run class bytes) ≤ length bytes → length (cond is (after_run class bytes) (b ∷ bytes)) ≤ suc (length bytes)
run_cases class b bytes true later = omega arith
run_cases class b bytes false later = omega arith

pub after_run_length : (class : ℕ → Bool) (bytes : List ℕ) → length (after_run class bytes) ≤ length bytes
after_run_length class [] = omega arith
after_run_length class (b ∷ bytes) = run_cases class b bytes (class b) (after_run_length class bytes)

body_length : (item : List ℕ → Item) (size : ℕ) (bytes : List ℕ) (end : Option ℕ) → length (body_by item size bytes end).1 ≤ length bytes
body_length item size bytes None = omega arith
body_length item size bytes (Some n) = omega (arith, length-drop (n + size) bytes)

before_cases : (body : List ℕ) (b : ℕ) (bytes : List ℕ) (is : Bool) → length (let r : Item × List ℕ = cond is (broken, b ∷ bytes) (tag body, bytes) in r.1) ≤ suc (length bytes)
before_cases body b bytes true = omega arith
before_cases body b bytes false = omega arith

tag_before_length : (body bytes : List ℕ) → length (tag_before body bytes).1 ≤ length bytes
tag_before_length body [] = omega arith
tag_before_length body (b ∷ bytes) = before_cases body b bytes (b == 60)

tag_length : (bytes : List ℕ) (end : Option ℕ) → length (tag_by bytes end).1 ≤ length bytes
tag_length bytes None = omega arith
tag_length bytes (Some n) = omega (arith, tag_before_length (take n bytes) (drop n bytes), length-drop n bytes)

markup_cases : (bytes : List ℕ) (c i d : Bool) → length (let r : Item × List ℕ =
    cond c (body_by comment 3 (drop 3 bytes) (first_index (begins (codes "-->")) (drop 3 bytes)))
    (cond i (body_by instruction 2 (drop 1 bytes) (first_index (begins (codes "?>")) (drop 1 bytes)))
    (cond d (body_by declaration 1 (drop 1 bytes) (index_of 62 (drop 1 bytes))) (tag_by bytes (tag_end None bytes)))) in r.1) ≤ length bytes
markup_cases bytes true i d = omega (arith, body_length comment 3 (drop 3 bytes) (first_index (begins (codes "-->")) (drop 3 bytes)), length-drop 3 bytes)
markup_cases bytes false true d = omega (arith, body_length instruction 2 (drop 1 bytes) (first_index (begins (codes "?>")) (drop 1 bytes)), length-drop 1 bytes)
markup_cases bytes false false true = omega (arith, body_length declaration 1 (drop 1 bytes) (index_of 62 (drop 1 bytes)), length-drop 1 bytes)
markup_cases bytes false false false = tag_length bytes (tag_end None bytes)

markup_length : (bytes : List ℕ) → length (markup_at bytes).1 ≤ length bytes
unfolding markup_at
markup_length bytes = markup_cases bytes (begins (codes "!--") bytes) (begins (codes "?") bytes) (begins (codes "!") bytes)

-- data begin with another byte than <
data_length : (b : ℕ) (bytes : List ℕ) (later : Option ℕ) → length (data_by (b ∷ bytes) (option_map (λ n. n + 1) later)).1 ≤ length bytes
data_length b bytes None = omega arith
data_length b bytes (Some n) = omega (arith, length-drop (n + 1) (b ∷ bytes))

item_cases : (b : ℕ) (bytes : List ℕ) (is : Bool) → length (let r : Item × List ℕ = cond is (markup_at bytes) (data_by (b ∷ bytes) (cond is (Some 0) (option_map (λ n. n + 1) (index_of 60 bytes)))) in r.1) ≤ length bytes
item_cases b bytes true = markup_length bytes
item_cases b bytes false = data_length b bytes (index_of 60 bytes)

pub item_length : (b : ℕ) (bytes : List ℕ) → length (item_at (b ∷ bytes)).1 ≤ length bytes
unfolding item_at
item_length b bytes = item_cases b bytes (b == 60)

items_same : (n m : ℕ) (bytes : List ℕ) → length bytes ≤ n → length bytes ≤ m → items_to n bytes ≡ items_to m bytes
items_same n m [] low high = refl
items_same zero m (b ∷ bytes) low high = absurd (omega arith)
items_same (suc n) zero (b ∷ bytes) low high = absurd (omega arith)
items_same (suc n) (suc m) (b ∷ bytes) low high =
    ap (λ es. record { left = length (b ∷ bytes); opening = opens (b ∷ bytes); item = (item_at (b ∷ bytes)).0 } ∷ es)
    (items_same n m (item_at (b ∷ bytes)).1 (omega (arith, item_length b bytes)) (omega (arith, item_length b bytes)))

-- the entry of the item at the start
abbrev pub entry_at : List ℕ → Entry
entry_at bytes = record { left = length bytes; opening = opens bytes; item = (item_at bytes).0 }

-- and the items after it
pub items_next : (b : ℕ) (bytes : List ℕ) → items_of (b ∷ bytes) ≡ entry_at (b ∷ bytes) ∷ items_of (item_at (b ∷ bytes)).1
unfolding items_of
items_next b bytes =
    ap (λ es. entry_at (b ∷ bytes) ∷ es) (items_same (length bytes) (length (item_at (b ∷ bytes)).1) (item_at (b ∷ bytes)).1 (item_length b bytes) (omega arith))
