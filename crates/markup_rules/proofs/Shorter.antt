-- Each reader leaves fewer bytes than it was given.
use Rattle.std.proofs.Common.{ℕ, suc, ◌+◌, ◌<◌, ◌≤◌, Bool, true, false, cond, ◌&&◌, List, [], ◌∷◌, length, take, drop, Option, Some, None, arith}
use Rattle.std.specs.Prelude.{◌==◌, ◌||◌, nat_lt, IfSome, encode_utf8}
use Rattle.std.specs.Str.{is_utf8}
use Rattle.std.proofs.lemmas.List.{length-drop}
use Rattle.markup_rules.specs.Bytes.{is_name_byte, is_literal, starts_name}
use Rattle.markup_rules.specs.Reading.{name_at, reference_at, character_of, run_of, piece_at, content_of, blank_at, equals_at, quoted_at, value_at, label_at, attribute_at}
use Rattle.markup_rules.proofs.Fuel.{Shortens, after_run_length}
use Rattle.basics.specs.Bytes.{is_blank, run_at, after_run, index_of}
use Rattle.basics.specs.Optional.{◌>>=◌}

abbrev Below : {A : Type 0} → ℕ → Option (A × List ℕ) → Type 0
Below n o = IfSome o (λ r. length r.1 < n)

-- two steps one after another
shorter_bind : {A B : Type 0} (n : ℕ) (o : Option A) (f : A → Option (B × List ℕ)) (P : A → Type 0) → IfSome o P → ((x : A) → P x → IfSome (f x) (λ y. length y.1 < n)) → IfSome (o >>= f) (λ y. length y.1 < n)
shorter_bind n (Some x) f P holds next = next x holds
shorter_bind n None f P holds next = tt

within_bind : {A B : Type 0} (n : ℕ) (o : Option A) (f : A → Option (B × List ℕ)) (P : A → Type 0) → IfSome o P → ((x : A) → P x → IfSome (f x) (λ y. length y.1 ≤ n)) → IfSome (o >>= f) (λ y. length y.1 ≤ n)
within_bind n (Some x) f P holds next = next x holds
within_bind n None f P holds next = tt

some_if : {A : Type 0} (P : A → Type 0) (b : Bool) (x : A) → P x → IfSome (cond b (Some x) None) P
some_if P true x holds = holds
some_if P false x holds = tt

pub name_within : (bytes : List ℕ) → IfSome (name_at bytes) (λ r. length r.1 ≤ length bytes)
unfolding name_at
name_within bytes =
    some_if (λ (r : List ℕ × List ℕ). length r.1 ≤ length bytes) (starts_name bytes && is_utf8 (run_at is_name_byte bytes)) (run_at is_name_byte bytes, after_run is_name_byte bytes) (after_run_length is_name_byte bytes)

-- whatever holds of each value
any : {A : Type 0} (o : Option A) → IfSome o (λ x. Unit {0})
any (Some x) = tt
any None = tt

reference_within : (bytes : List ℕ) → IfSome (reference_at bytes) (λ r. length r.1 ≤ length bytes)
unfolding reference_at
reference_within bytes =
    within_bind (length bytes) (index_of 59 bytes) (λ end. character_of (take end bytes) >>= λ c. Some (encode_utf8 c, drop (end + 1) bytes)) (λ x. Unit {0}) (any (index_of 59 bytes))
    (λ end _. within_bind (length bytes) (character_of (take end bytes)) (λ c. Some (encode_utf8 c, drop (end + 1) bytes)) (λ x. Unit {0}) (any (character_of (take end bytes)))
    (λ c _. omega (arith, length-drop (end + 1) bytes)))

run_cases : (b : ℕ) (bytes : List ℕ) (is valid : Bool) → Below {A = List ℕ} (suc (length bytes)) (cond (nat_lt 0 (length (cond is (b ∷ run_at is_literal bytes) [])) && valid) (Some (cond is (b ∷ run_at is_literal bytes) [], cond is (after_run is_literal bytes) (b ∷ bytes))) None)
run_cases b bytes true valid =
    some_if (λ (r : List ℕ × List ℕ). length r.1 < suc (length bytes)) (nat_lt 0 (length (b ∷ run_at is_literal bytes)) && valid) (b ∷ run_at is_literal bytes, after_run is_literal bytes) (omega (arith, after_run_length is_literal bytes))
run_cases b bytes false valid = tt

run_shorter : (b : ℕ) (bytes : List ℕ) → IfSome (run_of (b ∷ bytes)) (λ r. length r.1 < suc (length bytes))
unfolding run_of
run_shorter b bytes = run_cases b bytes (is_literal b) (is_utf8 (run_at is_literal (b ∷ bytes)))

weaker : {A : Type 0} (n : ℕ) (o : Option (A × List ℕ)) → IfSome o (λ r. length r.1 ≤ n) → IfSome o (λ r. length r.1 < suc n)
weaker n (Some x) within = let low : length x.1 ≤ n = within in omega arith
weaker n None within = tt

piece_cases : (b : ℕ) (bytes : List ℕ) (is : Bool) → IfSome (cond is (reference_at bytes) (run_of (b ∷ bytes))) (λ r. length r.1 < suc (length bytes))
piece_cases b bytes true = weaker (length bytes) (reference_at bytes) (reference_within bytes)
piece_cases b bytes false = run_shorter b bytes

pub piece_shortens : Shortens piece_at
unfolding piece_at
piece_shortens [] = tt
piece_shortens (b ∷ bytes) = piece_cases b bytes (b == 38)

-- ---- attributes

blank_cases : (b : ℕ) (bytes : List ℕ) (is : Bool) → IfSome (cond is (Some (cond is (after_run is_blank bytes) (b ∷ bytes))) None) (λ r. length r < suc (length bytes))
blank_cases b bytes true = omega (arith, after_run_length is_blank bytes)
blank_cases b bytes false = tt

blank_shorter : (bytes : List ℕ) → IfSome (blank_at bytes) (λ r. length r < length bytes)
unfolding blank_at
blank_shorter [] = tt
blank_shorter (b ∷ bytes) = blank_cases b bytes (is_blank b)

equals_within : (bytes : List ℕ) → IfSome (equals_at bytes) (λ r. length r ≤ length bytes)
unfolding equals_at
equals_within [] = tt
equals_within (b ∷ bytes) = some_if (λ (r : List ℕ). length r ≤ suc (length bytes)) (b == 61) bytes (omega arith)

quoted_cases : (b : ℕ) (bytes : List ℕ) (is : Bool) (end : Option ℕ) → Below {A = List ℕ} (suc (suc (length bytes))) (cond is (end >>= λ end. Some (take end bytes, drop (end + 1) bytes)) None)
quoted_cases b bytes true (Some end) = omega (arith, length-drop (end + 1) bytes)
quoted_cases b bytes true None = tt
quoted_cases b bytes false end = tt

not_more : {A : Type 0} (n : ℕ) (o : Option (A × List ℕ)) → Below (suc n) o → IfSome o (λ r. length r.1 ≤ n)
not_more n (Some x) below = let low : length x.1 < suc n = below in omega arith
not_more n None below = tt

quoted_within : (bytes : List ℕ) → IfSome (quoted_at bytes) (λ r. length r.1 ≤ length bytes)
unfolding quoted_at
quoted_within [] = tt
quoted_within (b ∷ bytes) = not_more (suc (length bytes)) (quoted_at (b ∷ bytes)) (quoted_cases b bytes ((b == 34) || (b == 39)) (index_of b bytes))

value_within : (bytes : List ℕ) → IfSome (value_at bytes) (λ r. length r.1 ≤ length bytes)
unfolding value_at
value_within bytes =
    within_bind (length bytes) (quoted_at bytes) (λ value. content_of value.0 >>= λ text. Some (text, value.1)) (λ r. length r.1 ≤ length bytes) (quoted_within bytes)
    (λ value within. within_bind (length bytes) (content_of value.0) (λ text. Some (text, value.1)) (λ x. Unit {0}) (any (content_of value.0)) (λ text _. within))

label_named : (n : ℕ) (name : List ℕ × List ℕ) → length name.1 < n → Below {A = List ℕ} n (equals_at (after_run is_blank name.1) >>= λ rest. Some (name.0, after_run is_blank rest))
label_named n name less =
    shorter_bind n (equals_at (after_run is_blank name.1)) (λ rest. Some (name.0, after_run is_blank rest)) (λ r. length r ≤ length (after_run is_blank name.1)) (equals_within (after_run is_blank name.1))
    (λ rest within. let low : length rest ≤ length (after_run is_blank name.1) = within in
    omega (arith, after_run_length is_blank name.1, after_run_length is_blank rest))

label_shortens : Shortens label_at
unfolding label_at
label_shortens bytes =
    shorter_bind (length bytes) (blank_at bytes) (λ rest. name_at rest >>= λ name. equals_at (after_run is_blank name.1) >>= λ rest. Some (name.0, after_run is_blank rest)) (λ r. length r < length bytes) (blank_shorter bytes)
    (λ rest less. shorter_bind (length bytes) (name_at rest) (λ name. equals_at (after_run is_blank name.1) >>= λ rest. Some (name.0, after_run is_blank rest)) (λ r. length r.1 ≤ length rest) (name_within rest)
    (λ name within. let low : length rest < length bytes = less in
    let next : length name.1 ≤ length rest = within in
    label_named (length bytes) name (omega arith)))

pub attribute_shortens : Shortens attribute_at
unfolding attribute_at
attribute_shortens bytes =
    shorter_bind (length bytes) (label_at bytes) (λ label. value_at label.1 >>= λ value. Some ((label.0, value.0), value.1)) (λ r. length r.1 < length bytes) (label_shortens bytes)
    (λ label less. shorter_bind (length bytes) (value_at label.1) (λ value. Some ((label.0, value.0), value.1)) (λ r. length r.1 ≤ length label.1) (value_within label.1)
    (λ value within. let low : length label.1 < length bytes = less in
    let next : length value.1 ≤ length label.1 = within in
    omega arith))
