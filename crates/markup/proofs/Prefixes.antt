-- What the item at the start is, where it starts an element and where it doesn't.
use Rattle.std.proofs.Common.{◌≡◌, ℕ, zero, suc, Bool, true, false, cond, List, [], ◌∷◌, take, drop, Option, Some, None, refl}
use Rattle.std.specs.Prelude.{codes, ◌==◌, ◌&&◌, unwrap_or}
use Rattle.markup_rules.specs.Bytes.{starts_name}
use Rattle.markup_rules.specs.Reading.{Item, comment, instruction, declaration, tag, broken, bad, body_by, data_by, tag_before, tag_by, tag_end, name_at, tag_markup, start_tag, markup_at, item_at, opens}
use Rattle.markup.specs.Openings.{IsNoOpening}
use Rattle.basics.specs.Bytes.{begins, first_index, index_of}

pub no_opening : (b : ℕ) (body : List ℕ) → (b == 47) ≡ false → starts_name (b ∷ body) ≡ false → unwrap_or (tag_markup (b ∷ body)) bad ≡ bad
unfolding tag_markup start_tag name_at
no_opening b body apart none = rw (apart, none) refl

starts_take : (n : ℕ) (bytes : List ℕ) → starts_name bytes ≡ false → starts_name (take n bytes) ≡ false
starts_take zero [] e = refl
starts_take zero (b ∷ bytes) e = refl
starts_take (suc n) [] e = refl
starts_take (suc n) (b ∷ bytes) e = e

abbrev Cut : Type 0
Cut = Item × List ℕ

before_cases : (body : List ℕ) (b : ℕ) (bytes : List ℕ) (is : Bool) → starts_name body ≡ false → IsNoOpening (let r : Cut = cond is (broken, b ∷ bytes) (tag body, bytes) in r.0)
before_cases body b bytes true e = tt
before_cases body b bytes false e = e

before_is : (body bytes : List ℕ) → starts_name body ≡ false → IsNoOpening (tag_before body bytes).0
before_is body [] e = tt
before_is body (b ∷ bytes) e = before_cases body b bytes (b == 60) e

tag_is : (bytes : List ℕ) (end : Option ℕ) → starts_name bytes ≡ false → IsNoOpening (tag_by bytes end).0
tag_is bytes None e = tt
tag_is bytes (Some n) e = before_is (take n bytes) (drop n bytes) (starts_take n bytes e)

body_is : (item : List ℕ → Item) (size : ℕ) (bytes : List ℕ) (end : Option ℕ) → ((body : List ℕ) → IsNoOpening (item body)) → IsNoOpening (body_by item size bytes end).0
body_is item size bytes None is = tt
body_is item size bytes (Some n) is = is (take n bytes)

markup_cases : (bytes : List ℕ) (c i d : Bool) → starts_name bytes ≡ false → IsNoOpening (let r : Cut =
    cond c (body_by comment 3 (drop 3 bytes) (first_index (begins (codes "-->")) (drop 3 bytes)))
    (cond i (body_by instruction 2 (drop 1 bytes) (first_index (begins (codes "?>")) (drop 1 bytes)))
    (cond d (body_by declaration 1 (drop 1 bytes) (index_of 62 (drop 1 bytes))) (tag_by bytes (tag_end None bytes)))) in r.0)
markup_cases bytes true i d e = body_is comment 3 (drop 3 bytes) (first_index (begins (codes "-->")) (drop 3 bytes)) (λ body. tt)
markup_cases bytes false true d e = body_is instruction 2 (drop 1 bytes) (first_index (begins (codes "?>")) (drop 1 bytes)) (λ body. tt)
markup_cases bytes false false true e = body_is declaration 1 (drop 1 bytes) (index_of 62 (drop 1 bytes)) (λ body. tt)
markup_cases bytes false false false e = tag_is bytes (tag_end None bytes) e

markup_is : (bytes : List ℕ) → starts_name bytes ≡ false → IsNoOpening (markup_at bytes).0
unfolding markup_at
markup_is bytes e = markup_cases bytes (begins (codes "!--") bytes) (begins (codes "?") bytes) (begins (codes "!") bytes) e

data_is : (bytes : List ℕ) (end : Option ℕ) → IsNoOpening (data_by bytes end).0
data_is bytes None = tt
data_is bytes (Some n) = tt

item_cases : (b : ℕ) (bytes : List ℕ) (is : Bool) → (is && starts_name bytes) ≡ false → IsNoOpening (let r : Cut = cond is (markup_at bytes) (data_by (b ∷ bytes) (index_of 60 (b ∷ bytes))) in r.0)
item_cases b bytes true e = markup_is bytes e
item_cases b bytes false e = data_is (b ∷ bytes) (index_of 60 (b ∷ bytes))

pub unopened : (bytes : List ℕ) → opens bytes ≡ false → IsNoOpening (item_at bytes).0
unfolding item_at
unopened [] none = tt
unopened (b ∷ bytes) none = item_cases b bytes (b == 60) none
