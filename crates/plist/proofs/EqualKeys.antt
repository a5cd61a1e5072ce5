-- Entries with equal keys, and a set of the keys that were met.
use Rattle.std.proofs.Common.{◌≡◌, ℕ, Bool, true, false, not, cond, ◌&&◌, List, [], ◌∷◌, ◌++◌, map, refl, sym, ap, subst, ◌∙◌, append_assoc}
use Rattle.std.specs.Prelude.{filter}
use Rattle.std.specs.Str.{bytes_eq}
use Rattle.std.specs.Cmp.Lexicographic.{slice_cmp}
use Rattle.std.specs.Ordering.{nat_cmp}
use Rattle.std.specs.BTreeSet as sorted
use Rattle.std.specs.BTreeSet.{BTreeSet}
use Rattle.std.proofs.lemmas.Map.Text.{is_eq-slice_cmp}
use Rattle.plist.specs.declared.value.Value.{Value}
use Rattle.plist.specs.Values.{plain_entry, plain_value}
use Rattle.plist.specs.Entries.{without, firsts}

abbrev pub Keys : Type 0
Keys = BTreeSet (List ℕ)

-- whether a set has a key
abbrev pub has : Keys → List ℕ → Bool
has keys key = sorted.contains (slice_cmp nat_cmp) keys key

-- of entries with equal keys the first alone, and none whose key was met
abbrev pub unseen : {V : Type 0} → (List ℕ → Bool) → List (List ℕ × V) → List (List ℕ × V)
unseen seen entries = filter (λ entry. not (seen entry.0)) (firsts entries)

filter_none : {A : Type 0} (p : A → Bool) → ((a : A) → p a ≡ true) → (all : List A) → filter p all ≡ all
filter_none p each [] = refl
filter_none p each (a ∷ all) = ap (λ b. cond b (a ∷ filter p all) (filter p all)) (each a) ∙ ap (λ later. a ∷ later) (filter_none p each all)

joined : {A : Type 0} (p : A → Bool) (a : A) (prefix back : List A) (passes : Bool) → filter p prefix ≡ back
    → filter p (cond passes (a ∷ prefix) prefix) ≡ cond (passes && p a) (a ∷ back) back
joined p a prefix back false e = e
joined p a prefix back true e = ap (λ later. cond (p a) (a ∷ later) later) e

filter_both : {A : Type 0} (p q r : A → Bool) → ((a : A) → (q a && p a) ≡ r a) → (all : List A) → filter p (filter q all) ≡ filter r all
filter_both p q r each [] = refl
filter_both p q r each (a ∷ all) =
    joined p a (filter q all) (filter r all) (q a) (filter_both p q r each all) ∙ ap (λ b. cond b (a ∷ filter r all) (filter r all)) (each a)

pub unseen_first : {V : Type 0} (keys : Keys) (entries : List (List ℕ × V)) → keys.keys ≡ [] → unseen (has keys) entries ≡ firsts entries
unseen_first keys entries empty = filter_none (λ entry. not (has keys entry.0)) (λ entry. ap (λ ks. not (has (record keys { keys = ks }) entry.0)) empty) (firsts entries)

abbrev After : Keys → Keys → List ℕ → Type 0
After old new key = sorted.Updates (slice_cmp nat_cmp) old new key true

now_seen : (equal seen : Bool) → (not equal && not seen) ≡ not (cond equal true seen)
now_seen true seen = refl
now_seen false seen = refl

unseen_later : {V : Type 0} (old new : Keys) (key : List ℕ) (entries : List (List ℕ × V)) → After old new key
    → filter (λ entry. not (has old entry.0)) (without key (firsts entries)) ≡ unseen (has new) entries
unseen_later {V} old new key entries after =
    filter_both (λ (entry : List ℕ × V). not (has old entry.0)) (λ entry. not (bytes_eq key entry.0)) (λ entry. not (has new entry.0))
    (λ entry. now_seen (bytes_eq key entry.0) (has old entry.0)
    ∙ (ap (λ b. not (cond b true (has old entry.0))) (sym (is_eq-slice_cmp key entry.0)) ∙ ap not (sym (after.0 entry.0))))
    (firsts entries)

-- one turn: the key went into the set as a copy, and the answer tells whether it is new
pub record Turn (old new : Keys) (key copy : List ℕ) (is_new : Bool) : Type 0 where
  pub copied : copy ≡ key
  pub updated : After old new copy
  pub told : is_new ≡ not (has old copy)

turned : {V : Type 0} (old new : Keys) (entry : List ℕ × V) (copy : List ℕ) (is_new : Bool) (entries : List (List ℕ × V)) → Turn old new entry.0 copy is_new
    → unseen (has old) (entry ∷ entries) ≡ cond is_new (entry ∷ unseen (has new) entries) (unseen (has new) entries)
turned {V} old new entry copy is_new entries turn =
    let Told : List ℕ → Type 0 = λ key. is_new ≡ not (has old key) in
    let later = unseen_later old new entry.0 entries (subst (λ key. After old new key) turn.copied turn.updated) in
    ap (λ rest. cond {A = List (List ℕ × V)} (not (has old entry.0)) (entry ∷ rest) rest) later
    ∙ ap (λ b. cond {A = List (List ℕ × V)} b (entry ∷ unseen (has new) entries) (unseen (has new) entries)) (sym (subst Told turn.copied turn.told))

-- an entry whose key was met is passed over
pub passed : {V : Type 0} (kept : List (List ℕ × V)) (old new : Keys) (entry : List ℕ × V) (copy : List ℕ) (is_new : Bool) (entries all : List (List ℕ × V))
    → Turn old new entry.0 copy is_new → is_new ≡ false → all ≡ entry ∷ entries → kept ++ unseen (has new) entries ≡ kept ++ unseen (has old) all
passed {V} kept old new entry copy is_new entries all turn met e =
    ap (λ later. kept ++ later) (sym (ap (unseen (has old)) e ∙ (turned old new entry copy is_new entries turn ∙ ap (λ b. cond {A = List (List ℕ × V)} b (entry ∷ unseen (has new) entries) (unseen (has new) entries)) met)))

-- and one with a new key is kept
pub added : {V : Type 0} (kept more : List (List ℕ × V)) (old new : Keys) (entry : List ℕ × V) (copy : List ℕ) (is_new : Bool) (entries all : List (List ℕ × V))
    → Turn old new entry.0 copy is_new → is_new ≡ true → all ≡ entry ∷ entries → more ≡ kept ++ entry ∷ [] → more ++ unseen (has new) entries ≡ kept ++ unseen (has old) all
added {V} kept more old new entry copy is_new entries all turn unmet e pushed =
    ap (λ prefix. prefix ++ unseen (has new) entries) pushed ∙ (append_assoc kept (entry ∷ []) (unseen (has new) entries)
    ∙ ap (λ later. kept ++ later) (sym (ap (unseen (has old)) e ∙ (turned old new entry copy is_new entries turn ∙ ap (λ b. cond {A = List (List ℕ × V)} b (entry ∷ unseen (has new) entries) (unseen (has new) entries)) unmet))))

-- ---- the entries as plain ones

map_without : {V W : Type 0} (f : V → W) (key : List ℕ) (entries : List (List ℕ × V))
    → map (λ entry. (entry.0, f entry.1)) (without key entries) ≡ without key (map (λ entry. (entry.0, f entry.1)) entries)
map_without f key [] = refl
map_without {V} {W} f key (entry ∷ entries) =
    let both : (kept : Bool) → map {B = List ℕ × W} (λ entry. (entry.0, f entry.1)) (cond kept (entry ∷ without key entries) (without key entries)) ≡ cond kept ((entry.0, f entry.1) ∷ without key (map (λ entry. (entry.0, f entry.1)) entries)) (without key (map (λ entry. (entry.0, f entry.1)) entries)) =
    elim [ true ↦ ap (λ later. (entry.0, f entry.1) ∷ later) (map_without f key entries) | false ↦ map_without f key entries ] in
    both (not (bytes_eq key entry.0))

pub map_firsts : {V W : Type 0} (f : V → W) (entries : List (List ℕ × V))
    → map (λ entry. (entry.0, f entry.1)) (firsts entries) ≡ firsts (map (λ entry. (entry.0, f entry.1)) entries)
map_firsts f [] = refl
map_firsts f (entry ∷ entries) = ap (λ later. (entry.0, f entry.1) ∷ later) (map_without f entry.0 (firsts entries) ∙ ap (without entry.0) (map_firsts f entries))

pub plain_firsts : (entries : List (List ℕ × Value)) → map plain_entry (firsts entries) ≡ firsts (map plain_entry entries)
plain_firsts entries = map_firsts plain_value entries
