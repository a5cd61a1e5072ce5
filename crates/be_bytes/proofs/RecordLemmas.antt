-- An array that is written is read back: one lemma for records of one size, and one for records of sizes of their own.
use Rattle.std.proofs.Common.{◌≡◌, ℕ, suc, ◌*◌, true, List, [], ◌∷◌, ◌++◌, length, drop, Option, Some, refl, ap, ◌∙◌, arith, length-append, append_assoc}
use Rattle.std.proofs.lemmas.Bool.{le-leb}
use Rattle.std.proofs.lemmas.List.{drop_at, take_at}
use Rattle.std.specs.Prelude.{nat_le}
use Rattle.std.specs.List.{AllByRecursion, flat_map}
use Rattle.be_bytes.specs.Reading.{prefix_of, records, sized_records}

-- what holds of each of a list, by what holds of any of its items
pub each_of : {A : Type 0} (P Q : A → Type 0) → ((x : A) → P x → Q x) → (xs : List A) → AllByRecursion P xs → AllByRecursion Q xs
each_of P Q step [] each = tt
each_of P Q step (x ∷ xs) each = (step x each.0, each_of P Q step xs each.1)

-- ---- records of one size

-- what is written of x has this size and is read as x
pub record ComesBack {A : Type 0} (spell : A → List ℕ) (read : List ℕ → Option A) (size : ℕ) (x : A) : Type 0 where
  pub size_is : length (spell x) ≡ size
  pub back : read (spell x) ≡ Some x

-- the bytes at the start, with others after them
pub prefix_at : (own rest : List ℕ) (size : ℕ) → length own ≡ size → prefix_of size (own ++ rest) ≡ Some own
prefix_at own rest size is =
    let there : nat_le size (length (own ++ rest)) ≡ true = le-leb size (length (own ++ rest)) (omega (arith, length-append own rest)) in
    rw there (ap Some (take_at own rest size is))

-- one record more before those that are read
one_more : {A : Type 0} (read : List ℕ → Option A) (size count : ℕ) (bytes own after : List ℕ) (x : A) (xs : List A) → prefix_of size bytes ≡ Some own → read own ≡ Some x → drop size bytes ≡ after → records read size count after ≡ Some xs → records read size (suc count) bytes ≡ Some (x ∷ xs)
one_more read size count bytes own after x xs prefix first further more = rw (prefix, first, further, more) refl

pub records_back : {A : Type 0} (spell : A → List ℕ) (read : List ℕ → Option A) (size : ℕ) (xs : List A) (rest : List ℕ) → AllByRecursion (ComesBack spell read size) xs → records read size (length xs) (flat_map spell xs ++ rest) ≡ Some xs
records_back spell read size [] rest each = refl
records_back spell read size (x ∷ xs) rest each =
    let whole : (spell x ++ flat_map spell xs) ++ rest ≡ spell x ++ (flat_map spell xs ++ rest) = append_assoc (spell x) (flat_map spell xs) rest in
    one_more read size (length xs) (flat_map spell (x ∷ xs) ++ rest) (spell x) (flat_map spell xs ++ rest) x xs
    (ap (prefix_of size) whole ∙ prefix_at (spell x) (flat_map spell xs ++ rest) size each.0.size_is)
    each.0.back
    (ap (drop size) whole ∙ drop_at (spell x) (flat_map spell xs ++ rest) size each.0.size_is)
    (records_back spell read size xs rest each.1)

pub records_size : {A : Type 0} (spell : A → List ℕ) (read : List ℕ → Option A) (size : ℕ) (xs : List A) → AllByRecursion (ComesBack spell read size) xs → length (flat_map spell xs) ≡ size * length xs
records_size spell read size [] each = omega arith
records_size spell read size (x ∷ xs) each =
    omega (arith, length-append (spell x) (flat_map spell xs), each.0.size_is, records_size spell read size xs each.1)

-- ---- records of sizes of their own

-- what is written of x is read as x and tells its size, whatever follows
abbrev pub ComesBackSized : {A : Type 0} → (A → List ℕ) → (List ℕ → Option (A × ℕ)) → A → Type 0
ComesBackSized spell read x = (rest : List ℕ) → read (spell x ++ rest) ≡ Some (x, length (spell x))

one_sized_more : {A : Type 0} (read : List ℕ → Option (A × ℕ)) (size count : ℕ) (bytes after : List ℕ) (x : A) (xs : List A) → read bytes ≡ Some (x, size) → drop size bytes ≡ after → sized_records read count after ≡ Some xs → sized_records read (suc count) bytes ≡ Some (x ∷ xs)
one_sized_more read size count bytes after x xs first further more = rw (first, further, more) refl

pub sized_records_back : {A : Type 0} (spell : A → List ℕ) (read : List ℕ → Option (A × ℕ)) (xs : List A) (rest : List ℕ) → AllByRecursion (ComesBackSized spell read) xs → sized_records read (length xs) (flat_map spell xs ++ rest) ≡ Some xs
sized_records_back spell read [] rest each = refl
sized_records_back spell read (x ∷ xs) rest each =
    let whole : (spell x ++ flat_map spell xs) ++ rest ≡ spell x ++ (flat_map spell xs ++ rest) = append_assoc (spell x) (flat_map spell xs) rest in
    one_sized_more read (length (spell x)) (length xs) (flat_map spell (x ∷ xs) ++ rest) (flat_map spell xs ++ rest) x xs
    (ap read whole ∙ each.0 (flat_map spell xs ++ rest))
    (ap (drop (length (spell x))) whole ∙ drop_at (spell x) (flat_map spell xs ++ rest) (length (spell x)) refl)
    (sized_records_back spell read xs rest each.1)
