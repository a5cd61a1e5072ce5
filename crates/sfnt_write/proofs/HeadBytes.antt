-- The bytes of head with another adjustment.
use Rattle.std.proofs.Common.{◌≡◌, ◌≢◌, ℕ, ◌+◌, ◌%◌, ◌^◌, ◌<◌, true, false, List, [], ◌∷◌, ◌++◌, length, take, drop, Some, refl, sym, ap, subst, ◌∙◌, arith, length-append, inl, inr}
use Rattle.std.proofs.lemmas.Bool.{cond-true, cond-false}
use Rattle.std.proofs.lemmas.Bool.Decides.{eqb_tells}
use Rattle.std.proofs.lemmas.List.{drop_at, length-take-le, take-append-drop, take_at}
use Rattle.std.specs.Prelude.{if◌then◌else◌, nat_eq}
use Rattle.std.specs.Int.{w32, to_be_bytes}
use Rattle.std.specs.List.{AllByRecursion}
use Rattle.basics.proofs.Optional.{same_some}
use Rattle.be_bytes.specs.WordSum.{word_sum}
use Rattle.sfnt_write.specs.FontFile.{HEAD, checksum_of, with_zeros}
use Rattle.sfnt_write.specs.Layout.{adjusted, with_adjustment}
use Rattle.sfnt_write.specs.Tables.{IsPlainHead, Rise, Slice, bytes_of}

-- four bytes between others, taken as 0
pub four_at : (p w q : List ℕ) (offset : ℕ) → length p ≡ offset → length w ≡ 4 → with_zeros offset (p ++ (w ++ q)) ≡ p ++ (0 ∷ 0 ∷ 0 ∷ 0 ∷ q)
four_at p w q offset at four =
    ap (λ (b : List ℕ). take offset (p ++ (w ++ q)) ++ (0 ∷ 0 ∷ 0 ∷ 0 ∷ drop 4 b)) (drop_at p (w ++ q) offset at)
    ∙ ap (λ (b : List ℕ). b ++ (0 ∷ 0 ∷ 0 ∷ 0 ∷ drop 4 (w ++ q))) (take_at p (w ++ q) offset at)
    ∙ ap (λ (b : List ℕ). p ++ (0 ∷ 0 ∷ 0 ∷ 0 ∷ b)) (drop_at w q 4 four)

-- head as it is given, cut at its adjustment
pub parts_of : (bytes : List ℕ) → IsPlainHead bytes → bytes ≡ take 8 bytes ++ (0 ∷ 0 ∷ 0 ∷ 0 ∷ drop 4 (drop 8 bytes))
parts_of bytes plain =
    sym (take-append-drop 8 bytes)
    ∙ ap (λ (b : List ℕ). take 8 bytes ++ b) (sym (take-append-drop 4 (drop 8 bytes)) ∙ ap (λ (w : List ℕ). w ++ drop 4 (drop 8 bytes)) plain.adjustment)

pub first_size : (bytes : List ℕ) → IsPlainHead bytes → length (take 8 bytes) ≡ 8
first_size bytes plain = length-take-le 8 bytes (omega (arith, plain.size))

pub zeros_again : (n : ℕ) (bytes : List ℕ) → IsPlainHead bytes → with_zeros 8 (with_adjustment n bytes) ≡ bytes
zeros_again n bytes plain =
    four_at (take 8 bytes) (to_be_bytes w32 n) (drop 4 (drop 8 bytes)) 8 (first_size bytes plain) refl ∙ sym (parts_of bytes plain)

pub with_adjustment_size : (n : ℕ) (bytes : List ℕ) → IsPlainHead bytes → length (with_adjustment n bytes) ≡ length bytes
with_adjustment_size n bytes plain =
    let rest : List ℕ = drop 4 (drop 8 bytes) in
    omega (arith, ap length (parts_of bytes plain), length-append (take 8 bytes) (to_be_bytes w32 n ++ rest), length-append (take 8 bytes) (0 ∷ 0 ∷ 0 ∷ 0 ∷ rest))

-- ---- tables

abbrev pub IsPlain : Slice → Type 0
IsPlain own = own.tag ≡ HEAD → IsPlainHead own.bytes

abbrev pub IsNotHead : Slice → Type 0
IsNotHead own = own.tag ≢ HEAD

pub none_later : (tag : ℕ) (tables : List Slice) → HEAD < tag → Rise tag tables → AllByRecursion IsNotHead tables
none_later tag [] above rise = tt
none_later tag (own ∷ others) above rise =
    let isnt : own.tag ≢ HEAD = λ is. omega (arith, is, rise.0) in
    (isnt, none_later (own.tag + 1) others (omega (arith, rise.0)) rise.1)

not_head_plain : (tables : List Slice) → AllByRecursion IsNotHead tables → AllByRecursion IsPlain tables
not_head_plain [] none = tt
not_head_plain (own ∷ others) none = (λ is. absurd (none.0 is), not_head_plain others none.1)

-- the one table that is head is the one that is found
pub each_plain : (tag : ℕ) (tables : List Slice) (head : List ℕ) → Rise tag tables → bytes_of HEAD tables ≡ Some head → IsPlainHead head → AllByRecursion IsPlain tables
each_plain tag [] head rise there plain = tt
each_plain tag (own ∷ others) head rise there plain =
    elim (eqb_tells own.tag HEAD) [
      | inl is ↦
          let found : own.bytes ≡ head = same_some own.bytes head (sym (cond-true (nat_eq own.tag HEAD) (Some own.bytes) (bytes_of HEAD others) is.0) ∙ there) in
          (λ _. subst IsPlainHead (sym found) plain, not_head_plain others (none_later (own.tag + 1) others (omega (arith, is.1)) rise.1))
      | inr isnt ↦
          let later : bytes_of HEAD others ≡ Some head = sym (cond-false (nat_eq own.tag HEAD) (Some own.bytes) (bytes_of HEAD others) isnt.0) ∙ there in
          (λ is. absurd (isnt.1 is), each_plain (own.tag + 1) others head rise.1 later plain)
    ]

pub adjusted_head : (n : ℕ) (own : Slice) → nat_eq own.tag HEAD ≡ true → adjusted n own.tag own.bytes ≡ with_adjustment n own.bytes
adjusted_head n own is = cond-true (nat_eq own.tag HEAD) (with_adjustment n own.bytes) own.bytes is

pub adjusted_other : (n : ℕ) (own : Slice) → nat_eq own.tag HEAD ≡ false → adjusted n own.tag own.bytes ≡ own.bytes
adjusted_other n own isnt = cond-false (nat_eq own.tag HEAD) (with_adjustment n own.bytes) own.bytes isnt

pub adjusted_size : (n : ℕ) (own : Slice) → IsPlain own → length (adjusted n own.tag own.bytes) ≡ length own.bytes
adjusted_size n own plain =
    elim (eqb_tells own.tag HEAD) [
      | inl is ↦ ap length (adjusted_head n own is.0) ∙ with_adjustment_size n own.bytes (plain is.1)
      | inr isnt ↦ ap length (adjusted_other n own isnt.0)
    ]

-- the checksum of a table in the file is the sum of its words as it was given
pub checksum_same : (n : ℕ) (own : Slice) → IsPlain own → word_sum own.bytes % 2 ^ 32 ≡ checksum_of own.tag (adjusted n own.tag own.bytes)
checksum_same n own plain =
    let bytes : List ℕ = adjusted n own.tag own.bytes in
    let summed : own.bytes ≡ (if nat_eq own.tag HEAD then with_zeros 8 bytes else bytes) =
    elim (eqb_tells own.tag HEAD) [
      | inl is ↦ sym (cond-true (nat_eq own.tag HEAD) (with_zeros 8 bytes) bytes is.0 ∙ ap (with_zeros 8) (adjusted_head n own is.0) ∙ zeros_again n own.bytes (plain is.1))
      | inr isnt ↦ sym (cond-false (nat_eq own.tag HEAD) (with_zeros 8 bytes) bytes isnt.0 ∙ adjusted_other n own isnt.0)
    ] in
    ap (λ (b : List ℕ). word_sum b % 2 ^ 32) summed
