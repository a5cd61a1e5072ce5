-- The sum of the words of bytes that stand one after another, and of filled ones.
use Rattle.std.proofs.Common.{◌≡◌, ℕ, ◌+◌, ◌%◌, List, [], ◌∷◌, ◌++◌, length, map, replicate, refl, sym, ap, ◌∙◌, zero-add, add-zero, add_assoc, arith, length-append}
use Rattle.std.proofs.lemmas.List.{length-replicate}
use Rattle.std.proofs.lemmas.List.Sums.{sum_by-cons}
use Rattle.std.specs.Int.{w32, from_be_bytes}
use Rattle.std.specs.List.{concat}
use Rattle.be_bytes.specs.WordSum.{word_sum}
use Rattle.sfnt_write.specs.Layout.{filled, filling}
use Rattle.sfnt_write.specs.Steps.{tables_sum}
use Rattle.sfnt_write.specs.Tables.{Slice}

-- whole words first
pub sum_append : (prefix rest : List ℕ) → length prefix % 4 ≡ 0 → word_sum (prefix ++ rest) ≡ word_sum prefix + word_sum rest
sum_append [] rest whole = sym (zero-add (word_sum rest))
sum_append (a ∷ []) rest whole = absurd (omega arith)
sum_append (a ∷ b ∷ []) rest whole = absurd (omega arith)
sum_append (a ∷ b ∷ c ∷ []) rest whole = absurd (omega arith)
sum_append (a ∷ b ∷ c ∷ d ∷ prefix) rest whole =
    ap (λ (n : ℕ). from_be_bytes w32 (a ∷ b ∷ c ∷ d ∷ []) + n) (sum_append prefix rest (omega arith))
    ∙ sym (add_assoc (from_be_bytes w32 (a ∷ b ∷ c ∷ d ∷ [])) (word_sum prefix) (word_sum rest))

-- zeros add nothing
pub sum_filled : (bytes : List ℕ) → word_sum (filled bytes) ≡ word_sum bytes
sum_filled [] = refl
sum_filled (a ∷ []) = add-zero (from_be_bytes w32 (a ∷ 0 ∷ 0 ∷ 0 ∷ []))
sum_filled (a ∷ b ∷ []) = add-zero (from_be_bytes w32 (a ∷ b ∷ 0 ∷ 0 ∷ []))
sum_filled (a ∷ b ∷ c ∷ []) = add-zero (from_be_bytes w32 (a ∷ b ∷ c ∷ 0 ∷ []))
sum_filled (a ∷ b ∷ c ∷ d ∷ bytes) =
    let again : filling (length (a ∷ b ∷ c ∷ d ∷ bytes)) ≡ filling (length bytes) = omega arith in
    ap (λ (n : ℕ). word_sum (a ∷ b ∷ c ∷ d ∷ (bytes ++ replicate n 0))) again
    ∙ ap (λ (n : ℕ). from_be_bytes w32 (a ∷ b ∷ c ∷ d ∷ []) + n) (sum_filled bytes)

pub filled_size : (bytes : List ℕ) → length (filled bytes) ≡ length bytes + filling (length bytes)
filled_size bytes =
    length-append bytes (replicate (filling (length bytes)) 0) ∙ ap (λ (n : ℕ). length bytes + n) (length-replicate (filling (length bytes)) 0)

pub filled_whole : (bytes : List ℕ) → length (filled bytes) % 4 ≡ 0
filled_whole bytes = omega (arith, filled_size bytes)

sum_each : (tables : List Slice) → word_sum (concat (map (λ own. filled own.bytes) tables)) ≡ tables_sum tables
sum_each [] = refl
sum_each (own ∷ others) =
    sum_append (filled own.bytes) (concat (map (λ other. filled other.bytes) others)) (filled_whole own.bytes)
    ∙ ap (λ (n : ℕ). n + word_sum (concat (map (λ other. filled other.bytes) others))) (sum_filled own.bytes)
    ∙ ap (λ (n : ℕ). word_sum own.bytes + n) (sum_each others)
    ∙ sym (sum_by-cons (λ (own : Slice). word_sum own.bytes) own others)

-- all tables, each filled, after whole words
pub sum_of_tables : (prefix : List ℕ) (tables : List Slice) → length prefix % 4 ≡ 0 → word_sum (prefix ++ concat (map (λ own. filled own.bytes) tables)) ≡ word_sum prefix + tables_sum tables
sum_of_tables prefix tables whole =
    sum_append prefix (concat (map (λ own. filled own.bytes) tables)) whole ∙ ap (λ (n : ℕ). word_sum prefix + n) (sum_each tables)
