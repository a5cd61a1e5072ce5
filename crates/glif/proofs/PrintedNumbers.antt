-- Numbers of plain drawings: each is read as its value.
use Rattle.std.proofs.Common.{◌≡◌, ℕ, ◌^◌, ◌<◌, ◌≤◌, Bool, true, false, cond, List, [], ◌∷◌, length, Some, Ok, refl, sym, ap, ◌∙◌, append-nil, arith, rules}
use Rattle.std.specs.Prelude.{ℤ, pos, neg_ℤ}
use Rattle.std.specs.List.{list_all}
use Rattle.std.specs.Char.{is_ascii_digit}
use Rattle.std.specs.Str.Parse.{digits_value}
use Rattle.std.proofs.lemmas.Bool.{le-leb}
use Rattle.std.proofs.lemmas.List.Sums.{list_all-from_AllPass}
use Rattle.std.proofs.lemmas.Str.Parse.{IsNumeralModel, numerals_by_fold, digits_value_short}
use Rattle.fixpoint.specs.DecimalText.{Decimal, no_sign, minus, Spells, number_after, with_sign, whole_by, whole_of}
use Rattle.fixpoint.proofs.DecimalLaws.{decimal_again}
use Rattle.glif.specs.Printed.{Number, number_text, value_of, IsNumber}

-- ---- the digits

abbrev IsDigits : List ℕ → Type 0
IsDigits digits = list_all is_ascii_digit digits ≡ true

digits_model : IsNumeralModel IsDigits (number_after 0)
digits_model = numerals_by_fold IsDigits (search rules) number_after (search rules)

digits_same : (digits : List ℕ) → IsDigits digits → number_after 0 digits ≡ digits_value 10 digits
digits_same digits are = digits_model.same digits (digits_model.to digits are)

-- ---- the number

abbrev decimal : Bool → List ℕ → Decimal
decimal negative digits = record { is_negative = negative; whole = digits; decimals = [] }

abbrev number : Bool → List ℕ → Number
number negative digits = record { negative = negative; digits = digits }

spells : (negative : Bool) (digits : List ℕ) → IsDigits digits → 1 ≤ length digits → Spells (number_text (number negative digits)) (decimal negative digits)
spells true digits are some = record {
  before = [];
  sign = minus;
  after = [];
  blank_before = refl;
  blank_after = refl;
  some = some;
  digits = are;
  decimal_digits = refl;
  signed = refl;
  spelled = ap (λ ds. 45 ∷ ds) (sym (append-nil digits));
}
spells false digits are some = record {
  before = [];
  sign = no_sign;
  after = [];
  blank_before = refl;
  blank_after = refl;
  some = some;
  digits = are;
  decimal_digits = refl;
  signed = refl;
  spelled = sym (append-nil digits);
}

abbrev signed : Bool → ℤ → ℤ
signed negative n = cond negative (neg_ℤ n) n

with_sign_small : (negative : Bool) (n : ℕ) → n ≤ 2147483647 → with_sign negative (pos n) ≡ Ok (signed negative (pos n))
unfolding with_sign
with_sign_small negative n small = rw (le-leb n 2147483647 small) refl

whole_some : (negative : Bool) (digits : List ℕ) → whole_by (Some (decimal negative digits)) ≡ with_sign negative (pos (number_after 0 digits))
unfolding whole_by
whole_some negative digits = refl

whole_value : (negative : Bool) (digits : List ℕ) → IsDigits digits → 1 ≤ length digits → length digits ≤ 5 → whole_of (number_text (number negative digits)) ≡ Ok (value_of (number negative digits))
whole_value negative digits are some few =
    let small : number_after 0 digits < 10 ^ 5 = digits_value_short digits_model digits 5 are few in
    ap whole_by (decimal_again (number_text (number negative digits)) (decimal negative digits) (spells negative digits are some)) ∙
    (whole_some negative digits ∙
    (with_sign_small negative (number_after 0 digits) (omega arith) ∙
    ap (λ n. Ok (signed negative (pos n))) (digits_same digits are)))

-- the text of a number of one to five digits writes its value
pub number_reads : (n : Number) → IsNumber n → whole_of (number_text n) ≡ Ok (value_of n)
number_reads n is = whole_value n.negative n.digits (list_all-from_AllPass is_ascii_digit n.digits is.each) is.least is.greatest
