-- Decimal texts, in both directions: what is read is written so, and what is written so is read.
use Rattle.std.proofs.Common.{◌≡◌, ℕ, ◌≤◌, Bool, true, false, cond, not, List, [], ◌∷◌, ◌++◌, length, Option, Some, None, refl, sym, ap, subst, ◌∙◌, arith}
use Rattle.std.specs.Prelude.{◌==◌, nat_lt}
use Rattle.std.specs.List.{list_all}
use Rattle.std.specs.Char.{is_ascii_digit}
use Rattle.std.proofs.lemmas.Bool.{and_parts, ltb-true, lt-ltb, eqb-true}
use Rattle.std.proofs.lemmas.Bool.Decides.{nat_tests}
use Rattle.std.proofs.lemmas.Option.{cond_some, some_pair_parts}
use Rattle.fixpoint.specs.DecimalText.{Decimal, Sign, no_sign, plus, minus, sign_text, is_minus, fraction_text, Spells, digits_at, decimals_at, unsigned_of, signed_of, decimal_of}
use Rattle.basics.specs.Bytes.{is_blank, run_at, after_run}
use Rattle.basics.specs.Optional.{◌>>=◌}
use Rattle.basics.specs.Bytes.{stops}
use Rattle.basics.proofs.Runs.{run_at_again, after_run_again, run_whole, run_all}
use Rattle.basics.proofs.Optional.{bind_some}

-- ---- what is written so is read

digits_again : (digits rest : List ℕ) → list_all is_ascii_digit digits ≡ true → 1 ≤ length digits → stops is_ascii_digit rest ≡ true → digits_at (digits ++ rest) ≡ Some (digits, rest)
unfolding digits_at
digits_again digits rest all some stop =
    rw (run_at_again is_ascii_digit digits rest all stop, after_run_again is_ascii_digit digits rest all stop, lt-ltb 0 (length digits) (omega arith)) refl

-- the four blanks are no digit and no point
blank_no_digit : (b : ℕ) → is_blank b ≡ true → not (is_ascii_digit b) ≡ true
blank_no_digit b blank = grind (arith, nat_tests)

blank_no_point : (b : ℕ) → is_blank b ≡ true → (b == 46) ≡ false
blank_no_point b blank = grind (arith, nat_tests)

digit_no_blank : (b : ℕ) → is_ascii_digit b ≡ true → not (is_blank b) ≡ true
digit_no_blank b digit = grind (arith, nat_tests)

digit_no_minus : (b : ℕ) → is_ascii_digit b ≡ true → (b == 45) ≡ false
digit_no_minus b digit = grind (arith, nat_tests)

digit_no_plus : (b : ℕ) → is_ascii_digit b ≡ true → (b == 43) ≡ false
digit_no_plus b digit = grind (arith, nat_tests)

blanks_stop : (after : List ℕ) → list_all is_blank after ≡ true → stops is_ascii_digit after ≡ true
blanks_stop [] blank = refl
blanks_stop (b ∷ after) blank = blank_no_digit b (and_parts (is_blank b) (list_all is_blank after) blank).0

fraction_stops : (decimals after : List ℕ) → list_all is_blank after ≡ true → stops is_ascii_digit (fraction_text decimals ++ after) ≡ true
fraction_stops [] after blank = blanks_stop after blank
fraction_stops (d ∷ decimals) after blank = refl

decimals_again : (decimals after : List ℕ) → list_all is_ascii_digit decimals ≡ true → list_all is_blank after ≡ true → decimals_at (fraction_text decimals ++ after) ≡ Some (decimals, after)
unfolding decimals_at
decimals_again [] [] all blank = refl
decimals_again [] (b ∷ after) all blank = rw (blank_no_point b (and_parts (is_blank b) (list_all is_blank after) blank).0) refl
decimals_again (d ∷ decimals) after all blank = digits_again (d ∷ decimals) after all (omega arith) (blanks_stop after blank)

abbrev number : Bool → List ℕ → List ℕ → Decimal
number is_negative whole decimals = record { is_negative = is_negative; whole = whole; decimals = decimals }

-- the digits, the fraction and what is after them
abbrev tail_text : List ℕ → List ℕ → List ℕ → List ℕ
tail_text whole decimals after = whole ++ (fraction_text decimals ++ after)

-- a number whose digits, decimals and blanks are so
record IsProper (whole decimals after : List ℕ) : Type 0 where
  some : 1 ≤ length whole
  digits : list_all is_ascii_digit whole ≡ true
  decimal_digits : list_all is_ascii_digit decimals ≡ true
  blank : list_all is_blank after ≡ true

unsigned_again : (is_negative : Bool) (whole decimals after : List ℕ) → IsProper whole decimals after → unsigned_of is_negative (tail_text whole decimals after) ≡ Some (number is_negative whole decimals)
unfolding unsigned_of
unsigned_again is_negative whole decimals after proper =
    let prefix = digits_again whole (fraction_text decimals ++ after) proper.digits proper.some (fraction_stops decimals after proper.blank) in
    rw (prefix, decimals_again decimals after proper.decimal_digits proper.blank, proper.blank) refl

signed_again : (sign : Sign) (whole decimals after : List ℕ) → IsProper whole decimals after → signed_of (sign_text sign ++ tail_text whole decimals after) ≡ Some (number (is_minus sign) whole decimals)
unfolding signed_of
signed_again minus whole decimals after proper = unsigned_again true whole decimals after proper
signed_again plus whole decimals after proper = unsigned_again false whole decimals after proper
signed_again no_sign [] decimals after proper = absurd (omega (arith, proper.some))
signed_again no_sign (d ∷ whole) decimals after proper =
    let digit = (and_parts (is_ascii_digit d) (list_all is_ascii_digit whole) proper.digits).0 in
    rw (digit_no_minus d digit, digit_no_plus d digit) (unsigned_again false (d ∷ whole) decimals after proper)

-- no blank stands before a number
sign_stops : (sign : Sign) (whole decimals after : List ℕ) → IsProper whole decimals after → stops is_blank (sign_text sign ++ tail_text whole decimals after) ≡ true
sign_stops minus whole decimals after proper = refl
sign_stops plus whole decimals after proper = refl
sign_stops no_sign [] decimals after proper = absurd (omega (arith, proper.some))
sign_stops no_sign (d ∷ whole) decimals after proper = digit_no_blank d (and_parts (is_ascii_digit d) (list_all is_ascii_digit whole) proper.digits).0

written_again : (before : List ℕ) (sign : Sign) (whole decimals after : List ℕ) → list_all is_blank before ≡ true → IsProper whole decimals after → decimal_of (before ++ (sign_text sign ++ tail_text whole decimals after)) ≡ Some (number (is_minus sign) whole decimals)
unfolding decimal_of
written_again before sign whole decimals after blank proper =
    rw (after_run_again is_blank before (sign_text sign ++ tail_text whole decimals after) blank (sign_stops sign whole decimals after proper)) (signed_again sign whole decimals after proper)

pub decimal_again : (text : List ℕ) (decimal : Decimal) → Spells text decimal → decimal_of text ≡ Some decimal
decimal_again text decimal spells =
    let proper : IsProper decimal.whole decimal.decimals spells.after = record { some = spells.some; digits = spells.digits; decimal_digits = spells.decimal_digits; blank = spells.blank_after } in
    ap decimal_of spells.spelled ∙ (written_again spells.before spells.sign decimal.whole decimal.decimals spells.after spells.blank_before proper ∙ ap (λ is. Some (number is decimal.whole decimal.decimals)) (sym spells.signed))

-- ---- what is read is written so

record TakesDigits (bytes digits rest : List ℕ) : Type 0 where
  some : 1 ≤ length digits
  all : list_all is_ascii_digit digits ≡ true
  spelled : bytes ≡ digits ++ rest

digits_takes : (bytes digits rest : List ℕ) → digits_at bytes ≡ Some (digits, rest) → TakesDigits bytes digits rest
unfolding digits_at
digits_takes bytes digits rest found =
    let run = run_at is_ascii_digit bytes in
    let test = cond_some (nat_lt 0 (length run)) (run, after_run is_ascii_digit bytes) (digits, rest) found in
    let prefix : run ≡ digits = ap (λ p. p.0) test.1 in
    let back : after_run is_ascii_digit bytes ≡ rest = ap (λ p. p.1) test.1 in
    record {
      some = omega (arith, ltb-true 0 (length run) test.0, ap length prefix);
      all = subst (λ ds. list_all is_ascii_digit ds ≡ true) prefix (run_all is_ascii_digit bytes);
      spelled = run_whole is_ascii_digit bytes ∙ (ap (λ ds. ds ++ after_run is_ascii_digit bytes) prefix ∙ ap (λ bs. digits ++ bs) back);
    }

record TakesDecimals (bytes decimals rest : List ℕ) : Type 0 where
  all : list_all is_ascii_digit decimals ≡ true
  spelled : bytes ≡ fraction_text decimals ++ rest

-- decimals after a point, of which there is one at least
after_point : (bytes decimals rest : List ℕ) → TakesDigits bytes decimals rest → 46 ∷ bytes ≡ fraction_text decimals ++ rest
after_point bytes [] rest taken = absurd (omega (arith, taken.some))
after_point bytes (d ∷ decimals) rest taken = ap (λ bs. 46 ∷ bs) taken.spelled

no_decimals : (bytes decimals rest : List ℕ) → ([] ≡ decimals) × (bytes ≡ rest) → TakesDecimals bytes decimals rest
no_decimals bytes decimals rest parts = record {
  all = ap (list_all is_ascii_digit) (sym parts.0);
  spelled = parts.1 ∙ ap (λ ds. fraction_text ds ++ rest) parts.0;
}

decimals_step : (b : ℕ) (bytes decimals rest : List ℕ) (point : Bool) → (b == 46) ≡ point → cond point (digits_at bytes) (Some ([], b ∷ bytes)) ≡ Some (decimals, rest) → TakesDecimals (b ∷ bytes) decimals rest
decimals_step b bytes decimals rest true test found =
    let taken = digits_takes bytes decimals rest found in
    record { all = taken.all; spelled = ap (λ c. c ∷ bytes) (eqb-true b 46 test) ∙ after_point bytes decimals rest taken }
decimals_step b bytes decimals rest false test found = no_decimals (b ∷ bytes) decimals rest (some_pair_parts [] decimals (b ∷ bytes) rest found)

decimals_takes : (bytes decimals rest : List ℕ) → decimals_at bytes ≡ Some (decimals, rest) → TakesDecimals bytes decimals rest
unfolding decimals_at
decimals_takes [] decimals rest found = no_decimals [] decimals rest (some_pair_parts [] decimals [] rest found)
decimals_takes (b ∷ bytes) decimals rest found = decimals_step b bytes decimals rest (b == 46) refl found

-- the text without blanks before it and without its sign
record TakesUnsigned (is_negative : Bool) (bytes : List ℕ) (decimal : Decimal) : Type 0 where
  after : List ℕ
  proper : IsProper decimal.whole decimal.decimals after
  signed : decimal.is_negative ≡ is_negative
  spelled : bytes ≡ tail_text decimal.whole decimal.decimals after

abbrev end_of : Bool → List ℕ → List ℕ × List ℕ → Option Decimal
end_of is_negative whole decimals = cond (list_all is_blank decimals.1) (Some (number is_negative whole decimals.0)) None

unsigned_parts : (bytes whole rest decimals after : List ℕ) → bytes ≡ whole ++ rest → rest ≡ fraction_text decimals ++ after → bytes ≡ tail_text whole decimals after
unsigned_parts bytes whole rest decimals after p q = cc

unsigned_found : (is_negative : Bool) (bytes whole decimals after : List ℕ) → IsProper whole decimals after → bytes ≡ tail_text whole decimals after → TakesUnsigned is_negative bytes (number is_negative whole decimals)
unsigned_found is_negative bytes whole decimals after proper spelled = record { after = after; proper = proper; signed = refl; spelled = spelled }

unsigned_takes : (is_negative : Bool) (bytes : List ℕ) (decimal : Decimal) → unsigned_of is_negative bytes ≡ Some decimal → TakesUnsigned is_negative bytes decimal
unfolding unsigned_of
unsigned_takes is_negative bytes decimal found =
    let whole = bind_some (digits_at bytes) (λ whole. decimals_at whole.1 >>= end_of is_negative whole.0) decimal found in
    let decimals = bind_some (decimals_at whole.0.1) (end_of is_negative whole.0.0) decimal whole.2 in
    let test = cond_some (list_all is_blank decimals.0.1) (number is_negative whole.0.0 decimals.0.0) decimal decimals.2 in
    let prefix = digits_takes bytes whole.0.0 whole.0.1 whole.1 in
    let back = decimals_takes whole.0.1 decimals.0.0 decimals.0.1 decimals.1 in
    subst (TakesUnsigned is_negative bytes) test.1
    (unsigned_found is_negative bytes whole.0.0 decimals.0.0 decimals.0.1
    (record { some = prefix.some; digits = prefix.all; decimal_digits = back.all; blank = test.0 })
    (unsigned_parts bytes whole.0.0 whole.0.1 decimals.0.0 decimals.0.1 prefix.spelled back.spelled))

record TakesSigned (bytes : List ℕ) (decimal : Decimal) : Type 0 where
  sign : Sign
  after : List ℕ
  proper : IsProper decimal.whole decimal.decimals after
  signed : decimal.is_negative ≡ is_minus sign
  spelled : bytes ≡ sign_text sign ++ tail_text decimal.whole decimal.decimals after

with_minus : (b : ℕ) (bytes : List ℕ) (decimal : Decimal) → b ≡ 45 → TakesUnsigned true bytes decimal → TakesSigned (b ∷ bytes) decimal
with_minus b bytes decimal e taken = record {
  sign = minus;
  after = taken.after;
  proper = taken.proper;
  signed = taken.signed;
  spelled = ap (λ c. c ∷ bytes) e ∙ ap (λ bs. 45 ∷ bs) taken.spelled;
}

with_plus : (b : ℕ) (bytes : List ℕ) (decimal : Decimal) → b ≡ 43 → TakesUnsigned false bytes decimal → TakesSigned (b ∷ bytes) decimal
with_plus b bytes decimal e taken = record {
  sign = plus;
  after = taken.after;
  proper = taken.proper;
  signed = taken.signed;
  spelled = ap (λ c. c ∷ bytes) e ∙ ap (λ bs. 43 ∷ bs) taken.spelled;
}

without_sign : (bytes : List ℕ) (decimal : Decimal) → TakesUnsigned false bytes decimal → TakesSigned bytes decimal
without_sign bytes decimal taken = record { sign = no_sign; after = taken.after; proper = taken.proper; signed = taken.signed; spelled = taken.spelled }

plus_step : (b : ℕ) (bytes : List ℕ) (decimal : Decimal) (is_plus : Bool) → (b == 43) ≡ is_plus → cond is_plus (unsigned_of false bytes) (unsigned_of false (b ∷ bytes)) ≡ Some decimal → TakesSigned (b ∷ bytes) decimal
plus_step b bytes decimal true test found = with_plus b bytes decimal (eqb-true b 43 test) (unsigned_takes false bytes decimal found)
plus_step b bytes decimal false test found = without_sign (b ∷ bytes) decimal (unsigned_takes false (b ∷ bytes) decimal found)

minus_step : (b : ℕ) (bytes : List ℕ) (decimal : Decimal) (is : Bool) → (b == 45) ≡ is → cond is (unsigned_of true bytes) (cond (b == 43) (unsigned_of false bytes) (unsigned_of false (b ∷ bytes))) ≡ Some decimal → TakesSigned (b ∷ bytes) decimal
minus_step b bytes decimal true test found = with_minus b bytes decimal (eqb-true b 45 test) (unsigned_takes true bytes decimal found)
minus_step b bytes decimal false test found = plus_step b bytes decimal (b == 43) refl found

signed_takes : (bytes : List ℕ) (decimal : Decimal) → signed_of bytes ≡ Some decimal → TakesSigned bytes decimal
unfolding signed_of
signed_takes [] decimal found = absurd cc
signed_takes (b ∷ bytes) decimal found = minus_step b bytes decimal (b == 45) refl found

pub decimal_takes : (text : List ℕ) (decimal : Decimal) → decimal_of text ≡ Some decimal → Spells text decimal
unfolding decimal_of
decimal_takes text decimal found =
    let taken = signed_takes (after_run is_blank text) decimal found in
    record {
      before = run_at is_blank text;
      sign = taken.sign;
      after = taken.after;
      blank_before = run_all is_blank text;
      blank_after = taken.proper.blank;
      some = taken.proper.some;
      digits = taken.proper.digits;
      decimal_digits = taken.proper.decimal_digits;
      signed = taken.signed;
      spelled = run_whole is_blank text ∙ ap (λ bs. run_at is_blank text ++ bs) taken.spelled;
    }
