-- Decimal texts: a number as it is written, and which number that is.
-- 43 is the plus sign, 45 the minus sign, 46 the point, and 48 the digit 0.
use Rattle.std.specs.Prelude.{◌≡◌, ℕ, ◌+◌, ◌-◌, ◌*◌, ◌^◌, ◌≤◌, ℤ, pos, neg_ℤ, int_le, Bool, true, false, ◌||◌, List, [], ◌∷◌, ◌++◌, length, codes, take, replicate, Option, Some, None, Result, Ok, Err, ◌==◌, nat_lt, if◌then◌else◌, IsTrue}
use Rattle.std.specs.List.{list_all}
use Rattle.std.specs.Char.{is_ascii_digit}
use Rattle.fixpoint.specs.Rounding.{round_up}
use Rattle.fixpoint.specs.declared.decimal.NumberFault.{NumberFault}
use Rattle.fixpoint.specs.declared.decimal.NumberFault.TheVariants.{NotNumber, NotWhole, NumberRange}
use Rattle.basics.specs.Bytes.{is_blank, run_at, after_run}
use Rattle.basics.specs.Optional.{◌>>=◌}

-- a number as it is written: its digits before the point and after it, each as a byte
pub record Decimal : Type 0 where
  pub is_negative : Bool
  pub whole : List ℕ
  pub decimals : List ℕ

-- ---- what is written

pub data Sign : Type 0 where
  no_sign : Sign
  plus : Sign
  minus : Sign

abbrev pub sign_text : Sign → List ℕ
sign_text no_sign = []
sign_text plus = codes "+"
sign_text minus = codes "-"

abbrev pub is_minus : Sign → Bool
is_minus no_sign = false
is_minus plus = false
is_minus minus = true

-- the point stands before decimals alone
abbrev pub fraction_text : List ℕ → List ℕ
fraction_text [] = []
fraction_text (d ∷ ds) = codes "." ++ (d ∷ ds)

-- the text writes the number, perhaps with blanks on both sides
pub record Spells (text : List ℕ) (number : Decimal) : Type 0 where
  pub before : List ℕ
  pub sign : Sign
  pub after : List ℕ
  pub blank_before : IsTrue (list_all is_blank before)
  pub blank_after : IsTrue (list_all is_blank after)
  pub some : 1 ≤ length number.whole
  pub digits : IsTrue (list_all is_ascii_digit number.whole)
  pub decimal_digits : IsTrue (list_all is_ascii_digit number.decimals)
  pub signed : number.is_negative ≡ is_minus sign
  pub spelled : text ≡ before ++ (sign_text sign ++ (number.whole ++ (fraction_text number.decimals ++ after)))

-- ---- the same, read from left to right

-- one digit or more, and what follows
unfoldable pub digits_at : List ℕ → Option (List ℕ × List ℕ)
digits_at bytes = if nat_lt 0 (length (run_at is_ascii_digit bytes)) then Some (run_at is_ascii_digit bytes, after_run is_ascii_digit bytes) else None

-- the decimals, if a point stands here, and what follows
unfoldable pub decimals_at : List ℕ → Option (List ℕ × List ℕ)
decimals_at [] = Some ([], [])
decimals_at (b ∷ bytes) = if b == 46 then digits_at bytes else Some ([], b ∷ bytes)

-- a number after its sign, with blanks alone after it
unfoldable pub unsigned_of : Bool → List ℕ → Option Decimal
unsigned_of is_negative bytes = do
  whole ← digits_at bytes
  decimals ← decimals_at whole.1
  if list_all is_blank decimals.1 then Some (record { is_negative = is_negative; whole = whole.0; decimals = decimals.0 }) else None

-- a number without blanks before it
unfoldable pub signed_of : List ℕ → Option Decimal
signed_of [] = None
signed_of (b ∷ bytes) = if b == 45 then unsigned_of true bytes else (if b == 43 then unsigned_of false bytes else unsigned_of false (b ∷ bytes))

unfoldable pub decimal_of : List ℕ → Option Decimal
decimal_of text = signed_of (after_run is_blank text)

-- ---- which number it is

-- the number whose digits are those of n and then these
abbrev pub number_after : ℕ → List ℕ → ℕ
number_after n [] = n
number_after n (d ∷ digits) = number_after (n * 10 + (d - 48)) digits

-- the sign put on a number that is at most 2,147,483,647
unfoldable pub with_sign : Bool → ℤ → Result ℤ NumberFault
with_sign is_negative n = if int_le n (pos 2147483647) then Ok (if is_negative then neg_ℤ n else n) else Err NumberRange

abbrev pub is_zero : ℕ → Bool
is_zero digit = digit == 48

-- a whole number: its decimals are all zero
unfoldable pub whole_by : Option Decimal → Result ℤ NumberFault
whole_by None = Err NotNumber
whole_by (Some number) = if list_all is_zero number.decimals then with_sign number.is_negative (pos (number_after 0 number.whole)) else Err NotWhole

-- the whole number of a text, or why it has none
abbrev pub whole_of : List ℕ → Result ℤ NumberFault
whole_of text = whole_by (decimal_of text)

-- the decimals, and zeros in the places where none is written
unfoldable pub filled : List ℕ → List ℕ
filled decimals = decimals ++ replicate 18 48

-- the number without its sign, cut after 18 decimals, times 10^18
unfoldable pub scaled : Decimal → ℕ
scaled number = number_after 0 (number.whole ++ take 18 (filled number.decimals))

-- the number nearest to it with 16 binary places, as its raw number, a tie going up in size
unfoldable pub fix16_by : Option Decimal → Result ℤ NumberFault
fix16_by None = Err NotNumber
fix16_by (Some number) = with_sign number.is_negative (round_up (pos (scaled number * 65536)) (10 ^ 18))

-- the raw number of a text's number with 16 binary places, or why it has none
abbrev pub fix16_of : List ℕ → Result ℤ NumberFault
fix16_of text = fix16_by (decimal_of text)
