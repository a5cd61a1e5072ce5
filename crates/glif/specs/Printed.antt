-- Plain drawings: files of fixed lines, with a name, an advance width and the points of contours each in a
-- line of its own. Each is the text of something written, which has a meaning and keeps conditions. The text isn't
-- a function of the meaning, since 7 is written 7 and 007.
use Rattle.std.specs.Prelude.{◌≡◌, ℕ, ◌≤◌, ℤ, pos, neg_ℤ, Bool, true, List, [], ◌++◌, length, map, All, codes, flat_map, if◌then◌else◌}
use Rattle.std.specs.List.{AllPass}
use Rattle.std.specs.Char.{is_ascii_alphabetic, is_ascii_digit}
use Rattle.std.specs.Str.Parse.{digits_value}
use Rattle.glif.specs.declared.shape.Point.{Point}
use Rattle.glif.specs.declared.shape.Drawing.{Drawing}
use Rattle.glif.specs.Limits.{IsWithinLimits}

-- a number as it is written: whether a minus sign stands first, and then its digits
pub record Number : Type 0 where
  pub negative : Bool
  pub digits : List ℕ

-- a point as it is written: x and then y
abbrev pub PrintedPoint : Type 0
PrintedPoint = Number × Number

-- a plain drawing as it is written
pub record Written : Type 0 where
  pub name : List ℕ
  pub width : Number
  pub contours : List (List PrintedPoint)

-- ---- the text

abbrev pub number_text : Number → List ℕ
number_text n = if n.negative then codes "-" ++ n.digits else n.digits

abbrev pub point_text : PrintedPoint → List ℕ
point_text p = codes "<point x=\"" ++ (number_text p.0 ++ (codes "\" y=\"" ++ (number_text p.1 ++ codes "\" type=\"line\"/>\n")))

abbrev pub contour_text : List PrintedPoint → List ℕ
contour_text ps = codes "<contour>\n" ++ (flat_map point_text ps ++ codes "</contour>\n")

abbrev pub printing : Written → List ℕ
printing w =
    codes "<glyph name=\"" ++ (w.name ++ (codes "\" format=\"2\">\n<advance width=\"" ++ (number_text w.width ++
    (codes "\"/>\n<outline>\n" ++ (flat_map contour_text w.contours ++ codes "</outline>\n</glyph>\n")))))

-- ---- what it means

abbrev pub value_of : Number → ℤ
value_of n = if n.negative then neg_ℤ (pos (digits_value 10 n.digits)) else pos (digits_value 10 n.digits)

abbrev pub point_of : PrintedPoint → Point
point_of p = record { x = value_of p.0; y = value_of p.1; on = true }

abbrev pub meaning : Written → Drawing
meaning w = record {
  name = w.name;
  outline = record { advance = value_of w.width; contours = map (map point_of) w.contours };
  components = [];
  codes = [];
}

-- ---- the conditions

-- at least one byte and at most so many, all of one class
pub record IsRun (class : ℕ → Bool) (most : ℕ) (bytes : List ℕ) : Type 0 where
  pub least : 1 ≤ length bytes
  pub greatest : length bytes ≤ most
  pub each : AllPass class bytes

-- one to five decimal digits
abbrev pub IsNumber : Number → Type 0
IsNumber n = IsRun is_ascii_digit 5 n.digits

abbrev pub IsPrintedPoint : PrintedPoint → Type 0
IsPrintedPoint p = IsNumber p.0 × IsNumber p.1

-- a name of 1 to 63 ASCII letters, proper numbers, and a drawing within limits
pub record IsWritten (w : Written) : Type 0 where
  pub named : IsRun is_ascii_alphabetic 63 w.name
  pub wide : IsNumber w.width
  pub placed : All (All IsPrintedPoint) w.contours
  pub limits : IsWithinLimits (meaning w).outline

-- the text is that of a plain drawing, and this is the drawing
pub record IsPrinted (text : List ℕ) (drawing : Drawing) : Type 0 where
  pub written : Written
  pub proper : IsWritten written
  pub spelled : text ≡ printing written
  pub means : drawing ≡ meaning written
