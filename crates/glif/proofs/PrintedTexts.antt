-- Plain drawings as source texts: the forms of source texts that a plain drawing is written in, and that they
-- are proper and spell its text.
use Rattle.std.proofs.Common.{◌≡◌, ℕ, suc, ◌<◌, Bool, true, false, not, List, [], ◌∷◌, ◌++◌, refl, sym, ap, ◌∙◌, append_assoc, append-nil, arith, inl, Ok}
use Rattle.std.specs.Prelude.{◌==◌, ◌||◌, codes, flat_map, All}
use Rattle.std.specs.List.{list_all}
use Rattle.std.specs.Str.{is_utf8}
use Rattle.std.specs.Char.{is_ascii_alphabetic, is_ascii_digit}
use Rattle.std.proofs.lemmas.Bool.{and_parts, and_from}
use Rattle.std.proofs.lemmas.Bool.Decides.{nat_tests}
use Rattle.std.proofs.lemmas.List.Elements.{All-head, All-tail, All-weaker}
use Rattle.std.proofs.lemmas.List.Sums.{AllPass-from_list_all, list_all-from_AllPass}
use Rattle.std.proofs.lemmas.Str.{IsUtf8-from_ascii, is_utf8-from_IsUtf8}
use Rattle.std.proofs.lemmas.Str.Ascii.{IsAscii-nil, IsAscii-cons, IsAscii-from_all}
use Rattle.markup_rules.specs.Bytes.{is_literal, is_name_byte, starts_name}
use Rattle.markup_rules.specs.Syntax.{IsName, run, content_text, Attribute, attribute_then, IsAttribute, AreAttributes, Tag, tag_then, IsTag, end_tag_then, Inside, only, then_empty, then_child, inside_then, IsInside, undeclared, white, Root, full_root, root_then, IsRoot, root_tree, IsTree}
use Rattle.markup_rules.specs.Syntax as syntax
use Rattle.markup_rules.specs.Tree.{Tree}
use Rattle.markup_rules.specs.Outcome.{outcome}
use Rattle.markup_rules.proofs.CompleteTexts.{tree_again}
use Rattle.glif.specs.Printed.{Number, PrintedPoint, Written, number_text, point_text, contour_text, printing, IsNumber, IsPrintedPoint, IsWritten}

-- ---- bytes of names and values

-- letters, digits and the minus sign, which stand for themselves everywhere
abbrev is_bare : ℕ → Bool
is_bare b = is_ascii_alphabetic b || (is_ascii_digit b || (b == 45))

letter_bare : (b : ℕ) → is_ascii_alphabetic b ≡ true → is_bare b ≡ true
letter_bare b letter = grind (arith, nat_tests)

digit_bare : (b : ℕ) → is_ascii_digit b ≡ true → is_bare b ≡ true
digit_bare b digit = grind (arith, nat_tests)

letter_in_name : (b : ℕ) → is_ascii_alphabetic b ≡ true → is_name_byte b ≡ true
letter_in_name b letter = grind (arith, nat_tests)

bare_literal : (b : ℕ) → is_bare b ≡ true → is_literal b ≡ true
bare_literal b bare = grind (arith, nat_tests)

bare_ascii : (b : ℕ) → is_bare b ≡ true → b < 128
bare_ascii b bare = grind (arith, nat_tests)

bare_no_quote : (b : ℕ) → is_bare b ≡ true → not (b == 34) ≡ true
bare_no_quote b bare = grind (arith, nat_tests)

all_in : (class other : ℕ → Bool) → ((b : ℕ) → class b ≡ true → other b ≡ true) → (bytes : List ℕ) → list_all class bytes ≡ true → list_all other bytes ≡ true
all_in class other wider [] all = refl
all_in class other wider (b ∷ bytes) all =
    let parts = and_parts (class b) (list_all class bytes) all in
    and_from (other b) (list_all other bytes) (wider b parts.0) (all_in class other wider bytes parts.1)

bare_utf8 : (bytes : List ℕ) → list_all is_bare bytes ≡ true → is_utf8 bytes ≡ true
bare_utf8 bytes bare =
    let ascii = All-weaker (λ b. is_bare b ≡ true) (λ b. b < 128) bare_ascii bytes (AllPass-from_list_all is_bare bytes bare) in
    is_utf8-from_IsUtf8 bytes (IsUtf8-from_ascii bytes (IsAscii-from_all bytes ascii))

letters_bare : (bytes : List ℕ) → list_all is_ascii_alphabetic bytes ≡ true → list_all is_bare bytes ≡ true
letters_bare bytes letters = all_in is_ascii_alphabetic is_bare letter_bare bytes letters

digits_bare : (bytes : List ℕ) → list_all is_ascii_digit bytes ≡ true → list_all is_bare bytes ≡ true
digits_bare bytes digits = all_in is_ascii_digit is_bare digit_bare bytes digits

-- ---- attributes and tags

letters_name : (name : List ℕ) → starts_name name ≡ true → list_all is_ascii_alphabetic name ≡ true → IsName name
letters_name name begun letters = record {
  begun = begun;
  bytes = all_in is_ascii_alphabetic is_name_byte letter_in_name name letters;
  utf8 = bare_utf8 name (letters_bare name letters);
}

-- a run of bytes that stand for themselves
run_proper : (bytes : List ℕ) → list_all is_bare bytes ≡ true → syntax.IsRun bytes
run_proper bytes bare = record { each = all_in is_bare is_literal bare_literal bytes bare; utf8 = bare_utf8 bytes bare }

-- an attribute after one space, in double quotes
abbrev pub attribute : List ℕ → List ℕ → Attribute
attribute name value = record { before = codes " "; name = name; before_equals = []; after_equals = []; quote = 34; value = run value }

-- its value is whole as it stands
whole_value : (value : List ℕ) → list_all is_bare value ≡ true → list_all (λ b. not (b == 34)) (content_text (run value)) ≡ true
whole_value value bare = ap (list_all (λ b. not (b == 34))) (append-nil value) ∙ all_in is_bare (λ b. not (b == 34)) bare_no_quote value bare

attribute_proper : (name value : List ℕ) → IsName name → list_all is_bare value ≡ true → IsAttribute (attribute name value)
attribute_proper name value named bare = record {
  apart = refl;
  blank_before = refl;
  named = named;
  blank_before_equals = refl;
  blank_after_equals = refl;
  quoted = inl refl;
  proper = run_proper value bare;
  unquoted = whole_value value bare;
}

-- a tag without blanks before its end
abbrev pub tag : List ℕ → List Attribute → Tag
tag name attributes = record { name = name; attributes = attributes; blanks = [] }

tag_proper : (name : List ℕ) (attributes : List Attribute) → IsName name → AreAttributes attributes → IsTag (tag name attributes)
tag_proper name attributes named proper = record { named = named; proper = proper; blank = refl }

abbrev pub point_tag : List ℕ → List ℕ → Tag
point_tag x y = tag (codes "point") (attribute (codes "x") x ∷ attribute (codes "y") y ∷ attribute (codes "type") (codes "line") ∷ [])

point_proper : (x y : List ℕ) → list_all is_bare x ≡ true → list_all is_bare y ≡ true → IsTag (point_tag x y)
point_proper x y bare_x bare_y =
    tag_proper (codes "point") (point_tag x y).attributes (letters_name (codes "point") refl refl) (
      attribute_proper (codes "x") x (letters_name (codes "x") refl refl) bare_x,
      (
        attribute_proper (codes "y") y (letters_name (codes "y") refl refl) bare_y,
        (attribute_proper (codes "type") (codes "line") (letters_name (codes "type") refl refl) refl, tt),
      ),
    )

-- ---- numbers as texts

number_bare : (n : Number) → IsNumber n → list_all is_bare (number_text n) ≡ true
number_bare n is = sign_cases n.negative
  where
    digits : list_all is_bare n.digits ≡ true
    digits = digits_bare n.digits (list_all-from_AllPass is_ascii_digit n.digits is.each)

    sign_cases : (negative : Bool) → list_all is_bare (number_text (record { negative = negative; digits = n.digits })) ≡ true
    sign_cases true = digits
    sign_cases false = digits

-- ---- points

-- what stands in a contour: each point after a line feed, and one at the end
abbrev pub points_inside : List PrintedPoint → Inside
points_inside [] = only (run (codes "\n"))
points_inside (p ∷ ps) = then_empty (run (codes "\n")) (point_tag (number_text p.0) (number_text p.1)) (points_inside ps)

line_feed : syntax.IsRun (codes "\n")
line_feed =
    let low : 10 < 128 = omega arith in
    record { each = refl; utf8 = is_utf8-from_IsUtf8 (codes "\n") (IsUtf8-from_ascii (codes "\n") (IsAscii-cons 10 [] low IsAscii-nil)) }

points_proper : (room : ℕ) (ps : List PrintedPoint) → All IsPrintedPoint ps → IsInside (suc room) (points_inside ps)
points_proper room [] printed = line_feed
points_proper room (p ∷ ps) printed =
    let own = All-head IsPrintedPoint p ps printed in
    (line_feed, point_proper (number_text p.0) (number_text p.1) (number_bare p.0 own.0) (number_bare p.1 own.1), points_proper room ps (All-tail IsPrintedPoint p ps printed))

abbrev point_line : List ℕ → List ℕ → List ℕ
point_line x y = codes "<point x=\"" ++ (x ++ (codes "\" y=\"" ++ (y ++ codes "\" type=\"line\"/>\n")))

point_spelled : (x y rest : List ℕ) → point_line x y ++ rest ≡ tag_then (point_tag x y) (codes "/>\n" ++ rest)
point_spelled x y rest = simp append_assoc

points_spelled : (ps : List PrintedPoint) (rest : List ℕ) → inside_then (points_inside ps) rest ≡ 10 ∷ (flat_map point_text ps ++ rest)
points_spelled [] rest = refl
points_spelled (p ∷ ps) rest =
    let tag = point_tag (number_text p.0) (number_text p.1) in
    ap (λ more. 10 ∷ tag_then tag (codes "/>" ++ more)) (points_spelled ps rest) ∙
    ap (λ line. 10 ∷ line) (sym (point_spelled (number_text p.0) (number_text p.1) (flat_map point_text ps ++ rest)) ∙ sym (append_assoc (point_text p) (flat_map point_text ps) rest))

-- ---- contours

abbrev pub contour_tag : Tag
contour_tag = tag (codes "contour") []

-- what stands in the outline: each contour after a line feed, and one at the end
abbrev pub contours_inside : List (List PrintedPoint) → Inside
contours_inside [] = only (run (codes "\n"))
contours_inside (ps ∷ contours) = then_child (run (codes "\n")) contour_tag (points_inside ps) [] (contours_inside contours)

contours_proper : (room : ℕ) (contours : List (List PrintedPoint)) → All (All IsPrintedPoint) contours → IsInside (suc (suc room)) (contours_inside contours)
contours_proper room [] printed = line_feed
contours_proper room (ps ∷ contours) printed =
    (line_feed, tag_proper (codes "contour") [] (letters_name (codes "contour") refl refl) tt, points_proper room ps (All-head (All IsPrintedPoint) ps contours printed), refl, contours_proper room contours (All-tail (All IsPrintedPoint) ps contours printed))

contours_spelled : (contours : List (List PrintedPoint)) (rest : List ℕ) → inside_then (contours_inside contours) rest ≡ 10 ∷ (flat_map contour_text contours ++ rest)
contours_spelled [] rest = refl
contours_spelled (ps ∷ contours) rest =
    let last = flat_map contour_text contours ++ rest in
    ap (λ more. 10 ∷ tag_then contour_tag (codes ">" ++ inside_then (points_inside ps) (codes "</contour>" ++ more))) (contours_spelled contours rest) ∙
    (ap (λ more. 10 ∷ tag_then contour_tag (codes ">" ++ more)) (points_spelled ps (codes "</contour>\n" ++ last)) ∙
    ap (λ more. 10 ∷ (codes "<contour>\n" ++ more)) (sym (contour_end (flat_map point_text ps) (flat_map contour_text contours) rest)))
  where
    contour_end : (points more rest : List ℕ) → ((points ++ codes "</contour>\n") ++ more) ++ rest ≡ points ++ (codes "</contour>\n" ++ (more ++ rest))
    contour_end points more rest = simp append_assoc

-- ---- the whole text

abbrev pub advance_tag : List ℕ → Tag
advance_tag width = tag (codes "advance") (attribute (codes "width") width ∷ [])

abbrev pub outline_tag : Tag
outline_tag = tag (codes "outline") []

abbrev pub glyph_tag : List ℕ → Tag
glyph_tag name = tag (codes "glyph") (attribute (codes "name") name ∷ attribute (codes "format") (codes "2") ∷ [])

abbrev pub glyph_inside : Written → Inside
glyph_inside w =
    then_empty (run (codes "\n")) (advance_tag (number_text w.width)) (then_child (run (codes "\n")) outline_tag (contours_inside w.contours) [] (only (run (codes "\n"))))

abbrev pub printed_root : Written → Root
printed_root w = full_root (glyph_tag w.name) (glyph_inside w) []

glyph_proper : (name : List ℕ) → list_all is_bare name ≡ true → IsTag (glyph_tag name)
glyph_proper name bare =
    tag_proper (codes "glyph") (glyph_tag name).attributes (letters_name (codes "glyph") refl refl)
    (attribute_proper (codes "name") name (letters_name (codes "name") refl refl) bare, (attribute_proper (codes "format") (codes "2") (letters_name (codes "format") refl refl) refl, tt))

advance_proper : (width : List ℕ) → list_all is_bare width ≡ true → IsTag (advance_tag width)
advance_proper width bare = tag_proper (codes "advance") (advance_tag width).attributes (letters_name (codes "advance") refl refl) (attribute_proper (codes "width") width (letters_name (codes "width") refl refl) bare, tt)

outline_proper : IsTag outline_tag
outline_proper = tag_proper (codes "outline") [] (letters_name (codes "outline") refl refl) tt

root_proper : (w : Written) → IsWritten w → IsRoot (printed_root w)
root_proper w is = (
  glyph_proper w.name (letters_bare w.name (list_all-from_AllPass is_ascii_alphabetic w.name is.named.each)),
  (line_feed, advance_proper (number_text w.width) (number_bare w.width is.wide), (line_feed, outline_proper, contours_proper 60 w.contours is.placed, refl, line_feed)),
  refl,
)

root_spelled : (w : Written) → printing w ≡ root_then (printed_root w) (codes "\n")
root_spelled w =
    ap (λ more. tag_then (glyph_tag w.name) (codes ">\n" ++ tag_then (advance_tag (number_text w.width)) (codes "/>\n" ++ tag_then outline_tag (codes ">" ++ more)))) (sym (contours_spelled w.contours (codes "</outline>\n</glyph>\n")))

-- the tree of a written plain drawing
abbrev pub printed_tree : Written → Tree
printed_tree w = root_tree 0 (printed_root w)

printed_is_tree : (w : Written) → IsWritten w → IsTree (printing w) (printed_tree w)
printed_is_tree w is = record {
  mark = [];
  prolog = undeclared (white []);
  root = printed_root w;
  after = white (codes "\n");
  marked = inl refl;
  proper_prolog = refl;
  proper_root = root_proper w is;
  proper_after = refl;
  spelled = root_spelled w;
  means = refl;
}

-- the text of a written plain drawing has that tree
pub printed_outcome : (w : Written) → IsWritten w → outcome (printing w) ≡ Ok (printed_tree w)
printed_outcome w is = tree_again (printing w) (printed_tree w) (printed_is_tree w is)
