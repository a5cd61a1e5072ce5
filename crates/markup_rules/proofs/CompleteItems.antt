-- What is written is cut off as one item: tags, comments, instructions, document types and data.
use Rattle.std.proofs.Common.{◌≡◌, ℕ, suc, ◌+◌, Bool, true, false, not, ◌&&◌, List, [], ◌∷◌, ◌++◌, length, drop, Option, Some, None, refl, sym, ap, subst, ◌∙◌, append_assoc, arith, ◌⊎◌, inl, inr}
use Rattle.std.specs.Prelude.{◌==◌, option_map}
use Rattle.std.specs.List.{list_all}
use Rattle.std.proofs.lemmas.Bool.{and_parts, and_right}
use Rattle.std.proofs.lemmas.Bool.Decides.{nat_tests}
use Rattle.std.proofs.lemmas.List.{take_at, drop_at, length-append}
use Rattle.markup_rules.specs.Bytes.{is_literal, is_name_start, is_name_byte, starts_name}
use Rattle.markup_rules.specs.Syntax.{IsName, Reference, ampersand, less, greater, quotation, apostrophe, decimal, hexadecimal, reference_body, IsReference, Content, run, then_reference, content_then, content_text, IsContent, Attribute, attribute_then, IsAttribute, attributes_then, AreAttributes, Tag, tag_then, IsTag, end_tag_then}
use Rattle.markup_rules.specs.Reading.{Item, tag, tag_end, tag_before, tag_by, markup_at, item_at}
use Rattle.markup_rules.proofs.CompleteNames.{all_both}
use Rattle.markup_rules.proofs.CompleteTags.{content_append, tag_body}
use Rattle.std.specs.Char.{is_ascii_digit, is_ascii_hexdigit}
use Rattle.basics.specs.Bytes.{is_blank}
use Rattle.basics.proofs.Runs.{all_in}

-- ---- how the end of a tag is looked for

-- an index so many bytes further on
abbrev further : ℕ → Option ℕ → Option ℕ
further n found = option_map (λ (m : ℕ). m + n) found

further_zero : (found : Option ℕ) → found ≡ further 0 found
further_zero (Some n) = let e : n ≡ n + 0 = omega arith in ap (λ (m : ℕ). Some m) e
further_zero None = refl

further_one : (n : ℕ) (found : Option ℕ) → further 1 (further n found) ≡ further (suc n) found
further_one n (Some m) = let e : (m + n) + 1 ≡ m + suc n = omega arith in ap (λ (k : ℕ). Some k) e
further_one n None = refl

further_both : (n m : ℕ) (found : Option ℕ) → further n (further m found) ≡ further (n + m) found
further_both n m (Some k) = let e : (k + m) + n ≡ k + (n + m) = omega arith in ap (λ (j : ℕ). Some j) e
further_both n m None = refl

-- no byte of these ends the tag, and after them another quote is open
abbrev Scans : Option ℕ → List ℕ → Option ℕ → Type 0
Scans quote bytes next = (rest : List ℕ) → tag_end quote (bytes ++ rest) ≡ further (length bytes) (tag_end next rest)

scan_both : (quote : Option ℕ) (prefix : List ℕ) (between : Option ℕ) (back : List ℕ) (next : Option ℕ) → Scans quote prefix between → Scans between back next → Scans quote (prefix ++ back) next
scan_both quote prefix between back next p q rest =
    ap (tag_end quote) (append_assoc prefix back rest) ∙ (p (back ++ rest) ∙ (ap (further (length prefix)) (q rest) ∙
    (further_both (length prefix) (length back) (tag_end next rest) ∙ ap (λ (n : ℕ). further n (tag_end next rest)) (sym (length-append prefix back)))))

-- bytes that end no tag and open no quote
abbrev is_calm : ℕ → Bool
is_calm b = not (b == 60) && (not (b == 62) && (not (b == 34) && not (b == 39)))

not_true : (b : Bool) → not b ≡ true → b ≡ false
not_true true e = absurd cc
not_true false e = refl

calm_step : (b : ℕ) (found : List ℕ) → is_calm b ≡ true → tag_end None (b ∷ found) ≡ further 1 (tag_end None found)
calm_step b found calm =
    let a = and_parts (not (b == 60)) (not (b == 62) && (not (b == 34) && not (b == 39))) calm in
    let c = and_parts (not (b == 62)) (not (b == 34) && not (b == 39)) a.1 in
    let d = and_parts (not (b == 34)) (not (b == 39)) c.1 in
    rw (not_true (b == 60) a.0, not_true (b == 62) c.0, not_true (b == 34) d.0, not_true (b == 39) d.1) refl

calm_scan : (bytes : List ℕ) → list_all is_calm bytes ≡ true → Scans None bytes None
calm_scan [] all rest = further_zero (tag_end None rest)
calm_scan (b ∷ bytes) all rest =
    let parts = and_parts (is_calm b) (list_all is_calm bytes) all in
    calm_step b (bytes ++ rest) parts.0 ∙ (ap (further 1) (calm_scan bytes parts.1 rest) ∙ further_one (length bytes) (tag_end None rest))

quoted_step : (q b : ℕ) (found : List ℕ) → (b == 60) ≡ false → (b == q) ≡ false → tag_end (Some q) (b ∷ found) ≡ further 1 (tag_end (Some q) found)
quoted_step q b found before apart = rw (before, and_right (b == 62) false refl, apart) refl

quoted_scan : (q : ℕ) (bytes : List ℕ) → list_all (λ b. not (b == 60)) bytes ≡ true → list_all (λ b. not (b == q)) bytes ≡ true → Scans (Some q) bytes (Some q)
quoted_scan q [] before apart rest = further_zero (tag_end (Some q) rest)
quoted_scan q (b ∷ bytes) before apart rest =
    let a = and_parts (not (b == 60)) (list_all (λ b. not (b == 60)) bytes) before in
    let c = and_parts (not (b == q)) (list_all (λ b. not (b == q)) bytes) apart in
    quoted_step q b (bytes ++ rest) (not_true (b == 60) a.0) (not_true (b == q) c.0) ∙ (ap (further 1) (quoted_scan q bytes a.1 c.1 rest) ∙ further_one (length bytes) (tag_end (Some q) rest))

abbrev IsQuote : ℕ → Type 0
IsQuote q = (q ≡ 34) ⊎ (q ≡ 39)

open_scan : (q : ℕ) → IsQuote q → Scans None (q ∷ []) (Some q)
open_scan q (inl e) rest = subst (λ (q : ℕ). tag_end None (q ∷ rest) ≡ further 1 (tag_end (Some q) rest)) (sym e) refl
open_scan q (inr e) rest = subst (λ (q : ℕ). tag_end None (q ∷ rest) ≡ further 1 (tag_end (Some q) rest)) (sym e) refl

close_scan : (q : ℕ) → IsQuote q → Scans (Some q) (q ∷ []) None
close_scan q (inl e) rest = subst (λ (q : ℕ). tag_end (Some q) (q ∷ rest) ≡ further 1 (tag_end None rest)) (sym e) refl
close_scan q (inr e) rest = subst (λ (q : ℕ). tag_end (Some q) (q ∷ rest) ≡ further 1 (tag_end None rest)) (sym e) refl

-- ---- content has no <

abbrev no_less : ℕ → Bool
no_less b = not (b == 60)

literal_no_less : (b : ℕ) → is_literal b ≡ true → no_less b ≡ true
literal_no_less b literal = grind (arith, nat_tests)

digit_no_less : (b : ℕ) → is_ascii_digit b ≡ true → no_less b ≡ true
digit_no_less b digit = grind (arith, nat_tests)

hexadecimal_no_less : (b : ℕ) → is_ascii_hexdigit b ≡ true → no_less b ≡ true
hexadecimal_no_less b digit = grind (arith, nat_tests)

body_no_less : (r : Reference) → IsReference r → list_all no_less (reference_body r) ≡ true
body_no_less ampersand is = refl
body_no_less less is = refl
body_no_less greater is = refl
body_no_less quotation is = refl
body_no_less apostrophe is = refl
body_no_less (decimal digits) is = all_in is_ascii_digit no_less digit_no_less digits is.each
body_no_less (hexadecimal digits) is = all_in is_ascii_hexdigit no_less hexadecimal_no_less digits is.each

pub content_no_less : (c : Content) → IsContent c → list_all no_less (content_text c) ≡ true
content_no_less (run bytes) is = all_both no_less bytes [] (all_in is_literal no_less literal_no_less bytes is.each) refl
content_no_less (then_reference bytes r c) is =
    all_both no_less bytes (38 ∷ (reference_body r ++ (59 ∷ content_text c))) (all_in is_literal no_less literal_no_less bytes is.0.each)
    (all_both no_less (reference_body r) (59 ∷ content_text c) (body_no_less r is.1) (content_no_less c is.2))

-- ---- tags

blank_calm : (b : ℕ) → is_blank b ≡ true → is_calm b ≡ true
blank_calm b blank = grind (arith, nat_tests)

name_calm : (b : ℕ) → is_name_byte b ≡ true → is_calm b ≡ true
name_calm b name = grind (arith, nat_tests)

blanks_scan : (bytes : List ℕ) → list_all is_blank bytes ≡ true → Scans None bytes None
blanks_scan bytes all = calm_scan bytes (all_in is_blank is_calm blank_calm bytes all)

name_scan : (name : List ℕ) → IsName name → Scans None name None
name_scan name is = calm_scan name (all_in is_name_byte is_calm name_calm name is.bytes)

value_scan : (q : ℕ) (value : Content) → IsQuote q → IsContent value → list_all (λ b. not (b == q)) (content_text value) ≡ true → Scans None (q ∷ content_then value (q ∷ [])) None
value_scan q value quote is apart =
    subst (λ bs. Scans None (q ∷ bs) None) (sym (content_append value (q ∷ [])))
    (scan_both None (q ∷ []) (Some q) (content_text value ++ q ∷ []) None (open_scan q quote)
    (scan_both (Some q) (content_text value) (Some q) (q ∷ []) None (quoted_scan q (content_text value) (content_no_less value is) apart) (close_scan q quote)))

attribute_scan : (a : Attribute) → IsAttribute a → Scans None (attribute_then a []) None
attribute_scan a is =
    let value = a.quote ∷ content_then a.value (a.quote ∷ []) in
    let equals = a.after_equals ++ value in
    scan_both None a.before None (a.name ++ (a.before_equals ++ 61 ∷ equals)) None (blanks_scan a.before is.blank_before)
    (scan_both None a.name None (a.before_equals ++ 61 ∷ equals) None (name_scan a.name is.named)
    (scan_both None a.before_equals None (61 ∷ equals) None (blanks_scan a.before_equals is.blank_before_equals)
    (scan_both None (61 ∷ []) None equals None (calm_scan (61 ∷ []) refl)
    (scan_both None a.after_equals None value None (blanks_scan a.after_equals is.blank_after_equals) (value_scan a.quote a.value is.quoted is.proper is.unquoted)))))

attribute_shift : (a b c d value rest : List ℕ) (q : ℕ) → a ++ (b ++ (c ++ (61 ∷ (d ++ (q ∷ (value ++ rest)))))) ≡ (a ++ (b ++ (c ++ (61 ∷ (d ++ (q ∷ value)))))) ++ rest
attribute_shift a b c d value rest q =
    sym (append_assoc a (b ++ (c ++ (61 ∷ (d ++ (q ∷ value))))) rest ∙ ap (λ x. a ++ x) (append_assoc b (c ++ (61 ∷ (d ++ (q ∷ value)))) rest ∙
    ap (λ x. b ++ x) (append_assoc c (61 ∷ (d ++ (q ∷ value))) rest ∙ ap (λ x. c ++ 61 ∷ x) (append_assoc d (q ∷ value) rest))))

-- the text of an attribute and then others
pub attribute_append : (a : Attribute) (rest : List ℕ) → attribute_then a rest ≡ attribute_then a [] ++ rest
attribute_append a rest =
    let whole = content_append a.value (a.quote ∷ rest) ∙ (sym (append_assoc (content_text a.value) (a.quote ∷ []) rest) ∙ ap (λ t. t ++ rest) (sym (content_append a.value (a.quote ∷ [])))) in
    ap (λ t. a.before ++ (a.name ++ (a.before_equals ++ (61 ∷ (a.after_equals ++ (a.quote ∷ t)))))) whole ∙
    attribute_shift a.before a.name a.before_equals a.after_equals (content_then a.value (a.quote ∷ [])) rest a.quote

attributes_scan : (attributes : List Attribute) (last : List ℕ) → AreAttributes attributes → Scans None last None → Scans None (attributes_then attributes last) None
attributes_scan [] last are scan = scan
attributes_scan (a ∷ attributes) last are scan =
    subst (λ bs. Scans None bs None) (sym (attribute_append a (attributes_then attributes last)))
    (scan_both None (attribute_then a []) None (attributes_then attributes last) None (attribute_scan a are.0) (attributes_scan attributes last are.1 scan))

tag_scan : (t : Tag) (slash : List ℕ) → IsTag t → list_all is_calm slash ≡ true → Scans None (tag_body t slash) None
tag_scan t slash is calm =
    scan_both None t.name None (attributes_then t.attributes (t.blanks ++ slash)) None (name_scan t.name is.named)
    (attributes_scan t.attributes (t.blanks ++ slash) is.proper (scan_both None t.blanks None slash None (blanks_scan t.blanks is.blank) (calm_scan slash calm)))

-- > ends it
scan_end : (body rest : List ℕ) → Scans None body None → tag_end None (body ++ 62 ∷ rest) ≡ Some (length body)
scan_end body rest scan = scan (62 ∷ rest) ∙ (let e : 0 + length body ≡ length body = omega arith in ap (λ (n : ℕ). Some n) e)

-- neither ! nor ? stands at the start
abbrev starts_tag : List ℕ → Bool
starts_tag [] = false
starts_tag (b ∷ bytes) = not (33 == b) && not (63 == b)

abbrev Cut : Type 0
Cut = Item × List ℕ

abbrev cut : Item → List ℕ → Cut
cut item rest = (item, rest)

markup_tag : (body rest : List ℕ) → starts_tag body ≡ true → Scans None body None → markup_at (body ++ 62 ∷ rest) ≡ cut (tag body) rest
unfolding markup_at
markup_tag [] rest begun scan = absurd cc
markup_tag (b ∷ body) rest begun scan =
    let parts = and_parts (not (33 == b)) (not (63 == b)) begun in
    rw (not_true (33 == b) parts.0, not_true (63 == b) parts.1) (tag_cut (b ∷ body) rest scan)
  where
    tag_cut : (body rest : List ℕ) → Scans None body None → tag_by (body ++ 62 ∷ rest) (tag_end None (body ++ 62 ∷ rest)) ≡ cut (tag body) rest
    tag_cut body rest scan =
        ap (tag_by (body ++ 62 ∷ rest)) (scan_end body rest scan) ∙ (ap (λ bs. tag_before bs (drop (length body) (body ++ 62 ∷ rest))) (take_at body (62 ∷ rest) (length body) refl) ∙
        ap (tag_before body) (drop_at body (62 ∷ rest) (length body) refl))

name_starts_tag : (name rest : List ℕ) → starts_name name ≡ true → starts_tag (name ++ rest) ≡ true
name_starts_tag [] rest begun = absurd cc
name_starts_tag (b ∷ name) rest begun = start_no_mark b begun
  where
    start_no_mark : (b : ℕ) → is_name_start b ≡ true → (not (33 == b) && not (63 == b)) ≡ true
    start_no_mark b name = grind (arith, nat_tests)

attributes_append : (attributes : List Attribute) (last rest : List ℕ) → attributes_then attributes (last ++ rest) ≡ attributes_then attributes last ++ rest
attributes_append [] last rest = refl
attributes_append (a ∷ attributes) last rest =
    ap (attribute_then a) (attributes_append attributes last rest) ∙ (attribute_append a (attributes_then attributes last ++ rest) ∙
    (sym (append_assoc (attribute_then a []) (attributes_then attributes last) rest) ∙ ap (λ t. t ++ rest) (sym (attribute_append a (attributes_then attributes last)))))

-- a tag, with a slash or without one, and >
pub tag_split : (t : Tag) (slash rest : List ℕ) → tag_then t (slash ++ 62 ∷ rest) ≡ 60 ∷ (tag_body t slash ++ 62 ∷ rest)
tag_split t slash rest =
    ap (λ bs. 60 ∷ (t.name ++ bs))
    (ap (attributes_then t.attributes) (sym (append_assoc t.blanks slash (62 ∷ rest))) ∙ attributes_append t.attributes (t.blanks ++ slash) (62 ∷ rest)) ∙
    ap (λ bs. 60 ∷ bs) (sym (append_assoc t.name (attributes_then t.attributes (t.blanks ++ slash)) (62 ∷ rest)))

pub tag_item : (t : Tag) (slash rest : List ℕ) → IsTag t → list_all is_calm slash ≡ true → item_at (tag_then t (slash ++ 62 ∷ rest)) ≡ cut (tag (tag_body t slash)) rest
unfolding item_at
tag_item t slash rest is calm =
    ap item_at (tag_split t slash rest) ∙ markup_tag (tag_body t slash) rest (name_starts_tag t.name (attributes_then t.attributes (t.blanks ++ slash)) is.named.begun) (tag_scan t slash is calm)

pub end_tag_item : (name blanks rest : List ℕ) → IsName name → list_all is_blank blanks ≡ true → item_at (end_tag_then name blanks rest) ≡ cut (tag (47 ∷ (name ++ blanks))) rest
unfolding item_at
end_tag_item name blanks rest is blank =
    ap (λ bs. item_at (60 ∷ 47 ∷ bs)) (sym (append_assoc name blanks (62 ∷ rest))) ∙
    markup_tag (47 ∷ (name ++ blanks)) rest refl
    (scan_both None (47 ∷ []) None (name ++ blanks) None (calm_scan (47 ∷ []) refl) (scan_both None name None blanks None (name_scan name is) (blanks_scan blanks blank)))
