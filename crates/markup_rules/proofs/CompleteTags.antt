-- What is written before something is read before it: content, attributes and tags.
use Rattle.std.proofs.Common.{◌≡◌, ℕ, ◌<◌, true, false, not, List, [], ◌∷◌, ◌++◌, length, map, Option, Some, None, refl, sym, ap, subst, ◌∙◌, append_assoc, append-nil, arith, ◌⊎◌, inl, inr}
use Rattle.std.specs.Prelude.{◌==◌, ◌||◌, encode_utf8, unwrap_or}
use Rattle.std.specs.List.{list_all}
use Rattle.std.proofs.lemmas.Bool.{and_parts, lt-ltb, eq-eqb, or_left, or_right}
use Rattle.std.proofs.lemmas.Bool.Decides.{nat_tests}
use Rattle.markup_rules.specs.Bytes.{is_literal, is_name_start, is_name_byte, starts_name, starts_blank}
use Rattle.markup_rules.specs.Syntax.{IsName, Reference, reference_body, character, IsReference, Content, run, then_reference, content_then, content_text, content_meaning, IsRun, IsContent, Attribute, attribute_then, attribute_meaning, IsAttribute, attributes_then, AreAttributes, Tag, tag_attributes, IsTag}
use Rattle.markup_rules.specs.Reading.{many, run_of, piece_at, content_of, blank_at, equals_at, quoted_at, value_at, label_at, attribute_at, attributes_at, is_nil, is_slash, is_tag_end, Opening, start, empty, finish, bad, opened, start_tag, end_tag, tag_markup, markup_of, tag}
use Rattle.markup_rules.proofs.Fuel.{many_next, many_by}
use Rattle.markup_rules.proofs.Shorter.{attribute_shortens}
use Rattle.markup_rules.proofs.Contents.{content_by, content_next, content_end}
use Rattle.markup_rules.proofs.CompleteNames.{index_again, before_index, after_index, name_again, reference_again}
use Rattle.basics.specs.Bytes.{is_blank, stops}
use Rattle.basics.specs.Optional.{◌>>=◌}
use Rattle.basics.proofs.Runs.{run_at_again, after_run_again}

-- ---- content

literal_no_reference : (b : ℕ) → is_literal b ≡ true → (b == 38) ≡ false
literal_no_reference b literal = grind (arith, nat_tests)

run_whole : (bytes rest : List ℕ) → 0 < length bytes → IsRun bytes → stops is_literal rest ≡ true → run_of (bytes ++ rest) ≡ Some (bytes, rest)
unfolding run_of
run_whole bytes rest some is stop =
    rw (run_at_again is_literal bytes rest is.each stop, after_run_again is_literal bytes rest is.each stop, is.utf8, lt-ltb 0 (length bytes) some) refl

run_piece : (b : ℕ) (bytes rest : List ℕ) → IsRun (b ∷ bytes) → stops is_literal rest ≡ true → piece_at (b ∷ (bytes ++ rest)) ≡ Some (b ∷ bytes, rest)
unfolding piece_at
run_piece b bytes rest is stop =
    rw (literal_no_reference b (and_parts (is_literal b) (list_all is_literal bytes) is.each).0) (run_whole (b ∷ bytes) rest (omega arith) is stop)

abbrev joined : List ℕ → Option (List ℕ) → Option (List ℕ)
joined prefix text = text >>= λ t. Some (prefix ++ t)

joined_nil : (text : Option (List ℕ)) → text ≡ joined [] text
joined_nil (Some text) = refl
joined_nil None = refl

content_run : (bytes rest : List ℕ) → IsRun bytes → stops is_literal rest ≡ true → content_of (bytes ++ rest) ≡ joined bytes (content_of rest)
content_run [] rest is stop = joined_nil (content_of rest)
content_run (b ∷ bytes) rest is stop = content_next b (bytes ++ rest) ∙ ap content_by (run_piece b bytes rest is stop)

reference_piece : (r : Reference) (rest : List ℕ) → IsReference r → piece_at (38 ∷ (reference_body r ++ 59 ∷ rest)) ≡ Some (encode_utf8 (character r), rest)
unfolding piece_at
reference_piece r rest is = reference_again r rest is

content_reference : (r : Reference) (rest : List ℕ) → IsReference r → content_of (38 ∷ (reference_body r ++ 59 ∷ rest)) ≡ joined (encode_utf8 (character r)) (content_of rest)
content_reference r rest is = content_next 38 (reference_body r ++ 59 ∷ rest) ∙ ap content_by (reference_piece r rest is)

pub content_again : (c : Content) → IsContent c → content_of (content_text c) ≡ Some (content_meaning c)
content_again (run bytes) is = content_run bytes [] is refl ∙ (ap (joined bytes) content_end ∙ ap (λ t. Some t) (append-nil bytes))
content_again (then_reference bytes r c) is =
    content_run bytes (38 ∷ (reference_body r ++ 59 ∷ content_text c)) is.0 refl ∙
    ap (joined bytes) (content_reference r (content_text c) is.1 ∙ ap (joined (encode_utf8 (character r))) (content_again c is.2))

content_shift : (a b t rest : List ℕ) → a ++ (38 ∷ (b ++ (59 ∷ (t ++ rest)))) ≡ (a ++ (38 ∷ (b ++ (59 ∷ t)))) ++ rest
content_shift a b t rest = sym (append_assoc a (38 ∷ (b ++ 59 ∷ t)) rest ∙ ap (λ x. a ++ 38 ∷ x) (append_assoc b (59 ∷ t) rest))

-- the text of content and then others
pub content_append : (c : Content) (rest : List ℕ) → content_then c rest ≡ content_text c ++ rest
content_append (run bytes) rest = ap (λ bs. bs ++ rest) (sym (append-nil bytes))
content_append (then_reference bytes r c) rest =
    ap (λ t. bytes ++ (38 ∷ (reference_body r ++ (59 ∷ t)))) (content_append c rest) ∙ content_shift bytes (reference_body r) (content_text c) rest

-- ---- attributes

blank_no_name : (b : ℕ) → is_blank b ≡ true → not (is_name_byte b) ≡ true
blank_no_name b blank = grind (arith, nat_tests)

name_no_blank : (b : ℕ) → is_name_start b ≡ true → not (is_blank b) ≡ true
name_no_blank b name = grind (arith, nat_tests)

pub name_no_slash : (b : ℕ) → is_name_start b ≡ true → (b == 47) ≡ false
name_no_slash b name = grind (arith, nat_tests)

pub blanks_stop_name : (blanks rest : List ℕ) → list_all is_blank blanks ≡ true → stops is_name_byte rest ≡ true → stops is_name_byte (blanks ++ rest) ≡ true
blanks_stop_name [] rest blank stop = stop
blanks_stop_name (b ∷ blanks) rest blank stop = blank_no_name b (and_parts (is_blank b) (list_all is_blank blanks) blank).0

pub name_stops_blanks : (name rest : List ℕ) → starts_name name ≡ true → stops is_blank (name ++ rest) ≡ true
name_stops_blanks [] rest begun = absurd cc
name_stops_blanks (b ∷ name) rest begun = name_no_blank b begun

blank_before : (blanks rest : List ℕ) → starts_blank blanks ≡ true → starts_blank (blanks ++ rest) ≡ true
blank_before [] rest begun = absurd cc
blank_before (b ∷ blanks) rest begun = begun

blank_again : (blanks rest : List ℕ) → starts_blank blanks ≡ true → list_all is_blank blanks ≡ true → stops is_blank rest ≡ true → blank_at (blanks ++ rest) ≡ Some rest
unfolding blank_at
blank_again blanks rest begun blank stop = rw (blank_before blanks rest begun, after_run_again is_blank blanks rest blank stop) refl

abbrev IsQuote : ℕ → Type 0
IsQuote q = (q ≡ 34) ⊎ (q ≡ 39)

is_quote : (q : ℕ) → IsQuote q → ((q == 34) || (q == 39)) ≡ true
is_quote q (inl e) = or_left (q == 34) (q == 39) (eq-eqb q 34 e)
is_quote q (inr e) = or_right (q == 34) (q == 39) (eq-eqb q 39 e)

quote_no_blank : (q : ℕ) → IsQuote q → not (is_blank q) ≡ true
quote_no_blank q (inl e) = ap (λ b. not (is_blank b)) e
quote_no_blank q (inr e) = ap (λ b. not (is_blank b)) e

pub quoted_again : (q : ℕ) (bytes rest : List ℕ) → IsQuote q → list_all (λ b. not (b == q)) bytes ≡ true → quoted_at (q ∷ (bytes ++ q ∷ rest)) ≡ Some (bytes, rest)
unfolding quoted_at
quoted_again q bytes rest quote apart = rw (is_quote q quote, index_again q bytes rest apart, before_index bytes rest q, after_index bytes rest q) refl

value_again : (q : ℕ) (value : Content) (rest : List ℕ) → IsQuote q → IsContent value → list_all (λ b. not (b == q)) (content_text value) ≡ true → value_at (q ∷ content_then value (q ∷ rest)) ≡ Some (content_meaning value, rest)
unfolding value_at
value_again q value rest quote is apart =
    rw (content_append value (q ∷ rest), quoted_again q (content_text value) rest quote apart, content_again value is) refl

-- after the name
abbrev label_rest : Attribute → List ℕ → List ℕ
label_rest a rest = 61 ∷ (a.after_equals ++ (a.quote ∷ content_then a.value (a.quote ∷ rest)))

label_again : (a : Attribute) (rest : List ℕ) → IsAttribute a → label_at (attribute_then a rest) ≡ Some (a.name, a.quote ∷ content_then a.value (a.quote ∷ rest))
unfolding label_at equals_at
label_again a rest is =
    let after = a.before_equals ++ label_rest a rest in
    let name = name_again a.name after is.named (blanks_stop_name a.before_equals (label_rest a rest) is.blank_before_equals refl) in
    rw (
      blank_again a.before (a.name ++ after) is.apart is.blank_before (name_stops_blanks a.name after is.named.begun),
      name,
      after_run_again is_blank a.before_equals (label_rest a rest) is.blank_before_equals refl,
      after_run_again is_blank a.after_equals (a.quote ∷ content_then a.value (a.quote ∷ rest)) is.blank_after_equals (quote_no_blank a.quote is.quoted),
    ) refl

pub attribute_again : (a : Attribute) (rest : List ℕ) → IsAttribute a → attribute_at (attribute_then a rest) ≡ Some (attribute_meaning a, rest)
unfolding attribute_at
attribute_again a rest is = rw (label_again a rest is, value_again a.quote a.value rest is.quoted is.proper is.unquoted) refl

-- nothing, or a slash alone
pub record IsEnd (slash : List ℕ) : Type 0 where
  pub right : (is_nil slash || is_slash slash) ≡ true
  pub no_blank : stops is_blank slash ≡ true
  pub no_name : stops is_name_byte slash ≡ true

end_again : (blanks slash : List ℕ) → list_all is_blank blanks ≡ true → IsEnd slash → is_tag_end (blanks ++ slash) ≡ true
end_again blanks slash blank end = rw (after_run_again is_blank blanks slash blank end.no_blank) end.right

name_no_end : (name rest : List ℕ) → starts_name name ≡ true → (is_nil (name ++ rest) || is_slash (name ++ rest)) ≡ false
name_no_end [] rest begun = absurd cc
name_no_end (b ∷ name) rest begun = rw (name_no_slash b begun) refl

no_end_again : (a : Attribute) (rest : List ℕ) → IsAttribute a → is_tag_end (attribute_then a rest) ≡ false
no_end_again a rest is =
    let after = a.before_equals ++ label_rest a rest in
    rw (after_run_again is_blank a.before (a.name ++ after) is.blank_before (name_stops_blanks a.name after is.named.begun)) (name_no_end a.name after is.named.begun)

attributes_again : (attributes : List Attribute) (blanks slash : List ℕ) → AreAttributes attributes → list_all is_blank blanks ≡ true → IsEnd slash
    → many is_tag_end attribute_at (attributes_then attributes (blanks ++ slash)) ≡ Some (map attribute_meaning attributes, blanks ++ slash)
attributes_again [] blanks slash are blank end =
    many_next is_tag_end attribute_at attribute_shortens (blanks ++ slash) ∙ ap (many_by is_tag_end attribute_at (blanks ++ slash)) (end_again blanks slash blank end)
attributes_again (a ∷ attributes) blanks slash are blank end =
    let rest = attributes_then attributes (blanks ++ slash) in
    many_next is_tag_end attribute_at attribute_shortens (attribute_then a rest) ∙
    (ap (many_by is_tag_end attribute_at (attribute_then a rest)) (no_end_again a rest are.0) ∙
    rw (attribute_again a rest are.0, attributes_again attributes blanks slash are.1 blank end) refl)

-- ---- tags

-- what stands in a tag between < and >
abbrev pub tag_body : Tag → List ℕ → List ℕ
tag_body t slash = t.name ++ attributes_then t.attributes (t.blanks ++ slash)

abbrev pub opening_of : Tag → Opening
opening_of t = record { name = t.name; attributes = tag_attributes t }

attributes_stop : (attributes : List Attribute) (blanks slash : List ℕ) → AreAttributes attributes → list_all is_blank blanks ≡ true → IsEnd slash → stops is_name_byte (attributes_then attributes (blanks ++ slash)) ≡ true
attributes_stop [] blanks slash are blank end = blanks_stop_name blanks slash blank end.no_name
attributes_stop (a ∷ attributes) blanks slash are blank end = before_stops a.before (a.name ++ (a.before_equals ++ label_rest a (attributes_then attributes (blanks ++ slash)))) are.0.apart
  where
    before_stops : (before rest : List ℕ) → starts_blank before ≡ true → stops is_name_byte (before ++ rest) ≡ true
    before_stops [] rest begun = absurd cc
    before_stops (b ∷ before) rest begun = blank_no_name b begun

start_again : (t : Tag) (slash : List ℕ) → IsTag t → IsEnd slash → start_tag (tag_body t slash) ≡ Some (opened (opening_of t) (t.blanks ++ slash))
unfolding start_tag attributes_at
start_again t slash is end =
    let after = attributes_then t.attributes (t.blanks ++ slash) in
    rw (name_again t.name after is.named (attributes_stop t.attributes t.blanks slash is.proper is.blank end), attributes_again t.attributes t.blanks slash is.proper is.blank end) refl

no_slash_tag : (name rest : List ℕ) → starts_name name ≡ true → tag_markup (name ++ rest) ≡ start_tag (name ++ rest)
unfolding tag_markup
no_slash_tag [] rest begun = absurd cc
no_slash_tag (b ∷ name) rest begun = rw (name_no_slash b begun) refl

opened_again : (t : Tag) (slash : List ℕ) → IsTag t → IsEnd slash → markup_of (tag (tag_body t slash)) ≡ opened (opening_of t) (t.blanks ++ slash)
unfolding markup_of
opened_again t slash is end =
    let after = attributes_then t.attributes (t.blanks ++ slash) in
    ap (λ o. unwrap_or o bad) (no_slash_tag t.name after is.named.begun ∙ start_again t slash is end)

no_slash : IsEnd []
no_slash = record { right = refl; no_blank = refl; no_name = refl }

one_slash : IsEnd (47 ∷ [])
one_slash = record { right = refl; no_blank = refl; no_name = refl }

pub start_markup : (t : Tag) → IsTag t → markup_of (tag (tag_body t [])) ≡ start (opening_of t)
start_markup t is = opened_again t [] is no_slash ∙ rw (after_run_again is_blank t.blanks [] is.blank refl) refl

pub empty_markup : (t : Tag) → IsTag t → markup_of (tag (tag_body t (47 ∷ []))) ≡ empty (opening_of t)
empty_markup t is = opened_again t (47 ∷ []) is one_slash ∙ rw (after_run_again is_blank t.blanks (47 ∷ []) is.blank refl) refl

pub finish_markup : (name blanks : List ℕ) → IsName name → list_all is_blank blanks ≡ true → markup_of (tag (47 ∷ (name ++ blanks))) ≡ finish name
unfolding markup_of tag_markup end_tag
finish_markup name blanks is blank =
    let stop = subst (λ bs. stops is_name_byte bs ≡ true) (append-nil blanks) (blanks_stop_name blanks [] blank refl) in
    rw (name_again name blanks is stop, blank) refl
