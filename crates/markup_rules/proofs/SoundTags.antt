-- What is read before something is written so: attributes and tags.
use Rattle.std.proofs.Common.{◌≡◌, ℕ, zero, suc, ◌+◌, ◌<◌, ◌≤◌, Bool, true, false, cond, not, List, [], ◌∷◌, ◌++◌, length, take, drop, map, Option, Some, None, refl, sym, ap, subst, ◌∙◌, arith, ◌⊎◌, inl, inr}
use Rattle.std.specs.Prelude.{◌==◌, ◌||◌, codes}
use Rattle.std.specs.List.{list_all}
use Rattle.std.proofs.lemmas.Bool.{eqb-true, or_cases}
use Rattle.std.proofs.lemmas.Option.{cond_some, some_pair_parts}
use Rattle.std.proofs.lemmas.Slice.Eq.{bytes_eq-Decides}
use Rattle.markup_rules.specs.Bytes.{starts_blank}
use Rattle.markup_rules.specs.Syntax.{IsName, Attribute, attribute_then, attribute_meaning, IsAttribute, attributes_then, AreAttributes, firsts, Tag, IsTag}
use Rattle.markup_rules.specs.Reading.{with_first, many, name_at, content_of, blank_at, equals_at, quoted_at, value_at, label_at, attribute_at, attributes_at, is_nil, is_slash, is_tag_end, Markup, start, empty, finish, opened, start_tag, end_tag, tag_markup}
use Rattle.markup_rules.proofs.Fuel.{many_next, many_by}
use Rattle.markup_rules.proofs.Shorter.{attribute_shortens}
use Rattle.markup_rules.proofs.Attributes.{attribute_shorter}
use Rattle.markup_rules.proofs.CompleteTags.{content_append, tag_body, opening_of}
use Rattle.markup_rules.proofs.SoundContent.{index_takes, name_takes, TakesContent, content_takes}
use Rattle.basics.specs.Bytes.{is_blank, run_at, after_run, index_of}
use Rattle.basics.specs.Optional.{◌>>=◌}
use Rattle.basics.proofs.Optional.{bind_some, same_some}
use Rattle.basics.proofs.Runs.{run_whole, run_all}

-- ---- attributes

record TakesBlank (bytes rest : List ℕ) : Type 0 where
  blanks : List ℕ
  apart : starts_blank blanks ≡ true
  blank : list_all is_blank blanks ≡ true
  spelled : bytes ≡ blanks ++ rest

blank_starts : (bytes : List ℕ) → starts_blank bytes ≡ true → starts_blank (run_at is_blank bytes) ≡ true
blank_starts [] e = absurd cc
blank_starts (b ∷ bytes) e = rw e e

blank_takes : (bytes rest : List ℕ) → blank_at bytes ≡ Some rest → TakesBlank bytes rest
unfolding blank_at
blank_takes bytes rest found =
    let test = cond_some (starts_blank bytes) (after_run is_blank bytes) rest found in
    record {
      blanks = run_at is_blank bytes;
      apart = blank_starts bytes test.0;
      blank = run_all is_blank bytes;
      spelled = run_whole is_blank bytes ∙ ap (λ bs. run_at is_blank bytes ++ bs) test.1;
    }

equals_cases : (b : ℕ) (bytes rest : List ℕ) (is : Bool) → (b == 61) ≡ is → cond is (Some bytes) None ≡ Some rest → b ∷ bytes ≡ 61 ∷ rest
equals_cases b bytes rest true e found = ap (λ c. c ∷ bytes) (eqb-true b 61 e) ∙ ap (λ bs. 61 ∷ bs) (same_some bytes rest found)
equals_cases b bytes rest false e found = absurd cc

equals_takes : (bytes rest : List ℕ) → equals_at bytes ≡ Some rest → bytes ≡ 61 ∷ rest
unfolding equals_at
equals_takes [] rest found = absurd cc
equals_takes (b ∷ bytes) rest found = equals_cases b bytes rest (b == 61) refl found

abbrev IsQuote : ℕ → Type 0
IsQuote q = (q ≡ 34) ⊎ (q ≡ 39)

record TakesQuoted (bytes value rest : List ℕ) : Type 0 where
  quote : ℕ
  is : IsQuote quote
  apart : list_all (λ b. not (b == quote)) value ≡ true
  spelled : bytes ≡ quote ∷ (value ++ quote ∷ rest)

quote_is : (b : ℕ) → ((b == 34) || (b == 39)) ≡ true → IsQuote b
quote_is b e = elim (or_cases (b == 34) (b == 39) e) [ inl p ↦ inl (eqb-true b 34 p) | inr p ↦ inr (eqb-true b 39 p) ]

abbrev between : List ℕ → ℕ → Option (List ℕ × List ℕ)
between bytes end = Some (take end bytes, drop (end + 1) bytes)

quoted_cases : (b : ℕ) (bytes value rest : List ℕ) (is : Bool) → ((b == 34) || (b == 39)) ≡ is → cond is (index_of b bytes >>= between bytes) None ≡ Some (value, rest) → TakesQuoted (b ∷ bytes) value rest
quoted_cases b bytes value rest true e found =
    let end = bind_some (index_of b bytes) (between bytes) (value, rest) found in
    let parts = some_pair_parts (take end.0 bytes) value (drop (end.0 + 1) bytes) rest end.2 in
    let taken = index_takes b bytes end.0 end.1 in
    record {
      quote = b;
      is = quote_is b e;
      apart = subst (λ bs. list_all (λ c. not (c == b)) bs ≡ true) parts.0 taken.apart;
      spelled = ap (λ bs. b ∷ bs) (taken.spelled ∙ (ap (λ bs. bs ++ b ∷ drop (end.0 + 1) bytes) parts.0 ∙ ap (λ bs. value ++ b ∷ bs) parts.1));
    }
quoted_cases b bytes value rest false e found = absurd cc

quoted_takes : (bytes value rest : List ℕ) → quoted_at bytes ≡ Some (value, rest) → TakesQuoted bytes value rest
unfolding quoted_at
quoted_takes [] value rest found = absurd cc
quoted_takes (b ∷ bytes) value rest found = quoted_cases b bytes value rest ((b == 34) || (b == 39)) refl found

record TakesValue (bytes text rest : List ℕ) : Type 0 where
  quote : ℕ
  value : List ℕ
  is : IsQuote quote
  content : TakesContent value text
  apart : list_all (λ b. not (b == quote)) value ≡ true
  spelled : bytes ≡ quote ∷ (value ++ quote ∷ rest)

value_takes : (bytes text rest : List ℕ) → value_at bytes ≡ Some (text, rest) → TakesValue bytes text rest
unfolding value_at
value_takes bytes text rest found =
    let value = bind_some (quoted_at bytes) (λ value. content_of value.0 >>= λ text. Some (text, value.1)) (text, rest) found in
    let content = bind_some (content_of value.0.0) (λ text. Some (text, value.0.1)) (text, rest) value.2 in
    let parts = some_pair_parts content.0 text value.0.1 rest content.2 in
    let quoted = quoted_takes bytes value.0.0 value.0.1 value.1 in
    record {
      quote = quoted.quote;
      value = value.0.0;
      is = quoted.is;
      content = subst (TakesContent value.0.0) parts.0 (content_takes value.0.0 content.0 content.1);
      apart = quoted.apart;
      spelled = quoted.spelled ∙ ap (λ bs. quoted.quote ∷ (value.0.0 ++ quoted.quote ∷ bs)) parts.1;
    }

record TakesLabel (bytes name rest : List ℕ) : Type 0 where
  before : List ℕ
  before_equals : List ℕ
  after_equals : List ℕ
  apart : starts_blank before ≡ true
  blank : list_all is_blank before ≡ true
  named : IsName name
  blank_before : list_all is_blank before_equals ≡ true
  blank_after : list_all is_blank after_equals ≡ true
  spelled : bytes ≡ before ++ (name ++ (before_equals ++ (61 ∷ (after_equals ++ rest))))

label_parts : (bytes before r1 name r2 b1 r3 r4 b2 r5 : List ℕ) → bytes ≡ before ++ r1 → r1 ≡ name ++ r2 → r2 ≡ b1 ++ r3 → r3 ≡ 61 ∷ r4 → r4 ≡ b2 ++ r5 → bytes ≡ before ++ (name ++ (b1 ++ (61 ∷ (b2 ++ r5))))
label_parts bytes before r1 name r2 b1 r3 r4 b2 r5 p q r s t = cc

label_takes : (bytes name rest : List ℕ) → label_at bytes ≡ Some (name, rest) → TakesLabel bytes name rest
unfolding label_at
label_takes bytes name rest found =
    let blank = bind_some (blank_at bytes) (λ rest. name_at rest >>= λ name. equals_at (after_run is_blank name.1) >>= λ rest. Some (name.0, after_run is_blank rest)) (name, rest) found in
    let named = bind_some (name_at blank.0) (λ name. equals_at (after_run is_blank name.1) >>= λ rest. Some (name.0, after_run is_blank rest)) (name, rest) blank.2 in
    let equals = bind_some (equals_at (after_run is_blank named.0.1)) (λ rest. Some (named.0.0, after_run is_blank rest)) (name, rest) named.2 in
    let parts = some_pair_parts named.0.0 name (after_run is_blank equals.0) rest equals.2 in
    let prefix = blank_takes bytes blank.0 blank.1 in
    let label = name_takes blank.0 named.0.0 named.0.1 named.1 in
    record {
      before = prefix.blanks;
      before_equals = run_at is_blank named.0.1;
      after_equals = run_at is_blank equals.0;
      apart = prefix.apart;
      blank = prefix.blank;
      named = subst IsName parts.0 label.is;
      blank_before = run_all is_blank named.0.1;
      blank_after = run_all is_blank equals.0;
      spelled =
          label_parts bytes prefix.blanks blank.0 name named.0.1 (run_at is_blank named.0.1) (after_run is_blank named.0.1) equals.0 (run_at is_blank equals.0) rest
          prefix.spelled (label.spelled ∙ ap (λ n. n ++ named.0.1) parts.0) (run_whole is_blank named.0.1) (equals_takes (after_run is_blank named.0.1) equals.0 equals.1) (run_whole is_blank equals.0 ∙ ap (λ bs. run_at is_blank equals.0 ++ bs) parts.1);
    }

pub record TakesAttribute (bytes : List ℕ) (means : List ℕ × List ℕ) (rest : List ℕ) : Type 0 where
  pub attribute : Attribute
  pub is : IsAttribute attribute
  pub same : attribute_meaning attribute ≡ means
  pub spelled : bytes ≡ attribute_then attribute rest

attribute_found : (bytes name text after rest : List ℕ) → TakesLabel bytes name after → TakesValue after text rest → TakesAttribute bytes (name, text) rest
attribute_found bytes name text after rest label value = record {
  attribute = record { before = label.before; name = name; before_equals = label.before_equals; after_equals = label.after_equals; quote = value.quote; value = value.content.content };
  is = record {
    apart = label.apart;
    blank_before = label.blank;
    named = label.named;
    blank_before_equals = label.blank_before;
    blank_after_equals = label.blank_after;
    quoted = value.is;
    proper = value.content.is;
    unquoted = subst (λ bs. list_all (λ b. not (b == value.quote)) bs ≡ true) value.content.spelled value.apart;
  };
  same = ap (λ t. (name, t)) value.content.means;
  spelled =
      let quoted = value.spelled ∙ ap (λ bs. value.quote ∷ bs) (ap (λ bs. bs ++ value.quote ∷ rest) value.content.spelled ∙ sym (content_append value.content.content (value.quote ∷ rest))) in
      label.spelled ∙ ap (λ bs. label.before ++ (name ++ (label.before_equals ++ (61 ∷ (label.after_equals ++ bs))))) quoted;
}

abbrev Named : Type 0
Named = List ℕ × List ℕ

pub attribute_takes : (bytes : List ℕ) (means : Named) (rest : List ℕ) → attribute_at bytes ≡ Some (means, rest) → TakesAttribute bytes means rest
unfolding attribute_at
attribute_takes bytes means rest found =
    let label = bind_some (label_at bytes) (λ label. value_at label.1 >>= λ value. Some ((label.0, value.0), value.1)) (means, rest) found in
    let value = bind_some (value_at label.0.1) (λ value. Some ((label.0.0, value.0), value.1)) (means, rest) label.2 in
    let pair : Named = (label.0.0, value.0.0) in
    let parts = some_pair_parts pair means value.0.1 rest value.2 in
    let taken = attribute_found bytes label.0.0 value.0.0 label.0.1 value.0.1 (label_takes bytes label.0.0 label.0.1 label.1) (value_takes label.0.1 value.0.0 value.0.1 value.1) in
    subst (λ (m : Named). TakesAttribute bytes m rest) parts.0 (subst (TakesAttribute bytes pair) parts.1 taken)

record TakesAttributes (bytes : List ℕ) (means : List Named) (rest : List ℕ) : Type 0 where
  attributes : List Attribute
  are : AreAttributes attributes
  same : map attribute_meaning attributes ≡ means
  ended : is_tag_end rest ≡ true
  spelled : bytes ≡ attributes_then attributes rest

abbrev Found : Type 0
Found = Option (List Named × List ℕ)

first_of : (m : Named) (found : Found) (means : List Named) (rest : List ℕ) → with_first m found ≡ Some (means, rest) → (later : List Named × List ℕ) × (found ≡ Some later) × (m ∷ later.0 ≡ means) × (later.1 ≡ rest)
first_of m (Some later) means rest e = let parts = some_pair_parts (m ∷ later.0) means later.1 rest e in (later, refl, parts.0, parts.1)
first_of m None means rest e = absurd cc

with_attribute : (bytes : List ℕ) (m : Named) (after : List ℕ) (means : List Named) (rest : List ℕ) → TakesAttribute bytes m after → TakesAttributes after means rest → TakesAttributes bytes (m ∷ means) rest
with_attribute bytes m after means rest first later = record {
  attributes = first.attribute ∷ later.attributes;
  are = (first.is, later.are);
  same = ap (λ n. n ∷ map attribute_meaning later.attributes) first.same ∙ ap (λ ms. m ∷ ms) later.same;
  ended = later.ended;
  spelled = first.spelled ∙ ap (attribute_then first.attribute) later.spelled;
}

attributes_cases : (n : ℕ) (bytes : List ℕ) (means : List Named) (rest : List ℕ) (end : Bool) → is_tag_end bytes ≡ end → length bytes ≤ n
    → ((after : List ℕ) (ms : List Named) → length after < length bytes → many is_tag_end attribute_at after ≡ Some (ms, rest) → TakesAttributes after ms rest)
    → many_by is_tag_end attribute_at bytes end ≡ Some (means, rest) → TakesAttributes bytes means rest
attributes_cases n bytes means rest true e few rec found =
    let none : List Named = [] in
    let parts = some_pair_parts none means bytes rest found in
    record { attributes = []; are = tt; same = parts.0; ended = ap is_tag_end (sym parts.1) ∙ e; spelled = parts.1 }
attributes_cases n bytes means rest false e few rec found =
    let first = bind_some (attribute_at bytes) (λ x. with_first x.0 (many is_tag_end attribute_at x.1)) (means, rest) found in
    let later = first_of first.0.0 (many is_tag_end attribute_at first.0.1) means rest first.2 in
    let shorter = attribute_shorter bytes first.0.0 first.0.1 first.1 in
    let whole : many is_tag_end attribute_at first.0.1 ≡ Some (later.0.0, rest) = later.1 ∙ ap (λ r. pair_found later.0.0 r) later.3 in
    subst (λ (ms : List Named). TakesAttributes bytes ms rest) later.2
    (with_attribute bytes first.0.0 first.0.1 later.0.0 rest (attribute_takes bytes first.0.0 first.0.1 first.1) (rec first.0.1 later.0.0 shorter whole))
  where
    pair_found : List Named → List ℕ → Found
    pair_found ms r = Some (ms, r)

attributes_to : (n : ℕ) (bytes : List ℕ) (means : List Named) (rest : List ℕ) → length bytes < n → many is_tag_end attribute_at bytes ≡ Some (means, rest) → TakesAttributes bytes means rest
attributes_to zero bytes means rest few found = absurd (omega arith)
attributes_to (suc n) bytes means rest few found =
    attributes_cases n bytes means rest (is_tag_end bytes) refl (omega arith) (λ after ms less later. attributes_to n after ms rest (omega arith) later)
    (sym (many_next is_tag_end attribute_at attribute_shortens bytes) ∙ found)

-- ---- tags

-- the bytes after the attributes: blanks, and then nothing or a slash
record TakesEnd (rest : List ℕ) : Type 0 where
  blanks : List ℕ
  slash : List ℕ
  blank : list_all is_blank blanks ≡ true
  spelled : rest ≡ blanks ++ slash
  after : after_run is_blank rest ≡ slash
  is : (slash ≡ []) ⊎ (slash ≡ 47 ∷ [])

nil_is : (bytes : List ℕ) → is_nil bytes ≡ true → bytes ≡ []
nil_is [] e = refl
nil_is (b ∷ bytes) e = absurd cc

end_is : (bytes : List ℕ) → (is_nil bytes || is_slash bytes) ≡ true → (bytes ≡ []) ⊎ (bytes ≡ 47 ∷ [])
end_is bytes e = elim (or_cases (is_nil bytes) (is_slash bytes) e) [ inl p ↦ inl (nil_is bytes p) | inr p ↦ inr ((bytes_eq-Decides bytes (codes "/")).0 p) ]

end_takes : (rest : List ℕ) → is_tag_end rest ≡ true → TakesEnd rest
end_takes rest e = record {
  blanks = run_at is_blank rest;
  slash = after_run is_blank rest;
  blank = run_all is_blank rest;
  spelled = run_whole is_blank rest;
  after = refl;
  is = end_is (after_run is_blank rest) e;
}

-- a tag of which the slash says what it is
pub record TakesTag (body : List ℕ) (m : Markup) : Type 0 where
  pub tag : Tag
  pub is : IsTag tag
  pub form : ((m ≡ start (opening_of tag)) × (body ≡ tag_body tag [])) ⊎ ((m ≡ empty (opening_of tag)) × (body ≡ tag_body tag (47 ∷ [])))

tag_form : (body name rest : List ℕ) (attributes : List Attribute) (blanks slash : List ℕ) → body ≡ name ++ attributes_then attributes rest → rest ≡ blanks ++ slash → body ≡ name ++ attributes_then attributes (blanks ++ slash)
tag_form body name rest attributes blanks slash p q = p ∙ ap (λ bs. name ++ attributes_then attributes bs) q

tag_found : (body name rest : List ℕ) (attributes : List Attribute) (m : Markup) → IsName name → AreAttributes attributes → body ≡ name ++ attributes_then attributes rest → (end : TakesEnd rest)
    → opened (record { name = name; attributes = firsts [] (map attribute_meaning attributes) }) rest ≡ m → (end.slash ≡ []) ⊎ (end.slash ≡ 47 ∷ []) → TakesTag body m
tag_found body name rest attributes m is are spelled end e (inl p) = record {
  tag = record { name = name; attributes = attributes; blanks = end.blanks };
  is = record { named = is; proper = are; blank = end.blank };
  form = inl (sym e ∙ ap (λ bs. which bs) (end.after ∙ p), tag_form body name rest attributes end.blanks end.slash spelled end.spelled ∙ ap (λ s. name ++ attributes_then attributes (end.blanks ++ s)) p);
}
  where
    which : List ℕ → Markup
    which bs = cond (is_nil bs) (start (record { name = name; attributes = firsts [] (map attribute_meaning attributes) })) (empty (record { name = name; attributes = firsts [] (map attribute_meaning attributes) }))
tag_found body name rest attributes m is are spelled end e (inr p) = record {
  tag = record { name = name; attributes = attributes; blanks = end.blanks };
  is = record { named = is; proper = are; blank = end.blank };
  form = inr (sym e ∙ ap (λ bs. which bs) (end.after ∙ p), tag_form body name rest attributes end.blanks end.slash spelled end.spelled ∙ ap (λ s. name ++ attributes_then attributes (end.blanks ++ s)) p);
}
  where
    which : List ℕ → Markup
    which bs = cond (is_nil bs) (start (record { name = name; attributes = firsts [] (map attribute_meaning attributes) })) (empty (record { name = name; attributes = firsts [] (map attribute_meaning attributes) }))

start_takes : (body : List ℕ) (m : Markup) → start_tag body ≡ Some m → TakesTag body m
unfolding start_tag attributes_at
start_takes body m found =
    let named = bind_some (name_at body) (λ name. (many is_tag_end attribute_at name.1 >>= λ all. Some (firsts [] all.0, all.1)) >>= λ attributes. Some (opened (record { name = name.0; attributes = attributes.0 }) attributes.1)) m found in
    let kept = bind_some (many is_tag_end attribute_at named.0.1 >>= λ all. Some (firsts [] all.0, all.1)) (λ attributes. Some (opened (record { name = named.0.0; attributes = attributes.0 }) attributes.1)) m named.2 in
    let all = bind_some (many is_tag_end attribute_at named.0.1) (λ all. Some (firsts [] all.0, all.1)) kept.0 kept.1 in
    let name = name_takes body named.0.0 named.0.1 named.1 in
    let attributes = attributes_to (suc (length named.0.1)) named.0.1 all.0.0 all.0.1 (omega arith) all.1 in
    let end = end_takes all.0.1 attributes.ended in
    let kept_is : (firsts [] (map attribute_meaning attributes.attributes) ≡ kept.0.0) × (all.0.1 ≡ kept.0.1) =
    (let parts = some_pair_parts (firsts [] all.0.0) kept.0.0 all.0.1 kept.0.1 all.2 in (ap (firsts []) attributes.same ∙ parts.0, parts.1)) in
    let whole = ap (λ kept. opened (record { name = named.0.0; attributes = kept }) all.0.1) kept_is.0 ∙ (ap (λ r. opened (record { name = named.0.0; attributes = kept.0.0 }) r) kept_is.1 ∙ same_some (opened (record { name = named.0.0; attributes = kept.0.0 }) kept.0.1) m kept.2) in
    tag_found body named.0.0 all.0.1 attributes.attributes m name.is attributes.are (name.spelled ∙ ap (λ bs. named.0.0 ++ bs) attributes.spelled) end whole end.is

pub record TakesFinish (body : List ℕ) (m : Markup) : Type 0 where
  pub name : List ℕ
  pub blanks : List ℕ
  pub is : IsName name
  pub blank : list_all is_blank blanks ≡ true
  pub same : m ≡ finish name
  pub spelled : body ≡ 47 ∷ (name ++ blanks)

finish_takes : (body : List ℕ) (m : Markup) → end_tag body ≡ Some m → TakesFinish (47 ∷ body) m
unfolding end_tag
finish_takes body m found =
    let named = bind_some (name_at body) (λ name. cond (list_all is_blank name.1) (Some (finish name.0)) None) m found in
    let test = cond_some (list_all is_blank named.0.1) (finish named.0.0) m named.2 in
    let name = name_takes body named.0.0 named.0.1 named.1 in
    record { name = named.0.0; blanks = named.0.1; is = name.is; blank = test.0; same = sym test.1; spelled = ap (λ bs. 47 ∷ bs) name.spelled }

tag_cases : (b : ℕ) (body : List ℕ) (m : Markup) (is : Bool) → (b == 47) ≡ is → cond is (end_tag body) (start_tag (b ∷ body)) ≡ Some m → TakesFinish (b ∷ body) m ⊎ TakesTag (b ∷ body) m
tag_cases b body m true e found = inl (subst (λ (c : ℕ). TakesFinish (c ∷ body) m) (sym (eqb-true b 47 e)) (finish_takes body m found))
tag_cases b body m false e found = inr (start_takes (b ∷ body) m found)

pub tag_takes : (body : List ℕ) (m : Markup) → tag_markup body ≡ Some m → TakesFinish body m ⊎ TakesTag body m
unfolding tag_markup
tag_takes [] m found = absurd cc
tag_takes (b ∷ body) m found = tag_cases b body m (b == 47) refl found
