-- What is read from < on is cut off as one item, and means the same.
use Rattle.std.proofs.Common.{◌≡◌, ℕ, zero, suc, ◌<◌, ◌≤◌, Bool, true, false, cond, not, List, [], ◌∷◌, ◌++◌, length, drop, map, Option, Some, None, refl, sym, ap, subst, ◌∙◌, arith}
use Rattle.std.specs.Prelude.{◌==◌, is_some}
use Rattle.std.specs.List.{list_all}
use Rattle.std.proofs.lemmas.Bool.{and_parts, eqb-true}
use Rattle.std.proofs.lemmas.Bool.Decides.{nat_tests}
use Rattle.std.proofs.lemmas.Option.{some_pair_parts}
use Rattle.markup_rules.specs.Bytes.{is_name_start, is_name_byte, starts_blank, starts_name}
use Rattle.markup_rules.specs.Syntax.{comment, instruction, content_then, content_text, Attribute, IsAttribute, attribute_meaning, attributes_then, attribute_then, AreAttributes, firsts, Tag, IsTag, tag_then}
use Rattle.markup_rules.specs.Reading.{with_first, many, name_at, attribute_at, Item, tag, Markup, bad, markup_of, item_at}
use Rattle.markup_rules.specs.Faults.{Context, lacks_end}
use Rattle.markup_rules.proofs.Attributes.{attribute_shorter}
use Rattle.markup_rules.proofs.CompleteItems.{content_no_less, tag_item}
use Rattle.markup_rules.proofs.CompleteNames.{name_again}
use Rattle.markup_rules.proofs.Fuel.{many_next, many_by, item_length}
use Rattle.markup_rules.proofs.SoundContent.{name_takes}
use Rattle.markup_rules.proofs.Shorter.{attribute_shortens}
use Rattle.markup_rules.proofs.SoundTags.{TakesAttribute, attribute_takes}
use Rattle.markup_rules.proofs.SoundItems.{Read, of_aside, of_doctype, of_finish, of_start, of_empty, of_content, of_bad, item_read}
use Rattle.markup_rules.proofs.CompleteTags.{attribute_again, blanks_stop_name, content_append, name_no_slash, name_stops_blanks, tag_body, opening_of, start_markup, empty_markup}
use Rattle.markup.specs.Openings.{ended_by, mark_at, end_at, has_end, attributes_to_end, Ending, opened_as, opening_at}
use Rattle.basics.specs.Bytes.{is_blank, after_run, run_at, stops}
use Rattle.basics.specs.Optional.{◌>>=◌}
use Rattle.basics.proofs.Runs.{after_run_again, run_whole, run_all}
use Rattle.basics.proofs.Optional.{bind_some, same_some}

abbrev Named : Type 0
Named = List ℕ × List ℕ

abbrev End : Type 0
End = Option (Bool × List ℕ)

abbrev slash_of : Bool → List ℕ
slash_of true = 47 ∷ []
slash_of false = []

-- ---- the end of the tag

ended_cases : (slash : Bool) (b : ℕ) (bytes : List ℕ) (s : Bool) (r : List ℕ) (is : Bool) → (b == 62) ≡ is → (let e : End = cond is (Some (slash, bytes)) None in e ≡ Some (s, r)) → (slash ≡ s) × (b ∷ bytes ≡ 62 ∷ r)
ended_cases slash b bytes s r true e found =
    let parts = some_pair_parts slash s bytes r found in
    (parts.0, ap (λ (c : ℕ). c ∷ bytes) (eqb-true b 62 e) ∙ ap (λ bs. 62 ∷ bs) parts.1)
ended_cases slash b bytes s r false e found = absurd cc

ended_takes : (slash : Bool) (bytes : List ℕ) (s : Bool) (r : List ℕ) → ended_by slash bytes ≡ Some (s, r) → (slash ≡ s) × (bytes ≡ 62 ∷ r)
ended_takes slash [] s r found = absurd cc
ended_takes slash (b ∷ bytes) s r found = ended_cases slash b bytes s r (b == 62) refl found

mark_cases : (b : ℕ) (bytes : List ℕ) (s : Bool) (r : List ℕ) (is : Bool) → (b == 47) ≡ is → cond is (ended_by true bytes) (ended_by false (b ∷ bytes)) ≡ Some (s, r) → b ∷ bytes ≡ slash_of s ++ 62 ∷ r
mark_cases b bytes s r true e found =
    let end = ended_takes true bytes s r found in
    subst (λ (s : Bool). b ∷ bytes ≡ slash_of s ++ 62 ∷ r) end.0 (ap (λ (c : ℕ). c ∷ bytes) (eqb-true b 47 e) ∙ ap (λ bs. 47 ∷ bs) end.1)
mark_cases b bytes s r false e found =
    let end = ended_takes false (b ∷ bytes) s r found in
    subst (λ (s : Bool). b ∷ bytes ≡ slash_of s ++ 62 ∷ r) end.0 end.1

mark_takes : (bytes : List ℕ) (s : Bool) (r : List ℕ) → mark_at bytes ≡ Some (s, r) → bytes ≡ slash_of s ++ 62 ∷ r
mark_takes [] s r found = absurd cc
mark_takes (b ∷ bytes) s r found = mark_cases b bytes s r (b == 47) refl found

end_takes : (bytes : List ℕ) (s : Bool) (r : List ℕ) → end_at bytes ≡ Some (s, r) → bytes ≡ run_at is_blank bytes ++ (slash_of s ++ 62 ∷ r)
unfolding end_at
end_takes bytes s r found = run_whole is_blank bytes ∙ ap (λ bs. run_at is_blank bytes ++ bs) (mark_takes (after_run is_blank bytes) s r found)

-- ---- attributes

record TakesAttributes (bytes : List ℕ) (means : List Named) (rest : List ℕ) : Type 0 where
  attributes : List Attribute
  are : AreAttributes attributes
  same : map attribute_meaning attributes ≡ means
  spelled : bytes ≡ attributes_then attributes rest

abbrev Found : Type 0
Found = Option (List Named × List ℕ)

first_of : (m : Named) (found : Found) (means : List Named) (rest : List ℕ) → with_first m found ≡ Some (means, rest) → (later : List Named) × (let o : Found = Some (later, rest) in found ≡ o) × (m ∷ later ≡ means)
first_of m (Some later) means rest e =
    let parts = some_pair_parts (m ∷ later.0) means later.1 rest e in
    (later.0, ap (λ r. pair later.0 r) parts.1, parts.0)
  where
    pair : List Named → List ℕ → Found
    pair ms r = Some (ms, r)
first_of m None means rest e = absurd cc

with_attribute : (bytes : List ℕ) (m : Named) (beyond : List ℕ) (means : List Named) (rest : List ℕ) → TakesAttribute bytes m beyond → TakesAttributes beyond means rest → TakesAttributes bytes (m ∷ means) rest
with_attribute bytes m beyond means rest first later = record {
  attributes = first.attribute ∷ later.attributes;
  are = (first.is, later.are);
  same = ap (λ n. n ∷ map attribute_meaning later.attributes) first.same ∙ ap (λ ms. m ∷ ms) later.same;
  spelled = first.spelled ∙ ap (attribute_then first.attribute) later.spelled;
}

attributes_cases : (n : ℕ) (bytes : List ℕ) (means : List Named) (rest : List ℕ) (end : Bool) → length bytes ≤ n
    → ((beyond : List ℕ) (ms : List Named) → length beyond < length bytes → many has_end attribute_at beyond ≡ Some (ms, rest) → TakesAttributes beyond ms rest)
    → many_by has_end attribute_at bytes end ≡ Some (means, rest) → TakesAttributes bytes means rest
attributes_cases n bytes means rest true few rec found =
    let none : List Named = [] in
    let parts = some_pair_parts none means bytes rest found in
    record { attributes = []; are = tt; same = parts.0; spelled = parts.1 }
attributes_cases n bytes means rest false few rec found =
    let first = bind_some (attribute_at bytes) (λ x. with_first x.0 (many has_end attribute_at x.1)) (means, rest) found in
    let later = first_of first.0.0 (many has_end attribute_at first.0.1) means rest first.2 in
    let shorter = attribute_shorter bytes first.0.0 first.0.1 first.1 in
    subst (λ (ms : List Named). TakesAttributes bytes ms rest) later.2
    (with_attribute bytes first.0.0 first.0.1 later.0 rest (attribute_takes bytes first.0.0 first.0.1 first.1) (rec first.0.1 later.0 shorter later.1))

attributes_up_to : (n : ℕ) (bytes : List ℕ) (means : List Named) (rest : List ℕ) → length bytes < n → many has_end attribute_at bytes ≡ Some (means, rest) → TakesAttributes bytes means rest
attributes_up_to zero bytes means rest few found = absurd (omega arith)
attributes_up_to (suc n) bytes means rest few found =
    attributes_cases n bytes means rest (has_end bytes) (omega arith) (λ beyond ms less later. attributes_up_to n beyond ms rest (omega arith) later)
    (sym (many_next has_end attribute_at attribute_shortens bytes) ∙ found)

-- ---- the whole start

-- an opening as it is written
pub record TakesOpening (bytes : List ℕ) (m : Markup) (rest : List ℕ) : Type 0 where
  pub written : Tag
  pub is : IsTag written
  pub slash : Bool
  pub same : m ≡ opened_as (opening_of written) slash
  pub spelled : 60 ∷ bytes ≡ tag_then written (slash_of slash ++ 62 ∷ rest)

abbrev opened : List ℕ → List Named → Bool → Markup
opened name attributes slash = opened_as (record { name = name; attributes = attributes }) slash

pub opening_takes : (bytes : List ℕ) (m : Markup) (rest : List ℕ) → opening_at bytes ≡ Some (m, rest) → TakesOpening bytes m rest
unfolding opening_at attributes_to_end
opening_takes bytes m rest found =
    let named = bind_some (name_at bytes) (λ name. attributes_to_end name.1 >>= λ a. Some (opened name.0 a.0.0 a.0.1, a.1)) (m, rest) found in
    let ending = bind_some (attributes_to_end named.0.1) (λ a. Some (opened named.0.0 a.0.0 a.0.1, a.1)) (m, rest) named.2 in
    let all = bind_some (many has_end attribute_at named.0.1) (λ all. end_at all.1 >>= λ end. Some ((firsts [] all.0, end.0), end.1)) ending.0 ending.1 in
    let end = bind_some (end_at all.0.1) (λ end. Some ((firsts [] all.0.0, end.0), end.1)) ending.0 all.2 in
    let name = name_takes bytes named.0.0 named.0.1 named.1 in
    let attributes = attributes_up_to (suc (length named.0.1)) named.0.1 all.0.0 all.0.1 (omega arith) all.1 in
    let kept : Ending = ((firsts [] all.0.0, end.0.0), end.0.1) in
    let ending_is : kept ≡ ending.0 = same_some kept ending.0 end.2 in
    let parts = some_pair_parts (opened named.0.0 ending.0.0.0 ending.0.0.1) m ending.0.1 rest ending.2 in
    let means = ap (λ (e : Ending). opened named.0.0 e.0.0 e.0.1) ending_is ∙ parts.0 in
    let follows = ap (λ (e : Ending). e.1) ending_is ∙ parts.1 in
    let blanks = run_at is_blank all.0.1 in
    let last = end_takes all.0.1 end.0.0 end.0.1 end.1 ∙ ap (λ r. blanks ++ (slash_of end.0.0 ++ 62 ∷ r)) follows in
    record {
      written = record { name = named.0.0; attributes = attributes.attributes; blanks = blanks };
      is = record { named = name.is; proper = attributes.are; blank = run_all is_blank all.0.1 };
      slash = end.0.0;
      same = sym (ap (λ ms. opened named.0.0 (firsts [] ms) end.0.0) attributes.same ∙ means);
      spelled = ap (λ bs. 60 ∷ bs) (name.spelled ∙ ap (λ bs. named.0.0 ++ bs) (attributes.spelled ∙ ap (attributes_then attributes.attributes) last));
    }

abbrev Cut : Type 0
Cut = Item × List ℕ

-- how it is cut off, and what it means
pub record IsCut (bytes : List ℕ) (m : Markup) (rest : List ℕ) : Type 0 where
  pub markup : markup_of (item_at (60 ∷ bytes)).0 ≡ m
  pub follows : (item_at (60 ∷ bytes)).1 ≡ rest
  pub ended : (index : Context) → lacks_end index (item_at (60 ∷ bytes)).0 ≡ false

cut_by : (bytes rest body : List ℕ) (m : Markup) → (let c : Cut = (tag body, rest) in item_at (60 ∷ bytes) ≡ c) → markup_of (tag body) ≡ m → IsCut bytes m rest
cut_by bytes rest body m cut means = record {
  markup = ap (λ (c : Cut). markup_of c.0) cut ∙ means;
  follows = ap (λ (c : Cut). c.1) cut;
  ended = λ index. ap (λ (c : Cut). lacks_end index c.0) cut;
}

tag_cut : (t : Tag) (slash : Bool) (bytes rest : List ℕ) (m : Markup) → IsTag t → m ≡ opened_as (opening_of t) slash → 60 ∷ bytes ≡ tag_then t (slash_of slash ++ 62 ∷ rest) → IsCut bytes m rest
tag_cut t true bytes rest m is same spelled = cut_by bytes rest (tag_body t (47 ∷ [])) m (ap item_at spelled ∙ tag_item t (47 ∷ []) rest is refl) (empty_markup t is ∙ sym same)
tag_cut t false bytes rest m is same spelled = cut_by bytes rest (tag_body t []) m (ap item_at spelled ∙ tag_item t [] rest is refl) (start_markup t is ∙ sym same)

pub opening_cut : (bytes : List ℕ) (m : Markup) (rest : List ℕ) → opening_at bytes ≡ Some (m, rest) → IsCut bytes m rest
opening_cut bytes m rest found =
    let takes = opening_takes bytes m rest found in
    tag_cut takes.written takes.slash bytes rest m takes.is takes.same takes.spelled

-- ---- what is written so is read

mark_again : (slash : Bool) (rest : List ℕ) → mark_at (slash_of slash ++ 62 ∷ rest) ≡ Some (slash, rest)
mark_again true rest = refl
mark_again false rest = refl

mark_no_blank : (slash : Bool) (rest : List ℕ) → stops is_blank (slash_of slash ++ 62 ∷ rest) ≡ true
mark_no_blank true rest = refl
mark_no_blank false rest = refl

mark_no_name : (slash : Bool) (rest : List ℕ) → stops is_name_byte (slash_of slash ++ 62 ∷ rest) ≡ true
mark_no_name true rest = refl
mark_no_name false rest = refl

end_again : (blanks : List ℕ) (slash : Bool) (rest : List ℕ) → list_all is_blank blanks ≡ true → end_at (blanks ++ (slash_of slash ++ 62 ∷ rest)) ≡ Some (slash, rest)
unfolding end_at
end_again blanks slash rest blank = ap mark_at (after_run_again is_blank blanks (slash_of slash ++ 62 ∷ rest) blank (mark_no_blank slash rest)) ∙ mark_again slash rest

name_no_greater : (b : ℕ) → is_name_start b ≡ true → (b == 62) ≡ false
name_no_greater b name = grind (arith, nat_tests)

name_no_mark : (name rest : List ℕ) → starts_name name ≡ true → mark_at (name ++ rest) ≡ None
name_no_mark [] rest begun = absurd cc
name_no_mark (b ∷ name) rest begun = rw (name_no_slash b begun, name_no_greater b begun) refl

no_end_again : (a : Attribute) (rest : List ℕ) → IsAttribute a → end_at (attribute_then a rest) ≡ None
unfolding end_at
no_end_again a rest is =
    let beyond = a.before_equals ++ (61 ∷ (a.after_equals ++ (a.quote ∷ content_then a.value (a.quote ∷ rest)))) in
    ap mark_at (after_run_again is_blank a.before (a.name ++ beyond) is.blank_before (name_stops_blanks a.name beyond is.named.begun)) ∙ name_no_mark a.name beyond is.named.begun

attributes_again : (attributes : List Attribute) (last : List ℕ) (end : Bool × List ℕ) → AreAttributes attributes → end_at last ≡ Some end → many has_end attribute_at (attributes_then attributes last) ≡ Some (map attribute_meaning attributes, last)
attributes_again [] last end are is = many_next has_end attribute_at attribute_shortens last ∙ ap (λ (o : End). many_by has_end attribute_at last (is_some o)) is
attributes_again (a ∷ attributes) last end are is =
    let rest = attributes_then attributes last in
    many_next has_end attribute_at attribute_shortens (attribute_then a rest) ∙
    (ap (λ (o : End). many_by has_end attribute_at (attribute_then a rest) (is_some o)) (no_end_again a rest are.0) ∙
    rw (attribute_again a rest are.0, attributes_again attributes last end are.1 is) refl)

blank_no_name : (b : ℕ) → is_blank b ≡ true → not (is_name_byte b) ≡ true
blank_no_name b blank = grind (arith, nat_tests)

before_stops : (before rest : List ℕ) → starts_blank before ≡ true → stops is_name_byte (before ++ rest) ≡ true
before_stops [] rest begun = absurd cc
before_stops (b ∷ before) rest begun = blank_no_name b begun

attributes_stop : (attributes : List Attribute) (blanks last : List ℕ) → AreAttributes attributes → list_all is_blank blanks ≡ true → stops is_name_byte last ≡ true → stops is_name_byte (attributes_then attributes (blanks ++ last)) ≡ true
attributes_stop [] blanks last are blank stop = blanks_stop_name blanks last blank stop
attributes_stop (a ∷ attributes) blanks last are blank stop =
    before_stops a.before (a.name ++ (a.before_equals ++ (61 ∷ (a.after_equals ++ (a.quote ∷ content_then a.value (a.quote ∷ attributes_then attributes (blanks ++ last))))))) are.0.apart

opening_again : (t : Tag) (slash : Bool) (rest : List ℕ) → IsTag t → opening_at (t.name ++ attributes_then t.attributes (t.blanks ++ (slash_of slash ++ 62 ∷ rest))) ≡ Some (opened_as (opening_of t) slash, rest)
unfolding opening_at attributes_to_end
opening_again t slash rest is =
    let last = slash_of slash ++ 62 ∷ rest in
    let end = end_again t.blanks slash rest is.blank in
    rw (name_again t.name (attributes_then t.attributes (t.blanks ++ last)) is.named (attributes_stop t.attributes t.blanks last is.proper is.blank (mark_no_name slash rest)), attributes_again t.attributes (t.blanks ++ last) (slash, rest) is.proper end, end) refl

-- ---- where nothing is read, the item is of no right form

none_again : (t : Tag) (slash : Bool) (bytes rest : List ℕ) → IsTag t → 60 ∷ bytes ≡ tag_then t (slash_of slash ++ 62 ∷ rest) → opening_at bytes ≡ None → ⊥
none_again t slash bytes rest is spelled none =
    let found = ap opening_at (ap (drop 1) spelled) ∙ opening_again t slash rest is in
    absurd (cc (found, none))

no_content : (text bytes rest : List ℕ) → list_all (λ b. not (b == 60)) text ≡ true → 60 ∷ bytes ≡ text ++ rest → length rest ≤ length bytes → ⊥
no_content [] bytes rest all e few = omega (arith, ap length e)
no_content (b ∷ text) bytes rest all e few =
    let first : 60 ≡ b = cc e in
    let apart = ap (λ (c : ℕ). not (c == 60)) first ∙ (and_parts (not (b == 60)) (list_all (λ b. not (b == 60)) text) all).0 in
    absurd cc

not_begun : (bytes other : List ℕ) → starts_name other ≡ false → 60 ∷ bytes ≡ 60 ∷ other → starts_name bytes ≡ true → ⊥
not_begun bytes other apart e begun = absurd (cc (ap starts_name (ap (drop 1) e) ∙ apart, begun))

bad_cases : (bytes rest : List ℕ) (m : Markup) → Read (60 ∷ bytes) rest m → length rest ≤ length bytes → starts_name bytes ≡ true → opening_at bytes ≡ None → m ≡ bad
bad_cases bytes rest m (of_aside (comment body) is same spelled) few begun none = absurd (not_begun bytes _ refl spelled begun)
bad_cases bytes rest m (of_aside (instruction body) is same spelled) few begun none = absurd (not_begun bytes _ refl spelled begun)
bad_cases bytes rest m (of_doctype text is same spelled) few begun none = absurd (not_begun bytes _ refl spelled begun)
bad_cases bytes rest m (of_finish name blanks is blank same spelled) few begun none = absurd (not_begun bytes _ refl spelled begun)
bad_cases bytes rest m (of_start t is same spelled) few begun none = absurd (none_again t false bytes rest is spelled none)
bad_cases bytes rest m (of_empty t is same spelled) few begun none = absurd (none_again t true bytes rest is spelled none)
bad_cases bytes rest m (of_content c is same spelled) few begun none = absurd (no_content (content_text c) bytes rest (content_no_less c is) (spelled ∙ content_append c rest) few)
bad_cases bytes rest m (of_bad same) few begun none = same

pub opening_none : (bytes : List ℕ) → starts_name bytes ≡ true → opening_at bytes ≡ None → markup_of (item_at (60 ∷ bytes)).0 ≡ bad
opening_none bytes begun none = bad_cases bytes (item_at (60 ∷ bytes)).1 (markup_of (item_at (60 ∷ bytes)).0) (item_read 60 bytes) (item_length 60 bytes) begun none
