-- What an item that is cut off says of the text, and what it was written as.
use Rattle.std.proofs.Common.{◌≡◌, ℕ, zero, suc, ◌+◌, Bool, true, false, cond, ◌&&◌, List, [], ◌∷◌, ◌++◌, length, take, drop, Option, Some, None, refl, sym, ap, subst, ◌∙◌, append_assoc, append-nil, arith, ◌⊎◌, inl, inr}
use Rattle.std.specs.Prelude.{◌==◌, codes, is_none, option_map, unwrap_or}
use Rattle.std.specs.List.{list_all}
use Rattle.std.proofs.lemmas.Bool.{and_parts, eqb-true, or_cases}
use Rattle.std.proofs.lemmas.List.{take-append-drop, drop-drop}
use Rattle.markup_rules.specs.Bytes.{is_text, is_doctype}
use Rattle.markup_rules.specs.Syntax.{IsName, Content, content_then, content_text, content_meaning, IsContent, Tag, tag_then, IsTag, end_tag_then, aside_then, IsAside, IsWithout}
use Rattle.markup_rules.specs.Syntax as written
use Rattle.markup_rules.specs.Reading.{Item, comment, instruction, declaration, tag, broken, unended, data_between, data_to_end, body_by, quote_after, ends_tag, tag_end, tag_before, tag_by, markup_at, data_by, item_at, Markup, start, empty, finish, aside, doctype, content, bad, content_of, if_right, tag_markup, data_markup, comment_markup, instruction_markup, declaration_markup, markup_of}
use Rattle.markup_rules.proofs.CompleteTags.{content_append, opening_of}
use Rattle.markup_rules.proofs.CompleteItems.{tag_split}
use Rattle.markup_rules.proofs.SoundContent.{index_takes, TakesContent, content_takes}
use Rattle.markup_rules.proofs.SoundTags.{TakesTag, TakesFinish, tag_takes}
use Rattle.basics.specs.Bytes.{is_blank, begins, first_index, index_of}
use Rattle.basics.specs.Optional.{◌>>=◌}
use Rattle.basics.proofs.Optional.{same_some}

-- ---- marks

begins_takes : (mark bytes : List ℕ) → begins mark bytes ≡ true → bytes ≡ mark ++ drop (length mark) bytes
begins_takes [] bytes e = refl
begins_takes (m ∷ mark) [] e = absurd cc
begins_takes (m ∷ mark) (b ∷ bytes) e =
    let parts = and_parts (m == b) (begins mark bytes) e in
    ap (λ c. c ∷ bytes) (sym (eqb-true m b parts.0)) ∙ ap (λ bs. m ∷ bs) (begins_takes mark bytes parts.1)

pub begins_is_prefix : (mark bytes : List ℕ) → begins mark bytes ≡ true → bytes ≡ mark ++ drop (length mark) bytes
begins_is_prefix = begins_takes

begins_longer : (mark bytes : List ℕ) (k : ℕ) → begins mark (take k bytes) ≡ true → begins mark bytes ≡ true
begins_longer [] bytes k e = refl
begins_longer (m ∷ mark) [] zero e = absurd cc
begins_longer (m ∷ mark) [] (suc k) e = absurd cc
begins_longer (m ∷ mark) (b ∷ bytes) zero e = absurd cc
begins_longer (m ∷ mark) (b ∷ bytes) (suc k) e =
    let parts = and_parts (m == b) (begins mark (take k bytes)) e in
    rw (parts.0, begins_longer mark bytes k parts.1) refl

-- the first index of a mark: the mark stands there, and nowhere before
record IsMark (mark bytes : List ℕ) (n : ℕ) : Type 0 where
  here : begins mark (drop n bytes) ≡ true
  before : is_none (first_index (begins mark) (take n bytes)) ≡ true

mark_step : (mark : List ℕ) (b : ℕ) (bytes : List ℕ) (n m : ℕ) → begins mark (b ∷ bytes) ≡ false → n + 1 ≡ m → IsMark mark bytes n → IsMark mark (b ∷ bytes) m
mark_step mark b bytes n m apart e is =
    subst (IsMark mark (b ∷ bytes)) (let one : suc n ≡ n + 1 = omega arith in one ∙ e)
    (record { here = is.here; before = not_before (begins mark (b ∷ take n bytes)) refl })
  where
    none_mapped : (o : Option ℕ) → is_none o ≡ true → is_none (option_map (λ (k : ℕ). k + 1) o) ≡ true
    none_mapped None e = refl
    none_mapped (Some k) e = absurd cc

    not_before : (found : Bool) → begins mark (b ∷ take n bytes) ≡ found → is_none (cond found (Some 0) (option_map (λ (k : ℕ). k + 1) (first_index (begins mark) (take n bytes)))) ≡ true
    not_before true e = absurd (cc (begins_longer mark (b ∷ bytes) (suc n) e, apart))
    not_before false e = none_mapped (first_index (begins mark) (take n bytes)) is.before

mark_cases : (mark : List ℕ) (b : ℕ) (bytes : List ℕ) (n : ℕ) (is : Bool) (later : Option ℕ) → begins mark (b ∷ bytes) ≡ is → first_index (begins mark) bytes ≡ later → ((k : ℕ) → first_index (begins mark) bytes ≡ Some k → IsMark mark bytes k)
    → cond is (Some 0) (option_map (λ (k : ℕ). k + 1) later) ≡ Some n → IsMark mark (b ∷ bytes) n
mark_cases mark b bytes n true later e here rec found = subst (IsMark mark (b ∷ bytes)) (same_some 0 n found) (record { here = e; before = refl })
mark_cases mark b bytes n false (Some k) e here rec found = mark_step mark b bytes k n e (same_some (k + 1) n found) (rec k here)
mark_cases mark b bytes n false None e here rec found = absurd cc

mark_takes : (mark bytes : List ℕ) (n : ℕ) → first_index (begins mark) bytes ≡ Some n → IsMark mark bytes n
mark_takes mark [] n found = absurd cc
mark_takes mark (b ∷ bytes) n found = mark_cases mark b bytes n (begins mark (b ∷ bytes)) (first_index (begins mark) bytes) refl refl (mark_takes mark bytes) found

mark_spelled : (mark bytes : List ℕ) (n : ℕ) → IsMark mark bytes n → bytes ≡ take n bytes ++ (mark ++ drop (n + length mark) bytes)
mark_spelled mark bytes n is =
    sym (take-append-drop n bytes) ∙ ap (λ bs. take n bytes ++ bs) (begins_takes mark (drop n bytes) is.here ∙ ap (λ bs. mark ++ bs) (drop-drop (length mark) n bytes))

-- ---- the end of a tag

ends_greater : (quote : Option ℕ) (b : ℕ) → ends_tag quote b ≡ true → (b == 60) ≡ false → b ≡ 62
ends_greater quote b e apart = elim (or_cases (b == 60) ((b == 62) && is_none quote) e) [
  | inl p ↦ absurd (cc (p, apart))
  | inr p ↦ eqb-true b 62 (and_parts (b == 62) (is_none quote) p).0
]

abbrev IsEnd : List ℕ → ℕ → Type 0
IsEnd bytes n = (b : ℕ) (rest : List ℕ) → drop n bytes ≡ b ∷ rest → (b == 60) ≡ false → b ≡ 62

end_cases : (quote : Option ℕ) (b : ℕ) (bytes : List ℕ) (n : ℕ) (is : Bool) (later : Option ℕ) → ends_tag quote b ≡ is → tag_end (quote_after quote b) bytes ≡ later → ((k : ℕ) → tag_end (quote_after quote b) bytes ≡ Some k → IsEnd bytes k)
    → cond is (Some 0) (option_map (λ (k : ℕ). k + 1) later) ≡ Some n → IsEnd (b ∷ bytes) n
end_cases quote b bytes n true later e here rec found = subst (IsEnd (b ∷ bytes)) (same_some 0 n found) (at_prefix quote b bytes e)
  where
    at_prefix : (quote : Option ℕ) (b : ℕ) (bytes : List ℕ) → ends_tag quote b ≡ true → IsEnd (b ∷ bytes) 0
    at_prefix quote b bytes e c rest same apart =
        let first : b ≡ c = cc same in
        sym first ∙ ends_greater quote b e (ap (λ (x : ℕ). x == 60) first ∙ apart)
end_cases quote b bytes n false (Some k) e here rec found =
    let next : suc k ≡ n = (let one : suc k ≡ k + 1 = omega arith in one ∙ same_some (k + 1) n found) in
    subst (IsEnd (b ∷ bytes)) next (rec k here)
end_cases quote b bytes n false None e here rec found = absurd cc

end_takes : (quote : Option ℕ) (bytes : List ℕ) (n : ℕ) → tag_end quote bytes ≡ Some n → IsEnd bytes n
end_takes quote [] n found = absurd cc
end_takes quote (b ∷ bytes) n found = end_cases quote b bytes n (ends_tag quote b) (tag_end (quote_after quote b) bytes) refl refl (end_takes (quote_after quote b) bytes) found

-- ---- items

abbrev Told : List ℕ → Item → List ℕ → Type 0
Told bytes (comment body) rest = bytes ≡ codes "<!--" ++ (body ++ (codes "-->" ++ rest))
Told bytes (instruction body) rest = (bytes ≡ codes "<?" ++ (body ++ (codes "?>" ++ rest))) × IsWithout (codes "?>") body
Told bytes (declaration body) rest = bytes ≡ codes "<!" ++ (body ++ (codes ">" ++ rest))
Told bytes (tag body) rest = bytes ≡ 60 ∷ (body ++ 62 ∷ rest)
Told bytes broken rest = Unit {0}
Told bytes unended rest = Unit {0}
Told bytes (data_between data_bytes) rest = bytes ≡ data_bytes ++ rest
Told bytes (data_to_end data_bytes) rest = (bytes ≡ data_bytes) × (rest ≡ [])

abbrev Cut : Type 0
Cut = Item × List ℕ

abbrev ToldBy : List ℕ → Cut → Type 0
ToldBy bytes c = Told bytes c.0 c.1

-- after the < of an item
comment_told : (bytes : List ℕ) (found : Option ℕ) → first_index (begins (codes "-->")) bytes ≡ found → ToldBy (codes "<!--" ++ bytes) (body_by comment 3 bytes found)
comment_told bytes None e = tt
comment_told bytes (Some n) e = ap (λ bs. codes "<!--" ++ bs) (mark_spelled (codes "-->") bytes n (mark_takes (codes "-->") bytes n e))

instruction_told : (bytes : List ℕ) (found : Option ℕ) → first_index (begins (codes "?>")) bytes ≡ found → ToldBy (codes "<?" ++ bytes) (body_by instruction 2 bytes found)
instruction_told bytes None e = tt
instruction_told bytes (Some n) e =
    let is = mark_takes (codes "?>") bytes n e in
    (ap (λ bs. codes "<?" ++ bs) (mark_spelled (codes "?>") bytes n is), is.before)

declaration_told : (bytes : List ℕ) (found : Option ℕ) → index_of 62 bytes ≡ found → ToldBy (codes "<!" ++ bytes) (body_by declaration 1 bytes found)
declaration_told bytes None e = tt
declaration_told bytes (Some n) e = ap (λ bs. codes "<!" ++ bs) (index_takes 62 bytes n e).spelled

before_told : (bytes body : List ℕ) (n b : ℕ) (rest : List ℕ) (is : Bool) → (b == 60) ≡ is → bytes ≡ body ++ b ∷ rest → ((b == 60) ≡ false → b ≡ 62) → ToldBy (60 ∷ bytes) (let c : Cut = cond is (broken, b ∷ rest) (tag body, rest) in c)
before_told bytes body n b rest true e spelled greater = tt
before_told bytes body n b rest false e spelled greater = ap (λ bs. 60 ∷ bs) (spelled ∙ ap (λ c. body ++ c ∷ rest) (greater e))

tag_before_told : (bytes : List ℕ) (n : ℕ) (left : List ℕ) → drop n bytes ≡ left → IsEnd bytes n → ToldBy (60 ∷ bytes) (tag_before (take n bytes) left)
tag_before_told bytes n [] e end = tt
tag_before_told bytes n (b ∷ rest) e end =
    before_told bytes (take n bytes) n b rest (b == 60) refl (sym (take-append-drop n bytes) ∙ ap (λ bs. take n bytes ++ bs) e) (end b rest e)

tag_told : (bytes : List ℕ) (found : Option ℕ) → tag_end None bytes ≡ found → ToldBy (60 ∷ bytes) (tag_by bytes found)
tag_told bytes None e = tt
tag_told bytes (Some n) e = tag_before_told bytes n (drop n bytes) refl (end_takes None bytes n e)

markup_cases : (bytes : List ℕ) (c i d : Bool) → begins (codes "!--") bytes ≡ c → begins (codes "?") bytes ≡ i → begins (codes "!") bytes ≡ d → ToldBy (60 ∷ bytes)
    (cond c (body_by comment 3 (drop 3 bytes) (first_index (begins (codes "-->")) (drop 3 bytes)))
    (cond i (body_by instruction 2 (drop 1 bytes) (first_index (begins (codes "?>")) (drop 1 bytes)))
    (cond d (body_by declaration 1 (drop 1 bytes) (index_of 62 (drop 1 bytes))) (tag_by bytes (tag_end None bytes)))))
markup_cases bytes true i d p q r =
    subst (λ bs. ToldBy (60 ∷ bs) (body_by comment 3 (drop 3 bytes) (first_index (begins (codes "-->")) (drop 3 bytes)))) (sym (begins_takes (codes "!--") bytes p)) (comment_told (drop 3 bytes) (first_index (begins (codes "-->")) (drop 3 bytes)) refl)
markup_cases bytes false true d p q r =
    subst (λ bs. ToldBy (60 ∷ bs) (body_by instruction 2 (drop 1 bytes) (first_index (begins (codes "?>")) (drop 1 bytes)))) (sym (begins_takes (codes "?") bytes q)) (instruction_told (drop 1 bytes) (first_index (begins (codes "?>")) (drop 1 bytes)) refl)
markup_cases bytes false false true p q r =
    subst (λ bs. ToldBy (60 ∷ bs) (body_by declaration 1 (drop 1 bytes) (index_of 62 (drop 1 bytes)))) (sym (begins_takes (codes "!") bytes r)) (declaration_told (drop 1 bytes) (index_of 62 (drop 1 bytes)) refl)
markup_cases bytes false false false p q r = tag_told bytes (tag_end None bytes) refl

markup_told : (bytes : List ℕ) → ToldBy (60 ∷ bytes) (markup_at bytes)
unfolding markup_at
markup_told bytes = markup_cases bytes (begins (codes "!--") bytes) (begins (codes "?") bytes) (begins (codes "!") bytes) refl refl refl

data_told : (bytes : List ℕ) (found : Option ℕ) → ToldBy bytes (data_by bytes found)
data_told bytes None = (refl, refl)
data_told bytes (Some n) = sym (take-append-drop n bytes)

item_cases : (b : ℕ) (bytes : List ℕ) (is : Bool) → (b == 60) ≡ is → ToldBy (b ∷ bytes) (cond is (markup_at bytes) (data_by (b ∷ bytes) (index_of 60 (b ∷ bytes))))
item_cases b bytes true e = subst (λ (c : ℕ). ToldBy (c ∷ bytes) (markup_at bytes)) (sym (eqb-true b 60 e)) (markup_told bytes)
item_cases b bytes false e = data_told (b ∷ bytes) (index_of 60 (b ∷ bytes))

item_told : (b : ℕ) (bytes : List ℕ) → ToldBy (b ∷ bytes) (item_at (b ∷ bytes))
unfolding item_at
item_told b bytes = item_cases b bytes (b == 60) refl

-- ---- what items were written as

pub data Read (bytes rest : List ℕ) (m : Markup) : Type 0 where
  of_aside : (a : written.Aside) (is : IsAside a) (same : m ≡ aside) (spelled : bytes ≡ aside_then a rest) → Read bytes rest m
  of_doctype : (text : List ℕ) (is : is_doctype text ≡ true) (same : m ≡ doctype) (spelled : bytes ≡ codes "<!DOCTYPE" ++ (text ++ (codes ">" ++ rest))) → Read bytes rest m
  of_finish : (name blanks : List ℕ) (is : IsName name) (blank : list_all is_blank blanks ≡ true) (same : m ≡ finish name) (spelled : bytes ≡ end_tag_then name blanks rest) → Read bytes rest m
  of_start : (t : Tag) (is : IsTag t) (same : m ≡ start (opening_of t)) (spelled : bytes ≡ tag_then t (codes ">" ++ rest)) → Read bytes rest m
  of_empty : (t : Tag) (is : IsTag t) (same : m ≡ empty (opening_of t)) (spelled : bytes ≡ tag_then t (codes "/>" ++ rest)) → Read bytes rest m
  of_content : (c : Content) (is : IsContent c) (same : m ≡ content (list_all is_blank (content_text c)) (content_meaning c)) (spelled : bytes ≡ content_then c rest) → Read bytes rest m
  of_bad : (same : m ≡ bad) → Read bytes rest m

comment_cases : (body bytes rest : List ℕ) (without is : Bool) → is_none (first_index (begins (codes "--")) body) ≡ without → is_text body ≡ is → bytes ≡ codes "<!--" ++ (body ++ (codes "-->" ++ rest)) → Read bytes rest (if_right (without && is) aside)
comment_cases body bytes rest true true p q spelled = of_aside (written.comment body) (record { text = q; without = p }) refl spelled
comment_cases body bytes rest true false p q spelled = of_bad refl
comment_cases body bytes rest false is p q spelled = of_bad refl

comment_read : (body bytes rest : List ℕ) → bytes ≡ codes "<!--" ++ (body ++ (codes "-->" ++ rest)) → Read bytes rest (comment_markup body)
unfolding comment_markup
comment_read body bytes rest spelled = comment_cases body bytes rest (is_none (first_index (begins (codes "--")) body)) (is_text body) refl refl spelled

instruction_cases : (body bytes rest : List ℕ) (is : Bool) → is_text body ≡ is → IsWithout (codes "?>") body → bytes ≡ codes "<?" ++ (body ++ (codes "?>" ++ rest)) → Read bytes rest (if_right is aside)
instruction_cases body bytes rest true p without spelled = of_aside (written.instruction body) (record { text = p; without = without }) refl spelled
instruction_cases body bytes rest false p without spelled = of_bad refl

instruction_read : (body bytes rest : List ℕ) → IsWithout (codes "?>") body → bytes ≡ codes "<?" ++ (body ++ (codes "?>" ++ rest)) → Read bytes rest (instruction_markup body)
unfolding instruction_markup
instruction_read body bytes rest without spelled = instruction_cases body bytes rest (is_text body) refl without spelled

declaration_cases : (body bytes rest : List ℕ) (prefix is : Bool) → begins (codes "DOCTYPE") body ≡ prefix → is_doctype (drop 7 body) ≡ is → bytes ≡ codes "<!" ++ (body ++ (codes ">" ++ rest)) → Read bytes rest (if_right (prefix && is) doctype)
declaration_cases body bytes rest true true p q spelled = of_doctype (drop 7 body) q refl (spelled ∙ ap (λ bs. codes "<!" ++ (bs ++ (codes ">" ++ rest))) (begins_takes (codes "DOCTYPE") body p))
declaration_cases body bytes rest true false p q spelled = of_bad refl
declaration_cases body bytes rest false is p q spelled = of_bad refl

declaration_read : (body bytes rest : List ℕ) → bytes ≡ codes "<!" ++ (body ++ (codes ">" ++ rest)) → Read bytes rest (declaration_markup body)
unfolding declaration_markup
declaration_read body bytes rest spelled = declaration_cases body bytes rest (begins (codes "DOCTYPE") body) (is_doctype (drop 7 body)) refl refl spelled

finish_read : (body bytes rest : List ℕ) (m : Markup) → bytes ≡ 60 ∷ (body ++ 62 ∷ rest) → TakesFinish body m → Read bytes rest m
finish_read body bytes rest m spelled is =
    of_finish is.name is.blanks is.is is.blank is.same (spelled ∙ (ap (λ bs. 60 ∷ (bs ++ 62 ∷ rest)) is.spelled ∙ ap (λ bs. 60 ∷ 47 ∷ bs) (append_assoc is.name is.blanks (62 ∷ rest))))

opening_read : (body bytes rest : List ℕ) (m : Markup) → bytes ≡ 60 ∷ (body ++ 62 ∷ rest) → TakesTag body m → Read bytes rest m
opening_read body bytes rest m spelled is = elim is.form [
  | inl p ↦ of_start is.tag is.is p.0 (spelled ∙ (ap (λ bs. 60 ∷ (bs ++ 62 ∷ rest)) p.1 ∙ sym (tag_split is.tag [] rest)))
  | inr p ↦ of_empty is.tag is.is p.0 (spelled ∙ (ap (λ bs. 60 ∷ (bs ++ 62 ∷ rest)) p.1 ∙ sym (tag_split is.tag (47 ∷ []) rest)))
]

either_read : (body bytes rest : List ℕ) (m : Markup) → bytes ≡ 60 ∷ (body ++ 62 ∷ rest) → TakesFinish body m ⊎ TakesTag body m → Read bytes rest m
either_read body bytes rest m spelled (inl is) = finish_read body bytes rest m spelled is
either_read body bytes rest m spelled (inr is) = opening_read body bytes rest m spelled is

tag_read : (body bytes rest : List ℕ) (found : Option Markup) → tag_markup body ≡ found → bytes ≡ 60 ∷ (body ++ 62 ∷ rest) → Read bytes rest (unwrap_or found bad)
tag_read body bytes rest (Some m) e spelled = either_read body bytes rest m spelled (tag_takes body m e)
tag_read body bytes rest None e spelled = of_bad refl

content_read : (data_bytes bytes rest text : List ℕ) → bytes ≡ data_bytes ++ rest → TakesContent data_bytes text → Read bytes rest (content (list_all is_blank data_bytes) text)
content_read data_bytes bytes rest text spelled is =
    of_content is.content is.is (ap (λ bs. content (list_all is_blank bs) text) is.spelled ∙ ap (content (list_all is_blank (content_text is.content))) (sym is.means))
    (spelled ∙ (ap (λ bs. bs ++ rest) is.spelled ∙ sym (content_append is.content rest)))

data_found : (data_bytes bytes rest : List ℕ) (found : Option (List ℕ)) → content_of data_bytes ≡ found → bytes ≡ data_bytes ++ rest → Read bytes rest (unwrap_or (found >>= λ text. Some (content (list_all is_blank data_bytes) text)) bad)
data_found data_bytes bytes rest (Some text) e spelled = content_read data_bytes bytes rest text spelled (content_takes data_bytes text e)
data_found data_bytes bytes rest None e spelled = of_bad refl

data_read : (data_bytes bytes rest : List ℕ) → bytes ≡ data_bytes ++ rest → Read bytes rest (unwrap_or (data_markup data_bytes) bad)
unfolding data_markup
data_read data_bytes bytes rest spelled = data_found data_bytes bytes rest (content_of data_bytes) refl spelled

told_read : (item : Item) (bytes rest : List ℕ) → Told bytes item rest → Read bytes rest (markup_of item)
unfolding markup_of
told_read (comment body) bytes rest told = comment_read body bytes rest told
told_read (instruction body) bytes rest told = instruction_read body bytes rest told.1 told.0
told_read (declaration body) bytes rest told = declaration_read body bytes rest told
told_read (tag body) bytes rest told = tag_read body bytes rest (tag_markup body) refl told
told_read broken bytes rest told = of_bad refl
told_read unended bytes rest told = of_bad refl
told_read (data_between data_bytes) bytes rest told = data_read data_bytes bytes rest told
told_read (data_to_end data_bytes) bytes rest told = data_read data_bytes bytes rest (told.0 ∙ (sym (append-nil data_bytes) ∙ ap (λ bs. data_bytes ++ bs) (sym told.1)))

pub item_read : (b : ℕ) (bytes : List ℕ) → Read (b ∷ bytes) (item_at (b ∷ bytes)).1 (markup_of (item_at (b ∷ bytes)).0)
item_read b bytes = told_read (item_at (b ∷ bytes)).0 (b ∷ bytes) (item_at (b ∷ bytes)).1 (item_told b bytes)
