-- What is read before something is written so: runs, names, references and content.
use Rattle.std.proofs.Common.{◌≡◌, ℕ, zero, suc, ◌+◌, ◌≤◌, Bool, true, false, cond, not, ◌&&◌, List, [], ◌∷◌, ◌++◌, length, take, drop, Option, Some, None, refl, sym, ap, subst, ◌∙◌, append_assoc, arith}
use Rattle.std.specs.Prelude.{◌==◌, nat_lt, codes, encode_utf8, option_map}
use Rattle.std.specs.List.{list_all}
use Rattle.std.specs.Str.{is_utf8, bytes_eq}
use Rattle.std.specs.Str.Parse.{digits_value}
use Rattle.std.specs.Char.{is_ascii_digit, is_ascii_hexdigit}
use Rattle.std.proofs.lemmas.Bool.{and_parts, and_from, ltb-true, eqb-true}
use Rattle.std.proofs.lemmas.List.Folds.{list_all-append}
use Rattle.std.proofs.lemmas.Option.{cond_some, some_pair_parts}
use Rattle.std.proofs.lemmas.Slice.Eq.{bytes_eq-Decides}
use Rattle.std.proofs.lemmas.Str.{IsUtf8-append, IsUtf8-nil, IsUtf8-from_is_utf8, is_utf8-from_IsUtf8}
use Rattle.markup_rules.specs.Bytes.{is_literal, is_name_start, is_name_byte, is_allowed, starts_name}
use Rattle.markup_rules.specs.Syntax.{IsName, Reference, ampersand, less, greater, quotation, apostrophe, decimal, hexadecimal, reference_body, character, IsNumbered, IsReference, Content, run, then_reference, content_then, content_text, content_meaning, IsRun, IsContent}
use Rattle.markup_rules.specs.Reading.{name_at, allowed, numbered, number_of, number_reference, character_of, reference_at, run_of, piece_at, content_of}
use Rattle.markup_rules.proofs.Contents.{content_next, content_end, content_shorter}
use Rattle.basics.specs.Bytes.{run_at, after_run, index_of}
use Rattle.basics.specs.Optional.{◌>>=◌}
use Rattle.basics.proofs.Optional.{bind_some, same_some}
use Rattle.basics.proofs.Runs.{run_whole, run_all}

-- ---- steps

-- ---- runs

-- ---- the first index of a byte

pub record IsIndex (byte : ℕ) (bytes : List ℕ) (n : ℕ) : Type 0 where
  pub apart : list_all (λ b. not (b == byte)) (take n bytes) ≡ true
  pub spelled : bytes ≡ take n bytes ++ byte ∷ drop (n + 1) bytes

index_later : (byte b : ℕ) (bytes : List ℕ) (n m : ℕ) → (b == byte) ≡ false → n + 1 ≡ m → IsIndex byte bytes n → IsIndex byte (b ∷ bytes) m
index_later byte b bytes n m apart e is =
    subst (IsIndex byte (b ∷ bytes)) (let one : suc n ≡ n + 1 = omega arith in one ∙ e)
    (record { apart = rw (apart, is.apart) refl; spelled = ap (λ bs. b ∷ bs) is.spelled ∙ (let next : suc (n + 1) ≡ suc n + 1 = omega arith in ap (λ (k : ℕ). b ∷ (take n bytes ++ byte ∷ drop k (b ∷ bytes))) next) })

index_cases : (byte b : ℕ) (bytes : List ℕ) (n : ℕ) (is : Bool) (later : Option ℕ) → (b == byte) ≡ is → index_of byte bytes ≡ later → ((m : ℕ) → index_of byte bytes ≡ Some m → IsIndex byte bytes m)
    → cond is (Some 0) (option_map (λ (n : ℕ). n + 1) later) ≡ Some n → IsIndex byte (b ∷ bytes) n
index_cases byte b bytes n true later e here rec found =
    subst (IsIndex byte (b ∷ bytes)) (same_some 0 n found) (record { apart = refl; spelled = ap (λ c. c ∷ bytes) (eqb-true b byte e) })
index_cases byte b bytes n false (Some m) e here rec found = index_later byte b bytes m n e (same_some (m + 1) n found) (rec m here)
index_cases byte b bytes n false None e here rec found = absurd cc

pub index_takes : (byte : ℕ) (bytes : List ℕ) (n : ℕ) → index_of byte bytes ≡ Some n → IsIndex byte bytes n
index_takes byte [] n found = absurd cc
index_takes byte (b ∷ bytes) n found = index_cases byte b bytes n (b == byte) (index_of byte bytes) refl refl (index_takes byte bytes) found

-- ---- names

pub record TakesName (bytes name rest : List ℕ) : Type 0 where
  pub is : IsName name
  pub spelled : bytes ≡ name ++ rest

starts_run : (bytes : List ℕ) → starts_name bytes ≡ true → starts_name (run_at is_name_byte bytes) ≡ true
starts_run [] e = absurd cc
starts_run (b ∷ bytes) e = rw (start_is_byte b e) e
  where
    start_is_byte : (b : ℕ) → is_name_start b ≡ true → is_name_byte b ≡ true
    start_is_byte b e = rw e refl

pub name_takes : (bytes name rest : List ℕ) → name_at bytes ≡ Some (name, rest) → TakesName bytes name rest
unfolding name_at
name_takes bytes name rest found =
    let prefix = run_at is_name_byte bytes in
    let test = cond_some (starts_name bytes && is_utf8 prefix) (prefix, after_run is_name_byte bytes) (name, rest) found in
    let tests = and_parts (starts_name bytes) (is_utf8 prefix) test.0 in
    let same : prefix ≡ name = ap (λ p. p.0) test.1 in
    let after : after_run is_name_byte bytes ≡ rest = ap (λ p. p.1) test.1 in
    let is : IsName prefix = record { begun = starts_run bytes tests.0; bytes = run_all is_name_byte bytes; utf8 = tests.1 } in
    record { is = subst IsName same is; spelled = run_whole is_name_byte bytes ∙ (ap (λ bs. bs ++ after_run is_name_byte bytes) same ∙ ap (λ bs. name ++ bs) after) }

-- ---- references

pub record IsCharacter (body : List ℕ) (c : ℕ) : Type 0 where
  pub reference : Reference
  pub is : IsReference reference
  pub spelled : body ≡ reference_body reference
  pub means : character reference ≡ c

numbered_takes : (radix : ℕ) (class : ℕ → Bool) (digits : List ℕ) (c : ℕ) → numbered radix class digits ≡ Some c → IsNumbered radix class digits × (digits_value radix digits ≡ c)
unfolding numbered allowed
numbered_takes radix class digits c found = numbered_cases (nat_lt 0 (length digits) && list_all class digits) (is_allowed (digits_value radix digits)) refl refl found
  where
    numbered_cases : (formed fits : Bool) → (nat_lt 0 (length digits) && list_all class digits) ≡ formed → is_allowed (digits_value radix digits) ≡ fits → cond formed (cond fits (Some (digits_value radix digits)) None) None ≡ Some c → IsNumbered radix class digits × (digits_value radix digits ≡ c)
    numbered_cases true true p q e =
        let tests = and_parts (nat_lt 0 (length digits)) (list_all class digits) p in
        (record { some = omega (arith, ltb-true 0 (length digits) tests.0); each = tests.1; allowed = q }, same_some (digits_value radix digits) c e)
    numbered_cases true false p q e = absurd cc
    numbered_cases false fits p q e = absurd cc

hexadecimal_found : (b : ℕ) (digits : List ℕ) (c : ℕ) → b ≡ 120 → IsNumbered 16 is_ascii_hexdigit digits × (digits_value 16 digits ≡ c) → IsCharacter (35 ∷ (b ∷ digits)) c
hexadecimal_found b digits c e is = record { reference = hexadecimal digits; is = is.0; spelled = ap (λ x. 35 ∷ (x ∷ digits)) e; means = is.1 }

decimal_found : (digits : List ℕ) (c : ℕ) → IsNumbered 10 is_ascii_digit digits × (digits_value 10 digits ≡ c) → IsCharacter (35 ∷ digits) c
decimal_found digits c is = record { reference = decimal digits; is = is.0; spelled = refl; means = is.1 }

number_cases : (b : ℕ) (bytes : List ℕ) (c : ℕ) (is : Bool) → (b == 120) ≡ is → cond is (numbered 16 is_ascii_hexdigit bytes) (numbered 10 is_ascii_digit (b ∷ bytes)) ≡ Some c → IsCharacter (35 ∷ (b ∷ bytes)) c
number_cases b bytes c true e found = hexadecimal_found b bytes c (eqb-true b 120 e) (numbered_takes 16 is_ascii_hexdigit bytes c found)
number_cases b bytes c false e found = decimal_found (b ∷ bytes) c (numbered_takes 10 is_ascii_digit (b ∷ bytes) c found)

number_takes : (bytes : List ℕ) (c : ℕ) → number_of bytes ≡ Some c → IsCharacter (35 ∷ bytes) c
unfolding number_of
number_takes [] c found = absurd cc
number_takes (b ∷ bytes) c found = number_cases b bytes c (b == 120) refl found

sign_cases : (b : ℕ) (bytes : List ℕ) (c : ℕ) (is : Bool) → (b == 35) ≡ is → cond is (number_of bytes) None ≡ Some c → IsCharacter (b ∷ bytes) c
sign_cases b bytes c true e found = subst (λ (x : ℕ). IsCharacter (x ∷ bytes) c) (sym (eqb-true b 35 e)) (number_takes bytes c found)
sign_cases b bytes c false e found = absurd cc

sign_takes : (bytes : List ℕ) (c : ℕ) → number_reference bytes ≡ Some c → IsCharacter bytes c
unfolding number_reference
sign_takes [] c found = absurd cc
sign_takes (b ∷ bytes) c found = sign_cases b bytes c (b == 35) refl found

-- one of the five names, or the others
named_cases : (body name : List ℕ) (n c : ℕ) (others : Option ℕ) (is : Bool) → bytes_eq body name ≡ is → (body ≡ name → n ≡ c → IsCharacter body c) → (others ≡ Some c → IsCharacter body c) → cond is (Some n) others ≡ Some c → IsCharacter body c
named_cases body name n c others true e this later found = this ((bytes_eq-Decides body name).0 e) (same_some n c found)
named_cases body name n c others false e this later found = later found

named : (body : List ℕ) (c : ℕ) (r : Reference) → IsReference r → body ≡ reference_body r → character r ≡ c → IsCharacter body c
named body c r is p q = record { reference = r; is = is; spelled = p; means = q }

character_takes : (body : List ℕ) (c : ℕ) → character_of body ≡ Some c → IsCharacter body c
unfolding character_of
character_takes body c found =
    named_cases body (codes "amp") 38 c _ (bytes_eq body (codes "amp")) refl (named body c ampersand tt)
    (named_cases body (codes "lt") 60 c _ (bytes_eq body (codes "lt")) refl (named body c less tt)
    (named_cases body (codes "gt") 62 c _ (bytes_eq body (codes "gt")) refl (named body c greater tt)
    (named_cases body (codes "quot") 34 c _ (bytes_eq body (codes "quot")) refl (named body c quotation tt)
    (named_cases body (codes "apos") 39 c (number_reference body) (bytes_eq body (codes "apos")) refl (named body c apostrophe tt) (sign_takes body c))))) found

pub record TakesReference (bytes means rest : List ℕ) : Type 0 where
  pub reference : Reference
  pub is : IsReference reference
  pub spelled : bytes ≡ reference_body reference ++ 59 ∷ rest
  pub same : means ≡ encode_utf8 (character reference)

reference_takes : (bytes means rest : List ℕ) → reference_at bytes ≡ Some (means, rest) → TakesReference bytes means rest
unfolding reference_at
reference_takes bytes means rest found =
    let end = bind_some (index_of 59 bytes) (λ end. character_of (take end bytes) >>= λ c. Some (encode_utf8 c, drop (end + 1) bytes)) (means, rest) found in
    let c = bind_some (character_of (take end.0 bytes)) (λ c. Some (encode_utf8 c, drop (end.0 + 1) bytes)) (means, rest) end.2 in
    let parts = some_pair_parts (encode_utf8 c.0) means (drop (end.0 + 1) bytes) rest c.2 in
    let body = character_takes (take end.0 bytes) c.0 c.1 in
    record {
      reference = body.reference;
      is = body.is;
      spelled = (index_takes 59 bytes end.0 end.1).spelled ∙ (ap (λ bs. bs ++ 59 ∷ drop (end.0 + 1) bytes) body.spelled ∙ ap (λ bs. reference_body body.reference ++ 59 ∷ bs) parts.1);
      same = sym parts.0 ∙ ap encode_utf8 (sym body.means);
    }

-- ---- content

-- characters before content
abbrev pub prepend : List ℕ → Content → Content
prepend prefix (run bytes) = run (prefix ++ bytes)
prepend prefix (then_reference bytes r c) = then_reference (prefix ++ bytes) r c

run_both : (prefix bytes : List ℕ) → IsRun prefix → IsRun bytes → IsRun (prefix ++ bytes)
run_both prefix bytes p q = record {
  each = list_all-append is_literal prefix bytes ∙ and_from (list_all is_literal prefix) (list_all is_literal bytes) p.each q.each;
  utf8 = is_utf8-from_IsUtf8 (prefix ++ bytes) (IsUtf8-append prefix bytes (IsUtf8-from_is_utf8 prefix p.utf8) (IsUtf8-from_is_utf8 bytes q.utf8));
}

pub prepend_is : (prefix : List ℕ) (c : Content) → IsRun prefix → IsContent c → IsContent (prepend prefix c)
prepend_is prefix (run bytes) p is = run_both prefix bytes p is
prepend_is prefix (then_reference bytes r c) p is = (run_both prefix bytes p is.0, is.1, is.2)

pub prepend_text : (prefix : List ℕ) (c : Content) (rest : List ℕ) → content_then (prepend prefix c) rest ≡ prefix ++ content_then c rest
prepend_text prefix (run bytes) rest = append_assoc prefix bytes rest
prepend_text prefix (then_reference bytes r c) rest = append_assoc prefix bytes (38 ∷ (reference_body r ++ (59 ∷ content_then c rest)))

pub prepend_meaning : (prefix : List ℕ) (c : Content) → content_meaning (prepend prefix c) ≡ prefix ++ content_meaning c
prepend_meaning prefix (run bytes) = refl
prepend_meaning prefix (then_reference bytes r c) = append_assoc prefix bytes (encode_utf8 (character r) ++ content_meaning c)

pub record TakesContent (bytes text : List ℕ) : Type 0 where
  pub content : Content
  pub is : IsContent content
  pub spelled : bytes ≡ content_text content
  pub means : content_meaning content ≡ text

empty_run : IsRun []
empty_run = record { each = refl; utf8 = is_utf8-from_IsUtf8 [] IsUtf8-nil }

run_takes : (bytes means rest : List ℕ) → run_of bytes ≡ Some (means, rest) → IsRun means × (bytes ≡ means ++ rest)
unfolding run_of
run_takes bytes means rest found =
    let prefix = run_at is_literal bytes in
    let test = cond_some (nat_lt 0 (length prefix) && is_utf8 prefix) (prefix, after_run is_literal bytes) (means, rest) found in
    let tests = and_parts (nat_lt 0 (length prefix)) (is_utf8 prefix) test.0 in
    let same : prefix ≡ means = ap (λ p. p.0) test.1 in
    let after : after_run is_literal bytes ≡ rest = ap (λ p. p.1) test.1 in
    let is : IsRun prefix = record { each = run_all is_literal bytes; utf8 = tests.1 } in
    (subst IsRun same is, run_whole is_literal bytes ∙ (ap (λ bs. bs ++ after_run is_literal bytes) same ∙ ap (λ bs. means ++ bs) after))

-- a piece before content
with_run : (bytes means rest text : List ℕ) → IsRun means × (bytes ≡ means ++ rest) → TakesContent rest text → TakesContent bytes (means ++ text)
with_run bytes means rest text prefix later = record {
  content = prepend means later.content;
  is = prepend_is means later.content prefix.0 later.is;
  spelled = prefix.1 ∙ (ap (λ bs. means ++ bs) later.spelled ∙ sym (prepend_text means later.content []));
  means = prepend_meaning means later.content ∙ ap (λ t. means ++ t) later.means;
}

with_reference : (bytes means rest text : List ℕ) → TakesReference bytes means rest → TakesContent rest text → TakesContent (38 ∷ bytes) (means ++ text)
with_reference bytes means rest text prefix later = record {
  content = then_reference [] prefix.reference later.content;
  is = (empty_run, prefix.is, later.is);
  spelled = ap (λ bs. 38 ∷ bs) (prefix.spelled ∙ ap (λ bs. reference_body prefix.reference ++ 59 ∷ bs) later.spelled);
  means = ap (λ t. t ++ content_meaning later.content) (sym prefix.same) ∙ ap (λ t. means ++ t) later.means;
}

piece_cases : (b : ℕ) (bytes means rest text : List ℕ) (is : Bool) → (b == 38) ≡ is → cond is (reference_at bytes) (run_of (b ∷ bytes)) ≡ Some (means, rest) → TakesContent rest text → TakesContent (b ∷ bytes) (means ++ text)
piece_cases b bytes means rest text true e found later =
    subst (λ (x : ℕ). TakesContent (x ∷ bytes) (means ++ text)) (sym (eqb-true b 38 e)) (with_reference bytes means rest text (reference_takes bytes means rest found) later)
piece_cases b bytes means rest text false e found later = with_run (b ∷ bytes) means rest text (run_takes (b ∷ bytes) means rest found) later

piece_takes : (b : ℕ) (bytes means rest text : List ℕ) → piece_at (b ∷ bytes) ≡ Some (means, rest) → TakesContent rest text → TakesContent (b ∷ bytes) (means ++ text)
unfolding piece_at
piece_takes b bytes means rest text found later = piece_cases b bytes means rest text (b == 38) refl found later

content_to : (n : ℕ) (bytes text : List ℕ) → length bytes ≤ n → content_of bytes ≡ Some text → TakesContent bytes text
content_to n [] text few found =
    let same = same_some [] text (sym content_end ∙ found) in
    record { content = run []; is = empty_run; spelled = refl; means = same }
content_to zero (b ∷ bytes) text few found = absurd (omega arith)
content_to (suc n) (b ∷ bytes) text few found =
    let piece = bind_some (piece_at (b ∷ bytes)) (λ p. content_of p.1 >>= λ text. Some (p.0 ++ text)) text (sym (content_next b bytes) ∙ found) in
    let later = bind_some (content_of piece.0.1) (λ text. Some (piece.0.0 ++ text)) text piece.2 in
    let shorter = content_shorter (b ∷ bytes) piece.0.0 piece.0.1 piece.1 in
    let rest = content_to n piece.0.1 later.0 (omega arith) later.1 in
    subst (TakesContent (b ∷ bytes)) (same_some (piece.0.0 ++ later.0) text later.2) (piece_takes b bytes piece.0.0 piece.0.1 later.0 piece.1 rest)

pub content_takes : (bytes text : List ℕ) → content_of bytes ≡ Some text → TakesContent bytes text
content_takes bytes text found = content_to (length bytes) bytes text (omega arith) found
