-- Readers and what they read: a reader of a relation takes a text that stands for its value from the start of
-- the bytes, and each text that stands for a value is read as that, whatever follows. Readers one after another
-- are a reader again.
use Rattle.std.proofs.Common.{◌≡◌, ℕ, zero, suc, ◌+◌, ◌-◌, ◌<◌, ◌≤◌, ◌⊎◌, inl, inr, Bool, true, false, cond, List, [], ◌∷◌, ◌++◌, length, get_or, Option, Some, None, refl, sym, ap, subst, ◌∙◌, append_assoc, length-append, arith}
use Rattle.std.proofs.lemmas.List.{append-nil, nil_from_length}
use Rattle.std.proofs.lemmas.Option.{same_Some}
use Rattle.std.specs.List.{flat_map}
use Rattle.variation_decoder.specs.Reading.{many, filled_by}
use Rattle.variation_decoder.proofs.Steps.{unless_some}
use Rattle.basics.specs.Optional.{◌>>=◌}
use Rattle.basics.proofs.Optional.{bind_some}

-- each is a byte
abbrev pub IsBytes : List ℕ → Type 0
IsBytes bytes = (i : ℕ) → get_or bytes i 0 < 256

IsBytes-after : (text rest : List ℕ) → IsBytes (text ++ rest) → IsBytes rest
IsBytes-after [] rest fits = fits
IsBytes-after (byte ∷ text) rest fits = IsBytes-after text rest (λ i. fits (suc i))

pub IsBytes-prefix : (text rest : List ℕ) → IsBytes (text ++ rest) → IsBytes text
IsBytes-prefix [] rest fits i = omega arith
IsBytes-prefix (byte ∷ text) rest fits zero = fits 0
IsBytes-prefix (byte ∷ text) rest fits (suc i) = IsBytes-prefix text rest (λ j. fits (suc j)) i

-- what a reader took from the prefix: a text that stands for the value, and the bytes after it
pub record Takes {A : Type 0} (Stands : List ℕ → A → Type 0) (bytes : List ℕ) (read : A × List ℕ) : Type 0 where
  pub text : List ℕ
  pub parts : bytes ≡ text ++ read.1
  pub stands : Stands text read.0

pub record IsReader {A : Type 0} (Stands : List ℕ → A → Type 0) (at : List ℕ → Option (A × List ℕ)) : Type 0 where
  pub takes : (bytes : List ℕ) (read : A × List ℕ) → IsBytes bytes → at bytes ≡ Some read → Takes Stands bytes read
  pub again : (text : List ℕ) (value : A) (rest : List ℕ) → Stands text value → at (text ++ rest) ≡ Some (value, rest)

-- what leaves no byte was all of the bytes
pub whole_stands : {A : Type 0} (Stands : List ℕ → A → Type 0) (at : List ℕ → Option (A × List ℕ)) → IsReader Stands at
    → (bytes : List ℕ) (read : A × List ℕ) → IsBytes bytes → at bytes ≡ Some read → length read.1 ≡ 0 → Stands bytes read.0
whole_stands Stands at reads bytes read fits e none =
    let taken = reads.takes bytes read fits e in
    let all : taken.text ≡ bytes = sym (taken.parts ∙ ap (λ (rest : List ℕ). taken.text ++ rest) (nil_from_length read.1 none) ∙ append-nil taken.text) in
    subst (λ (t : List ℕ). Stands t read.0) all taken.stands

pub whole_again : {A : Type 0} (Stands : List ℕ → A → Type 0) (at : List ℕ → Option (A × List ℕ)) → IsReader Stands at
    → (text : List ℕ) (value : A) → Stands text value → at text ≡ Some (value, [])
whole_again Stands at reads text value s = ap at (sym (append-nil text)) ∙ reads.again text value [] s

-- ---- one step after another

-- the text of a value before the text of what is read after it
pub record Then {A B : Type 0} (First : List ℕ → A → Type 0) (Next : A → List ℕ → B → Type 0) (text : List ℕ) (value : B) : Type 0 where
  pub first : A
  pub prefix : List ℕ
  pub back : List ℕ
  pub split : text ≡ prefix ++ back
  pub stands : First prefix first
  pub next : Next first back value

pub then_reads : {A B : Type 0} (First : List ℕ → A → Type 0) (Next : A → List ℕ → B → Type 0) (at : List ℕ → Option (A × List ℕ)) (next : A → List ℕ → Option (B × List ℕ))
    → IsReader First at → ((prefix : List ℕ) (first : A) → First prefix first → IsReader (Next first) (next first)) → IsReader (Then First Next) (λ bytes. at bytes >>= λ read. next read.0 read.1)
then_reads First Next at next first_reads next_reads = record {
  takes = λ bytes read fits e.
      let step = bind_some (at bytes) (λ read. next read.0 read.1) read e in
      let taken = first_reads.takes bytes step.0 fits step.1 in
      let after = IsBytes-after taken.text step.0.1 (subst IsBytes taken.parts fits) in
      let more = (next_reads taken.text step.0.0 taken.stands).takes step.0.1 read after step.2 in
      record {
        text = taken.text ++ more.text;
        parts = taken.parts ∙ ap (λ (rest : List ℕ). taken.text ++ rest) more.parts ∙ sym (append_assoc taken.text more.text read.1);
        stands = record { first = step.0.0; prefix = taken.text; back = more.text; split = refl; stands = taken.stands; next = more.stands };
      };
  again = λ text value rest s.
      let grouped : text ++ rest ≡ s.prefix ++ (s.back ++ rest) = ap (λ (t : List ℕ). t ++ rest) s.split ∙ append_assoc s.prefix s.back rest in
      let first = first_reads.again s.prefix s.first (s.back ++ rest) s.stands in
      rw (grouped, first) ((next_reads s.prefix s.first s.stands).again s.back value rest s.next);
}

-- a value that takes no bytes
abbrev pub Is : {A : Type 0} → A → List ℕ → A → Type 0
Is x text value = (text ≡ []) × (value ≡ x)

pub done_reads : {A : Type 0} (x : A) → IsReader (Is x) (λ bytes. Some (x, bytes))
done_reads {A} x = record {
  takes = λ bytes read fits e.
      let same : (x, bytes) ≡ read = same_Some (x, bytes) read e in
      record { text = []; parts = ap (λ (p : A × List ℕ). p.1) same; stands = (refl, ap (λ (p : A × List ℕ). p.0) (sym same)) };
  again = λ text value rest s. rw (s.0, s.1) refl;
}

-- a value made of what is read
abbrev pub Made : {A B : Type 0} → (A → B) → (List ℕ → A → Type 0) → List ℕ → B → Type 0
Made {A} f Stands text value = (x : A) × Stands text x × (value ≡ f x)

pub made_reads : {A B : Type 0} (f : A → B) (Stands : List ℕ → A → Type 0) (at : List ℕ → Option (A × List ℕ))
    → IsReader Stands at → IsReader (Made f Stands) (λ bytes. at bytes >>= λ read. Some (f read.0, read.1))
made_reads {A} {B} f Stands at reads = record {
  takes = λ bytes read fits e.
      let step = bind_some (at bytes) (λ read. Some (f read.0, read.1)) read e in
      let same : (f step.0.0, step.0.1) ≡ read = same_Some (f step.0.0, step.0.1) read step.2 in
      let taken = reads.takes bytes step.0 fits step.1 in
      record {
        text = taken.text;
        parts = taken.parts ∙ ap (λ (p : B × List ℕ). taken.text ++ p.1) same;
        stands = (step.0.0, taken.stands, ap (λ (p : B × List ℕ). p.0) (sym same));
      };
  again = λ text value rest s. rw (reads.again text s.0 rest s.1, s.2) refl;
}

-- a test that has to fail
pub unless_reads : {A : Type 0} (b : Bool) (Next : List ℕ → A → Type 0) (next : List ℕ → Option (A × List ℕ))
    → IsReader Next next → IsReader (λ text value. (b ≡ false) × Next text value) (λ bytes. cond b None (next bytes))
unless_reads b Next next reads = record {
  takes = λ bytes read fits e.
      let room = unless_some b (next bytes) read e in
      let taken = reads.takes bytes read fits room.1 in
      record { text = taken.text; parts = taken.parts; stands = (room.0, taken.stands) };
  again = λ text value rest s. rw s.0 (reads.again text value rest s.1);
}

-- a test that chooses between two steps
pub either_reads : {A : Type 0} (b : Bool) (First Second : List ℕ → A → Type 0) (first second : List ℕ → Option (A × List ℕ))
    → IsReader First first → IsReader Second second
    → IsReader (λ text value. ((b ≡ true) × First text value) ⊎ ((b ≡ false) × Second text value)) (λ bytes. cond b (first bytes) (second bytes))
either_reads true First Second first second reads_first reads_second = record {
  takes = λ bytes read fits e.
      let taken = reads_first.takes bytes read fits e in
      record { text = taken.text; parts = taken.parts; stands = inl (refl, taken.stands) };
  again = λ text value rest s. elim s [ inl h ↦ reads_first.again text value rest h.1 | inr h ↦ absurd cc ];
}
either_reads false First Second first second reads_first reads_second = record {
  takes = λ bytes read fits e.
      let taken = reads_second.takes bytes read fits e in
      record { text = taken.text; parts = taken.parts; stands = inr (refl, taken.stands) };
  again = λ text value rest s. elim s [ inl h ↦ absurd cc | inr h ↦ reads_second.again text value rest h.1 ];
}

-- a step that takes no bytes
pub given_reads : {A B : Type 0} (r : Option A) (Next : A → List ℕ → B → Type 0) (next : A → List ℕ → Option (B × List ℕ))
    → ((x : A) → IsReader (Next x) (next x)) → IsReader (λ text value. (x : A) × (r ≡ Some x) × Next x text value) (λ bytes. r >>= λ x. next x bytes)
given_reads r Next next reads = record {
  takes = λ bytes read fits e.
      let step = bind_some r (λ x. next x bytes) read e in
      let taken = (reads step.0).takes bytes read fits step.2 in
      record { text = taken.text; parts = taken.parts; stands = (step.0, step.1, taken.stands) };
  again = λ text value rest s. rw s.1 ((reads s.0).again text value rest s.2);
}

-- a relation that means the same
pub same_reads : {A : Type 0} (Stands Means : List ℕ → A → Type 0) (at : List ℕ → Option (A × List ℕ))
    → ((text : List ℕ) (value : A) → Stands text value → Means text value) → ((text : List ℕ) (value : A) → Means text value → Stands text value)
    → IsReader Stands at → IsReader Means at
same_reads Stands Means at to from reads = record {
  takes = λ bytes read fits e.
      let taken = reads.takes bytes read fits e in
      record { text = taken.text; parts = taken.parts; stands = to taken.text read.0 taken.stands };
  again = λ text value rest s. reads.again text value rest (from text value s);
}

-- ---- many values

-- the text is the values' texts, one after another
abbrev pub Many : {A : Type 0} → (List ℕ → A → Type 0) → List ℕ → List A → Type 0
Many Stands text [] = text ≡ []
Many Stands text (value ∷ values) = (first : List ℕ) × (more : List ℕ) × (text ≡ first ++ more) × Stands first value × Many Stands more values

-- so many of them
abbrev pub Count : {A : Type 0} → (List ℕ → A → Type 0) → ℕ → List ℕ → List A → Type 0
Count Stands n text values = Many Stands text values × (length values ≡ n)

none_counted : {A : Type 0} (Stands : List ℕ → A → Type 0) (text : List ℕ) (values : List A) → Is [] text values → Count Stands 0 text values
none_counted Stands text [] s = (s.0, refl)
none_counted Stands text (value ∷ values) s = absurd cc

counted_none : {A : Type 0} (Stands : List ℕ → A → Type 0) (text : List ℕ) (values : List A) → Count Stands 0 text values → Is [] text values
counted_none Stands text [] s = (s.0, refl)
counted_none Stands text (value ∷ values) s = absurd cc

-- one value, and so many after it
abbrev OneMore : {A : Type 0} → (List ℕ → A → Type 0) → ℕ → List ℕ → List A → Type 0
OneMore {A} Stands n = Then Stands (λ first. Made (λ (more : List A). first ∷ more) (Count Stands n))

more_counted : {A : Type 0} (Stands : List ℕ → A → Type 0) (n : ℕ) (text : List ℕ) (values : List A) → OneMore Stands n text values → Count Stands (suc n) text values
more_counted {A} Stands n text values s =
    let made : s.first ∷ s.next.0 ≡ values = sym s.next.2 in
    subst (λ (xs : List A). Count Stands (suc n) text xs) made ((s.prefix, s.back, s.split, s.stands, s.next.1.0), ap suc s.next.1.1)

counted_more : {A : Type 0} (Stands : List ℕ → A → Type 0) (n : ℕ) (text : List ℕ) (values : List A) → Count Stands (suc n) text values → OneMore Stands n text values
counted_more Stands n text [] s = absurd cc
counted_more Stands n text (value ∷ values) s = record { first = value; prefix = s.0.0; back = s.0.1; split = s.0.2; stands = s.0.3; next = (values, (s.0.4, cc), refl) }

pub many_reads : {A : Type 0} (Stands : List ℕ → A → Type 0) (at : List ℕ → Option (A × List ℕ)) → IsReader Stands at → (n : ℕ) → IsReader (Count Stands n) (many at n)
unfolding many
many_reads {A} Stands at reads zero =
    same_reads (Is []) (Count Stands 0) (λ bytes. Some ([], bytes)) (none_counted Stands) (counted_none Stands) (done_reads [])
many_reads {A} Stands at reads (suc n) =
    same_reads (OneMore Stands n) (Count Stands (suc n)) (λ bytes. at bytes >>= λ first. many at n first.1 >>= λ more. Some (first.0 ∷ more.0, more.1)) (more_counted Stands n) (counted_more Stands n)
    (then_reads Stands (λ first. Made (λ (more : List A). first ∷ more) (Count Stands n)) at (λ first bytes. many at n bytes >>= λ more. Some (first ∷ more.0, more.1)) reads
    (λ prefix first stands. made_reads (λ (more : List A). first ∷ more) (Count Stands n) (many at n) (many_reads Stands at reads n)))

-- ---- runs of values

-- the values of runs, one after another
abbrev pub joined : {A : Type 0} → List (List A) → List A
joined runs = flat_map (λ run. run) runs

-- runs hold the values
abbrev pub Runs : {A : Type 0} → (List ℕ → List A → Type 0) → List ℕ → List A → Type 0
Runs {A} Stands text values = (runs : List (List A)) × Many Stands text runs × (values ≡ joined runs)

module _ {A : Type 0} (Stands : List ℕ → List A → Type 0) (run_at : ℕ → List ℕ → Option (List A × List ℕ))
    (some : (text : List ℕ) (run : List A) → Stands text run → 0 < length run)
    (reads : (wanted : ℕ) → IsReader (λ text run. Stands text run × (length run ≤ wanted)) (run_at wanted)) where
  -- so many values in runs
  abbrev Filled : ℕ → List ℕ → List A → Type 0
  Filled wanted text values = Runs Stands text values × (length values ≡ wanted)

  none_filled : (text : List ℕ) (values : List A) → Is [] text values → Filled 0 text values
  none_filled text values s = (([], s.0, s.1), ap length s.1)

  filled_none : (text : List ℕ) (values : List A) (runs : List (List A)) → Many Stands text runs → values ≡ joined runs → length values ≡ 0 → Is [] text values
  filled_none text values [] many is len = (many, is)
  filled_none text values (run ∷ runs) many is len =
      absurd (omega (arith, some many.0 run many.3, ap length is, length-append run (joined runs)))

  -- a run, and the values that are still wanted after it
  abbrev OneRun : ℕ → List ℕ → List A → Type 0
  OneRun wanted = Then (λ text run. Stands text run × (length run ≤ wanted)) (λ run. Made (λ (more : List A). run ++ more) (Filled (wanted - length run)))

  run_filled : (wanted : ℕ) (text : List ℕ) (values : List A) → OneRun wanted text values → Filled wanted text values
  run_filled wanted text values s =
      let run = s.first in let more = s.next.0 in let rest = s.next.1.0 in (
        (run ∷ rest.0, (s.prefix, s.back, s.split, s.stands.0, rest.1), s.next.2 ∙ ap (λ (xs : List A). run ++ xs) rest.2),
        omega (arith, s.stands.1, s.next.1.1, ap length s.next.2, length-append run more),
      )

  filled_run : (wanted : ℕ) (text : List ℕ) (values : List A) (runs : List (List A)) → Many Stands text runs → values ≡ joined runs → length values ≡ suc wanted → OneRun (suc wanted) text values
  filled_run wanted text values [] many is len = absurd (omega (arith, ap length is))
  filled_run wanted text values (run ∷ runs) many is len =
      let parts : length values ≡ length run + length (joined runs) = ap length is ∙ length-append run (joined runs) in
      record {
        first = run;
        prefix = many.0;
        back = many.1;
        split = many.2;
        stands = (many.3, omega arith);
        next = (joined runs, ((runs, many.4, refl), omega arith), is);
      }

  pub filled_reads : (runs wanted : ℕ) → wanted ≤ runs → IsReader (Filled wanted) (filled_by run_at runs wanted)
  unfolding filled_by
  filled_reads runs zero enough =
      same_reads (Is []) (Filled 0) (λ bytes. Some ([], bytes)) none_filled (λ text values s. filled_none text values s.0.0 s.0.1 s.0.2 s.1) (done_reads [])
  filled_reads zero (suc wanted) enough = absurd (omega arith)
  filled_reads (suc runs) (suc wanted) enough =
      same_reads (OneRun (suc wanted)) (Filled (suc wanted)) (λ bytes. run_at (suc wanted) bytes >>= λ run. filled_by run_at runs (suc wanted - length run.0) run.1 >>= λ more. Some (run.0 ++ more.0, more.1))
      (run_filled (suc wanted)) (λ text values s. filled_run wanted text values s.0.0 s.0.1 s.0.2 s.1)
      (then_reads (λ text run. Stands text run × (length run ≤ suc wanted)) (λ run. Made (λ (more : List A). run ++ more) (Filled (suc wanted - length run)))
      (run_at (suc wanted)) (λ run bytes. filled_by run_at runs (suc wanted - length run) bytes >>= λ more. Some (run ++ more.0, more.1)) (reads (suc wanted))
      (λ prefix run stands. made_reads (λ (more : List A). run ++ more) (Filled (suc wanted - length run)) (filled_by run_at runs (suc wanted - length run))
      (filled_reads runs (suc wanted - length run) (omega (arith, some prefix run stands.0)))))
