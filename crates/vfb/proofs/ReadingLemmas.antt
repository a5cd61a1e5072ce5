-- Reading the drawings of a command one after another.
use Rattle.std.proofs.Common.{◌≡◌, ℕ, ◌+◌, ◌<◌, List, [], ◌∷◌, ◌++◌, length, map, drop, get_or, All, Result, Ok, Err, refl, sym, ◌∙◌, ap, subst, inr, arith, add-one, append_assoc, length-append, drop-cons}
use Rattle.std.proofs.lemmas.List.Elements.{All-push}
use Rattle.std.specs.Prelude.{IsOk}
use Rattle.outside.specs.States.{SourcesState}
use Rattle.basics.specs.Reading.{◌>>=◌, each, with_prefix}
use Rattle.glif.specs.Limits.{IsWithinLimits}
use Rattle.glif.specs.declared.shape.Drawing.{Drawing}
use Rattle.source_files.specs.Stops.{Answers, GoesOn, Reads}
use Rattle.commands.specs.Command.{Located}
use Rattle.vfb.specs.Faults.{drawing_at, drawings_of}
use Rattle.vfb.specs.Stops.{StopsAt}
use Rattle.commands.specs.Words.{seen}
use Rattle.commands.specs.declared.located.Located as words

-- the drawings that the words location from a number on
abbrev pub rest_from : List words.Located → ℕ → List Located
rest_from located i = map seen (drop i located)

-- the drawings before a number were read, and those from it on are left
pub record HasRead (old : SourcesState) (located : List words.Located) (now : SourcesState) (i : ℕ) (drawings : List Drawing) : Type 0 where
  pub goes_on : GoesOn old now (StopsAt old.tells old.files (map seen located)) (StopsAt old.tells old.files (rest_from located i))
      (drawings_of old.files (map seen located) ≡ with_prefix drawings (drawings_of old.files (rest_from located i)))
  pub one_each : length drawings ≡ i
  pub within : All (λ (drawing : Drawing). IsWithinLimits drawing.outline) drawings

-- what is left once one more is read
prefix_more : {B F : Type 0} (prefix : List B) (x : B) (later : Result (List B) F) → with_prefix prefix (with_prefix (x ∷ []) later) ≡ with_prefix (prefix ++ (x ∷ [])) later
prefix_more prefix x (Ok xs) = ap Ok (sym (append_assoc prefix (x ∷ []) xs))
prefix_more prefix x (Err fault) = refl

one_more : {B F : Type 0} (x : B) (later : Result (List B) F) → (later >>= λ xs. Ok (x ∷ xs)) ≡ with_prefix (x ∷ []) later
one_more x (Ok xs) = refl
one_more x (Err fault) = refl

each_more : {A B F : Type 0} (f : A → Result B F) (first : A) (rest : List A) (x : B) → f first ≡ Ok x → each f (first ∷ rest) ≡ with_prefix (x ∷ []) (each f rest)
each_more f first rest x is = rw is (one_more x (each f rest))

-- the drawing of a number is read
pub has_read_more : (old mid new : SourcesState) (located : List words.Located) (i : ℕ) (prefix grown : List Drawing) (one : words.Located) (drawing : Drawing)
    → i < length located → one ≡ get_or located i one → HasRead old located mid i prefix
    → Reads {X = Drawing} mid new (λ named. named ≡ one.path.now) (Answers (λ (d : Drawing). d) (Ok drawing) (drawing_at mid.files (seen one))) (Ok drawing)
    → IsWithinLimits drawing.outline → grown ≡ prefix ++ (drawing ∷ []) → HasRead old located new (i + 1) grown
has_read_more old mid new located i prefix grown one drawing below is before reads within is_grown =
    let rest = rest_from located (i + 1) in
    let here : rest_from located i ≡ seen one ∷ rest = rw (add-one, drop-cons located i one below, ← is) refl in
    let read : (old.tells → drawing_at old.files (seen one) ≡ Ok drawing) =
    λ told. subst (λ files. drawing_at files (seen one) ≡ Ok drawing) before.goes_on.same (reads.gives (before.goes_on.told told)) in
    record {
      goes_on = record {
        told = λ told. reads.told (before.goes_on.told told);
        same = reads.same ∙ before.goes_on.same;
        left = λ told.
            before.goes_on.left told
            ∙ (ap (λ left. with_prefix prefix (drawings_of old.files left)) here
            ∙ (ap (with_prefix prefix) (each_more (drawing_at old.files) (seen one) rest drawing (read told))
            ∙ (prefix_more prefix drawing (drawings_of old.files rest) ∙ ap (λ read. with_prefix read (drawings_of old.files rest)) (sym is_grown))));
        counted = omega (arith, before.goes_on.counted, reads.counted);
        named = λ path later.
            before.goes_on.named path (subst (λ left. StopsAt old.tells old.files left path) (sym here)
            (inr (λ told. subst IsOk (sym (read told)) refl, later)));
        sure = λ sure. (reads.sure (before.goes_on.sure sure)).0;
      };
      one_each = ap length is_grown ∙ (simp length-append (omega (arith, before.one_each)));
      within = subst (All (λ (drawing : Drawing). IsWithinLimits drawing.outline)) (sym is_grown) (All-push (λ (drawing : Drawing). IsWithinLimits drawing.outline) prefix drawing before.within within);
    }
