-- The images of a source's outlines, of which some are made.
use Rattle.std.proofs.Common.{◌≡◌, ◌<◌, ℕ, ◌+◌, List, [], ◌∷◌, ◌++◌, length, map, get_or, All, Result, Ok, Err, refl, sym, ◌∙◌, ap, subst, arith, append_assoc, append-nil}
use Rattle.std.specs.List.{AllZip}
use Rattle.std.proofs.lemmas.List.{get_or_default}
use Rattle.std.proofs.lemmas.List.Elements.{All-rest, All-tail}
use Rattle.basics.specs.Reading.{◌>>=◌, each_numbered, with_prefix}
use Rattle.basics.specs.declared.fault.Fault.{Fault}
use Rattle.glif.specs.Limits.{IsWithinLimits}
use Rattle.glif.specs.declared.shape.Outline.{Outline}
use Rattle.source_files.specs.Stops.{StopsBy}
use Rattle.source_files.specs.declared.stop.ReadStop.{ReadStop}
use Rattle.source_files.specs.declared.stop.ReadStop.TheVariants.{NoMemory, ReadFault, Refused}
use Rattle.font_project.specs.Filtering.{image_of, images_of, raised}
use Rattle.font_project.specs.Images.{IsImageOf}
use Rattle.font_project.proofs.FilterLists.{Members, images_by, images_stay, kinds_by, kinds_stay, raised_more, raised_none, seen_by}

-- the image of the outline of the glyph of a number
abbrev pub at_glyph : {A : Type 0} → Members A → List A → List ℕ → List (List ℕ) → ℕ → Outline → Result Outline Fault
at_glyph m filters folder names glyph outline = image_of (images_by m filters) folder (get_or names glyph []) outline

-- the images of the outlines that are left complete the whole, and each filter was called once for each of the others
pub record AreMaking {A : Type 0} (m : Members A) (old new : List A) (names : List (List ℕ)) (folder : List ℕ) (outlines left made : List Outline) (glyph : ℕ) : Type 0 where
  pub within : All IsWithinLimits left
  pub numbered : glyph + length left ≡ length names
  pub made_so : with_prefix made (each_numbered (at_glyph m old folder names) glyph left) ≡ images_of (images_by m old) folder names outlines
  pub shape : (rest : List Outline) → AllZip (IsImageOf (kinds_by m old)) left rest → AllZip (IsImageOf (kinds_by m old)) outlines (made ++ rest)
  pub same : seen_by m new ≡ seen_by m old
  pub touched : map m.touches new ≡ map (raised glyph) (map m.touches old)

-- ---- what is made before the rest

pub whole : {A F : Type 0} (read : Result (List A) F) → with_prefix [] read ≡ read
whole (Ok xs) = refl
whole (Err fault) = refl

pub one_before : {A F : Type 0} (made : List A) (y : A) (read : Result (List A) F) → with_prefix made (read >>= λ ys. Ok (y ∷ ys)) ≡ with_prefix (made ++ y ∷ []) read
one_before made y (Ok ys) = ap Ok (sym (append_assoc made (y ∷ []) ys))
one_before made y (Err fault) = refl

-- one more is made
pub one_more : {A B F : Type 0} (f : ℕ → A → Result B F) (made : List B) (number : ℕ) (x : A) (xs : List A) (y : B) → f number x ≡ Ok y
    → with_prefix made (each_numbered f number (x ∷ xs)) ≡ with_prefix (made ++ y ∷ []) (each_numbered f (number + 1) xs)
one_more f made number x xs y is = rw is (one_before made y (each_numbered f (number + 1) xs))

-- one that stops is the first fault of the whole
pub stops_there : {A B : Type 0} (f : ℕ → A → Result B Fault) (made : List B) (number : ℕ) (x : A) (xs : List A) (stop : ReadStop) → StopsBy stop (f number x)
    → StopsBy stop (with_prefix made (each_numbered f number (x ∷ xs)))
stops_there f made number x xs (Refused fault) is = rw is refl
stops_there f made number x xs (ReadFault path) is = tt
stops_there f made number x xs NoMemory is = tt

module _ {A : Type 0} (m : Members A) (old : List A) (names : List (List ℕ)) (folder : List ℕ) (outlines : List Outline) where
  pub none_made : (left made : List Outline) → left ≡ outlines → made ≡ [] → length outlines ≡ length names → All IsWithinLimits outlines → AreMaking m old old names folder outlines left made 0
  none_made left made is none sized within = subst (λ (list : List Outline). AreMaking m old old names folder outlines left list 0) (sym none) (record {
    within = subst (All IsWithinLimits) (sym is) within;
    numbered = omega (arith, ap length is, sized);
    made_so = whole (each_numbered (at_glyph m old folder names) 0 left) ∙ ap (λ (list : List Outline). each_numbered (at_glyph m old folder names) 0 list) is;
    shape = λ rest zip. subst (λ (list : List Outline). AllZip (IsImageOf (kinds_by m old)) list rest) is zip;
    same = refl;
    touched = raised_none (map m.touches old);
  })

  module _ (new newer : List A) (left rest made : List Outline) (glyph : ℕ) (outline : Outline) (before : AreMaking m old new names folder outlines left made glyph) (next : left ≡ outline ∷ rest) where
    -- what the call is about
    pub at_old : (name : List ℕ) → name ≡ get_or names glyph name → glyph < length names → image_of (images_by m new) folder name outline ≡ at_glyph m old folder names glyph outline
    at_old name named below =
        ap (λ images. image_of images folder name outline) (images_stay m.called m.setting m.setting_of m.image m.kinds new old before.same)
        ∙ ap (λ name. image_of (images_by m old) folder name outline) (named ∙ get_or_default names glyph name [] below)

    pub one_made : (made' : List Outline) (y : Outline) → at_glyph m old folder names glyph outline ≡ Ok y → IsImageOf (kinds_by m new) outline y → made' ≡ made ++ y ∷ []
        → seen_by m newer ≡ seen_by m new → map m.touches newer ≡ map (raised 1) (map m.touches new) → AreMaking m old newer names folder outlines rest made' (glyph + 1)
    one_made made' y is image pushed same touched = subst (λ (list : List Outline). AreMaking m old newer names folder outlines rest list (glyph + 1)) (sym pushed) (record {
      within = All-rest IsWithinLimits outline rest left next before.within;
      numbered = omega (arith, before.numbered, ap length next);
      made_so =
          sym (one_more (at_glyph m old folder names) made glyph outline rest y is)
          ∙ (ap (λ (list : List Outline). with_prefix made (each_numbered (at_glyph m old folder names) glyph list)) (sym next) ∙ before.made_so);
      shape = λ zs zip.
          let own : IsImageOf (kinds_by m old) outline y = subst (λ follows. IsImageOf follows outline y) (kinds_stay m.called m.setting m.setting_of m.image m.kinds new old before.same) image in
          let here : AllZip (IsImageOf (kinds_by m old)) left (y ∷ zs) = subst (λ (list : List Outline). AllZip (IsImageOf (kinds_by m old)) list (y ∷ zs)) (sym next) (own, zip) in
          subst (AllZip (IsImageOf (kinds_by m old)) outlines) (sym (append_assoc made (y ∷ []) zs)) (before.shape (y ∷ zs) here);
      same = same ∙ before.same;
      touched = touched ∙ (ap (map (raised 1)) before.touched ∙ raised_more glyph 1 (map m.touches old));
    })

    pub stops_here : (stop : ReadStop) → StopsBy stop (at_glyph m old folder names glyph outline) → StopsBy stop (images_of (images_by m old) folder names outlines)
    stops_here stop stops =
        subst (StopsBy stop) (ap (λ (list : List Outline). with_prefix made (each_numbered (at_glyph m old folder names) glyph list)) (sym next) ∙ before.made_so)
        (stops_there (at_glyph m old folder names) made glyph outline rest stop stops)
