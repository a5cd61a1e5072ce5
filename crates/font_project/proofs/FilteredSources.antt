-- The images of the sources' outlines, of which some are made.
use Rattle.std.proofs.Common.{◌≡◌, ℕ, zero, suc, ◌+◌, ◌*◌, ◌<◌, List, [], ◌∷◌, ◌++◌, length, map, get_or, All, Result, Ok, Err, refl, sym, ◌∙◌, ap, subst, arith, append_assoc}
use Rattle.std.specs.Prelude.{insert, remove}
use Rattle.std.specs.List.{AllZip}
use Rattle.std.proofs.lemmas.List.{length-append}
use Rattle.std.proofs.lemmas.List.Edits.{length-remove}
use Rattle.std.proofs.lemmas.List.Elements.{All-rest}
use Rattle.basics.specs.Reading.{◌>>=◌, each, with_prefix}
use Rattle.basics.specs.declared.fault.Fault.{Fault}
use Rattle.source_files.specs.Stops.{StopsBy}
use Rattle.source_files.specs.declared.stop.ReadStop.{ReadStop}
use Rattle.source_files.specs.declared.stop.ReadStop.TheVariants.{NoMemory, ReadFault, Refused}
use Rattle.font_project.specs.Columns.{no_outlines}
use Rattle.font_project.specs.Filtering.{Image, filtered, filtered_source, raised}
use Rattle.font_project.specs.Images.{IsSourceOf, Kinds}
use Rattle.font_project.specs.Limits.{IsOutlinedWithin}
use Rattle.font_project.specs.declared.outlined.OutlinedSource.{OutlinedSource}
use Rattle.font_project.proofs.FilterLists.{Members, images_by, images_stay, kinds_by, kinds_stay, raised_more, raised_none, seen_by}
use Rattle.font_project.proofs.FilteredOutlines.{one_before, whole}

-- the images of the sources that are left complete the whole, and each filter was called for all glyphs of the others
pub record AreMaking {A : Type 0} (m : Members A) (old new : List A) (names : List (List ℕ)) (sources left made : List OutlinedSource) : Type 0 where
  pub within : All (IsOutlinedWithin (length names)) left
  pub counted : length made + length left ≡ length sources
  pub made_so : with_prefix made (each (filtered_source (images_by m old) names) left) ≡ each (filtered_source (images_by m old) names) sources
  pub shape : (rest : List OutlinedSource) → AllZip (IsSourceOf (kinds_by m old)) left rest → AllZip (IsSourceOf (kinds_by m old)) sources (made ++ rest)
  pub same : seen_by m new ≡ seen_by m old
  pub touched : map m.touches new ≡ map (raised (length made * length names)) (map m.touches old)

one_more : {A B F : Type 0} (f : A → Result B F) (made : List B) (x : A) (xs : List A) (y : B) → f x ≡ Ok y → with_prefix made (each f (x ∷ xs)) ≡ with_prefix (made ++ y ∷ []) (each f xs)
one_more f made x xs y is = rw is (one_before made y (each f xs))

stops_there : {A B : Type 0} (f : A → Result B Fault) (made : List B) (x : A) (xs : List A) (stop : ReadStop) → StopsBy stop (f x) → StopsBy stop (with_prefix made (each f (x ∷ xs)))
stops_there f made x xs (Refused fault) is = rw is refl
stops_there f made x xs (ReadFault path) is = tt
stops_there f made x xs NoMemory is = tt

module _ {A : Type 0} (m : Members A) (old : List A) (names : List (List ℕ)) (sources : List OutlinedSource) where
  pub none_made : (left made : List OutlinedSource) → left ≡ sources → made ≡ [] → All (IsOutlinedWithin (length names)) sources → AreMaking m old old names sources left made
  none_made left made is none within = subst (λ (list : List OutlinedSource). AreMaking m old old names sources left list) (sym none) (record {
    within = subst (All (IsOutlinedWithin (length names))) (sym is) within;
    counted = omega (arith, ap length is);
    made_so = whole (each (filtered_source (images_by m old) names) left) ∙ ap (λ (list : List OutlinedSource). each (filtered_source (images_by m old) names) list) is;
    shape = λ rest zip. subst (λ (list : List OutlinedSource). AllZip (IsSourceOf (kinds_by m old)) list rest) is zip;
    same = refl;
    touched =
        let none : 0 ≡ 0 * length names = omega arith in
        raised_none (map m.touches old) ∙ ap (λ n. map (raised n) (map m.touches old)) none;
  })

  module _ (new newer : List A) (left rest made : List OutlinedSource) (source : OutlinedSource) (before : AreMaking m old new names sources left made) (next : left ≡ source ∷ rest) where
    -- what the call is about
    pub at_old : filtered_source (images_by m new) names source ≡ filtered_source (images_by m old) names source
    at_old = ap (λ images. filtered_source images names source) (images_stay m.called m.setting m.setting_of m.image m.kinds new old before.same)

    pub one_made : (made' : List OutlinedSource) (y : OutlinedSource) → filtered_source (images_by m old) names source ≡ Ok y → IsSourceOf (kinds_by m new) source y → made' ≡ made ++ y ∷ []
        → seen_by m newer ≡ seen_by m new → map m.touches newer ≡ map (raised (length names)) (map m.touches new) → AreMaking m old newer names sources rest made'
    one_made made' y is image pushed same touched = subst (λ (list : List OutlinedSource). AreMaking m old newer names sources rest list) (sym pushed) (record {
      within = All-rest (IsOutlinedWithin (length names)) source rest left next before.within;
      counted = omega (arith, before.counted, ap length next, length-append made (y ∷ []));
      made_so =
          sym (one_more (filtered_source (images_by m old) names) made source rest y is)
          ∙ (ap (λ (list : List OutlinedSource). with_prefix made (each (filtered_source (images_by m old) names) list)) (sym next) ∙ before.made_so);
      shape = λ zs zip.
          let own : IsSourceOf (kinds_by m old) source y = subst (λ follows. IsSourceOf follows source y) (kinds_stay m.called m.setting m.setting_of m.image m.kinds new old before.same) image in
          let here : AllZip (IsSourceOf (kinds_by m old)) left (y ∷ zs) = subst (λ (list : List OutlinedSource). AllZip (IsSourceOf (kinds_by m old)) list (y ∷ zs)) (sym next) (own, zip) in
          subst (AllZip (IsSourceOf (kinds_by m old)) sources) (sym (append_assoc made (y ∷ []) zs)) (before.shape (y ∷ zs) here);
      same = same ∙ before.same;
      touched =
          let count : length made * length names + length names ≡ length (made ++ y ∷ []) * length names =
          let size : length (made ++ y ∷ []) ≡ suc (length made) = omega (arith, length-append made (y ∷ [])) in
          let product : suc (length made) * length names ≡ length names + length made * length names = omega arith in
          sym (ap (λ (n : ℕ). n * length names) size ∙ (product ∙ omega arith)) in
          touched ∙ (ap (map (raised (length names))) before.touched
          ∙ (raised_more (length made * length names) (length names) (map m.touches old) ∙ ap (λ n. map (raised n) (map m.touches old)) count));
    })

    pub stops_here : (stop : ReadStop) → StopsBy stop (filtered_source (images_by m old) names source) → StopsBy stop (each (filtered_source (images_by m old) names) sources)
    stops_here stop stops =
        subst (StopsBy stop) (ap (λ (list : List OutlinedSource). with_prefix made (each (filtered_source (images_by m old) names) list)) (sym next) ∙ before.made_so)
        (stops_there (filtered_source (images_by m old) names) made source rest stop stops)

-- ---- one that was taken out is put back

pub put_back : {A B : Type 0} (R : A → B → Type 0) (xs : List A) (ys : List B) (k : ℕ) (x : A) (y : B) → k < length xs → x ≡ get_or xs k x → R x y → AllZip R (remove xs k) ys → AllZip R xs (insert ys k y)
put_back R [] ys k x y below is here zip = absurd (omega arith)
put_back R (z ∷ xs) ys zero x y below is here zip = (subst (λ v. R v y) is here, zip)
put_back R (z ∷ xs) [] (suc k) x y below is here zip = absurd zip
put_back R (z ∷ xs) (w ∷ ys) (suc k) x y below is here zip = (zip.0, put_back R xs ys k x y (omega (arith, below)) is here zip.1)

-- ---- the whole

module _ (names : List (List ℕ)) (default : ℕ) (outlined rest : List OutlinedSource) (source own : OutlinedSource) (taken : source ≡ get_or outlined default no_outlines) (others : rest ≡ remove outlined default) where
  behind_own : (images : List Image) → filtered_source images names source ≡ Ok own
      → filtered images names default outlined ≡ (each (filtered_source images names) rest >>= λ others. Ok (insert others default own))
  unfolding filtered
  behind_own images is =
      let first : filtered_source images names (get_or outlined default no_outlines) ≡ Ok own = ap (filtered_source images names) (sym taken) ∙ is in
      rw first (ap (λ (list : List OutlinedSource). each (filtered_source images names) list >>= λ others. Ok (insert others default own)) (sym others))

  pub all_filtered : (images then : List Image) (made : List OutlinedSource) → filtered_source images names source ≡ Ok own → then ≡ images → each (filtered_source then names) rest ≡ Ok made
      → filtered images names default outlined ≡ Ok (insert made default own)
  all_filtered images then made is same all =
      behind_own images is
      ∙ ap (λ (read : Result (List OutlinedSource) Fault). read >>= λ others. Ok (insert others default own)) (ap (λ images. each (filtered_source images names) rest) (sym same) ∙ all)

  stop_behind : (read : Result (List OutlinedSource) Fault) (stop : ReadStop) → StopsBy stop read → StopsBy stop (read >>= λ others. Ok (insert others default own))
  stop_behind read (Refused fault) stops = rw stops refl
  stop_behind read (ReadFault path) stops = tt
  stop_behind read NoMemory stops = tt

  pub others_stop : (images then : List Image) (stop : ReadStop) → filtered_source images names source ≡ Ok own → then ≡ images → StopsBy stop (each (filtered_source then names) rest)
      → StopsBy stop (filtered images names default outlined)
  others_stop images then stop is same stops =
      subst (StopsBy stop) (sym (behind_own images is))
      (stop_behind (each (filtered_source images names) rest) stop (subst (λ images. StopsBy stop (each (filtered_source images names) rest)) same stops))

pub removed_length : (outlined rest : List OutlinedSource) (default : ℕ) → default < length outlined → rest ≡ remove outlined default → suc (length rest) ≡ length outlined
removed_length outlined rest default below is = omega (arith, ap length is, length-remove outlined default below)

-- the calls for the default's source, and then for the others
pub all_calls : (glyphs : ℕ) (outlined rest : List OutlinedSource) (default : ℕ) (touches then last : List ℕ) → default < length outlined → rest ≡ remove outlined default
    → then ≡ map (raised glyphs) touches → last ≡ map (raised (length rest * glyphs)) then → last ≡ map (raised (length outlined * glyphs)) touches
all_calls glyphs outlined rest default touches then last below is first others =
    let size : length outlined ≡ suc (length rest) = sym (removed_length outlined rest default below is) in
    let product : suc (length rest) * glyphs ≡ glyphs + length rest * glyphs = omega arith in
    let count : glyphs + length rest * glyphs ≡ length outlined * glyphs = sym (ap (λ (n : ℕ). n * glyphs) size ∙ product) in
    others ∙ (ap (map (raised (length rest * glyphs))) first ∙ (raised_more glyphs (length rest * glyphs) touches ∙ ap (λ n. map (raised n) touches) count))

-- each source has its images
pub all_shaped : (follows then : List Kinds) (outlined rest made whole : List OutlinedSource) (default : ℕ) (source own : OutlinedSource) → default < length outlined → source ≡ get_or outlined default source → rest ≡ remove outlined default
    → then ≡ follows → IsSourceOf follows source own → AllZip (IsSourceOf then) rest made → whole ≡ insert made default own → AllZip (IsSourceOf follows) outlined whole
all_shaped follows then outlined rest made whole default source own below taken others same first shaped is =
    let all : AllZip (IsSourceOf follows) (remove outlined default) made =
    subst (λ follows. AllZip (IsSourceOf follows) (remove outlined default) made) same
    (subst (λ (list : List OutlinedSource). AllZip (IsSourceOf then) list made) others shaped) in
    subst (AllZip (IsSourceOf follows) outlined) (sym is) (put_back (IsSourceOf follows) outlined made default source own below taken first all)
