-- Sources whose outlines have the shapes of the default's are alike, and so are their images.
use Rattle.std.proofs.Common.{◌≡◌, ℕ, ◌+◌, ◌*◌, ◌<◌, ◌≤◌, List, [], ◌∷◌, length, get_or, All, Ok, refl, sym, ◌∙◌, ap, subst, arith}
use Rattle.std.specs.Prelude.{fold, sum_by}
use Rattle.std.specs.List.{AllZip}
use Rattle.std.proofs.lemmas.List.Sums.{sum_by-cons}
use Rattle.glif.specs.Limits.{IsWithinLimits}
use Rattle.glif.specs.Shapes.{contour_kinds}
use Rattle.glif.specs.declared.shape.Outline.{Outline}
use Rattle.font_project.specs.Columns.{no_outlines, nothing}
use Rattle.font_project.specs.Fonts.{default_outlined}
use Rattle.font_project.specs.Images.{IsImageOf, IsSourceOf, Kinds}
use Rattle.font_project.specs.Limits.{AreAlikeWithin, AreOutlinedWithin, IsOutlinedWithin}
use Rattle.font_project.specs.Numbers.{default_first}
use Rattle.font_project.specs.Sizes.{are_few, outline_size}
use Rattle.font_project.specs.declared.outlined.OutlinedSource.{OutlinedSource}
use Rattle.font_project.proofs.OutlinedSources.{zip_at, zip_length}
use Rattle.font_project.proofs.Passing.{item_at}
use Rattle.font_project.proofs.Rows.{kinds_same}
use Rattle.font_project.proofs.Sizing.{same_sizes, sources_few}

-- ---- the outlines

pub alike_within : (names : List (List ℕ)) (sources default : ℕ) (outlined : List OutlinedSource) → AreOutlinedWithin names sources default outlined → AreAlikeWithin (length names) sources default outlined
alike_within names sources default outlined within =
    let there : default < length outlined = omega (arith, within.there, within.one_each) in
    let at : (number : ℕ) → number < length outlined → IsOutlinedWithin (length names) (get_or outlined number no_outlines) = λ number below. within.each number no_outlines below in
    let own = at default there in
    let alike : (number glyph : ℕ) → number < length outlined → glyph < length names
    → contour_kinds (get_or (get_or outlined number no_outlines).outlines glyph nothing) ≡ contour_kinds (get_or (get_or outlined default no_outlines).outlines glyph nothing) = λ number glyph below inside.
    kinds_same names (default_outlined outlined default) outlined within.shapes number (get_or outlined number no_outlines) (item_at outlined number no_outlines below) glyph inside
    (omega (arith, inside, own.one_each)) (omega (arith, inside, (at number below).one_each)) in
    let sized : (number : ℕ) → number < length outlined → sum_by outline_size (get_or outlined number no_outlines).outlines ≡ sum_by outline_size (get_or outlined default no_outlines).outlines = λ number below.
    same_sizes (get_or outlined number no_outlines).outlines (get_or outlined default no_outlines).outlines ((at number below).one_each ∙ sym own.one_each)
    (λ glyph inside. alike number glyph below (omega (arith, inside, (at number below).one_each))) in
    let few = sources_few (sum_by outline_size (get_or outlined default no_outlines).outlines) default outlined there sized
    (subst (λ (n : ℕ). are_few outlined (default_first default n) ≡ Ok tt) (sym within.one_each) within.few) in
    record {
      one_each = within.one_each;
      there = within.there;
      each = within.each;
      alike = λ number glyph below inside. alike number glyph (omega (arith, below, within.one_each)) inside;
      few = subst (λ (n : ℕ). n * sum_by outline_size (get_or outlined default no_outlines).outlines ≤ 16777216) within.one_each few;
    }

-- ---- their images

-- images have as many points
images_size : (follows : List Kinds) (outlines made : List Outline) → AllZip (IsImageOf follows) outlines made → sum_by outline_size made ≡ sum_by outline_size outlines
images_size follows [] [] zip = refl
images_size follows [] (y ∷ ys) zip = absurd zip
images_size follows (x ∷ xs) [] zip = absurd zip
images_size follows (x ∷ xs) (y ∷ ys) zip =
    sum_by-cons outline_size y ys
    ∙ (ap (λ (n : ℕ). n + 4 + sum_by outline_size ys) zip.0.points
    ∙ (ap (λ (n : ℕ). outline_size x + n) (images_size follows xs ys zip.1) ∙ sym (sum_by-cons outline_size x xs)))

pub images_alike : (follows : List Kinds) (glyphs sources default : ℕ) (outlined made : List OutlinedSource) → AreAlikeWithin glyphs sources default outlined → AllZip (IsSourceOf follows) outlined made
    → AreAlikeWithin glyphs sources default made
images_alike follows glyphs sources default outlined made within zip =
    let count : length made ≡ length outlined = zip_length (IsSourceOf follows) outlined made zip in
    let at : (number : ℕ) → number < sources → IsSourceOf follows (get_or outlined number no_outlines) (get_or made number no_outlines) = λ number below.
    zip_at (IsSourceOf follows) outlined made zip number no_outlines no_outlines (omega (arith, below, count, within.one_each)) in
    let sized : (number : ℕ) → number < sources → length (get_or made number no_outlines).outlines ≡ glyphs = λ number below.
    zip_length (IsImageOf follows) (get_or outlined number no_outlines).outlines (get_or made number no_outlines).outlines (at number below).outlines
    ∙ (within.each number no_outlines (omega (arith, below, within.one_each))).one_each in
    let image : (number glyph : ℕ) → number < sources → glyph < glyphs
    → IsImageOf follows (get_or (get_or outlined number no_outlines).outlines glyph nothing) (get_or (get_or made number no_outlines).outlines glyph nothing) = λ number glyph below inside.
    zip_at (IsImageOf follows) (get_or outlined number no_outlines).outlines (get_or made number no_outlines).outlines (at number below).outlines glyph nothing nothing (omega (arith, inside, sized number below)) in
    record {
      one_each = count ∙ within.one_each;
      there = within.there;
      each = λ k d below.
          let inside : k < length outlined = omega (arith, below, count) in
          let source : IsSourceOf follows (get_or outlined k no_outlines) (get_or made k d) = zip_at (IsSourceOf follows) outlined made zip k no_outlines d below in
          let size = zip_length (IsImageOf follows) (get_or outlined k no_outlines).outlines (get_or made k d).outlines source.outlines in record {
            one_each = size ∙ (within.each k no_outlines inside).one_each;
            within = λ glyph e here. (zip_at (IsImageOf follows) (get_or outlined k no_outlines).outlines (get_or made k d).outlines source.outlines glyph nothing e here).within;
          };
      alike = λ number glyph below inside.
          (image number glyph below inside).kinds
          ∙ (ap (λ kinds. fold (λ kinds follow. follow kinds) kinds follows) (within.alike number glyph below inside) ∙ sym (image default glyph within.there inside).kinds);
      few = subst (λ (n : ℕ). sources * n ≤ 16777216)
          (sym (images_size follows (get_or outlined default no_outlines).outlines (get_or made default no_outlines).outlines (at default within.there).outlines)) within.few;
    }
