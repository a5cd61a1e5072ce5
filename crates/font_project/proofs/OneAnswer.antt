-- Files and a path have one answer, since drawings have one outcome of flattening.
use Rattle.std.proofs.Common.{◌≡◌, ℕ, List, [], ◌∷◌, Result, Ok, Err, refl, sym, ◌∙◌, ap, subst}
use Rattle.std.specs.List.{AllZip}
use Rattle.std.proofs.lemmas.Option.{same_Some}
use Rattle.basics.specs.Reading.{◌>>=◌}
use Rattle.basics.specs.declared.fault.Fault.{Fault}
use Rattle.basics.specs.declared.fault.Spot.{Spot}
use Rattle.glif.specs.declared.shape.Point.{Point}
use Rattle.glif.specs.declared.shape.Outline.{Outline}
use Rattle.glif.specs.declared.shape.Drawing.{Drawing}
use Rattle.compat.specs.Flattened.{AreFlattened, IsFirstRefusal, IsFlatOutline, IsFlattened, IsSpotOf}
use Rattle.font_sources.specs.Sources.{sources_at}
use Rattle.font_sources.specs.declared.found.FontSources.{FontSources}
use Rattle.font_model.specs.Fonts.{Font}
use Rattle.font_project.specs.Flats.{AreFlatSources, IsFlat}
use Rattle.font_project.specs.Fonts.{AreOutlined, IsFontOf, IsFontOfDrawn, OneAnswer, default_codes, default_number, drawn_of, font_filtered, outlined_of}
use Rattle.font_project.specs.Filtering.{Image}
use Rattle.font_project.specs.declared.drawn.DrawnSource.{DrawnSource}
use Rattle.font_project.specs.declared.flat.Flat.{Flat}
use Rattle.font_project.specs.declared.flat.Flat.TheVariants.{Outlines, Refused}
use Rattle.font_project.specs.declared.flat.FlatSource.{FlatSource}
use Rattle.font_project.specs.declared.outlined.OutlinedSource.{OutlinedSource}

-- ---- what is known of flattening

-- a list of drawings has one outline of each drawing, one first fault, and not both
pub record AreLaws : Type 0 where
  pub flattened : (drawings : List Drawing) (drawing : Drawing) (a b : List (List Point)) → IsFlattened drawings drawing a → IsFlattened drawings drawing b → a ≡ b
  pub refused : (drawings : List Drawing) (a b : _) → IsFirstRefusal drawings a → IsFirstRefusal drawings b → a ≡ b
  pub none : (drawings : List Drawing) (outlines : List Outline) (refusal : _) → AreFlattened drawings outlines → IsFirstRefusal drawings refusal → ⊥

-- ---- records of equal parts

same_outline : (a b : Outline) → a.advance ≡ b.advance → a.contours ≡ b.contours → a ≡ b
same_outline a b advance contours = λ i. record { advance = advance i; contours = contours i }

same_spot : (a b : Spot) → a.kind ≡ b.kind → a.item ≡ b.item → a.at ≡ b.at → a.also ≡ b.also → a.first ≡ b.first → a.second ≡ b.second → a ≡ b
same_spot a b kind item at also first second = λ i. record { kind = kind i; item = item i; at = at i; also = also i; first = first i; second = second i }

same_source : (a b : FlatSource) → a.folder ≡ b.folder → a.flat ≡ b.flat → a ≡ b
same_source a b folder flat = λ i. record { folder = folder i; flat = flat i }

-- ---- one outcome

outlines_once : AreLaws → (drawings all : List Drawing) (a b : List Outline) → AllZip (IsFlatOutline drawings) all a → AllZip (IsFlatOutline drawings) all b → a ≡ b
outlines_once laws drawings [] [] [] left right = refl
outlines_once laws drawings [] [] (y ∷ ys) left right = absurd right
outlines_once laws drawings [] (x ∷ xs) b left right = absurd left
outlines_once laws drawings (drawing ∷ more) [] b left right = absurd left
outlines_once laws drawings (drawing ∷ more) (x ∷ xs) [] left right = absurd right
outlines_once laws drawings (drawing ∷ more) (x ∷ xs) (y ∷ ys) left right =
    ap (λ (z : Outline). z ∷ xs) (same_outline x y (left.0.advance ∙ sym right.0.advance) (laws.flattened drawings drawing x.contours y.contours left.0.flattened right.0.flattened))
    ∙ ap (λ (zs : List Outline). y ∷ zs) (outlines_once laws drawings more xs ys left.1 right.1)

flats_once : AreLaws → (drawings : List Drawing) (a b : Flat) → IsFlat drawings a → IsFlat drawings b → a ≡ b
flats_once laws drawings (Outlines a) (Outlines b) left right = ap Outlines (outlines_once laws drawings drawings a b left.each right.each)
flats_once laws drawings (Outlines a) (Refused spot) left right = absurd (laws.none drawings a right.1.0 left right.1.1)
flats_once laws drawings (Refused spot) (Outlines b) left right = absurd (laws.none drawings b left.1.0 right left.1.1)
flats_once laws drawings (Refused s) (Refused t) left right =
    let first = left.1.3 in
    let second = subst (λ refusal. IsSpotOf drawings refusal t) (laws.refused drawings right.1.0 left.1.0 right.1.1 left.1.1) right.1.3 in
    let item : s.item ≡ t.item = same_Some _ _ (sym first.item ∙ second.item) in
    ap Refused (same_spot s t (first.kind ∙ sym second.kind) item (first.at ∙ sym second.at) (first.also ∙ sym second.also) (first.first ∙ sym second.first) (first.second ∙ sym second.second))

sources_once : AreLaws → (drawn : List DrawnSource) (a b : List FlatSource) → AreFlatSources drawn a → AreFlatSources drawn b → a ≡ b
sources_once laws [] [] [] left right = refl
sources_once laws [] [] (y ∷ ys) left right = absurd right
sources_once laws [] (x ∷ xs) b left right = absurd left
sources_once laws (source ∷ drawn) [] b left right = absurd left
sources_once laws (source ∷ drawn) (x ∷ xs) [] left right = absurd right
sources_once laws (source ∷ drawn) (x ∷ xs) (y ∷ ys) left right =
    ap (λ (z : FlatSource). z ∷ xs) (same_source x y (left.0.folder ∙ sym right.0.folder) (flats_once laws source.drawings x.flat y.flat left.0.flat right.0.flat))
    ∙ ap (λ (zs : List FlatSource). y ∷ zs) (sources_once laws drawn xs ys left.1 right.1)

outlined_once : AreLaws → (names : List (List ℕ)) (default : ℕ) (drawn : List DrawnSource) (a b : Result (List OutlinedSource) Fault) → AreOutlined names default drawn a → AreOutlined names default drawn b → a ≡ b
outlined_once laws names default drawn a b left right =
    left.2 ∙ (ap (outlined_of names default drawn) (sources_once laws drawn left.0 right.0 left.1 right.1) ∙ sym right.2)

-- ---- one font

drawn_font_once : AreLaws → (path : List ℕ) (images : List Image) (found : FontSources) (drawn : Result (List DrawnSource) Fault) (a b : Result Font Fault) → IsFontOfDrawn path images found drawn a → IsFontOfDrawn path images found drawn b → a ≡ b
drawn_font_once laws path images found (Err fault) a b left right = left ∙ sym right
drawn_font_once laws path images found (Ok drawn) a b left right =
    let finish : Result (List OutlinedSource) Fault → Result Font Fault = λ outlined. outlined >>= font_filtered path images found (default_codes found drawn) in
    left.2 ∙ (ap finish (outlined_once laws found.names (default_number found) drawn left.0 right.0 left.1 right.1) ∙ sym right.2)

font_once : AreLaws → (path : List ℕ) (images : List Image) (found : Result FontSources Fault) (a b : Result Font Fault) → IsFontOf path images found a → IsFontOf path images found b → a ≡ b
font_once laws path images (Err fault) a b left right = left ∙ sym right
font_once laws path images (Ok found) a b left right = drawn_font_once laws path images found (drawn_of found) a b left right

pub one_answer : AreLaws → OneAnswer
one_answer laws files path images a b left right = font_once laws path images (sources_at files path) a b left right
