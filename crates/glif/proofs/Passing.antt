-- Elements that are passed over begin, end and hold text, and what is kept stays.
use Rattle.std.proofs.Common.{subst, map, ◌≡◌, ℕ, zero, suc, List, [], ◌∷◌, ◌++◌, Option, Err, refl}
use Rattle.basics.specs.declared.fault.Spot.{Spot}
use Rattle.markup_rules.specs.Tree.{Tree, trees_of}
use Rattle.markup_rules.specs.Outcome.{Frame, State, adopted, closed}
use Rattle.glif.specs.declared.contour.Contour.{Contour}
use Rattle.glif.specs.declared.part.OpenContour.{OpenContour}
use Rattle.glif.specs.declared.part.Place.TheVariants as place
use Rattle.glif.specs.declared.part.DrawingPart.{DrawingPart}
use Rattle.glif.specs.Gathered.{IsContour}
use Rattle.glif.specs.Parts.{IsKept, IsPassed, IsPlace, going_on, tag_alone, tag_of}
use Rattle.glif.proofs.Keeping.{faulty_child, point_begun}

-- after a fault all elements of the glyph are passed over
pub faulty_begun : (f : Frame) (spot : Spot) (root : Option Tree) (frames : List Frame) → IsPlace (place.Glyph (Err spot)) root frames → IsKept (record { place = place.Glyph (Err spot); passed = 1 }) root (f ∷ frames)
faulty_begun f spot root [] kept = absurd kept
faulty_begun f spot root (g ∷ []) before = λ children text. faulty_child g (going_on f children text) spot before
faulty_begun f spot root (g ∷ h ∷ frames) kept = absurd kept

-- an element in one that is passed over
pub passed_begun : (Is : List Frame → Type 0) (n : ℕ) (f : Frame) (frames : List Frame) → IsPassed Is (suc n) frames → IsPassed Is (suc (suc n)) (f ∷ frames)
passed_begun Is n f [] kept = absurd kept
passed_begun Is n f (g ∷ []) kept = absurd kept
passed_begun Is n f (g ∷ h ∷ frames) kept = λ children text. kept

pub passed_ended : (Is : List Frame → Type 0) (n : ℕ) (s : State) → IsPassed Is (suc n) s.frames → IsPassed Is n (closed s.frames s).frames
passed_ended Is n s kept = by_frames s.frames kept
  where
    by_frames : (frames : List Frame) → IsPassed Is (suc n) frames → IsPassed Is n (closed frames s).frames
    by_frames [] kept = absurd kept
    by_frames (f ∷ []) kept = absurd kept
    by_frames (f ∷ g ∷ frames) kept = kept (trees_of f.children) f.text

-- the root stays where an element that is passed over ends
pub root_stays : (Is : List Frame → Type 0) (n : ℕ) (s : State) → IsPassed Is (suc n) s.frames → (closed s.frames s).root ≡ s.root
root_stays Is n s kept = by_frames s.frames kept
  where
    by_frames : (frames : List Frame) → IsPassed Is (suc n) frames → (closed frames s).root ≡ s.root
    by_frames [] kept = absurd kept
    by_frames (f ∷ []) kept = absurd kept
    by_frames (f ∷ g ∷ frames) kept = refl

-- with no element open nothing is passed over
pub none_open : (Is : List Frame → Type 0) (n : ℕ) → IsPassed Is n [] → Is []
none_open Is zero kept = kept
none_open Is (suc n) kept = absurd kept

-- an element that ends goes to those around it, whatever was open in it
pub adopted_into : (P : Option Tree → List Frame → Type 0) (t : Tree) (frames inner : List Frame) (s : State) → P (adopted t frames (record s { frames = inner })).root (adopted t frames (record s { frames = inner })).frames
    → P (adopted t frames s).root (adopted t frames s).frames
adopted_into P t [] inner s p = p
adopted_into P t (f ∷ frames) inner s p = p

-- a point of a contour is passed over once it is taken
pub point_kept : (part : DrawingPart) (here : OpenContour) (contour : Contour) (root : Option Tree) (frames : List Frame) (f : Frame) → IsKept part root frames → part.passed ≡ 0 → part.place ≡ place.Contour here
    → ((trees : List Tree) → IsContour here.contour trees → IsContour contour (trees ++ tag_of f ∷ []))
    → IsPassed (IsPlace (place.Contour (record { glyph = here.glyph; outline = here.outline; shapes = here.shapes; at = here.at; contour = contour })) root) 1 (f ∷ frames)
point_kept part here contour root frames f kept none is taken = by_frames frames (subst (λ p. IsPlace p root frames) is (subst (λ n. IsPassed (IsPlace part.place root) n frames) none kept))
  where
    by_frames : (open_ones : List Frame) → IsPlace (place.Contour here) root open_ones
        → IsPassed (IsPlace (place.Contour (record { glyph = here.glyph; outline = here.outline; shapes = here.shapes; at = here.at; contour = contour })) root) 1 (f ∷ open_ones)
    by_frames [] at = absurd at
    by_frames (c ∷ []) at = absurd at
    by_frames (c ∷ o ∷ []) at = absurd at
    by_frames (c ∷ o ∷ g ∷ []) at = point_begun c o g f here contour at (taken (map tag_alone c.children) at.contour)
    by_frames (c ∷ o ∷ g ∷ h ∷ more) at = absurd at
