-- What the sources draw, where all have all glyphs.
use Rattle.std.proofs.Common.{◌≡◌, ℕ, zero, suc, ◌+◌, ◌<◌, ◌≤◌, List, [], ◌∷◌, length, map, get_or, All, Option, Some, None, Result, Ok, Err, refl, sym, ◌∙◌, ap, subst, arith}
use Rattle.std.specs.Prelude.{IfSome, IsSomeAnd, slice_get, slice_index_or}
use Rattle.std.proofs.lemmas.List.{length-map, get_or-map}
use Rattle.std.proofs.lemmas.List.Elements.{All-nil, All-cons, All-head, All-tail, All-weaker}
use Rattle.basics.specs.Reading.{all_pass}
use Rattle.basics.specs.declared.fault.Fault.{Fault}
use Rattle.glif.specs.Limits.{IsCodePoint, IsOffsetWithin, IsWithinLimits}
use Rattle.glif.specs.declared.shape.Drawing.{Drawing}
use Rattle.compat.specs.Flattened.{AreFit}
use Rattle.ufo_source.specs.Limits.{AreNamed, IsDrawingWithin, IsGlyphWithin}
use Rattle.font_sources.specs.Limits.{AreGlyphsOf, AreWithin, IsSourceWithin, IsWholeSource, folders_of, paths_of}
use Rattle.font_sources.specs.declared.found.FontSources.{FontSources}
use Rattle.font_sources.specs.declared.found.SourceGlyphs.{SourceGlyphs}
use Rattle.designspace.specs.declared.source.Source.{Source}
use Rattle.font_project.specs.Codes.{HasCodePoints}
use Rattle.font_project.specs.Fonts.{default_number}
use Rattle.font_project.specs.Limits.{AreDrawnWithin, IsDrawnWithin, IsFrameWithin}
use Rattle.font_project.specs.Presence.{are_there, drawings_in, drawn_source, drawn_sources, is_in_each, is_there, missing_fault, there_or}
use Rattle.font_project.specs.declared.drawn.DrawnSource.{DrawnSource}
use Rattle.font_project.proofs.Passing.{below_length, item_at, pass_at}

-- ---- the drawings of a source

there_not_none : (folder name : List ℕ) (glyph : Option (Option Drawing)) → there_or folder name glyph ≡ Ok tt → glyph ≡ Some None → ⊥
there_not_none folder name (Some None) passes is = cc
there_not_none folder name None passes is = cc
there_not_none folder name (Some (Some drawing)) passes is = cc

-- no glyph is missing
none_missing : (sources : List SourceGlyphs) (names : List (List ℕ)) → are_there sources names ≡ Ok tt → (s : ℕ) (source : SourceGlyphs) → slice_get sources s ≡ Some source
    → (glyph : ℕ) → glyph < length names → slice_get source.glyphs glyph ≡ Some None → ⊥
unfolding is_in_each
none_missing sources names all s source stands glyph below missing =
    let name : List ℕ = get_or names glyph [] in
    let each : all_pass (is_there (0 + glyph) name) 0 sources ≡ Ok tt = pass_at (is_in_each sources) 0 names all glyph name (item_at names glyph [] below) in
    let here : is_there (0 + glyph) name (0 + s) source ≡ Ok tt = pass_at (is_there (0 + glyph) name) 0 sources each s source stands in
    let number : 0 + glyph ≡ glyph = omega arith in
    there_not_none source.folder name (slice_get source.glyphs glyph) (subst (λ (n : ℕ). there_or source.folder name (slice_get source.glyphs n) ≡ Ok tt) number here) missing

full : (glyphs : List (Option Drawing)) → ((glyph : ℕ) → glyph < length glyphs → slice_get glyphs glyph ≡ Some None → ⊥) → length (drawings_in glyphs) ≡ length glyphs
full [] present = refl
full (None ∷ glyphs) present = absurd (present 0 (omega arith) refl)
full (Some drawing ∷ glyphs) present = ap suc (full glyphs (λ glyph below. present (suc glyph) (omega (arith, below))))

few : (glyphs : List (Option Drawing)) → length (drawings_in glyphs) ≤ length glyphs
few [] = omega arith
few (None ∷ glyphs) = omega (arith, few glyphs)
few (Some drawing ∷ glyphs) = omega (arith, few glyphs)

drawings_all : (P : Drawing → Type 0) (glyphs : List (Option Drawing)) → All (λ glyph. IfSome glyph P) glyphs → All P (drawings_in glyphs)
drawings_all P [] all = All-nil P
drawings_all P (None ∷ glyphs) all = drawings_all P glyphs (All-tail (λ glyph. IfSome glyph P) None glyphs all)
drawings_all P (Some drawing ∷ glyphs) all = All-cons P drawing (drawings_in glyphs) (All-head (λ glyph. IfSome glyph P) (Some drawing) glyphs all) (drawings_all P glyphs (All-tail (λ glyph. IfSome glyph P) (Some drawing) glyphs all))

named_length : (names : List (List ℕ)) (glyphs : List (Option Drawing)) → AreNamed names glyphs → length glyphs ≡ length names
named_length [] [] named = refl
named_length [] (glyph ∷ glyphs) named = absurd named
named_length (name ∷ names) [] named = absurd named
named_length (name ∷ names) (glyph ∷ glyphs) named = ap suc (named_length names glyphs named.1)

drawn_within : (names : List (List ℕ)) (source : SourceGlyphs) → length names ≤ 32510 → AreGlyphsOf names source.glyphs
    → ((glyph : ℕ) → glyph < length names → slice_get source.glyphs glyph ≡ Some None → ⊥) → IsDrawnWithin (length names) (drawn_source source)
drawn_within names source small glyphs present =
    let count : length source.glyphs ≡ length names = named_length names source.glyphs glyphs.named in
    let drawings : All IsDrawingWithin (drawings_in source.glyphs) = drawings_all IsDrawingWithin source.glyphs glyphs.within in
    record {
      one_each = full source.glyphs (λ glyph below. present glyph (omega (arith, below, count))) ∙ count;
      fit = record {
        few = omega (arith, few source.glyphs, count);
        within = All-weaker IsDrawingWithin (λ (drawing : Drawing). IsWithinLimits drawing.outline) (λ drawing inside. inside.outline) (drawings_in source.glyphs) drawings;
        offsets = All-weaker IsDrawingWithin (λ (drawing : Drawing). All IsOffsetWithin drawing.components) (λ drawing inside. inside.offsets) (drawings_in source.glyphs) drawings;
      };
      points = All-weaker IsDrawingWithin HasCodePoints (λ drawing inside. inside.codes) (drawings_in source.glyphs) drawings;
    }

-- ---- all sources

default_there : (sources : List SourceGlyphs) (number : ℕ) → IsSomeAnd (slice_get sources number) IsWholeSource → number < length sources
default_there [] number there = absurd there
default_there (source ∷ sources) zero there = omega arith
default_there (source ∷ sources) (suc number) there = let rest : number < length sources = default_there sources number there in omega (arith, rest)

source_count : (found : FontSources) → AreWithin found → length found.sources ≡ length found.design.sources
source_count found within =
    sym (length-map found.sources (λ (source : SourceGlyphs). source.folder)) ∙ (ap length within.folders ∙ length-map found.design.sources (λ (source : Source). source.path))

-- the sources draw all that they must
pub are_drawn : (found : FontSources) → AreWithin found → are_there found.sources found.names ≡ Ok tt
    → AreDrawnWithin (length found.names) (length found.design.sources) (default_number found) (drawn_sources found.sources)
are_drawn found within all = record {
  one_each = length-map found.sources drawn_source ∙ source_count found within;
  there = omega (arith, default_there found.sources (default_number found) within.default, source_count found within);
  each = λ k d below.
      let inside : k < length found.sources = omega (arith, below, length-map found.sources drawn_source) in
      let none : SourceGlyphs = record { folder = []; units = get_or [] 0 found.info.units; glyphs = [] } in
      let source : SourceGlyphs = get_or found.sources k none in
      subst (IsDrawnWithin (length found.names)) (sym (get_or-map drawn_source found.sources k none d inside))
      (drawn_within found.names source within.names.few (within.sources k none inside) (none_missing found.sources found.names all k source (item_at found.sources k none inside)));
}

pub is_frame : (found : FontSources) → AreWithin found → IsFrameWithin found
is_frame found within = record { design = within.design; order = within.order; info = within.info; names = within.names }
