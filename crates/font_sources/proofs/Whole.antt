-- What holds of the glyphs of the default source in glyph order, and of the other sources' glyphs.
use Rattle.std.proofs.Common.{◌≡◌, ◌<◌, ◌≤◌, ◌≢◌, ℕ, zero, suc, ℤ, pos, negsuc, ◌+◌, ◌/◌, Bool, true, false, not, List, [], ◌∷◌, ◌++◌, length, map, take, drop, get_or, Option, Some, None, refl, sym, ◌∙◌, ap, subst, arith, codes, lit≤, nat_le}
use Rattle.std.specs.Prelude.{All, IfOk, Result, IfSome, IsSome, IsSomeAnd, T, ◌≤ℤ◌, slice_get}
use Rattle.std.specs.List.{AllByRecursion, AllZip, flat_map, list_any}
use Rattle.std.specs.Int.{int_div_euclid}
use Rattle.std.specs.Str.{bytes_eq}
use Rattle.std.proofs.lemmas.Int.{ints}
use Rattle.std.proofs.lemmas.List.{length-map, length-take-le, map-append}
use Rattle.std.proofs.lemmas.List.Elements.{All-from_recursion, recursion_from_All}
use Rattle.source_files.specs.declared.stop.ReadStop.{ReadStop}
use Rattle.fontinfo.specs.Ranges as range
use Rattle.fontinfo.specs.Ranges.{IsWithin}
use Rattle.glif.specs.Limits.{AreDistinct, IsWithinLimits}
use Rattle.glif.specs.declared.shape.Drawing.{Drawing}
use Rattle.ufo_source.specs.Limits.{AreNamed, HasName, IsDrawingWithin, IsGlyphName, IsGlyphWithin, IsMasterWithin, IsNameByte, IsPartOf, IsWhole, all_codes, codes_of, count_of_names}
use Rattle.ufo_source.specs.declared.folder.Master.{Master}
use Rattle.font_sources.specs.GlyphOrder.{glyph_at, glyph_order, glyphs_named, is_among, made_notdef, makes_notdef, names_in_order, notdef, with_made}
use Rattle.font_sources.specs.Limits.{AreGlyphNames, AreGlyphsOf, AreWhole, IsDefaultWithin, IsFamilyOf, IsSourceWithin, IsWholeSource, folders_of, paths_of}
use Rattle.font_sources.specs.declared.default_source.DefaultSource.{DefaultSource}
use Rattle.font_sources.specs.declared.family.Family.{Family}
use Rattle.font_sources.specs.declared.found.SourceGlyphs.{SourceGlyphs}
use Rattle.designspace.specs.declared.source.Source.{Source}
use Rattle.font_sources.specs.Naming.{position_of}
use Rattle.font_sources.specs.Sources.{default_of, joined, source_glyphs, source_of}
use Rattle.font_sources.proofs.Order.{IsAmong, IsFound, StartsWith, any_place, found, order_among, order_few, order_once, order_starts, starts_first}
use Rattle.font_sources.proofs.Pairs.{Between, Pairs, all_append, all_both, all_map, all_such, at_two, between_turned, flat_pairs, flat_parts, pairs_from, pairs_to, zip_at, zip_map}

-- ---- the glyph of a name

abbrev glyph_of : List (List ℕ) → List (Option Drawing) → List ℕ → Option Drawing
glyph_of names glyphs name = glyph_at glyphs (position_of names name)

glyph_is : (names : List (List ℕ)) (glyphs : List (Option Drawing)) (name : List ℕ) (is : IsFound names name) → glyph_of names glyphs name ≡ get_or glyphs is.at None
glyph_is names glyphs name is = ap (glyph_at glyphs) is.is

-- what holds of all glyphs holds of those of some names
glyphs_such : (P : Option Drawing → Type 0) (names : List (List ℕ)) (glyphs : List (Option Drawing)) → length glyphs ≡ length names → All P glyphs
    → (wanted : List (List ℕ)) → AllByRecursion (IsAmong names) wanted → AllByRecursion P (glyphs_named names glyphs wanted)
glyphs_such P names glyphs counts each wanted among =
    all_map (IsAmong names) P (glyph_of names glyphs)
    (λ name is. let at = found names name is in subst P (sym (glyph_is names glyphs name at)) (each at.at None (omega (arith, at.below)))) wanted among

-- each has its name
glyphs_have_names : (names : List (List ℕ)) (glyphs : List (Option Drawing)) → AreNamed names glyphs
    → (wanted : List (List ℕ)) → AllByRecursion (IsAmong names) wanted → AreNamed wanted (glyphs_named names glyphs wanted)
glyphs_have_names names glyphs named wanted among =
    zip_map HasName (glyph_of names glyphs) wanted
    (all_such (IsAmong names) (λ name. HasName name (glyph_of names glyphs name))
    (λ name is. let at = found names name is in subst (HasName name) (sym (glyph_is names glyphs name at)) (subst (λ n. HasName n (get_or glyphs at.at None)) at.named (zip_at HasName names glyphs named at.at [] None at.below))) wanted among)

-- what holds of any two glyphs holds of those of any two names
glyphs_apart : (R : Option Drawing → Option Drawing → Type 0) → ((x y : Option Drawing) → R x y → R y x) → (names : List (List ℕ)) (glyphs : List (Option Drawing)) → length glyphs ≡ length names → Pairs R glyphs
    → (wanted : List (List ℕ)) → AllByRecursion (IsAmong names) wanted → Pairs (λ a b. a ≢ b) wanted → Pairs R (glyphs_named names glyphs wanted)
glyphs_apart R turned names glyphs counts pairs [] among once = tt
glyphs_apart R turned names glyphs counts pairs (name ∷ wanted) among once =
    let first : IsFound names name = found names name among.0 in (
      all_map (λ other. IsAmong names other × (name ≢ other)) (R (glyph_of names glyphs name)) (glyph_of names glyphs)
          (λ other is.
          let second : IsFound names other = found names other is.0 in
          let apart : first.at ≢ second.at = λ same. is.1 (sym first.named ∙ (ap (λ n. get_or names n []) same ∙ second.named)) in
          subst (λ (x : Option Drawing). R x (glyph_of names glyphs other)) (sym (glyph_is names glyphs name first))
          (subst (R (get_or glyphs first.at None)) (sym (glyph_is names glyphs other second))
          (at_two R turned glyphs pairs first.at second.at None apart (omega (arith, first.below)) (omega (arith, second.below)))))
          wanted (all_both (IsAmong names) (λ other. name ≢ other) wanted among.1 once.0),
      glyphs_apart R turned names glyphs counts pairs wanted among.1 once.1,
    )

-- no code point stands twice
codes_apart : (names : List (List ℕ)) (glyphs : List (Option Drawing)) → length glyphs ≡ length names → AreDistinct (all_codes glyphs)
    → (wanted : List (List ℕ)) → AllByRecursion (IsAmong names) wanted → Pairs (λ a b. a ≢ b) wanted → AreDistinct (all_codes (glyphs_named names glyphs wanted))
codes_apart names glyphs counts once wanted among apart =
    let Differ : ℕ → ℕ → Type 0 = λ a b. a ≢ b in
    let turned : (a b : ℕ) → Differ a b → Differ b a = λ a b differ same. differ (sym same) in
    let parts = flat_parts Differ codes_of glyphs (pairs_from Differ (all_codes glyphs) once) in
    pairs_to Differ (all_codes (glyphs_named names glyphs wanted))
    (flat_pairs Differ codes_of (glyphs_named names glyphs wanted)
    (glyphs_such (λ glyph. Pairs Differ (codes_of glyph)) names glyphs counts (All-from_recursion (λ glyph. Pairs Differ (codes_of glyph)) glyphs parts.0) wanted among)
    (glyphs_apart (Between Differ codes_of) (between_turned Differ turned codes_of) names glyphs counts parts.1 wanted among apart))

-- ---- a made `.notdef`

notdef_name : IsGlyphName notdef
notdef_name = record {
  least = lit≤ tt;
  greatest = lit≤ tt;
  bytes = All-from_recursion IsNameByte notdef (shown 46 tt tt, (shown 110 tt tt, (shown 111 tt tt, (shown 116 tt tt, (shown 100 tt tt, (shown 101 tt tt, (shown 102 tt tt, tt)))))));
}
  where
    shown : (byte : ℕ) → T (nat_le 33 byte) → T (nat_le byte 126) → IsNameByte byte
    shown byte least greatest = record { least = lit≤ least; greatest = lit≤ greatest }

half_within : (units : ℤ) → IsWithin range.units units → (pos 0 ≤ℤ int_div_euclid units (pos 2)) × (int_div_euclid units (pos 2) ≤ℤ pos 16383)
half_within (pos n) within = (omega (arith, ints), omega (arith, ints, within.high))
half_within (negsuc n) within = absurd (omega (arith, ints, within.low))

none_such : {X : Type 0} (P : X → Type 0) → All P []
none_such P = All-from_recursion P [] tt

made_within : (units : ℤ) → IsWithin range.units units → IsDrawingWithin (made_notdef units)
made_within units within =
    let half = half_within units within in
    record {
      outline = record { least_advance = half.0; greatest_advance = half.1; contours_within = none_such _; points = lit≤ tt };
      offsets = none_such _;
      codes = none_such _;
      once = pairs_to (λ a b. a ≢ b) [] tt;
    }

-- ---- what holds of all glyphs

pub glyphs_made : (makes : Bool) (units : ℤ) (names : List (List ℕ)) (glyphs : List (Option Drawing)) → IsWithin range.units units → AreNamed names glyphs → All IsGlyphWithin glyphs
    → AreGlyphsOf (glyph_order makes names) (with_made makes units glyphs)
glyphs_made true units names glyphs units_within named within = record {
  named = (refl, named);
  within = All-from_recursion IsGlyphWithin (Some (made_notdef units) ∷ glyphs) (made_within units units_within, recursion_from_All IsGlyphWithin glyphs within);
}
glyphs_made false units names glyphs units_within named within = record { named = named; within = within }

whole_made : (makes : Bool) (units : ℤ) (glyphs : List (Option Drawing)) → AllByRecursion IsSome glyphs → AreDistinct (all_codes glyphs) → AreWhole (with_made makes units glyphs)
whole_made true units glyphs there once = record { there = All-from_recursion IsSome (Some (made_notdef units) ∷ glyphs) (refl, there); codes_once = once }
whole_made false units glyphs there once = record { there = All-from_recursion IsSome glyphs there; codes_once = once }

found_name : (P : List ℕ → Type 0) (names : List (List ℕ)) → All P names → (name : List ℕ) → IsAmong names name → P name
found_name P names each name among = let at = found names name among in subst P at.named (each at.at [] at.below)

names_made : (order names : List (List ℕ)) (here : Bool) → is_among names notdef ≡ here → All IsGlyphName names → count_of_names names ≤ 32510 → AreGlyphNames (glyph_order (not here) (names_in_order order names))
names_made order names true is each few = record {
  each = All-from_recursion IsGlyphName (names_in_order order names) (all_such (IsAmong names) IsGlyphName (found_name IsGlyphName names each) (names_in_order order names) (order_among order names));
  few = omega (arith, few, order_few order names);
  once = pairs_to (λ a b. a ≢ b) (names_in_order order names) (order_once order names);
  first = starts_first notdef (names_in_order order names) (order_starts order names is);
}
names_made order names false is each few =
    let none : list_any (λ name. bytes_eq name notdef) names ≡ false = sym (any_place (λ other. bytes_eq other notdef) 0 names) ∙ is in
    let more : length names + 1 ≤ 32510 = rw none at few in
    record {
      each = All-from_recursion IsGlyphName (notdef ∷ names_in_order order names) (notdef_name, all_such (IsAmong names) IsGlyphName (found_name IsGlyphName names each) (names_in_order order names) (order_among order names));
      few = omega (arith, more, order_few order names);
      once = pairs_to (λ a b. a ≢ b) (notdef ∷ names_in_order order names) (all_such (IsAmong names) (λ name. notdef ≢ name) (λ name among same. let here : is_among names notdef ≡ true = subst (IsAmong names) (sym same) among in cc) (names_in_order order names) (order_among order names), order_once order names);
      first = refl;
    }

-- the default source that was read whole
pub default_within : (master : Master) → IsMasterWithin master → IsWhole master → IsDefaultWithin (default_of master)
default_within master within whole =
    let among = order_among master.order master.names in
    record {
      info = record { numbers = within.numbers; texts = within.texts };
      names = names_made master.order master.names (is_among master.names notdef) refl whole.names whole.few;
      glyphs = glyphs_made (makes_notdef master.names) master.info.units (names_in_order master.order master.names) (default_of master).glyphs within.numbers.units_within
          (glyphs_have_names master.names master.glyphs whole.named (names_in_order master.order master.names) among)
          (All-from_recursion IsGlyphWithin (default_of master).glyphs (glyphs_such IsGlyphWithin master.names master.glyphs within.counts within.drawings (names_in_order master.order master.names) among));
      whole = whole_made (makes_notdef master.names) master.info.units (default_of master).glyphs
          (glyphs_such IsSome master.names master.glyphs within.counts whole.there (names_in_order master.order master.names) among)
          (codes_apart master.names master.glyphs within.counts whole.codes_once (names_in_order master.order master.names) among (order_once master.order master.names));
    }

pub order_distinct : (order names wanted : List (List ℕ)) → wanted ≡ names_in_order order names → AreDistinct wanted
order_distinct order names wanted is = subst (λ (all : List (List ℕ)). AreDistinct all) (sym is) (pairs_to (λ a b. a ≢ b) (names_in_order order names) (order_once order names))

-- another source, of which the default source's glyphs were wanted
pub source_within : (default : DefaultSource) (source : Source) (master : Master) (found : SourceGlyphs) → found ≡ source_of default source master → IsDefaultWithin default → IsMasterWithin master → IsPartOf default.names master
    → IsSourceWithin (glyph_order default.makes default.names) found
source_within default source master found is within master_within part =
    subst (λ (found : SourceGlyphs). IsSourceWithin (glyph_order default.makes default.names) found) (sym is)
    (glyphs_made default.makes default.info.units default.names master.glyphs within.info.numbers.units_within part.named master_within.drawings)

-- ---- all sources

placed_at : {X : Type 0} (xs : List X) (y : X) (ys : List X) → slice_get (xs ++ (y ∷ ys)) (length xs) ≡ Some y
placed_at [] y ys = refl
placed_at (x ∷ xs) y ys = placed_at xs y ys

all_parted : {X : Type 0} (P : X → Type 0) (xs : List X) (y : X) (ys : List X) → All P xs → P y → All P ys → All P (xs ++ (y ∷ ys))
all_parted P xs y ys before here after =
    All-from_recursion P (xs ++ (y ∷ ys)) (all_append P xs (y ∷ ys) (recursion_from_All P xs before) (here, recursion_from_All P ys after))

pub family_within : (default : DefaultSource) (source : Source) (before after : List Source) (earlier later : List SourceGlyphs) (family : Family) → family ≡ joined default source.path earlier later → IsDefaultWithin default
    → All (IsSourceWithin (glyph_order default.makes default.names)) earlier → All (IsSourceWithin (glyph_order default.makes default.names)) later
    → folders_of earlier ≡ paths_of before → folders_of later ≡ paths_of after → IsFamilyOf (paths_of before ++ (source.path ∷ paths_of after)) (length before) family
family_within default source before after earlier later family is within first second same_first same_second =
    let own = source_glyphs default.makes default.info.units source.path default.info.units default.glyphs in
    let count : length earlier ≡ length before = simp length-map at (ap length same_first) in
    subst (λ (family : Family). IsFamilyOf (paths_of before ++ (source.path ∷ paths_of after)) (length before) family) (sym is)
    (record {
      info = within.info;
      names = within.names;
      folders = map-append (λ (found : SourceGlyphs). found.folder) earlier (own ∷ later) ∙ (ap (λ folders. folders ++ (source.path ∷ folders_of later)) same_first ∙ ap (λ folders. paths_of before ++ (source.path ∷ folders)) same_second);
      sources = all_parted (IsSourceWithin (glyph_order default.makes default.names)) earlier own later first within.glyphs second;
      default = subst (λ (found : Option SourceGlyphs). IsSomeAnd found IsWholeSource) (sym (ap (λ n. slice_get (earlier ++ (own ∷ later)) n) (sym count) ∙ placed_at earlier own later)) within.whole;
    })

paths_parted : (sources : List Source) (n : ℕ) (d : Source) → n < length sources → paths_of (take n sources) ++ ((get_or sources n d).path ∷ paths_of (drop (suc n) sources)) ≡ paths_of sources
paths_parted [] n d below = absurd (omega arith)
paths_parted (source ∷ sources) zero d below = refl
paths_parted (source ∷ sources) (suc n) d below = ap (λ paths. source.path ∷ paths) (paths_parted sources n d (omega arith))

-- the sources before one, it, and those after it
pub family_parted : (sources : List Source) (number : ℕ) (source : Source) (before after : List Source) (result : Result Family ReadStop) → number < length sources → source ≡ get_or sources number source
    → before ≡ take number sources → after ≡ drop (number + 1) sources → IfOk result (IsFamilyOf (paths_of before ++ (source.path ∷ paths_of after)) (length before)) → IfOk result (IsFamilyOf (paths_of sources) number)
family_parted sources number source before after result below at first second is =
    let counts : length before ≡ number = ap length first ∙ length-take-le number sources (omega arith) in
    let same : number + 1 ≡ suc number = omega arith in
    let next : drop (number + 1) sources ≡ drop (suc number) sources = ap (λ n. drop n sources) same in
    let paths : paths_of before ++ (source.path ∷ paths_of after) ≡ paths_of sources =
    ap (λ (some : List Source). paths_of some ++ (source.path ∷ paths_of after)) first
    ∙ (ap (λ (some : List Source). paths_of (take number sources) ++ (source.path ∷ paths_of some)) (second ∙ next)
    ∙ (ap (λ (one : Source). paths_of (take number sources) ++ (one.path ∷ paths_of (drop (suc number) sources))) at
    ∙ paths_parted sources number source below)) in
    subst (λ (all : List (List ℕ)). IfOk result (IsFamilyOf all number)) paths (subst (λ (n : ℕ). IfOk result (IsFamilyOf (paths_of before ++ (source.path ∷ paths_of after)) n)) counts is)
