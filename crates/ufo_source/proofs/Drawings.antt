-- What holds of the drawings that are read.
use Rattle.std.proofs.Common.{◌≡◌, ◌≢◌, ℕ, ◌+◌, ◌<◌, ◌||◌, Bool, true, false, cond, List, [], ◌∷◌, ◌++◌, length, map, take, get_or, Option, Some, None, Result, Ok, Err, refl, sym, ap, ◌∙◌, subst, arith}
use Rattle.std.specs.Prelude.{All, IfOk, IsSome, find, ◌==◌, if◌then◌else◌}
use Rattle.std.specs.List.{list_any}
use Rattle.std.specs.Str.{bytes_eq}
use Rattle.std.proofs.lemmas.Bool.Decides.{Decides-eqb}
use Rattle.std.proofs.lemmas.Grind.{flat_map-append}
use Rattle.std.proofs.lemmas.List.{append-nil, map_more, take_more}
use Rattle.std.proofs.lemmas.List.Elements.{All-nil, All-cons, All-append, All-head, All-tail, All-push}
use Rattle.std.proofs.lemmas.List.Folds.{list_any_at}
use Rattle.std.proofs.lemmas.Slice.Eq.{bytes_eq-Decides}
use Rattle.basics.specs.declared.fault.Stop.{Stop}
use Rattle.glif.specs.Limits.{AreDistinct, IsCodePoint, IsOffsetWithin, IsWithinLimits}
use Rattle.glif.specs.declared.shape.Drawing.{Drawing}
use Rattle.source_files.specs.Trees.{in_file}
use Rattle.ufo_source.specs.Contents.{Entry}
use Rattle.ufo_source.specs.Glyphs.{code_or, has_code, is_taken, new_codes}
use Rattle.ufo_source.specs.Limits.{AddsGlyph, AreAllGlyphs, AreGlyphsOf, AreNamed, HasName, IsDrawingWithin, IsGlyphWithin, IsOfEntry, all_codes, codes_of}
use Rattle.ufo_source.specs.Naming.{entry_named}
use Rattle.ufo_source.proofs.Distinct.{pairs_append, pairs_nil}

-- ---- one drawing

pub together : (result : Result Drawing Stop) → IfOk result (λ (drawing : Drawing). IsWithinLimits drawing.outline) → IfOk result (λ (drawing : Drawing). All IsOffsetWithin drawing.components)
    → IfOk result (λ (drawing : Drawing). All IsCodePoint drawing.codes) → IfOk result (λ (drawing : Drawing). AreDistinct drawing.codes) → IfOk result IsDrawingWithin
together (Ok drawing) outline offsets codes once = record { outline = outline; offsets = offsets; codes = codes; once = once }
together (Err stop) outline offsets codes once = tt

pub renamed : (drawing : Drawing) (name : List ℕ) → IsDrawingWithin drawing → IsDrawingWithin (record drawing { name = name })
renamed drawing name within = record { outline = within.outline; offsets = within.offsets; codes = within.codes; once = within.once }

-- ---- its code points are new

none_parts : {X : Type 0} (b : Bool) (x : X) (later : Option X) → cond b (Some x) later ≡ None → (b ≡ false) × (later ≡ None)
none_parts true x later none = cc
none_parts false x later none = (refl, none)

none_found : {X : Type 0} (p : X → Bool) (xs : List X) → find p xs ≡ None → All (λ x. p x ≡ false) xs
none_found p [] none = All-nil (λ x. p x ≡ false)
none_found p (x ∷ xs) none =
    let parts = none_parts (p x) x (find p xs) none in
    All-cons (λ x. p x ≡ false) x xs parts.0 (none_found p xs parts.1)

no_code : (folder name : List ℕ) (found : Option ℕ) → in_file folder (code_or name found) ≡ Ok tt → found ≡ None
no_code folder name None passed = refl
no_code folder name (Some code) passed = cc

pub fresh_codes : (folder : List ℕ) (glyphs : List (Option Drawing)) (drawing : Drawing) → in_file folder (new_codes glyphs drawing) ≡ Ok tt → All (λ code. is_taken glyphs code ≡ false) drawing.codes
fresh_codes folder glyphs drawing passed = none_found (is_taken glyphs) drawing.codes (no_code folder drawing.name (find (is_taken glyphs) drawing.codes) passed)

-- ---- code points of all

neither : (a b : Bool) → (a || b) ≡ false → (a ≡ false) × (b ≡ false)
neither true b is = cc
neither false b is = (refl, is)

lacks : (codes : List ℕ) (code : ℕ) → list_any (λ other. other == code) codes ≡ false → All (λ other. other ≢ code) codes
lacks codes code none k d less same = cc (list_any_at (λ other. other == code) codes k d less ((Decides-eqb (get_or codes k d) code).1 same), none)

glyph_lacks : (glyph : Option Drawing) (code : ℕ) → has_code code glyph ≡ false → All (λ other. other ≢ code) (codes_of glyph)
glyph_lacks None code none = All-nil (λ other. other ≢ code)
glyph_lacks (Some drawing) code none = lacks drawing.codes code none

all_lack : (glyphs : List (Option Drawing)) (code : ℕ) → is_taken glyphs code ≡ false → All (λ other. other ≢ code) (all_codes glyphs)
all_lack [] code none = All-nil (λ other. other ≢ code)
all_lack (glyph ∷ glyphs) code none =
    let parts = neither (has_code code glyph) (is_taken glyphs code) none in
    All-append (λ other. other ≢ code) (codes_of glyph) (all_codes glyphs) (glyph_lacks glyph code parts.0) (all_lack glyphs code parts.1)

-- turned about: each code point of all differs from each new one
across_nil : (others : List ℕ) → All (λ other. All (λ code. other ≢ code) []) others
across_nil others k d less = All-nil (λ code. get_or others k d ≢ code)

across_cons : (others : List ℕ) (code : ℕ) (codes : List ℕ) → All (λ other. other ≢ code) others → All (λ other. All (λ code. other ≢ code) codes) others → All (λ other. All (λ code. other ≢ code) (code ∷ codes)) others
across_cons others code codes first later k d less = All-cons (λ code. get_or others k d ≢ code) code codes (first k d less) (later k d less)

across : (glyphs : List (Option Drawing)) (codes : List ℕ) → All (λ code. is_taken glyphs code ≡ false) codes → All (λ other. All (λ code. other ≢ code) codes) (all_codes glyphs)
across glyphs [] fresh = across_nil (all_codes glyphs)
across glyphs (code ∷ codes) fresh =
    across_cons (all_codes glyphs) code codes (all_lack glyphs code (All-head (λ code. is_taken glyphs code ≡ false) code codes fresh))
    (across glyphs codes (All-tail (λ code. is_taken glyphs code ≡ false) code codes fresh))

all_codes_push : (glyphs : List (Option Drawing)) (drawing : Drawing) → all_codes (glyphs ++ Some drawing ∷ []) ≡ all_codes glyphs ++ drawing.codes
all_codes_push glyphs drawing = flat_map-append codes_of glyphs (Some drawing ∷ []) ∙ ap (λ codes. all_codes glyphs ++ codes) (append-nil drawing.codes)

codes_push : (glyphs : List (Option Drawing)) (drawing : Drawing) → AreDistinct (all_codes glyphs) → AreDistinct drawing.codes → All (λ code. is_taken glyphs code ≡ false) drawing.codes → AreDistinct (all_codes (glyphs ++ Some drawing ∷ []))
codes_push glyphs drawing before own fresh =
    subst AreDistinct (sym (all_codes_push glyphs drawing))
    (pairs_append (λ earlier later. earlier ≢ later) (all_codes glyphs) drawing.codes before own (across glyphs drawing.codes fresh))

-- ---- names

pub no_names : AreNamed [] []
no_names = tt

named_push : (names : List (List ℕ)) (glyphs : List (Option Drawing)) (name : List ℕ) (glyph : Option Drawing) → AreNamed names glyphs → HasName name glyph → AreNamed (names ++ name ∷ []) (glyphs ++ glyph ∷ [])
named_push [] [] name glyph before has = (has, tt)
named_push [] (other ∷ glyphs) name glyph before has = absurd before
named_push (first ∷ names) [] name glyph before has = absurd before
named_push (first ∷ names) (other ∷ glyphs) name glyph before has = (before.0, named_push names glyphs name glyph before.1 has)

pub named_length : (names : List (List ℕ)) (glyphs : List (Option Drawing)) → AreNamed names glyphs → length glyphs ≡ length names
named_length [] [] named = refl
named_length [] (glyph ∷ glyphs) named = absurd named
named_length (name ∷ names) [] named = absurd named
named_length (name ∷ names) (glyph ∷ glyphs) named = let later = named_length names glyphs named.1 in omega arith

-- ---- all glyphs

pub none_read : AreAllGlyphs [] []
none_read = record { within = All-nil IsGlyphWithin; there = All-nil IsSome; named = tt; codes_once = pairs_nil (λ earlier later. earlier ≢ later) }

adds_one : (names : List (List ℕ)) (before after : List (Option Drawing)) (name : List ℕ) → AreAllGlyphs names before → AddsGlyph name before after → AreAllGlyphs (names ++ name ∷ []) after
adds_one names before after name all adds =
    subst (AreAllGlyphs (names ++ name ∷ [])) (sym adds.added) (record {
      within = All-push IsGlyphWithin before (Some adds.drawing) all.within adds.within;
      there = All-push IsSome before (Some adds.drawing) all.there refl;
      named = named_push names before name (Some adds.drawing) all.named adds.named;
      codes_once = codes_push before adds.drawing all.codes_once adds.within.once adds.fresh;
    })

pub one_more_read : (entries : List Entry) (i : ℕ) (entry : Entry) (before after : List (Option Drawing)) → i < length entries → entry ≡ get_or entries i entry
    → AreAllGlyphs (map (λ entry. entry.0) (take i entries)) before → AddsGlyph entry.0 before after → AreAllGlyphs (map (λ entry. entry.0) (take (i + 1) entries)) after
one_more_read entries i entry before after less is all adds =
    let names = map_more (λ (entry : Entry). entry.0) entries i entry less in
    let name : (get_or entries i entry).0 ≡ entry.0 = ap (λ (entry : Entry). entry.0) (sym is) in
    subst (λ names. AreAllGlyphs names after) (sym (names ∙ ap (λ name. map (λ (entry : Entry). entry.0) (take i entries) ++ name ∷ []) name))
    (adds_one (map (λ entry. entry.0) (take i entries)) before after entry.0 all adds)

-- ---- wanted glyphs

pub none_wanted : AreGlyphsOf [] []
none_wanted = record { within = All-nil IsGlyphWithin; named = tt }

pub one_more_wanted : (names : List (List ℕ)) (i : ℕ) (name : List ℕ) (before after : List (Option Drawing)) (glyph : Option Drawing) → i < length names → name ≡ get_or names i name → after ≡ before ++ glyph ∷ []
    → AreGlyphsOf (take i names) before → IsGlyphWithin glyph → HasName name glyph → AreGlyphsOf (take (i + 1) names) after
one_more_wanted names i name before after glyph less is added all within has =
    let more : take (i + 1) names ≡ take i names ++ name ∷ [] = take_more names i name less ∙ ap (λ other. take i names ++ other ∷ []) (sym is) in
    let one : AreGlyphsOf (take i names ++ name ∷ []) (before ++ glyph ∷ []) = record {
      within = All-push IsGlyphWithin before glyph all.within within;
      named = named_push (take i names) before name glyph all.named has;
    } in
    subst (λ names. AreGlyphsOf names after) (sym more) (subst (AreGlyphsOf (take i names ++ name ∷ [])) (sym added) one)

chosen_named : (b : Bool) (entry : Entry) (name : List ℕ) (later : Option Entry) (glyph : Option Drawing) → bytes_eq entry.0 name ≡ b
    → (IsOfEntry later glyph → HasName name glyph) → IsOfEntry (if b then Some entry else later) glyph → HasName name glyph
chosen_named true entry name later glyph same next has = subst (λ name. HasName name glyph) ((bytes_eq-Decides entry.0 name).0 same) has
chosen_named false entry name later glyph same next has = next has

of_entry : (entries : List Entry) (name : List ℕ) (glyph : Option Drawing) → IsOfEntry (entry_named entries name) glyph → HasName name glyph
of_entry [] name glyph none = subst (HasName name) (sym none) tt
of_entry (entry ∷ entries) name glyph has =
    chosen_named (bytes_eq entry.0 name) entry name (entry_named entries name) glyph refl (of_entry entries name glyph) has

pub found_named : {E : Type 0} (entries : List Entry) (name : List ℕ) (found : Option Entry) (result : Result (Option Drawing) E) → found ≡ entry_named entries name → IfOk result (IsOfEntry found) → IfOk result (HasName name)
found_named entries name found (Ok glyph) is has = of_entry entries name glyph (subst (λ found. IsOfEntry found glyph) is has)
found_named entries name found (Err stop) is has = tt
