use Rattle.std.proofs.Common.{◌≡◌, Bool, true, false, not, FitsSigned, refl, arith, to_z, of_z, rules}
use Rattle.std.proofs.lemmas.Int.{ints}
use Rattle.std.specs.Int.{int_min, w16}
use Rattle.plain_tables.specs.GlyphMeasures.{right_bearing}
use Rattle.plain_tables.proofs.MeasureSteps.{extent_first, extent_kept, extent_more}
use Rattle.plain_tables.proofs.measures.extended.Goals as goal

not_some : (b : Bool) → not b ≡ true → b ≡ false
not_some true is = absurd (cc)
not_some false is = refl

some : (b : Bool) → not b ≡ false → b ≡ true
some true is = refl
some false is = absurd (cc)

pub returns-then-glyph-eq0 : goal.returns-then-glyph-eq0
returns-then-glyph-eq0 c = λ glyphs was. extent_kept glyphs c.args.glyph c.args.extent c.if-glyph-eq0.true was

pub returns-then-not-extent : goal.returns-then-not-extent
returns-then-not-extent c =
    let own : to_z w16 (of_z w16 c.right_bearing-right.result) ≡ right_bearing c.args.glyph = omega (arith, ints) in
    λ glyphs was. extent_first glyphs c.args.glyph c.args.extent _ c.if-glyph-eq0.false (not_some c.args.extent.some c.if-not-extent.true) own was

pub returns : goal.returns
returns c =
    let fits : FitsSigned w16 c.args.extent.right = search rules in
    let first : to_z w16 (of_z w16 c.args.extent.right) ≡ c.args.extent.right = omega (arith, ints) in
    let second : to_z w16 (of_z w16 c.right_bearing-right.result) ≡ c.right_bearing-right.result = omega (arith, ints) in
    let plain : to_z w16 (of_z w16 c.lesser.result) ≡ c.lesser.result = omega (arith, ints) in
    let least : to_z w16 (of_z w16 c.lesser.result) ≡ int_min c.args.extent.right (right_bearing c.args.glyph) = cc (first, second, plain, c.lesser.ensures, c.right_bearing-right.ensures) in
    λ glyphs was.
    extent_more glyphs c.args.glyph c.args.extent c.round_both.result _ c.if-glyph-eq0.false (some c.args.extent.some c.if-not-extent.false)
    (record { x_min = c.round_both.ensures.x_min; y_min = c.round_both.ensures.y_min; x_max = c.round_both.ensures.x_max; y_max = c.round_both.ensures.y_max })
    least was
