use Rattle.std.proofs.Common.{◌≡◌, ℤ, pos, ◌≤ℤ◌, FitsSigned, ap, ◌∙◌, arith, to_z, of_z, rules}
use Rattle.std.proofs.lemmas.Int.{ints}
use Rattle.std.specs.Int.{w16, w64}
use Rattle.std.specs.Int.RustNames.{unsigned_abs}
use Rattle.fixpoint.specs.Rounding.{round_up}
use Rattle.plain_tables.specs.GlyphMeasures.{average_of}
use Rattle.plain_tables.proofs.FieldRanges.{no_average, rounded_average}
use Rattle.plain_tables.proofs.measures.average.Goals as goal

-- the quotient is the average, and within limits
value : (c : goal.After-divide_up) → (c.divide_up.result ≡ average_of c.args.widths) × (pos 0 ≤ℤ c.divide_up.result) × (c.divide_up.result ≤ℤ pos 16383)
value c =
    let fits : FitsSigned w64 c.args.widths.sum = search rules in
    let sum : to_z w64 (of_z w64 c.args.widths.sum) ≡ c.args.widths.sum = omega (arith, ints) in
    let count : to_z w64 (of_z w64 c.from.result) ≡ pos c.args.widths.count = omega (arith, ints) in
    let divisor : unsigned_abs (to_z w64 (of_z w64 c.from.result)) ≡ c.args.widths.count = ap unsigned_abs count in
    rounded_average c.args.widths c.divide_up.result c.requires c.if-widths-eq0.false (cc (sum, divisor, c.divide_up.ensures.value))

pub returns-then-widths-eq0 : goal.returns-then-widths-eq0
returns-then-widths-eq0 c = no_average c.args.widths c.if-widths-eq0.true

pub overflow_cast-result : goal.overflow_cast-result
overflow_cast-result c =
    let own = value c in
    omega (arith, ints, own.1, own.2)

pub returns : goal.returns
returns c =
    let own = value c in
    let plain : to_z w16 (of_z w16 (to_z w64 (of_z w64 c.divide_up.result))) ≡ c.divide_up.result = omega (arith, ints, own.1, own.2) in
    plain ∙ own.0
