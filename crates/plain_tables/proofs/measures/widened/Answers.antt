use Rattle.std.proofs.Common.{◌≡◌, ◌+◌, ℤ, pos, ◌+ℤ◌, Bool, true, false, FitsSigned, refl, sym, ap, ◌∙◌, arith, to_z, of_z, rules}
use Rattle.std.proofs.lemmas.Int.{clamps, ints}
use Rattle.std.specs.Prelude.{int_lt}
use Rattle.std.specs.Int.{int_max, w32, w64}
use Rattle.plain_tables.proofs.MeasureSteps.{widths_kept, widths_more}
use Rattle.plain_tables.proofs.measures.widened.Goals as goal

pub returns-then-advance-gt0-clause-value : goal.returns-then-advance-gt0-clause-value
returns-then-advance-gt0-clause-value c =
    let first : to_z w32 (of_z w32 c.args.widths.widest) ≡ c.args.widths.widest = omega (arith, ints) in
    let second : to_z w32 (of_z w32 c.args.advance) ≡ c.args.advance = omega (arith, ints) in
    let plain : to_z w32 (of_z w32 c.max-widest.result) ≡ c.max-widest.result = omega (arith, ints) in
    let widest : to_z w32 (of_z w32 c.max-widest.result) ≡ int_max c.args.widths.widest c.args.advance = cc (first, second, plain, c.max-widest.ensures.value) in
    let sum : to_z w64 (of_z w64 (to_z w64 (of_z w64 c.args.widths.sum) +ℤ to_z w64 (of_z w64 c.from.result))) ≡ c.args.widths.sum +ℤ c.args.advance = omega (arith, ints) in
    let test : int_lt (pos 0) c.args.advance ≡ true = ap (int_lt (pos 0)) (sym second) ∙ c.if-advance-gt0.true in
    λ advances was. widths_more advances c.args.advance c.args.widths _ _ _ c.requires.advance.least test widest refl sum was

pub returns-then-advance-gt0-clause-within : goal.returns-then-advance-gt0-clause-within
returns-then-advance-gt0-clause-within c = record {
  widest = record { least = omega (arith, ints, clamps); greatest = omega (arith, ints, clamps) };
  least = omega (arith, ints);
  greatest = omega (arith, ints);
}

pub returns-clause-value : goal.returns-clause-value
returns-clause-value c =
    let first : to_z w32 (of_z w32 c.args.widths.widest) ≡ c.args.widths.widest = omega (arith, ints) in
    let second : to_z w32 (of_z w32 c.args.advance) ≡ c.args.advance = omega (arith, ints) in
    let plain : to_z w32 (of_z w32 c.max-widest.result) ≡ c.max-widest.result = omega (arith, ints) in
    let widest : to_z w32 (of_z w32 c.max-widest.result) ≡ int_max c.args.widths.widest c.args.advance = cc (first, second, plain, c.max-widest.ensures.value) in
    let sum : to_z w64 (of_z w64 c.args.widths.sum) ≡ c.args.widths.sum = omega (arith, ints) in
    let test : int_lt (pos 0) c.args.advance ≡ false = ap (int_lt (pos 0)) (sym second) ∙ c.if-advance-gt0.false in
    λ advances was. widths_kept advances c.args.advance c.args.widths _ _ _ c.requires.advance.least test widest refl sum was
