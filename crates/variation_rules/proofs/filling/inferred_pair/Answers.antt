use Rattle.std.proofs.Common.{to_z-of_z, FitsSigned, arith}
use Rattle.std.proofs.lemmas.Int.{ints}
use Rattle.std.specs.Int.{w32}
use Rattle.variation_rules.proofs.filling.inferred_pair.Goals as goal

pub returns-in_err-x-clause-value : goal.returns-in_err-x-clause-value
returns-in_err-x-clause-value c =
    let fits : FitsSigned w32 c.args.point.x = omega (arith, ints) in
    let none = simp (to_z-of_z, c.horizontal.ensures.value, c.horizontal-2.ensures.value) at c.in_err-x.ensures.value in
    rw c.from_residual.ensures (λ delta inferred. none delta.x inferred.x)

pub returns-in_err-y-clause-value : goal.returns-in_err-y-clause-value
returns-in_err-y-clause-value c =
    let fits : FitsSigned w32 c.args.point.y = omega (arith, ints) in
    let none = simp (to_z-of_z, c.vertical.ensures.value, c.vertical-2.ensures.value) at c.in_err-y.ensures.value in
    rw c.from_residual-in_err-y.ensures (λ delta inferred. none delta.y inferred.y)

pub returns-clause-value : goal.returns-clause-value
returns-clause-value c =
    let x_at : FitsSigned w32 c.args.point.x = omega (arith, ints) in
    let y_at : FitsSigned w32 c.args.point.y = omega (arith, ints) in
    let x_fits : FitsSigned w32 c.in_ok-x.x = omega (arith, ints, c.in_ok-x.ensures.within) in
    let y_fits : FitsSigned w32 c.in_ok-y.y = omega (arith, ints, c.in_ok-y.ensures.within) in
    let x = simp (to_z-of_z, c.horizontal.ensures.value, c.horizontal-2.ensures.value) at c.in_ok-x.ensures.value in
    let y = simp (to_z-of_z, c.vertical.ensures.value, c.vertical-2.ensures.value) at c.in_ok-y.ensures.value in
    simp to_z-of_z (record { x = x; y = y })
