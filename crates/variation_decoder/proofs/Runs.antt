-- Each run that is read holds some values.
use Rattle.std.proofs.Common.{◌≡◌, ℕ, ◌<◌, cond, ltb, Some, None, arith}
use Rattle.std.proofs.lemmas.Bool.Decides.{nat_tests}
use Rattle.variation_decoder.specs.Reading.{many, byte_at}
use Rattle.variation_decoder.specs.Deltas.{delta_control, delta_at, delta_run_at}
use Rattle.variation_decoder.specs.Points.{point_control, difference_at, difference_run_at}
use Rattle.variation_rules.specs.declared.runs.DeltaClass.{DeltaClass}
use Rattle.variation_decoder.proofs.Steps.{unless_some}
use Rattle.variation_decoder.proofs.Loops.{HoldSome, many_length}
use Rattle.basics.specs.Optional.{◌>>=◌}
use Rattle.basics.proofs.Optional.{bind_some}

delta_control_some : (byte : ℕ) (control : DeltaClass × ℕ) → delta_control byte ≡ Some control → 0 < control.1
delta_control_some byte control e = grind (arith, nat_tests)

pub delta_runs_hold : HoldSome delta_run_at
unfolding delta_run_at
delta_runs_hold n bytes run e =
    let byte = bind_some (byte_at bytes) (λ byte. delta_control byte.0 >>= λ control. cond (ltb n control.1) None (many (delta_at control.0) control.1 byte.1)) run e in
    let control = bind_some (delta_control byte.0.0) (λ control. cond (ltb n control.1) None (many (delta_at control.0) control.1 byte.0.1)) run byte.2 in
    let room = unless_some (ltb n control.0.1) (many (delta_at control.0.0) control.0.1 byte.0.1) run control.2 in
    omega (arith, many_length (delta_at control.0.0) control.0.1 byte.0.1 run room.1, delta_control_some byte.0.0 control.0 control.1)

point_control_some : (byte : ℕ) → 0 < (point_control byte).1
point_control_some byte = grind (arith, nat_tests)

pub difference_runs_hold : HoldSome difference_run_at
unfolding difference_run_at
difference_runs_hold n bytes run e =
    let byte = bind_some (byte_at bytes) (λ byte. cond (ltb n (point_control byte.0).1) None (many (difference_at (point_control byte.0).0) (point_control byte.0).1 byte.1)) run e in
    let room = unless_some (ltb n (point_control byte.0.0).1) (many (difference_at (point_control byte.0.0).0) (point_control byte.0.0).1 byte.0.1) run byte.2 in
    omega (arith, many_length (difference_at (point_control byte.0.0).0) (point_control byte.0.0).1 byte.0.1 run room.1, point_control_some byte.0.0)
