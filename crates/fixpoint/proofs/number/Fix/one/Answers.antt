use Rattle.std.proofs.Common.{◌^◌, ◌<◌, arith}
use Rattle.std.proofs.lemmas.Nat.{one_shl, pow_below}
use Rattle.std.proofs.lemmas.Int.{to_z_pos}
use Rattle.std.specs.Int.{w32}
use Rattle.fixpoint.proofs.number.Fix.one.Goals as goal

-- the shift loses no bit, and what it gives is below the sign
pub returns : goal.returns
returns g c =
    let small : 2 ^ g.row.F < 2 ^ 31 = pow_below g.row.F 31 (omega arith) in
    rw (one_shl g.row.F 32 (omega arith)) (to_z_pos w32 (2 ^ g.row.F) small)
