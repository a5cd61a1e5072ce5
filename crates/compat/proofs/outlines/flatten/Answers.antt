use Rattle.std.proofs.Common.{◌≡◌, ◌<◌, length, subst, sym}
use Rattle.compat.specs.Flattened.{IsFirstRefusal}
use Rattle.compat.proofs.Faults.{refusal_known}
use Rattle.compat.proofs.outlines.flatten.Goals as goal

pub stop_of-requires : goal.stop_of-requires
stop_of-requires c =
    let first : IsFirstRefusal c.as_slice.result.now c.in-Err-Refused.refusal = rw c.in-Err-Refused.field-0-is at c.in-Err-Refused.ensures in
    let same : c.as_slice.result.now ≡ c.args.drawings.now = c.as_slice.ensures in
    let known = refusal_known c.args.drawings.now c.in-Err-Refused.refusal (subst (λ drawings. IsFirstRefusal drawings c.in-Err-Refused.refusal) same first) in
    subst (λ drawings. c.in-Err-Refused.refusal.drawing < length drawings) (sym c.as_slice-in-Err-Refused.ensures) known
