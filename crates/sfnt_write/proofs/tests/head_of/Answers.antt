use Rattle.std.proofs.Common.{refl, sym, subst}
use Rattle.sfnt_write.specs.Tables.{IsPlainHead}
use Rattle.sfnt_write.proofs.tests.head_of.Goals as goal

pub returns : goal.returns
returns c =
    let written = rw c.new-bytes.ensures.items at c.in_ok-put_fields.ensures in
    subst IsPlainHead (sym written) (record { size = refl; adjustment = refl })
