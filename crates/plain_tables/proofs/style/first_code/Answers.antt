use Rattle.std.proofs.Common.{◌≡◌, ℕ, zero, suc, ◌-◌, ◌≤◌, min, ℤ, false, length, sym, ap, ◌∙◌, arith}
use Rattle.std.specs.Prelude.{◌==◌}
use Rattle.std.specs.Int.RustNames.{unsigned_abs}
use Rattle.be_bytes.specs.declared.field.Field.TheVariants.{Uint16}
use Rattle.plain_tables.proofs.CodeEnds.{least_code, not_empty}
use Rattle.plain_tables.proofs.style.first_code.Goals as goal

pub returns : goal.returns
returns c =
    let some : 1 ≤ length c.args.codes.now = not_empty (length c.args.codes.now) (sym c.if-is_empty.false ∙ c.is_empty.ensures) in
    ap Uint16 (c.min.ensures ∙ sym (ap (λ (z : ℤ). min (unsigned_abs z) 0xFFFF) (least_code c.args.codes.now (0, 0) some c.requires)))
