-- Numbers that have the widths of their fields.
use Rattle.std.specs.Prelude.{◌≡◌, ◌^◌, ◌<◌, length, All}
use Rattle.std.specs.Int.{w32}
use Rattle.std.specs.Int.RustNames.{FitsSigned}
use Rattle.avar_fvar.specs.Axes.{Axis}
use Rattle.avar_fvar.specs.declared.records.InstanceRecord.{InstanceRecord}

pub record FitsAxis (axis : Axis) : Type 0 where
  pub tag : length axis.tag ≡ 4
  pub min : FitsSigned w32 axis.user.min
  pub default : FitsSigned w32 axis.user.default
  pub max : FitsSigned w32 axis.user.max
  pub name_id : axis.name_id < 2 ^ 16

pub record FitsInstance (instance : InstanceRecord) : Type 0 where
  pub name_id : instance.name_id < 2 ^ 16
  pub user : All (FitsSigned w32) instance.user
