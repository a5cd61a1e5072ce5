-- How the two tables are written, byte for byte.
use Rattle.std.specs.Prelude.{ℕ, ◌+◌, ◌*◌, ℤ, List, [], ◌∷◌, ◌++◌, length, if◌then◌else◌}
use Rattle.std.specs.List.{flat_map}
use Rattle.be_bytes.specs.Fields.{fields_bytes}
use Rattle.be_bytes.specs.declared.field.Field.{Field}
use Rattle.be_bytes.specs.declared.field.Field.TheVariants.{Int16, Int32, Tag, Uint16}
use Rattle.avar_fvar.specs.Axes.{Axis}
use Rattle.avar_fvar.specs.declared.records.InstanceRecord.{InstanceRecord}

-- ---- avar

-- fromCoordinate, toCoordinate
abbrev pub pair_bytes : ℤ × ℤ → List ℕ
pair_bytes pair = fields_bytes (Int16 pair.0 ∷ Int16 pair.1 ∷ [])

-- positionMapCount, and the pairs
abbrev pub segment_map_bytes : List (ℤ × ℤ) → List ℕ
segment_map_bytes pairs = fields_bytes (Uint16 (length pairs) ∷ []) ++ flat_map pair_bytes pairs

-- majorVersion, minorVersion, reserved, axisCount, and the segment maps
abbrev pub avar_bytes : List (List (ℤ × ℤ)) → List ℕ
avar_bytes maps = fields_bytes (Uint16 1 ∷ Uint16 0 ∷ Uint16 0 ∷ Uint16 (length maps) ∷ []) ++ flat_map segment_map_bytes maps

-- ---- fvar

-- majorVersion, minorVersion, axesArrayOffset, reserved, axisCount, axisSize, instanceCount, instanceSize
unfoldable pub fvar_header : ℕ → ℕ → List Field
fvar_header axes instances =
    Uint16 1 ∷ Uint16 0 ∷ Uint16 16 ∷ Uint16 2 ∷ Uint16 axes ∷ Uint16 20 ∷ Uint16 instances ∷ Uint16 (4 * axes + 4) ∷ []

-- axisTag, minValue, defaultValue, maxValue, flags, axisNameID
unfoldable pub axis_fields : Axis → List Field
axis_fields axis =
    Tag axis.tag ∷ Int32 axis.user.min ∷ Int32 axis.user.default ∷ Int32 axis.user.max ∷ Uint16 (if axis.hidden then 1 else 0) ∷ Uint16 axis.name_id ∷ []

abbrev pub axis_bytes : Axis → List ℕ
axis_bytes axis = fields_bytes (axis_fields axis)

-- subfamilyNameID, flags, coordinates
abbrev pub instance_bytes : InstanceRecord → List ℕ
instance_bytes instance = fields_bytes (Uint16 instance.name_id ∷ Uint16 0 ∷ []) ++ flat_map (λ v. fields_bytes (Int32 v ∷ [])) instance.user

abbrev pub fvar_bytes : List Axis → List InstanceRecord → List ℕ
fvar_bytes axes instances =
    fields_bytes (fvar_header (length axes) (length instances)) ++ (flat_map axis_bytes axes ++ flat_map instance_bytes instances)
