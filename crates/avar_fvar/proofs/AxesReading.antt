-- The table of the axes is read back as it was written.
use Rattle.std.proofs.Common.{◌≡◌, ℕ, ℤ, ◌+◌, ◌*◌, ◌%◌, ◌^◌, ◌<◌, ◌≤◌, Bool, true, false, List, [], ◌∷◌, ◌++◌, length, length-append, drop, Some, FitsSigned, refl, sym, ap, subst, ◌∙◌, arith}
use Rattle.std.proofs.lemmas.List.{append-nil, drop-drop, drop_at}
use Rattle.std.proofs.lemmas.List.Elements.{recursion_from_All}
use Rattle.std.specs.Prelude.{All, if◌then◌else◌, nat_eq}
use Rattle.std.specs.Int.{w32}
use Rattle.std.specs.List.{AllByRecursion, flat_map}
use Rattle.be_bytes.specs.Fields.{fields_bytes}
use Rattle.be_bytes.specs.Reading.{int32, records, tag, uint16}
use Rattle.be_bytes.specs.declared.field.Field.TheVariants.{Int32, Uint16}
use Rattle.be_bytes.proofs.FieldLemmas.{four, int32-field, uint16-field}
use Rattle.be_bytes.proofs.RecordLemmas.{ComesBack, each_of, records_back, records_size}
use Rattle.norm_loc.specs.Normalising.{Limits}
use Rattle.avar_fvar.specs.Axes.{Axis, axes_in, axis_in, instance_in}
use Rattle.avar_fvar.specs.Layout.{axis_bytes, axis_fields, fvar_bytes, fvar_header, instance_bytes}
use Rattle.avar_fvar.specs.Ranges.{FitsAxis, FitsInstance}
use Rattle.avar_fvar.specs.declared.records.InstanceRecord.{InstanceRecord}

-- ---- an axis

read_axis : (bytes letters : List ℕ) (min default max : ℤ) (flags name_id : ℕ) → tag bytes ≡ Some letters → int32 (drop 4 bytes) ≡ Some min → int32 (drop 8 bytes) ≡ Some default → int32 (drop 12 bytes) ≡ Some max → uint16 (drop 16 bytes) ≡ Some flags → uint16 (drop 18 bytes) ≡ Some name_id
    → axis_in bytes ≡ Some (record { tag = letters; user = record { min = min; default = default; max = max }; hidden = nat_eq (flags % 2) 1; name_id = name_id })
read_axis bytes letters min default max flags name_id a b c d e f = rw (a, b, c, d, e, f) refl

flag_is : (hidden : Bool) → nat_eq ((if hidden then 1 else 0) % 2) 1 ≡ hidden
flag_is true = refl
flag_is false = refl

flag_fits : (hidden : Bool) → (if hidden then 1 else 0) < 2 ^ 16
flag_fits true = omega arith
flag_fits false = omega arith

axis_read : (a b c d : ℕ) (user : Limits) (hidden : Bool) (name_id : ℕ) → FitsSigned w32 user.min → FitsSigned w32 user.default → FitsSigned w32 user.max → name_id < 2 ^ 16
    → (let axis : Axis = record { tag = a ∷ b ∷ c ∷ d ∷ []; user = user; hidden = hidden; name_id = name_id } in axis_in (axis_bytes axis) ≡ Some axis)
unfolding axis_fields
axis_read a b c d user hidden name_id low middle high id =
    let axis : Axis = record { tag = a ∷ b ∷ c ∷ d ∷ []; user = user; hidden = hidden; name_id = name_id } in
    let flags : ℕ = if hidden then 1 else 0 in
    read_axis (axis_bytes axis) (a ∷ b ∷ c ∷ d ∷ []) user.min user.default user.max flags name_id refl
    (int32-field user.min (fields_bytes (Int32 user.default ∷ Int32 user.max ∷ Uint16 flags ∷ Uint16 name_id ∷ [])) low)
    (int32-field user.default (fields_bytes (Int32 user.max ∷ Uint16 flags ∷ Uint16 name_id ∷ [])) middle)
    (int32-field user.max (fields_bytes (Uint16 flags ∷ Uint16 name_id ∷ [])) high)
    (uint16-field flags (fields_bytes (Uint16 name_id ∷ [])) (flag_fits hidden))
    (uint16-field name_id [] id)
    ∙ ap (λ (b : Bool). Some (record { tag = axis.tag; user = user; hidden = b; name_id = name_id })) (flag_is hidden)

axis_size : (axis : Axis) → FitsAxis axis → length (axis_bytes axis) ≡ 20
unfolding axis_fields
axis_size axis fits =
    omega (arith, fits.tag, length-append axis.tag (fields_bytes (Int32 axis.user.min ∷ Int32 axis.user.default ∷ Int32 axis.user.max ∷ Uint16 (if axis.hidden then 1 else 0) ∷ Uint16 axis.name_id ∷ [])))

pub axis_back : (axis : Axis) → FitsAxis axis → ComesBack axis_bytes axis_in 20 axis
axis_back axis fits =
    let found = four axis.tag fits.tag in
    let own = axis_read found.0 found.1.0 found.1.1.0 found.1.1.1.0 axis.user axis.hidden axis.name_id fits.min fits.default fits.max fits.name_id in
    record {
      size_is = axis_size axis fits;
      back = subst (λ (letters : List ℕ). axis_in (axis_bytes (record axis { tag = letters })) ≡ Some (record axis { tag = letters })) (sym found.1.1.1.1) own;
    }

-- ---- an instance

read_instance : (axes : ℕ) (bytes : List ℕ) (name_id : ℕ) (user : List ℤ) → uint16 bytes ≡ Some name_id → records int32 4 axes (drop 4 bytes) ≡ Some user → instance_in axes bytes ≡ Some (record { name_id = name_id; user = user })
read_instance axes bytes name_id user a b = rw (a, b) refl

abbrev coordinate_bytes : ℤ → List ℕ
coordinate_bytes v = fields_bytes (Int32 v ∷ [])

coordinate_back : (v : ℤ) → FitsSigned w32 v → ComesBack coordinate_bytes int32 4 v
coordinate_back v fits = record { size_is = refl; back = int32-field v [] fits }

pub instance_back : (axes : ℕ) (instance : InstanceRecord) → length instance.user ≡ axes → FitsInstance instance → ComesBack instance_bytes (instance_in axes) (4 * axes + 4) instance
instance_back axes instance counted fits =
    let each = each_of (FitsSigned w32) (ComesBack coordinate_bytes int32 4) coordinate_back instance.user (recursion_from_All (FitsSigned w32) instance.user fits.user) in
    let size : length (flat_map coordinate_bytes instance.user) ≡ 4 * length instance.user = records_size coordinate_bytes int32 4 instance.user each in
    let read : records int32 4 axes (flat_map coordinate_bytes instance.user) ≡ Some instance.user =
    ap (λ (n : ℕ). records int32 4 n (flat_map coordinate_bytes instance.user)) (sym counted)
    ∙ ap (records int32 4 (length instance.user)) (sym (append-nil (flat_map coordinate_bytes instance.user)))
    ∙ records_back coordinate_bytes int32 4 instance.user [] each in
    record {
      size_is = omega (arith, size, counted);
      back = read_instance axes (instance_bytes instance) instance.name_id instance.user (uint16-field instance.name_id (fields_bytes (Uint16 0 ∷ []) ++ flat_map coordinate_bytes instance.user) fits.name_id) read;
    }

-- ---- the table

read_axes : (bytes : List ℕ) (offset axis_count axis_size instance_count instance_size : ℕ) (axes : List Axis) (instances : List InstanceRecord) → uint16 bytes ≡ Some 1 → uint16 (drop 2 bytes) ≡ Some 0 → uint16 (drop 4 bytes) ≡ Some offset → uint16 (drop 8 bytes) ≡ Some axis_count → uint16 (drop 10 bytes) ≡ Some axis_size → uint16 (drop 12 bytes) ≡ Some instance_count → uint16 (drop 14 bytes) ≡ Some instance_size
    → records axis_in axis_size axis_count (drop offset bytes) ≡ Some axes → records (instance_in axis_count) instance_size instance_count (drop (offset + axis_size * axis_count) bytes) ≡ Some instances
    → axes_in bytes ≡ Some (record { axes = axes; instances = instances })
read_axes bytes offset axis_count axis_size instance_count instance_size axes instances a b c d e f g h i = rw (a, b, c, d, e, f, g, h, i) refl

each_instance_back : (axes : ℕ) (instances : List InstanceRecord) → AllByRecursion (λ instance. length instance.user ≡ axes) instances → AllByRecursion FitsInstance instances → AllByRecursion (ComesBack instance_bytes (instance_in axes) (4 * axes + 4)) instances
each_instance_back axes [] counted fit = tt
each_instance_back axes (instance ∷ instances) counted fit =
    (instance_back axes instance counted.0 fit.0, each_instance_back axes instances counted.1 fit.1)

pub fvar_back : (axes : List Axis) (instances : List InstanceRecord) → length axes ≤ 8 → length instances ≤ 256 → All FitsAxis axes → All (λ instance. length instance.user ≡ length axes) instances → All FitsInstance instances
    → axes_in (fvar_bytes axes instances) ≡ Some (record { axes = axes; instances = instances })
unfolding fvar_header
fvar_back axes instances few few_instances axes_fit counted instances_fit =
    let n : ℕ = length axes in
    let m : ℕ = length instances in
    let bytes : List ℕ = fvar_bytes axes instances in
    let own : List ℕ = flat_map axis_bytes axes in
    let more : List ℕ = flat_map instance_bytes instances in
    let each_axis = each_of FitsAxis (ComesBack axis_bytes axis_in 20) axis_back axes (recursion_from_All FitsAxis axes axes_fit) in
    let each_instance = each_instance_back n instances (recursion_from_All (λ instance. length instance.user ≡ n) instances counted) (recursion_from_All FitsInstance instances instances_fit) in
    let size : length own ≡ 20 * n = records_size axis_bytes axis_in 20 axes each_axis in
    let after : drop (16 + 20 * n) bytes ≡ more = sym (drop-drop (20 * n) 16 bytes) ∙ drop_at own more (20 * n) size in
    read_axes bytes 16 n 20 m (4 * n + 4) axes instances refl refl refl
    (uint16-field n (fields_bytes (Uint16 20 ∷ Uint16 m ∷ Uint16 (4 * n + 4) ∷ []) ++ (own ++ more)) (omega arith))
    refl
    (uint16-field m (fields_bytes (Uint16 (4 * n + 4) ∷ []) ++ (own ++ more)) (omega arith))
    (uint16-field (4 * n + 4) (own ++ more) (omega arith))
    (records_back axis_bytes axis_in 20 axes more each_axis)
    (ap (records (instance_in n) (4 * n + 4) m) (after ∙ sym (append-nil more)) ∙ records_back instance_bytes (instance_in n) (4 * n + 4) instances [] each_instance)
