-- What the file has of axes, instances and names.
use Rattle.std.proofs.Common.{◌≡◌, ℕ, zero, suc, ◌+◌, ◌<◌, Bool, true, false, List, [], ◌∷◌, ◌++◌, All, length, map, Option, Some, None, refl, ap, subst, ◌∙◌, arith}
use Rattle.std.proofs.lemmas.Bool.{eq-eqb, ne_eqb}
use Rattle.std.proofs.lemmas.List.{length-map}
use Rattle.std.proofs.lemmas.List.Elements.{All-cons, All-head, All-nil, All-tail}
use Rattle.std.specs.Prelude.{if◌then◌else◌, nat_eq, slice_get}
use Rattle.std.specs.List.{AllByRecursion, AllZip}
use Rattle.avar_fvar.specs.Axes.{axes_in, axis_of}
use Rattle.avar_fvar.specs.SegmentMaps.{MapsAsAxes, mapped_in}
use Rattle.avar_fvar.specs.declared.records.AxisRecord.{AxisRecord}
use Rattle.avar_fvar.specs.declared.records.InstanceRecord.{InstanceRecord}
use Rattle.basics.specs.Optional.{◌>>=◌}
use Rattle.cmap_name.specs.Names.{names_in}
use Rattle.design_axes.specs.declared.axis.Axis.{Axis}
use Rattle.designspace.specs.declared.instance.Instance.{Instance}
use Rattle.font_build.proofs.FileLemmas.{InFile}
use Rattle.font_build.specs.DesignAxes.{HasAxes, IsNamed, MapsAsDesign}
use Rattle.font_build.specs.FontReading.{names_of_file, text_of}
use Rattle.font_build.specs.FontTags.{AVAR}
use Rattle.font_build.specs.TableSteps.{AreDesign}
use Rattle.font_build.specs.declared.tables.Tables.{Tables}
use Rattle.font_model.specs.declared.parts.Project.{Project}
use Rattle.font_tables.specs.FontAxes.{axes_from, instances_from}
use Rattle.font_tables.specs.FontNames.{FIRST, copyright_name, design_texts, info_names, instance_names_of, labels_of, names_of, texts_from}
use Rattle.fontinfo.specs.declared.info.Info.{Info}
use Rattle.norm_loc.specs.AvarPairs.{avar_at}
use Rattle.sfnt_write.specs.FontFile.{table_in}

-- ---- the text of an id

-- names of lesser ids are passed over
skipped : (id : ℕ) (first rest : List (ℕ × List ℕ)) → AllByRecursion (λ own. own.0 < id) first → text_of id (first ++ rest) ≡ text_of id rest
skipped id [] rest each = refl
skipped id (own ∷ first) rest each =
    let other : nat_eq own.0 id ≡ false = ne_eqb own.0 id (λ same. absurd (omega (arith, each.0, same))) in
    ap (λ (same : Bool). if same then Some own.1 else text_of id (first ++ rest)) other ∙ skipped id first rest each.1

found : (id k : ℕ) (texts : List (List ℕ)) (text : List ℕ) → slice_get texts k ≡ Some text → text_of (id + k) (texts_from id texts) ≡ Some text
found id k [] text there = absurd (cc there)
found id zero (x ∷ texts) text there =
    let here : nat_eq id (id + 0) ≡ true = eq-eqb id (id + 0) (omega arith) in
    let same : x ≡ text = cc there in
    ap (λ (same : Bool). if same then Some x else text_of (id + 0) (texts_from (id + 1) texts)) here ∙ ap (λ y. Some y) same
found id (suc k) (x ∷ texts) text there =
    let other : nat_eq id (id + suc k) ≡ false = ne_eqb id (id + suc k) (λ same. absurd (omega (arith, same))) in
    let next : id + suc k ≡ (id + 1) + k = omega arith in
    ap (λ (same : Bool). if same then Some x else text_of (id + suc k) (texts_from (id + 1) texts)) other
    ∙ ap (λ (n : ℕ). text_of n (texts_from (id + 1) texts)) next ∙ found (id + 1) k texts text there

copyright_below : (id : ℕ) (copyright : Option (List ℕ)) → 0 < id → AllByRecursion (λ own. own.0 < id) (copyright_name copyright)
copyright_below id None some = tt
copyright_below id (Some text) some = (some, tt)

info_below : (id : ℕ) (info : Info) → 6 < id → AllByRecursion (λ own. own.0 < id) (info_names info)
info_below id info far = (omega arith, (omega arith, (omega arith, (omega arith, (omega arith, (omega arith, tt))))))

-- each text of the design space by its id
text_is : (project : Project) (k : ℕ) (text : List ℕ) → slice_get (design_texts project.design) k ≡ Some text → text_of (FIRST + k) (names_of project) ≡ Some text
text_is project k text there =
    let later = texts_from FIRST (design_texts project.design) in
    skipped (FIRST + k) (copyright_name project.info.copyright) (info_names project.info ++ later) (copyright_below (FIRST + k) project.info.copyright (omega arith))
    ∙ skipped (FIRST + k) (info_names project.info) later (info_below (FIRST + k) project.info (omega arith))
    ∙ found FIRST k (design_texts project.design) text there

-- ---- items of joined lists

get_first : {A : Type 0} (xs ys : List A) (k : ℕ) (x : A) → slice_get xs k ≡ Some x → slice_get (xs ++ ys) k ≡ Some x
get_first [] ys k x there = absurd (cc there)
get_first (z ∷ xs) ys zero x there = there
get_first (z ∷ xs) ys (suc k) x there = get_first xs ys k x there

get_second : {A : Type 0} (xs ys : List A) (k : ℕ) → slice_get (xs ++ ys) (length xs + k) ≡ slice_get ys k
get_second [] ys k = let none : 0 + k ≡ k = omega arith in ap (slice_get ys) none
get_second (z ∷ xs) ys k = let next : suc (length xs) + k ≡ suc (length xs + k) = omega arith in ap (slice_get (z ∷ (xs ++ ys))) next ∙ get_second xs ys k

-- ---- names of axes and of instances

-- texts whose ids run on from one are named so
abbrev AreNamedFrom : List ℕ → ℕ → List (List ℕ) → Type 0
AreNamedFrom file id texts = (k : ℕ) (text : List ℕ) → slice_get texts k ≡ Some text → IsNamed file (id + k) text

next_named : (file : List ℕ) (id : ℕ) (x : List ℕ) (texts : List (List ℕ)) → AreNamedFrom file id (x ∷ texts) → AreNamedFrom file (id + 1) texts
next_named file id x texts each k text there = subst (λ n. IsNamed file n text) (omega arith) (each (suc k) text there)

first_named : (file : List ℕ) (id : ℕ) (x : List ℕ) (texts : List (List ℕ)) → AreNamedFrom file id (x ∷ texts) → IsNamed file id x
first_named file id x texts each = subst (λ n. IsNamed file n x) (omega arith) (each 0 x refl)

axes_named : (file : List ℕ) (id : ℕ) (axes : List Axis) → AreNamedFrom file id (map (λ axis. axis.label) axes)
    → AllZip (IsNamed file) (map (λ axis. axis.name_id) (map axis_of (axes_from id axes))) (map (λ axis. axis.label) axes)
axes_named file id [] each = tt
axes_named file id (axis ∷ axes) each =
    (first_named file id axis.label (map (λ axis. axis.label) axes) each, axes_named file (id + 1) axes (next_named file id axis.label (map (λ axis. axis.label) axes) each))

instances_named : (file : List ℕ) (id : ℕ) (instances : List Instance) → AreNamedFrom file id (map (λ instance. instance.name) instances)
    → AllZip (IsNamed file) (map (λ instance. instance.name_id) (instances_from id instances)) (map (λ instance. instance.name) instances)
instances_named file id [] each = tt
instances_named file id (own ∷ instances) each =
    (first_named file id own.name (map (λ instance. instance.name) instances) each, instances_named file (id + 1) instances (next_named file id own.name (map (λ instance. instance.name) instances) each))

-- ---- maps

axis_there : (id index : ℕ) (axes : List Axis) (axis : Axis) → slice_get axes index ≡ Some axis → (own : AxisRecord) × (slice_get (axes_from id axes) index ≡ Some own) × (own.map ≡ axis.map)
axis_there id index [] axis there = absurd (cc there)
axis_there id zero (a ∷ axes) axis there =
    let same : a ≡ axis = cc there in
    (record { tag = a.tag; map = a.map; hidden = a.hidden; name_id = id }, refl, ap (λ (x : Axis). x.map) same)
axis_there id (suc index) (a ∷ axes) axis there = axis_there (id + 1) index axes axis there

maps_as_design : (file avar : List ℕ) (id : ℕ) (axes : List Axis) → table_in file AVAR ≡ Some avar → MapsAsAxes (axes_from id axes) avar → MapsAsDesign axes file
maps_as_design file avar id axes avar_there maps index axis v there within =
    let own = axis_there id index axes axis there in
    ap (λ (table : Option (List ℕ)). table >>= λ bytes. mapped_in bytes index v) avar_there
    ∙ maps index own.0 v own.1 within ∙ ap (λ m. Some (avar_at m v)) own.2

-- ---- all

pub has_names : (project : Project) (tables : Tables) (file : List ℕ) → AreDesign project tables.design → InFile tables file → names_of_file file ≡ Some (names_of project)
has_names project tables file are own = ap (λ (table : Option (List ℕ)). table >>= names_in) own.name ∙ are.name

pub has_axes : (project : Project) (tables : Tables) (file : List ℕ) → AreDesign project tables.design → InFile tables file → HasAxes project.design file
has_axes project tables file are own =
    let design = project.design in
    let labels = labels_of design in
    let texts = instance_names_of design in
    let names = has_names project tables file are own in
    let named = λ (k : ℕ) (text : List ℕ) (there : slice_get (design_texts design) k ≡ Some text). ap (λ (all : Option (List (ℕ × List ℕ))). all >>= text_of (FIRST + k)) names ∙ text_is project k text there in
    record {
      axes = ap (λ (table : Option (List ℕ)). table >>= axes_in) own.fvar ∙ are.fvar;
      labels = axes_named file FIRST design.axes (λ k text there. named k text (get_first labels texts k text there));
      instances = instances_named file (FIRST + length design.axes) design.instances (λ k text there.
          let count : length labels ≡ length design.axes = length-map design.axes (λ axis. axis.label) in
          subst (λ n. IsNamed file n text) (omega (arith, count)) (named (length labels + k) text (get_second labels texts k ∙ there)));
      maps = maps_as_design file tables.design.avar.items FIRST design.axes own.avar are.avar;
    }

-- ---- the records of axes and instances

pub axes_count : (id : ℕ) (axes : List Axis) → length (axes_from id axes) ≡ length axes
axes_count id [] = refl
axes_count id (axis ∷ axes) = ap suc (axes_count (id + 1) axes)

pub instances_count : (id : ℕ) (instances : List Instance) → length (instances_from id instances) ≡ length instances
instances_count id [] = refl
instances_count id (own ∷ instances) = ap suc (instances_count (id + 1) instances)

-- each instance has a value on each axis
pub values_each : (axes id : ℕ) (instances : List Instance) → All (λ (instance : Instance). length instance.user ≡ axes) instances → All (λ (own : InstanceRecord). length own.user ≡ axes) (instances_from id instances)
values_each axes id [] each = All-nil (λ (own : InstanceRecord). length own.user ≡ axes)
values_each axes id (own ∷ instances) each =
    All-cons (λ (own : InstanceRecord). length own.user ≡ axes) (record { name_id = id; user = own.user }) (instances_from (id + 1) instances)
    (All-head (λ (instance : Instance). length instance.user ≡ axes) own instances each)
    (values_each axes (id + 1) instances (All-tail (λ (instance : Instance). length instance.user ≡ axes) own instances each))
