-- The names of a font can be written: their ids rise, and there are few enough, of few enough units.
use Rattle.std.proofs.Common.{◌≡◌, ℕ, suc, ◌+◌, ◌*◌, ◌≤◌, List, [], ◌∷◌, ◌++◌, All, Option, Some, None, IfSome, length, sum_by, refl, sym, ap, ◌∙◌, length-append, append_assoc, arith}
use Rattle.std.proofs.lemmas.List.{length-map}
use Rattle.std.proofs.lemmas.List.Elements.{All-append, All-head, All-map, All-tail, All-weaker}
use Rattle.std.proofs.lemmas.List.Sums.{sum_by-append, sum_by-cons}
use Rattle.cmap_name.specs.Codes.{Rise}
use Rattle.cmap_name.specs.Names.{AreNames}
use Rattle.design_axes.specs.Axes.{IsShort}
use Rattle.design_axes.specs.declared.axis.Axis.{Axis}
use Rattle.designspace.specs.Limits.{IsBrief, IsInstanceOn, IsWithinLimits}
use Rattle.designspace.specs.declared.document.Designspace.{Designspace}
use Rattle.designspace.specs.declared.instance.Instance.{Instance}
use Rattle.fontinfo.specs.FontInfo.{AreTextsWithin}
use Rattle.fontinfo.specs.declared.info.Info.{Info}
use Rattle.font_model.specs.declared.parts.Project.{Project}
use Rattle.font_tables.specs.FontNames.{FIRST, copyright_name, design_texts, info_names, instance_names_of, labels_of, names_of, texts_from}
use Rattle.font_tables.specs.ShortNames.{AreShort}
use Rattle.font_text.specs.Utf16.{utf16_length}

-- ---- texts whose ids run on

pub texts_joined : (id : ℕ) (a b : List (List ℕ)) → texts_from id (a ++ b) ≡ texts_from id a ++ texts_from (id + length a) b
texts_joined id [] b = ap (λ (n : ℕ). texts_from n b) (omega arith)
texts_joined id (x ∷ a) b =
    ap (λ (more : List (ℕ × List ℕ)). (id, x) ∷ more) (texts_joined (id + 1) a b ∙ ap (λ (n : ℕ). texts_from (id + 1) a ++ texts_from n b) (omega arith))

texts_count : (id : ℕ) (texts : List (List ℕ)) → length (texts_from id texts) ≡ length texts
texts_count id [] = refl
texts_count id (x ∷ texts) = ap suc (texts_count (id + 1) texts)

texts_rise : (low id : ℕ) (texts : List (List ℕ)) → low ≤ id → Rise low (texts_from id texts)
texts_rise low id [] above = tt
texts_rise low id (x ∷ texts) above = (above, texts_rise (id + 1) (id + 1) texts (omega arith))

-- the bytes that a name takes in UTF-16
abbrev size_of : ℕ × List ℕ → ℕ
size_of own = 2 * utf16_length own.1

texts_size : (id : ℕ) (texts : List (List ℕ)) → All IsBrief texts → sum_by size_of (texts_from id texts) ≤ 200 * length texts
texts_size id [] each = omega arith
texts_size id (x ∷ texts) each =
    let more = texts_size (id + 1) texts (All-tail IsBrief x texts each) in
    let here = All-head IsBrief x texts each in
    omega (arith, sum_by-cons size_of (id, x) (texts_from (id + 1) texts), here)

-- ---- the names of the design space

brief_texts : (design : Designspace) → IsWithinLimits design → All IsBrief (design_texts design)
brief_texts design within =
    All-append IsBrief (labels_of design) (instance_names_of design)
    (All-map IsBrief (λ (axis : Axis). axis.label) design.axes (All-weaker IsShort (λ axis. IsBrief axis.label) (λ axis own. own.label) design.axes within.short))
    (All-map IsBrief (λ (instance : Instance). instance.name) design.instances (All-weaker (IsInstanceOn (length design.axes)) (λ instance. IsBrief instance.name) (λ instance own. own.name) design.instances within.instances))

few_texts : (design : Designspace) → IsWithinLimits design → length (design_texts design) ≤ 264
few_texts design within =
    omega (arith, length-append (labels_of design) (instance_names_of design), length-map design.axes (λ (axis : Axis). axis.label), length-map design.instances (λ (instance : Instance). instance.name), within.axes.few, within.few_instances)

-- ---- all names

-- after the copyright, where there is one
abbrev later_names : Project → List (ℕ × List ℕ)
later_names project = info_names project.info ++ texts_from FIRST (design_texts project.design)

later_rise : (low : ℕ) (project : Project) → low ≤ 1 → Rise low (later_names project)
later_rise low project few =
    (few, (omega arith, (omega arith, (omega arith, (omega arith, (omega arith, texts_rise 7 256 (design_texts project.design) (omega arith)))))))

names_rise : (copyright : Option (List ℕ)) (project : Project) → Rise 0 (copyright_name copyright ++ later_names project)
names_rise None project = later_rise 0 project (omega arith)
names_rise (Some text) project = (omega arith, later_rise 1 project (omega arith))

few_copyrights : (copyright : Option (List ℕ)) → length (copyright_name copyright) ≤ 1
few_copyrights None = omega arith
few_copyrights (Some text) = omega arith

copyright_size : (copyright : Option (List ℕ)) → IfSome copyright (λ text. utf16_length text ≤ 1000) → sum_by size_of (copyright_name copyright) ≤ 2000
copyright_size None short = omega arith
copyright_size (Some text) short = omega (arith, sum_by-cons size_of (0, text) [], short)

info_size : (info : Info) → AreTextsWithin info → AreShort info → sum_by size_of (info_names info) ≤ 1456
info_size info texts short =
    omega (arith, texts.family_within, texts.style_within, texts.version_within, short.postscript, short.unique, short.full)

pub are_names : (project : Project) → IsWithinLimits project.design → AreTextsWithin project.info → AreShort project.info → AreNames (names_of project)
are_names project design texts short =
    let info = project.info in
    let first = copyright_name info.copyright in
    let second = info_names info in
    let third = texts_from FIRST (design_texts project.design) in
    record {
      rise = names_rise info.copyright project;
      few = omega (arith, length-append first (second ++ third), few_copyrights info.copyright, length-append second third, texts_count FIRST (design_texts project.design), few_texts project.design design);
      small = omega (arith, sum_by-append size_of first (second ++ third), sum_by-append size_of second third, copyright_size info.copyright texts.copyright_within, info_size info texts short, texts_size FIRST (design_texts project.design) (brief_texts project.design design), few_texts project.design design);
    }

-- the names one after another, as they are added
pub names_joined : (none first second third whole first_names second_names : List (ℕ × List ℕ)) (labels texts : List (List ℕ)) (next : ℕ) → none ≡ [] → first ≡ none ++ first_names → second ≡ first ++ second_names
    → third ≡ second ++ texts_from FIRST labels → whole ≡ third ++ texts_from next texts → next ≡ FIRST + length labels
    → whole ≡ first_names ++ (second_names ++ texts_from FIRST (labels ++ texts))
names_joined none first second third whole first_names second_names labels texts next none_is first_is second_is third_is whole_is next_is =
    let a : first ≡ first_names = first_is ∙ ap (λ (xs : List (ℕ × List ℕ)). xs ++ first_names) none_is in
    let b : second ≡ first_names ++ second_names = second_is ∙ ap (λ (xs : List (ℕ × List ℕ)). xs ++ second_names) a in
    let c : third ≡ (first_names ++ second_names) ++ texts_from FIRST labels = third_is ∙ ap (λ (xs : List (ℕ × List ℕ)). xs ++ texts_from FIRST labels) b in
    whole_is ∙ ap (λ (xs : List (ℕ × List ℕ)). xs ++ texts_from next texts) c
    ∙ append_assoc (first_names ++ second_names) (texts_from FIRST labels) (texts_from next texts)
    ∙ append_assoc first_names second_names (texts_from FIRST labels ++ texts_from next texts)
    ∙ ap (λ (xs : List (ℕ × List ℕ)). first_names ++ (second_names ++ xs)) (ap (λ (n : ℕ). texts_from FIRST labels ++ texts_from n texts) next_is ∙ sym (texts_joined FIRST labels texts))
