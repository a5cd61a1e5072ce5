-- A subtable of format 12 is read back as it was written, whatever follows.
use Rattle.std.proofs.Common.{◌≡◌, ℕ, ◌+◌, ◌*◌, ◌≤◌, List, [], ◌∷◌, ◌++◌, length, drop, Some, refl, sym, ap, ◌∙◌, arith}
use Rattle.std.proofs.lemmas.List.{append-nil}
use Rattle.std.specs.List.{AllByRecursion, flat_map}
use Rattle.be_bytes.specs.Fields.{fields_bytes}
use Rattle.be_bytes.specs.Reading.{prefix_of, records, uint16, uint32}
use Rattle.be_bytes.specs.declared.field.Field.TheVariants.{Uint32}
use Rattle.be_bytes.proofs.FieldLemmas.{uint32-field}
use Rattle.be_bytes.proofs.RecordLemmas.{ComesBack, each_of, prefix_at, records_back, records_size}
use Rattle.cmap_name.specs.CharacterLayout.{format_12_bytes, format_12_fields, group_bytes, group_fields}
use Rattle.cmap_name.specs.Characters.{glyph_in, glyph_in_groups, group_in, groups_in}
use Rattle.cmap_name.specs.Groups.{FitsGroup}
use Rattle.cmap_name.specs.declared.groups.Group.{Group}

-- ---- a group

read_group : (bytes : List ℕ) (first last glyph : ℕ) → uint32 bytes ≡ Some first → uint32 (drop 4 bytes) ≡ Some last → uint32 (drop 8 bytes) ≡ Some glyph → (let group : Group = record { first = first; last = last; glyph = glyph } in group_in bytes ≡ Some group)
read_group bytes first last glyph a b c = rw (a, b, c) refl

group_back : (group : Group) → FitsGroup group → ComesBack group_bytes group_in 12 group
unfolding group_fields
group_back group fits = record {
  size_is = refl;
  back =
      read_group (group_bytes group) group.first group.last group.glyph
      (uint32-field group.first (fields_bytes (Uint32 group.last ∷ Uint32 group.glyph ∷ [])) (omega (arith, fits.ordered, fits.unicode)))
      (uint32-field group.last (fields_bytes (Uint32 group.glyph ∷ [])) (omega (arith, fits.unicode)))
      (uint32-field group.glyph [] (omega (arith, fits.glyphs)));
}

-- ---- the subtable

read_groups : (bytes own : List ℕ) (size count : ℕ) (groups : List Group) → uint32 (drop 4 bytes) ≡ Some size → prefix_of size bytes ≡ Some own → uint32 (drop 12 own) ≡ Some count → records group_in 12 count (drop 16 own) ≡ Some groups → groups_in bytes ≡ Some groups
read_groups bytes own size count groups a b c d = rw (a, b, c, d) refl

read_format_12 : (bytes : List ℕ) (groups : List Group) (c : ℕ) → uint16 bytes ≡ Some 12 → groups_in bytes ≡ Some groups → glyph_in bytes c ≡ Some (glyph_in_groups groups c)
read_format_12 bytes groups c a b = rw (a, b) refl

format_12_groups : (groups : List Group) (rest : List ℕ) → length groups ≤ 0x11_0000 → AllByRecursion FitsGroup groups → groups_in (format_12_bytes groups ++ rest) ≡ Some groups
unfolding format_12_fields
format_12_groups groups rest few fit =
    let n : ℕ = length groups in
    let each = each_of FitsGroup (ComesBack group_bytes group_in 12) group_back groups fit in
    let own : List ℕ = flat_map group_bytes groups in
    let size : length (format_12_bytes groups) ≡ 16 + 12 * n = omega (arith, records_size group_bytes group_in 12 groups each) in
    read_groups (format_12_bytes groups ++ rest) (format_12_bytes groups) (16 + 12 * n) n groups
    (uint32-field (16 + 12 * n) [] (omega arith))
    (prefix_at (format_12_bytes groups) rest (16 + 12 * n) size)
    (uint32-field n [] (omega arith))
    (ap (records group_in 12 n) (sym (append-nil own)) ∙ records_back group_bytes group_in 12 groups [] each)

pub format_12_back : (groups : List Group) (rest : List ℕ) (c : ℕ) → length groups ≤ 0x11_0000 → AllByRecursion FitsGroup groups → glyph_in (format_12_bytes groups ++ rest) c ≡ Some (glyph_in_groups groups c)
unfolding format_12_fields
format_12_back groups rest c few fit =
    read_format_12 (format_12_bytes groups ++ rest) groups c refl (format_12_groups groups rest few fit)
