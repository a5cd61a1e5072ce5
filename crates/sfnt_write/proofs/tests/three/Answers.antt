use Rattle.std.proofs.Common.{ℕ, ◌≤◌, List, [], ◌∷◌, length, map, codes, refl, sym, subst, ◌∙◌, arith}
use Rattle.sfnt_write.specs.Tables.{CanBeFont, IsPlainHead, Slice, slice_of, tag_number}
use Rattle.sfnt_write.specs.declared.table.Table.{Table}
use Rattle.sfnt_write.proofs.tests.three.Goals as goal

abbrev own : List ℕ → List ℕ → Slice
own letters bytes = record { tag = tag_number letters; bytes = bytes }

font_of : (first head last : List ℕ) → length first ≤ 1000 → IsPlainHead head → length last ≤ 1000 → CanBeFont (own (codes "OS/2") first ∷ own (codes "head") head ∷ own (codes "post") last ∷ [])
unfolding tag_number
font_of first head last few plain many =
    record {
      rise = (omega arith, (omega arith, (omega arith, tt)));
      few = omega arith;
      small = omega (arith, plain.size);
      head = head;
      head_there = refl;
      head_plain = plain;
    }

pub returns : goal.returns
returns c =
    subst (λ (tables : List Table). CanBeFont (map slice_of tables)) (sym (c.from_vec.ensures ∙ c.in_ok-tables.ensures.items))
    (font_of c.args.first.items c.args.head.items c.args.last.items c.requires.first c.requires.head c.requires.last)
