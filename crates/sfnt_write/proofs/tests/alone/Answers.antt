use Rattle.std.proofs.Common.{ℕ, List, [], ◌∷◌, map, codes, refl, sym, subst, ◌∙◌, arith}
use Rattle.sfnt_write.specs.Tables.{CanBeFont, IsPlainHead, Slice, slice_of, tag_number}
use Rattle.sfnt_write.specs.declared.table.Table.{Table}
use Rattle.sfnt_write.proofs.tests.alone.Goals as goal

abbrev own : List ℕ → List ℕ → Slice
own letters bytes = record { tag = tag_number letters; bytes = bytes }

font_of : (head : List ℕ) → IsPlainHead head → CanBeFont (own (codes "head") head ∷ [])
unfolding tag_number
font_of head plain =
    record {
      rise = (omega arith, tt);
      few = omega arith;
      small = omega (arith, plain.size);
      head = head;
      head_there = refl;
      head_plain = plain;
    }

pub returns : goal.returns
returns c =
    subst (λ (tables : List Table). CanBeFont (map slice_of tables)) (sym (c.from_vec.ensures ∙ c.in_ok-tables.ensures.items))
    (font_of c.args.head.items c.requires)
