use Rattle.std.proofs.Common.{List, [], ◌∷◌, ◌++◌, map, ap, ◌∙◌}
use Rattle.font_build.specs.TableSteps.{gsub_slices}
use Rattle.sfnt_write.specs.Tables.{Slice, slice_of, tag_number}
use Rattle.font_build.proofs.list.listed.Goals as goal

pub returns : goal.returns
unfolding tag_number
returns c =
    ap (map slice_of) c.from_vec.ensures
    ∙ c.in_ok-list.ensures
    ∙ ap (λ (plain : List Slice). gsub_slices c.args.tables.gsub ++ plain)
    (ap (map slice_of) c.in_ok-plain.ensures.items
    ∙ (λ i. slice_of (c.table.ensures i) ∷ slice_of (c.table-2.ensures i) ∷ slice_of (c.table-3.ensures i) ∷ slice_of (c.table-4.ensures i) ∷ slice_of (c.table-5.ensures i)
    ∷ slice_of (c.table-6.ensures i) ∷ slice_of (c.table-7.ensures i) ∷ slice_of (c.table-8.ensures i) ∷ slice_of (c.table-9.ensures i) ∷ slice_of (c.table-10.ensures i)
    ∷ slice_of (c.table-11.ensures i) ∷ slice_of (c.table-12.ensures i) ∷ slice_of (c.table-13.ensures i) ∷ slice_of (c.table-14.ensures i) ∷ []))
