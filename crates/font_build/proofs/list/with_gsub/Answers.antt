use Rattle.std.proofs.Common.{ℕ, ◌∷◌, ◌++◌, Option, Vec, Global, map, ap, sym, ◌∙◌}
use Rattle.font_build.specs.TableSteps.{gsub_slices}
use Rattle.sfnt_write.specs.Tables.{slice_of, tag_number}
use Rattle.sfnt_write.specs.declared.table.Table.{Table}
use Rattle.font_build.proofs.list.with_gsub.Goals as goal
use Rattle.font_build.proofs.list.with_gsub.Goals.{in-Some+in_ok-insert, in_default}

pub returns : goal.returns
unfolding tag_number
returns c =
    elim c.match-gsub.branch [
      | in-Some+in_ok-insert w ↦
          ap (λ (own : Vec Table Global). map slice_of own.items) w.list-is
          ∙ ap (map slice_of) w.in_ok-insert.ensures.items
          ∙ (λ i. slice_of (w.table.ensures i) ∷ map slice_of c.args.list.items)
          ∙ ap (λ (gsub : Option (Vec ℕ Global)). gsub_slices gsub ++ map slice_of c.args.list.items) (sym w.in-Some.is)
      | in_default w ↦
          ap (λ (own : Vec Table Global). map slice_of own.items) w.list-is
          ∙ ap (λ (gsub : Option (Vec ℕ Global)). gsub_slices gsub ++ map slice_of c.args.list.items) (sym w.in_default.is)
    ]
