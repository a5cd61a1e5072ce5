use Rattle.std.proofs.Common.{◌≡◌, All, drop, map}
use Rattle.std.specs.List.{AllZip}
use Rattle.std.specs.Vec.Iter.{into_iter_items}
use Rattle.basics.specs.Reading.{all_pass}
use Rattle.delta_solve.specs.GlyphModels.{IsModelOf}
use Rattle.font_project.specs.Columns.{columns}
use Rattle.font_project.specs.Deltas.{all_fit, fits}
use Rattle.font_project.specs.Masters.{AreTuplesWithin, locations, regions}
use Rattle.font_project.proofs.deltas.models_of.Given as goal

abbrev pub invariant-loop-name : goal.invariant-loop-name
invariant-loop-name l = record {
  walked : map into_iter_items l.walks.items ≡ map (drop l.name-index) l.fn.rows.items;
  fitting : all_fit (regions l.masters) (locations l.masters) l.fn.rows.items l.names ≡ all_pass (fits (regions l.masters) (locations l.masters) l.fn.rows.items) l.name-index (drop l.name-index l.names);
  modelled : AllZip (IsModelOf (regions l.masters) (locations l.masters)) (columns l.fn.rows.items l.name-index) l.models;
  within : All AreTuplesWithin l.models;
}
