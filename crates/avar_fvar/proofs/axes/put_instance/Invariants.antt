use Rattle.std.proofs.Common.{◌≡◌, ◌++◌, [], ◌∷◌, take, FitsSigned}
use Rattle.std.specs.Prelude.{All}
use Rattle.std.specs.Int.{w32}
use Rattle.std.specs.List.{flat_map}
use Rattle.be_bytes.specs.Fields.{fields_bytes}
use Rattle.be_bytes.specs.declared.field.Field.TheVariants.{Int32}
use Rattle.avar_fvar.proofs.axes.put_instance.Given as goal

-- the coordinates so far are appended
abbrev pub invariant-loop-coordinate : goal.invariant-loop-coordinate
invariant-loop-coordinate l = record {
  written : l.out.items ≡ l.initial.out.items ++ flat_map (λ v. fields_bytes (Int32 v ∷ [])) (take l.coordinate-index l.coordinate-items);
  fit : All (FitsSigned w32) (take l.coordinate-index l.coordinate-items);
}
