use Rattle.std.proofs.Common.{Err, map, subst, inl, inr, refl, arith}
use Rattle.vfb.specs.Making.{shown_file}
use Rattle.vfb.specs.Writing.{WritesFiles}
use Rattle.vfb.proofs.writing.write_product.Goals as goal

-- a file could not be written: it is cut short, and nothing was said
pub returns-in-Err : goal.returns-in-Err
returns-in-Err g c =
    let writes = subst (λ files. WritesFiles {V = Unit {0}} (g.O.Outputs.state c.args.outputs.now) (g.O.Outputs.state c.write_files.new.outputs) (map shown_file files) (Err c.in-Err.path))
    c.as_slice.ensures.value c.in-Err.ensures in
    record {
      delivers = inl writes.counted;
      written = λ told. inr (c.in-Err.path.now, writes.cut told);
      said = λ _. inl (writes.named, refl);
      cut = λ told _. inl (writes.cut told, refl);
      full = λ told sure _ _. inl (writes.full sure told);
      told = λ told. told;
      counted = omega arith;
    }
