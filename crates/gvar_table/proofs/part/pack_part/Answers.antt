-- The three packed lists stand one after another.
use Rattle.std.proofs.Common.{◌++◌, ap, ◌∙◌}
use Rattle.gvar_table.specs.Tuples.{variation_of}
use Rattle.gvar_table.proofs.PartLemmas.{written_part}
use Rattle.gvar_table.proofs.part.pack_part.Goals as goal

pub returns : goal.returns
returns c =
    let first = c.in_ok-put_bytes.ensures.ok ∙ ap (λ x. c.in_ok-part.part.items ++ x) c.deref.ensures.value in
    let second = c.in_ok-put_bytes-2.ensures.ok ∙ ap (λ y. c.put_bytes.new.out.items ++ y) c.deref-2.ensures.value in
    let points = c.in_ok-part.ensures in
    let xs = c.in_ok-x_bytes.ensures in
    let ys = c.in_ok-y_bytes.ensures in
    written_part c.args.count (variation_of c.args.tuple.now) _ _ _ _ _ _ _ c.requires.few c.requires.moves c.as_slice.ensures c.as_slice-deltas.ensures points.packed xs.packed ys.packed points.short xs.short ys.short first second
