use Rattle.std.proofs.Common.{◌∙◌, ◌<◌, length, sym, subst, refl, arith, length-set}
use Rattle.std.specs.Prelude.{slice_index}
use Rattle.compat.specs.References.{bases_at, IsOrder}
use Rattle.compat.specs.Flats.{IsJoined, HasBases, IsKept}
use Rattle.std.specs.Prelude.{All}
use Rattle.compat.proofs.Made.{made_more, bases_kept, all_kept, same_size}
use Rattle.compat.proofs.outlines.flats_in.Goals as goal

pub joined_at-requires-clause-bases : goal.joined_at-requires-clause-bases
joined_at-requires-clause-bases c =
    let few = c.requires.order.few in
    let small = c.requires.fit.few in
    let sizes = same_size c.args.drawings.now c.args.graph.now c.requires.references in
    subst (λ flats. HasBases c.args.drawings.now c.args.graph.now flats (slice_index c.args.order.now c.loop-number.number-index)) (sym c.as_slice.ensures.value) (record {
      bound = c.loop-number.number-index;
      few = omega (arith, few, small, sizes, c.loop-number-test.true);
      kept = bases_kept c.args.drawings.now c.args.graph.now c.args.order.now c.loop-number.flats.items c.loop-number.number-index c.requires.order c.loop-number-test.true c.loop-number.invariant.1;
    })

pub loop-number-preserved : goal.loop-number-preserved
loop-number-preserved c =
    let number = slice_index c.args.order.now c.loop-number.number-index in
    let sizes = same_size c.args.drawings.now c.args.graph.now c.requires.references in
    let known : number < length c.args.drawings.now = omega (arith, sizes, c.requires.order.known c.loop-number.number-index 0 c.loop-number-test.true) in
    let kept = bases_kept c.args.drawings.now c.args.graph.now c.args.order.now c.loop-number.flats.items c.loop-number.number-index c.requires.order c.loop-number-test.true c.loop-number.invariant.1 in
    let joined = subst (λ flats. IsJoined c.args.drawings.now c.args.graph.now flats number c.in_ok-flat.flat) c.as_slice.ensures.value c.in_ok-flat.ensures in (
      length-set c.loop-number.flats.items number c.in_ok-flat.flat ∙ c.loop-number.invariant.0,
      made_more c.args.drawings.now c.args.order.now c.loop-number.flats.items c.loop-number.number-index number c.in_ok-flat.flat c.requires.fit c.requires.named refl known c.loop-number.invariant.0 c.loop-number.invariant.1
          (subst (λ g. All (IsKept c.args.drawings.now c.loop-number.number-index c.loop-number.flats.items) (bases_at g number)) c.requires.references kept)
          (subst (λ g. IsJoined c.args.drawings.now g c.loop-number.flats.items number c.in_ok-flat.flat) c.requires.references joined),
    )

pub returns : goal.returns
returns c =
    all_kept c.args.drawings.now c.args.order.now c.loop-number.flats.items c.loop-number.number-index (subst (λ g. IsOrder g c.args.order.now) c.requires.references c.requires.order) c.loop-number-test.false c.loop-number.invariant.0 c.loop-number.invariant.1
