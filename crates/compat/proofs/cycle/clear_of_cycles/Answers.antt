use Rattle.std.proofs.Common.{◌≡◌, ◌<◌, ◌-◌, ◌∙◌, false, length, sym, arith, length-set}
use Rattle.std.specs.Prelude.{slice_index}
use Rattle.std.proofs.lemmas.Grind.{common_steps}
use Rattle.compat.specs.Searches.{is_marked}
use Rattle.compat.proofs.Marking.{read_bases}
use Rattle.compat.proofs.Spreading.{all_below, more_clear, test_read}
use Rattle.compat.proofs.cycle.clear_of_cycles.Goals as goal

pub are_marked-requires : goal.are_marked-requires
are_marked-requires c =
    let number = slice_index c.args.order.now (c.loop-index.index - 1) in
    let known : number < length c.args.graph.now = c.requires.known (c.loop-index.index - 1) 0 (omega (arith, c.loop-index.auto, c.loop-index-test.true)) in
    all_below c.args.graph.now number c.as_slice.result.now c.as_slice-then-not-index.result.now c.loop-index.marked.items
    (read_bases c.args.graph.now number c.as_slice.result.now c.index-graph-number.result c.as_slice.ensures c.index-graph-number.is known)
    c.requires.closed (c.as_slice-then-not-index.ensures.value) c.loop-index.invariant.1

pub loop-index-preserved-in-Continue-branch-3 : goal.loop-index-preserved-in-Continue-branch-3
loop-index-preserved-in-Continue-branch-3 c =
    let number = slice_index c.args.order.now (c.loop-index.index - 1) in
    let known : number < length c.args.graph.now = c.requires.known (c.loop-index.index - 1) 0 (omega (arith, c.loop-index.auto, c.loop-index-test.true)) in
    let bases = read_bases c.args.graph.now number c.as_slice.result.now c.index-graph-number.result c.as_slice.ensures c.index-graph-number.is known in
    let apart : is_marked c.loop-index.marked.items number ≡ false = let same : c.index.result.now ≡ is_marked c.loop-index.marked.items number = grind (arith, common_steps) in sym same ∙ c.if-not-index.true in
    let done = c.in_ok-mark_from.ensures in (
      length-set c.loop-index.clear.items number c.are_marked.result ∙ c.loop-index.invariant.0,
      done.marks,
      more_clear c.args.graph.now c.loop-index.clear.items c.loop-index.marked.items number c.are_marked.result (omega (arith, known, c.loop-index.invariant.0)) c.loop-index.invariant.2 c.loop-index.invariant.3 apart
          (test_read c.args.graph.now number c.as_slice.result.now c.as_slice-then-not-index.result.now c.loop-index.marked.items c.are_marked.result bases c.as_slice-then-not-index.ensures.value c.are_marked.ensures),
      done.settled,
    )
