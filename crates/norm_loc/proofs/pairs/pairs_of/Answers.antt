use Rattle.std.proofs.Common.{◌≡◌, ◌<◌, length, subst, sym, ◌∙◌, arith, true, false, Bool, refl}
use Rattle.std.specs.Prelude.{not}
use Rattle.norm_loc.specs.declared.follow.Direction.TheVariants.{Forward}
use Rattle.norm_loc.specs.AvarPairs.{with_node}
use Rattle.norm_loc.specs.Following.{KeysRise}
use Rattle.norm_loc.specs.MapFaults.{stands_against}
use Rattle.norm_loc.specs.Spans.{limits}
use Rattle.norm_loc.proofs.PairLemmas.{next_alone, next_leads, with_node_rises}
use Rattle.norm_loc.proofs.pairs.pairs_of.Goals as goal

stands_not : (b alone : Bool) → alone ≡ not b → alone ≡ true → b ≡ false
stands_not true alone e f = absurd cc
stands_not false alone e f = refl

pub loop-index-preserved : goal.loop-index-preserved
loop-index-preserved c =
    let user = limits c.args.user.now in
    let design = limits c.args.design.now in
    let node = c.index-nodes-index.result in
    let pairs = c.loop-index.pairs.items in
    let within : c.loop-index.index < length c.args.nodes.now = omega arith in
    let placed : c.put_node.new.pairs.items ≡ with_node user design node pairs = c.in_ok-put_node.ensures.placed in
    let alone : stands_against user design node pairs ≡ false =
    stands_not (stands_against user design node pairs) c.in_ok-put_node.field-0 c.in_ok-put_node.ensures.alone c.if-not-branch.false in
    record {
      rise = subst (KeysRise Forward) (sym placed) (with_node_rises user design node pairs c.loop-index.invariant.rise);
      leads = next_leads user design pairs c.put_node.new.pairs.items c.args.nodes.now c.loop-index.index node within c.index-nodes-index.is placed ∙ c.loop-index.invariant.leads;
      alone = next_alone user design pairs c.put_node.new.pairs.items c.args.nodes.now c.loop-index.index node within c.index-nodes-index.is placed alone ∙ c.loop-index.invariant.alone;
    }
