use Rattle.std.specs.BTreeSet.{contains}
use Rattle.std.specs.Ordering.{nat_cmp}
use Rattle.ufo_source.proofs.Codes.{codes_more}
use Rattle.ufo_source.proofs.taken.with_codes.Goals as goal

pub loop-code-preserved : goal.loop-code-preserved
loop-code-preserved c = λ q.
    codes_more c.args.codes.now c.loop-code.code-index (contains nat_cmp c.args.taken) (contains nat_cmp c.loop-code.taken) (contains nat_cmp c.insert.new.self) q
    c.loop-code-test.true (c.in_ok-insert.ensures.updates.0 q) (c.loop-code.invariant q)
