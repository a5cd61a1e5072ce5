use Rattle.std.proofs.Common.{◌≡◌, ℕ, All, length, subst, arith}
use Rattle.std.proofs.lemmas.List.{take_all}
use Rattle.std.proofs.lemmas.List.Elements.{All-more}
use Rattle.avar_fvar.specs.declared.records.InstanceRecord.{InstanceRecord}
use Rattle.avar_fvar.proofs.tests.is_each.Goals as goal

abbrev HasEach : ℕ → InstanceRecord → Type 0
HasEach axes instance = length instance.user ≡ axes

pub loop-instance-preserved : goal.loop-instance-preserved
loop-instance-preserved c =
    let own : length c.instance-item.result.user ≡ c.args.axes = omega arith in
    All-more (HasEach c.args.axes) c.args.instances.now c.loop-instance.instance-index c.instance-item.result c.loop-instance-test.true c.loop-instance.invariant (subst (HasEach c.args.axes) c.instance-item.is own)

pub returns : goal.returns
returns c = λ _. subst (All (HasEach c.args.axes)) (take_all c.loop-instance.instance-index c.args.instances.now c.loop-instance-test.false) c.loop-instance.invariant
