use Rattle.std.proofs.Common.{◌≡◌, ◌+◌, All, length, ap, sym, subst, ◌∙◌, arith}
use Rattle.std.proofs.lemmas.List.Elements.{All-weaker}
use Rattle.avar_fvar.specs.declared.records.InstanceRecord.{InstanceRecord}
use Rattle.designspace.specs.Limits.{IsInstanceOn}
use Rattle.designspace.specs.declared.instance.Instance.{Instance}
use Rattle.font_build.proofs.DesignLemmas.{axes_count, instances_count, values_each}
use Rattle.font_tables.specs.FontNames.{FIRST}
use Rattle.font_build.proofs.design_tables.tell_design.Goals as goal

pub avar-requires-clause-some : goal.avar-requires-clause-some
avar-requires-clause-some c = omega (arith, ap length c.in_ok-axes.ensures, axes_count FIRST c.args.project.now.design.axes, c.requires.design.axes.some)

pub avar-requires-clause-few : goal.avar-requires-clause-few
avar-requires-clause-few c = omega (arith, ap length c.in_ok-axes.ensures, axes_count FIRST c.args.project.now.design.axes, c.requires.design.axes.few)

pub fvar-requires-clause-some : goal.fvar-requires-clause-some
fvar-requires-clause-some c = omega (arith, ap length c.in_ok-axes.ensures, axes_count FIRST c.args.project.now.design.axes, c.requires.design.axes.some)

pub fvar-requires-clause-few : goal.fvar-requires-clause-few
fvar-requires-clause-few c = omega (arith, ap length c.in_ok-axes.ensures, axes_count FIRST c.args.project.now.design.axes, c.requires.design.axes.few)

pub fvar-requires-clause-few_instances : goal.fvar-requires-clause-few_instances
fvar-requires-clause-few_instances c =
    let instances = c.args.project.now.design.instances in
    omega (arith, ap length c.in_ok-instances.ensures, instances_count (FIRST + c.len.result) instances, c.requires.design.few_instances)

pub fvar-requires-clause-each : goal.fvar-requires-clause-each
fvar-requires-clause-each c =
    let design = c.args.project.now.design in
    let each = values_each (length design.axes) (FIRST + c.len.result) design.instances (All-weaker (IsInstanceOn (length design.axes)) (λ (instance : Instance). length instance.user ≡ length design.axes) (λ instance own. own.values) design.instances c.requires.design.instances) in
    let axes : length c.in_ok-axes.axes ≡ length design.axes = ap length c.in_ok-axes.ensures ∙ axes_count FIRST design.axes in
    subst (λ n. All (λ (own : InstanceRecord). length own.user ≡ n) c.in_ok-instances.instances) (sym axes)
    (subst (All (λ (own : InstanceRecord). length own.user ≡ length design.axes)) (sym c.in_ok-instances.ensures) each)
