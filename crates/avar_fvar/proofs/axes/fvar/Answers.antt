use Rattle.std.proofs.Common.{◌≡◌, ◌+◌, ◌<◌, ◌++◌, [], ◌∷◌, List, ℕ, take, get_or, ap, map, length, subst, sym, ◌∙◌, arith}
use Rattle.std.proofs.lemmas.Grind.{common_steps}
use Rattle.std.proofs.lemmas.List.{length-map, map_more, take_all}
use Rattle.std.proofs.lemmas.List.Elements.{All-more, All-push, All-weaker}
use Rattle.std.specs.Prelude.{All}
use Rattle.avar_fvar.specs.Axes.{axes_in, axis_of}
use Rattle.avar_fvar.specs.Ranges.{FitsAxis, FitsInstance}
use Rattle.avar_fvar.specs.declared.records.AxisRecord.{AxisRecord}
use Rattle.avar_fvar.specs.declared.records.InstanceRecord.{InstanceRecord}
use Rattle.avar_fvar.proofs.AxesReading.{fvar_back}
use Rattle.avar_fvar.proofs.axes.fvar.Goals as goal

axis_more : (axes : List AxisRecord) (i : ℕ) (axis : AxisRecord) → i < length axes → axis ≡ get_or axes i axis → All FitsAxis (map axis_of (take i axes)) → FitsAxis (axis_of axis) → All FitsAxis (map axis_of (take (i + 1) axes))
axis_more axes i axis within is all own =
    subst (All FitsAxis) (sym (map_more axis_of axes i axis within ∙ ap (λ (a : AxisRecord). map axis_of (take i axes) ++ axis_of a ∷ []) (sym is)))
    (All-push FitsAxis (map axis_of (take i axes)) (axis_of axis) all own)

pub loop-axis-preserved : goal.loop-axis-preserved
loop-axis-preserved c = record {
  written = grind (arith, common_steps);
  fit = axis_more c.as_slice-axes.result.now c.loop-axis.axis-index c.axis-item.result (omega arith) c.axis-item.is c.loop-axis.invariant.fit c.in_ok-put_axis.ensures.fits;
}

pub loop-instance-preserved : goal.loop-instance-preserved
loop-instance-preserved c = record {
  written = grind (arith, common_steps);
  fit = All-more FitsInstance c.as_slice-instances.result.now c.loop-instance.instance-index c.instance-item.result (omega arith) c.loop-instance.invariant.fit (subst FitsInstance c.instance-item.is c.in_ok-put_instance.ensures.fits);
}

pub returns-clause-written : goal.returns-clause-written
returns-clause-written c = grind (arith, common_steps)

pub returns-clause-means : goal.returns-clause-means
returns-clause-means c =
    let axes : List AxisRecord = c.args.axes.now in
    let instances : List InstanceRecord = c.args.instances.now in
    let all_axes : take c.loop-axis.axis-index c.as_slice-axes.result.now ≡ axes = take_all c.loop-axis.axis-index c.as_slice-axes.result.now (omega arith) ∙ c.as_slice-axes.ensures in
    let all_instances : take c.loop-instance.instance-index c.as_slice-instances.result.now ≡ instances = take_all c.loop-instance.instance-index c.as_slice-instances.result.now (omega arith) ∙ c.as_slice-instances.ensures in
    let counted : length (map axis_of axes) ≡ length axes = length-map axes axis_of in
    ap axes_in (returns-clause-written c)
    ∙ fvar_back (map axis_of axes) instances (omega (arith, counted)) (omega arith)
    (subst (λ (xs : List AxisRecord). All FitsAxis (map axis_of xs)) all_axes c.loop-axis.invariant.fit)
    (All-weaker (λ (i : InstanceRecord). length i.user ≡ length axes) (λ (i : InstanceRecord). length i.user ≡ length (map axis_of axes)) (λ i e. e ∙ sym counted) instances c.requires.each)
    (subst (All FitsInstance) all_instances c.loop-instance.invariant.fit)
