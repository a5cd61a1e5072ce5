use Rattle.std.proofs.Common.{◌+◌, ◌<◌, length, ap, subst, arith}
use Rattle.std.proofs.lemmas.List.{take_all}
use Rattle.font_build.proofs.VariationLemmas.{adds_few, one_more, sum_taken, within_limit}
use Rattle.font_build.specs.TableSteps.{AreFound}
use Rattle.region_support.specs.Coordinates.{regions_in}
use Rattle.font_build.proofs.variations.find.Goals as goal

pub overflow_add-tuples : goal.overflow_add-tuples
overflow_add-tuples c =
    let axes = c.requires.writable.0 in
    let model = c.model-item.result in
    let few = adds_few axes (regions_in c.args.supports.now) model c.in_ok-own.own.tuples (record { are = c.in_ok-own.ensures.tuples; fit = c.in_ok-own.ensures.writable axes c.requires.writable.1 }) in
    omega (arith, few.tuples, within_limit c.args.models.now c.loop-model.model-index model (omega arith) c.model-item.is c.requires.small, c.loop-model.invariant.tuples_most, c.len.ensures)

pub overflow_add-explicit : goal.overflow_add-explicit
overflow_add-explicit c =
    let axes = c.requires.writable.0 in
    let model = c.model-item.result in
    let few = adds_few axes (regions_in c.args.supports.now) model c.in_ok-own.own.tuples (record { are = c.in_ok-own.ensures.tuples; fit = c.in_ok-own.ensures.writable axes c.requires.writable.1 }) in
    omega (arith, few.explicit, within_limit c.args.models.now c.loop-model.model-index model (omega arith) c.model-item.is c.requires.small, c.loop-model.invariant.explicit_most, c.in_ok-own.ensures.explicit)

pub overflow_add-points : goal.overflow_add-points
overflow_add-points c =
    let axes = c.requires.writable.0 in
    let model = c.model-item.result in
    let few = adds_few axes (regions_in c.args.supports.now) model c.in_ok-own.own.tuples (record { are = c.in_ok-own.ensures.tuples; fit = c.in_ok-own.ensures.writable axes c.requires.writable.1 }) in
    omega (arith, few.points, within_limit c.args.models.now c.loop-model.model-index model (omega arith) c.model-item.is c.requires.small, c.loop-model.invariant.points_most, c.in_ok-own.ensures.points)

pub loop-model-preserved : goal.loop-model-preserved
loop-model-preserved c =
    let models = c.args.models.now in
    let regions = regions_in c.args.supports.now in
    let i = c.loop-model.model-index in
    let model = c.model-item.result in
    let own = c.in_ok-own.own.tuples in
    let here : i < length models = omega arith in
    let fit = c.in_ok-own.ensures.writable in
    let axes = c.requires.writable.0 in
    let few = adds_few axes regions model own (record { are = c.in_ok-own.ensures.tuples; fit = fit axes c.requires.writable.1 }) in
    let sum = sum_taken models i model here c.model-item.is in
    record {
      found = λ axes writable.
          one_more axes regions models i model c.loop-model.glyphs c.push.new.self own c.loop-model.tuples c.loop-model.explicit c.loop-model.points _ _ _ here c.model-item.is c.in_ok-push.ensures.ok
          (ap (λ n. c.loop-model.tuples + n) c.len.ensures) (ap (λ n. c.loop-model.explicit + n) c.in_ok-own.ensures.explicit) (ap (λ n. c.loop-model.points + n) c.in_ok-own.ensures.points)
          (record { are = c.in_ok-own.ensures.tuples; fit = fit axes writable }) (c.loop-model.invariant.found axes writable);
      tuples_most = omega (arith, sum, few.tuples, c.len.ensures, c.loop-model.invariant.tuples_most);
      explicit_most = omega (arith, sum, few.explicit, c.in_ok-own.ensures.explicit, c.loop-model.invariant.explicit_most);
      points_most = omega (arith, sum, few.points, c.in_ok-own.ensures.points, c.loop-model.invariant.points_most);
    }

pub returns : goal.returns
returns c = λ axes writable.
    subst (λ models. AreFound axes (regions_in c.args.supports.now) models c.loop-model.glyphs c.loop-model.tuples c.loop-model.explicit c.loop-model.points)
    (take_all c.loop-model.model-index c.args.models.now (omega arith)) (c.loop-model.invariant.found axes writable)
