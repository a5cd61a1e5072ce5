use Rattle.std.proofs.Common.{◌<◌, length, ap, get_or, arith, rules}
use Rattle.filters.proofs.Applying.{at_first, one_more, also_touched, refused}
use Rattle.filters.proofs.in_order.apply_all.Goals as goal

pub apply_one-requires : goal.apply_one-requires
apply_one-requires g c = c.loop-number.invariant.image.within

pub loop-number-init : goal.loop-number-init
loop-number-init g c = at_first _ _ _ c.requires

pub loop-number-preserved : goal.loop-number-preserved
loop-number-preserved g c =
    one_more c.args.filters.now c.loop-number.filters c.loop-number.number c.args.outline c.loop-number.outline c.in-Ok.made _ (get_or c.loop-number.filters c.loop-number.number c.index-filters-number.result) c.apply_one.new.filter
    c.loop-number.invariant (omega arith) (ap (get_or c.loop-number.filters c.loop-number.number) c.index-filters-number.is)
    (record {
      touches = c.apply_one.ensures.touches_rise;
      setting = c.apply_one.ensures.setting_stays;
      name = c.apply_one.ensures.name_stays;
      texts = c.apply_one.ensures.texts_stay;
      image = c.apply_one.ensures.image_stays;
      kinds = c.apply_one.ensures.kinds_stay;
    })
    c.in-Ok.ensures.answer c.in-Ok.ensures.kinds_follow c.in-Ok.ensures.points

pub returns-in-Err : goal.returns-in-Err
returns-in-Err g c =
    let is = ap (get_or c.loop-number.filters c.loop-number.number) c.index-filters-number.is in
    let less : c.loop-number.number < length c.loop-number.filters = omega arith in
    let touched = also_touched c.args.filters.now c.loop-number.filters c.loop-number.number c.args.outline c.loop-number.outline _ (get_or c.loop-number.filters c.loop-number.number c.index-filters-number.result) c.apply_one.new.filter
    c.loop-number.invariant less is (record {
      touches = c.apply_one.ensures.touches_rise;
      setting = c.apply_one.ensures.setting_stays;
      name = c.apply_one.ensures.name_stays;
      texts = c.apply_one.ensures.texts_stay;
      image = c.apply_one.ensures.image_stays;
      kinds = c.apply_one.ensures.kinds_stay;
    }) in
    record {
      answer = refused c.args.filters.now c.loop-number.filters c.loop-number.number c.args.outline c.loop-number.outline _ _ c.in-Err.refusal c.loop-number.invariant less is c.in-Err.ensures.answer;
      within = tt;
      number = search rules;
      kinds_follow = tt;
      points = tt;
      touches_rise = touched.touches;
      settings_stay = touched.settings;
      names_stay = touched.names;
      texts_stay = touched.texts;
      images_stay = touched.images;
      kinds_stay = touched.kinds;
    }
