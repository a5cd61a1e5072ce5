-- The parts of the record stand one after another.
use Rattle.std.proofs.Common.{◌≤◌, length, sym, subst, arith}
use Rattle.std.proofs.lemmas.Int.{to_z_pos}
use Rattle.std.proofs.lemmas.Result.{on_ok_weaker}
use Rattle.std.specs.Prelude.{All}
use Rattle.std.specs.Int.{w16, cast_signed}
use Rattle.glif.specs.Limits.{IsPointWithin}
use Rattle.glyf_loca.proofs.PointLemmas.{few_contours, points_within}
use Rattle.glyf_loca.proofs.RecordReading.{count_fits}
use Rattle.glyf_loca.proofs.WriterSteps.{record_spelled}
use Rattle.glyf_loca.proofs.simple.put_record.Goals as goal

pub overflow_cast-contours : goal.overflow_cast-contours
overflow_cast-contours c =
    count_fits (length c.args.contours.now) (omega (arith, few_contours c.args.contours.now c.requires.within.each, c.requires.within.points))

pub put_points-requires : goal.put_points-requires
put_points-requires c = subst (All IsPointWithin) (sym c.requires.points) (points_within c.args.contours.now c.requires.within.each)

pub returns : goal.returns
returns c =
    let contours = c.args.contours.now in
    let few : length contours ≤ 4000 = omega (arith, few_contours c.args.contours.now c.requires.within.each, c.requires.within.points) in
    on_ok_weaker c.put_points.result
    (λ last. record_spelled contours c.args.points.now c.args.bounds (cast_signed w16 (length contours)) c.header.result c.args.out.now.items _ _ _ _ c.header.ensures (to_z_pos w16 (length contours) (omega arith)) c.requires.bounds c.requires.points c.in_ok-put_fields.ensures c.in_ok-put_lasts.ensures c.in_ok-put_u16.ensures.ok last)
    c.put_points.ensures
