use Rattle.std.proofs.Common.{◌≡◌, ◌<◌, ◌++◌, refl, ◌∙◌, ap, length, arith, get_or}
use Rattle.std.proofs.lemmas.List.{get_or_default}
use Rattle.compat.specs.Flattened.{moved_contours}
use Rattle.compat.specs.Flats.{flat_contours, flat_at}
use Rattle.compat.specs.declared.flat.Flat.TheVariants.{Unknown}
use Rattle.compat.proofs.Joined.{drawn_more, movable_here}
use Rattle.compat.proofs.flat.joined.Goals as goal

pub loop-number-preserved : goal.loop-number-preserved
loop-number-preserved c =
    let less = c.loop-number-test.true in
    let lengths = ap length c.as_slice-component-items.ensures in
    let within : c.loop-number.number < length c.args.bases.now = omega (arith, less, lengths, c.requires.one_each) in
    let base = get_or c.args.bases.now c.loop-number.number 0 in
    let known = c.requires.known c.loop-number.number 0 within in
    let contours : c.contours.result.now ≡ flat_contours (flat_at c.args.flats.now base) =
    c.contours.ensures ∙ ap flat_contours (c.index-flats-bases.is ∙ get_or_default c.args.flats.now base c.index-flats-bases.result Unknown known) in (
      drawn_more c.args.flats.now c.args.drawing.now.components c.as_slice-component-items.result.now c.args.bases.now c.loop-number.number c.component-item.result base
          c.as_slice-component-items.ensures less within c.component-item.is refl c.loop-number.contours.items c.index.new.contours.items _ c.loop-number.invariant.0
          (c.in_ok-index.ensures ∙ ap (λ kept. c.loop-number.contours.items ++ moved_contours c.component-item.result kept) contours),
      (movable_here c.args.flats.now c.args.drawing.now.components c.as_slice-component-items.result.now c.args.bases.now c.loop-number.number c.component-item.result base
          c.as_slice-component-items.ensures less within c.component-item.is refl c.loop-number.invariant.1).1,
    )
