use Rattle.std.proofs.Common.{◌≡◌, ◌+◌, ◌<◌, ◌≤◌, min, ◌++◌, [], ◌∷◌, true, false, All, length, map, get_or, refl, sym, ◌∙◌, ap, subst, arith}
use Rattle.std.proofs.lemmas.List.{get_or_default, length_push, map_push}
use Rattle.std.proofs.lemmas.List.Elements.{All-push}
use Rattle.arrayvec.specs.ArrayVec.{ArrayVec}
use Rattle.variation_rules.specs.declared.region.Triple.{Triple}
use Rattle.gvar_table.specs.Tuples.{IsTupleOf, variation_of}
use Rattle.glyph_variations.specs.Variations.{IsVariation, all_deltas, explicit_in, is_still_tuple}
use Rattle.glyph_variations.proofs.GlyphLemmas.{master_glyph}
use Rattle.glyph_variations.proofs.LoopLemmas.{all_found, can_be_written, explicit_more, none_so_far, one_found, passed_over, points_named}
use Rattle.glyph_variations.proofs.tuples.moving.Goals as goal
use Rattle.glyph_variations.proofs.tuples.moving.Goals.{then-not-are_still+in_ok-tuple+in_ok-push, else-not-are_still}

pub tuple_of-requires : goal.tuple_of-requires
tuple_of-requires c =
    let masters = c.args.masters.now in
    let master = c.index-masters-master.result in
    let k = c.loop-master.master in
    let glyph = master_glyph c.args.lengths.now masters k master c.requires (omega arith) c.index-masters-master.is in
    rw (c.default_points-points.ensures, c.deref-then-not-are_still.ensures.value, c.in_ok-deltas.ensures) glyph.0

pub explicit_in-explicit-requires : goal.explicit_in-explicit-requires
explicit_in-explicit-requires c =
    let masters = c.args.masters.now in
    let master = c.index-masters-master.result in
    let k = c.loop-master.master in
    let points = c.default_points-points.result.now in
    let glyph = rw (← c.default_points-points.ensures) at (master_glyph c.args.lengths.now masters k master c.requires (omega arith) c.index-masters-master.is) in
    let own = rw (c.deref-then-not-are_still.ensures.value, c.in_ok-deltas.ensures) at c.in_ok-tuple.ensures in
    let named = points_named c.args.lengths.now points c.index-supports-master.result.items master (variation_of c.in_ok-tuple.tuple) glyph own in
    omega (arith, ap length c.as_slice.ensures, named, c.requires.tuples_are.few_points, ap length c.default_points-points.ensures)

pub loop-master-init : goal.loop-master-init
loop-master-init c =
    rw c.new-tuples.ensures.items (record {
      so_far = none_so_far c.args.lengths.now c.args.supports.now c.args.masters.now;
      few = omega arith;
      last = omega arith;
      explicit = refl;
      most = omega arith;
      writable = λ axes writable k d below. absurd (omega arith);
    })

pub loop-master-preserved : goal.loop-master-preserved
loop-master-preserved c =
    let lengths = c.args.lengths.now in
    let masters = c.args.masters.now in
    let supports = c.args.supports.now in
    let master = c.index-masters-master.result in
    let k = c.loop-master.master in
    let before = c.loop-master.tuples.items in
    let points = c.default_points-points.result.now in
    let inside : k < length masters = omega arith in
    let also : k < length supports = omega arith in
    let last : k + 1 ≤ 128 = omega (arith, c.requires.tuples_are.few) in
    let glyph = rw (← c.default_points-points.ensures) at (master_glyph lengths masters k master c.requires inside c.index-masters-master.is) in
    let still : c.are_still.result ≡ is_still_tuple master = rw (c.deref.ensures.value, c.in_ok-deltas.ensures) at c.are_still.ensures in
    elim c.if-not-are_still.branch [
      | then-not-are_still+in_ok-tuple+in_ok-push w ↦ (
          let support = w.index-supports-master.result in
          let tuple = w.in_ok-tuple.tuple in
          let own : IsVariation lengths points support.items (all_deltas master) (variation_of tuple) = rw (w.deref-then-not-are_still.ensures.value, c.in_ok-deltas.ensures) at w.in_ok-tuple.ensures in
          let moves : is_still_tuple master ≡ false = sym still ∙ w.if-not-are_still.true in
          let items : c.if-not-are_still.tuples.items ≡ before ++ tuple ∷ [] = rw w.tuples-is w.in_ok-push.ensures.items in
          let named = points_named lengths points support.items master (variation_of tuple) glyph own in
          let count : w.explicit_in-explicit.result ≡ explicit_in (length points) tuple.points = w.explicit_in-explicit.ensures.value ∙ ap (explicit_in (length points)) w.as_slice.ensures in
          rw items (record {
            so_far = rw (map_push variation_of before tuple) (one_found lengths supports masters k support master (variation_of tuple) (map variation_of before) also inside w.index-supports-master.is c.index-masters-master.is moves (rw c.default_points-points.ensures at own) c.loop-master.invariant.so_far);
            few = omega (arith, length_push before tuple, c.loop-master.invariant.few);
            last = last;
            explicit = rw (map_push variation_of before tuple) (w.explicit-is ∙ ((λ i. c.loop-master.invariant.explicit i + count i) ∙ sym (explicit_more (length points) (map variation_of before) (variation_of tuple))));
            most = omega (arith, w.explicit-is, c.loop-master.invariant.most, w.explicit_in-explicit.ensures.most, ap length w.as_slice.ensures, named, c.requires.tuples_are.few_points, ap length c.default_points-points.ensures);
            writable = λ axes writable. All-push (IsTupleOf axes (length points + 4)) before tuple (c.loop-master.invariant.writable axes writable) (can_be_written axes lengths points supports k support master tuple writable also w.index-supports-master.is glyph own moves);
          }))
      | else-not-are_still w ↦ (
          let none : ArrayVec Triple = record { items = [] } in
          let support = get_or supports k none in
          let support_is : support ≡ get_or supports k support = get_or_default supports k none support also in
          let still_is : is_still_tuple master ≡ true = sym still ∙ w.if-not-are_still.false in
          rw w.tuples-is (record {
            so_far = passed_over lengths supports masters k support master (map variation_of before) also inside support_is c.index-masters-master.is still_is c.loop-master.invariant.so_far;
            few = omega (arith, c.loop-master.invariant.few);
            last = last;
            explicit = w.explicit-is ∙ c.loop-master.invariant.explicit;
            most = omega (arith, w.explicit-is, c.loop-master.invariant.most);
            writable = c.loop-master.invariant.writable;
          }))
    ]

pub returns-clause-tuples : goal.returns-clause-tuples
returns-clause-tuples c =
    let masters = c.args.masters.now in
    let supports = c.args.supports.now in
    let ended : min (length masters) (length supports) ≤ c.loop-master.master = omega arith in
    rw c.from_vec.ensures (all_found c.args.lengths.now supports masters c.loop-master.master (map variation_of c.loop-master.tuples.items) ended c.loop-master.invariant.so_far)

pub returns-clause-writable : goal.returns-clause-writable
returns-clause-writable c =
    let tuples = c.loop-master.tuples.items in
    rw c.from_vec.ensures (λ axes writable. record {
      some_axes = writable.some_axes;
      few_axes = writable.few_axes;
      phantom_points = omega arith;
      few_points = omega (arith, c.requires.tuples_are.few_points);
      few = omega (arith, c.loop-master.invariant.few, c.loop-master.invariant.last);
      each = subst (λ points. All (IsTupleOf axes (length points + 4)) tuples) c.default_points-points.ensures (c.loop-master.invariant.writable axes writable);
    })
