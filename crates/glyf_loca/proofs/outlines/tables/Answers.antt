-- Each turn adds a glyph and the offset after it; in the end all are there.
use Rattle.std.proofs.Common.{◌≡◌, ◌%◌, ◌≤◌, ℕ, List, [], ◌∷◌, ◌++◌, length, take, sym, ap, subst, ◌∙◌, arith}
use Rattle.std.proofs.lemmas.List.{take_all}
use Rattle.std.specs.Prelude.{All, nat_lt}
use Rattle.std.specs.List.{flat_map}
use Rattle.glif.specs.declared.shape.Outline.{Outline}
use Rattle.glif.specs.Limits.{IsWithinLimits}
use Rattle.glyf_loca.specs.Layout.{contours_of, ends_from, glyf_bytes, offset_bytes}
use Rattle.glyf_loca.proofs.SizeLemmas.{glyf_aligned}
use Rattle.glyf_loca.proofs.TableReading.{means, within_reach}
use Rattle.glyf_loca.proofs.WriterSteps.{Stand, next_small, one_more, outlines_more}
use Rattle.glyf_loca.proofs.outlines.tables.Goals as goal

pub put_glyph-requires-clause-aligned : goal.put_glyph-requires-clause-aligned
put_glyph-requires-clause-aligned c =
    ap (λ (bytes : List ℕ). length bytes % 4) c.loop-outline.invariant.glyf_is ∙ glyf_aligned (contours_of (take c.loop-outline.outline-index c.as_slice-outline-items.result.now))

pub overflow_cast-len : goal.overflow_cast-len
overflow_cast-len c =
    let outlines : List Outline = c.as_slice-outline-items.result.now in
    let within : All IsWithinLimits outlines = subst (All IsWithinLimits) (sym c.as_slice-outline-items.ensures) c.requires.within in
    let few : length outlines ≤ 32510 = omega (arith, ap length c.as_slice-outline-items.ensures, c.requires.few) in
    let small = next_small outlines c.loop-outline.outline-index c.outline-item.result _ _ few within c.loop-outline-test.true c.outline-item.is c.loop-outline.invariant.glyf_is c.in_ok-own.ensures.written in
    omega (arith, c.len.ensures, small)

pub loop-outline-preserved : goal.loop-outline-preserved
loop-outline-preserved c =
    let outlines : List Outline = c.as_slice-outline-items.result.now in
    let i : ℕ = c.loop-outline.outline-index in
    let size : c.len.result ≡ length c.put_glyph.new.out.items = omega (arith, c.len.ensures) in
    let P : List Outline → Type 0 = λ so_far. Stand so_far c.put_glyph.new.out.items c.push-in-loop-outline-2.new.self.items c.push-in-loop-outline.new.self in
    subst P (sym (outlines_more outlines i c.outline-item.result c.loop-outline-test.true c.outline-item.is))
    (one_more (take i outlines) c.outline-item.result _ _ _ _ _ _ c.in_ok-own.own c.loop-outline.invariant c.in_ok-own.ensures.written
    (c.in_ok-push-3.ensures.items ∙ ap (λ (n : ℕ). c.loop-outline.offsets.items ++ n ∷ []) size)
    c.in_ok-push-2.ensures.ok c.in_ok-own.ensures.bounds)

pub loca-requires : goal.loca-requires
loca-requires c =
    let size : c.len-long.result ≡ length c.loop-outline.glyf.items = omega (arith, c.len-long.ensures) in
    λ short.
    within_reach (contours_of (take c.loop-outline.outline-index c.as_slice-outline-items.result.now)) c.loop-outline.glyf.items c.deref.result.now (nat_lt 131070 c.len-long.result) c.loop-outline.invariant.glyf_is
    (c.deref.ensures.value ∙ c.loop-outline.invariant.offsets_are) (ap (nat_lt 131070) size) short

pub returns-clause-written : goal.returns-clause-written
returns-clause-written c =
    let whole : take c.loop-outline.outline-index c.as_slice-outline-items.result.now ≡ c.args.outlines.now =
    take_all c.loop-outline.outline-index c.as_slice-outline-items.result.now c.loop-outline-test.false ∙ c.as_slice-outline-items.ensures in
    let size : c.len-long.result ≡ length c.loop-outline.glyf.items = omega (arith, c.len-long.ensures) in
    record {
      glyf_is = c.loop-outline.invariant.glyf_is ∙ ap (λ (outlines : List Outline). glyf_bytes (contours_of outlines)) whole;
      long_is = ap (nat_lt 131070) size;
      loca_is = c.in_ok-loca.ensures
          ∙ ap (flat_map (offset_bytes (nat_lt 131070 c.len-long.result))) (c.deref.ensures.value ∙ c.loop-outline.invariant.offsets_are ∙ ap (λ (outlines : List Outline). 0 ∷ ends_from 0 (contours_of outlines)) whole);
    }

pub returns-clause-means : goal.returns-clause-means
returns-clause-means c = means c.args.outlines.now c.loop-outline.glyf.items c.in_ok-loca.loca.items (nat_lt 131070 c.len-long.result) c.requires (returns-clause-written c)
