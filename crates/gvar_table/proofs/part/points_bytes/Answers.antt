-- Fewer points than the glyph has are listed; as many are all of them.
use Rattle.std.proofs.Common.{ap, ◌∙◌, ◌++◌, ◌∷◌, [], arith, inl, inr}
use Rattle.std.proofs.lemmas.Result.{IfOk-weaker}
use Rattle.gvar_table.proofs.PartLemmas.{rises_wider, all_points, not_all}
use Rattle.gvar_table.proofs.part.points_bytes.Goals as goal

pub pack_points-requires-clause-rise : goal.pack_points-requires-clause-rise
pack_points-requires-clause-rise c = rises_wider 0 c.args.count 65536 c.args.points.now (omega arith) c.requires.rise

pub returns-then-points-from-clause-packed : goal.returns-then-points-from-clause-packed
returns-then-points-from-clause-packed c =
    IfOk-weaker _ _ _ (λ bytes listed. inr (not_all c.args.count c.args.points.now (omega arith), listed c.args.count c.requires.rise)) c.pack_points.ensures.packed

pub returns-clause-packed : goal.returns-clause-packed
returns-clause-packed c =
    inl (all_points c.args.count c.args.points.now c.requires.rise (omega arith), c.in_ok-put_u8.ensures.ok ∙ ap (λ b. b ++ 0 ∷ []) c.new-bytes.ensures.items)
