use Rattle.std.proofs.Common.{ℕ, List, length, map, ◌≤◌, sym, subst, ◌∙◌}
use Rattle.std.proofs.lemmas.List.Elements.{All-from_recursion, recursion_from_All}
use Rattle.std.specs.Prelude.{All}
use Rattle.feature_var.specs.Layout.{in_glyph_order}
use Rattle.feature_var.proofs.PairOrder.{lists_few}
use Rattle.feature_var.proofs.lookups.lookup_list.Goals as goal

pub put_lookup_list-requires-clause-few_pairs : goal.put_lookup_list-requires-clause-few_pairs
put_lookup_list-requires-clause-few_pairs c =
    subst (All (λ (pairs : List (ℕ × ℕ)). length pairs ≤ 4096)) (sym (c.as_slice.ensures ∙ c.in_ok-lists.ensures.order))
    (All-from_recursion (λ (pairs : List (ℕ × ℕ)). length pairs ≤ 4096) (map in_glyph_order c.args.subs.now) (lists_few c.args.subs.now (recursion_from_All (λ (pairs : List (ℕ × ℕ)). length pairs ≤ 4096) c.args.subs.now c.requires.few_pairs)))
