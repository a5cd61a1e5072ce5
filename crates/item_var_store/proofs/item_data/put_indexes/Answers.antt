use Rattle.std.proofs.Common.{◌++◌, List, ℕ, ap, sym, ◌∙◌, append_assoc}
use Rattle.std.specs.List.{flat_map}
use Rattle.variation_rules.specs.PackedPoints.{count_from}
use Rattle.item_var_store.specs.Layout.{index_bytes}
use Rattle.item_var_store.proofs.RowLemmas.{index_more}
use Rattle.item_var_store.proofs.item_data.put_indexes.Goals as goal

pub loop-index-preserved : goal.loop-index-preserved
loop-index-preserved c =
    let before : List ℕ = c.args.out.now.items in
    let own : List ℕ = index_bytes c.loop-index.index in
    c.in_ok-put_u16.ensures.ok
    ∙ ap (λ (bytes : List ℕ). bytes ++ own) c.loop-index.invariant
    ∙ append_assoc before (flat_map index_bytes (count_from c.loop-index.index 0)) own
    ∙ ap (λ (bytes : List ℕ). before ++ bytes) (sym (index_more index_bytes c.loop-index.index))
