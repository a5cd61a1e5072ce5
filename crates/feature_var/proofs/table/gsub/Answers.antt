use Rattle.std.proofs.Common.{ℕ, ◌≤◌, List, length, map, sym, ap, subst, ◌∙◌, arith}
use Rattle.std.proofs.lemmas.Grind.{common_steps}
use Rattle.std.specs.Prelude.{All}
use Rattle.feature_var.specs.Layout.{in_glyph_order, lookup_list_bytes}
use Rattle.feature_var.specs.Limits.{IsGlyphPair, IsSmallCell}
use Rattle.feature_var.specs.Meaning.{IsTableOf}
use Rattle.feature_var.proofs.TableReading.{is_table}
use Rattle.feature_var.proofs.WritableCells.{lookups_fit, small_cells}
use Rattle.feature_var.proofs.table.gsub.Goals as goal

-- the lookup list is small
small : (c : goal.After-len) → length c.in_ok-lookups.lookups.items ≤ 1_050_370
small c =
    lookups_fit c.args.cells.now c.args.subs.now c.in_ok-lookups.lookups.items c.requires
    (subst (All (λ pairs. All IsGlyphPair pairs)) c.as_slice.ensures c.in_ok-lookups.ensures.glyphs)
    (c.in_ok-lookups.ensures.exact ∙ ap (λ (subs : List (List (ℕ × ℕ))). lookup_list_bytes (map in_glyph_order subs)) c.as_slice.ensures)

pub overflow_cast-len : goal.overflow_cast-len
overflow_cast-len c = omega (arith, c.len.ensures, c.in_ok-lookups.lookups.ok, small c)

pub overflow_add-len : goal.overflow_add-len
overflow_add-len c = omega (arith, c.len.ensures, c.in_ok-lookups.lookups.ok, small c)

pub put_variations-requires-clause-small : goal.put_variations-requires-clause-small
put_variations-requires-clause-small c = subst (All IsSmallCell) (sym c.as_slice-2.ensures) (small_cells c.args.cells.now c.args.subs.now c.requires)

pub returns-clause-written : goal.returns-clause-written
returns-clause-written c = grind (arith, common_steps)

pub returns-clause-means : goal.returns-clause-means
returns-clause-means c =
    let words = subst (All (λ pairs. All IsGlyphPair pairs)) c.as_slice.ensures c.in_ok-lookups.ensures.glyphs in
    subst (IsTableOf c.args.last c.args.cells.now c.args.subs.now) (sym (returns-clause-written c)) (is_table c.args.last c.args.cells.now c.args.subs.now c.requires words)
