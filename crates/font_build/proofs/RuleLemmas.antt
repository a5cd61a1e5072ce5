-- What a project within limits has of substitutions can be written.
use Rattle.std.proofs.Common.{◌≡◌, ◌≢◌, ℕ, suc, ◌<◌, ◌≤◌, List, [], ◌∷◌, All, length, refl, sym, ap, subst, arith}
use Rattle.std.proofs.lemmas.List.{length-map}
use Rattle.std.proofs.lemmas.List.Elements.{All-from_recursion, All-head, All-nil, All-weaker, recursion_from_All}
use Rattle.std.specs.List.{AllByRecursion}
use Rattle.designspace.specs.Limits.{IsRuleOn}
use Rattle.designspace.specs.declared.rule.Rule.{Rule}
use Rattle.feature_var.specs.Meaning.{AreWritable, IsWritableCell, axes_of}
use Rattle.font_model.specs.Fit.{IsFit}
use Rattle.font_model.specs.declared.parts.Project.{Project}
use Rattle.font_rules.specs.RuleNumbers.{AreAllNumbered, AreNumbered, sets_of}
use Rattle.rule_boxes.specs.Cells.{IsCell}
use Rattle.rule_boxes.specs.declared.cell.Cell.{Cell}

-- ---- pairs

-- a pair for each substitution
pairs_count : (names : List (List ℕ × ℕ)) (subs : List (List ℕ × List ℕ)) (pairs : List (ℕ × ℕ)) → AreNumbered names subs pairs → length pairs ≡ length subs
pairs_count names [] [] are = refl
pairs_count names [] (pair ∷ pairs) are = absurd are
pairs_count names (sub ∷ subs) [] are = absurd are
pairs_count names (sub ∷ subs) (pair ∷ pairs) are = ap suc (pairs_count names subs pairs are.2)

-- and a list of pairs for each rule
lists_count : (names : List (List ℕ × ℕ)) (rules : List Rule) (subs : List (List (ℕ × ℕ))) → AreAllNumbered names rules subs → length subs ≡ length rules
lists_count names [] [] are = refl
lists_count names [] (pairs ∷ subs) are = absurd are
lists_count names (rule ∷ rules) [] are = absurd are
lists_count names (rule ∷ rules) (pairs ∷ subs) are = ap suc (lists_count names rules subs are.1)

few_pairs : (names : List (List ℕ × ℕ)) (axes : ℕ) (rules : List Rule) (subs : List (List (ℕ × ℕ))) → AllByRecursion (IsRuleOn axes) rules → AreAllNumbered names rules subs → AllByRecursion (λ pairs. length pairs ≤ 4096) subs
few_pairs names axes [] [] each are = tt
few_pairs names axes [] (pairs ∷ subs) each are = absurd are
few_pairs names axes (rule ∷ rules) [] each are = absurd are
few_pairs names axes (rule ∷ rules) (pairs ∷ subs) each are =
    (omega (arith, pairs_count names rule.subs pairs are.0, each.0.few_subs), few_pairs names axes rules subs each.1 are.1)

-- ---- boxes

-- boxes, of which there are some, have all axes
pub axes_are : (axes rules : ℕ) (cells : List Cell) → All (IsCell axes rules) cells → cells ≢ [] → axes_of cells ≡ axes
axes_are axes rules [] each some = absurd (some refl)
axes_are axes rules (cell ∷ cells) each some = (All-head (IsCell axes rules) cell cells each).low.count

few_axes : (axes rules : ℕ) (cells : List Cell) → All (IsCell axes rules) cells → axes ≤ 8 → axes_of cells ≤ 8
few_axes axes rules [] each few = omega arith
few_axes axes rules (cell ∷ cells) each few = omega (arith, (All-head (IsCell axes rules) cell cells each).low.count, few)

cell_writable : (axes rules lists : ℕ) (cell : Cell) → rules ≡ lists → IsCell axes rules cell → IsWritableCell axes lists cell
cell_writable axes rules lists cell same own = record {
  low_each = own.low.count;
  high_each = own.high.count;
  low = own.low.normalised;
  high = own.high.normalised;
  rising = own.rising;
  there = subst (λ (n : ℕ). All (λ number. number < n) cell.rules) same own.known;
}

cells_writable : (axes rules lists : ℕ) (cells : List Cell) → rules ≡ lists → All (IsCell axes rules) cells → All (IsWritableCell (axes_of cells) lists) cells
cells_writable axes rules lists [] same each = All-nil (IsWritableCell 0 lists)
cells_writable axes rules lists (cell ∷ cells) same each =
    let axes_same : axes ≡ length cell.low.items = sym (All-head (IsCell axes rules) cell cells each).low.count in
    subst (λ (n : ℕ). All (IsWritableCell n lists) (cell ∷ cells)) axes_same
    (All-weaker (IsCell axes rules) (IsWritableCell axes lists) (λ own is. cell_writable axes rules lists own same is) (cell ∷ cells) each)

-- ---- all

pub gsub_writable : (project : Project) → IsFit project → AreWritable project.cells project.subs
gsub_writable project fit =
    let axes = length project.design.axes in
    let rules = project.design.rules in
    let entries = project.names.entries in
    let sets : length (sets_of rules) ≡ length rules = length-map rules (λ (rule : Rule). rule.sets) in
    let lists = lists_count entries rules project.subs fit.subs in
    record {
      few_axes = few_axes axes (length (sets_of rules)) project.cells fit.cells.each fit.design.axes.few;
      few_cells = fit.cells.few;
      few_lists = omega (arith, lists, fit.design.few_rules);
      few_pairs = All-from_recursion (λ (pairs : List (ℕ × ℕ)). length pairs ≤ 4096) project.subs (few_pairs entries axes rules project.subs (recursion_from_All (IsRuleOn axes) rules fit.design.rules) fit.subs);
      each = cells_writable axes (length (sets_of rules)) (length project.subs) project.cells (omega (arith, sets, lists)) fit.cells.each;
    }
