use Rattle.std.proofs.Common.{◌≡◌, ◌<◌, ◌^◌, List, ℕ, Vec, Global, map, sym, ap, subst, ◌∙◌}
use Rattle.std.proofs.lemmas.Bool.{ltb-true}
use Rattle.std.specs.Prelude.{nat_lt}
use Rattle.font_build.specs.TableSteps.{slices_of}
use Rattle.font_build.proofs.FileLemmas.{can_be_font, tags_read}
use Rattle.sfnt_write.specs.Layout.{ArePieces}
use Rattle.sfnt_write.specs.Tables.{CanBeFont, Slice, slice_of, total_size}
use Rattle.font_build.proofs.list.pieces_of.Goals as goal

pub assemble-requires : goal.assemble-requires
assemble-requires c =
    let listed : map slice_of c.as_slice.result.now ≡ slices_of c.args.tables = ap (map slice_of) c.as_slice.ensures ∙ c.in_ok-list.ensures in
    let small : total_size (slices_of c.args.tables) < 2 ^ 31 = ltb-true _ (2 ^ 31) (ap (λ (slices : List Slice). nat_lt (total_size slices) (2 ^ 31)) (sym listed) ∙ (sym c.are_small.ensures ∙ c.if-are_small.true)) in
    subst CanBeFont (sym c.in_ok-list.ensures) (can_be_font c.args.tables c.requires small)

pub returns-in_ok-pieces-clause-tags : goal.returns-in_ok-pieces-clause-tags
returns-in_ok-pieces-clause-tags c =
    let pieces : List (List ℕ) = map (λ (piece : Vec ℕ Global). piece.items) c.in_ok-pieces.pieces in
    let listed : map slice_of c.as_slice.result.now ≡ slices_of c.args.tables = ap (map slice_of) c.as_slice.ensures ∙ c.in_ok-list.ensures in
    let small : total_size (slices_of c.args.tables) < 2 ^ 31 = ltb-true _ (2 ^ 31) (ap (λ (slices : List Slice). nat_lt (total_size slices) (2 ^ 31)) (sym listed) ∙ (sym c.are_small.ensures ∙ c.if-are_small.true)) in
    tags_read c.args.tables pieces small (subst (λ (slices : List Slice). ArePieces slices pieces) c.in_ok-list.ensures c.in_ok-pieces.ensures.written)
