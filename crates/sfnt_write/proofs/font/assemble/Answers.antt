use Rattle.std.proofs.Common.{◌≡◌, ℕ, ◌+◌, ◌-◌, ◌++◌, ◌∷◌, [], ◌%◌, ◌^◌, List, Vec, Global, length, map, refl, subst, sym, ap, ◌∙◌, arith}
use Rattle.std.specs.List.{AllByRecursion}
use Rattle.std.specs.Vec.Iter.{into_iter_items}
use Rattle.sfnt_write.specs.Layout.{piece_of}
use Rattle.sfnt_write.specs.Steps.{HasField, IsDirectory}
use Rattle.sfnt_write.specs.Tables.{Slice, slice_of}
use Rattle.sfnt_write.specs.declared.table.Table.{Table}
use Rattle.sfnt_write.proofs.FontReading.{all_made, are_pieces, fields_there, font_holds}
use Rattle.sfnt_write.proofs.font.assemble.Goals as goal

pub loop-table-init : goal.loop-table-init
loop-table-init c =
    let n : ℕ = (0xB1B0_AFBA + (2 ^ 32 - c.in_ok-directory.directory.file_sum)) % 2 ^ 32 in
    let first : List (List ℕ) = map (λ (piece : Vec ℕ Global). piece.items) c.push.new.self in
    let all : into_iter_items c.into_iter-table-iterator.result ≡ c.args.tables = c.into_iter-table-iterator.ensures.into_iter_gives.0 ∙ c.into_vec-table-items.ensures in
    record {
      written = ap (λ (tables : List Table). first ++ map (piece_of n) (map slice_of tables)) all;
      fields = subst (λ (tables : List Table). AllByRecursion HasField (map slice_of tables)) (sym all) (fields_there (map slice_of c.args.tables) c.requires);
    }

pub returns-clause-written : goal.returns-clause-written
returns-clause-written c =
    let tables : List Slice = map slice_of c.args.tables in
    let bytes : Vec ℕ Global = c.in_ok-directory.directory.bytes in
    let sum : ℕ = c.in_ok-directory.directory.file_sum in
    let n : ℕ = (0xB1B0_AFBA + (2 ^ 32 - sum)) % 2 ^ 32 in
    let left : List Table = into_iter_items c.loop-table.table-iterator in
    let none : length left ≡ 0 = omega (arith, c.loop-table.table-iterator.rest.ok.0, c.in-None.ensures.steps.0) in
    let first : map (λ (piece : Vec ℕ Global). piece.items) c.push.new.self ≡ bytes.items ∷ [] =
    ap (map (λ (piece : Vec ℕ Global). piece.items)) (c.in_ok-push.ensures.ok ∙ ap (λ (pieces : List (Vec ℕ Global)). pieces ++ bytes ∷ []) c.new-pieces.ensures) in
    let directory = subst (λ (given : List Table). IsDirectory (map slice_of given) bytes.items sum) c.as_slice.ensures c.in_ok-directory.ensures in
    let made = all_made (map (λ (piece : Vec ℕ Global). piece.items) c.loop-table.pieces) (map (λ (piece : Vec ℕ Global). piece.items) c.push.new.self) n left c.args.tables none c.loop-table.invariant.written in
    are_pieces tables (map (λ (piece : Vec ℕ Global). piece.items) c.loop-table.pieces) bytes.items sum n directory refl (made ∙ ap (λ (pieces : List (List ℕ)). pieces ++ map (piece_of n) tables) first)

pub returns-clause-means : goal.returns-clause-means
returns-clause-means c =
    let bytes : Vec ℕ Global = c.in_ok-directory.directory.bytes in
    let directory = subst (λ (given : List Table). IsDirectory (map slice_of given) bytes.items c.in_ok-directory.directory.file_sum) c.as_slice.ensures c.in_ok-directory.ensures in
    font_holds (map slice_of c.args.tables) (map (λ (piece : Vec ℕ Global). piece.items) c.loop-table.pieces) c.requires directory.fit (returns-clause-written c)
