use Rattle.std.proofs.Common.{◌≡◌, ℤ, ◌<ℤ◌, ◌-◌, List, length, take, true, false, arith, subst, sym, int_eq, int_cmp, is_lt}
use Rattle.std.proofs.lemmas.Int.{ints}
use Rattle.norm_loc.specs.declared.pairs.Insertion.TheVariants.{Taken}
use Rattle.norm_loc.specs.Inserting.{IsInsertion}
use Rattle.norm_loc.proofs.PairLemmas.{IsPrefix, ends_with, prefix_before, insert_after, insert_taken}
use Rattle.norm_loc.proofs.pairs.insertion_of.Goals as goal

same : (a b : ℤ) → true ≡ int_eq a b → a ≡ b
same a b e = grind (arith, ints)

smaller : (a b : ℤ) → true ≡ is_lt (int_cmp a b) → a <ℤ b
smaller a b e = grind (arith, ints)

greater : (a b : ℤ) → false ≡ int_eq a b → false ≡ is_lt (int_cmp a b) → b <ℤ a
greater a b e f = grind (arith, ints)

pub returns-then-eq : goal.returns-then-eq
returns-then-eq c =
    let pairs = c.args.pairs.now in
    let prefix = c.loop-prefix.prefix.now in
    let last = c.last-item.result in
    let split = ends_with prefix last c.in-len1-up.len_at_least c.last-item.is in
    let taken = insert_taken c.args.pair.now last pairs prefix (take (length prefix - 1) prefix) c.requires c.loop-prefix.invariant split (same last.0 c.args.pair.now.0 c.if-eq.ensures) in
    subst (λ b. IsInsertion c.args.pair.now pairs (Taken b)) (sym c.eq-then-eq.ensures) taken

pub loop-prefix-preserved : goal.loop-prefix-preserved
loop-prefix-preserved c =
    let prefix = c.loop-prefix.prefix.now in
    let last = c.last-item.result in
    let split = ends_with prefix last c.in-len1-up.len_at_least c.last-item.is in
    let own : IsPrefix c.args.pair.now c.args.pairs.now prefix = c.loop-prefix.invariant in
    prefix_before c.args.pair.now last c.args.pairs.now (take (length prefix - 1) prefix)
    (subst (λ (xs : List (ℤ × ℤ)). IsPrefix c.args.pair.now c.args.pairs.now xs) split own) (greater last.0 c.args.pair.now.0 c.if-eq.ensures c.if-lt.ensures)

pub returns-then-lt : goal.returns-then-lt
returns-then-lt c =
    let prefix = c.loop-prefix.prefix.now in
    let last = c.last-item.result in
    let split = ends_with prefix last c.in-len1-up.len_at_least c.last-item.is in
    insert_after c.args.pair.now last c.args.pairs.now prefix (take (length prefix - 1) prefix) c.requires c.loop-prefix.invariant split (smaller last.0 c.args.pair.now.0 c.if-lt.ensures)
