-- The names of instances are short, those that are made as well.
use Rattle.std.proofs.Common.{ℕ, ◌*◌, ◌<◌, ◌≤◌, ◌^◌, List, [], ◌∷◌, ◌++◌, length, codes, sum_by, Ok, Err, subst, lit<, length-append, arith}
use Rattle.std.specs.Prelude.{IfOk, Result, decimal, nat_le}
use Rattle.std.proofs.lemmas.Bool.Decides.{nat_tests}
use Rattle.std.proofs.lemmas.Fmt.{IsAscii-decimal, length-decimal-le}
use Rattle.std.proofs.lemmas.List.Sums.{sum_by-cons}
use Rattle.std.proofs.lemmas.Str.{IsAscii-append, chars-IsAscii}
use Rattle.std.proofs.lemmas.Str.Ascii.{IsAscii-cons, IsAscii-nil}
use Rattle.std.specs.Str.{IsAscii}
use Rattle.attributes.proofs.Readings.{chosen}
use Rattle.basics.specs.Reading.{Gives}
use Rattle.basics.specs.declared.fault.Spot.{Spot}
use Rattle.basics.specs.declared.fault.Stop.{Stop}
use Rattle.markup_rules.specs.Tree.{Tree}
use Rattle.font_text.specs.Utf16.{unit_count, utf16_length}
use Rattle.design_axes.specs.Names.{short_name}
use Rattle.designspace.specs.Limits.{IsBrief}

-- ---- names that are written

short_ok : (item : List ℕ) (tree : Tree) (text : List ℕ) → IfOk (short_name item tree text) IsBrief
unfolding short_name
short_ok item tree text = chosen IsBrief (nat_le (utf16_length text) 100) _ _ (λ h. grind (arith, nat_tests)) (λ _. tt)

pub short_read : (item : List ℕ) (tree : Tree) (text : List ℕ) (result : Result (List ℕ) Stop) → Gives (λ name. name) result (short_name item tree text) → IfOk result IsBrief
short_read item tree text (Ok name) gives = let P : Result (List ℕ) Spot → Type 0 = λ r. IfOk r IsBrief in subst P gives (short_ok item tree text)
short_read item tree text (Err stop) gives = tt

-- ---- names that are made

one_within : (c : ℕ) → unit_count c ≤ 2
one_within c = grind (arith, nat_tests)

units_within : (cs : List ℕ) → sum_by unit_count cs ≤ 2 * length cs
units_within [] = omega arith
units_within (c ∷ cs) =
    let later = units_within cs in
    let here = one_within c in
    let total = sum_by-cons unit_count c cs in
    omega arith

instance_ascii : IsAscii (codes "Instance ")
instance_ascii =
    IsAscii-cons 73 (codes "nstance ") (lit< tt) (IsAscii-cons 110 (codes "stance ") (lit< tt)
    (IsAscii-cons 115 (codes "tance ") (lit< tt) (IsAscii-cons 116 (codes "ance ") (lit< tt)
    (IsAscii-cons 97 (codes "nce ") (lit< tt) (IsAscii-cons 110 (codes "ce ") (lit< tt)
    (IsAscii-cons 99 (codes "e ") (lit< tt) (IsAscii-cons 101 (codes " ") (lit< tt)
    (IsAscii-cons 32 [] (lit< tt) IsAscii-nil))))))))

pub made_brief : (n : ℕ) → n < 2 ^ 64 → IsBrief (codes "Instance " ++ decimal n)
unfolding utf16_length
made_brief n small =
    let ascii : IsAscii (codes "Instance " ++ decimal n) = IsAscii-append (codes "Instance ") (decimal n) instance_ascii (IsAscii-decimal n small) in
    let most = units_within (codes "Instance " ++ decimal n) in
    let size = length-append (codes "Instance ") (decimal n) in
    let digits = length-decimal-le 20 n (lit< tt) (omega (arith, small)) small in
    rw (chars-IsAscii _ ascii) (omega arith)
