use Rattle.std.proofs.Common.{◌≡◌, ℕ, ◌+◌, ◌∷◌, [], ◌≤◌, length, All, Some, true, false, List, sym, ap, subst, ◌∙◌, arith}
use Rattle.std.proofs.lemmas.Bool.{le-leb, lt-leb}
use Rattle.std.proofs.lemmas.List.Elements.{All-from_recursion, recursion_from_All}
use Rattle.std.proofs.lemmas.Result.{IfOk-weaker}
use Rattle.std.specs.List.{list_any}
use Rattle.cmap_name.specs.CharacterLayout.{IsCharacterMap, IsFormat4, cmap_bytes, format_12_bytes, has_basic}
use Rattle.cmap_name.specs.Characters.{Agree, glyph_of_character}
use Rattle.cmap_name.specs.Codes.{glyph_of}
use Rattle.cmap_name.specs.Groups.{FitsGroup, basic_codes, exceeds, groups_of}
use Rattle.cmap_name.specs.Steps.{FitsBasic, IsMapOf}
use Rattle.cmap_name.specs.declared.groups.Group.{Group}
use Rattle.cmap_name.proofs.GroupLemmas.{CodeWithin, basic_unicode}
use Rattle.cmap_name.proofs.MapReading.{basic_fit, basic_means, both_means, few_groups, is_basic_alone, is_both, is_whole_alone, whole_means}
use Rattle.cmap_name.proofs.characters.cmap.Goals as goal

pub groups_of-requires : goal.groups_of-requires
groups_of-requires c =
    let codes : List (ℕ × ℕ) = c.args.codes.now in
    let is : c.basic_codes.result.now ≡ basic_codes codes = c.basic_codes.ensures ∙ ap basic_codes c.as_slice-codes.ensures in
    subst (All (CodeWithin 0x10_FFFF)) (sym is) (All-from_recursion (CodeWithin 0x10_FFFF) (basic_codes codes) (basic_unicode codes))

pub whole_alone-requires : goal.whole_alone-requires
whole_alone-requires c =
    let codes : List (ℕ × ℕ) = c.args.codes.now in
    let is : c.deref.result.now ≡ groups_of codes = c.deref.ensures.value ∙ c.in_ok-whole.ensures.value ∙ ap groups_of c.as_slice-codes.ensures in
    omega (arith, few_groups codes c.requires, ap (λ (gs : List Group). length gs) is)

pub returns-then-len-gt-MOST_SEGMENTS-clause-written : goal.returns-then-len-gt-MOST_SEGMENTS-clause-written
returns-then-len-gt-MOST_SEGMENTS-clause-written c =
    let codes : List (ℕ × ℕ) = c.args.codes.now in
    let basic : c.in_ok-basic.basic.items ≡ groups_of (basic_codes codes) = c.in_ok-basic.ensures.value ∙ ap groups_of (c.basic_codes.ensures ∙ ap basic_codes c.as_slice-codes.ensures) in
    let whole : c.deref.result.now ≡ groups_of codes = c.deref.ensures.value ∙ c.in_ok-whole.ensures.value ∙ ap groups_of c.as_slice-codes.ensures in
    let none : has_basic codes ≡ false = lt-leb (length (groups_of (basic_codes codes)) + 1) 8189 (omega (arith, ap (λ (gs : List Group). length gs) basic)) in
    IfOk-weaker c.whole_alone.result _ (λ bytes. IsCharacterMap codes bytes.items) (λ bytes is. is_whole_alone codes bytes.items none (is ∙ ap (λ (gs : List Group). cmap_bytes ((10, format_12_bytes gs) ∷ [])) whole)) c.whole_alone.ensures

abbrev means : List (ℕ × ℕ) → List ℕ → Type 0
means codes bytes = (c : ℕ) → glyph_of_character bytes c ≡ Some (glyph_of codes c)

pub returns-then-len-gt-MOST_SEGMENTS-clause-means : goal.returns-then-len-gt-MOST_SEGMENTS-clause-means
returns-then-len-gt-MOST_SEGMENTS-clause-means c =
    let codes : List (ℕ × ℕ) = c.args.codes.now in
    let whole : c.in_ok-whole.whole.items ≡ groups_of codes = c.in_ok-whole.ensures.value ∙ ap groups_of c.as_slice-codes.ensures in
    let fit = recursion_from_All FitsGroup (groups_of codes) (subst (All FitsGroup) whole c.in_ok-whole.ensures.fit) in
    IfOk-weaker c.whole_alone.result _ (λ bytes. means codes bytes.items) (λ bytes is. (whole_means codes bytes.items c.requires fit (is ∙ ap (λ (gs : List Group). cmap_bytes ((10, format_12_bytes gs) ∷ [])) (c.deref.ensures.value ∙ whole))).means) c.whole_alone.ensures

pub returns-then-len-gt-MOST_SEGMENTS-clause-agrees : goal.returns-then-len-gt-MOST_SEGMENTS-clause-agrees
returns-then-len-gt-MOST_SEGMENTS-clause-agrees c =
    let codes : List (ℕ × ℕ) = c.args.codes.now in
    let whole : c.in_ok-whole.whole.items ≡ groups_of codes = c.in_ok-whole.ensures.value ∙ ap groups_of c.as_slice-codes.ensures in
    let fit = recursion_from_All FitsGroup (groups_of codes) (subst (All FitsGroup) whole c.in_ok-whole.ensures.fit) in
    IfOk-weaker c.whole_alone.result _ (λ bytes. Agree bytes.items) (λ bytes is. (whole_means codes bytes.items c.requires fit (is ∙ ap (λ (gs : List Group). cmap_bytes ((10, format_12_bytes gs) ∷ [])) (c.deref.ensures.value ∙ whole))).agrees) c.whole_alone.ensures

pub both-requires-clause-fit : goal.both-requires-clause-fit
both-requires-clause-fit c =
    let codes : List (ℕ × ℕ) = c.args.codes.now in
    let basic : c.in_ok-basic.basic.items ≡ groups_of (basic_codes codes) = c.in_ok-basic.ensures.value ∙ ap groups_of (c.basic_codes.ensures ∙ ap basic_codes c.as_slice-codes.ensures) in
    let fit_basic = recursion_from_All FitsGroup (groups_of (basic_codes codes)) (subst (All FitsGroup) basic c.in_ok-basic.ensures.fit) in
    subst (All FitsBasic) (sym (c.deref-then-exceed_basic.ensures.value ∙ basic)) (All-from_recursion FitsBasic (groups_of (basic_codes codes)) (basic_fit codes fit_basic))

pub both-requires-clause-few_whole : goal.both-requires-clause-few_whole
both-requires-clause-few_whole c =
    let codes : List (ℕ × ℕ) = c.args.codes.now in
    let whole : c.in_ok-whole.whole.items ≡ groups_of codes = c.in_ok-whole.ensures.value ∙ ap groups_of c.as_slice-codes.ensures in
    omega (arith, few_groups codes c.requires, ap (λ (gs : List Group). length gs) (c.deref-then-exceed_basic-2.ensures.value ∙ whole))

abbrev BothMap : List Group → List Group → List ℕ → Type 0
BothMap basic whole bytes = IsMapOf (IsFormat4 basic) (λ own. (1, own) ∷ (10, format_12_bytes whole) ∷ []) bytes

both_as : (a b x y : List Group) (bytes : List ℕ) → a ≡ b → x ≡ y → BothMap a x bytes → BothMap b y bytes
both_as a b x y bytes first second is = subst (λ gs. BothMap gs y bytes) first (subst (λ gs. BothMap a gs bytes) second is)

pub returns-then-exceed_basic-clause-written : goal.returns-then-exceed_basic-clause-written
returns-then-exceed_basic-clause-written c =
    let codes : List (ℕ × ℕ) = c.args.codes.now in
    let basic : c.in_ok-basic.basic.items ≡ groups_of (basic_codes codes) = c.in_ok-basic.ensures.value ∙ ap groups_of (c.basic_codes.ensures ∙ ap basic_codes c.as_slice-codes.ensures) in
    let whole : c.in_ok-whole.whole.items ≡ groups_of codes = c.in_ok-whole.ensures.value ∙ ap groups_of c.as_slice-codes.ensures in
    let few : length (groups_of (basic_codes codes)) + 1 ≤ 8189 = omega (arith, ap (λ (gs : List Group). length gs) basic) in
    let there : has_basic codes ≡ true = le-leb (length (groups_of (basic_codes codes)) + 1) 8189 few in
    let some : list_any exceeds codes ≡ true = ap (list_any exceeds) (sym c.as_slice-codes.ensures) ∙ sym c.exceed_basic.ensures ∙ c.if-exceed_basic.true in
    IfOk-weaker c.both.result _ (λ bytes. IsCharacterMap codes bytes.items) (λ bytes is. is_both codes bytes.items there some (both_as _ (groups_of (basic_codes codes)) _ (groups_of codes) bytes.items (c.deref-then-exceed_basic.ensures.value ∙ basic) (c.deref-then-exceed_basic-2.ensures.value ∙ whole) is)) c.both.ensures

pub returns-then-exceed_basic-clause-means : goal.returns-then-exceed_basic-clause-means
returns-then-exceed_basic-clause-means c =
    let codes : List (ℕ × ℕ) = c.args.codes.now in
    let basic : c.in_ok-basic.basic.items ≡ groups_of (basic_codes codes) = c.in_ok-basic.ensures.value ∙ ap groups_of (c.basic_codes.ensures ∙ ap basic_codes c.as_slice-codes.ensures) in
    let whole : c.in_ok-whole.whole.items ≡ groups_of codes = c.in_ok-whole.ensures.value ∙ ap groups_of c.as_slice-codes.ensures in
    let fit_basic = recursion_from_All FitsGroup (groups_of (basic_codes codes)) (subst (All FitsGroup) basic c.in_ok-basic.ensures.fit) in
    let fit = recursion_from_All FitsGroup (groups_of codes) (subst (All FitsGroup) whole c.in_ok-whole.ensures.fit) in
    let few : length (groups_of (basic_codes codes)) + 1 ≤ 8189 = omega (arith, ap (λ (gs : List Group). length gs) basic) in
    IfOk-weaker c.both.result _ (λ bytes. means codes bytes.items) (λ bytes is. (both_means codes bytes.items c.requires few fit_basic fit (both_as _ (groups_of (basic_codes codes)) _ (groups_of codes) bytes.items (c.deref-then-exceed_basic.ensures.value ∙ basic) (c.deref-then-exceed_basic-2.ensures.value ∙ whole) is)).means) c.both.ensures

pub returns-then-exceed_basic-clause-agrees : goal.returns-then-exceed_basic-clause-agrees
returns-then-exceed_basic-clause-agrees c =
    let codes : List (ℕ × ℕ) = c.args.codes.now in
    let basic : c.in_ok-basic.basic.items ≡ groups_of (basic_codes codes) = c.in_ok-basic.ensures.value ∙ ap groups_of (c.basic_codes.ensures ∙ ap basic_codes c.as_slice-codes.ensures) in
    let whole : c.in_ok-whole.whole.items ≡ groups_of codes = c.in_ok-whole.ensures.value ∙ ap groups_of c.as_slice-codes.ensures in
    let fit_basic = recursion_from_All FitsGroup (groups_of (basic_codes codes)) (subst (All FitsGroup) basic c.in_ok-basic.ensures.fit) in
    let fit = recursion_from_All FitsGroup (groups_of codes) (subst (All FitsGroup) whole c.in_ok-whole.ensures.fit) in
    let few : length (groups_of (basic_codes codes)) + 1 ≤ 8189 = omega (arith, ap (λ (gs : List Group). length gs) basic) in
    IfOk-weaker c.both.result _ (λ bytes. Agree bytes.items) (λ bytes is. (both_means codes bytes.items c.requires few fit_basic fit (both_as _ (groups_of (basic_codes codes)) _ (groups_of codes) bytes.items (c.deref-then-exceed_basic.ensures.value ∙ basic) (c.deref-then-exceed_basic-2.ensures.value ∙ whole) is)).agrees) c.both.ensures

pub basic_alone-requires-clause-fit : goal.basic_alone-requires-clause-fit
basic_alone-requires-clause-fit c =
    let codes : List (ℕ × ℕ) = c.args.codes.now in
    let basic : c.in_ok-basic.basic.items ≡ groups_of (basic_codes codes) = c.in_ok-basic.ensures.value ∙ ap groups_of (c.basic_codes.ensures ∙ ap basic_codes c.as_slice-codes.ensures) in
    let fit_basic = recursion_from_All FitsGroup (groups_of (basic_codes codes)) (subst (All FitsGroup) basic c.in_ok-basic.ensures.fit) in
    subst (All FitsBasic) (sym (c.deref-else-exceed_basic.ensures.value ∙ basic)) (All-from_recursion FitsBasic (groups_of (basic_codes codes)) (basic_fit codes fit_basic))

abbrev BasicMap : List Group → List ℕ → Type 0
BasicMap basic bytes = IsMapOf (IsFormat4 basic) (λ own. (1, own) ∷ []) bytes

pub returns-clause-written : goal.returns-clause-written
returns-clause-written c =
    let codes : List (ℕ × ℕ) = c.args.codes.now in
    let basic : c.in_ok-basic.basic.items ≡ groups_of (basic_codes codes) = c.in_ok-basic.ensures.value ∙ ap groups_of (c.basic_codes.ensures ∙ ap basic_codes c.as_slice-codes.ensures) in
    let few : length (groups_of (basic_codes codes)) + 1 ≤ 8189 = omega (arith, ap (λ (gs : List Group). length gs) basic) in
    let there : has_basic codes ≡ true = le-leb (length (groups_of (basic_codes codes)) + 1) 8189 few in
    let none : list_any exceeds codes ≡ false = ap (list_any exceeds) (sym c.as_slice-codes.ensures) ∙ sym c.exceed_basic.ensures ∙ c.if-exceed_basic.false in
    IfOk-weaker c.basic_alone.result _ (λ bytes. IsCharacterMap codes bytes.items) (λ bytes is. is_basic_alone codes bytes.items there none (subst (λ (gs : List Group). BasicMap gs bytes.items) (c.deref-else-exceed_basic.ensures.value ∙ basic) is)) c.basic_alone.ensures

pub returns-clause-means : goal.returns-clause-means
returns-clause-means c =
    let codes : List (ℕ × ℕ) = c.args.codes.now in
    let basic : c.in_ok-basic.basic.items ≡ groups_of (basic_codes codes) = c.in_ok-basic.ensures.value ∙ ap groups_of (c.basic_codes.ensures ∙ ap basic_codes c.as_slice-codes.ensures) in
    let fit_basic = recursion_from_All FitsGroup (groups_of (basic_codes codes)) (subst (All FitsGroup) basic c.in_ok-basic.ensures.fit) in
    let few : length (groups_of (basic_codes codes)) + 1 ≤ 8189 = omega (arith, ap (λ (gs : List Group). length gs) basic) in
    let none : list_any exceeds codes ≡ false = ap (list_any exceeds) (sym c.as_slice-codes.ensures) ∙ sym c.exceed_basic.ensures ∙ c.if-exceed_basic.false in
    IfOk-weaker c.basic_alone.result _ (λ bytes. means codes bytes.items) (λ bytes is. (basic_means codes bytes.items c.requires few fit_basic none (subst (λ (gs : List Group). BasicMap gs bytes.items) (c.deref-else-exceed_basic.ensures.value ∙ basic) is)).means) c.basic_alone.ensures

pub returns-clause-agrees : goal.returns-clause-agrees
returns-clause-agrees c =
    let codes : List (ℕ × ℕ) = c.args.codes.now in
    let basic : c.in_ok-basic.basic.items ≡ groups_of (basic_codes codes) = c.in_ok-basic.ensures.value ∙ ap groups_of (c.basic_codes.ensures ∙ ap basic_codes c.as_slice-codes.ensures) in
    let fit_basic = recursion_from_All FitsGroup (groups_of (basic_codes codes)) (subst (All FitsGroup) basic c.in_ok-basic.ensures.fit) in
    let few : length (groups_of (basic_codes codes)) + 1 ≤ 8189 = omega (arith, ap (λ (gs : List Group). length gs) basic) in
    let none : list_any exceeds codes ≡ false = ap (list_any exceeds) (sym c.as_slice-codes.ensures) ∙ sym c.exceed_basic.ensures ∙ c.if-exceed_basic.false in
    IfOk-weaker c.basic_alone.result _ (λ bytes. Agree bytes.items) (λ bytes is. (basic_means codes bytes.items c.requires few fit_basic none (subst (λ (gs : List Group). BasicMap gs bytes.items) (c.deref-else-exceed_basic.ensures.value ∙ basic) is)).agrees) c.basic_alone.ensures
