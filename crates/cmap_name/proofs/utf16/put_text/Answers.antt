use Rattle.std.proofs.Common.{◌≡◌, ◌+◌, ◌++◌, ℕ, List, [], ◌∷◌, length, drop, sym, ap, ◌∙◌, arith}
use Rattle.std.proofs.lemmas.Iterator.{YieldsList-from_chars}
use Rattle.std.proofs.lemmas.Iterator.Consumers.{YieldsList-turn, YieldsList-end}
use Rattle.std.proofs.lemmas.List.{append-nil, at_drop_all, length_push}
use Rattle.std.specs.List.{flat_map}
use Rattle.std.specs.Str.{chars}
use Rattle.cmap_name.specs.CharacterLayout.{word}
use Rattle.cmap_name.specs.Utf16.{units_of}
use Rattle.cmap_name.proofs.UnitLemmas.{one_more, units_drop}
use Rattle.cmap_name.proofs.utf16.put_text.Goals as goal

pub loop-character-preserved : goal.loop-character-preserved
loop-character-preserved c =
    let cs : List ℕ = chars c.args.text.now in
    let turn = YieldsList-turn (YieldsList-from_chars c.args.text.now c.utf8.text cc) c.loop-character.yielded _ c.loop-character.yielded_by _ _ c.in-Some.character c.in-Some.is c.next.ensures.steps in
    let next : length c.loop-character.yielded + 1 ≡ length (c.loop-character.yielded ++ c.in-Some.character ∷ []) = sym (length_push c.loop-character.yielded c.in-Some.character) in
    one_more c.loop-character.out.items c.put_character.new.out.items (flat_map word (units_of c.in-Some.character)) _ (flat_map word (flat_map units_of (drop (length c.loop-character.yielded) cs))) _
    c.in_ok-put_character.ensures
    (units_drop cs (length c.loop-character.yielded) c.in-Some.character turn ∙ ap (λ n. flat_map word (units_of c.in-Some.character) ++ flat_map word (flat_map units_of (drop n cs))) next)
    c.loop-character.invariant

pub returns-clause-written : goal.returns-clause-written
returns-clause-written c =
    let cs : List ℕ = chars c.args.text.now in
    let last = YieldsList-end (YieldsList-from_chars c.args.text.now c.utf8.text cc) c.loop-character.yielded _ c.loop-character.yielded_by _ _ c.in-None.is c.next.ensures.steps in
    let none = at_drop_all (λ (xs : List ℕ). flat_map word (flat_map units_of xs)) cs (length c.loop-character.yielded) (omega (arith, last.1)) in
    sym (append-nil c.loop-character.out.items) ∙ ap (λ (b : List ℕ). c.loop-character.out.items ++ b) (sym none) ∙ c.loop-character.invariant
