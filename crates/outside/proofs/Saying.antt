-- A text that is said in pieces is said as one: nothing is said before the first piece, a piece follows
-- what was said, and a piece that fails cuts the whole short.
use Rattle.std.proofs.Common.{◌≡◌, ℕ, ◌+◌, ◌≤◌, ◌<◌, List, [], ◌++◌, take, drop, get_or, flat_map, length, Result, Ok, Err, sym, ◌∙◌, ap, append_assoc, length-append, arith}
use Rattle.std.proofs.lemmas.List.{drop_more, take-append-drop}
use Rattle.std.proofs.lemmas.Grind.{flat_map-append}
use Rattle.outside.specs.Files.{IsPrefix, HasRisen}
use Rattle.outside.specs.Said.{Says}
use Rattle.outside.specs.States.{SayState}

-- a prefix of a list is a prefix of what goes on from there
pub prefix_before : (a t c : List ℕ) → IsPrefix (a ++ t) c → IsPrefix a c
prefix_before a t c (rest, e) = (t ++ rest, sym (append_assoc a t rest) ∙ e)

-- a prefix stays one where the whole goes on
pub prefix_of_longer : (c a t u : List ℕ) → IsPrefix c (a ++ t) → IsPrefix c (a ++ (t ++ u))
prefix_of_longer c a t u (rest, e) =
    (rest ++ u, sym (append_assoc c rest u) ∙ ap (λ l. l ++ u) e ∙ append_assoc a t u)

-- what is cut short after a text is cut short after what came before the text
pub cut_after : (a t u b c : List ℕ) → b ≡ a ++ t → IsPrefix b c × IsPrefix c (b ++ u) → IsPrefix a c × IsPrefix c (a ++ (t ++ u))
cut_after a t u b c e (before, (rest, k)) =
    (prefix_before a t c (rw e at before), (rest, k ∙ ap (λ l. l ++ u) e ∙ append_assoc a t u))

-- a room that has no room for the second text after the first has none for both
pub full_after : (a t u b : List ℕ) (room_a room_b : ℕ) → b ≡ a ++ t → room_b ≡ room_a
    → room_b < length b + length u → room_a < length a + length (t ++ u)
full_after a t u b room_a room_b e k full = omega (arith, length-append a t, length-append t u, ap length e)

-- a count that didn't fall and then rose has risen
pub risen_after : (a b c : ℕ) → a ≤ b → HasRisen b c → HasRisen a c
risen_after a b c h k = omega arith

-- a text that is said after another: together they are said, whole or cut short in the second
pub says_then : {V W E F : Type 0} {a b c : SayState} {t u : List ℕ} {v : V} (r : Result W F)
    → Says {E = E} a b t (Ok v) → Says b c u r → Says a c (t ++ u) r
says_then {a} {t} {u} (Ok w) one two = record {
  told = λ h. two.told (one.told h);
  counted = omega arith;
  whole = λ h. two.whole (one.told h) ∙ ap (λ l. l ++ u) (one.whole h) ∙ append_assoc a.said t u;
  prefix = λ _. tt;
  risen = tt;
  sure = λ h. let b_sure = one.sure h in let c_sure = two.sure b_sure.0 in (c_sure.0, c_sure.1 ∙ b_sure.1);
  full = λ h k. tt;
}
says_then {a} {b} {c} {t} {u} (Err f) one two = record {
  told = λ h. two.told (one.told h);
  counted = omega arith;
  whole = λ _. tt;
  prefix = λ h. cut_after a.said t u b.said c.said (one.whole h) (two.prefix (one.told h));
  risen = risen_after a.faults b.faults c.faults one.counted two.risen;
  sure = λ h. let b_sure = one.sure h in let c_sure = two.sure b_sure.0 in (c_sure.0, c_sure.1 ∙ b_sure.1);
  full = λ h k. full_after a.said t u b.said a.room b.room (one.whole k) (one.sure h).1
      (two.full (one.sure h).0 (one.told k));
}

-- a text that is cut short is a longer one that is cut short, whatever error says so
pub says_cut : {V W E F : Type 0} {a b : SayState} {t : List ℕ} {e : E} (f : F) (u : List ℕ)
    → Says {V = V} a b t (Err e) → Says {V = W} a b (t ++ u) (Err f)
says_cut {a} {b} {t} f u cut = record {
  told = cut.told;
  counted = cut.counted;
  whole = λ _. tt;
  prefix = λ h. ((cut.prefix h).0, prefix_of_longer b.said a.said t u (cut.prefix h).1);
  risen = cut.risen;
  sure = cut.sure;
  full = λ h k. let short = cut.full h k in omega (arith, length-append t u);
}

-- the texts of the parts before one, of that one and of those after it are the text of all
pub flat_map_parts : {P : Type 0} (text : P → List ℕ) (parts : List P) (i : ℕ) (d : P) → i < length parts
    → (flat_map text (take i parts) ++ text (get_or parts i d)) ++ flat_map text (drop (i + 1) parts) ≡ flat_map text parts
flat_map_parts text parts i d h =
    append_assoc (flat_map text (take i parts)) (text (get_or parts i d)) (flat_map text (drop (i + 1) parts))
    ∙ ap (λ rest. flat_map text (take i parts) ++ flat_map text rest) (sym (drop_more parts i d h))
    ∙ sym (flat_map-append text (take i parts) (drop i parts))
    ∙ ap (flat_map text) (take-append-drop i parts)
