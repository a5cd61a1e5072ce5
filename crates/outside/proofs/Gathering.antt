-- A text that is gathered before it is said: what is held and what follows it are said as one.
use Rattle.std.proofs.Common.{ℕ, ◌+◌, List, [], ◌++◌, take, drop, get_or, flat_map, ◌<◌, length, Result, Ok, Err, sym, subst, ◌∙◌, ap, append_assoc, append-nil}
use Rattle.std.proofs.lemmas.List.{take_more, flat_map_more}
use Rattle.outside.specs.Gathered.{Gathers}
use Rattle.outside.specs.Said.{Says}
use Rattle.outside.specs.States.{SayState}
use Rattle.outside.specs.declared.traits.Failed.{Failed}
use Rattle.outside.proofs.Saying.{says_then, says_cut, flat_map_parts}

-- what was held is said, and then the text by itself
pub gathers_none : {a b c : SayState} {held text : List ℕ} {v : Unit {0}} (r : Result (Unit {0}) Failed)
    → Says {E = Failed} a b held (Ok v) → Says b c text r → Gathers a c held text [] r
gathers_none {held = held} {text = text} (Ok w) before after =
    (held ++ text, says_then (Ok w) before after, append-nil (held ++ text))
gathers_none (Err f) before after = says_then (Err f) before after

-- a text that is gathered after others is gathered with them
pub gathers_then : {a b : SayState} {t held : List ℕ} {v : Unit {0}} (c : SayState) (u held' : List ℕ) (r : Result (Unit {0}) Failed)
    → Gathers a b [] t held (Ok v) → Gathers b c held u held' r → Gathers a c [] (t ++ u) held' r
gathers_then {t = t} {held = held} c u held' (Ok w) (said, before, e) (said', after, k) = (
  said ++ said',
  says_then (Ok w) before after,
  append_assoc said said' held' ∙ ap (λ l. said ++ l) k ∙ sym (append_assoc said held u) ∙ ap (λ l. l ++ u) e,
)
gathers_then {a = a} {t = t} {held = held} c u held' (Err f) (said, before, e) after =
    subst (λ whole. Says {V = Unit {0}} a c whole (Err f)) (sym (append_assoc said held u) ∙ ap (λ l. l ++ u) e)
    (says_then (Err f) before after)

-- one part more is gathered after those before it
pub gathers_more : {P : Type 0} {a b c : SayState} {held held' : List ℕ} {v w : Unit {0}}
    (text : P → List ℕ) (parts : List P) (i : ℕ) (d : P) → i < length parts
    → Gathers a b [] (flat_map text (take i parts)) held (Ok v)
    → Gathers b c held (text (get_or parts i d)) held' (Ok w)
    → Gathers a c [] (flat_map text (take (i + 1) parts)) held' (Ok w)
gathers_more {a = a} {c = c} {held' = held'} {w = w} text parts i d h before after =
    subst (λ whole. Gathers a c [] whole held' (Ok w))
    (flat_map_more text [] (take i parts) (get_or parts i d) ∙ sym (ap (flat_map text) (take_more parts i d h)))
    (gathers_then c (text (get_or parts i d)) held' (Ok w) before after)

-- where one part fails after all before it were gathered, the text of all parts is cut short
pub gathers_cut_at : {P W G : Type 0} {a b c : SayState} {held : List ℕ} {v : Unit {0}} {f : Failed} (held' : List ℕ) (g : G)
    (text : P → List ℕ) (parts : List P) (i : ℕ) (d : P) → i < length parts
    → Gathers a b [] (flat_map text (take i parts)) held (Ok v)
    → Gathers b c held (text (get_or parts i d)) held' (Err f)
    → Says {V = W} a c (flat_map text parts) (Err g)
gathers_cut_at {W = W} {a = a} {c = c} {f = f} held' g text parts i d h before failed =
    subst (λ whole. Says {V = W} a c whole (Err g))
    (flat_map_parts text parts i d h)
    (says_cut g (flat_map text (drop (i + 1) parts)) (gathers_then c (text (get_or parts i d)) held' (Err f) before failed))
