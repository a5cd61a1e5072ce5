-- A write to the first slot with a path, seen by paths.
use Rattle.std.proofs.Common.{◌≡◌, ℕ, ◌+◌, ◌<◌, ◌≤◌, Bool, true, false, cond, List, [], ◌∷◌, ◌++◌, length, get_or, map, Option, Some, None, refl, sym, ◌∙◌, ap, subst, arith}
use Rattle.std.proofs.Math.ListN.{set}
use Rattle.std.proofs.Math.Seq.{map-set_same}
use Rattle.std.proofs.lemmas.List.{length-map}
use Rattle.std.proofs.lemmas.List.Folds.{find_at, find-set, find_past}
use Rattle.std.proofs.lemmas.List.Quantifiers.{position-Some}
use Rattle.std.proofs.lemmas.Option.{slice_get-get_or, slice_get_past}
use Rattle.std.proofs.lemmas.Bool.Decides.{nat_tests}
use Rattle.std.proofs.lemmas.Slice.Eq.{bytes_eq-Decides}
use Rattle.std.specs.Prelude.{IsSome, nat_lt, bytes_eq, unwrap_or, position, not, option_map, option_and_then, slice_get}
use Rattle.std.specs.List.{find, prefix_len, position_or_len}
use Rattle.outside.specs.Files.{put, content}
use Rattle.outside.specs.Stored.{Fits, fitting, fitting_in}
use Rattle.outside.specs.FirstAt.{first_room}
use Rattle.outside.specs.SlotState.{SlotState, empty_slot, slot_at, held_in, room_in, paths_of, index_of, path_at, IsFirst, Writes}

-- whether a slot has this path
abbrev pub has_path : List ℕ → SlotState → Bool
has_path path slot = bytes_eq slot.path path

prefix_len-map : (p : List ℕ → Bool) (slots : List SlotState) → prefix_len p (paths_of slots) ≡ prefix_len (λ slot. p slot.path) slots
prefix_len-map p [] = refl
prefix_len-map p (x ∷ xs) = ap (λ n. cond (p x.path) (1 + n) 0) (prefix_len-map p xs)

-- a path's index is that of the first slot with it
pub index_of-paths : (slots : List SlotState) (path : List ℕ) → index_of (paths_of slots) path ≡ position (has_path path) slots
index_of-paths slots path =
    rw (prefix_len-map (λ p. not (bytes_eq p path)) slots, length-map) refl

cond-Some : (b : Bool) (n i : ℕ) → cond b (Some n) None ≡ Some i → n ≡ i
cond-Some true n i e = cc
cond-Some false n i e = cc

-- a slot whose file holds these bytes
abbrev pub holding : SlotState → List ℕ → SlotState
holding slot bytes = record slot { held = Some bytes }

-- what it means that slot i, which is old, is the first with this path
pub record FirstAt (slots : List SlotState) (i : ℕ) (path : List ℕ) (old : SlotState) : Type 0 where
  pub below : i < length slots
  pub is : get_or slots i old ≡ old
  pub path_is : old.path ≡ path
  pub index : i ≡ position_or_len (has_path path) slots

pub first_at : (slots : List SlotState) (i : ℕ) (path : List ℕ) (old : SlotState) →
    index_of (paths_of slots) path ≡ Some i → old ≡ get_or slots i old → FirstAt slots i path old
first_at slots i path old e is =
    let found : position (has_path path) slots ≡ Some i = sym (index_of-paths slots path) ∙ e in
    let here = position-Some (has_path path) slots i old found in
    record {
      below = here.0;
      is = sym is;
      path_is = (bytes_eq-Decides old.path path).0 (ap (λ (slot : SlotState). bytes_eq slot.path path) is ∙ here.1);
      index = sym (cond-Some _ _ _ found);
    }

-- the first slot with a path is what a look-up of that path gives
pub slot_at-first : (slots : List SlotState) (i : ℕ) (path : List ℕ) (old : SlotState) → FirstAt slots i path old → slot_at slots path ≡ Some old
slot_at-first slots i path old first =
    find_at (has_path path) slots ∙ ap (slice_get slots) (sym first.index)
    ∙ slice_get-get_or slots i old first.below ∙ ap Some first.is

-- after a write to it, a look-up gives the new slot for its path, and what it gave for the others
pub slot_at-set : (slots : List SlotState) (i : ℕ) (path : List ℕ) (old new : SlotState) → FirstAt slots i path old → new.path ≡ path →
    (q : List ℕ) → slot_at (set slots i new) q ≡ cond (bytes_eq path q) (Some new) (slot_at slots q)
slot_at-set slots i path old new first same q = by_test (bytes_eq path q) refl
  where
    by_test : (b : Bool) → bytes_eq path q ≡ b → slot_at (set slots i new) q ≡ cond b (Some new) (slot_at slots q)
    by_test true e =
        let eq : path ≡ q = (bytes_eq-Decides path q).0 e in
        find-set (has_path q) slots i new (subst (λ p. i ≡ position_or_len (has_path p) slots) eq first.index) first.below
        (ap (λ p. bytes_eq p q) same ∙ e)
    by_test false e =
        find_past (has_path q) slots i new old (ap (λ slot. bytes_eq slot.path q) first.is ∙ ap (λ p. bytes_eq p q) first.path_is ∙ e)
        (ap (λ p. bytes_eq p q) same ∙ e)

-- the first slot's file is written, and nothing else
module _ (slots : List SlotState) (i : ℕ) (path bytes : List ℕ) (old new : SlotState) (first : FirstAt slots i path old)
    (same : new.path ≡ path) (size : new.size ≡ old.size) (held : new.held ≡ Some bytes) where
  files-set : (q : List ℕ) → held_in (set slots i new) q ≡ put (held_in slots) path bytes q
  files-set q =
      ap (option_and_then (λ (slot : SlotState). slot.held)) (slot_at-set slots i path old new first same q)
      ∙ by_test (bytes_eq path q)
    where
      by_test : (b : Bool) → option_and_then (λ (slot : SlotState). slot.held) (cond b (Some new) (slot_at slots q)) ≡ cond b (Some bytes) (held_in slots q)
      by_test true = held
      by_test false = refl

  rooms-set : (q : List ℕ) → room_in (set slots i new) q ≡ room_in slots q
  rooms-set q =
      ap (option_map (λ (slot : SlotState). slot.size)) (slot_at-set slots i path old new first same q)
      ∙ by_test (bytes_eq path q) refl
    where
      by_test : (b : Bool) → bytes_eq path q ≡ b → option_map (λ (slot : SlotState). slot.size) (cond b (Some new) (slot_at slots q)) ≡ room_in slots q
      by_test true e =
          let there : slot_at slots q ≡ Some old = subst (λ p. slot_at slots p ≡ Some old) ((bytes_eq-Decides path q).0 e) (slot_at-first slots i path old first) in
          ap Some size ∙ sym (ap (option_map (λ (slot : SlotState). slot.size)) there)
      by_test false e = refl

  pub Writes-set : Writes slots (set slots i new) path bytes
  Writes-set = record {
    files = λ k q. files-set q k;
    rooms = λ k q. rooms-set q k;
    paths = map-set_same (λ (slot : SlotState). slot.path) slots i new old (same ∙ sym first.path_is ∙ sym (ap (λ (slot : SlotState). slot.path) first.is));
  }

-- the same where the new slot is told by the old one
pub Writes-held : (slots : List SlotState) (i : ℕ) (path bytes : List ℕ) (old new : SlotState) → FirstAt slots i path old →
    new ≡ holding old bytes → Writes slots (set slots i new) path bytes
Writes-held slots i path bytes old new first e =
    Writes-set slots i path bytes old new first (ap (λ slot. slot.path) e ∙ first.path_is) (ap (λ slot. slot.size) e) (ap (λ slot. slot.held) e)

-- what a path holds, and its room, are those of the first slot with it
pub content-first : (slots : List SlotState) (i : ℕ) (path : List ℕ) (old : SlotState) → FirstAt slots i path old →
    content (held_in slots) path ≡ unwrap_or old.held []
content-first slots i path old first =
    ap (λ slot. unwrap_or (option_and_then (λ (p : SlotState). p.held) slot) []) (slot_at-first slots i path old first)

pub room-first : (slots : List SlotState) (i : ℕ) (path : List ℕ) (old : SlotState) → FirstAt slots i path old →
    room_in slots path ≡ Some old.size
room-first slots i path old first =
    ap (option_map (λ (p : SlotState). p.size)) (slot_at-first slots i path old first)

-- a piece fits the room of a path exactly where it fits that of the first slot with it
pub Fits-first : (slots : List SlotState) (i : ℕ) (path : List ℕ) (more : ℕ) (old : SlotState) → FirstAt slots i path old →
    Fits (room_in slots path) (length (content (held_in slots) path)) more ≡ (length (unwrap_or old.held []) + more ≤ old.size)
Fits-first slots i path more old first =
    ap (λ room. Fits room (length (content (held_in slots) path)) more) (room-first slots i path old first)
    ∙ ap (λ held. length held + more ≤ old.size) (content-first slots i path old first)

-- the first slot with a path takes the start of a piece that fits its room
pub Writes-added : (slots : List SlotState) (i : ℕ) (path piece : List ℕ) (old new : SlotState) → FirstAt slots i path old →
    new ≡ holding old (unwrap_or old.held [] ++ fitting old.size (unwrap_or old.held []) piece) →
    Writes slots (set slots i new) path (content (held_in slots) path ++ fitting_in (room_in slots path) (content (held_in slots) path) piece)
Writes-added slots i path piece old new first e =
    rw (content-first slots i path old first, room-first slots i path old first)
    (Writes-held slots i path _ old new first e)

-- the index of a path leads to that path
pub path_at-index_of : (paths : List (List ℕ)) (path : List ℕ) (i : ℕ) → index_of paths path ≡ Some i → path_at paths (Some i) ≡ Some path
path_at-index_of paths path i e =
    let here = position-Some (λ p. bytes_eq p path) paths i [] e in
    slice_get-get_or paths i [] here.0 ∙ ap Some ((bytes_eq-Decides (get_or paths i []) path).0 here.1)

-- the index of a path is a first one
pub IsFirst-index_of : (paths : List (List ℕ)) (path : List ℕ) → IsFirst paths (index_of paths path)
IsFirst-index_of paths path = by_index (index_of paths path) refl
  where
    by_index : (index : Option ℕ) → index_of paths path ≡ index → IsFirst paths index
    by_index None e = refl
    by_index (Some i) e = ap (option_and_then (index_of paths)) (path_at-index_of paths path i e) ∙ e

-- a look-up among new slots is one among the rooms that they were made for
pub slot_at-empty : (rooms : List (List ℕ × ℕ)) (q : List ℕ) →
    slot_at (map empty_slot rooms) q ≡ option_map empty_slot (find (λ room. bytes_eq room.0 q) rooms)
slot_at-empty [] q = refl
slot_at-empty (room ∷ rooms) q = by_test (bytes_eq room.0 q) (slot_at-empty rooms q)
  where
    by_test : (b : Bool) → slot_at (map empty_slot rooms) q ≡ option_map empty_slot (find (λ r. bytes_eq r.0 q) rooms) →
        cond b (Some (empty_slot room)) (slot_at (map empty_slot rooms) q) ≡ option_map empty_slot (cond b (Some room) (find (λ r. bytes_eq r.0 q) rooms))
    by_test true e = refl
    by_test false e = e

-- new slots hold nothing
pub held_in-empty : (rooms : List (List ℕ × ℕ)) (q : List ℕ) → held_in (map empty_slot rooms) q ≡ None
held_in-empty rooms q =
    ap (option_and_then (λ (slot : SlotState). slot.held)) (slot_at-empty rooms q) ∙ by_room (find (λ room. bytes_eq room.0 q) rooms)
  where
    by_room : (room : Option (List ℕ × ℕ)) → option_and_then (λ (slot : SlotState). slot.held) (option_map empty_slot room) ≡ None
    by_room None = refl
    by_room (Some room) = refl

-- and have the rooms that they were made for
pub room_in-empty : (rooms : List (List ℕ × ℕ)) (q : List ℕ) → room_in (map empty_slot rooms) q ≡ first_room rooms q
room_in-empty rooms q =
    ap (option_map (λ (slot : SlotState). slot.size)) (slot_at-empty rooms q) ∙ by_room (find (λ room. bytes_eq room.0 q) rooms)
  where
    by_room : (room : Option (List ℕ × ℕ)) →
        option_map (λ (slot : SlotState). slot.size) (option_map empty_slot room) ≡ option_map (λ (r : List ℕ × ℕ). r.1) room
    by_room None = refl
    by_room (Some room) = refl

cond-None : (b : Bool) (n : ℕ) → cond b (Some n) None ≡ None → b ≡ false
cond-None true n e = cc
cond-None false n e = refl

-- a path that no slot has has no room
pub room_in-None : (slots : List SlotState) (path : List ℕ) → index_of (paths_of slots) path ≡ None → room_in slots path ≡ None
room_in-None slots path e =
    let absent : position (has_path path) slots ≡ None = sym (index_of-paths slots path) ∙ e in
    let past : nat_lt (position_or_len (has_path path) slots) (length slots) ≡ false = cond-None _ _ absent in
    ap (option_map (λ (slot : SlotState). slot.size))
    (find_at (has_path path) slots ∙ slice_get_past slots (position_or_len (has_path path) slots) (grind (arith, nat_tests)))

-- and one that a slot has has some
pub room_in-Some : (slots : List SlotState) (path : List ℕ) (i : ℕ) → index_of (paths_of slots) path ≡ Some i → IsSome (room_in slots path)
room_in-Some slots path i e =
    let found : position (has_path path) slots ≡ Some i = sym (index_of-paths slots path) ∙ e in
    let none : SlotState = record { path = []; size = 0; held = None } in
    let there : slot_at slots path ≡ Some (get_or slots i none) =
    find_at (has_path path) slots ∙ ap (slice_get slots) (cond-Some _ _ _ found)
    ∙ slice_get-get_or slots i none (position-Some (has_path path) slots i none found).0 in
    rw there refl
