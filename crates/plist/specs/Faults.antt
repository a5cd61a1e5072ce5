-- The first fault of a tree that is no property list, by what is written: the element that may not stand where it
-- is, or the one that lacks a child. Of what an element has in it, all before the fault is right.
use Rattle.std.specs.Prelude.{◌≡◌, ◌≢◌, ℕ, List, [], ◌∷◌, codes}
use Rattle.basics.specs.declared.fault.Spot.{Spot}
use Rattle.basics.specs.declared.fault.Stop.{Stop}
use Rattle.basics.specs.declared.fault.Stop.TheVariants.{At, NoMemory}
use Rattle.markup_rules.specs.Tree.{Tree, name_of, children_of}
use Rattle.plist.specs.Reading.{spot_at}
use Rattle.plist.specs.Syntax.{IsLeaf, IsValue}
use Rattle.plist.specs.Values.{PlainValue}

-- the values in which no element stands
pub data IsLeafName : List ℕ → Type 0 where
  of_string : IsLeafName (codes "string")
  of_integer : IsLeafName (codes "integer")
  of_real : IsLeafName (codes "real")
  of_true : IsLeafName (codes "true")
  of_false : IsLeafName (codes "false")
  of_date : IsLeafName (codes "date")
  of_data : IsLeafName (codes "data")

-- no value has this name
pub record IsUnknown (name : List ℕ) : Type 0 where
  pub no_leaf : ¬ (IsLeafName name)
  pub no_array : name ≢ codes "array"
  pub no_dict : name ≢ codes "dict"

-- where a key is wanted
pub data WrongKey : Tree → Tree → Type 0 where
  no_key : {tree : Tree} → name_of tree ≢ codes "key" → WrongKey tree tree
  in_key : {tree child : Tree} {later : List Tree} → name_of tree ≡ codes "key" → children_of tree ≡ child ∷ later → WrongKey tree child

mutual
  -- where a value is wanted
  pub data WrongValue : Tree → Tree → Type 0 where
    unknown : {tree : Tree} → IsUnknown (name_of tree) → WrongValue tree tree
    in_leaf : {tree child : Tree} {later : List Tree} → IsLeafName (name_of tree) → children_of tree ≡ child ∷ later → WrongValue tree child
    in_array : {tree at : Tree} → name_of tree ≡ codes "array" → WrongItem (children_of tree) at → WrongValue tree at
    in_dict : {tree at : Tree} → name_of tree ≡ codes "dict" → WrongEntry tree (children_of tree) at → WrongValue tree at

  -- among values
  pub data WrongItem : List Tree → Tree → Type 0 where
    this_item : {item at : Tree} {later : List Tree} → WrongValue item at → WrongItem (item ∷ later) at
    later_item : {item at : Tree} {value : PlainValue} {later : List Tree} → IsValue item value → WrongItem later at → WrongItem (item ∷ later) at

  -- among the keys and values of a dict
  pub data WrongEntry : Tree → List Tree → Tree → Type 0 where
    this_key : {dict key at : Tree} {later : List Tree} → WrongKey key at → WrongEntry dict (key ∷ later) at
    no_value : {dict key : Tree} → IsLeaf (codes "key") key → WrongEntry dict (key ∷ []) dict
    this_value : {dict key item at : Tree} {later : List Tree} → IsLeaf (codes "key") key → WrongValue item at → WrongEntry dict (key ∷ item ∷ later) at
    later_entry : {dict key item at : Tree} {value : PlainValue} {later : List Tree} → IsLeaf (codes "key") key → IsValue item value → WrongEntry dict later at → WrongEntry dict (key ∷ item ∷ later) at

-- of a whole tree
pub data WrongList : Tree → Tree → Type 0 where
  no_list : {tree : Tree} → name_of tree ≢ codes "plist" → WrongList tree tree
  no_item : {tree : Tree} → name_of tree ≡ codes "plist" → children_of tree ≡ [] → WrongList tree tree
  only_item : {tree item at : Tree} {later : List Tree} → name_of tree ≡ codes "plist" → children_of tree ≡ item ∷ later → WrongValue item at → WrongList tree at
  second_item : {tree item second : Tree} {value : PlainValue} {later : List Tree} → name_of tree ≡ codes "plist" → children_of tree ≡ item ∷ second ∷ later → IsValue item value → WrongList tree second

-- the fault that is told
pub record IsFault (tree : Tree) (spot : Spot) : Type 0 where
  pub at : Tree
  pub wrong : WrongList tree at
  pub told : spot ≡ spot_at at

-- want of memory is free, and a fault is the first one
abbrev pub IsFirstFault : Tree → Stop → Type 0
IsFirstFault tree NoMemory = Unit {0}
IsFirstFault tree (At spot) = IsFault tree spot
