-- What an answer that is exact says of the tree.
use Rattle.std.proofs.Common.{◌≡◌, Ok, Err, sym, ◌∙◌}
use Rattle.std.specs.Prelude.{Result, IfOk, IfErr}
use Rattle.basics.specs.declared.fault.Spot.{Spot}
use Rattle.basics.specs.declared.fault.Stop.{Stop}
use Rattle.basics.specs.declared.fault.Stop.TheVariants.{At, NoMemory}
use Rattle.basics.specs.Reading.{Gives}
use Rattle.markup_rules.specs.Tree.{Tree}
use Rattle.plist.specs.declared.value.Value.{Value}
use Rattle.plist.specs.Faults.{IsFault, IsFirstFault}
use Rattle.plist.specs.Reading.{value_of}
use Rattle.plist.specs.Syntax.{HasEachKeyOnce, IsPropertyList}
use Rattle.plist.specs.Values.{PlainValue, plain_value}
use Rattle.plist.proofs.FaultGives.{fault_gives}
use Rattle.plist.proofs.FaultTakes.{list_fails}
use Rattle.plist.proofs.Gives.{list_gives}
use Rattle.plist.proofs.Once.{list_has}
use Rattle.plist.proofs.Takes.{list_takes}

abbrev Answer : Type 0
Answer = Result Value Stop

pub found_from : (tree : Tree) (answer : Answer) → Gives plain_value answer (value_of tree) → IfOk answer (λ value. IsPropertyList tree (plain_value value))
found_from tree (Ok value) exact = list_takes tree (plain_value value) exact
found_from tree (Err stop) exact = tt

pub keys_from : (tree : Tree) (answer : Answer) → Gives plain_value answer (value_of tree) → IfOk answer (λ value. HasEachKeyOnce (plain_value value))
keys_from tree (Ok value) exact = list_has tree (plain_value value) (list_takes tree (plain_value value) exact)
keys_from tree (Err stop) exact = tt

same_reading : (answer : Answer) (reading other : Result PlainValue Spot) → reading ≡ other → Gives plain_value answer reading → Gives plain_value answer other
same_reading (Ok value) reading other e exact = sym e ∙ exact
same_reading (Err NoMemory) reading other e exact = tt
same_reading (Err (At spot)) reading other e exact = sym e ∙ exact

pub only_from : (tree : Tree) (answer : Answer) → Gives plain_value answer (value_of tree) → (value : PlainValue) → IsPropertyList tree value → Gives plain_value answer (Ok value)
only_from tree answer exact value is = same_reading answer (value_of tree) (Ok value) (list_gives tree value is) exact

pub fault_from : (tree : Tree) (answer : Answer) → Gives plain_value answer (value_of tree) → IfErr answer (IsFirstFault tree)
fault_from tree (Ok value) exact = tt
fault_from tree (Err NoMemory) exact = tt
fault_from tree (Err (At spot)) exact = list_fails tree spot exact

pub faulty_from : (tree : Tree) (answer : Answer) → Gives plain_value answer (value_of tree) → (spot : Spot) → IsFault tree spot → Gives plain_value answer (Err spot)
faulty_from tree answer exact spot is = same_reading answer (value_of tree) (Err spot) (fault_gives tree spot is) exact
