-- What an answer that is exact says of the text.
use Rattle.std.proofs.Common.{◌≡◌, ℕ, List, Some, Ok, Err, sym, ◌∙◌}
use Rattle.std.specs.Prelude.{Result, IfOk, IfErr}
use Rattle.basics.specs.declared.fault.Spot.{Spot}
use Rattle.basics.specs.declared.fault.Stop.{Stop}
use Rattle.basics.specs.declared.fault.Stop.TheVariants.{At, NoMemory}
use Rattle.basics.specs.Reading.{Gives}
use Rattle.markup_rules.specs.Tree.{Tree}
use Rattle.markup_rules.specs.Syntax.{IsTree}
use Rattle.markup_rules.specs.Faults.{fault_of}
use Rattle.markup_rules.specs.Outcome.{outcome}
use Rattle.markup_rules.proofs.SoundTexts.{tree_takes}
use Rattle.markup_rules.proofs.CompleteTexts.{tree_again}
use Rattle.markup_rules.proofs.FaultLaw.{fault_takes, fault_again}
use Rattle.markup.specs.declared.element.Element.{Element}
use Rattle.markup.specs.Plain.{plain}
use Rattle.markup.specs.States.{IsFault}

abbrev Answer : Type 0
Answer = Result Element Stop

pub found_from : (text : List ℕ) (answer : Answer) → Gives plain answer (outcome text) → IfOk answer (λ element. IsTree text (plain element))
found_from text (Ok element) exact = tree_takes text (plain element) exact
found_from text (Err stop) exact = tt

same_reading : (answer : Answer) (reading other : Result Tree Spot) → reading ≡ other → Gives plain answer reading → Gives plain answer other
same_reading (Ok element) reading other e exact = sym e ∙ exact
same_reading (Err NoMemory) reading other e exact = tt
same_reading (Err (At fault)) reading other e exact = sym e ∙ exact

pub only_from : (text : List ℕ) (answer : Answer) → Gives plain answer (outcome text) → (tree : Tree) → IsTree text tree → Gives plain answer (Ok tree)
only_from text answer exact tree is = same_reading answer (outcome text) (Ok tree) (tree_again text tree is) exact

pub fault_from : (text : List ℕ) (answer : Answer) → Gives plain answer (outcome text) → IfErr answer (IsFault text)
fault_from text (Ok element) exact = tt
fault_from text (Err NoMemory) exact = tt
fault_from text (Err (At fault)) exact = fault_takes text fault exact

pub faulty_from : (text : List ℕ) (answer : Answer) → Gives plain answer (outcome text) → (fault : Spot) → fault_of text ≡ Some fault → Gives plain answer (Err fault)
faulty_from text answer exact fault is = same_reading answer (outcome text) (Err fault) (fault_again text fault is) exact
