use Rattle.markup.proofs.Clauses.{found_from, only_from, fault_from, faulty_from}
use Rattle.markup.proofs.trees.read.Goals as goal

pub returns : goal.returns
returns c =
    let text = c.args.text.now in
    let answer = c.read_tree.result in
    let exact = c.read_tree.ensures in
    record {
      exact = exact;
      found = found_from text answer exact;
      only = only_from text answer exact;
      fault = fault_from text answer exact;
      faulty = faulty_from text answer exact;
    }
