use Rattle.markup.specs.Plain.{plain}
use Rattle.design_axes.proofs.ReadAxes.{apart_read, few_read, short_read}
use Rattle.design_axes.proofs.axes.read_axes.Goals as goal

pub returns-in-Some-clause-few : goal.returns-in-Some-clause-few
returns-in-Some-clause-few c = few_read (plain c.in-Some.element.now) c.read_element.result c.read_element.ensures

pub returns-in-Some-clause-apart : goal.returns-in-Some-clause-apart
returns-in-Some-clause-apart c = apart_read (plain c.in-Some.element.now) c.read_element.result c.read_element.ensures

pub returns-in-Some-clause-short : goal.returns-in-Some-clause-short
returns-in-Some-clause-short c = short_read (plain c.in-Some.element.now) c.read_element.result c.read_element.ensures
