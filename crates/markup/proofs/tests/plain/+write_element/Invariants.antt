use Rattle.markup.proofs.tests.plain.+write_element.Given as goal

abbrev pub decreases-write_element : goal.decreases-write_element
decreases-write_element l = l.room
