use Rattle.glyph_variations.proofs.tuples.variations.Goals as goal

pub returns-clause-tuples : goal.returns-clause-tuples
returns-clause-tuples c = rw (c.as_slice.ensures, c.as_slice-2.ensures, c.as_slice-3.ensures) at c.moving.ensures.tuples

pub returns-clause-writable : goal.returns-clause-writable
returns-clause-writable c = rw (c.as_slice-2.ensures, c.as_slice-3.ensures) at c.moving.ensures.writable
