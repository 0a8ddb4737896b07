-- The refresh goes on.
use Rattle.vms_cursors.proofs.burial_positions.after_rating.Goals as goal

pub returns-in-Some-clause-goes : goal.returns-in-Some-clause-goes
returns-in-Some-clause-goes g c = λ sizes base p h. c.in-Some.ensures.goes sizes base p h

pub returns-in-None-clause-stops : goal.returns-in-None-clause-stops
returns-in-None-clause-stops g c = λ none sizes base p h. c.in-None.ensures.stops none sizes base p h
