-- The tests are those of the definition.
use native.Mathlib.Omega.{arith}
use Rattle.lists.proofs.Tests.{ways}
use Rattle.sheet.specs.Passing.{rooms_short}
use Rattle.sheet.proofs.reading.outputs_short.Goals as goal

pub returns-then-streams-sections : goal.returns-then-streams-sections
unfolding rooms_short
returns-then-streams-sections c = search ways

pub returns-then-units-sections : goal.returns-then-units-sections
unfolding rooms_short
returns-then-units-sections c = search ways

pub returns : goal.returns
unfolding rooms_short
returns c = search ways

pub overflow_mul-sections : goal.overflow_mul-sections
overflow_mul-sections c = omega arith

pub overflow_mul-sections-2 : goal.overflow_mul-sections-2
overflow_mul-sections-2 c = omega arith
