-- What is given from the place on is the OBU behind the bytes that were passed.
use Rattle.std.proofs.Common.{◌≡◌, drop}
use Rattle.emulation.specs.Payload.{unescape}
use Rattle.sequence.specs.Parts.{given}
use Rattle.sequence.proofs.place.Place.behind.Given as goal

abbrev pub invariant-loop : goal.invariant-loop
invariant-loop l = given l.payload l.place ≡ drop l.counter (unescape l.payload)
