-- The payloads of a string as an iterator hands them out, one after the other. Assumes nothing.
use Rattle.std.specs.Prelude.{List, [], ◌∷◌, Option}
use Rattle.std.specs.Option.{option_map_or}
use Rattle.std.specs.Borrow.{Bor}
use Rattle.lists.specs.Lists.{Bytes}
use Rattle.tsobu.specs.StartCodes.{split, payloads}
use Rattle.tsobu.specs.declared.payloads.Payloads.{Payloads}

-- the payloads from a start code on, behind which this string stands; none where there is no start code
abbrev pub payloads_behind : Option (Bor Bytes) → List Bytes
payloads_behind behind = option_map_or (λ s. (split s.now).before ∷ payloads s.now) behind []

-- the payloads that an iterator has left, in order
abbrev pub payloads_left : Payloads → List Bytes
payloads_left it = payloads_behind it.behind
