-- Without the has-size bit the size is absent; with it the size is what the leb128 says, or 5. A leb128 takes at most 8 bytes.
use Rattle.std.proofs.Common.{rules}
use mathlib.Core.Path.{sym, ◌∙◌}
use Rattle.lists.specs.Lists.{pick}
use Rattle.refusal.specs.Verdict.{◌>>=◌}
use Rattle.obu.specs.Header.{size_of, sized_header}
use Rattle.obu.proofs.Lebs.{leb_taken}
use Rattle.obu.proofs.header.sized_header.Goals as goal

pub returns-then-not-has_size_bit : goal.returns-then-not-has_size_bit
unfolding sized_header size_of pick ◌>>=◌
returns-then-not-has_size_bit c = search rules

pub returns-in_err-leb : goal.returns-in_err-leb
unfolding sized_header size_of pick ◌>>=◌
returns-in_err-leb c = search rules

pub header_with-requires-2 : goal.header_with-requires-2
header_with-requires-2 c = (leb_taken c.args.rest.now c.in_ok-leb.leb (sym c.read_leb128.ensures ∙ c.in_ok-leb.ensures.ok_part)).0

pub returns : goal.returns
unfolding sized_header size_of pick ◌>>=◌
returns c = search rules
