-- The header of an OBU lies in its first eleven bytes; the comparison reads the content where it is carried.
use Rattle.refusal.specs.Number.{says}
use native.Mathlib.Omega.{arith}
use mathlib.Core.Path.{◌≡◌, sym, ap, ◌∙◌}
use lib.ListN.{length, take, replicate}
use Rattle.lists.specs.Lists.{Bytes, over}
use Rattle.emulation.specs.Payload.{unescape}
use Rattle.obu.specs.Header.{header_of}
use Rattle.obu.proofs.Headers.{header_first}
use Rattle.tsobu.proofs.TsObus.{first_bytes}
use Rattle.comparison.proofs.Firsts.{no_header, other_obu, one_header}
use Rattle.comparison.proofs.compare_obu.Goals.{After-read_header-read}
use Rattle.comparison.proofs.compare_obu.Goals as goal

-- the array, as it is made
abbrev zeros : Bytes
zeros = replicate 11 0

-- the header of the first bytes, unescaped, is the OBU's
from_first : (u first : Bytes) → (n : _) → n ≡ length (take (length zeros) u) → first ≡ over (take (length zeros) u) zeros
    → header_of (take n first) ≡ header_of u
from_first u first n e f = ap header_of (first_bytes u zeros first n e f).1 ∙ header_first 11 u (omega arith)

header : (c : After-read_header-read) → header_of (unescape c.args.payload.now) ≡ says c.read_header-read.result
header c =
    let e = c.unescape_prefix-n.ensures in
    sym (from_first (unescape c.args.payload.now) _ _ e.value e.out_after) ∙ sym c.read_header-read.ensures

pub returns-then-header-ne1 : goal.returns-then-header-ne1
returns-then-header-ne1 c =
    let u = unescape c.args.payload.now in
    other_obu c.args.fields (header_of u) u _ (header (goal.at.returns-then-header-ne1 c).After-read_header-read ∙ ap says
    c.in-Ok.is) c.if-header-ne1.true

pub returns-in-Err : goal.returns-in-Err
returns-in-Err c =
    let u = unescape c.args.payload.now in
    no_header c.args.fields (header_of u) u _ (header (goal.at.returns-in-Err c).After-read_header-read ∙ ap says
    c.in-Err.is)

pub returns-else-header-ne1 : goal.returns-else-header-ne1
returns-else-header-ne1 c =
    let u = unescape c.args.payload.now in
    c.compare_content.ensures
    ∙ one_header c.args.fields (header_of u) u _ (header (goal.at.returns-else-header-ne1 c).After-read_header-read ∙ ap says
    c.in-Ok.is) c.if-header-ne1.false
