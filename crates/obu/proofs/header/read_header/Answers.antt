-- The code's tries are those of the definition, in its order. If the extension byte is not missing, the fixed bytes lie within the OBU.
use Rattle.std.proofs.Common.{rules}
use mathlib.Core.Path.{sym, ◌∙◌}
use Rattle.lists.specs.Lists.{pick}
use Rattle.refusal.specs.Verdict.{◌>>◌, given}
use Rattle.obu.specs.Header.{header_of}
use Rattle.obu.proofs.Headers.{fixed_within, behind_fixed}
use Rattle.obu.proofs.header.read_header.Goals as goal

pub returns-then-obu-eq0 : goal.returns-then-obu-eq0
unfolding header_of pick ◌>>◌ given
returns-then-obu-eq0 c = search rules

pub returns-then-forbidden_bit : goal.returns-then-forbidden_bit
unfolding header_of pick ◌>>◌ given
returns-then-forbidden_bit c = search rules

pub returns-then-extension_missing : goal.returns-then-extension_missing
unfolding header_of pick ◌>>◌ given
returns-then-extension_missing c = search rules

pub slice_bounds-sized_header-count : goal.slice_bounds-sized_header-count
slice_bounds-sized_header-count c =
    fixed_within _ _ _ (sym c.extension_missing.ensures ∙ c.if-extension_missing.false) c.if-obu-eq0.false c.fixed_bytes-fixed.ensures

pub slice_bounds-sized_header-start : goal.slice_bounds-sized_header-start
slice_bounds-sized_header-start c =
    fixed_within _ _ _ (sym c.extension_missing.ensures ∙ c.if-extension_missing.false) c.if-obu-eq0.false c.fixed_bytes-fixed.ensures

pub returns : goal.returns
unfolding header_of pick ◌>>◌ given
returns c = search (rules, behind_fixed)
