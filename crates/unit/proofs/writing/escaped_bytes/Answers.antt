-- The OBU is within the limit, so its length is measured.
use mathlib.Core.Path.{◌∙◌}
use Rattle.unit.proofs.Writings.{measured}
use Rattle.unit.proofs.writing.escaped_bytes.Goals as goal

pub returns : goal.returns
returns c = c.unwrap_or.ensures ∙ measured c.args.obu.now c.requires _ c.escaped_length.ensures
