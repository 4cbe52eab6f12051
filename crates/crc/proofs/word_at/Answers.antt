-- The library adds the four bytes, and `word` takes their exclusive or, which is the same: `be_word`.
use mathlib.Core.Path.{◌∙◌}
use native.Mathlib.Omega.{arith}
use Rattle.crc.proofs.Slicing.{be_word}
use Rattle.crc.proofs.word_at.Goals as goal

pub returns : goal.returns
returns c = c.from_be_bytes.ensures ∙ be_word _ _ _ _ (omega arith) (omega arith) (omega arith)
