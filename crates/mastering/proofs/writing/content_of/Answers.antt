-- Each byte is that of the definition.
use mathlib.Core.Path.{refl}
use Rattle.mastering.specs.Content.{bytes2, bytes4, content_of}
use mathlib.Core.List.{flatten}
use Rattle.mastering.proofs.writing.content_of.Goals as goal

pub returns : goal.returns
unfolding content_of flatten bytes2 bytes4
returns c = refl
