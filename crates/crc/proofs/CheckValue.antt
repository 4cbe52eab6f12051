-- The definition at a known string: the nine digits give the check value that is published for this CRC (CRC-32/MPEG-2). Assumes nothing.
use mathlib.Core.Path.{◌≡◌, refl}
use mathlib.Core.List.{[], ◌∷◌}
use Rattle.lists.specs.Lists.{pick}
use Rattle.crc.specs.Crc.{bit_step, bits_step, byte_step, crc_from, crc}

pub nine_digits : crc (0x31 ∷ 0x32 ∷ 0x33 ∷ 0x34 ∷ 0x35 ∷ 0x36 ∷ 0x37 ∷ 0x38 ∷ 0x39 ∷ []) ≡ 0x0376_E6E7
unfolding crc_from byte_step bits_step bit_step pick
nine_digits = refl
