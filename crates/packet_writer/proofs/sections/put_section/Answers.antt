-- The CRC is that of the bytes before it, as they stand in the output.
use native.Mathlib.Omega.{arith}
use Prim.Native.Nat.{ℕ, ◌+◌}
use mathlib.Core.Path.{◌≡◌, ap, ap₂, ◌∙◌}
use mathlib.Core.List.{◌++◌}
use lib.ListN.{length, take, drop, length-append}
use lib.Seq.{take-append_seam}
use Rattle.lists.specs.Lists.{Bytes, over}
use Rattle.crc.specs.Crc.{crc, bytes_of, crc_bytes}
use Rattle.psi.specs.Writing.{section_body}
use Rattle.packet_writer.proofs.Puts.{behind_put, crc_high_first}
use Rattle.packet_writer.proofs.sections.put_section.Goals as goal

pub returns : goal.returns
returns c =
    let a = c.args in
    let out = a.out.now in
    let s = section_body a.body.table a.body.extension (a.body.front.now ++ a.body.tail.now) in
    let at : 8 + (length a.body.front.now + length a.body.tail.now) ≡ length s =
    omega (arith, length-append a.body.front.now a.body.tail.now) in
    let o = c.put_body.ensures in
    let same : c.part.result.now ≡ s = c.part.ensures
    ∙ ap₂ (λ (k : ℕ) (x : Bytes). take k x) at o ∙ take-append_seam s (drop (length s) out) in
    let bytes : c.to_be_bytes.result ≡ crc_bytes s = c.to_be_bytes.ensures ∙ crc_high_first c.crc32-crc.result (omega arith)
    ∙ ap bytes_of (c.crc32-crc.ensures ∙ ap crc same) in
    c.copy_at.ensures ∙ behind_put s _ out _ _ at o ∙ ap (λ (w : Bytes). over (s ++ w) out) bytes
