-- The first eight bytes and the two parts, one behind the other.
use native.Mathlib.Omega.{arith}
use Prim.Native.Nat.{ℕ, ◌+◌}
use mathlib.Core.Path.{refl, sym, ap, ◌∙◌}
use mathlib.Core.List.{◌++◌, append_assoc}
use lib.ListN.{length, length-append}
use Rattle.lists.specs.Lists.{Bytes, over}
use Rattle.lists.proofs.Writing.{fits}
use Rattle.psi.specs.Writing.{section_start}
use Rattle.packet_writer.proofs.Puts.{behind_put}
use Rattle.packet_writer.proofs.sections.put_body.Goals as goal

pub returns : goal.returns
returns c =
    let a = c.args in
    let out = a.out.now in
    let front = a.body.front.now in
    let tail = a.body.tail.now in
    let e = c.section_start-start.ensures in
    let w = section_start a.body.table a.body.extension (length front + length tail) in
    let o1 = c.copy.ensures ∙ fits out _ (omega (arith, ap length e)) ∙ ap (λ (x : Bytes). over x out) e in
    let o2 = c.copy_at.ensures ∙ behind_put w front out _ 8 refl o1 in
    c.copy_at-2.ensures
    ∙ behind_put (w ++ front) tail out _ (8 + length front) (omega (arith, length-append w front)) o2
    ∙ ap (λ (x : Bytes). over x out) (append_assoc w front tail)
    ∙ ap (λ (k : ℕ). over (section_start a.body.table a.body.extension k ++ (front ++ tail)) out) (sym (length-append front tail))
