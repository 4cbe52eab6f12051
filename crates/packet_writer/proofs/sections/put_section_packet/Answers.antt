-- The header, the pointer, the section and the stuffing, one behind the other.
use native.Mathlib.Omega.{arith}
use Prim.Native.Nat.{ℕ, ◌+◌, ◌-◌}
use mathlib.Core.Bool.{true}
use mathlib.Core.Path.{◌≡◌, refl, ap, ◌∙◌}
use mathlib.Core.List.{[], ◌∷◌, ◌++◌}
use lib.ListN.{length, length-append}
use Rattle.lists.specs.Lists.{Bytes, over}
use Rattle.packet.specs.Writing.{stuffing, header}
use Rattle.psi.specs.Writing.{section}
use Rattle.psi.proofs.Writing.{length_section}
use Rattle.packet_writer.proofs.Puts.{behind_put, put_next, section_as}
use Rattle.packet_writer.proofs.sections.put_section_packet.Goals as goal

pub returns : goal.returns
returns c =
    let a = c.args in
    let out = a.out.now in
    let rest = a.body.front.now ++ a.body.tail.now in
    let lr = length-append a.body.front.now a.body.tail.now in
    let s = section a.body.table a.body.extension rest in
    let ls = length_section a.body.table a.body.extension rest (omega (arith, lr)) in
    let h = header a.place.pid true 1 a.place.counter in
    let zero : Bytes = 0 ∷ [] in
    let at = 17 + (length a.body.front.now + length a.body.tail.now) in
    let m : 188 - at ≡ 183 - length s = omega (arith, lr, ls) in
    let o2 = c.copy_at.ensures ∙ behind_put h zero out _ 4 refl c.put_header.ensures in
    let o3 = put_next (h ++ zero) s out _ _ 5 refl o2 (omega (arith, lr, ls)) c.put_section.ensures in
    c.fill_at.ensures
    ∙ behind_put ((h ++ zero) ++ s) (stuffing (188 - at)) out _ at (omega (arith, lr, ls, length-append (h ++ zero) s)) o3
    ∙ ap (λ (j : ℕ). over (h ++ (0 ∷ s ++ stuffing j)) out) m
    ∙ ap (λ (w : Bytes). over w out) (section_as a.place.pid a.place.counter s (omega (arith, lr, ls)))
