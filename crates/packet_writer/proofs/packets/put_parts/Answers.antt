-- The header, the field and the two parts of the payload, one behind the other.
use native.Mathlib.Omega.{arith}
use Prim.Native.Nat.{ℕ, ◌+◌, ◌-◌}
use mathlib.Core.Path.{◌≡◌, refl, ap, ◌∙◌}
use mathlib.Core.List.{◌++◌, append_assoc}
use lib.ListN.{length, length-append}
use Rattle.lists.specs.Lists.{Bytes, over}
use Rattle.packet.specs.Writing.{most, header, control, adaptation_field, carrying}
use Rattle.packet.proofs.Writing.{length_field}
use Rattle.packet_writer.proofs.Puts.{behind_put, put_next, control_lt}
use Rattle.packet_writer.proofs.packets.put_parts.Goals as goal

pub put_header-requires : goal.put_header-requires
put_header-requires c =
    let a = c.args in
    let l = control_lt (184 - length a.head.now - length a.part.now) in
    let e = c.control.ensures in
    (omega (arith, l, e), omega (arith, c.requires.1))

pub returns : goal.returns
unfolding carrying
returns c =
    let a = c.args in
    let out = a.out.now in
    let v = a.head.now in
    let w = a.part.now in
    let n = 184 - length v - length w in
    let h = header a.place.pid a.start (control n) a.place.counter in
    let f = adaptation_field n a.flags in
    let lf = length_field n a.flags in
    let lh = length-append h f in
    let m : n ≡ most - length (v ++ w) = omega (arith, length-append v w) in
    let o1 = c.put_header.ensures
    ∙ ap (λ (k : ℕ). over (header a.place.pid a.start k a.place.counter) out) c.control.ensures in
    let o2 = put_next h f out _ _ 4 refl o1 (omega (arith, lf, c.requires.1)) c.put_field.ensures in
    let o3 = c.copy_at.ensures ∙ behind_put (h ++ f) v out _ (4 + n) (omega (arith, lf, lh)) o2 in
    c.copy_at-2.ensures
    ∙ behind_put ((h ++ f) ++ v) w out _ (4 + n + length v) (omega (arith, lf, lh, length-append (h ++ f) v)) o3
    ∙ ap (λ (x : Bytes). over x out) (append_assoc (h ++ f) v w ∙ append_assoc h f (v ++ w))
    ∙ ap (λ (k : ℕ). over (header a.place.pid a.start (control k) a.place.counter ++ (adaptation_field k a.flags ++ (v ++ w))) out) m
