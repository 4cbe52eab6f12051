-- The definition goes by how many bytes the field takes: none, the length alone, or the length, the flags and stuffing behind them.
use native.Mathlib.Omega.{arith}
use Prim.Native.Nat.{◌-◌}
use mathlib.Core.Path.{refl, ap, ◌∙◌}
use mathlib.Core.List.{[], ◌∷◌}
use Rattle.lists.specs.Lists.{Bytes, over}
use Rattle.lists.proofs.Writing.{fits}
use Rattle.packet.specs.Writing.{stuffing}
use Rattle.packet_writer.proofs.Puts.{behind_put, field_none, field_one, field_more}
use Rattle.packet_writer.proofs.packets.put_field.Goals as goal

pub returns-then-n-eq0 : goal.returns-then-n-eq0
returns-then-n-eq0 c = field_none _ _ _ c.if-n-eq0.true

pub returns-then-n-eq1 : goal.returns-then-n-eq1
returns-then-n-eq1 c = let a = c.args in field_one _ _ a.out.now c.if-n-eq1.true (omega arith)

pub returns : goal.returns
returns c =
    let a = c.args in
    let out = a.out.now in
    let o = c.copy.ensures ∙ fits out _ (omega arith) in
    c.fill_at.ensures
    ∙ behind_put ((a.n - 1) ∷ a.flags ∷ []) (stuffing (a.n - 2)) out _ 2 refl o
    ∙ ap (λ (w : Bytes). over w out) (field_more a.n a.flags c.if-n-eq0.false c.if-n-eq1.false)
