use native.Mathlib.Omega.{arith}
use mathlib.Core.Path.{sym, ◌∙◌}
use Rattle.escaping.proofs.Inserting.{inserts_plain, inserts_critical}
use Rattle.escaping.proofs.escaping.inserted_places.Goals.{then-here-next+then-critical_at, then-here-next+else-critical_at}
use Rattle.escaping.proofs.escaping.inserted_places.Goals.{else-here-next}
use Rattle.escaping.proofs.escaping.inserted_places.Goals as goal

pub loop-here-preserved : goal.loop-here-preserved
loop-here-preserved c =
    elim c.if-here-next.branch [
      | then-here-next+then-critical_at w ↦
          let e = rw w.if-here-next.true at (sym w.critical_at.ensures ∙ w.if-critical_at.true) in
          rw (w.count-is, w.next-is) (omega arith, omega arith, inserts_critical _ _ _ _ c.loop-here.invariant.2 e)
      | then-here-next+else-critical_at w ↦
          let e = rw w.if-here-next.true at (sym w.critical_at.ensures ∙ w.if-critical_at.false) in
          rw (w.count-is, w.next-is) (omega arith, omega arith, inserts_plain _ _ _ _ c.loop-here.invariant.2 (omega arith) e)
      | else-here-next w ↦ rw (w.count-is, w.next-is) (omega arith, omega arith, c.loop-here.invariant.2)
    ]

pub returns : goal.returns
returns c = record {
  inserts = c.loop-here.invariant.2;
  i_lt_place = omega arith;
}
