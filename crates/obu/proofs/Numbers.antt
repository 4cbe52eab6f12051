-- With which numbers an OBU and an order of OBUs are refused: 3 where the OBU is empty, then 4, 5, 6 and 42; the order with 7. What holds
-- of these numbers holds of the number of every such refusal. Assumes nothing.
use Prim.Native.Nat.{ℕ}
use mathlib.Core.Bool.{Bool}
use mathlib.Core.Path.{sym, subst}
use mathlib.Core.List.{List}
use Rattle.std.specs.Prelude.{Option, Some, None}
use lib.Dec.{eqb}
use lib.ListN.{length, drop}
use Rattle.lists.specs.Lists.{Bytes}
use Rattle.lists.specs.Bytes.{byte}
use Rattle.refusal.specs.Verdict.{Verdict, NoValue, passed, refused, ◌>>◌, given}
use Rattle.refusal.proofs.Refusing.{Refuses, refuses_given, refuses_pick, refuses_then, refuses_bind}
use Rattle.obu.specs.declared.leb128.Leb128.{Leb128}
use Rattle.obu.specs.Leb128.{leb128}
use Rattle.obu.specs.Header.{fixed_bytes, size_said, size_of, sized_header, header_of, judged, obu_refusal}
use Rattle.obu.specs.Order.{Kind, OrderMeans, order_refusal}
use Rattle.obu.proofs.Meaning.{order_means}

module _ (P : ℕ → Type 0) where
  -- a try, and what follows it
  pub refuses_try : {A : Type 0} (number : ℕ) (t : Bool) (v : Verdict A) → P number → Refuses P v → Refuses P (given number t >> v)
  refuses_try number t v h k = refuses_then P _ _ (refuses_given P number t h) (λ _ _. k)

  module _ (p4 : P 4) (p5 : P 5) (p6 : P 6) (p42 : P 42) where
    leb_refuses : (leb : Option Leb128) → Refuses P (size_said leb)
    leb_refuses (Some l) = tt
    leb_refuses None = p5

    header_refuses : (obu : Bytes) → Refuses P (given 3 (eqb (length obu) 0)) → Refuses P (header_of obu)
    unfolding header_of sized_header size_of
    header_refuses obu h =
        let size = leb_refuses (leb128 (drop (fixed_bytes (byte obu 0)) obu)) in
        refuses_then P _ _ h (λ _ _.
        refuses_try 4 _ _ p4 (refuses_try 4 _ _ p4 (refuses_bind P _ _ (refuses_pick P _ _ _ size tt) (λ _ _. tt))))

    pub obu_refuses : (obu : Bytes) → Refuses P (given 3 (eqb (length obu) 0)) → Refuses P (obu_refusal obu)
    unfolding judged
    obu_refuses obu h =
        refuses_then P _ _
        (refuses_bind P _ _ (header_refuses obu h) (λ _ _.
        refuses_try 5 _ _ p5
        (refuses_try 5 _ _ p5 (refuses_try 6 _ _ p6 (refuses_try 42 _ _ p42 (refuses_try 42 _ _ p42 tt))))))
        (λ _ _. tt)

  pub order_refuses : P 7 → (kinds : List Kind) → Refuses P (order_refusal kinds)
  order_refuses p7 kinds = by (order_refusal kinds) (order_means kinds)
    where
      by : (v : Verdict NoValue) → OrderMeans kinds v → Refuses P v
      by (passed tt) m = tt
      by (refused number place) m = subst P (sym m.0) p7
