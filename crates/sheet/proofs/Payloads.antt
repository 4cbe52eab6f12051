-- The pass over the OBUs says what the conditions say. Where each OBU begins the next unit or follows the last payload of the same unit,
-- the OBUs are in unit order, and each two payloads of a unit lie one behind the other; so none overlap. A unit is begun exactly where it
-- has an OBU. Assumes nothing.
use Prim.Native.Nat.{ℕ, suc, ◌+◌, ◌≤◌, ◌<◌}
use mathlib.Core.Bool.{false, not, ◌&&◌, ◌||◌}
use mathlib.Core.Path.{◌≡◌, refl, ap, ◌∙◌}
use mathlib.Core.List.{List, [], ◌∷◌}
use native.Mathlib.Omega.{arith}
use lib.Dec.{eqb, ltb, leb}
use lib.ListN.{length}
use borrow.Author.Tests.{ltb-false, leb-false, eqb-true, eqb-false, not-false, lt-ltb, le-ltb, lt-leb, eq-eqb, ne_eqb}
use Rattle.lists.specs.Lists.{pick, those}
use Rattle.lists.proofs.Tests.{case, clash, or_neither, and_second}
use Rattle.lists.proofs.Elements.{those_first, those_others}
use Rattle.refusal.proofs.Verdicts.{All, all_so, none_holds}
use Rattle.sheet.specs.declared.rows.UnitRow.{UnitRow}
use Rattle.sheet.specs.declared.rows.ObuRow.{ObuRow}
use Rattle.sheet.specs.declared.obus.Progress.{Progress}
use Rattle.sheet.specs.Sheet.{Content}
use Rattle.sheet.specs.Reading.{obus_of, few_or_many, not_in_unit_order, names_no_unit, obu_type_past, end, same_unit, overlap, empty}
use Rattle.sheet.specs.Reading.{not_ascending, length_of, passes_length}
use Rattle.sheet.specs.Passing.{at_first, misplaced, row_wrong, after, obus_wrong}
use Rattle.sheet.proofs.Pairs.{neither, not_both, each_by, none_of, Pairs, pairs_as, pairs_by, pairs_with, no_two}
use Rattle.sheet.proofs.Pairs.{none_of_two, none_below, below_none}

-- ---- how many OBUs a unit has
module _ (o : ObuRow) (obus : List ObuRow) (m : ℕ) where
  one_more : o.unit ≡ m → obus_of (o ∷ obus) m ≡ suc (obus_of obus m)
  unfolding obus_of
  one_more e = ap length (those_first (λ x. eqb x.unit m) o obus (eq-eqb _ _ e))

  no_more : (o.unit ≡ m → ⊥) → obus_of (o ∷ obus) m ≡ obus_of obus m
  unfolding obus_of
  no_more e = ap length (those_others (λ x. eqb x.unit m) o obus (ne_eqb _ _ e))

no_obus : (m : ℕ) → obus_of [] m ≡ 0
unfolding obus_of those
no_obus m = refl

all_later : (obus : List ObuRow) (m : ℕ) → All (λ x. m < x.unit) obus → obus_of obus m ≡ 0
all_later [] m h = no_obus m
all_later (o ∷ obus) m h = no_more o obus m (λ e. absurd (omega (arith, h.0))) ∙ all_later obus m h.1

-- ---- what holds of an OBU, behind so many units begun, of which the last payload ends at e
abbrev pub Follows : ℕ → ℕ → ObuRow → Type 0
Follows begun e o = (begun ≤ o.unit + 1) × (o.unit + 1 ≡ begun → e ≤ o.offset)

-- and of one behind another
abbrev pub Behind : ObuRow → ObuRow → Type 0
Behind a o = Follows (a.unit + 1) (end a) o

beyond : (begun e : ℕ) (a o : ObuRow) → Follows begun e a → Behind a o → Follows begun e o
beyond begun e a o h k = (
  omega (arith, h.0, k.0),
  λ q. let p : a.unit + 1 ≡ begun = omega (arith, h.0, k.0) in omega (arith, h.1 p, k.1 (omega (arith, q, p))),
)

module _ (units : List UnitRow) where
  abbrev pub Fine : ObuRow → Type 0
  Fine o = (o.unit < length units) × (o.obu_type ≤ 15) × (0 < o.length) × (end o ≤ length_of units o.unit)

  -- the OBUs that are left, from a progress on
  pub record Right (p : Progress) (obus : List ObuRow) : Type 0 where
    pub each : All Fine obus
    pub follow : All (Follows p.begun p.end) obus
    pub pairs : Pairs Behind obus
    pub few : (m : ℕ) → m + 1 ≡ p.begun → obus_of obus m + p.count ≤ 64
    pub some : (m : ℕ) → p.begun ≤ m → m < length units → (1 ≤ obus_of obus m) × (obus_of obus m ≤ 64)

  -- ---- one OBU
  row_fine : (o : ObuRow) → row_wrong units o ≡ false → Fine o
  unfolding row_wrong
  row_fine o e =
      let n = leb (length units) o.unit in
      let t = ltb 15 o.obu_type in
      let z = eqb o.length 0 in
      let b = or_neither ((n || t) || z) (ltb (length_of units o.unit) (end o)) e in
      let d = or_neither (n || t) z b.0 in
      let g = or_neither n t d.0 in
      let ne = eqb-false o.length 0 d.1 in
      let some : 0 < o.length = omega arith in
      (leb-false _ _ g.0, ltb-false _ _ g.1, some, ltb-false _ _ b.1)

  fine_row : (o : ObuRow) → Fine o → row_wrong units o ≡ false
  unfolding row_wrong
  fine_row o h =
      let ne : o.length ≡ 0 → ⊥ = λ z. absurd (omega (arith, h.2)) in
      neither (neither (neither (lt-leb _ _ h.0) (le-ltb _ _ h.1)) (ne_eqb _ _ ne)) (le-ltb _ _ h.3)

  -- it begins a unit, or it goes on with the last one
  placed : {P : Type 0} (p : Progress) (o : ObuRow) → misplaced p o ≡ false → (o.unit ≡ p.begun → P)
      → (o.unit + 1 ≡ p.begun → p.count < 64 → p.end ≤ o.offset → P) → P
  unfolding misplaced pick
  placed p o e first again =
      case (eqb o.unit p.begun) (λ t. first (eqb-true _ _ t))
      (λ t. case (eqb (o.unit + 1) p.begun)
      (λ u.
      let f : (leb 64 p.count || ltb o.offset p.end) ≡ false = rw (t, u) at e in
      let g = or_neither (leb 64 p.count) (ltb o.offset p.end) f in
      again (eqb-true _ _ u) (leb-false _ _ g.0) (ltb-false _ _ g.1))
      (λ u. clash refl (rw (t, u) at e)))

  begins : (p : Progress) (o : ObuRow) → o.unit ≡ p.begun → (misplaced p o ≡ false) × ((after p o).count ≡ 1)
  unfolding misplaced after pick
  begins p o e = (rw (eq-eqb _ _ e), rw (eq-eqb _ _ e))

  goes_on : (p : Progress) (o : ObuRow) → o.unit + 1 ≡ p.begun → p.count < 64 → p.end ≤ o.offset
      → (misplaced p o ≡ false) × ((after p o).count ≡ p.count + 1)
  unfolding misplaced after pick
  goes_on p o e h k =
      let ne = ne_eqb o.unit p.begun (λ z. absurd (omega arith)) in
      (rw (ne, eq-eqb _ _ e) (neither (lt-leb _ _ h) (le-ltb _ _ k)), rw ne)

  -- ---- the OBUs in turn
  none_left : (p : Progress) → p.count ≤ 64 → p.begun ≡ length units → Right p []
  none_left p h e =
      record { each = tt; follow = tt; pairs = tt; few = λ m q. omega (arith, no_obus m); some = λ m q r. absurd (omega arith) }

  module _ (p : Progress) (o : ObuRow) (obus : List ObuRow) where
    -- one more in front
    module _ (fine : Fine o) (q : Right (after p o) obus) where
      in_front : Follows p.begun p.end o
          → ((m : ℕ) → m + 1 ≡ p.begun → obus_of (o ∷ obus) m + p.count ≤ 64)
          → ((m : ℕ) → p.begun ≤ m → m < length units → (1 ≤ obus_of (o ∷ obus) m) × (obus_of (o ∷ obus) m ≤ 64))
          → Right p (o ∷ obus)
      unfolding after
      in_front f few some =
          record {
            each = (fine, q.each);
            follow = (f, all_so obus (λ x k. beyond p.begun p.end o x f k) q.follow);
            pairs = (q.follow, q.pairs);
            few = few;
            some = some;
          }

      in_order : All (λ x. o.unit ≤ x.unit) obus
      unfolding after
      in_order = all_so obus (λ x k. omega (arith, k.0)) q.follow

      begun_few : o.unit ≡ p.begun → p.count ≤ 64 → (m : ℕ) → m + 1 ≡ p.begun → obus_of (o ∷ obus) m + p.count ≤ 64
      begun_few e h m r =
          let none = all_later obus m (all_so obus (λ x k. omega arith) in_order) in
          omega (arith, no_more o obus m (λ z. absurd (omega arith)), none)

      begun_some : o.unit ≡ p.begun → (m : ℕ) → p.begun ≤ m → m < length units
          → (1 ≤ obus_of (o ∷ obus) m) × (obus_of (o ∷ obus) m ≤ 64)
      unfolding after
      begun_some e m r l =
          case (eqb o.unit m)
          (λ t.
          let one = one_more o obus m (eqb-true _ _ t) in
          let room = q.few m (omega (arith, eqb-true o.unit m t)) in
          let fresh = (begins p o e).1 in
          (omega (arith, one), omega (arith, one, room, fresh)))
          (λ t.
          let ne = eqb-false o.unit m t in
          let same = no_more o obus m ne in
          let h = q.some m (omega arith) l in
          (omega (arith, same, h.0), omega (arith, same, h.1)))

      again_few : o.unit + 1 ≡ p.begun → p.count < 64 → p.end ≤ o.offset → (m : ℕ) → m + 1 ≡ p.begun
          → obus_of (o ∷ obus) m + p.count ≤ 64
      unfolding after
      again_few e h k m r =
          let room = q.few m (omega arith) in
          let more = (goes_on p o e h k).1 in
          omega (arith, one_more o obus m (omega arith), room, more)

      again_some : o.unit + 1 ≡ p.begun → (m : ℕ) → p.begun ≤ m → m < length units
          → (1 ≤ obus_of (o ∷ obus) m) × (obus_of (o ∷ obus) m ≤ 64)
      unfolding after
      again_some e m r l =
          let same = no_more o obus m (λ z. absurd (omega arith)) in
          let h = q.some m (omega arith) l in
          (omega (arith, same, h.0), omega (arith, same, h.1))

      pub step_back : p.count ≤ 64 → misplaced p o ≡ false → Right p (o ∷ obus)
      step_back h e =
          placed p o e
          (λ first. in_front (omega arith, λ z. absurd (omega arith)) (begun_few first h) (begun_some first))
          (λ again room place. in_front (omega arith, λ z. place) (again_few again room place) (again_some again))

    -- the first one taken
    module _ (h : Right p (o ∷ obus)) where
      later : All (λ x. o.unit ≤ x.unit) obus
      later = all_so obus (λ x k. omega (arith, k.0)) h.pairs.0

      -- it leaves no unit out
      none_left_out : p.begun < o.unit → ⊥
      none_left_out b =
          let l : p.begun < length units = omega (arith, h.each.0.0) in
          let same = no_more o obus p.begun (λ z. absurd (omega arith)) in
          let none = all_later obus p.begun (all_so obus (λ x k. omega arith) later) in
          let some = (h.some p.begun (omega arith) l).0 in
          absurd (omega (arith, same, none, some))

      taken : misplaced p o ≡ false → ((m : ℕ) → m + 1 ≡ o.unit + 1 → obus_of obus m + (after p o).count ≤ 64) → Right (after p o) obus
      unfolding after
      taken e few =
          record {
            each = h.each.1;
            follow = h.pairs.0;
            pairs = h.pairs.1;
            few = few;
            some = λ m r l.
                let same = no_more o obus m (λ z. absurd (omega arith)) in
                let k = h.some m (omega (arith, h.follow.0.0)) l in
                (omega (arith, same, k.0), omega (arith, same, k.1));
          }

      pub step_on : (misplaced p o ≡ false) × Right (after p o) obus
      step_on =
          case (eqb o.unit p.begun)
          (λ t.
          let e = eqb-true o.unit p.begun t in
          let b = begins p o e in (
            b.0,
            taken b.0 (λ m r.
                let l = (h.some m (omega arith) (omega (arith, h.each.0.0))).1 in
                omega (arith, one_more o obus m (omega arith), l, b.1)),
          ))
          (λ t.
          let ne = eqb-false o.unit p.begun t in
          let out = none_left_out in
          let e : o.unit + 1 ≡ p.begun = omega (arith, h.follow.0.0, out, ne) in
          let l = h.few o.unit e in
          let one = one_more o obus o.unit refl in
          let g = goes_on p o e (omega (arith, l, one)) (h.follow.0.1 e) in (
            g.0,
            taken g.0 (λ m r.
                let n = h.few m (omega arith) in
                omega (arith, one_more o obus m (omega arith), n, g.1)),
          ))

  begun_within : (p : Progress) (o : ObuRow) → Fine o → (after p o).begun ≤ length units
  unfolding after
  begun_within p o fine = omega (arith, fine.0)

  pub obus_right : (p : Progress) (obus : List ObuRow) → p.count ≤ 64 → obus_wrong units p obus ≡ false → Right p obus
  unfolding obus_wrong
  obus_right p [] h e = none_left p h (eqb-true _ _ (not-false _ e))
  obus_right p (o ∷ obus) h e =
      let both = or_neither (row_wrong units o || misplaced p o) (obus_wrong units (after p o) obus) e in
      let here = or_neither (row_wrong units o) (misplaced p o) both.0 in
      let room : (after p o).count ≤ 64 =
      placed p o here.1 (λ first. omega (arith, (begins p o first).1)) (λ again k l. omega (arith, (goes_on p o again k l).1)) in
      step_back p o obus (row_fine o here.0) (obus_right (after p o) obus room both.1) h here.1

  pub right_obus : (p : Progress) (obus : List ObuRow) → p.begun ≤ length units → Right p obus → obus_wrong units p obus ≡ false
  unfolding obus_wrong
  right_obus p [] b h =
      case (eqb p.begun (length units)) (λ t. ap not t)
      (λ t.
      let ne = eqb-false p.begun (length units) t in
      let less : p.begun < length units = omega arith in
      absurd (omega (arith, (h.some p.begun (omega arith) less).0, no_obus p.begun)))
  right_obus p (o ∷ obus) b h =
      let on = step_on p o obus h in
      neither (neither (fine_row o h.each.0) on.0) (right_obus (after p o) obus (begun_within p o h.each.0) on.1)

-- ---- the conditions
module _ (c : Content) where
  abbrev Conditions : Type 0
  Conditions =
      (few_or_many c ≡ false) × (not_in_unit_order c ≡ false) × (names_no_unit c ≡ false) × (obu_type_past c ≡ false) × (overlap c ≡ false)
      × (empty c ≡ false) × (not_ascending c ≡ false) × (passes_length c ≡ false)

  -- of two OBUs, one behind the other
  no_overlap : (a b : ObuRow) → Behind a b → (same_unit a b && (ltb a.offset (end b) && ltb b.offset (end a))) ≡ false
  no_overlap a b h =
      not_both (same_unit a b) _ (λ t.
      let e = eqb-true a.unit b.unit t in
      not_both (ltb a.offset (end b)) _ (λ _. le-ltb _ _ (h.1 (omega arith))))

  ascends : (a b : ObuRow) → Fine c.units a → Behind a b → (same_unit a b && leb b.offset a.offset) ≡ false
  ascends a b l h =
      not_both (same_unit a b) _ (λ t.
      let e = eqb-true a.unit b.unit t in
      lt-leb b.offset a.offset (omega (arith, l.2, h.1 (omega arith))))

  pub obus_pass : obus_wrong c.units at_first c.obus ≡ false → Conditions
  unfolding few_or_many not_in_unit_order names_no_unit obu_type_past overlap empty not_ascending passes_length
  obus_pass e =
      let l = c.obus in
      let h = obus_right c.units at_first l (omega arith) e in (
        below_none _ (length c.units) (λ m k.
            let s = h.some m (omega arith) k in
            neither (le-ltb _ _ s.0) (le-ltb _ _ s.1)),
        none_of_two _ l (pairs_as (λ a b k. le-ltb b.unit a.unit (omega (arith, k.0))) l h.pairs),
        none_of _ l (all_so l (λ o k. lt-leb _ _ k.0) h.each),
        none_of _ l (all_so l (λ o k. le-ltb _ _ k.1) h.each),
        none_of_two _ l (pairs_as no_overlap l h.pairs),
        none_of _ l (all_so l (λ o k. ne_eqb o.length 0 (λ z. absurd (omega (arith, k.2)))) h.each),
        none_of_two _ l (pairs_with ascends l h.each h.pairs),
        none_of _ l (all_so l (λ o k. le-ltb _ _ k.3) h.each),
      )

  -- and back: of two payloads that ascend and don't overlap the second lies behind the first
  abbrev NoOverlap : ObuRow → ObuRow → Type 0
  NoOverlap a b = (same_unit a b && (ltb a.offset (end b) && ltb b.offset (end a))) ≡ false

  apart : (a b : ObuRow) → (same_unit a b && leb b.offset a.offset) ≡ false → NoOverlap a b → a.unit ≡ b.unit → end a ≤ b.offset
  apart a b e f u =
      let t = eq-eqb a.unit b.unit u in
      let up = leb-false b.offset a.offset (and_second (same_unit a b) (leb b.offset a.offset) t e) in
      let g = and_second (same_unit a b) (ltb a.offset (end b) && ltb b.offset (end a)) t f in
      ltb-false _ _ (and_second (ltb a.offset (end b)) (ltb b.offset (end a)) (lt-ltb a.offset (end b) (omega arith)) g)

  behind : (a b : ObuRow) → ltb b.unit a.unit ≡ false → (a.unit ≡ b.unit → end a ≤ b.offset) → Behind a b
  behind a b e h = (omega (arith, ltb-false b.unit a.unit e), λ z. h (omega arith))

  -- one condition after another
  abbrev Filled : ObuRow → Type 0
  Filled o = (0 < o.length) × (end o ≤ length_of c.units o.unit)

  filled : (o : ObuRow) → eqb o.length 0 ≡ false → ltb (length_of c.units o.unit) (end o) ≡ false → Filled o
  filled o e f = let ne = eqb-false o.length 0 e in (omega arith, ltb-false _ _ f)

  typed : (o : ObuRow) → ltb 15 o.obu_type ≡ false → Filled o → (o.obu_type ≤ 15) × Filled o
  typed o e f = (ltb-false _ _ e, f)

  named : (o : ObuRow) → leb (length c.units) o.unit ≡ false → (o.obu_type ≤ 15) × Filled o → Fine c.units o
  named o e f = (leb-false _ _ e, f.0, f.1.0, f.1.1)

  pub obus_fine : Conditions → obus_wrong c.units at_first c.obus ≡ false
  unfolding few_or_many not_in_unit_order names_no_unit obu_type_past overlap empty not_ascending passes_length
  obus_fine k =
      let l = c.obus in
      right_obus c.units at_first l (omega arith)
      (record {
        each =
            each_by named l (none_holds _ l k.2)
            (each_by typed l (none_holds _ l k.3) (each_by filled l (none_holds _ l k.5) (none_holds _ l k.7)));
        follow = all_so l (λ o h. (omega arith, λ z. absurd (omega arith))) (none_holds _ l k.3);
        pairs = pairs_by behind l (no_two _ l k.1) (pairs_by apart l (no_two _ l k.6) (no_two _ l k.4));
        few = λ m z. absurd (omega arith);
        some = λ m z h.
            let n = none_below _ (length c.units) k.0 m h in
            let g = or_neither (ltb (obus_of l m) 1) (ltb 64 (obus_of l m)) n in
            (ltb-false _ _ g.0, ltb-false _ _ g.1);
      })
