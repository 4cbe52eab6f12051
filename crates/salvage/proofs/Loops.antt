-- Loops over the tsOBUs of a string: what is done, then the definition of the rest, is the definition of the whole. Assumes nothing.
use Prim.Native.Nat.{ℕ, zero, suc, ◌+◌, ◌-◌, ◌≤◌, ◌<◌}
use mathlib.Core.Bool.{true}
use mathlib.Core.Path.{◌≡◌, refl, sym, ap, subst, subst₂, ◌∙◌}
use mathlib.Core.Logic.{◌⊎◌, inl, inr}
use mathlib.Core.List.{List, [], ◌∷◌, ◌++◌, map, flatten, append-nil, append_assoc, map-append}
use native.Mathlib.Omega.{arith}
use native.Mathlib.Numerals.{add-one}
use borrow.Author.Tests.{lt-ltb, le-ltb}
use borrow.Rule.Slice.PartMut.{mid_of, put_mid}
use lib.Dec.{ltb}
use lib.ListN.{length, take, set, length-set, length-append, length-drop}
use lib.Seq.{take-set-le, take-suc-set, append_snoc}
use Rattle.lists.specs.Lists.{Bytes, those, over}
use Rattle.lists.proofs.Parts.{tail_lent, tail_placed}
pub use Rattle.lists.proofs.Writing.{Part}
use Rattle.lists.proofs.Writing.{start, counted, put_all, done}
use Rattle.unit.specs.Unit.{most_obus, sum}
use Rattle.tsobu.specs.StartCodes.{split, payloads}
use Rattle.tsobu.proofs.Splits.{joined, split_whole}
use Rattle.salvage.specs.Salvage.{mark}
use Rattle.std.specs.Prelude.{Option, Some, None}
use Rattle.obu.specs.Order.{Kind}
use Rattle.obu.specs.Table.{kind_meant}
use Rattle.obu.specs.declared.ordering.Kind as code_kind
use Rattle.salvage.specs.declared.One.{One}
use Rattle.salvage.specs.declared.Kept.{Kept}
use Rattle.salvage.specs.declared.Measured.{Measured}
use Rattle.salvage.specs.Parts.{form, forms, kept_of, kinds_of, bytes_of, kept_count, kept_kinds, kept_bytes, OneOf, MeasuredOf}
use Rattle.salvage.specs.Parts.{added, HasRoom}
use Rattle.salvage.proofs.Forms.{salvaged_is, kept_next, kept_few, kept_within}
use Rattle.salvage.proofs.Theorems.{never_longer}

-- ---- measuring
-- the k elements (none or one) that a turn puts behind n of them
pub noted : {A : Type 0} (n k : ℕ) (x : A) (l : List A) → k ≤ 1 → n < length l → take (n + k) (set l n x) ≡ take n l ++ take k (x ∷ [])
noted n zero x l h j =
    let e : n + 0 ≡ n = omega arith in
    ap (λ (i : ℕ). take i (set l n x)) e ∙ take-set-le n l n x (omega arith) ∙ sym (append-nil (take n l))
noted n (suc zero) x l h j = ap (λ (i : ℕ). take i (set l n x)) (add-one n) ∙ take-suc-set l n x j
noted n (suc (suc k)) x l h j = absurd (omega arith)

-- of all tsOBUs those before the rest are measured
pub record Measuring (all rest : List Bytes) (m : Measured) : Type 0 where
  pub few : m.count ≤ 64
  pub fewer : m.kept ≤ m.count
  pub long : length m.marks ≡ 64
  pub long_kinds : length m.kinds ≡ 64
  pub total : m.count + length rest ≡ length all
  pub summed : m.bytes + length (forms rest) ≡ length (forms all)
  pub marked : take m.count m.marks ++ map mark rest ≡ map mark all
  pub kept_total : m.kept + length (kept_of rest) ≡ length (kept_of all)
  pub kinds_noted : map kind_meant (take m.kept m.kinds) ++ kinds_of (kept_of rest) ≡ kinds_of (kept_of all)
  pub sized : m.size + bytes_of (kept_of rest) ≡ bytes_of (kept_of all)

abbrev pub unmeasured : List ℕ → List code_kind.Kind → Measured
unmeasured marks kinds = record { count = 0; bytes = 0; marks = marks; kept = 0; kinds = kinds; size = 0 }

pub measuring_start : (all rest : List Bytes) (marks : List ℕ) (kinds : List code_kind.Kind) → length marks ≡ 64 → length kinds ≡ 64
    → rest ≡ all → Measuring all rest (unmeasured marks kinds)
measuring_start all rest marks kinds l k e =
    subst (λ (ps : List Bytes). Measuring all ps (unmeasured marks kinds)) (sym e)
    (record {
      few = omega arith;
      fewer = omega arith;
      long = l;
      long_kinds = k;
      total = omega arith;
      summed = omega arith;
      marked = refl;
      kept_total = omega arith;
      kinds_noted = refl;
      sized = omega arith;
    })

-- a turn has room for a tsOBU, or none is left
pub record Turn (all rest : List Bytes) (m : Measured) : Type 0 where
  pub measured : Measuring all rest m
  pub room : (m.count < 64) ⊎ (length rest ≡ 0)

pub turn_room : {all rest ps : List Bytes} {p : Bytes} {m : Measured} → Turn all rest m → rest ≡ p ∷ ps → m.count < 64
turn_room {all} {rest} {ps} {p} {m} t q =
    elim t.room [
      | inl k ↦ k
      | inr e ↦ absurd (omega (arith, e, ap length q))
    ]

-- what is kept, tsOBU by tsOBU, in numbers
bytes_append : (a b : List Bytes) → bytes_of (a ++ b) ≡ bytes_of a + bytes_of b
unfolding sum
bytes_append [] b = omega arith
bytes_append (x ∷ a) b = omega (arith, bytes_append a b)

module _ (p : Bytes) (ps : List Bytes) where
  count_next : length (kept_of (p ∷ ps)) ≡ length (kept_of (p ∷ [])) + length (kept_of ps)
  count_next = ap length (kept_next p ps) ∙ length-append (kept_of (p ∷ [])) (kept_of ps)

  kinds_next : kinds_of (kept_of (p ∷ ps)) ≡ kinds_of (kept_of (p ∷ [])) ++ kinds_of (kept_of ps)
  kinds_next = ap kinds_of (kept_next p ps) ∙ map-append _ (kept_of (p ∷ [])) (kept_of ps)

  bytes_next : bytes_of (kept_of (p ∷ ps)) ≡ bytes_of (kept_of (p ∷ [])) + bytes_of (kept_of ps)
  bytes_next = ap bytes_of (kept_next p ps) ∙ bytes_append (kept_of (p ∷ [])) (kept_of ps)

-- what is kept has no more bytes than the string, nor has the result
kept_short : (ps : List Bytes) → bytes_of (kept_of ps) ≤ length (joined ps)
unfolding joined sum those
kept_short [] = omega arith
kept_short (p ∷ ps) = omega (arith, bytes_next p ps, kept_within p, kept_short ps, length-append p (joined ps))

pub bytes_within : (s : Bytes) → bytes_of (kept_of (payloads s)) ≤ length s
bytes_within s =
    omega (
      arith,
      kept_short (payloads s),
      ap length (split_whole s),
      length-append (split s).before (joined (payloads s)),
    )

pub forms_within : (s : Bytes) → length (forms (payloads s)) ≤ length s
forms_within s = omega (arith, never_longer s, ap length (salvaged_is s))

module _ {all rest ps : List Bytes} {p : Bytes} {m : Measured} (g : Measuring all rest m) (q : rest ≡ p ∷ ps) where
  pub measuring_past : 64 ≤ m.count → true ≡ ltb most_obus (length all)
  measuring_past k = sym (lt-ltb most_obus (length all) (omega (arith, g.total, ap length q)))

  module _ (k : m.count < 64) (one : One) (o : OneOf p one) where
    summed_next : m.bytes + one.bytes + length (forms ps) ≡ length (forms all)
    unfolding flatten
    summed_next = omega (arith, g.summed, o.bytes, ap (λ (l : List Bytes). length (forms l)) q, length-append (form p) (forms ps))

    sized_next : m.size + kept_bytes one.kept + bytes_of (kept_of ps) ≡ bytes_of (kept_of all)
    sized_next = omega (arith, g.sized, o.size, ap (λ (l : List Bytes). bytes_of (kept_of l)) q, bytes_next p ps)

    pub measuring_room : (s : Bytes) → all ≡ payloads s → length s < 18446744073709551616 → HasRoom m one
    measuring_room s e h =
        record {
          mark = omega (arith, g.long);
          kind = omega (arith, g.long_kinds, g.fewer);
          few = g.few;
          fewer = omega (arith, g.few, g.fewer);
          bytes = omega (arith, summed_next, forms_within s, ap (λ (l : List Bytes). length (forms l)) e);
          size = omega (arith, sized_next, bytes_within s, ap (λ (l : List Bytes). bytes_of (kept_of l)) e);
        }

    -- the kinds, the count and the bytes of what is kept, behind a turn
    step : (later : List code_kind.Kind) (kept' size' : ℕ) → length later ≡ 64
        → map kind_meant (take kept' later) ≡ map kind_meant (take m.kept m.kinds) ++ kept_kinds one.kept
        → kept' ≡ m.kept + kept_count one.kept → size' ≡ m.size + kept_bytes one.kept
        → Measuring all ps (record {
          count = m.count + 1;
          bytes = m.bytes + one.bytes;
          marks = set m.marks m.count one.mark;
          kept = kept';
          kinds = later;
          size = size';
        })
    step later kept' size' l w c z =
        record {
          few = omega arith;
          fewer = omega (arith, g.fewer, o.kept, kept_few p);
          long = length-set m.marks m.count one.mark ∙ g.long;
          long_kinds = l;
          total = omega (arith, g.total, ap length q);
          summed = summed_next;
          marked =
              ap (λ (l : List ℕ). l ++ map mark ps) (noted m.count 1 one.mark m.marks (omega arith) (omega (arith, g.long)))
              ∙ append_snoc (take m.count m.marks) one.mark (map mark ps)
              ∙ ap (λ (x : ℕ). take m.count m.marks ++ (x ∷ map mark ps)) o.mark
              ∙ ap (λ (l : List Bytes). take m.count m.marks ++ map mark l) (sym q)
              ∙ g.marked;
          kept_total = omega (arith, g.kept_total, o.kept, ap (λ (l : List Bytes). length (kept_of l)) q, count_next p ps);
          kinds_noted =
              ap (λ (l : List Kind). l ++ kinds_of (kept_of ps)) (w
              ∙ ap (λ (l : List Kind). map kind_meant (take m.kept m.kinds) ++ l) o.kind)
              ∙ append_assoc (map kind_meant (take m.kept m.kinds)) (kinds_of (kept_of (p ∷ []))) (kinds_of (kept_of ps))
              ∙ ap (λ (l : List Kind). map kind_meant (take m.kept m.kinds) ++ l)
              (sym (kinds_next p ps) ∙ sym (ap (λ (l : List Bytes). kinds_of (kept_of l)) q))
              ∙ g.kinds_noted;
          sized = omega (arith, sized_next);
        }

    added_by : (k : Option Kept) → one.kept ≡ k → Measuring all ps (added m (record { mark = one.mark; bytes = one.bytes; kept = k }))
    added_by None n =
        step m.kinds m.kept m.size g.long_kinds
        (sym (append-nil (map kind_meant (take m.kept m.kinds)))
        ∙ ap (λ (x : Option Kept). map kind_meant (take m.kept m.kinds) ++ kept_kinds x) (sym n))
        (omega (arith, ap kept_count n)) (omega (arith, ap kept_bytes n))
    added_by (Some x) n =
        step (set m.kinds m.kept x.kind) (m.kept + 1) (m.size + x.size) (length-set m.kinds m.kept x.kind ∙ g.long_kinds)
        (ap (map kind_meant) (noted m.kept 1 x.kind m.kinds (omega arith) (omega (arith, g.fewer, g.long_kinds)))
        ∙ map-append kind_meant (take m.kept m.kinds) (x.kind ∷ [])
        ∙ ap (λ (y : Option Kept). map kind_meant (take m.kept m.kinds) ++ kept_kinds y) (sym n))
        (omega (arith, ap kept_count n)) (omega (arith, ap kept_bytes n))

    pub measuring_next : Measuring all ps (added m one)
    measuring_next = added_by one.kept refl

pub measuring_done : {rest : List Bytes} {m : Measured} (s : Bytes) → Measuring (payloads s) rest m → rest ≡ [] → MeasuredOf s m
unfolding flatten those sum
measuring_done {rest} {m} s g z =
    record {
      long = g.long;
      long_kinds = g.long_kinds;
      few = sym (le-ltb most_obus (length (payloads s)) (omega (arith, g.total, g.few, ap length z)));
      count = omega (arith, g.total, ap length z);
      bytes = omega (arith, g.summed, ap (λ (l : List Bytes). length (forms l)) z);
      marks = sym (append-nil (take m.count m.marks)) ∙ ap (λ (l : List Bytes). take m.count m.marks ++ map mark l) (sym z) ∙ g.marked;
      kept = omega (arith, g.kept_total, ap (λ (l : List Bytes). length (kept_of l)) z);
      kinds =
          sym (append-nil (map kind_meant (take m.kept m.kinds)))
          ∙ ap (λ (l : List Bytes). map kind_meant (take m.kept m.kinds) ++ kinds_of (kept_of l)) (sym z)
          ∙ g.kinds_noted;
      size = omega (arith, g.sized, ap (λ (l : List Bytes). bytes_of (kept_of l)) z);
    }

-- ---- writing what each gives
pub keeping_start : {all rest : List Bytes} (out : Bytes) → rest ≡ all → Part out (forms all) 0 (forms rest) out
keeping_start {all} {rest} out e = subst (λ (l : List Bytes). Part out (forms all) 0 (forms l) out) (sym e) (start out (forms all))

module _ {out₀ whole out : Bytes} {n : ℕ} {rest ps : List Bytes} {p : Bytes} (k : Part out₀ whole n (forms rest) out) (q : rest ≡ p ∷ ps)
    (fits : length whole ≤ length out₀) where
  next_part : Part out₀ whole n (form p ++ forms ps) out
  unfolding flatten
  next_part = subst (λ (l : List Bytes). Part out₀ whole n (forms l) out) q k

  pub keeping_room : length (form p) ≤ length (mid_of n (length out - n) out)
  keeping_room =
      let room = ap length (tail_lent n out k.within) in
      omega (arith, counted next_part, length-append (form p) (forms ps), k.long, k.within, room, length-drop n out)

  pub keeping_step : (r : ℕ) → r ≡ length (form p) → (after : Bytes) → after ≡ over (form p) (mid_of n (length out - n) out)
      → Part out₀ whole (n + r) (forms ps) (put_mid n (length out - n) out after)
  keeping_step r f after g =
      subst₂ (λ (m : ℕ) (w : Bytes). Part out₀ whole (n + m) (forms ps) w)
      (sym f)
      (sym (tail_placed n out (form p) after k.within g))
      (put_all (form p) next_part fits)

pub keeping_done : {out₀ whole out : Bytes} {n : ℕ} {rest : List Bytes} → Part out₀ whole n (forms rest) out → rest ≡ []
    → out ≡ over whole out₀
unfolding flatten
keeping_done {out₀} {whole} {out} {n} k z = done (subst (λ (l : List Bytes). Part out₀ whole n (forms l) out) z k)
