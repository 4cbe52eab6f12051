-- Salvaging, try by try; and a unit from its first start code on. Assumes nothing.
use Prim.Native.Nat.{ℕ, ◌+◌, ◌≤◌, ◌<◌}
use mathlib.Core.Bool.{Bool, true, false, ◌||◌, or-true}
use mathlib.Core.Path.{◌≡◌, sym, ap, ap₂, ◌∙◌}
use mathlib.Core.List.{List, [], ◌∷◌, map}
use native.Mathlib.Omega.{arith}
use borrow.Author.Tests.{lt-ltb, le-ltb, ltb-false}
use lib.Dec.{ltb}
use lib.ListN.{length, take, drop, length-append}
use lib.Seq.{length-take-le}
use Rattle.obu.specs.Order.{Kind}
use Rattle.obu.specs.Table.{kind_meant}
use Rattle.lists.specs.Lists.{Bytes, those, over}
use Rattle.refusal.specs.Verdict.{Verdict, passed, refused, leaves}
use Rattle.refusal.proofs.Verdicts.{refuse, pass_on, refused_leaves}
use Rattle.unit.specs.Unit.{most_obus, most_carried, read_unit, carried}
use Rattle.tsobu.specs.StartCodes.{payloads}
use Rattle.tsobu.proofs.Places.{before, before_rest}
use Rattle.refusal.specs.Verdict.{passes}
use Rattle.salvage.specs.Salvage.{kept, salvaged, mark, marks, leading, accepted, figures, salvaging}
use Rattle.salvage.specs.declared.Figures.{Figures}
use Rattle.salvage.specs.declared.Measured.{Measured}
use Rattle.salvage.specs.Parts.{forms, kept_of, MeasuredOf, acceptable, Ready}
use Rattle.salvage.proofs.Forms.{salvaged_is, kept_next, kept_few, kept_fine}
use Rattle.salvage.proofs.Accepting.{accepted_is}

-- ---- from the first start code on
module _ (u body : Bytes) (at : ℕ) (e : at ≡ 0 + before u) (f : body ≡ drop at u) where
  at_is : at ≡ leading u
  at_is = omega arith

  body_is : body ≡ drop (before u) u
  body_is = f ∙ ap (λ (n : ℕ). drop n u) at_is

  pub body_payloads : payloads body ≡ payloads u
  body_payloads = ap payloads body_is ∙ before_rest u

  pub body_forms : forms (payloads body) ≡ salvaged u
  body_forms = ap forms body_payloads ∙ sym (salvaged_is u)

-- ---- what was measured
kept_most : (ps : List Bytes) → length (kept_of ps) ≤ length ps
unfolding those
kept_most [] = omega arith
kept_most (p ∷ ps) = omega (arith, kept_most ps, kept_few p, ap length (kept_next p ps), length-append (kept_of (p ∷ [])) (kept_of ps))

module _ (body : Bytes) (m : Measured) (o : MeasuredOf body m) where
  pub few_payloads : m.count ≤ 64
  few_payloads = omega (arith, o.count, ltb-false most_obus (length (payloads body)) (sym o.few))

  pub forms_fit : (room : ℕ) → m.bytes ≤ room → length (forms (payloads body)) ≤ room
  forms_fit room h = omega (arith, o.bytes)

  -- what is kept
  pub few_kept : m.kept ≤ 64
  few_kept = omega (arith, o.kept, kept_most (payloads body), few_payloads, o.count)

  -- what the code tries of it is reading's verdict on the result
  pub accepted_measured : acceptable (length (take m.kept m.kinds)) m.size (map kind_meant (take m.kept m.kinds))
      ≡ passes (read_unit (carried (kept_of (payloads body))))
  accepted_measured =
      let l = kept_of (payloads body) in
      let count : length (take m.kept m.kinds) ≡ length l = omega (
        arith,
        length-take-le m.kept m.kinds (omega
            (arith, few_kept, o.long_kinds)),
        o.kept,
      ) in
      ap (λ (k : ℕ). acceptable k m.size (map kind_meant (take m.kept m.kinds))) count
      ∙ ap₂ (λ (b : ℕ) (k : List Kind). acceptable (length l) b k) o.size o.kinds
      ∙ accepted_is l (omega (arith, few_kept, o.kept)) (kept_fine (payloads body))

-- ---- the tries
module _ (u : Bytes) (bytes room : ℕ) where
  pub too_long : most_carried < length u → refused 2 0 ≡ salvaging u bytes room
  unfolding salvaging
  too_long h = refuse 2 _ (lt-ltb most_carried (length u) h)

  module _ (h : length u ≤ most_carried) where
    pub too_many : ltb most_obus (length (payloads u)) ≡ true → refused 1 0 ≡ salvaging u bytes room
    unfolding salvaging
    too_many e = pass_on 2 (le-ltb most_carried (length u) h) (refuse 1 _ e)

    module _ (e : ltb most_obus (length (payloads u)) ≡ false) where
      short_by : (ltb bytes (length (salvaged u)) || ltb room (length (payloads u))) ≡ true → refused 8 0 ≡ salvaging u bytes room
      unfolding salvaging
      short_by t = pass_on 2 (le-ltb most_carried (length u) h) (pass_on 1 e (refuse 8 _ t))

      pub short_bytes : bytes < length (salvaged u) → refused 8 0 ≡ salvaging u bytes room
      short_bytes k = short_by (ap (λ (t : Bool). t || ltb room (length (payloads u))) (lt-ltb bytes (length (salvaged u)) k))

      pub short_marks : room < length (payloads u) → refused 8 0 ≡ salvaging u bytes room
      short_marks k =
          short_by
          (ap (λ (t : Bool). ltb bytes (length (salvaged u)) || t) (lt-ltb room (length (payloads u)) k)
          ∙ or-true (ltb bytes (length (salvaged u))))

      pub all_fits : length (salvaged u) ≤ bytes → length (payloads u) ≤ room → (f : Figures)
          → f ≡ figures u → passed f ≡ salvaging u bytes room
      unfolding salvaging
      all_fits j k f g =
          pass_on 2 (le-ltb most_carried (length u) h)
          (pass_on 1 e
          (pass_on 8 (ap₂ (λ (t s : Bool). t || s) (le-ltb bytes (length (salvaged u)) j) (le-ltb room (length (payloads u)) k))
          (ap passed g)))

-- ---- the answer and the outputs
-- what is promised of salvaging u into these outputs: the verdict, and what they hold afterwards
abbrev pub Salvages : Bytes → Bytes → List ℕ → Verdict Figures → Bytes → List ℕ → Type 0
Salvages u out room v after marked =
    (v ≡ salvaging u (length out) (length room)) × ((after ≡ leaves v (salvaged u) out) × (marked ≡ leaves v (marks u) room))

pub refused_all : {number : ℕ} {v : Verdict Figures} (u out : Bytes) (room : List ℕ) → v ≡ refused number 0
    → refused number 0 ≡ salvaging u (length out) (length room) → Salvages u out room v out room
refused_all u out room e f = (e ∙ f, (refused_leaves _ out e, refused_leaves _ room e))

-- a unit, and what stands from its first start code on
pub record Found (u body : Bytes) (at : ℕ) : Type 0 where
  pub first : at ≡ 0 + before u
  pub rest : body ≡ drop at u
  pub within : length u ≤ most_carried

module _ {u body : Bytes} {at : ℕ} (f : Found u body at) (out : Bytes) (room : List ℕ) where
  same_payloads : payloads body ≡ payloads u
  same_payloads = body_payloads u body at f.first f.rest

  same_forms : forms (payloads body) ≡ salvaged u
  same_forms = body_forms u body at f.first f.rest

  many_is : (b : Bool) → b ≡ ltb most_obus (length (payloads body)) → ltb most_obus (length (payloads u)) ≡ b
  many_is b k = ap (λ (ps : List Bytes). ltb most_obus (length ps)) (sym same_payloads) ∙ sym k

  pub many_all : {v : Verdict Figures} → v ≡ refused 1 0 → true ≡ ltb most_obus (length (payloads body)) → Salvages u out room v out room
  many_all r k = refused_all u out room r (too_many u (length out) (length room) f.within (many_is true k))

  -- what was measured of it
  module _ {m : Measured} (o : MeasuredOf body m) where
    bytes_is : m.bytes ≡ length (salvaged u)
    bytes_is = o.bytes ∙ ap length same_forms

    count_is : m.count ≡ length (payloads u)
    count_is = o.count ∙ ap length same_payloads

    kept_is : m.kept ≡ length (kept u)
    kept_is = o.kept ∙ ap (λ (ps : List Bytes). length (kept_of ps)) same_payloads

    pub bytes_all : {v : Verdict Figures} → v ≡ refused 8 0 → length out < m.bytes → Salvages u out room v out room
    bytes_all r j =
        refused_all u out room r (short_bytes u (length out) (length room) f.within (many_is false o.few) (omega (arith, bytes_is)))

    pub marks_all : {v : Verdict Figures} → v ≡ refused 8 0 → length room < m.count → Salvages u out room v out room
    marks_all r j =
        refused_all u out room r (short_marks u (length out) (length room) f.within (many_is false o.few) (omega (arith, count_is)))

    pub put_asked : m.bytes ≤ length out → m.count ≤ length room → Ready body m out room
    put_asked i j = record { measured = o; bytes = i; count = j }

    pub put_all : m.bytes ≤ length out → m.count ≤ length room → (ok : Bool) (after : Bytes) (marked : List ℕ)
        → ok ≡ acceptable (length (take m.kept m.kinds)) m.size (map kind_meant (take m.kept m.kinds))
        → after ≡ over (forms (payloads body)) out → marked ≡ over (map mark (payloads body)) room
        → Salvages u out room (passed (record { bytes = m.bytes; tsobus = m.count; kept = m.kept; leading = at; accepted = ok }))
        after marked
    unfolding leaves
    put_all i j ok after marked a p q =
        let lead : at ≡ leading u = at_is u body at f.first f.rest in
        let yes : ok ≡ accepted u =
        a ∙ accepted_measured body m o ∙ ap (λ (ps : List Bytes). passes (read_unit (carried (kept_of ps)))) same_payloads in (
          all_fits u (length out) (length room) f.within (many_is false o.few) (omega (arith, bytes_is)) (omega (arith, count_is)) _
              (λ x. record { bytes = bytes_is x; tsobus = count_is x; kept = kept_is x; leading = lead x; accepted = yes x }),
          (p ∙ ap (λ (w : Bytes). over w out) same_forms, q ∙ ap (λ (ps : List Bytes). over (map mark ps) room) same_payloads),
        )
