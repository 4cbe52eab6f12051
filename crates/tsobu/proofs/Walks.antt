-- Whole walks: the steps hand out the payloads in order, all of them where each passes 3 and 10, and a step that refuses has as its place
-- how many payloads were handed out. Assumes nothing.
use Prim.Native.Nat.{ℕ, ◌≤◌, ◌<◌}
use mathlib.Core.Bool.{true}
use mathlib.Core.Path.{◌≡◌, refl, sym, ap, ap₂, subst, ◌∙◌}
use mathlib.Core.Logic.{◌⊎◌, inl, inr}
use mathlib.Core.List.{List, [], ◌∷◌, ◌++◌, append-nil}
use native.Mathlib.Omega.{arith}
use lib.ListN.{length, drop, length-append}
use Rattle.lists.specs.Lists.{Bytes}
use Rattle.lists.proofs.Tests.{clash}
use Rattle.refusal.specs.Verdict.{passed, refused}
use Rattle.refusal.proofs.Verdicts.{All}
use Rattle.emulation.specs.Payload.{legal}
use Rattle.tsobu.specs.StartCodes.{at_start_code, payloads}
use Rattle.tsobu.specs.Walk.{payload, end, part_at, stepping, HandsOut, none, first, WalkSays, Walks}
use Rattle.tsobu.proofs.Places.{Place, next_code, payload_at, payload_is, next_place, payloads_from, payloads_end, index_count}
use Rattle.tsobu.proofs.Steps.{end_is, is_end, not_end_within, code_before_end, step_legal, step_end, step_code, gives, gives_part}
use Rattle.tsobu.proofs.Steps.{ended_place, Refuses, no_code, at_code, refused_step}

-- ---- what the steps hand out
-- the payloads from a place on are those that the steps hand out, and then those from where they come to
pub handed_front : (unit : Bytes) {at at' : ℕ} {ps : List Bytes} → HandsOut unit at ps at'
    → payloads (drop at unit) ≡ ps ++ payloads (drop at' unit)
handed_front unit none = refl
handed_front unit {at} {at'} (first {ps = ps} p e w) =
    let h = gives unit at p e in
    payloads_from unit at h.code
    ∙ ap₂ (λ (x : Bytes) (xs : List Bytes). x ∷ xs) (sym (gives_part unit at p h))
    (ap (λ (n : ℕ). payloads (drop n unit)) (sym h.next) ∙ handed_front unit w)

-- a walk from any place to the end hands out exactly the payloads from there on, in order
pub walk_payloads : (unit : Bytes) (at : ℕ) (ps : List Bytes) → Walks unit at ps → ps ≡ payloads (drop at unit)
walk_payloads unit at ps (at', w, e) =
    sym
    (handed_front unit w
    ∙ ap (λ (l : List Bytes). ps ++ l) (payloads_end unit at' (end_is unit at' (ended_place unit at' e)).1)
    ∙ append-nil ps)

-- where they come to: a later start code, or the end
came : (unit : Bytes) {at at' : ℕ} {ps : List Bytes} → HandsOut unit at ps at' → ((ps ≡ []) × (at' ≡ at)) ⊎ (Place unit at' × (at < at'))
came unit none = inl (refl, refl)
came unit {at} {at'} (first {ps = ps} p e w) = inr (on (came unit w))
  where
    on : ((ps ≡ []) × (at' ≡ p.next)) ⊎ (Place unit at' × (p.next < at')) → Place unit at' × (at < at')
    on (inl (z, k)) =
        let h = gives unit at p e in
        (subst (Place unit) (sym (k ∙ h.next)) (next_place unit at h.code), omega (arith, k, h.next))
    on (inr (v, k)) = let h = gives unit at p e in (v, omega (arith, k, h.next))

-- ---- payloads that pass 3 and 10
abbrev pub Fine : Bytes → Type 0
Fine p = (1 ≤ length p) × (legal p ≡ true)

-- a start code or the end, before a payload, is a start code
pub place_more : (unit : Bytes) (at : ℕ) (p : Bytes) (ps : List Bytes) → Place unit at → payloads (drop at unit) ≡ p ∷ ps
    → at_start_code (drop at unit) ≡ true
place_more unit at p ps (inl e) k = absurd (omega (arith, ap length (sym (payloads_end unit at (omega arith)) ∙ k)))
place_more unit at p ps (inr c) k = c

-- where the steps over them come to, with what is left
pub record Front (unit : Bytes) (at : ℕ) (front rest : List Bytes) : Type 0 where
  pub to : ℕ
  pub hands : HandsOut unit at front to
  pub left : payloads (drop to unit) ≡ rest
  pub place : Place unit to

pub walk_front : (unit : Bytes) (at : ℕ) (front rest : List Bytes) → Place unit at → payloads (drop at unit) ≡ front ++ rest
    → All Fine front → Front unit at front rest
walk_front unit at [] rest v e f = record { to = at; hands = none; left = e; place = v }
walk_front unit at (p ∷ front) rest v e f =
    let c = place_more unit at p (front ++ rest) v e in
    let both : payload_at unit at ∷ payloads (drop (next_code unit at) unit) ≡ p ∷ (front ++ rest) = sym (payloads_from unit at c) ∙ e in
    let one : payload_at unit at ≡ p = cc in
    let more : payloads (drop (next_code unit at) unit) ≡ front ++ rest = cc in
    let fine = subst Fine (sym one ∙ payload_is unit at) f.0 in
    let step : stepping unit at ≡ passed (payload (part_at unit at)) = sym (step_code unit at c (step_legal unit at fine.0 fine.1)) in
    let part = gives_part unit at (part_at unit at) (gives unit at (part_at unit at) step) in
    let r = walk_front unit (next_code unit at) front rest (next_place unit at c) more f.1 in
    record {
      to = r.to;
      hands = subst (λ (x : Bytes). HandsOut unit at (x ∷ front) r.to) (part ∙ one) (first (part_at unit at) step r.hands);
      left = r.left;
      place = r.place;
    }

-- where each payload from a start code or the end on passes, the walk from there hands out all of them
pub walk_from : (unit : Bytes) (at : ℕ) → Place unit at → 1 ≤ length unit → All Fine (payloads (drop at unit))
    → Walks unit at (payloads (drop at unit))
walk_from unit at v h f =
    let r = walk_front unit at (payloads (drop at unit)) [] v (sym (append-nil (payloads (drop at unit)))) f in
    (r.to, r.hands, at_end r.to r.left r.place)
  where
    at_end : (to : ℕ) → payloads (drop to unit) ≡ [] → Place unit to → stepping unit to ≡ passed end
    at_end to e (inl z) = sym (step_end unit to (is_end unit to (omega arith) (omega arith)))
    at_end to e (inr c) = absurd (omega (arith, ap length (sym (payloads_from unit to c) ∙ e)))

-- ---- a step that refuses after k payloads have been handed out has place k
pub refused_place : (unit : Bytes) (ps : List Bytes) (number place : ℕ) → WalkSays unit 0 ps (refused number place) → place ≡ length ps
refused_place unit ps number place (at, w, e) = by (refused_step unit at number place e) (came unit w)
  where
    by : Refuses unit at number place → ((ps ≡ []) × (at ≡ 0)) ⊎ (Place unit at × (0 < at)) → place ≡ length ps
    by (no_code c t n z) (inl (none_yet, s)) = omega (arith, z, ap length none_yet)
    by (no_code c t n z) (inr (inl h, k)) = clash (is_end unit at k (omega arith)) t
    by (no_code c t n z) (inr (inr h, k)) = clash h c
    by (at_code c n z) s =
        let within = not_end_within unit at (code_before_end unit at c) in
        omega (arith, z, index_count unit at within, ap length (handed_front unit w), length-append ps (payloads (drop at unit)))
