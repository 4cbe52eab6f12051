-- What is proved of salvaging (proofs/Theorems.antt, under the same names in small letters). Assumes nothing.
use Rattle.std.specs.Prelude.{ℕ, ◌≤◌, true, ◌≡◌, ◌↔◌, List, [], ◌∷◌, ◌++◌, map, leb, eqb, length}
use Rattle.lists.specs.Lists.{Bytes, all}
use Rattle.refusal.specs.Verdict.{passed, refused}
use Rattle.emulation.specs.Payload.{unescape, escape}
use Rattle.tsobu.specs.StartCodes.{payloads}
use Rattle.unit.specs.Unit.{obus_in, AcceptsAs, Accepted, carried}
use Rattle.salvage.specs.Salvage.{salvage_refusal, mark, kept_payloads, kept, salvaged, marks, leading, accepted}

-- "Salvaging an accepted unit drops nothing" (each mark says kept, with a closing 03 removed or not), and gives the
-- writer's string of its list
pub record Whole (s : Bytes) (l : List Bytes) : Type 0 where
  pub none_before : leading s ≡ 0
  pub all_obus : kept s ≡ l
  pub all_marks : all (λ n. leb n 1) (marks s) ≡ true
  pub written : salvaged s ≡ carried l
  pub accepts : AcceptsAs (salvaged s) l

abbrev pub AcceptedWhole : Type 0
AcceptedWhole = (s : Bytes) (l : List Bytes) → AcceptsAs s l → Whole s l

-- "keep exactly the tsOBUs that pass": of these payloads those are kept, in order, each that passes and no other
pub data KeptOf : List Bytes → List Bytes → Type 0 where
  none : KeptOf [] []
  keep : {p : Bytes} {ps ks : List Bytes} → salvage_refusal p ≡ passed tt → KeptOf ps ks → KeptOf (p ∷ ps) (p ∷ ks)
  drop : {p : Bytes} {ps ks : List Bytes} (number place : ℕ) → salvage_refusal p ≡ refused number place → KeptOf ps ks
      → KeptOf (p ∷ ps) ks

-- and the result holds their OBUs
abbrev pub KeptInOrder : Type 0
KeptInOrder = (s : Bytes) → KeptOf (payloads s) (kept_payloads s) ×
    (obus_in (salvaged s) ≡ map unescape (kept_payloads s))

-- "kept with a closing 03 removed", exactly where the payload of one that passes ends in 00 00 03; the payload is then
-- the writer's form and that 03, otherwise the writer's form; a tsOBU that is dropped has its number as its mark, which
-- is neither 0 nor 1
abbrev pub EndsIn000003 : Bytes → Type 0
EndsIn000003 payload = (front : Bytes) × (payload ≡ front ++ (0 ∷ 0 ∷ 3 ∷ []))

pub record Marked (payload : Bytes) : Type 0 where
  pub removed : (mark payload ≡ 1) ↔ ((salvage_refusal payload ≡ passed tt) × EndsIn000003 payload)
  pub with_closing : mark payload ≡ 1 → payload ≡ escape (unescape payload) ++ (3 ∷ [])
  pub without : mark payload ≡ 0 → payload ≡ escape (unescape payload)
  pub dropped : (number place : ℕ) → salvage_refusal payload ≡ refused number place
      → (mark payload ≡ number) × (2 ≤ number)

abbrev pub ClosingRemoved : Type 0
ClosingRemoved = (payload : Bytes) → Marked payload

-- the result is never longer than the input
abbrev pub NeverLonger : Type 0
NeverLonger = (s : Bytes) → length (salvaged s) ≤ length s

-- "whether reading accepts the result": exactly where the list of the OBUs that were kept is accepted as one access
-- unit
abbrev pub AcceptedByLaw : Type 0
AcceptedByLaw = (s : Bytes) → (accepted s ≡ true) ↔ Accepted (kept s)

-- salvaging the result again keeps everything unchanged
pub record Unchanged (s : Bytes) : Type 0 where
  pub none_before : leading (salvaged s) ≡ 0
  pub same_obus : kept (salvaged s) ≡ kept s
  pub same_bytes : salvaged (salvaged s) ≡ salvaged s
  pub no_mark : all (λ n. eqb n 0) (marks (salvaged s)) ≡ true

abbrev pub KeptAgain : Type 0
KeptAgain = (s : Bytes) → Unchanged s
