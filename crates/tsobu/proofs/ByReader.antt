-- The walk by a reader: a fresh reader is valid, every step keeps that, and a step that refuses leaves the reader where it is. Its steps
-- are those of the walk by places, so what that walk hands out and where it refuses holds of the reader. Assumes nothing.
use Prim.Native.Nat.{ℕ}
use mathlib.Core.Path.{◌≡◌, refl, sym, ap, subst, ◌∙◌}
use mathlib.Core.List.{List, ◌∷◌}
use lib.ListN.{length, take, drop}
use denote.Ref.{Bor}
use Rattle.lists.specs.Lists.{Bytes}
use Rattle.refusal.specs.Verdict.{Verdict, passed, refused}
use Rattle.tsobu.specs.StartCodes.{payloads}
use Rattle.tsobu.specs.Walk.{Found, payload, end, stepping, place_after_step, handed_out, fresh, step_of, handed_by, behind, ValidWalk}
use Rattle.tsobu.specs.Walk.{HandsOut, none, first, WalkSays, ReaderHandsOut, reader_none, reader_first, ReaderSays, ReaderWalks}
use Rattle.tsobu.specs.declared.reader.Walk.{Walk}
use Rattle.tsobu.specs.declared.walking.Part.{Part}
use Rattle.tsobu.proofs.Steps.{start_valid, step_valid}
use Rattle.tsobu.proofs.Walks.{walk_payloads, refused_place}

-- ---- validity
pub fresh_valid : (unit : Bor Bytes) → ValidWalk (fresh unit)
fresh_valid unit = start_valid unit.now

pub behind_valid : (walk : Walk) → ValidWalk walk → ValidWalk (behind walk)
behind_valid walk v = step_valid walk.src.now walk.at v

-- ---- where a reader stands behind its step
stands : (walk : Walk) (found : Verdict Found) → step_of walk ≡ found
    → behind walk ≡ record { src = walk.src; at = place_after_step walk.at found }
stands walk found e = ap (λ (v : Verdict Found). record { src = walk.src; at = place_after_step walk.at v }) e

-- "and stays at a step that refused"
pub refused_stays : (walk : Walk) (number place : ℕ) → step_of walk ≡ refused number place → behind walk ≡ walk
refused_stays walk number place e = stands walk (refused number place) e

pub end_stays : (walk : Walk) → step_of walk ≡ passed end → behind walk ≡ walk
end_stays walk e = stands walk (passed end) e

-- ---- its steps are those by places
next_is : (walk : Walk) (p : Part) → step_of walk ≡ passed (payload p) → (behind walk).at ≡ p.next
next_is walk p e = ap (λ (w : Walk). w.at) (stands walk (passed (payload p)) e)

part_is : (walk : Walk) (p : Part) → step_of walk ≡ passed (payload p) → handed_by walk ≡ take p.bytes (drop p.start walk.src.now)
part_is walk p e = ap (handed_out walk.src.now) e

-- what a reader's steps hand out, the steps from its place do
to_places : {walk walk' : Walk} {ps : List Bytes} → ReaderHandsOut walk ps walk'
    → (walk'.src ≡ walk.src) × HandsOut walk.src.now walk.at ps walk'.at
to_places reader_none = (refl, none)
to_places {walk} {walk'} (reader_first {ps = ps} p e w) =
    let r = to_places w in
    let on = subst (λ (n : ℕ). HandsOut walk.src.now n ps walk'.at) (next_is walk p e) r.1 in
    (r.0, subst (λ (x : Bytes). HandsOut walk.src.now walk.at (x ∷ ps) walk'.at) (sym (part_is walk p e)) (first p e on))

places_say : (walk : Walk) (ps : List Bytes) (says : Verdict Found) → ReaderSays walk ps says
    → WalkSays walk.src.now walk.at ps says
places_say walk ps says (walk', w, e) =
    let r = to_places w in
    (walk'.at, r.1, ap (λ (unit : Bor Bytes). stepping unit.now walk'.at) (sym r.0) ∙ e)

-- and the other way
abbrev reader_at : Bor Bytes → ℕ → Walk
reader_at unit at = record { src = unit; at = at }

to_reader : (unit : Bor Bytes) {at at' : ℕ} {ps : List Bytes} → HandsOut unit.now at ps at'
    → ReaderHandsOut (reader_at unit at) ps (reader_at unit at')
to_reader unit none = reader_none
to_reader unit {at} {at'} (first {ps = ps} p e w) =
    let walk = reader_at unit at in
    let walk' = reader_at unit at' in
    let on = subst (λ (n : ℕ). ReaderHandsOut (reader_at unit n) ps walk') (sym (next_is walk p e)) (to_reader unit w) in
    subst (λ (x : Bytes). ReaderHandsOut walk (x ∷ ps) walk') (part_is walk p e) (reader_first p e on)

pub reader_says : (unit : Bor Bytes) (ps : List Bytes) (says : Verdict Found) → WalkSays unit.now 0 ps says
    → ReaderSays (fresh unit) ps says
reader_says unit ps says (at', w, e) = (reader_at unit at', to_reader unit w, e)

-- ---- whole walks
-- the steps of a reader to the end hand out exactly the payloads from where it stands on
pub reader_payloads : (walk : Walk) (ps : List Bytes) → ReaderWalks walk ps → ps ≡ payloads (drop walk.at walk.src.now)
reader_payloads walk ps w = walk_payloads walk.src.now walk.at ps (places_say walk ps (passed end) w)

-- a step that refuses after k payloads have been handed out has place k
pub reader_refused_place : (unit : Bor Bytes) (ps : List Bytes) (number place : ℕ) → ReaderSays (fresh unit) ps (refused number place)
    → place ≡ length ps
reader_refused_place unit ps number place w = refused_place unit.now ps number place (places_say (fresh unit) ps (refused number place) w)
