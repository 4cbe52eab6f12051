-- The entries in the first slots of an array: their PIDs, and one more entry. Assumes nothing.
use Prim.Native.Nat.{ℕ, ◌<◌}
use mathlib.Core.Bool.{Bool, ◌||◌}
use Rattle.std.specs.List.{list_any}
use mathlib.Core.Path.{◌≡◌, refl, ap, ◌∙◌}
use mathlib.Core.List.{List, [], ◌∷◌, ◌++◌, map}
use native.Mathlib.Omega.{arith}
use lib.Dec.{eqb}
use lib.ListN.{length, take, drop, set}
use Rattle.lists.specs.Lists.{any}
use Rattle.pmt.specs.Pmt.{MapEntry, pids}
use Rattle.pmt.specs.Answer.{listed, no_entries, slots}
use Rattle.pmt.specs.Parts.{filled, pids_in}
use Rattle.pmt.specs.declared.entries.Entry.{Entry}

-- an entry of which the PID is looked for, by std's word
pub among : (pid : ℕ) (l : List Entry) → any (eqb pid) (map (λ (e : Entry). e.pid) l) ≡ list_any (λ e. eqb pid e.pid) l
unfolding any
among pid [] = refl
among pid (e ∷ l) = ap (λ (t : Bool). eqb pid e.pid || t) (among pid l)

-- ---- entries in the first slots
taken : (es : List MapEntry) (more : List Entry) → take (length es) (map listed es ++ more) ≡ map listed es
taken [] more = refl
taken (e ∷ es) more = ap (λ (l : List Entry). listed e ∷ l) (taken es more)

pids_listed : (es : List MapEntry) → map (λ (e : Entry). e.pid) (map listed es) ≡ pids es
pids_listed [] = refl
pids_listed (e ∷ es) = ap (λ (l : List ℕ). e.pid ∷ l) (pids_listed es)

-- their PIDs
pub pids_in_slots : (es : List MapEntry) → pids_in (filled es) ≡ pids es
unfolding slots
pids_in_slots es = ap (map (λ (e : Entry). e.pid)) (taken es (drop (length es) no_entries)) ∙ pids_listed es

-- one more
set_next : (es : List MapEntry) (e : MapEntry) (all : List Entry) → length es < length all
    → set (map listed es ++ drop (length es) all) (length es) (listed e) ≡ map listed (es ++ (e ∷ [])) ++ drop (length (es ++ (e ∷ []))) all
set_next [] e [] h = absurd (omega arith)
set_next [] e (a ∷ all) h = refl
set_next (x ∷ es) e [] h = absurd (omega arith)
set_next (x ∷ es) e (a ∷ all) h = ap (λ (l : List Entry). listed x ∷ l) (set_next es e all (omega arith))

pub slots_set : (es : List MapEntry) (e : MapEntry) → length es < 12 → set (slots es) (length es) (listed e) ≡ slots (es ++ (e ∷ []))
unfolding slots
slots_set es e h = set_next es e no_entries h
