-- Start codes and payloads of any string. The words of document 01, "Payload bytes" and "One access unit", stand over
-- each definition. Assumes nothing.
use Rattle.std.specs.Prelude.{ℕ, suc, ◌+◌, Bool, true, false, ◌&&◌, List, [], ◌∷◌, eqb, length, drop}
use Rattle.lists.specs.Lists.{Bytes}

-- three bytes are a start code
abbrev pub start_code3 : ℕ → ℕ → ℕ → Bool
start_code3 a b c = eqb a 0 && eqb b 0 && eqb c 1

-- the string begins with 00 00 01
unfoldable pub at_start_code : Bytes → Bool
at_start_code [] = false
at_start_code (a ∷ []) = false
at_start_code (a ∷ b ∷ []) = false
at_start_code (a ∷ b ∷ c ∷ s) = start_code3 a b c

-- the places of 00 00 01, the first byte's place being `place`
unfoldable pub start_codes_from : ℕ → Bytes → List ℕ
start_codes_from place [] = []
start_codes_from place (a ∷ s) =
    elim (at_start_code (a ∷ s)) [
      | true ↦ place ∷ start_codes_from (suc place) s
      | false ↦ start_codes_from (suc place)
          s
    ]

abbrev pub start_codes : Bytes → List ℕ
start_codes s = start_codes_from 0 s

-- what comes before the first start code, and the payloads. The term tsOBU: "A tsOBU is 00 00 01 and then its payload";
-- the term payload: "exactly the bytes after the start code"
pub record Split : Type 0 where
  pub before : Bytes
  pub payloads : List Bytes

-- a start code: what comes before the next one is a payload
abbrev pub opened : Split → Split
opened r = record { before = []; payloads = r.before ∷ r.payloads }

-- a byte that begins no start code. "Zeros before a start code belong to the payload."
abbrev pub byte_before : ℕ → Split → Split
byte_before a r = record { before = a ∷ r.before; payloads = r.payloads }

-- "Each later 00 00 01 begins the next tsOBU; a payload runs to the next start code or the end."
unfoldable pub split : Bytes → Split
split [] = record { before = []; payloads = [] }
split (a ∷ []) = record { before = a ∷ []; payloads = [] }
split (a ∷ b ∷ []) = record { before = a ∷ b ∷ []; payloads = [] }
split (a ∷ b ∷ c ∷ s) = elim (start_code3 a b c) [ true ↦ opened (split s) | false ↦ byte_before a (split (b ∷ c ∷ s)) ]

abbrev pub payloads : Bytes → List Bytes
payloads s = (split s).payloads

-- where the first start code from a place on stands: behind what comes before it from there on
abbrev pub code_from : Bytes → ℕ → ℕ
code_from s from = from + length (split (drop from s)).before
