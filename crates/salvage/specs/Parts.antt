-- What the promises of private functions cite; no public promise does. Assumes nothing.
use Rattle.std.specs.Prelude.{ℕ, ◌+◌, ◌-◌, ◌≤◌, ◌<◌, Bool, true, false, not, ◌&&◌, ◌≡◌, eqb, ltb, length, take, Option}
use Rattle.std.specs.Prelude.{Some, None, set}
use mathlib.Core.List.{List, [], ◌∷◌, map, flatten}
use Rattle.lists.specs.Lists.{Bytes, pick, those}
use Rattle.emulation.specs.Payload.{unescape, escape}
use Rattle.obu.specs.Order.{Kind, kind_of, order_refusal}
use Rattle.obu.specs.Table.{kind_meant}
use Rattle.obu.specs.declared.ordering.Kind as code_kind
use Rattle.unit.specs.Unit.{most_obus, most_obu_bytes, sum}
use Rattle.tsobu.specs.StartCodes.{payloads}
use Rattle.refusal.specs.Verdict.{passes}
use Rattle.salvage.specs.Salvage.{keeps, closes, mark}
use Rattle.salvage.specs.declared.One.{One}
use Rattle.salvage.specs.declared.Kept.{Kept}
use Rattle.salvage.specs.declared.Measured.{Measured}

-- ---- one tsOBU
-- the bytes that it gives to the result
unfoldable pub form : Bytes → Bytes
form payload = pick (keeps payload) (0 ∷ 0 ∷ 1 ∷ escape (unescape payload)) []

abbrev pub forms : List Bytes → Bytes
forms ps = flatten (map form ps)

-- the OBUs that are kept of these tsOBUs, their kinds, and their bytes together
abbrev pub kept_of : List Bytes → List Bytes
kept_of ps = map unescape (those keeps ps)

abbrev pub kinds_of : List Bytes → List Kind
kinds_of obus = map kind_of obus

abbrev pub bytes_of : List Bytes → ℕ
bytes_of obus = sum (map length obus)

-- one that is dropped with this number
abbrev pub dropped_one : ℕ → One
dropped_one number = record { mark = number; bytes = 0; kept = None }

-- one that is kept, without its closing 03; its OBU has this kind and so many bytes
unfoldable pub kept_one : Bytes → code_kind.Kind → ℕ → One
kept_one payload kind size =
    pick (closes payload) (record {
      mark = 1;
      bytes = length payload + 2;
      kept = Some
          (record { kind = kind; size = size });
    })
    (record { mark = 0; bytes = length payload + 3; kept = Some (record { kind = kind; size = size }) })

-- how many OBUs are kept of one, their kinds and their bytes
abbrev pub kept_count : Option Kept → ℕ
kept_count None = 0
kept_count (Some k) = 1

abbrev pub kept_kinds : Option Kept → List Kind
kept_kinds None = []
kept_kinds (Some k) = kind_meant k.kind ∷ []

abbrev pub kept_bytes : Option Kept → ℕ
kept_bytes None = 0
kept_bytes (Some k) = k.size

-- a tsOBU's mark, how many bytes it gives, and of its OBU, where that is kept, its kind and its bytes
pub record OneOf (payload : Bytes) (one : One) : Type 0 where
  pub mark : one.mark ≡ mark payload
  pub bytes : one.bytes ≡ length (form payload)
  -- it is nothing, or a start code and the first bytes of the payload
  pub short : one.bytes ≤ 3 + length payload
  pub front : (one.bytes ≡ 0 → ⊥) → (3 ≤ one.bytes) × (form payload ≡ 0 ∷ 0 ∷ 1 ∷ take (one.bytes - 3) payload)
  pub kept : kept_count one.kept ≡ length (kept_of (payload ∷ []))
  pub kind : kept_kinds one.kept ≡ kinds_of (kept_of (payload ∷ []))
  pub size : kept_bytes one.kept ≡ bytes_of (kept_of (payload ∷ []))
  pub within : kept_bytes one.kept ≤ length payload

-- ---- the tsOBUs of a string
-- what is measured, with the OBU of a tsOBU, where that is kept
abbrev pub with_kept : Option Kept → Measured → Measured
with_kept None m = m
with_kept (Some k) m =
    record {
      count = m.count;
      bytes = m.bytes;
      marks = m.marks;
      kept = m.kept + 1;
      kinds = set m.kinds m.kept k.kind;
      size = m.size + k.size;
    }

-- what is measured, with a tsOBU more
abbrev pub added : Measured → One → Measured
added m one =
    with_kept one.kept
    (record {
      count = m.count + 1;
      bytes = m.bytes + one.bytes;
      marks = set m.marks m.count one.mark;
      kept = m.kept;
      kinds = m.kinds;
      size = m.size;
    })

-- there is room for a tsOBU
pub record HasRoom (m : Measured) (one : One) : Type 0 where
  pub mark : m.count < length m.marks
  pub kind : m.kept < length m.kinds
  pub few : m.count ≤ 64
  pub fewer : m.kept ≤ 64
  pub bytes : m.bytes + one.bytes < 18446744073709551616
  pub size : m.size + kept_bytes one.kept < 18446744073709551616

pub record MeasuredOf (body : Bytes) (m : Measured) : Type 0 where
  pub long : length m.marks ≡ 64
  pub long_kinds : length m.kinds ≡ 64
  pub few : false ≡ ltb most_obus (length (payloads body))
  pub count : m.count ≡ length (payloads body)
  pub bytes : m.bytes ≡ length (forms (payloads body))
  pub marks : take m.count m.marks ≡ map mark (payloads body)
  pub kept : m.kept ≡ length (kept_of (payloads body))
  pub kinds : map kind_meant (take m.kept m.kinds) ≡ kinds_of (kept_of (payloads body))
  pub size : m.size ≡ bytes_of (kept_of (payloads body))

-- what measuring the string answers: there are more than 64 tsOBUs, or all are measured
abbrev pub Measures : Bytes → Option Measured → Type 0
Measures body None = true ≡ ltb most_obus (length (payloads body))
Measures body (Some m) = MeasuredOf body m

-- all tsOBUs of the string were measured, and there is room for the result and for the marks
pub record Ready (body : Bytes) (m : Measured) (out marks : Bytes) : Type 0 where
  pub measured : MeasuredOf body m
  pub bytes : m.bytes ≤ length out
  pub count : m.count ≤ length marks

-- the writer's string of so many OBUs, each of which passes, of so many bytes together and of these kinds is
-- accepted by reading (that this is so: proofs/Accepting.antt)
unfoldable pub acceptable : ℕ → ℕ → List Kind → Bool
acceptable count bytes kinds =
    not (eqb count 0) && not (ltb most_obu_bytes bytes) && passes (order_refusal kinds)
