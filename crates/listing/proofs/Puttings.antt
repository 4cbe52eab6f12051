-- The line of an OBU, from the verdict on its payload. Assumes nothing.
use Prim.Native.Nat.{ℕ}
use mathlib.Core.Path.{◌≡◌, sym, ap, ◌∙◌}
use mathlib.Core.List.{[]}
use lib.ListN.{length}
use Rattle.lists.specs.Lists.{Bytes}
use Rattle.refusal.specs.Verdict.{passed, refused}
use Rattle.emulation.specs.Payload.{unescape}
use Rattle.obu.specs.Header.{size_bytes}
use Rattle.tsobu.specs.TsObu.{tsobu_figures}
use Rattle.tsobu.specs.declared.judging.Figures.{Figures}
use Rattle.listing.specs.Listing.{obu_line, line_said, payload_line}

pub payload_line_lem : (index : ℕ) (payload : Bytes) (f : Figures) {size width : ℕ} → tsobu_figures payload ≡ passed f
    → size ≡ length (unescape payload) → width ≡ size_bytes f.header.size
    → obu_line index f.header.obu_type size f.dropped width ≡ payload_line index payload
payload_line_lem index payload f e s w =
    (λ i. obu_line index f.header.obu_type (s i) f.dropped (w i)) ∙ sym (ap (line_said index payload) e)

pub no_line : (index : ℕ) (payload : Bytes) (number place : ℕ) → tsobu_figures payload ≡ refused number place
    → [] ≡ payload_line index payload
no_line index payload number place e = sym (ap (line_said index payload) e)
