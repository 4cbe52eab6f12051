-- What a caller may rely on where `reading` found a header: its fields are the definition's (`read_header`), the bytes after it are
-- `pes_data` (`read_data`), and times are below 2 ^ 33 (`pts_width`, `dts_width`). A refusal is 29 at place 0 (`reading_refused`). Assumes
-- nothing.
use Prim.Native.Nat.{ℕ, ◌<◌, ◌^◌}
use mathlib.Core.Bool.{Bool, true, false}
use mathlib.Core.Path.{◌≡◌, refl, sym, ap, ◌∙◌}
use native.Mathlib.Omega.{arith}
use lib.ListN.{drop}
use Rattle.lists.specs.Lists.{Bytes, pick}
use Rattle.lists.specs.Bytes.{byte}
use Rattle.lists.proofs.Tests.{case}
use Rattle.refusal.specs.Verdict.{passed, refused, given}
use Rattle.refusal.proofs.Verdicts.{refuse, pass_on, never, passed_after, passed_same}
use Rattle.ticks.specs.declared.Ticks90.{Ticks90}
use Rattle.pes.specs.declared.header.Header.{Header}
use Rattle.pes.specs.Pes.{pes_data, pts_and_dts}
use Rattle.pes.specs.Pes.{header_wrong, pts, dts, header_of, reading}

-- ---- the width of a time
pick_width : (t : Bool) (x y : Ticks90) → x.0 < 2 ^ 33 → y.0 < 2 ^ 33 → (pick t x y).0 < 2 ^ 33
unfolding pick
pick_width true x y h i = h
pick_width false x y h i = i

-- ---- a refusal
pub reading_refused : (s : Bytes) (number place : ℕ) → reading s ≡ refused number place → (number ≡ 29) × (place ≡ 0)
unfolding reading
reading_refused s number place e =
    case (header_wrong s) (λ t. let h : refused 29 0 ≡ refused number place = refuse 29 (passed (header_of s)) t ∙ e in (cc, (cc)))
    (λ t. never (sym (pass_on 29 t refl ∙ e)))

-- ---- a header
module _ (s : Bytes) (h : Header) (e : reading s ≡ passed h) where
  tried : (given 29 (header_wrong s) ≡ passed tt) × (passed (header_of s) ≡ passed h)
  unfolding reading
  tried = passed_after (given 29 (header_wrong s)) (passed (header_of s)) h e

  pub read_header : h ≡ header_of s
  read_header = sym (passed_same (header_of s) h tried.1)

  pub read_data : drop h.size s ≡ pes_data s
  read_data = ap (λ (x : Header). drop x.size s) read_header

-- ---- the times, of a string of bytes
module _ (s : Bytes) (bytes : (i : ℕ) → byte s i < 256) where
  pub pts_width : (pts s).0 < 2 ^ 33
  pts_width = omega (arith, bytes 10, bytes 12)

  pub dts_width : (dts s).0 < 2 ^ 33
  unfolding dts
  dts_width = pick_width (pts_and_dts s) _ _ (omega (arith, bytes 15, bytes 17)) (omega (arith, bytes 10, bytes 12))
