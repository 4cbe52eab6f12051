use native.Mathlib.Omega.{arith}
use native.Mathlib.Numerals.{add-one}
use Prim.Native.Nat.{ℕ, ◌+◌}
use mathlib.Core.Path.{◌≡◌, ap, ◌∙◌}
use mathlib.Core.List.{◌++◌}
use lib.ListN.{drop, take, length-set}
use lib.Seq.{take-take, paste, paste-suc}
use Rattle.lists.specs.Lists.{Bytes}
use Rattle.emulation.specs.Blocks.{block}
use Rattle.emulation.proofs.writing.write_block.Goals as goal

pub loop-j-preserved : goal.loop-j-preserved
loop-j-preserved c =
    let o = c.args.out.now in
    let n = c.args.n in
    let bytes = c.load_block-bytes.result in (
      c.loop-j.invariant.0,
      length-set c.loop-j.out (n + c.loop-j.j) _ ∙ c.loop-j.invariant.1,
      rw (c.loop-j.invariant.2, add-one) (paste-suc o n bytes c.loop-j.j 0 (omega arith) (omega arith)),
    )

pub returns : goal.returns
returns c =
    let o = c.args.out.now in
    let n = c.args.n in
    let w = drop c.args.i c.args.s.now in
    let e : c.loop-j.j ≡ block = omega arith in
    c.loop-j.invariant.2 ∙ ap (λ (k : ℕ). paste o n c.load_block-bytes.result k) e ∙ ap (λ (l : Bytes). paste o n l block)
    c.load_block-bytes.ensures
    ∙ ap (λ (l : Bytes). take n o ++ l ++ drop (n + block) o) (take-take block block w (omega arith))
