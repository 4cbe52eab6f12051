use native.Mathlib.Omega.{arith}
use mathlib.Core.Path.{refl}
use lib.ListN.{drop_of_length-le}
use Rattle.lists.proofs.Writing.{put, done}
use Rattle.queue.proofs.Moving.{moving, moving_length, one_moved}
use Rattle.queue.proofs.copying.move_down.Goals as goal

pub loop-i-preserved : goal.loop-i-preserved
loop-i-preserved c =
    let args = c.args in
    let n = moving_length args.store.now args.from args.n (omega arith) in
    (omega arith, put (one_moved args.from args.n c.loop-i.i _ (omega arith) (omega arith) refl c.loop-i.invariant.1) (omega arith))

pub returns : goal.returns
returns c =
    let args = c.args in
    let n = moving_length args.store.now args.from args.n (omega arith) in
    done (rw (drop_of_length-le (moving args.store.now args.from args.n) {i = c.loop-i.i} (omega arith)) at c.loop-i.invariant.1)
