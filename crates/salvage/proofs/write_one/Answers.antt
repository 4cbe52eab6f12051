-- A start code stands at 0, 1, 2; the payload's first bytes, which have room from 3 on, stand there.
use Rattle.salvage.proofs.Forms.{code_written}
use Rattle.salvage.proofs.write_one.Goals as goal

pub returns : goal.returns
returns c =
    let one = c.judge_one-one.ensures in
    record {
      value = one.bytes;
      out_after = code_written c.args.payload.now c.args.out.now _ _ one c.if-bytes-eq0.false c.requires c.copy.ensures;
    }
