-- The next bit is that of the byte, or the end is passed.
use Rattle.std.proofs.Common.{refl, arith}
use Rattle.sequence.proofs.Places.{at_end, in_byte, last_bit}
use Rattle.sequence.proofs.reader.BitReader.bit.Goals as goal

pub returns-then-self-2-clause-reads : goal.returns-then-self-2-clause-reads
returns-then-self-2-clause-reads c = (at_end _ _ refl c.if-self-2.true refl).0

pub returns-then-self-2-clause-falls : goal.returns-then-self-2-clause-falls
returns-then-self-2-clause-falls c = (at_end _ _ refl c.if-self-2.true refl).2

pub returns-then-self-lt7-clause-reads : goal.returns-then-self-lt7-clause-reads
returns-then-self-lt7-clause-reads c = (in_byte _ _ refl c.if-self.false c.if-self.false c.if-self-2.false c.if-self-lt7.true refl refl).0

pub returns-then-self-lt7-clause-falls : goal.returns-then-self-lt7-clause-falls
returns-then-self-lt7-clause-falls c = (in_byte _ _ refl c.if-self.false c.if-self.false c.if-self-2.false c.if-self-lt7.true refl refl).2

pub returns-clause-reads : goal.returns-clause-reads
returns-clause-reads c =
    (last_bit c.args.self.now _ refl c.if-self.false c.if-self.false c.next-self.ensures (omega (arith, c.args.self.now.in_byte)) refl).0

pub returns-clause-falls : goal.returns-clause-falls
returns-clause-falls c =
    (last_bit c.args.self.now _ refl c.if-self.false c.if-self.false c.next-self.ensures (omega (arith, c.args.self.now.in_byte)) refl).2
