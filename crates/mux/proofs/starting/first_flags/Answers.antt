-- random_access_indicator, and elementary_stream_priority_indicator where the frame begins in the packet.
use Prim.Native.Nat.{◌+◌, ◌*◌}
use mathlib.Core.Bool.{Bool}
use mathlib.Core.Path.{refl, sym, ap, ◌∙◌}
use Rattle.lists.specs.Lists.{pick}
use Rattle.lists.proofs.Picks.{by_true, by_false}
use Rattle.mux.specs.Parts.{flags_of}
use Rattle.packet.specs.Writing.{flag}
use Rattle.mux.proofs.starting.first_flags.Goals as goal

pub returns-then-frame_begins : goal.returns-then-frame_begins
unfolding flags_of flag pick
returns-then-frame_begins c =
    by_true _ c.if-marked.true
    (ap (λ (x : Bool). 64 + pick x 1 0 * 32) (sym (sym c.frame_begins.ensures ∙ c.if-frame_begins.true)))

pub returns-then-marked : goal.returns-then-marked
unfolding flags_of flag pick
returns-then-marked c =
    by_true _ c.if-marked.true
    (ap (λ (x : Bool). 64 + pick x 1 0 * 32) (sym (sym c.frame_begins.ensures ∙ c.if-frame_begins.false)))

pub returns : goal.returns
unfolding flags_of
returns c = by_false _ c.if-marked.false refl
