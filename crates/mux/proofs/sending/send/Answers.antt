-- The tries are those of the definition, in its order; where none refuses, the tables stand at the front and the units behind them.
use native.Mathlib.Omega.{arith}
use mathlib.Core.Path.{◌≡◌, sym, ap, ◌∙◌}
use Rattle.mux_rules.proofs.Reaching.{allowed}
use Rattle.mux_rules.specs.Packets.{channel_after}
use Rattle.mux_rules.specs.Sending.{channel_wrong}
use Rattle.mux.proofs.Ending.{units_room, all_written, valid_formed, valid_units, valid_packets, sends_wrong, sends_many}
use Rattle.mux.proofs.Ending.{sends_short, sends_sent}
use mathlib.Core.Bool.{false, true≢false}
use Rattle.mux.proofs.sending.send.Goals.{Else-channel_wrong}
use Rattle.mux.proofs.sending.send.Goals as goal

-- 52 does not apply
allows : (c : Else-channel_wrong) → let a = c.args in channel_wrong a.channel.now a.video.now ≡ false
allows c = sym c.channel_wrong.ensures ∙ c.if-channel_wrong.false

pub returns-then-channel_wrong : goal.returns-then-channel_wrong
returns-then-channel_wrong c = λ units q.
    let a = c.args in
    sends_wrong q a.channel.now a.video.now a.out.now (sym c.channel_wrong.ensures ∙ c.if-channel_wrong.true) _
    c.at.ensures

pub returns-then-not-well_formed : goal.returns-then-not-well_formed
returns-then-not-well_formed c =
    λ units q. absurd (true≢false (sym (c.well_formed-2.ensures ∙ valid_formed q) ∙ c.if-not-well_formed.true))

pub returns-then-packets-gt-MOST_PACKETS : goal.returns-then-packets-gt-MOST_PACKETS
returns-then-packets-gt-MOST_PACKETS c = λ units q.
    let a = c.args in
    let n = c.queue_packets-units.ensures in
    sends_many q a.channel.now a.video.now a.out.now (allows (goal.at.returns-then-packets-gt-MOST_PACKETS c).Else-channel_wrong)
    (omega (arith, n.0, valid_packets q, c.if-packets-gt-MOST_PACKETS.true)) _ c.at-then-packets-gt-MOST_PACKETS.ensures

pub returns-then-out-bytes : goal.returns-then-out-bytes
returns-then-out-bytes c = λ units q.
    let a = c.args in
    let n = c.queue_packets-units.ensures in
    let v = valid_packets q in
    sends_short q a.channel.now a.video.now a.out.now (allows (goal.at.returns-then-out-bytes c).Else-channel_wrong)
    (omega (arith, n.0, v, c.if-packets-gt-MOST_PACKETS.false))
    (omega (arith, n.0, v, c.if-out-bytes.true)) _ c.at-then-out-bytes.ensures

pub invariant_of-stream : goal.invariant_of-stream
invariant_of-stream c =
    let a = c.args in
    let ok = allowed a.channel.now a.video.now (allows (goal.at.invariant_of-stream c).Else-channel_wrong) in
    record { in_range = (omega (arith, ok.pid_high), ok.av1_low) }

pub put_units-requires : goal.put_units-requires
put_units-requires c =
    let a = c.args in
    let allowing = allows (goal.at.put_units-requires c).Else-channel_wrong in
    let room = c.if-out-bytes.false in (
      sym c.well_formed-2.ensures ∙ c.if-not-well_formed.false,
      units_room a.channel.now a.video.now allowing a.out.now _ c.put_tables.ensures (omega (arith, room)) _
          (omega (arith, c.queue_packets-units.ensures.0, room)),
    )

pub advance-requires : goal.advance-requires
advance-requires c =
    let a = c.args in
    let ok = allowed a.channel.now a.video.now (allows (goal.at.advance-requires c).Else-channel_wrong) in
    (ok.pat_low, ok.map_counter, ok.av1_low, c.queue_packets-units.ensures.1)

pub returns : goal.returns
returns c = λ units q.
    let a = c.args in
    let n = c.queue_packets-units.ensures in
    let v = valid_packets q in
    let fits = c.if-out-bytes.false in
    sends_sent q a.channel.now a.video.now a.out.now (allows (goal.at.returns c).Else-channel_wrong)
    (omega (arith, n.0, v, c.if-packets-gt-MOST_PACKETS.false))
    (omega (arith, n.0, v, fits)) _ _ _ _ _ (omega (arith, n.0, v)) (omega (arith, n.0, v))
    (c.advance.ensures ∙ ap (channel_after a.channel.now) (n.0 ∙ v)) c.clear.ensures
    (all_written a.channel.now a.video.now (allows (goal.at.returns c).Else-channel_wrong) a.out.now _ c.put_tables.ensures
    (omega (arith, fits)) units _ _
    (valid_units q) (omega (arith, n.0, v, fits)) c.put_units.ensures)
