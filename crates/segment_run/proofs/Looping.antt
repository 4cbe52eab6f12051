-- The loop over the packets: k packets have passed, and the run of the rest from here is the whole run (`Running`). Assumes nothing.
use Rattle.std.specs.Prelude.{Ok, Err}
use Prim.Native.Nat.{ℕ, suc, ◌+◌, ◌/◌, ◌≤◌, ◌<◌}
use mathlib.Core.Path.{◌≡◌, refl, sym, ap, subst, ◌∙◌}
use mathlib.Core.List.{List, [], ◌∷◌}
use native.Mathlib.Numerals.{add-one}
use lib.ListN.{length, drop}
use Rattle.lists.specs.Lists.{Bytes, zeros}
use Rattle.refusal.specs.Verdict.{Verdict, passed, ◌>>=◌}
use Rattle.refusal.specs.Number.{refused_by}
use Rattle.refusal.specs.declared.Refused.{Refused}
use Rattle.refusal.proofs.Verdicts.{never, passed_same}
use Rattle.descriptor.specs.Naming.{edition_says}
use Rattle.descriptor.specs.declared.edition.Edition.{Edition}
use Rattle.packet.specs.Header.{packet_length, packets, packet_at, pid}
use Rattle.packet.specs.declared.streams.Streams.{Streams}
use Rattle.packet.specs.Counter.{named}
use Rattle.packet.specs.Streams.{streams_of}
use Rattle.packet.proofs.Keeping.{fresh_numbers_lem}
use Rattle.segment_rules.specs.declared.Totals.{Totals}
use Rattle.segment_rules.specs.State as state
use Rattle.segment_rules.specs.State.{fresh, none_yet, counting, packet_count, kind_of}
use Rattle.segment_rules.specs.Rules.{packet_rules}
use Rattle.segment_rules.specs.Check.{Progress, Outputs, rooms_of, holding_firsts, cleared, start, step, run}
use Rattle.segment_rules.proofs.Growing.{packet_grows}
use Rattle.segment_rules.proofs.Running.{counting_one}
use Rattle.plain.proofs.Places as places
use Rattle.tables.specs.Tables.{Refines, tables_kept, kind_says}
use Rattle.tables.proofs.Refining.{never_passed, refused_refines, passed_refines}
use Rattle.units.specs.Extraction.{first_noted}
use Rattle.units.proofs.Firsts.{none_held, notes}
use Rattle.extraction.specs.declared.packets.State.{State}
use Rattle.extraction.specs.Packets.{Stepped, StateKept, fresh_state, fresh_streams, PacketRefines}
use Rattle.extraction.proofs.Stepping.{start_kept}
use Rattle.segment_run.specs.declared.running.RunResult.{RunResult}
use Rattle.segment_run.specs.Run.{Runs, fresh_result}

pub record Running (edition : Edition) (segment : Bytes) (before now : Outputs) (old firsts : List ℕ) (c : State) (streams : Streams)
    (totals : Totals) (k : ℕ) : Type 0 where
  pub state : state.State
  pub stands : StateKept edition segment before now c streams state
  pub noted : firsts ≡ holding_firsts (state).extraction.units old
  pub counts : packet_count totals ≡ k
  pub rest : run (edition_says edition) (rooms_of before) start (packets segment)
      ≡ run (edition_says edition) (rooms_of before) (record { index = k; state = state; totals = totals }) (drop k (packets segment))

running_start : (edition : Edition) (segment : Bytes) (before : Outputs) (old : List ℕ)
    → Running edition segment before before old old (fresh_state edition) fresh_streams none_yet 0
running_start edition segment before old =
    record {
      state = fresh;
      stands = start_kept edition segment before;
      noted = none_held old;
      counts = refl;
      rest = refl;
    }

pub begins : (edition : Edition) (segment : Bytes) (before : Outputs) (old : List ℕ) (c : State) (streams : Streams) (n : Totals)
    → c ≡ fresh_state edition → streams ≡ streams_of (named 0 ∷ []) → n ≡ none_yet
    → Running edition segment before before old old c streams n 0
begins edition segment before old c streams n f g h = rw (f, g, fresh_numbers_lem, h) (running_start edition segment before old)

module _ {edition : Edition} {segment : Bytes} {before now : Outputs} {old firsts : List ℕ} {c : State} {streams : Streams}
    {totals : Totals} {k : ℕ} (inv : Running edition segment before now old firsts c streams totals k)
    (h : k < length segment / packet_length) where
  abbrev here : state.State
  here = inv.state

  abbrev kind : state.Kind
  kind = kind_of here.tables (pid (packet_at segment k))

  abbrev stepped : Verdict state.State
  stepped = packet_rules (edition_says edition) (rooms_of before) k (packet_at segment k) kind here

  abbrev then_on : Verdict state.State → Verdict Progress
  then_on v =
      (v >>= λ st. passed (record { index = k + 1; state = st; totals = counting kind totals }))
      >>= λ g. run (edition_says edition) (rooms_of before) g (drop (suc k) (packets segment))

  -- the run from packet k on
  next_packet : run (edition_says edition) (rooms_of before) start (packets segment) ≡ then_on stepped
  unfolding run step
  next_packet =
      inv.rest
      ∙ ap (run (edition_says edition) (rooms_of before) (record { index = k; state = here; totals = totals }))
      (places.next_packet segment k h)

  -- the step of this packet, in the edition that the tables follow
  module _ (r : Stepped) (streams' : Streams) (after : Outputs)
      (turn : PacketRefines c.tables.edition segment k c streams now r streams' after) where
    turned : Refines r.outcome stepped (λ st'. StateKept edition segment before after r.state streams' st' ×
        (kind_says r.kind ≡ kind))
    turned =
        subst (λ (x : Edition). PacketRefines x segment k c streams now r streams' after) inv.stands.follows turn
        before here inv.stands

    pub goes_on : r.outcome ≡ (Ok tt) → (n : Totals) → n ≡ counting (kind_says r.kind) totals
        → (firsts' : List ℕ) → firsts' ≡ first_noted c.extraction r.state.extraction firsts
        → Running edition segment before after old firsts' r.state streams' n (k + 1)
    unfolding ◌>>=◌
    goes_on w n m firsts' note =
        let t = passed_refines stepped _ r.outcome w turned in
        let all : n ≡ counting kind totals = m ∙ ap (λ (x : state.Kind). counting x totals) t.2.1 in
        record {
          state = t.0;
          stands = t.2.0;
          noted =
              note
              ∙ notes inv.stands.extraction t.2.0.extraction old firsts inv.noted
              (packet_grows (edition_says edition) (rooms_of before) k (packet_at segment k) kind here t.0 t.1);
          counts = ap packet_count all ∙ counting_one kind totals ∙ ap (λ (x : ℕ). x + 1) inv.counts;
          rest =
              next_packet ∙ ap then_on t.1
              ∙ ap (λ (x : Totals). run (edition_says edition) (rooms_of before) (record { index = k + 1; state = t.0; totals = x })
              (drop (suc k) (packets segment))) (sym all)
              ∙ ap (λ (x : ℕ). run (edition_says edition) (rooms_of before) (record { index = k + 1; state = t.0; totals = n })
              (drop x (packets segment))) (sym (add-one k));
        }

    pub refused_there : (q : Refused) → r.outcome ≡ Err q
        → run (edition_says edition) (rooms_of before) start (packets segment) ≡ refused_by q
    unfolding ◌>>=◌
    refused_there q w = next_packet ∙ ap then_on (refused_refines stepped _ r.outcome q w turned)

-- ---- what the run promises
-- where a packet was refused, and the outputs are cleared
pub stops : (edition : Edition) (segment : Bytes) (before : Outputs) (old : List ℕ) (q : Refused)
    → run (edition_says edition) (rooms_of before) start (packets segment) ≡ refused_by q
    → (ran : RunResult) → ran ≡ fresh_result edition (Err q)
    → (after : Outputs) → after ≡ cleared before → (firsts : List ℕ) → firsts ≡ zeros old
    → Runs edition segment before old ran after firsts
stops edition segment before old q there ran made after left firsts none =
    rw made (record {
      verdict = there;
      noted = λ g p. never (sym there ∙ p);
      refused = λ _ _. record { result = refl; leaves = left; began = none };
    })

-- where all passed
module _ (edition : Edition) (segment : Bytes) (before now : Outputs) (old firsts : List ℕ) (c : State) (streams : Streams)
    (totals : Totals) (k : ℕ) (inv : Running edition segment before now old firsts c streams totals k)
    (h : length segment / packet_length ≤ k) where
  abbrev last : Progress
  last = record { index = k; state = inv.state; totals = totals }

  all_passed : run (edition_says edition) (rooms_of before) start (packets segment) ≡ passed last
  unfolding run
  all_passed =
      inv.rest
      ∙ ap (run (edition_says edition) (rooms_of before) last) (places.no_packet segment k h)

  pub ends : Runs edition segment before old (record { state = c; totals = totals; outcome = (Ok tt) }) now firsts
  ends =
      record {
        verdict = (
          last,
          all_passed,
          record {
            tables =
                inv.stands.tables.tables
                ∙ ap (λ (x : Edition). tables_kept x inv.state.tables) inv.stands.follows;
            extraction = inv.stands.extraction;
            totals = refl;
          },
        );
        noted =
            λ g p. inv.noted
            ∙ ap (λ (x : Progress). holding_firsts x.state.extraction.units old) (passed_same last g (sym all_passed ∙ p));
        refused = λ q w. never_passed q w refl;
      }
