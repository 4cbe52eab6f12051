-- Packets that pass in turn: those that are null, and those that go on with their stream; and where the loop over the packets then is.
-- Assumes nothing.
use Prim.Native.Nat.{ℕ, zero, suc, ◌+◌, ◌/◌, ◌≤◌, ◌<◌}
use mathlib.Core.Bool.{Bool, true, false}
use mathlib.Core.Path.{◌≡◌, refl, sym, ap, subst, ◌∙◌}
use mathlib.Core.List.{List, [], ◌∷◌}
use native.Mathlib.Omega.{arith}
use native.Mathlib.Numerals.{add-one}
use borrow.Author.Tests.{eq-eqb, ltb-true, ltb-false}
use lib.Dec.{ltb}
use lib.ListN.{length, drop}
use Rattle.lists.specs.Lists.{Bytes, pick}
use Rattle.lists.proofs.Tests.{case}
use Rattle.refusal.specs.Verdict.{Verdict, passed, ◌>>=◌}
use Rattle.descriptor.specs.Edition as rules
use Rattle.descriptor.specs.Naming.{edition_says}
use Rattle.descriptor.specs.declared.edition.Edition.{Edition}
use Rattle.packet.specs.Header.{packet_length, packets, packet_at, pid, null_pid, fields}
use Rattle.packet.specs.declared.streams.Streams.{Streams}
use Rattle.plain.specs.Runs.{is_null, nulls_in}
use Rattle.plain.proofs.Places.{next_packet, no_packet}
use Rattle.plain.proofs.Plains.{null_pid_lem, null_passes}
use Rattle.segment_rules.specs.declared.Totals.{Totals}
use Rattle.segment_rules.specs.State as state
use Rattle.segment_rules.specs.State.{AccessUnit, kind_of, counting, packet_count, five_totals}
use Rattle.segment_rules.specs.Rules.{Rooms, packet_rules}
use Rattle.segment_rules.specs.Check.{Outputs, rooms_of, holding_firsts, start, step, run}
use Rattle.segment_rules.specs.Named.{Named}
use Rattle.segment_rules.proofs.Naming.{null_unrecorded}
use Rattle.segment_rules.proofs.ByKind.{null_packet}
use Rattle.segment_rules.proofs.Running.{counting_one}
use Rattle.extraction.specs.declared.packets.State.{State}
use Rattle.extraction.specs.Packets.{StateKept}
use Rattle.segment_run.specs.declared.going.Went.{Went}
use Rattle.segment_run.specs.Parts.{kind_went, state_went, totals_went, Pass, GoOnRefines}
use Rattle.segment_run.proofs.Looping.{Running}

-- ---- so many packets of a kind more
abbrev many : state.Kind → ℕ → Totals → Totals
many kind zero t = t
many kind (suc n) t = many kind n (counting kind t)

-- the null packets, those of the AV1 PID, and those of another listed stream
abbrev pub more_nulls : ℕ → Totals → Totals
more_nulls n t = five_totals (t.null + n) t.section t.av1 t.other_listed t.unlisted

abbrev more_av1 : ℕ → Totals → Totals
more_av1 n t = five_totals t.null t.section (t.av1 + n) t.other_listed t.unlisted

abbrev more_listed : ℕ → Totals → Totals
more_listed n t = five_totals t.null t.section t.av1 (t.other_listed + n) t.unlisted

many_nulls : (n : ℕ) (t : Totals) → many state.Null n t ≡ more_nulls n t
unfolding counting
many_nulls zero t =
    let z : t.null ≡ t.null + 0 = omega arith in
    ap (λ (x : ℕ). five_totals x t.section t.av1 t.other_listed t.unlisted) z
many_nulls (suc n) t =
    let z : t.null + 1 + n ≡ t.null + suc n = omega arith in
    many_nulls n (counting state.Null t) ∙ ap (λ (x : ℕ). five_totals x t.section t.av1 t.other_listed t.unlisted) z

many_av1 : (n : ℕ) (t : Totals) → many state.Av1 n t ≡ more_av1 n t
unfolding counting
many_av1 zero t =
    let z : t.av1 ≡ t.av1 + 0 = omega arith in
    ap (λ (x : ℕ). five_totals t.null t.section x t.other_listed t.unlisted) z
many_av1 (suc n) t =
    let z : t.av1 + 1 + n ≡ t.av1 + suc n = omega arith in
    many_av1 n (counting state.Av1 t) ∙ ap (λ (x : ℕ). five_totals t.null t.section x t.other_listed t.unlisted) z

many_listed : (n : ℕ) (t : Totals) → many state.Listed n t ≡ more_listed n t
unfolding counting
many_listed zero t =
    let z : t.other_listed ≡ t.other_listed + 0 = omega arith in
    ap (λ (x : ℕ). five_totals t.null t.section t.av1 x t.unlisted) z
many_listed (suc n) t =
    let z : t.other_listed + 1 + n ≡ t.other_listed + suc n = omega arith in
    many_listed n (counting state.Listed t) ∙ ap (λ (x : ℕ). five_totals t.null t.section t.av1 x t.unlisted) z

-- those that went on, on the AV1 PID or not
many_went : (av1 : Bool) (n : ℕ) (t : Totals) → many (pick av1 state.Av1 state.Listed) n t ≡ pick av1 (more_av1 n t) (more_listed n t)
unfolding pick
many_went true n t = many_av1 n t
many_went false n t = many_listed n t

-- ---- where the loop is, but for what the code keeps
module _ (edition : rules.Edition) (rooms : Rooms) (segment : Bytes) (old firsts : List ℕ) where
  record Reached (st : state.State) (totals : Totals) (k : ℕ) : Type 0 where
    pub noted : firsts ≡ holding_firsts st.extraction.units old
    pub counts : packet_count totals ≡ k
    pub rest : run edition rooms start (packets segment)
        ≡ run edition rooms (record { index = k; state = st; totals = totals }) (drop k (packets segment))

  module _ (kind : state.Kind) where
    one_passed : (st next : state.State) (totals : Totals) (k : ℕ) → k < length segment / packet_length → Reached st totals k
        → kind_of st.tables (pid (packet_at segment k)) ≡ kind
        → packet_rules edition rooms k (packet_at segment k) kind st ≡ passed next
        → next.extraction.units ≡ st.extraction.units
        → Reached next (counting kind totals) (k + 1)
    unfolding run step ◌>>=◌
    one_passed st next totals k h r is p u =
        record {
          noted = r.noted ∙ ap (λ (l : List AccessUnit). holding_firsts l old) (sym u);
          counts = counting_one kind totals ∙ ap (λ (x : ℕ). x + 1) r.counts;
          rest =
              r.rest
              ∙ ap (run edition rooms (record { index = k; state = st; totals = totals })) (next_packet segment k h)
              ∙ ap (λ (x : state.Kind). (packet_rules edition rooms k (packet_at segment k) x st
              >>= λ st1. passed (record { index = k + 1; state = st1; totals = counting x totals }))
              >>= λ g. run edition rooms g (drop (suc k) (packets segment))) is
              ∙ ap (λ (v : Verdict state.State). (v
              >>= λ st1. passed (record { index = k + 1; state = st1; totals = counting kind totals }))
              >>= λ g. run edition rooms g (drop (suc k) (packets segment))) p
              ∙ ap (λ (x : ℕ). run edition rooms (record { index = k + 1; state = next; totals = counting kind totals })
              (drop x (packets segment))) (sym (add-one k));
        }

    all_passed : (n k : ℕ) (st st' : state.State) (totals : Totals) → k + n ≤ length segment / packet_length → Reached st totals k
        → Pass edition segment rooms kind n k st st' → Reached st' (many kind n totals) (k + n)
    all_passed zero k st st' totals h r e =
        let z : k ≡ k + 0 = omega arith in
        subst (λ (x : state.State). Reached x totals (k + 0)) (sym e) (subst (λ (x : ℕ). Reached st totals x) z r)
    all_passed (suc n) k st st' totals h r (next, is, p, u, more) =
        let z : k + 1 + n ≡ k + suc n = omega arith in
        subst (λ (x : ℕ). Reached st' (many kind n (counting kind totals)) x) z
        (all_passed n (k + 1) next st' (counting kind totals) (omega arith)
        (one_passed st next totals k (omega arith) r is p u) more)

-- the loop goes on behind them, where what the code keeps is of the state that they lead to
module _ {edition : Edition} {segment : Bytes} {before now : Outputs} {old firsts : List ℕ} {c : State} {streams : Streams}
    {totals : Totals} {k : ℕ} (inv : Running edition segment before now old firsts c streams totals k) where
  here : Reached (edition_says edition) (rooms_of before) segment old firsts inv.state totals k
  here = record { noted = inv.noted; counts = inv.counts; rest = inv.rest }

  behind : (kind : state.Kind) (n : ℕ) (st' : state.State) → k + n ≤ length segment / packet_length
      → Pass (edition_says edition) segment (rooms_of before) kind n k inv.state st'
      → (after : Outputs) (c' : State) (streams' : Streams) → StateKept edition segment before after c' streams' st'
      → (t : Totals) → t ≡ many kind n totals
      → Running edition segment before after old firsts c' streams' t (k + n)
  behind kind n st' h p after c' streams' s t same =
      let r = all_passed (edition_says edition) (rooms_of before) segment old firsts kind n k inv.state st' totals h here p in
      let r' = subst (λ (x : Totals). Reached (edition_says edition) (rooms_of before) segment old firsts st' x (k + n)) (sym same) r in
      record { state = st'; stands = s; noted = r'.noted; counts = r'.counts; rest = r'.rest }

  -- packets that go on with their stream
  pub passes_on : (r : Went) (streams' : Streams) (after : Outputs) → GoOnRefines edition segment k c streams now r streams' after
      → (r.packets ≡ 0 → ⊥) → k + r.packets ≤ length segment / packet_length
      → Running edition segment before after old firsts (state_went c r) streams' (totals_went totals r) (k + r.packets)
  passes_on r streams' after turn some within =
      let g = turn some before inv.state inv.stands in
      behind (kind_went r) r.packets g.0 within g.1 after (state_went c r) streams' g.2 (totals_went totals r)
      (sym (many_went r.av1 r.packets totals))

pub cons_first : {p q : Bytes} {l m : List Bytes} → p ∷ l ≡ q ∷ m → p ≡ q
cons_first e = cc

pub cons_rest : {p q : Bytes} {l m : List Bytes} → p ∷ l ≡ q ∷ m → l ≡ m
cons_rest e = cc

-- ---- null packets
module _ (edition : rules.Edition) (rooms : Rooms) (segment : Bytes) (st : state.State) (named : Named st.tables) where
  null_kind : (n : ℕ) → n ≡ null_pid → kind_of st.tables n ≡ state.Null
  unfolding kind_of pick
  null_kind n e = rw (eq-eqb n null_pid e)

  -- each of them leaves the state as it is
  null_passes_there : (k : ℕ) → k < length segment / packet_length → is_null (packet_at segment k) ≡ true
      → (kind_of st.tables (pid (packet_at segment k)) ≡ state.Null)
      × (packet_rules edition rooms k (packet_at segment k) state.Null st ≡ passed st)
  null_passes_there k h t =
      let p = packet_at segment k in (
        null_kind (pid p) (null_pid_lem p t),
        null_packet edition rooms k p st (fields p) (null_passes p t) (null_pid_lem p t) (null_unrecorded st.tables named),
      )

  nulls_pass : (l : List Bytes) (k : ℕ) → drop k (packets segment) ≡ l → k ≤ length segment / packet_length
      → (k + nulls_in l ≤ length segment / packet_length) × Pass edition segment rooms state.Null (nulls_in l) k st st
  unfolding nulls_in pick
  nulls_pass [] k e h = (omega arith, refl)
  nulls_pass (p ∷ l) k e h =
      case (ltb k (length segment / packet_length))
      (λ t. go (is_null p) refl (ltb-true k (length segment / packet_length) t) (nulls_pass l (k + 1)))
      (λ t. absurd (not_empty (sym (no_packet segment k (ltb-false k (length segment / packet_length) t)) ∙ e)))
    where
      not_empty : [] ≡ p ∷ l → ⊥
      not_empty z = let y : ◌≡◌ {A = ℕ} 0 1 = cc in absurd (omega arith)

      go : (b : Bool) → is_null p ≡ b → k < length segment / packet_length
          → (drop (k + 1) (packets segment) ≡ l → k + 1 ≤ length segment / packet_length
          → (k + 1 + nulls_in l ≤ length segment / packet_length) × Pass edition segment rooms state.Null (nulls_in l) (k + 1) st st)
          → (k + pick b (suc (nulls_in l)) 0 ≤ length segment / packet_length)
          × Pass edition segment rooms state.Null (pick b (suc (nulls_in l)) 0) k st st
      go true t w later =
          let here = sym e ∙ next_packet segment k w in
          let first : p ≡ packet_at segment k = cons_first here in
          let others : drop (k + 1) (packets segment) ≡ l =
          ap (λ (n : ℕ). drop n (packets segment)) (add-one k) ∙ sym (cons_rest here) in
          let r = later others (omega (arith, w)) in
          let there = null_passes_there k w (ap is_null (sym first) ∙ t) in
          (omega (arith, r.0), (st, there.0, there.1, refl, r.1))
      go false t w later = (omega (arith, h), refl)

-- the loop goes on behind them
pub passes_nulls : {edition : Edition} {segment : Bytes} {before now : Outputs} {old firsts : List ℕ} {c : State} {streams : Streams}
    {totals : Totals} {k : ℕ} (inv : Running edition segment before now old firsts c streams totals k) → k ≤ length segment / packet_length
    → (n : ℕ) → n ≡ nulls_in (drop k (packets segment))
    → (k + n ≤ length segment / packet_length) × Running edition segment before now old firsts c streams (more_nulls n totals) (k + n)
passes_nulls {edition} {segment} {before} {now} {old} {firsts} {c} {streams} {totals} {k} inv h n same =
    let st = inv.state in
    let p =
    nulls_pass (edition_says edition) (rooms_of before) segment st inv.stands.tables.valid.named (drop k (packets segment)) k refl h in
    let within : k + n ≤ length segment / packet_length = omega (arith, p.0, same) in (
      within,
      behind inv state.Null n st within
          (subst (λ (x : ℕ). Pass (edition_says edition) segment (rooms_of before) state.Null x k st st) (sym same) p.1)
          now c streams inv.stands (more_nulls n totals) (sym (many_nulls n totals)),
    )
