-- The open PES closes by its verdict; where that passed, the opening goes on from the state that it leaves, and where that passed too, the
-- length and the times of the unit that closed are put in place.
use Rattle.std.specs.Prelude.{Ok, Err}
use Prim.Native.Nat.{ℕ}
use mathlib.Core.Path.{refl, sym, ap, subst}
use mathlib.Core.List.{List}
use Rattle.std.proofs.lemmas.Result.{err_from_is_err_and}
use Rattle.lists.specs.Lists.{Bytes}
use Rattle.descriptor.specs.Naming.{edition_says}
use Rattle.tables.proofs.Refining.{never_passed}
use Rattle.segment_rules.specs.State as state
use Rattle.segment_rules.specs.Rules.{pes_rules}
use Rattle.segment_rules.specs.Check.{outputs_of, rooms_of}
use Rattle.units.specs.Extraction.{PesRefines}
use Rattle.units.specs.Parts.{kept, lens_closed}
use Rattle.units.proofs.Extracting.{starts_refused, starts_opens, kept_refused}
use Rattle.units.proofs.units.Extraction.start.Goals as goal

pub returns-in_err-judge_open : goal.returns-in_err-judge_open
returns-in_err-judge_open c =
    let a = c.args in
    let q = err_from_is_err_and c.from_residual.result c.from_residual.ensures.1 in
    rw (q.1, q.2) (
      (λ before p st is k s.
          starts_refused _ a.arrival.index p a.payload.now st before is s _ _
          (c.in_err-judge_open.ensures a.lens.now a.times.now before st.extraction s)),
      kept_refused _ _,
    )

pub returns-in_err-begun : goal.returns-in_err-begun
returns-in_err-begun c =
    let a = c.args in
    let q = err_from_is_err_and c.from_residual-in_err-begun.result c.from_residual-in_err-begun.ensures.1 in
    let opened = c.in_err-begun.ensures in
    rw (q.1, q.2) (
      (λ before p st is k s.
          starts_opens (edition_says a.arrival.edition) a.arrival.index p a.payload.now st before is s
          c.in_ok-judge_open.ensures c.closed.result c.closed.ensures _
          (record { bytes = refl; lens = refl; times = refl }) _ k (kept (Err _)) c.open.new.out opened.opening_refines),
      (λ r k.
          let u = opened.units_refused r k in
          (u.0, ap (λ (o : Bytes). outputs_of o a.lens.now a.times.now) u.1)),
    )

pub returns : goal.returns
returns c =
    let a = c.args in
    let opened = c.in_ok-begun.ensures in
    let edition = edition_says a.arrival.edition in
    let placed = c.put_closed.ensures in
    let out = c.open.new.out in
    let next = kept (Ok c.in_ok-begun.begun) in (
      (λ before p st is k s.
          let rules = pes_rules edition (rooms_of before) a.arrival.index p state.Av1 in
          subst (λ (l : List ℕ). PesRefines before rules st next (outputs_of out l c.put_closed.new.times))
          (sym placed.lens_after)
          (subst (λ (t : List ℕ). PesRefines before rules st next (outputs_of out (lens_closed a.self a.lens.now) t))
          (sym placed.times_after)
          (starts_opens edition a.arrival.index p a.payload.now st before is s
          c.in_ok-judge_open.ensures c.closed.result c.closed.ensures _
          (record { bytes = refl; lens = refl; times = refl }) _ k next _ opened.opening_refines))),
      (λ q k. never_passed q k refl),
    )
