-- The counts and the length of a sheet, and the sections that follow from them; and the check, part by part. Assumes nothing.
use Rattle.std.specs.Prelude.{Some, None}
use Prim.Native.Nat.{ℕ, ◌+◌, ◌*◌, ◌≤◌, ◌<◌}
use mathlib.Core.Bool.{Bool, true, false, not, ◌||◌}
use mathlib.Core.Path.{◌≡◌, sym, ap, subst, ◌∙◌}
use native.Mathlib.Omega.{arith}
use lib.Dec.{eqb, ltb}
use lib.ListN.{length}
use borrow.Author.Tests.{ltb-false, eqb-true, not-false, le-ltb, eq-eqb}
use Rattle.lists.specs.Lists.{Bytes, pick, any}
use Rattle.lists.proofs.Tests.{case, clash, or_neither}
use Rattle.sheet.specs.declared.sections.Sections.{Sections}
use Rattle.sheet.specs.Reading.{number, rows, stream_row, unit_row, obu_row, stream_count, unit_section, unit_count, obu_section, obu_count}
use Rattle.sheet.specs.Reading.{content_of, length_given, length_wrong, count_past, wrong}
use Rattle.sheet.specs.Passing.{stream_wrong, units_wrong, at_first, obus_wrong, sections_of, form_wrong, measuring, checking}
use Rattle.sheet.proofs.Pairs.{neither, picked_none, picked_some}
use Rattle.sheet.proofs.RowByRow.{length_rows}
use Rattle.sheet.proofs.Conditions.{right_parts, parts_right}

-- the counts are the sections' lengths
counts_past : (s : Bytes) → count_past (content_of s) ≡ (ltb 12 (stream_count s) || ltb 1024 (unit_count s) || ltb 65536 (obu_count s))
unfolding count_past content_of
counts_past s =
    rw (
      length_rows (stream_row s) 2 (stream_count s) 1,
      length_rows (unit_row s) 4 (unit_count s) (unit_section s + 1),
      length_rows (obu_row s) 4 (obu_count s) (obu_section s + 1),
    )

-- ---- the form
pub record Form (s : Bytes) : Type 0 where
  pub long : length s ≡ length_given s
  pub streams : stream_count s ≤ 12
  pub units : unit_count s ≤ 1024
  pub obus : obu_count s ≤ 65536

abbrev pub sections_by : ℕ → ℕ → ℕ → Sections
sections_by a b d =
    record { streams = a; units = b; obus = d; unit_rows = 1 + 2 * a + 1; obu_rows = 1 + 2 * a + 1 + 4 * b + 1 }

module _ (s : Bytes) where
  pub form_right : form_wrong s ≡ false → Form s
  unfolding form_wrong length_wrong
  form_right e =
      let h = or_neither (not (eqb (length s) (length_given s))) (count_past (content_of s)) e in
      let k = sym (counts_past s) ∙ h.1 in
      let a = or_neither (ltb 12 (stream_count s) || ltb 1024 (unit_count s)) (ltb 65536 (obu_count s)) k in
      let b = or_neither (ltb 12 (stream_count s)) (ltb 1024 (unit_count s)) a.0 in
      record {
        long = eqb-true _ _ (not-false _ h.0);
        streams = ltb-false _ _ b.0;
        units = ltb-false _ _ b.1;
        obus = ltb-false _ _ a.1;
      }

  right_form : Form s → form_wrong s ≡ false
  unfolding form_wrong length_wrong
  right_form h =
      neither (ap not (eq-eqb _ _ h.long))
      (counts_past s ∙ neither (neither (le-ltb _ _ h.streams) (le-ltb _ _ h.units)) (le-ltb _ _ h.obus))

  -- something is wrong with it
  no_form : (Form s → ⊥) → None ≡ measuring s
  unfolding measuring pick
  no_form h = case (form_wrong s) (λ t. rw t) (λ t. absurd (h (form_right t)))

  -- numbers that the code has read, one behind the other
  module _ (a : ℕ) (ea : a ≡ number s 0) where
    pub too_short : length s < 8 * (1 + 2 * a + 1) → None ≡ measuring s
    too_short h = no_form (λ f. absurd (omega (arith, f.long)))

    pub many_streams : 12 < a → None ≡ measuring s
    many_streams h = no_form (λ f. absurd (omega (arith, f.streams)))

    module _ (b : ℕ) (eb : b ≡ number s (1 + 2 * a)) where
      units_as : b ≡ unit_count s
      units_as = eb ∙ ap (λ (n : ℕ). number s (1 + 2 * n)) ea

      pub short_of_obus : length s < 8 * (1 + 2 * a + 1 + 4 * b + 1) → None ≡ measuring s
      short_of_obus h = no_form (λ f. absurd (omega (arith, f.long, units_as)))

      pub many_units : 1024 < b → None ≡ measuring s
      many_units h = no_form (λ f. absurd (omega (arith, f.units, units_as)))

      module _ (d : ℕ) (ed : d ≡ number s (1 + 2 * a + 1 + 4 * b)) where
        obus_as : d ≡ obu_count s
        obus_as =
            ed ∙ ap (λ (n : ℕ). number s (1 + 2 * n + 1 + 4 * b)) ea ∙ ap (λ (n : ℕ). number s (1 + 2 * stream_count s + 1 + 4 * n))
            units_as

        pub many_obus : 65536 < d → None ≡ measuring s
        many_obus h = no_form (λ f. absurd (omega (arith, f.obus, obus_as)))

        pub other_length : (length s ≡ 8 * (1 + 2 * a + 1 + 4 * b + 1 + 4 * d) → ⊥) → None ≡ measuring s
        other_length h = no_form (λ f. h (omega (arith, f.long, ea, units_as, obus_as)))

        pub measured : a ≤ 12 → b ≤ 1024 → d ≤ 65536 → length s ≡ 8 * (1 + 2 * a + 1 + 4 * b + 1 + 4 * d)
            → Some (sections_by a b d) ≡ measuring s
        unfolding measuring pick
        measured ha hb hd e =
            let f : Form s =
            record {
              long = omega (arith, e, ea, units_as, obus_as);
              streams = omega arith;
              units = omega (arith, units_as);
              obus = omega (arith, obus_as);
            } in
            rw (right_form f)
            (ap (λ (n : ℕ). Some (sections_by n b d)) ea
            ∙ ap (λ (n : ℕ). Some (sections_by (stream_count s) n d)) units_as
            ∙ ap (λ (n : ℕ). Some (sections_by (stream_count s) (unit_count s) n)) obus_as)

-- too short for its first count
pub no_count : (s : Bytes) → length s < 8 → None ≡ measuring s
no_count s h = no_form s (λ f. absurd (omega (arith, f.long)))

-- ---- the check
module _ (s : Bytes) where
  form_of : wrong s ≡ false → form_wrong s ≡ false
  unfolding form_wrong
  form_of e = let h = right_parts s e in neither h.0 h.1.counts

  refused_by_lem : (wrong s ≡ false → ⊥) → None ≡ checking s
  unfolding checking pick
  refused_by_lem h = case (wrong s) (λ t. rw t) (λ t. absurd (h t))

  pub unmeasured : None ≡ measuring s → None ≡ checking s
  unfolding measuring
  unmeasured e = refused_by_lem (λ w. clash (picked_none (form_wrong s) (sections_of s) e) (form_of w))

  -- what the passes over sections say
  abbrev pub streams_at : Sections → Bool
  streams_at t = any stream_wrong (rows (stream_row s) 2 t.streams 1)

  abbrev pub units_at : Sections → Bool
  units_at t = units_wrong 0 (rows (unit_row s) 4 t.units t.unit_rows)

  abbrev pub obus_at : Sections → Bool
  obus_at t = obus_wrong (rows (unit_row s) 4 t.units t.unit_rows) at_first (rows (obu_row s) 4 t.obus t.obu_rows)

  abbrev Right : Sections → Type 0
  Right t = (streams_at t ≡ false) × (units_at t ≡ false) × (obus_at t ≡ false)

  right_of : wrong s ≡ false → Right (sections_of s)
  unfolding content_of
  right_of e = let h = (right_parts s e).1 in (h.streams, h.units, h.obus)

  of_right : form_wrong s ≡ false → Right (sections_of s) → wrong s ≡ false
  unfolding content_of form_wrong
  of_right e h =
      let k = or_neither (length_wrong s) (count_past (content_of s)) e in
      parts_right s k.0 (record { counts = k.1; streams = h.0; units = h.1; obus = h.2 })

  abbrev Within : Sections → Type 0
  Within t = (8 * (1 + 2 * t.streams) ≤ length s) × (8 * (t.unit_rows + 4 * t.units) ≤ length s)
      × (8 * (t.obu_rows + 4 * t.obus) ≤ length s) × (t.streams ≤ 12) × (t.units ≤ 1024) × (t.obus ≤ 65536)

  form_within : form_wrong s ≡ false → Within (sections_of s)
  form_within e =
      let f = form_right s e in
      (omega (arith, f.long), omega (arith, f.long), omega (arith, f.long), f.streams, f.units, f.obus)

  -- the sections of a sheet of the right form
  module _ (t : Sections) (e : Some t ≡ measuring s) where
    form : form_wrong s ≡ false
    unfolding measuring
    form = (picked_some (form_wrong s) (sections_of s) t e).0

    same : sections_of s ≡ t
    unfolding measuring
    same = (picked_some (form_wrong s) (sections_of s) t e).1

    -- its rows stand in it
    pub within : Within t
    within = subst Within same (form_within form)

    right_here : wrong s ≡ false → Right t
    right_here w = subst Right same (right_of w)

    -- a part of it is wrong
    pub streams_refused : streams_at t ≡ true → None ≡ checking s
    streams_refused h = refused_by_lem (λ w. clash h (right_here w).0)

    pub units_refused : units_at t ≡ true → None ≡ checking s
    units_refused h = refused_by_lem (λ w. clash h (right_here w).1)

    pub obus_refused : obus_at t ≡ true → None ≡ checking s
    obus_refused h = refused_by_lem (λ w. clash h (right_here w).2)

    -- or nothing is
    pub accepted : streams_at t ≡ false → units_at t ≡ false → obus_at t ≡ false → Some t ≡ checking s
    unfolding checking pick
    accepted h k l =
        let w = of_right form (subst Right (sym same) (h, k, l)) in
        rw w (ap Some (sym same))

  -- what a check that passed says
  module _ (t : Sections) (e : Some t ≡ checking s) where
    pub is_right : wrong s ≡ false
    unfolding checking
    is_right = (picked_some (wrong s) (sections_of s) t e).0

    pub sections_same : sections_of s ≡ t
    unfolding checking
    sections_same = (picked_some (wrong s) (sections_of s) t e).1

    pub checked_within : Within t
    checked_within = subst Within sections_same (form_within (form_of is_right))

  pub is_wrong : None ≡ checking s → wrong s ≡ true
  unfolding checking
  is_wrong e = picked_none (wrong s) (sections_of s) e
