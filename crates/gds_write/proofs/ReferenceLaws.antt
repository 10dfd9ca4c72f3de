-- What a reference's own records say of it, as they are written.
use Rattle.std.proofs.Common.{◌≡◌, ◌↔◌, ℕ, zero, suc, ◌/◌, ◌%◌, ◌^◌, ◌<◌, ℤ, pos, negsuc, ◌+ℤ◌, ◌*ℤ◌, ◌≤ℤ◌, Bool, true, false, not, ◌||◌, ◌==◌, List, [], ◌∷◌, ◌++◌, length, get_or, All, Contains}
use Rattle.std.proofs.Common.{Option, Some, None, refl, sym, ap, subst, ◌∙◌, arith, append_assoc, true≢false, unwrap_or, MatchOption, IfSome, IsTrue, if◌then◌else◌}
use Rattle.lists.proofs.Words.{flat_map, ints, All-from_recursion}
use Rattle.byteorder.specs.Endian.{big_bytes}
use Rattle.geo_core.specs.declared.plane.Point.{Point}
use Rattle.geo_core.specs.declared.plane.Turn.{Turn}
use Rattle.library_grammar.specs.GrammarNames.{item, HasValue, Entry, ElementHolds, element_checks, sref_form, aref_form, IsTurn, IsReference, IsKept, field, body_of, point_in, points_of, unsigned_of}
use Rattle.library_grammar.specs.GrammarNames.{HasQuarters, columns_of, rows_of, Leads, HasSteps, IsPoint, ArePoints, kinds_of}
use Rattle.gds_records.specs.declared.kinds.TheConstants as kind
use Rattle.library_grammar.specs.Elements.{sref as keeps_sref, aref as keeps_aref}
use Rattle.library_model.specs.declared.element.Element.TheVariants.{Reference as reference_element}
use Rattle.library_model.specs.declared.element.Lattice.{Lattice}
use Rattle.library_model.specs.declared.element.Reference.{Reference}
use Rattle.gds_write.specs.Bodies.{text_entry, point_bytes, points_entry, counts_entry}
use Rattle.gds_write.specs.WellFormed.{IsWritableReference}
use Rattle.gds_write.specs.Written.{strans_entry, angle_entry, turn_records, moved_by, array_points, placing_records}
use Rattle.gds_write.proofs.FieldLaws.{field_of, first_of, written_of}
use Rattle.gds_write.proofs.ShapeLaws.{has_found}
use Rattle.gds_write.proofs.ProfileLaws.{padded_fills}
use Rattle.gds_write.proofs.NumberLaws.{point_reads, points_read, columns_read, rows_read}
use Rattle.gds_write.proofs.Every.{more, all_of, one}

-- ---- the turn

-- STRANS, where it is written, has its highest bit set where the turn mirrors
mirrors_by : (reflect written : Bool) → (reflect ≡ true → written ≡ true)
    → IsTrue reflect ↔ (item 2 0 (unwrap_or (if written then Some (strans_entry reflect).body else None) []) / 2 ^ 15 ≡ 1)
mirrors_by true true is = (λ t. refl, λ e. refl)
mirrors_by true false is = absurd (true≢false (sym (is refl)))
mirrors_by false true is = (λ t. absurd (cc), λ e. absurd (omega arith))
mirrors_by false false is = (λ t. absurd (cc), λ e. absurd (omega arith))

not_absolute_by : (reflect written : Bool) → item 2 0 (unwrap_or (if written then Some (strans_entry reflect).body else None) []) / 2 % 2 ≡ 1 → ⊥
not_absolute_by true true e = omega arith
not_absolute_by false true e = omega arith
not_absolute_by _ _ e = omega arith

-- ANGLE, where it is written, is 90 degrees a quarter
quarters_by : (quarters : ℕ) → quarters < 4
    → MatchOption (if not (quarters == 0) then Some (angle_entry quarters).body else None) (pos quarters +ℤ (pos 4 *ℤ pos 0) ≡ pos 0)
    (λ body. HasValue body (pos 90 *ℤ (pos quarters +ℤ (pos 4 *ℤ pos 0))))
quarters_by zero few = refl
quarters_by (suc (suc (suc (suc quarters)))) few = absurd (omega arith)
quarters_by _ few = record { size = record { scaled = refl }; sign = refl }

-- ---- where a reference is placed

-- the points of its XY
abbrev pub placing_points : Point → Option Lattice → List Point
placing_points origin None = origin ∷ []
placing_points origin (Some lattice) = array_points origin lattice

-- the own records of a reference that is repeated so
abbrev pub reference_own : List ℕ → Turn → Point → Option Lattice → List Entry
reference_own target turn origin lattice = text_entry kind.SNAME target ∷ turn_records turn ++ placing_records origin lattice

-- the same, each with whether it is written
abbrev pub placing_parts : Point → Option Lattice → List (Bool × Entry)
placing_parts origin None = (true, points_entry (origin ∷ [])) ∷ []
placing_parts origin (Some lattice) = (true, counts_entry lattice.columns lattice.rows) ∷ (true, points_entry (array_points origin lattice)) ∷ []

abbrev pub reference_parts : List ℕ → Turn → Point → Option Lattice → List (Bool × Entry)
reference_parts target turn origin lattice =
    (true, text_entry kind.SNAME target) ∷ (turn.reflect || not (turn.quarters == 0), strans_entry turn.reflect)
    ∷ (not (turn.quarters == 0), angle_entry turn.quarters) ∷ placing_parts origin lattice

-- what its records have of each kind
record Fields (target : List ℕ) (turn : Turn) (origin : Point) (lattice : Option Lattice) (own : List Entry) : Type 0 where
  xy : field kind.XY own ≡ Some (flat_map point_bytes (placing_points origin lattice))
  strans : field kind.STRANS own ≡ (if turn.reflect || not (turn.quarters == 0) then Some (strans_entry turn.reflect).body else None)
  angle : field kind.ANGLE own ≡ (if not (turn.quarters == 0) then Some (angle_entry turn.quarters).body else None)
  mag : field kind.MAG own ≡ None

module _ (target : List ℕ) (turn : Turn) (origin : Point) where
  pub reference_written : (lattice : Option Lattice) → reference_own target turn origin lattice ≡ written_of (reference_parts target turn origin lattice)
  reference_written None = simp append_assoc
  reference_written (Some lattice) = simp append_assoc

  reference_field : (lattice : Option Lattice) (k : ℕ) → field k (reference_own target turn origin lattice) ≡ first_of k (reference_parts target turn origin lattice)
  reference_field lattice k = ap (field k) (reference_written lattice) ∙ field_of k (reference_parts target turn origin lattice)

  fields : (lattice : Option Lattice) → Fields target turn origin lattice (reference_own target turn origin lattice)
  fields None = let has = reference_field None in record { xy = has kind.XY; strans = has kind.STRANS; angle = has kind.ANGLE; mag = has kind.MAG }
  fields (Some lattice) = let has = reference_field (Some lattice) in record { xy = has kind.XY; strans = has kind.STRANS; angle = has kind.ANGLE; mag = has kind.MAG }

module _ (reference : Reference) (lattice : Option Lattice) where
  abbrev pub own : List Entry
  own = reference_own reference.target reference.turn reference.origin lattice

  abbrev turns : Bool
  turns = not (reference.turn.quarters == 0)

  abbrev mirrors : Bool
  mirrors = reference.turn.reflect || turns

  has : Fields reference.target reference.turn reference.origin lattice own
  has = fields reference.target reference.turn reference.origin lattice

  xy_body : body_of kind.XY own ≡ flat_map point_bytes (placing_points reference.origin lattice)
  xy_body = ap (λ (o : Option (List ℕ)). unwrap_or o []) has.xy

  -- ---- the turn as it is read

  word_is : unsigned_of kind.STRANS own ≡ item 2 0 (unwrap_or (if mirrors then Some (strans_entry reference.turn.reflect).body else None) [])
  word_is = ap (λ (o : Option (List ℕ)). item 2 0 (unwrap_or o [])) has.strans

  is_written : reference.turn.reflect ≡ true → mirrors ≡ true
  is_written e = ap (λ (b : Bool). b || turns) e

  has_quarters : HasQuarters own (pos reference.turn.quarters +ℤ (pos 4 *ℤ pos 0))
  has_quarters = rw has.angle (quarters_by reference.turn.quarters reference.turn.whole)

  turn_is_read : IsTurn own reference.turn
  turn_is_read = record { mirrors = rw word_is (mirrors_by reference.turn.reflect mirrors is_written); circles = pos 0; turns = has_quarters }

  not_magnified : IfSome (field kind.MAG own) (λ body. HasValue body (pos 1))
  not_magnified = rw has.mag tt

  not_absolute : unsigned_of kind.STRANS own / 2 % 2 ≡ 1 → ⊥
  not_absolute = rw word_is (not_absolute_by reference.turn.reflect mirrors)

  by_quarters : (quarters : ℤ) × HasQuarters own quarters × (negsuc 3 ≤ℤ quarters) × (quarters ≤ℤ pos 4)
  by_quarters = let few = reference.turn.whole in (pos reference.turn.quarters +ℤ (pos 4 *ℤ pos 0), has_quarters, omega (arith, ints), omega (arith, ints))

-- ---- a reference as it is read

-- a reference that begins at another offset
abbrev pub reference_at : ℕ → Reference → Reference
reference_at at reference = record reference { at = at }

module _ (at : ℕ) (reference : Reference) (lattice : Option Lattice) (writable : IsWritableReference reference) (is : reference.lattice ≡ lattice) where
  placed_points_fit : (l : Option Lattice) → IfSome l (λ some. ArePoints (array_points reference.origin some)) → ArePoints (placing_points reference.origin l)
  placed_points_fit None fit = All-from_recursion IsPoint (reference.origin ∷ []) (reference.origin_fits, tt)
  placed_points_fit (Some some) fit = fit

  points_fit : ArePoints (placing_points reference.origin lattice)
  points_fit = placed_points_fit lattice (subst (λ (l : Option Lattice). IfSome l (λ some. ArePoints (array_points reference.origin some))) is writable.lattice)

  point_is : (k : ℕ) → k < length (placing_points reference.origin lattice) → point_in (body_of kind.XY (own reference lattice)) k ≡ get_or (placing_points reference.origin lattice) k reference.origin
  point_is k within = rw (xy_body reference lattice) (point_reads (placing_points reference.origin lattice) k reference.origin points_fit within)

  points_are : points_of (own reference lattice) ≡ placing_points reference.origin lattice
  points_are = rw (xy_body reference lattice) (points_read (placing_points reference.origin lattice) points_fit)

  first_is_origin : (l : Option Lattice) → (0 < length (placing_points reference.origin l)) × (get_or (placing_points reference.origin l) 0 reference.origin ≡ reference.origin)
  first_is_origin None = (omega arith, refl)
  first_is_origin (Some some) = (omega arith, refl)

  is_reference : IsReference at (own reference lattice) (reference_at at reference)
  is_reference =
      let first = first_is_origin lattice in
      record {
        place = refl;
        is_target = (padded_fills reference.target writable.target reference.target_fits).is_text;
        is_turn = turn_is_read reference lattice;
        is_origin = sym (point_is 0 first.0 ∙ first.1);
      }

  has_points_xy : Contains (kinds_of (own reference lattice)) kind.XY
  has_points_xy = has_found kind.XY (own reference lattice) _ (has reference lattice).xy

-- a reference that is not repeated
module _ (at : ℕ) (reference : Reference) (writable : IsWritableReference reference) (is : reference.lattice ≡ None) where
  pub sref_kept : IsKept at (own reference None) kind.SREF (Some (reference_element (reference_at at reference)))
  sref_kept = keeps_sref (is_reference at reference None writable is) is

  pub sref_holds : All (ElementHolds (own reference None)) (element_checks sref_form)
  sref_holds =
      all_of {P = ElementHolds (own reference None)}
      (more (has_points_xy at reference None writable is) (more (0, omega arith, refl) (more (ap length (points_are at reference None writable is))
      (more (not_magnified reference None) (more (not_absolute reference None) (one (by_quarters reference None)))))))

-- an array
module _ (at : ℕ) (reference : Reference) (lattice : Lattice) (writable : IsWritableReference reference) (is : reference.lattice ≡ Some lattice) where
  has_colrow : field kind.COLROW (own reference (Some lattice)) ≡ Some (big_bytes 2 lattice.columns ++ big_bytes 2 lattice.rows)
  has_colrow = reference_field reference.target reference.turn reference.origin (Some lattice) kind.COLROW

  columns_are : columns_of (own reference (Some lattice)) ≡ pos lattice.columns
  columns_are = rw has_colrow (columns_read lattice.columns lattice.rows lattice.few_columns)

  rows_are : rows_of (own reference (Some lattice)) ≡ pos lattice.rows
  rows_are = rw has_colrow (rows_read lattice.columns lattice.rows lattice.few_rows)

  leads : (count : ℕ) (step : ℤ × ℤ) (counted : ℤ) (from to : Point) → counted ≡ pos count → from ≡ reference.origin → to ≡ moved_by count step reference.origin → Leads counted from to step
  leads count step counted from to same_count same_from same_to = rw (same_count, same_from, same_to) (record { across = refl; up = refl })

  has_steps : HasSteps (own reference (Some lattice)) lattice.column_step lattice.row_step
  has_steps =
      let point = point_is at reference (Some lattice) writable is in
      record {
        columns = leads lattice.columns lattice.column_step _ _ _ columns_are (point 0 (omega arith)) (point 1 (omega arith));
        rows = leads lattice.rows lattice.row_step _ _ _ rows_are (point 0 (omega arith)) (point 2 (omega arith));
      }

  pub aref_kept : IsKept at (own reference (Some lattice)) kind.AREF (Some (reference_element (reference_at at reference)))
  aref_kept =
      keeps_aref (is_reference at reference (Some lattice) writable is) is
      (record { columns = sym columns_are; rows = sym rows_are; steps = has_steps })

  pub aref_holds : All (ElementHolds (own reference (Some lattice))) (element_checks aref_form)
  aref_holds =
      let some_columns = lattice.some_columns in
      let some_rows = lattice.some_rows in
      all_of {P = ElementHolds (own reference (Some lattice))} (more (has_points_xy at reference (Some lattice) writable is) (more (0, omega arith, refl)
      (more (has_found kind.COLROW (own reference (Some lattice)) _ has_colrow) (more (ap length (points_are at reference (Some lattice) writable is))
      (more (not_magnified reference (Some lattice)) (more (not_absolute reference (Some lattice)) (more (by_quarters reference (Some lattice))
      (more (rw columns_are (omega (arith, ints)), rw rows_are (omega (arith, ints))) (one (lattice.column_step, lattice.row_step, has_steps))))))))))
