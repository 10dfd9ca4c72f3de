-- What is kept of an element is there where its checks hold.
use Rattle.std.proofs.Common.{◌≡◌, ℕ, ℤ, pos, negsuc, zero, suc, nat_abs, ◌+ℤ◌, ◌*ℤ◌, ◌≤ℤ◌, ◌*◌, ◌/◌, ◌<◌, ◌≤◌, ◌^◌, List, All, Contains, Option, Some, None, refl, ap, subst, ◌∙◌, arith, FitsSigned}
use Rattle.std.proofs.Common.{◌==◌, w16, w32}
use Rattle.lists.proofs.Words.{pos-*ℤ-negsuc, le-mul_of_pos_right, Decides-eqb, ints}
use Rattle.std.proofs.Math.Nat.{mul_comm}
use Rattle.geo_core.specs.declared.plane.Point.{Point}
use Rattle.geo_core.specs.declared.plane.Turn.{Turn}
use Rattle.gds_records.specs.declared.kinds.TheConstants as kind
use Rattle.library_grammar.specs.GrammarNames.{Entry, ElementHolds, element_checks, turns_by_quarters, has_columns_and_rows, has_whole_steps, ElementForm, boundary_form, path_form, sref_form}
use Rattle.library_grammar.specs.GrammarNames.{aref_form, box_form, element_forms, IsShape, path_kind, IsTurn, IsReference, IsLattice, IsKept, boundary, path, sref, aref, text, node, box, body_of}
use Rattle.library_grammar.specs.GrammarNames.{point_in, points_of, unsigned_of, HasQuarters, columns_of, rows_of, Leads, IsKind, IsPoint, IsStep}
use Rattle.library_model.specs.declared.element.Element.{Element}
use Rattle.library_model.specs.declared.element.Element.TheVariants.{Shape as shape_element, Reference as reference_element}
use Rattle.library_model.specs.declared.element.Lattice.{Lattice}
use Rattle.library_model.specs.declared.element.Reference.{Reference}
use Rattle.library_model.specs.declared.element.Shape.{Shape}
use Rattle.library_model.specs.declared.element.ShapeKind.{ShapeKind}
use Rattle.library_model.specs.declared.element.ShapeKind.TheVariants.{Boundary, BoxElement}
use Rattle.library_grammar.proofs.FieldRanges.{HaveBytes, unsigned_of_fits, long_of_fits, short_of_fits, short_fits, body_has_bytes}
use Rattle.library_grammar.proofs.laws.Points.{are_points, point_fits}
use Rattle.library_grammar.proofs.TextThere.{text_there}
use Rattle.library_grammar.proofs.laws.Forms.{each_form}

-- ---- shapes

shape_there : (at : ℕ) (shape_kind : ShapeKind) (datatype_kind : ℕ) (own : List Entry) → HaveBytes own → IsKind shape_kind
    → (shape : Shape) × IsShape at shape_kind datatype_kind own shape
shape_there at shape_kind datatype_kind own have fits = (
  record {
    at = at;
    kind = shape_kind;
    layer = unsigned_of kind.LAYER own;
    datatype = unsigned_of datatype_kind own;
    points = points_of own;
    kind_fits = fits;
    layer_fits = unsigned_of_fits own have kind.LAYER;
    datatype_fits = unsigned_of_fits own have datatype_kind;
    points_fit = are_points own;
  },
  record { place = refl; is_kind = refl; on_layer = refl; of_datatype = refl; has_points = refl },
)

path_fits : (own : List Entry) → IsKind (path_kind own)
path_fits own = (short_of_fits own kind.PATHTYPE, long_of_fits own kind.WIDTH, long_of_fits own kind.BGNEXTN, long_of_fits own kind.ENDEXTN)

-- ---- turns

-- whole quarters, no more than a circle either way, as some below four and whole circles
quarters_of : (z : ℤ) → negsuc 3 ≤ℤ z → z ≤ℤ pos 4 → (q : ℕ) × (q < 4) × ((circles : ℤ) × (z ≡ pos q +ℤ (pos 4 *ℤ circles)))
quarters_of (pos zero) back front = (0, omega arith, (pos 0, refl))
quarters_of (pos (suc zero)) back front = (1, omega arith, (pos 0, refl))
quarters_of (pos (suc (suc zero))) back front = (2, omega arith, (pos 0, refl))
quarters_of (pos (suc (suc (suc zero)))) back front = (3, omega arith, (pos 0, refl))
quarters_of (pos (suc (suc (suc (suc zero))))) back front = (0, omega arith, (pos 1, refl))
quarters_of (pos (suc (suc (suc (suc (suc n)))))) back front = absurd (omega (arith, ints))
quarters_of (negsuc zero) back front = (3, omega arith, (negsuc 0, refl))
quarters_of (negsuc (suc zero)) back front = (2, omega arith, (negsuc 0, refl))
quarters_of (negsuc (suc (suc zero))) back front = (1, omega arith, (negsuc 0, refl))
quarters_of (negsuc (suc (suc (suc zero)))) back front = (0, omega arith, (negsuc 0, refl))
quarters_of (negsuc (suc (suc (suc (suc n))))) back front = absurd (omega (arith, ints))

turn_there : (own : List Entry) → ElementHolds own turns_by_quarters → (turn : Turn) × IsTurn own turn
turn_there own (quarters, has, back, front) =
    let few = quarters_of quarters back front in (
      record { reflect = unsigned_of kind.STRANS own / 2 ^ 15 == 1; quarters = few.0; whole = few.1 },
      record { mirrors = Decides-eqb (unsigned_of kind.STRANS own / 2 ^ 15) 1; circles = few.2.0; turns = subst (HasQuarters own) few.2.1 has },
    )

-- ---- arrays

-- a count of two bytes that is not below 1
count_there : (z : ℤ) → FitsSigned w16 z → pos 1 ≤ℤ z → (n : ℕ) × (pos n ≡ z) × (1 ≤ n) × (n < 2 ^ 15)
count_there (pos n) fits some = (n, refl, omega (arith, ints), omega (arith, ints))
count_there (negsuc n) fits some = absurd (omega (arith, ints))

-- a product by a count that is not 0 is no smaller
grows : (n : ℕ) (z : ℤ) → 1 ≤ n → nat_abs z ≤ nat_abs (pos n *ℤ z)
grows n (pos a) some = rw (mul_comm n a) (le-mul_of_pos_right a some)
grows n (negsuc a) some =
    let product = pos-*ℤ-negsuc n a in
    let more : suc a ≤ suc a * n = le-mul_of_pos_right (suc a) some in
    let turned = mul_comm n (suc a) in
    omega (arith, ints)

step_is_near : (n : ℕ) (from to step : ℤ) → 1 ≤ n → FitsSigned w32 from → FitsSigned w32 to → from +ℤ (pos n *ℤ step) ≡ to → nat_abs step ≤ 2 ^ 32
step_is_near n from to step some from_fits to_fits leads = let less = grows n step some in omega (arith, ints)

step_fits : (n : ℕ) (count : ℤ) (from to : Point) (step : ℤ × ℤ) → 1 ≤ n → pos n ≡ count → IsPoint from → IsPoint to → Leads count from to step → IsStep step
step_fits n count from to step some is from_fits to_fits leads = record {
  across = step_is_near n from.x to.x step.0 some from_fits.across to_fits.across (ap (λ (k : ℤ). from.x +ℤ (k *ℤ step.0)) is ∙ leads.across);
  up = step_is_near n from.y to.y step.1 some from_fits.up to_fits.up (ap (λ (k : ℤ). from.y +ℤ (k *ℤ step.1)) is ∙ leads.up);
}

lattice_there : (own : List Entry) → ElementHolds own has_columns_and_rows → ElementHolds own has_whole_steps
    → (lattice : Lattice) × IsLattice own lattice
lattice_there own (some_columns, some_rows) (column_step, row_step, steps) =
    let columns = count_there (columns_of own) (short_fits _) some_columns in
    let rows = count_there (rows_of own) (short_fits _) some_rows in
    let first = point_fits (body_of kind.XY own) 0 in (
      record {
        columns = columns.0;
        rows = rows.0;
        column_step = column_step;
        row_step = row_step;
        some_columns = columns.2;
        few_columns = columns.3;
        some_rows = rows.2;
        few_rows = rows.3;
        column_step_fits = step_fits columns.0 (columns_of own) _ _ column_step columns.2 columns.1 first (point_fits (body_of kind.XY own) 1) steps.columns;
        row_step_fits = step_fits rows.0 (rows_of own) _ _ row_step rows.2 rows.1 first (point_fits (body_of kind.XY own) 2) steps.rows;
      },
      record { columns = columns.1; rows = rows.1; steps = steps },
    )

-- ---- references

reference_there : (at : ℕ) (own : List Entry) (turn : Turn) (lattice : Option Lattice) → HaveBytes own → IsTurn own turn
    → (reference : Reference) × IsReference at own reference × (reference.lattice ≡ lattice)
reference_there at own turn lattice have is_turn =
    let target = text_there (body_of kind.SNAME own) (body_has_bytes own have kind.SNAME) in (
      record {
        at = at;
        target = target.text;
        turn = turn;
        origin = point_in (body_of kind.XY own) 0;
        lattice = lattice;
        target_fits = target.are_bytes;
        origin_fits = point_fits (body_of kind.XY own) 0;
      },
      record { place = refl; is_target = target.is_text; is_turn = is_turn; is_origin = refl },
      refl,
    )

-- ---- what is kept

-- Something is kept of an element of this form.
abbrev pub Keeps : ℕ → List Entry → ElementForm → Type 0
Keeps at own form = All (ElementHolds own) (element_checks form) → (kept : Option Element) × IsKept at own form.opening kept

module _ (at : ℕ) (own : List Entry) (have : HaveBytes own) where
  keeps_boundary : Keeps at own boundary_form
  keeps_boundary all = let shape = shape_there at Boundary kind.DATATYPE own have tt in (Some (shape_element shape.0), boundary shape.1)

  keeps_path : Keeps at own path_form
  keeps_path all = let shape = shape_there at (path_kind own) kind.DATATYPE own have (path_fits own) in (Some (shape_element shape.0), path shape.1)

  keeps_box : Keeps at own box_form
  keeps_box all = let shape = shape_there at BoxElement kind.BOXTYPE own have tt in (Some (shape_element shape.0), box shape.1)

  keeps_sref : Keeps at own sref_form
  keeps_sref all =
      let turn = turn_there own (all 5 turns_by_quarters (omega arith)) in
      let reference = reference_there at own turn.0 None have turn.1 in
      (Some (reference_element reference.0), sref reference.1 reference.2)

  keeps_aref : Keeps at own aref_form
  keeps_aref all =
      let turn = turn_there own (all 6 turns_by_quarters (omega arith)) in
      let lattice = lattice_there own (all 7 has_columns_and_rows (omega arith)) (all 8 has_whole_steps (omega arith)) in
      let reference = reference_there at own turn.0 (Some lattice.0) have turn.1 in
      (Some (reference_element reference.0), aref reference.1 reference.2 lattice.1)

  pub kept_there : (form : ElementForm) → Contains element_forms form → Keeps at own form
  kept_there = each_form (Keeps at own) keeps_boundary keeps_path keeps_sref keeps_aref (λ all. (None, text)) (λ all. (None, node)) keeps_box
