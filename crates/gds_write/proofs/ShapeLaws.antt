-- What a shape's own records say of it, as they are written.
use Rattle.std.proofs.Common.{◌≡◌, ℕ, suc, ◌≤◌, ℤ, Bool, true, false, ◌==◌, List, [], ◌∷◌, ◌++◌, length, All, Contains, Option, Some, refl, sym, ap, subst, ◌∙◌, arith, append_assoc, w16, w32}
use Rattle.std.proofs.Common.{FitsSigned, None, if◌then◌else◌, unwrap_or}
use Rattle.lists.proofs.Words.{cast_signed, flat_map, eqb-true}
use Rattle.geo_core.specs.declared.plane.Point.{Point}
use Rattle.library_grammar.specs.GrammarNames.{unsigned_of, item, Entry, ElementHolds, element_checks, ElementForm, boundary_form, path_form, box_form, path_kind, IsKept, field, points_in, points_of}
use Rattle.library_grammar.specs.GrammarNames.{short_of, long_of, IsClosed, HasItsPoints, ArePoints, IsKind, kinds_of}
use Rattle.gds_records.specs.declared.kinds.TheConstants as kind
use Rattle.library_grammar.specs.Elements.{boundary as keeps_boundary, path as keeps_path, box as keeps_box}
use Rattle.library_model.specs.declared.element.Element.TheVariants.{Shape as shape_element}
use Rattle.library_model.specs.declared.element.Shape.{Shape}
use Rattle.library_model.specs.declared.element.ShapeKind.{ShapeKind}
use Rattle.library_model.specs.declared.element.ShapeKind.TheVariants.{Boundary, BoxElement, Path}
use Rattle.gds_write.specs.Bodies.{unsigned_entry, short_entry, long_entry, long_bytes, point_bytes, points_entry, is_not_zero}
use Rattle.gds_write.specs.Written.{opening_of_shape, datatype_kind, path_records}
use Rattle.gds_write.proofs.FieldLaws.{number_reads_by, field_of, first_of, written_of}
use Rattle.gds_write.proofs.NumberLaws.{short_reads, long_reads, points_read, two_bytes_read}
use Rattle.gds_write.proofs.Every.{more, all_of, one}

-- a kind that has a field is among the kinds
pub has_found : (k : ℕ) (own : List Entry) (body : List ℕ) → field k own ≡ Some body → Contains (kinds_of own) k
has_found k [] body found = absurd (cc)
has_found k (e ∷ own) body found = by (e.kind == k) refl (λ other. has_found k own body (rw other at found))
  where
    by : (b : Bool) → (e.kind == k) ≡ b → ((e.kind == k) ≡ false → Contains (kinds_of own) k) → Contains (kinds_of (e ∷ own)) k
    by true same behind = (0, omega arith, eqb-true e.kind k same)
    by false other behind =
        let later : Contains (kinds_of own) k = behind other in
        (suc later.0, omega (arith, later.1), later.2)

-- the form of an element that is a shape
abbrev pub form_of_shape : ShapeKind → ElementForm
form_of_shape Boundary = boundary_form
form_of_shape BoxElement = box_form
form_of_shape (Path pathtype width begin end) = path_form

-- the own records of a shape of this kind
abbrev pub shape_own : ℕ → ℕ → List Point → ShapeKind → List Entry
shape_own layer datatype points shape_kind =
    unsigned_entry kind.LAYER layer ∷ unsigned_entry (datatype_kind shape_kind) datatype ∷ path_records shape_kind ++ points_entry points ∷ []

-- the same, each with whether it is written
abbrev pub shape_parts : ℕ → ℕ → List Point → ShapeKind → List (Bool × Entry)
shape_parts layer datatype points Boundary = (true, unsigned_entry kind.LAYER layer) ∷ (true, unsigned_entry kind.DATATYPE datatype) ∷ (true, points_entry points) ∷ []
shape_parts layer datatype points BoxElement = (true, unsigned_entry kind.LAYER layer) ∷ (true, unsigned_entry kind.BOXTYPE datatype) ∷ (true, points_entry points) ∷ []
shape_parts layer datatype points (Path pathtype width begin end) =
    (true, unsigned_entry kind.LAYER layer) ∷ (true, unsigned_entry kind.DATATYPE datatype) ∷ (is_not_zero pathtype, short_entry kind.PATHTYPE pathtype)
    ∷ (is_not_zero width, long_entry kind.WIDTH width) ∷ (is_not_zero begin, long_entry kind.BGNEXTN begin) ∷ (is_not_zero end, long_entry kind.ENDEXTN end)
    ∷ (true, points_entry points) ∷ []

-- a number that is written where it is not 0 reads back
short_back : (own : List Entry) (k : ℕ) (z : ℤ) → FitsSigned w16 z → field k own ≡ (if is_not_zero z then Some (short_entry k z).body else None) → short_of k own ≡ z
short_back own k z fits has = rw has (number_reads_by (λ body. cast_signed w16 (item 2 0 body)) (short_entry k z).body z (is_not_zero z) refl (short_reads z fits))

long_back : (own : List Entry) (k : ℕ) (z : ℤ) → FitsSigned w32 z → field k own ≡ (if is_not_zero z then Some (long_bytes z) else None) → long_of k own ≡ z
long_back own k z fits has = rw has (number_reads_by (λ body. cast_signed w32 (item 4 0 body)) (long_bytes z) z (is_not_zero z) refl (long_reads z fits))

module _ (layer datatype : ℕ) (points : List Point) where
  pub shape_written : (shape_kind : ShapeKind) → shape_own layer datatype points shape_kind ≡ written_of (shape_parts layer datatype points shape_kind)
  shape_written Boundary = refl
  shape_written BoxElement = refl
  shape_written (Path pathtype width begin end) = simp append_assoc

  shape_field : (k : ℕ) (shape_kind : ShapeKind) → field k (shape_own layer datatype points shape_kind) ≡ first_of k (shape_parts layer datatype points shape_kind)
  shape_field k shape_kind = ap (field k) (shape_written shape_kind) ∙ field_of k (shape_parts layer datatype points shape_kind)

  -- the numbers of a path are read as they were
  path_reads : (pathtype width begin end : ℤ) → IsKind (Path pathtype width begin end)
      → Path pathtype width begin end ≡ path_kind (shape_own layer datatype points (Path pathtype width begin end))
  path_reads pathtype width begin end fit =
      let own : List Entry = shape_own layer datatype points (Path pathtype width begin end) in
      let has = λ (k : ℕ). shape_field k (Path pathtype width begin end) in
      let a = short_back own kind.PATHTYPE pathtype fit.0 (has kind.PATHTYPE) in
      let b = long_back own kind.WIDTH width fit.1 (has kind.WIDTH) in
      let c = long_back own kind.BGNEXTN begin fit.2 (has kind.BGNEXTN) in
      let d = long_back own kind.ENDEXTN end fit.3 (has kind.ENDEXTN) in
      sym (λ i. Path (a i) (b i) (c i) (d i))

  -- ---- a shape's

  has_xy : (shape_kind : ShapeKind) → field kind.XY (shape_own layer datatype points shape_kind) ≡ Some (flat_map point_bytes points)
  has_xy Boundary = refl
  has_xy BoxElement = refl
  has_xy (Path pathtype width begin end) = shape_field kind.XY (Path pathtype width begin end)

  points_are : (shape_kind : ShapeKind) → ArePoints points → points_of (shape_own layer datatype points shape_kind) ≡ points
  points_are shape_kind fit = ap (λ (o : Option (List ℕ)). points_in (unwrap_or o [])) (has_xy shape_kind) ∙ points_read points fit

  -- each of its checks holds
  pub shape_holds : (shape_kind : ShapeKind) → ArePoints points → HasItsPoints shape_kind points
      → All (ElementHolds (shape_own layer datatype points shape_kind)) (element_checks (form_of_shape shape_kind))
  shape_holds Boundary fit outline =
      let same = sym (points_are Boundary fit) in
      all_of {P = ElementHolds (shape_own layer datatype points Boundary)} (more (0, omega arith, refl) (more (1, omega arith, refl) (more (2, omega arith, refl)
      (more (subst (λ (ps : List Point). 4 ≤ length ps) same outline.count) (one (subst IsClosed same outline.closed))))))
  shape_holds BoxElement fit outline =
      let same = sym (points_are BoxElement fit) in
      all_of {P = ElementHolds (shape_own layer datatype points BoxElement)} (more (0, omega arith, refl) (more (2, omega arith, refl) (more (1, omega arith, refl)
      (more (subst (λ (ps : List Point). 4 ≤ length ps) same outline.count) (one (subst IsClosed same outline.closed))))))
  shape_holds (Path pathtype width begin end) fit some =
      let own : List Entry = shape_own layer datatype points (Path pathtype width begin end) in
      let same = sym (points_are (Path pathtype width begin end) fit) in
      all_of {P = ElementHolds own} (more (has_found kind.LAYER own _ refl) (more (has_found kind.DATATYPE own _ refl) (more (has_found kind.XY own _ (has_xy (Path pathtype width begin end)))
      (one (subst (λ (ps : List Point). 1 ≤ length ps) same some)))))

-- a shape that begins at another offset
abbrev pub shape_at : ℕ → Shape → Shape
shape_at at shape = record shape { at = at }

-- what is kept of it is the shape
pub shape_kept : (at : ℕ) (shape : Shape) (shape_kind : ShapeKind) → shape.kind ≡ shape_kind
    → IsKept at (shape_own shape.layer shape.datatype shape.points shape_kind) (opening_of_shape shape_kind) (Some (shape_element (shape_at at shape)))
shape_kept at shape shape_kind is =
    let layer = sym (two_bytes_read shape.layer [] shape.layer_fits) in
    let datatype = sym (two_bytes_read shape.datatype [] shape.datatype_fits) in
    let points = sym (points_are shape.layer shape.datatype shape.points shape_kind shape.points_fit) in
    by shape_kind is layer datatype points
  where
    by : (k : ShapeKind) → shape.kind ≡ k → shape.layer ≡ unsigned_of kind.LAYER (shape_own shape.layer shape.datatype shape.points k)
        → shape.datatype ≡ item 2 0 (unsigned_entry kind.DATATYPE shape.datatype).body → shape.points ≡ points_of (shape_own shape.layer shape.datatype shape.points k)
        → IsKept at (shape_own shape.layer shape.datatype shape.points k) (opening_of_shape k) (Some (shape_element (shape_at at shape)))
    by Boundary is layer datatype points = keeps_boundary (record { place = refl; is_kind = is; on_layer = layer; of_datatype = datatype; has_points = points })
    by BoxElement is layer datatype points = keeps_box (record { place = refl; is_kind = is; on_layer = layer; of_datatype = datatype; has_points = points })
    by (Path pathtype width begin end) is layer datatype points =
        let read = path_reads shape.layer shape.datatype shape.points pathtype width begin end (subst IsKind is shape.kind_fits) in
        keeps_path (record { place = refl; is_kind = is ∙ read; on_layer = layer; of_datatype = datatype; has_points = points })
