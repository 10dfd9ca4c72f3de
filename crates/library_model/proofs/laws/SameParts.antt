-- What a stream contains is told by its contents: the facts that go with them hold in one way at most.
use Rattle.std.proofs.Common.{◌≡◌, ℕ, ℤ, ◌<◌, ◌≤◌, ◌^◌, Bool, List, length, Option, ap, subst}
use Rattle.lists.proofs.Words.{props}
use Rattle.geo_core.specs.declared.plane.Point.{Point}
use Rattle.geo_core.specs.declared.plane.Turn.{Turn}
use Rattle.lists.specs.ByteLists.{AreBytes}
use Rattle.library_model.specs.Ranges.{IsPoint, ArePoints, IsKind, IsKind-prop, IsStep}
use Rattle.library_model.specs.declared.element.Element.{Element}
use Rattle.library_model.specs.declared.element.Lattice.{Lattice}
use Rattle.library_model.specs.declared.element.Reference.{Reference}
use Rattle.library_model.specs.declared.element.Shape.{Shape}
use Rattle.library_model.specs.declared.element.ShapeKind.{ShapeKind}
use Rattle.library_model.specs.declared.library.Library.{Library}
use Rattle.library_model.specs.declared.library.Structure.{Structure}

-- what is made of contents and of facts about them is told by the contents
same_made : {A S : Type 0} (Facts : A → Type 0) → ((a : A) → IsProp (Facts a)) → (make : (a : A) → Facts a → S) (a b : A) (f : Facts a) (g : Facts b)
    → a ≡ b → make a f ≡ make b g
same_made Facts once make a b f g same = subst (λ y. (h : Facts y) → make a f ≡ make y h) same (λ h. ap (make a) (once a f h)) g

-- ---- shapes

abbrev ShapeContents : Type 0
ShapeContents = ℕ × ShapeKind × ℕ × ℕ × List Point

abbrev ShapeFacts : ShapeContents → Type 0
ShapeFacts a = IsKind a.1 × (a.2 < 2 ^ 16) × (a.3 < 2 ^ 16) × ArePoints a.4

abbrev shape_with : (a : ShapeContents) → ShapeFacts a → Shape
shape_with a f = record { at = a.0; kind = a.1; layer = a.2; datatype = a.3; points = a.4; kind_fits = f.0; layer_fits = f.1; datatype_fits = f.2; points_fit = f.3 }

pub same_shape : (s t : Shape) → s.at ≡ t.at → s.kind ≡ t.kind → s.layer ≡ t.layer → s.datatype ≡ t.datatype → s.points ≡ t.points → s ≡ t
same_shape s t places kinds layers datatypes points =
    same_made ShapeFacts (λ a. hlevel (props, IsKind-prop)) shape_with (s.at, s.kind, s.layer, s.datatype, s.points) (t.at, t.kind, t.layer, t.datatype, t.points)
    (s.kind_fits, s.layer_fits, s.datatype_fits, s.points_fit) (t.kind_fits, t.layer_fits, t.datatype_fits, t.points_fit) (cc (places, kinds, layers, datatypes, points))

-- ---- references

abbrev turn_with : (a : Bool × ℕ) → a.1 < 4 → Turn
turn_with a f = record { reflect = a.0; quarters = a.1; whole = f }

pub same_turn : (s t : Turn) → s.reflect ≡ t.reflect → s.quarters ≡ t.quarters → s ≡ t
same_turn s t reflects quarters =
    same_made (λ (a : Bool × ℕ). a.1 < 4) (λ a. hlevel props) turn_with (s.reflect, s.quarters) (t.reflect, t.quarters) s.whole t.whole (cc (reflects, quarters))

abbrev LatticeContents : Type 0
LatticeContents = ℕ × ℕ × (ℤ × ℤ) × (ℤ × ℤ)

abbrev LatticeFacts : LatticeContents → Type 0
LatticeFacts a = (1 ≤ a.0) × (a.0 < 2 ^ 15) × (1 ≤ a.1) × (a.1 < 2 ^ 15) × IsStep a.2 × IsStep a.3

abbrev lattice_with : (a : LatticeContents) → LatticeFacts a → Lattice
lattice_with a f = record {
  columns = a.0;
  rows = a.1;
  column_step = a.2;
  row_step = a.3;
  some_columns = f.0;
  few_columns = f.1;
  some_rows = f.2;
  few_rows = f.3;
  column_step_fits = f.4;
  row_step_fits = f.5;
}

pub same_lattice : (s t : Lattice) → s.columns ≡ t.columns → s.rows ≡ t.rows → s.column_step ≡ t.column_step → s.row_step ≡ t.row_step → s ≡ t
same_lattice s t columns rows column_steps row_steps =
    same_made LatticeFacts (λ a. hlevel props) lattice_with (s.columns, s.rows, s.column_step, s.row_step) (t.columns, t.rows, t.column_step, t.row_step)
    (s.some_columns, s.few_columns, s.some_rows, s.few_rows, s.column_step_fits, s.row_step_fits)
    (t.some_columns, t.few_columns, t.some_rows, t.few_rows, t.column_step_fits, t.row_step_fits) (cc (columns, rows, column_steps, row_steps))

abbrev ReferenceContents : Type 0
ReferenceContents = ℕ × List ℕ × Turn × Point × Option Lattice

abbrev ReferenceFacts : ReferenceContents → Type 0
ReferenceFacts a = AreBytes a.1 × IsPoint a.3

abbrev reference_with : (a : ReferenceContents) → ReferenceFacts a → Reference
reference_with a f = record { at = a.0; target = a.1; turn = a.2; origin = a.3; lattice = a.4; target_fits = f.0; origin_fits = f.1 }

pub same_reference : (s t : Reference) → s.at ≡ t.at → s.target ≡ t.target → s.turn ≡ t.turn → s.origin ≡ t.origin → s.lattice ≡ t.lattice → s ≡ t
same_reference s t places targets turns origins lattices =
    same_made ReferenceFacts (λ a. hlevel props) reference_with (s.at, s.target, s.turn, s.origin, s.lattice) (t.at, t.target, t.turn, t.origin, t.lattice)
    (s.target_fits, s.origin_fits) (t.target_fits, t.origin_fits) (cc (places, targets, turns, origins, lattices))

-- ---- structures and libraries

abbrev structure_with : (a : ℕ × List ℕ × List Element) → AreBytes a.1 → Structure
structure_with a f = record { at = a.0; name = a.1; elements = a.2; name_fits = f }

pub same_structure : (s t : Structure) → s.at ≡ t.at → s.name ≡ t.name → s.elements ≡ t.elements → s ≡ t
same_structure s t places names elements =
    same_made (λ (a : ℕ × List ℕ × List Element). AreBytes a.1) (λ a. hlevel props) structure_with (s.at, s.name, s.elements) (t.at, t.name, t.elements)
    s.name_fits t.name_fits (cc (places, names, elements))

abbrev LibraryContents : Type 0
LibraryContents = List ℕ × List ℕ × List Structure

abbrev LibraryFacts : LibraryContents → Type 0
LibraryFacts a = AreBytes a.0 × (length a.1 ≡ 16) × AreBytes a.1

abbrev library_with : (a : LibraryContents) → LibraryFacts a → Library
library_with a f = record { name = a.0; units = a.1; structures = a.2; name_fits = f.0; units_count = f.1; units_fit = f.2 }

pub same_library : (s t : Library) → s.name ≡ t.name → s.units ≡ t.units → s.structures ≡ t.structures → s ≡ t
same_library s t names units structures =
    same_made LibraryFacts (λ a. hlevel props) library_with (s.name, s.units, s.structures) (t.name, t.units, t.structures)
    (s.name_fits, s.units_count, s.units_fit) (t.name_fits, t.units_count, t.units_fit) (cc (names, units, structures))
