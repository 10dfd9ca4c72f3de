-- The library that is generated can be written, so that its bytes read back.
use Rattle.std.proofs.Common.{◌≡◌, ◌≢◌, ℕ, pos, ◌+ℤ◌, ◌*ℤ◌, ◌<◌, ◌≤◌, ◌^◌, List, [], ◌∷◌, length, All, IsTrue, nat_lt, codes, refl, subst, arith, lit≤, FitsSigned, w32, IfOk, Result, Ok, Err, ◌∙◌}
use Rattle.std.proofs.Math.Facts.{sfits_lit}
use Rattle.lists.proofs.Containing.{All-back}
use Rattle.lists.proofs.Words.{All-cons, All-nil, All-head, AllPairs-cons, ints, list_all, ltb-true}
use Rattle.geo_core.specs.Plane.{IsOutline}
use Rattle.geo_core.specs.declared.plane.Point.{Point}
use Rattle.library_grammar.specs.GrammarNames.{AreDifferent, IsPoint, ArePoints}
use Rattle.gds_write.specs.WellFormed.{IsWritableName, IsWritableShape, IsWritableReference, IsWritableElement, IsWritableStructure, IsWellFormed}
use Rattle.gds_write.specs.Written.{array_points, moved_by}
use Rattle.library_model.specs.declared.element.Element.{Element}
use Rattle.library_model.specs.declared.element.Element.TheVariants.{Shape as shape_element, Reference as reference_element}
use Rattle.library_model.specs.declared.library.Structure.{Structure}
use Rattle.library_model.proofs.laws.SameParts.{same_structure}
use Rattle.lists.specs.declared.memory.NoMemory.{NoMemory}
use Rattle.layout_gen.specs.SmallOutlines.{corner, outline, are_small}
use Rattle.layout_gen.specs.Fitting.{by_test, few_columns}
use Rattle.layout_gen.specs.Generated.{boundary, cell, cell_array, columns_of, lattice, top, generated_library, generated_layout}

-- lists are the same where their first items and the rests are
pub same_cons : {A : Type 0} {x y : A} {xs ys : List A} → x ≡ y → xs ≡ ys → (x ∷ xs) ≡ (y ∷ ys)
same_cons first rest = cc

-- a structure that was made with the parts of another is that one
pub with_its_parts : (wanted : Structure) (elements : List Element) (made : Result Structure NoMemory) → IfOk made (λ s. s.at ≡ wanted.at)
    → IfOk made (λ s. s.name ≡ wanted.name) → IfOk made (λ s. s.elements ≡ elements) → elements ≡ wanted.elements → IfOk made (λ s. s ≡ wanted)
with_its_parts wanted elements (Ok made) at name has same = same_structure made wanted at name (has ∙ same)
with_its_parts wanted elements (Err fault) at name has same = tt

-- there are as many columns as are asked for
pub as_many : (asked : ℕ) → 1 ≤ asked → asked ≤ 500 → asked ≡ columns_of asked
as_many asked some few = omega arith

-- ---- names

abbrev IsAboveZero : ℕ → Type 0
IsAboveZero b = 0 < b

-- a name without zero bytes can be written
writable_name : (name : List ℕ) → length name ≤ 65530 → IsTrue (list_all (λ b. nat_lt 0 b) name) → IsWritableName name
writable_name name short passes =
    let all = by_test IsAboveZero (λ b. nat_lt 0 b) (λ b. ltb-true 0 b) name passes in
    record {
      short = short;
      no_zero_last = λ front same.
          let last : 0 < 0 = All-head IsAboveZero 0 [] (All-back IsAboveZero front (0 ∷ []) (subst (All IsAboveZero) same all)) in absurd (omega arith);
    }

-- ---- elements

-- an outline is one
outline_is_closed : (right bottom top : ℕ) → IsOutline (outline right bottom top)
outline_is_closed right bottom top =
    record {
      count = lit≤ tt;
      closed = record { first = corner 0 bottom; between = corner right bottom ∷ corner right top ∷ corner 0 top ∷ []; parts = refl };
    }

-- a boundary can be written
boundary_is_writable : (layer right bottom top : ℕ) (small : IsTrue (are_small (layer ∷ right ∷ bottom ∷ top ∷ []))) → IsWritableShape (boundary layer right bottom top small)
boundary_is_writable layer right bottom top small = record { few = lit≤ tt; points = outline_is_closed right bottom top }

-- the columns, and the rows, end within four bytes
steps_fit : (count : ℕ) → count < 2 ^ 15 → FitsSigned w32 (pos 0 +ℤ (pos count *ℤ pos 20))
steps_fit count few = omega (arith, ints)

no_steps_fit : (count : ℕ) → FitsSigned w32 (pos 0 +ℤ (pos count *ℤ pos 0))
no_steps_fit count = omega (arith, ints)

-- the origin and the ends of columns and rows are points
array_fits : (asked : ℕ) → ArePoints (array_points (corner 0 0) (lattice asked))
array_fits asked =
    let count : ℕ = columns_of asked in
    let few = few_columns asked in
    let origin : Point = corner 0 0 in
    let right : Point = moved_by count (pos 20, pos 0) origin in
    let above : Point = moved_by count (pos 0, pos 20) origin in
    All-cons IsPoint origin (right ∷ above ∷ []) (record { across = sfits_lit tt; up = sfits_lit tt })
    (All-cons IsPoint right (above ∷ []) (record { across = steps_fit count few; up = no_steps_fit count })
    (All-cons IsPoint above [] (record { across = no_steps_fit count; up = steps_fit count few }) (All-nil IsPoint)))

-- the array can be written
array_is_writable : (asked : ℕ) → IsWritableReference (cell_array asked)
array_is_writable asked = record { target = writable_name (codes "CELL") (lit≤ tt) refl; lattice = array_fits asked }

-- ---- structures and the library

-- what holds of four items holds of their list
four_hold : {X : Type 0} (P : X → Type 0) (a b c d : X) → P a → P b → P c → P d → All P (a ∷ b ∷ c ∷ d ∷ [])
four_hold P a b c d of_a of_b of_c of_d =
    All-cons P a (b ∷ c ∷ d ∷ []) of_a (All-cons P b (c ∷ d ∷ []) of_b (All-cons P c (d ∷ []) of_c (All-cons P d [] of_d (All-nil P))))

-- the structures can be written
cell_is_writable : IsWritableStructure cell
cell_is_writable =
    record {
      name = writable_name (codes "CELL") (lit≤ tt) refl;
      elements =
          four_hold IsWritableElement (shape_element (boundary 1 12 0 4 refl)) (shape_element (boundary 1 12 8 12 refl))
          (shape_element (boundary 2 2 0 2 refl)) (shape_element (boundary 3 4 0 12 refl))
          (boundary_is_writable 1 12 0 4 refl) (boundary_is_writable 1 12 8 12 refl) (boundary_is_writable 2 2 0 2 refl) (boundary_is_writable 3 4 0 12 refl);
    }

top_is_writable : (asked : ℕ) → IsWritableStructure (top asked)
top_is_writable asked =
    record {
      name = writable_name (codes "TOP") (lit≤ tt) refl;
      elements = All-cons IsWritableElement (reference_element (cell_array asked)) [] (array_is_writable asked) (All-nil IsWritableElement);
    }

-- their names differ
names_differ : AreDifferent (codes "CELL" ∷ codes "TOP" ∷ [])
names_differ =
    AllPairs-cons (λ one other. one ≢ other) (codes "CELL") (codes "TOP" ∷ [])
    (All-cons (λ other. codes "CELL" ≢ other) (codes "TOP") [] (λ same. cc) (All-nil (λ other. codes "CELL" ≢ other)))
    (AllPairs-cons (λ one other. one ≢ other) (codes "TOP") [] (All-nil (λ other. codes "TOP" ≢ other)) (λ i j d before within. absurd (omega arith)))

-- so the library can be written
pub is_well_formed : (asked : ℕ) → IsWellFormed (generated_library asked)
is_well_formed asked =
    record {
      name = writable_name (codes "GEN") (lit≤ tt) refl;
      differ = names_differ;
      structures =
          All-cons IsWritableStructure cell (top asked ∷ []) cell_is_writable
          (All-cons IsWritableStructure (top asked) [] (top_is_writable asked) (All-nil IsWritableStructure));
    }

-- its bytes are as many whatever is asked for
pub length-generated_layout : (asked : ℕ) → length (generated_layout asked) ≡ 454
unfolding generated_layout
length-generated_layout asked = refl
