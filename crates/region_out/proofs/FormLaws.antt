-- The library of rectangles can be written.
use Rattle.std.proofs.Common.{◌≡◌, ◌≢◌, ℕ, ◌<◌, List, [], ◌∷◌, All, codes, refl, subst, arith, lit<, lit≤}
use Rattle.lists.proofs.Containing.{All-back, all_of_each}
use Rattle.lists.proofs.Words.{All-cons, All-nil, All-head, All-map, AllPairs-cons}
use Rattle.geo_core.specs.Plane.{IsOutline, circuit}
use Rattle.geo_core.specs.declared.plane.Rect.{Rect}
use Rattle.outlines.specs.Rectangles.{rectangle_corners}
use Rattle.library_grammar.specs.GrammarNames.{AreDifferent}
use Rattle.gds_write.specs.WellFormed.{IsWritableName, IsWritableElement, IsWritableStructure, IsWellFormed}
use Rattle.region_out.specs.RegionFits.{four_hold}
use Rattle.region_out.specs.RegionLibraries.{AreUnits, region_element, region_library_of, region_structure}

-- lists are the same where their first items and the rests are
pub same_cons : {A : Type 0} {x y : A} {xs ys : List A} → x ≡ y → xs ≡ ys → (x ∷ xs) ≡ (y ∷ ys)
same_cons first rest = cc

abbrev IsAboveZero : ℕ → Type 0
IsAboveZero b = 0 < b

-- the name has no zero byte
writable_name : IsWritableName (codes "CRIT")
writable_name =
    let all = four_hold IsAboveZero 67 82 73 84 (lit< tt) (lit< tt) (lit< tt) (lit< tt) in
    record {
      short = lit≤ tt;
      no_zero_last = λ front same.
          let last : 0 < 0 = All-head IsAboveZero 0 [] (All-back IsAboveZero front (0 ∷ []) (subst (All IsAboveZero) same all)) in absurd (omega arith);
    }

-- the corners of a rectangle, and the first again, are an outline
outline_is_closed : (rect : Rect) → IsOutline (circuit (rectangle_corners rect))
outline_is_closed rect =
    record {
      count = lit≤ tt;
      closed = record {
        first = record { x = rect.x0; y = rect.y0 };
        between = record { x = rect.x1; y = rect.y0 } ∷ record { x = rect.x1; y = rect.y1 } ∷ record { x = rect.x0; y = rect.y1 } ∷ [];
        parts = refl;
      };
    }

-- so a boundary can be written
boundary_is_writable : (rect : Rect) → IsWritableElement (region_element rect)
boundary_is_writable rect = record { few = lit≤ tt; points = outline_is_closed rect }

structure_is_writable : (rects : List Rect) → IsWritableStructure (region_structure rects)
structure_is_writable rects =
    record {
      name = writable_name;
      elements =
          All-map IsWritableElement region_element rects
          (all_of_each (λ rect. IsWritableElement (region_element rect)) rects (λ rect among. boundary_is_writable rect));
    }

-- one name differs from no other
one_differs : (name : List ℕ) → AreDifferent (name ∷ [])
one_differs name =
    AllPairs-cons (λ one other. one ≢ other) name [] (All-nil (λ other. name ≢ other)) (λ i j d before within. absurd (omega arith))

-- so the library can be written
pub is_well_formed : (rects : List Rect) (units : List ℕ) (fit : AreUnits units) → IsWellFormed (region_library_of rects units fit)
is_well_formed rects units fit =
    record {
      name = writable_name;
      differ = one_differs (codes "CRIT");
      structures = All-cons IsWritableStructure (region_structure rects) [] (structure_is_writable rects) (All-nil IsWritableStructure);
    }
