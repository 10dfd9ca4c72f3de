-- What the library of rectangles is written as.
use Rattle.std.proofs.Common.{◌≡◌, ℕ, suc, codes, ◌+◌, ◌*◌, List, [], ◌∷◌, ◌++◌, map, length, refl, ap, ◌∙◌, arith, length-append}
use Rattle.lists.proofs.Words.{flat_map, flat_map-append}
use Rattle.first_refusal.specs.Outcomes.{value}
use Rattle.geo_core.specs.declared.plane.Rect.{Rect}
use Rattle.gds_records.specs.declared.forms.TheConstants as form
use Rattle.gds_records.specs.declared.kinds.TheConstants as kind
use Rattle.gds_records.specs.RecordSpelling.{Entry, spelling, spellings}
use Rattle.library_grammar.specs.FirstFault.{BytesComeTo}
use Rattle.library_model.specs.declared.library.Library.{Library}
use Rattle.gds_write.specs.Bodies.{bare, date_entry, entry, text_entry, unsigned_entry}
use Rattle.gds_write.specs.SameLibrary.{IsSameButOffsets}
use Rattle.gds_write.specs.Written.{written, written_element, written_head, written_structure}
use Rattle.gds_write.proofs.laws.Written.{written_reads}
use Rattle.region_out.specs.RegionLibraries.{AreUnits, region_element, region_library_of, region_structure}
use Rattle.region_out.proofs.FormLaws.{is_well_formed}

-- ---- how many bytes there are

-- records in front of others
longer : (front rest : List Entry) (m n : ℕ) → length (spellings front) ≡ m → length (spellings rest) ≡ n → length (spellings (front ++ rest)) ≡ m + n
longer front rest m n of_front of_rest =
    let both = ap length (flat_map-append spelling front rest) ∙ length-append (spellings front) (spellings rest) in cc (both, of_front, of_rest)

-- a record has four bytes more than its body
one_long : (e : Entry) → length (spellings (e ∷ [])) ≡ 4 + length e.body
one_long e = omega (arith, length-append e.body [])

next_long : (n : ℕ) → 64 + 64 * n ≡ 64 * suc n
next_long n = omega arith

elements_of : List Rect → List Entry
elements_of rects = flat_map written_element (map region_element rects)

elements_long : (rects : List Rect) → length (spellings (elements_of rects)) ≡ 64 * length rects
unfolding elements_of
elements_long [] = refl
elements_long (rect ∷ rects) =
    longer (written_element (region_element rect)) (elements_of rects) 64 (64 * length rects) refl (elements_long rects) ∙ next_long (length rects)

-- BGNSTR and STRNAME
opening : List Entry
opening = date_entry kind.BGNSTR ∷ text_entry kind.STRNAME (codes "CRIT") ∷ []

structure_long : (rects : List Rect) → length (spellings (written_structure (region_structure rects))) ≡ 36 + 64 * length rects + 4
unfolding elements_of opening
structure_long rects =
    longer (opening ++ elements_of rects) (bare kind.ENDSTR ∷ []) (36 + 64 * length rects) 4
    (longer opening (elements_of rects) 36 (64 * length rects) refl (elements_long rects)) refl

-- HEADER, BGNLIB and LIBNAME
beginning : List Entry
beginning = unsigned_entry kind.HEADER 600 ∷ date_entry kind.BGNLIB ∷ text_entry kind.LIBNAME (codes "CRIT") ∷ []

module _ (rects : List Rect) (units : List ℕ) (fit : AreUnits units) where
  head_long : length (spellings (written_head (region_library_of rects units fit))) ≡ 62
  unfolding beginning
  head_long =
      let last : Entry = entry kind.UNITS form.EIGHT_BYTE_REALS units in
      longer beginning (last ∷ []) 42 20 refl (one_long last ∙ ap (λ n. 4 + n) fit.count)

  total : (n : ℕ) → 62 + (36 + 64 * n + 4 + 0) + 4 ≡ 106 + 64 * n
  total n = omega arith

  pub bytes_long : length (spellings (written (region_library_of rects units fit))) ≡ 106 + 64 * length rects
  bytes_long =
      let head = written_head (region_library_of rects units fit) in
      let structure = written_structure (region_structure rects) in
      longer (head ++ (structure ++ [])) (bare kind.ENDLIB ∷ []) (62 + (36 + 64 * length rects + 4 + 0)) 4
      (longer head (structure ++ []) 62 (36 + 64 * length rects + 4 + 0) head_long
      (longer structure [] (36 + 64 * length rects + 4) 0 (structure_long rects) refl)) refl
      ∙ total (length rects)

-- ---- what they read as

pub library_reads : (rects : List Rect) (units : List ℕ) (fit : AreUnits units)
    → (read : Library) × IsSameButOffsets (region_library_of rects units fit) read × BytesComeTo (spellings (written (region_library_of rects units fit))) (value read)
library_reads rects units fit = written_reads (region_library_of rects units fit) (is_well_formed rects units fit)
