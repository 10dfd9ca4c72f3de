-- rectangles of a metal with their islands
use Rattle.std.proofs.Common.{ℕ, zero, suc, ◌+◌, ◌<◌, ◌≤◌, ◌≡◌, refl, sym, ap, ◌∙◌, subst, List, [], ◌∷◌, length, map, arith, ◌↔◌, Some, slice_get}
use Rattle.lists.proofs.Words.{slice_get_within}
use Rattle.paths.specs.Paths.{stay}
use Rattle.geo_core.specs.Plane.{Has, HasNumber, IsInUnion}
use Rattle.geo_core.specs.declared.plane.Cell.{Cell}
use Rattle.geo_core.specs.declared.plane.Half.{Half}
use Rattle.geo_core.specs.declared.plane.Labelled.{Labelled}
use Rattle.geo_core.specs.declared.plane.Rect.{Rect}
use Rattle.fault_model.specs.FaultNames.{IsLabelling, IsOn, IsSameIsland}
use Rattle.islands.specs.Islands.{LabelsAreIslands}
use Rattle.net_extract.specs.inside.LabelledCells.{HasLabelled}
use Rattle.net_extract.specs.inside.Numbering.{AreIslandsFrom}
use Rattle.lists.proofs.Containing.{Contains-slice_get, number_of}

-- an item of a mapped list, by its number, is what the item with that number becomes
pub got_mapped : {X Y : Type 0} (f : X → Y) (xs : List X) (k : ℕ) (x : X) → slice_get xs k ≡ Some x → slice_get (map f xs) k ≡ Some (f x)
got_mapped f [] k x e = cc e
got_mapped f (y ∷ xs) zero x e = let same : y ≡ x = cc e in ap (λ z. Some (f z)) same
got_mapped f (y ∷ xs) (suc k) x e = got_mapped f xs k x e

pub got_unmapped : {X Y : Type 0} (f : X → Y) (xs : List X) (k : ℕ) (y : Y) → slice_get (map f xs) k ≡ Some y → (x : X) × (slice_get xs k ≡ Some x) × (f x ≡ y)
got_unmapped f [] k y e = cc e
got_unmapped f (x ∷ xs) zero y e = let same : f x ≡ y = cc e in (x, refl, same)
got_unmapped f (x ∷ xs) (suc k) y e = got_unmapped f xs k y e

-- a label is the least number of a chain, so it is no greater than its own number
pub label_small : (rects : List Rect) (labels : List ℕ) → IsLabelling rects labels → (k m : ℕ) → slice_get labels k ≡ Some m → m ≤ k
label_small rects labels labelling k m at =
    let one_each = labelling.one_each in
    let small : k < length rects = let h = slice_get_within labels k m at in omega arith in
    labelling.least k m k at (stay small)

abbrev pub rect_of : Labelled → Rect
rect_of labelled = labelled.rect

abbrev pub label_of : Labelled → ℕ
label_of labelled = labelled.label

module _ (rects : List Rect) (labels : List ℕ) (first : ℕ) (islands : List Labelled) (same_rects : map rect_of islands ≡ rects) (same_labels : map label_of islands ≡ map (λ n. first + n) labels)
    (labelling : IsLabelling rects labels) (tell : LabelsAreIslands rects labels) where
  -- the number of a rectangle with this island that has the cell, and its label
  record IsReached (i : ℕ) (c : Cell) : Type 0 where
    number : ℕ
    label : ℕ
    rect : Rect
    at : HasNumber rects number rect
    has : Has rect c
    labelled : slice_get labels number ≡ Some label
    is : i ≡ first + label

  reached : (i : ℕ) (c : Cell) → HasLabelled islands i c → IsReached i c
  reached i c h =
      let number = number_of islands h.labelled h.among in
      let label = got_unmapped (λ n. first + n) labels number.0 h.labelled.label (subst (λ xs. slice_get xs number.0 ≡ Some h.labelled.label) same_labels
      (got_mapped label_of islands number.0 h.labelled number.1)) in
      record {
        number = number.0;
        label = label.0;
        rect = h.labelled.rect;
        at = subst (λ xs. slice_get xs number.0 ≡ Some h.labelled.rect) same_rects (got_mapped rect_of islands number.0 h.labelled number.1);
        has = h.has;
        labelled = label.1;
        is = sym h.carries ∙ sym label.2;
      }

  in_union : (i : ℕ) (c : Cell) → HasLabelled islands i c → IsInUnion rects c
  in_union i c h = let r = reached i c h in record { number = r.number; rect = r.rect; at = r.at; has = r.has }

  from_union : (c : Cell) → IsInUnion rects c → (i : ℕ) × HasLabelled islands i c
  from_union c v =
      let found = got_unmapped rect_of islands v.number v.rect (subst (λ xs. slice_get xs v.number ≡ Some v.rect) (sym same_rects) v.at) in
      (found.0.label, record { labelled = found.0; among = Contains-slice_get islands v.number found.0 found.1; carries = refl; has = subst (λ r. Has r c) (sym found.2) v.has })

  same_sum : (i k m n : ℕ) → i ≡ first + m → k ≡ first + n → (i ≡ k) ↔ (m ≡ n)
  same_sum i k m n e f = (λ h. omega arith, λ h. omega arith)

  told : (i k : ℕ) (p q : Half) → IsOn (HasLabelled islands i) p → IsOn (HasLabelled islands k) q → (i ≡ k) ↔ IsSameIsland (IsInUnion rects) p q
  told i k p q p_on q_on =
      let r = reached i p_on.0 p_on.2 in
      let s = reached k q_on.0 q_on.2 in
      let tells = tell r.number s.number r.label s.label p q r.labelled s.labelled
      (record { rect = r.rect; at = r.at; on = (p_on.0, p_on.1, r.has) }) (record { rect = s.rect; at = s.at; on = (q_on.0, q_on.1, s.has) }) in
      let same = same_sum i k r.label s.label r.is s.is in
      (λ e. tells.0 (same.0 e), λ walk. same.1 (tells.1 walk))

  bounds : (i n m : ℕ) → i ≡ first + m → m ≤ n → n < length rects → (first ≤ i) × (i < first + length rects)
  bounds i n m e small within = (omega arith, omega arith)

  pub islands_from : AreIslandsFrom rects first (first + length rects) islands
  islands_from = record {
    covered = λ c. (λ h. in_union h.0 c h.1, from_union c);
    joined = told;
    within = λ i c h. let r = reached i c h in bounds i r.number r.label r.is (label_small rects labels labelling r.number r.label r.labelled) (slice_get_within rects r.number r.rect r.at);
  }
