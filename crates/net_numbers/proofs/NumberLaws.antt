-- numbers of labels from the first corners, and what follows from their definition
use Rattle.std.proofs.Common.{ℕ, ◌<◌, ◌≤◌, ◌≡◌, ◌↔◌, refl, sym, ap, ◌∙◌, subst, inl, inr, arith, ltb, Bool, true, false, List, [], ◌∷◌, length, get_or, All, AllPairs, Any, Contains, Some, slice_get, zip, le_refl, lt-ltb}
use Rattle.lists.proofs.Words.{All-contains, AllZip, cases_lt, nat_tests, Called, ComputesKey, get_or_default}
use Rattle.lists.proofs.Containing.{Contains-cons_cases, Contains-head, Contains-none, Contains-tail}
use Rattle.lists.proofs.Mapping.{Contains-map, Contains-map_from}
use Rattle.std.specs.List.Sorted.{IsPartitionPoint, IsPartitionedBy, IsNonDecreasingBy}
use Rattle.std.proofs.lemmas.List.Sorted.{IsPartitionPoint-from_clause, IsPartitionedBy-ltb}
use denote.Param.Members.{Mut}
use denote.Ref.{Bor}
use Rattle.geo_core.specs.Plane.{Has}
use Rattle.geo_core.specs.declared.plane.Cell.{Cell}
use Rattle.geo_core.specs.declared.plane.Labelled.{Labelled}
use Rattle.geo_core.specs.declared.plane.Rect.{Rect}
use Rattle.net_numbers.specs.FirstCells.{AreFirstCells, HaveOwnCells, IsFirstCell, IsLabelCell, IsNumberOf, IsNumbered, IsNumberedPiece, Precedes}
use Rattle.net_numbers.specs.inside.Corners.{AreFirstCorners, cells_of}
use Rattle.net_numbers.specs.declared.corners.Corner.{Corner}
use Rattle.net_numbers.proofs.ListLaws.{one_place, same_when_rising, search_ends}
use Rattle.net_numbers.proofs.OrderLaws.{not_itself, one_way, same_cell}

-- a label has one first cell
one_first_cell : (pieces : List Labelled) (label : ℕ) (c d : Cell) → IsFirstCell pieces label c → IsFirstCell pieces label d → c ≡ d
one_first_cell pieces label c d one other = same_cell c d (other.first c one.has) (one.first d other.has)

-- ---- from the first corners to numbers

-- the cells of the first corners are the first cells
pub cells_from_corners : (pieces : List Labelled) (corners : List Corner) (cells : List Cell) → AreFirstCorners pieces corners → AllPairs Precedes cells
    → ((c : Cell) → Contains cells c ↔ Contains (cells_of corners) c) → AreFirstCells pieces cells
cells_from_corners pieces corners cells are_first up same = record {
  rising = up;
  all = λ c. (
    λ h.
        let (corner, among, is) = Contains-map_from (λ (x : Corner). x.cell) corners c ((same c).0 h) in
        (corner.label, subst (IsFirstCell pieces corner.label) is (All-contains (λ x. IsFirstCell pieces x.label x.cell) corners corner are_first.first among)),
    λ h.
        let first : IsFirstCell pieces h.0 c = h.1 in
        let piece : Labelled = first.has.piece in
        let (k, corner, small, at, label_is) = All-contains (λ x. Any (λ y. y.label ≡ x.label) corners) pieces piece are_first.all first.has.among in
        let is_first : IsFirstCell pieces corner.label corner.cell = All-contains (λ x. IsFirstCell pieces x.label x.cell) corners corner are_first.first (k, small, at) in
        let is : corner.cell ≡ c = one_first_cell pieces h.0 corner.cell c (subst (λ n. IsFirstCell pieces n corner.cell) (label_is ∙ first.has.carries) is_first) first in
        (same c).1 (subst (Contains (cells_of corners)) is (Contains-map (λ (x : Corner). x.cell) corners corner (k, small, at))),
  );
}

-- each corner's cell is listed
pub cells_listed : (pieces : List Labelled) (corners : List Corner) (cells : List Cell) → AreFirstCorners pieces corners → AreFirstCells pieces cells → All (λ corner. Contains cells corner.cell) corners
cells_listed pieces corners cells are_first listed k d small =
    let corner : Corner = get_or corners k d in
    (listed.all corner.cell).1 (corner.label, are_first.first k d small)

-- a search among corners in the order of their labels ends at the one with the label
label_place : (corners : List Corner) (label place k : ℕ) (corner : Corner) → AllPairs (λ (a b : Corner). a.label < b.label) corners
    → IsPartitionPoint (λ (y : Corner). ltb y.label label ≡ true) (λ y. ltb y.label label ≡ false) corners place → place ≤ length corners
    → k < length corners → get_or corners k corner ≡ corner → corner.label ≡ label → place ≡ k
label_place corners label place k corner by_label point bound small at e =
    let is : (get_or corners k corner).label ≡ label = ap (λ x. x.label) at ∙ e in
    search_ends (λ y. ltb y.label label) corners place k corner point bound small
    (λ i less. let before = by_label i k corner less small in lt-ltb (get_or corners i corner).label label (omega arith))
    (not_less (get_or corners k corner).label label is)
  where
    not_less : (a b : ℕ) → a ≡ b → ltb a b ≡ false
    not_less a b e = grind (arith, nat_tests)

labels_searchable : (corners : List Corner) → AllPairs (λ (a b : Corner). a.label < b.label) corners → IsNonDecreasingBy (λ corner. corner.label) corners
labels_searchable corners by_label i j d most small = elim (cases_lt i j) [
  | inl less ↦ let before = by_label i j d less small in omega arith
  | inr least ↦ let e : i ≡ j = omega arith in rw e (le_refl (get_or corners j d).label)
]

-- where a search by a label ends there is a corner with the label, if there is any
pub label_found : {F : Type 0} {g : Mut F (Bor Corner × Unit {0}) Bool} {f : F} (corners : List Corner) (label place : ℕ) → AllPairs (λ (a b : Corner). a.label < b.label) corners
    → Any (λ corner. corner.label ≡ label) corners → place ≤ length corners
    → ((q : Corner → Bool) → ComputesKey g q f → IsPartitionedBy q corners → IsPartitionPoint (λ y. q y ≡ true) (λ y. q y ≡ false) corners place)
    → ((a : Bor Corner × Unit {0}) (r : Bool) (f' : F) → Called g f a r f' → (r ≡ ltb a.0.now.label label) × (f' ≡ f))
    → (place < length corners) × ((d : Corner) → (get_or corners place d).label ≡ label)
label_found corners label place by_label (k, corner, small, at, e) bound parted calls =
    let point = IsPartitionPoint-from_clause (λ (x : Corner). ltb x.label label) corners place parted
    (IsPartitionedBy-ltb (λ (x : Corner). x.label) corners label (labels_searchable corners by_label)) calls in
    subst (λ n. (n < length corners) × ((d : Corner) → (get_or corners n d).label ≡ label)) (sym (label_place corners label place k corner by_label point bound small at e))
    (small, λ d. ap (λ x. x.label) (get_or_default corners k d corner small ∙ at) ∙ e)

-- and so there is one whose cell stands where the search for its cell ended
pub number_found : (corners : List Corner) (cells : List Cell) (label place number : ℕ) (d : Corner) → (place < length corners) × ((d : Corner) → (get_or corners place d).label ≡ label)
    → slice_get cells number ≡ Some (get_or corners place d).cell → Any (λ corner. (corner.label ≡ label) × (slice_get cells number ≡ Some corner.cell)) corners
number_found corners cells label place number d found at =
    let corner : Corner = get_or corners place d in (place, corner, found.0, get_or_default corners place corner d found.0, (found.1 d, at))

-- the number that was found is the label's
pub numbered_piece : (pieces : List Labelled) (corners : List Corner) (cells : List Cell) (piece numbered : Labelled) → AreFirstCorners pieces corners
    → Any (λ corner. (corner.label ≡ piece.label) × (slice_get cells numbered.label ≡ Some corner.cell)) corners → numbered.rect ≡ piece.rect → IsNumberedPiece pieces cells piece numbered
numbered_piece pieces corners cells piece numbered are_first (k, corner, small, at, (label_is, found)) rect_is = record {
  rect = rect_is;
  number = record {
    cell = corner.cell;
    first = subst (λ n. IsFirstCell pieces n corner.cell) label_is (All-contains (λ x. IsFirstCell pieces x.label x.cell) corners corner are_first.first (k, small, at));
    at = found;
  };
}

-- ---- the definition leaves no choice

pub one_list : (pieces : List Labelled) (cells other : List Cell) → AreFirstCells pieces cells → AreFirstCells pieces other → cells ≡ other
one_list pieces cells other one two =
    same_when_rising Precedes one_way cells other one.rising two.rising (λ c. (λ h. (two.all c).1 ((one.all c).0 h), λ h. (one.all c).1 ((two.all c).0 h)))

module _ (pieces : List Labelled) (cells : List Cell) (listed : AreFirstCells pieces cells) where
  -- a label has one number
  one_number : (label n m : ℕ) → IsNumberOf pieces cells label n → IsNumberOf pieces cells label m → n ≡ m
  one_number label n m one other =
      let is : one.cell ≡ other.cell = one_first_cell pieces label one.cell other.cell one.first other.first in
      one_place Precedes cells listed.rising n m one.cell other.cell one.at other.at
      (λ before. not_itself other.cell (subst (λ c. Precedes c other.cell) is before))
      (λ before. not_itself other.cell (subst (Precedes other.cell) is before))

  -- and where no cell belongs to two labels, a number is that of one label
  one_label : HaveOwnCells pieces → (a b number : ℕ) → IsNumberOf pieces cells a number → IsNumberOf pieces cells b number → a ≡ b
  one_label own a b number one other =
      let both : Some one.cell ≡ Some other.cell = sym one.at ∙ other.at in
      let is : one.cell ≡ other.cell = cc in
      own a b other.cell (subst (IsLabelCell pieces a) is one.first.has) other.first.has

  same_pieces : (some one other : List Labelled) → AllZip (IsNumberedPiece pieces cells) some one → AllZip (IsNumberedPiece pieces cells) some other → one ≡ other
  same_pieces [] [] [] h g = refl
  same_pieces [] [] (y ∷ ys) h g = absurd g
  same_pieces [] (x ∷ xs) other h g = absurd h
  same_pieces (p ∷ ps) [] other h g = absurd h
  same_pieces (p ∷ ps) (x ∷ xs) [] h g = absurd g
  same_pieces (p ∷ ps) (x ∷ xs) (y ∷ ys) h g =
      let rect_is : x.rect ≡ y.rect = h.0.rect ∙ sym g.0.rect in
      let label_is : x.label ≡ y.label = one_number p.label x.label y.label h.0.number g.0.number in
      let make : Rect → ℕ → Labelled = λ r n. record { rect = r; label = n } in
      let first : x ≡ y = ap (λ r. make r x.label) rect_is ∙ ap (make y.rect) label_is in
      ap (λ z. z ∷ xs) first ∙ ap (λ zs. y ∷ zs) (same_pieces ps xs ys h.1 g.1)

pub one_numbering : (pieces numbered other : List Labelled) → IsNumbered pieces numbered → IsNumbered pieces other → numbered ≡ other
one_numbering pieces numbered other one two =
    same_pieces pieces one.cells one.are_first pieces numbered other one.each
    (subst (λ cs. AllZip (IsNumberedPiece pieces cs) pieces other) (one_list pieces two.cells one.cells two.are_first one.are_first) two.each)

-- ---- which labels have one number

module _ {X Y : Type 0} (R : X → Y → Type 0) where
  zipped : (xs : List X) (ys : List Y) → AllZip R xs ys → (p : X × Y) → Contains (zip xs ys) p → R p.0 p.1
  zipped [] ys h p c = absurd (Contains-none c)
  zipped (x ∷ xs) [] h p c = absurd h
  zipped (x ∷ xs) (y ∷ ys) h p c = elim (Contains-cons_cases (x, y) (zip xs ys) p c) [
    | inl e ↦ subst (λ (q : X × Y). R q.0 q.1) e h.0
    | inr d ↦ zipped xs ys h.1 p d
  ]

  -- each item has its partner
  partner : (xs : List X) (ys : List Y) → AllZip R xs ys → (x : X) → Contains xs x → (y : Y) × Contains ys y × R x y
  partner [] ys h x c = absurd (Contains-none c)
  partner (z ∷ xs) [] h x c = absurd h
  partner (z ∷ xs) (y ∷ ys) h x c = elim (Contains-cons_cases z xs x c) [
    | inl e ↦ (y, Contains-head y ys, subst (λ w. R w y) e h.0)
    | inr d ↦ let (w, among, r) = partner xs ys h.1 x d in (w, Contains-tail y ys w among, r)
  ]

  partner_back : (xs : List X) (ys : List Y) → AllZip R xs ys → (y : Y) → Contains ys y → (x : X) × Contains xs x × R x y
  partner_back xs [] h y c = absurd (Contains-none c)
  partner_back [] (z ∷ ys) h y c = absurd h
  partner_back (x ∷ xs) (z ∷ ys) h y c = elim (Contains-cons_cases z ys y c) [
    | inl e ↦ (x, Contains-head x xs, subst (R x) e h.0)
    | inr d ↦ let (w, among, r) = partner_back xs ys h.1 y d in (w, Contains-tail x xs w among, r)
  ]

module _ (pieces numbered : List Labelled) (own : HaveOwnCells pieces) (is : IsNumbered pieces numbered) where
  abbrev pub BecomesNumbered : Labelled → Labelled → Type 0
  BecomesNumbered = IsNumberedPiece pieces is.cells

  pub labels_told : (p q : Labelled × Labelled) → Contains (zip pieces numbered) p → Contains (zip pieces numbered) q → (p.1.label ≡ q.1.label) ↔ (p.0.label ≡ q.0.label)
  labels_told p q has_p has_q =
      let one : BecomesNumbered p.0 p.1 = zipped BecomesNumbered pieces numbered is.each p has_p in
      let other : BecomesNumbered q.0 q.1 = zipped BecomesNumbered pieces numbered is.each q has_q in (
        λ e. one_label pieces is.cells is.are_first own p.0.label q.0.label q.1.label (subst (IsNumberOf pieces is.cells p.0.label) e one.number) other.number,
        λ e. one_number pieces is.cells is.are_first q.0.label p.1.label q.1.label (subst (λ n. IsNumberOf pieces is.cells n p.1.label) e one.number) other.number,
      )

  -- a number has the cells of its label
  pub cells_kept : (cells : List Cell) (label number : ℕ) (c : Cell) → AreFirstCells pieces cells → IsNumberOf pieces cells label number → IsLabelCell numbered number c ↔ IsLabelCell pieces label c
  cells_kept cells label number c listed number_is =
      let here : IsNumberOf pieces is.cells label number = subst (λ cs. IsNumberOf pieces cs label number) (one_list pieces cells is.cells listed is.are_first) number_is in (
        λ h.
            let (piece, among, becomes) = partner_back BecomesNumbered pieces numbered is.each h.piece h.among in
            let number_of_piece : IsNumberOf pieces is.cells piece.label number = subst (IsNumberOf pieces is.cells piece.label) h.carries becomes.number in
            record { piece = piece; among = among; carries = one_label pieces is.cells is.are_first own piece.label label number number_of_piece here; has = subst (λ r. Has r c) becomes.rect h.has },
        λ h.
            let (other, among, becomes) = partner BecomesNumbered pieces numbered is.each h.piece h.among in
            let number_of_label : IsNumberOf pieces is.cells label other.label = subst (λ n. IsNumberOf pieces is.cells n other.label) h.carries becomes.number in
            record { piece = other; among = among; carries = one_number pieces is.cells is.are_first label other.label number number_of_label here; has = subst (λ r. Has r c) (sym becomes.rect) h.has },
      )
