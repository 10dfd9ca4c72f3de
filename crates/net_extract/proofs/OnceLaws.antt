-- a sort by all that contact pieces carry puts equal ones side by side, so that no two are left the same
use Rattle.std.proofs.Common.{ℕ, ℤ, ◌≡◌, ◌≢◌, refl, sym, ap, ◌∙◌, subst, List, [], ◌∷◌, Bool, ◌&&◌, nat_cmp, nat_eq, is_eq, arith}
use Rattle.lists.proofs.Words.{dedup, int_cmp, int_cmp_total, nat_tests, Ordering, Less, Equal, Greater, IsSortedByKey, Called}
use Rattle.lists.proofs.Words.{ComputesKey, always_returns_same, All-weaker, All-from_recursion, AllPairs-cons}
use Rattle.std.specs.Ordering.{ordering_then, eq_by_cmp}
use Rattle.std.specs.Cmp.{IsTotalOrder}
use Rattle.std.specs.List.Sorted.{IsStrictlySortedBy}
use Rattle.std.proofs.lemmas.Cmp.{nat_cmp_total, on_total, then_total, tied_itself}
use Rattle.std.proofs.lemmas.List.Kept.{IsStrictlySortedBy-dedup}
use denote.Param.Members.{Mut}
use denote.Ref.{Bor}
use Rattle.lists.specs.Differing.{AreDifferent}
use Rattle.net_extract.specs.declared.pieces.ContactPiece.{ContactPiece}
use Rattle.net_extract.proofs.MeetingLaws.{piece_eq, rect_eq}

-- the four sides of a rectangle, and both islands of a contact piece with the sides of its rectangle
abbrev pub Sides : Type 0
Sides = ℤ × ℤ × ℤ × ℤ

abbrev pub Key : Type 0
Key = ℕ × ℕ × Sides

abbrev pub key_of : ContactPiece → Key
key_of piece = (piece.lower, piece.upper, (piece.rect.x0, piece.rect.y0, piece.rect.x1, piece.rect.y1))

-- how a sort compares them
abbrev pub sides_cmp : Sides → Sides → Ordering
sides_cmp x y = ordering_then (ordering_then (ordering_then (int_cmp x.0 y.0) (int_cmp x.1 y.1)) (int_cmp x.2 y.2)) (int_cmp x.3 y.3)

abbrev pub key_cmp : Key → Key → Ordering
key_cmp x y = ordering_then (ordering_then (nat_cmp x.0 y.0) (nat_cmp x.1 y.1)) (sides_cmp x.2 y.2)

abbrev piece_cmp : ContactPiece → ContactPiece → Ordering
piece_cmp a b = key_cmp (key_of a) (key_of b)

sides_total : IsTotalOrder sides_cmp
sides_total =
    let low = then_total (on_total (λ (s : Sides). s.0) int_cmp_total) (on_total (λ (s : Sides). s.1) int_cmp_total) in
    then_total (then_total low (on_total (λ (s : Sides). s.2) int_cmp_total)) (on_total (λ (s : Sides). s.3) int_cmp_total)

key_total : IsTotalOrder key_cmp
key_total =
    let islands = then_total (on_total (λ (k : Key). k.0) nat_cmp_total) (on_total (λ (k : Key). k.1) nat_cmp_total) in
    then_total islands (on_total (λ (k : Key). k.2) sides_total)

piece_total : IsTotalOrder piece_cmp
piece_total = on_total key_of key_total

-- ---- equal contact pieces are those that compare as equal

both_equal : (r s : Ordering) → is_eq (ordering_then r s) ≡ (is_eq r && is_eq s)
both_equal Less s = refl
both_equal Equal s = refl
both_equal Greater s = refl

nat_equal : (a b : ℕ) → is_eq (nat_cmp a b) ≡ nat_eq a b
nat_equal a b = grind (arith, nat_tests)

in_turn : (a b c d l u : Bool) → ((a && (b && (c && d))) && (l && u)) ≡ ((l && u) && (((a && b) && c) && d))
in_turn a b c d l u = grind arith

all_equal : (a b c d l u : Ordering) → ((is_eq a && (is_eq b && (is_eq c && is_eq d))) && (is_eq l && is_eq u))
    ≡ is_eq (ordering_then (ordering_then l u) (ordering_then (ordering_then (ordering_then a b) c) d))
all_equal a b c d l u = simp both_equal (in_turn (is_eq a) (is_eq b) (is_eq c) (is_eq d) (is_eq l) (is_eq u))

ties : (a b : ContactPiece) → piece_eq a b ≡ eq_by_cmp piece_cmp a b
ties a b =
    let lower = nat_cmp a.lower b.lower in
    let upper = nat_cmp a.upper b.upper in
    ap (λ t. rect_eq a.rect b.rect && (t && nat_eq a.upper b.upper)) (sym (nat_equal a.lower b.lower))
    ∙ ap (λ t. rect_eq a.rect b.rect && (is_eq lower && t)) (sym (nat_equal a.upper b.upper))
    ∙ all_equal (int_cmp a.rect.x0 b.rect.x0) (int_cmp a.rect.y0 b.rect.y0) (int_cmp a.rect.x1 b.rect.x1)
    (int_cmp a.rect.y1 b.rect.y1) lower upper

-- ---- each once

less_differs : (a b : ContactPiece) → piece_cmp a b ≡ Less → a ≢ b
less_differs a b less same =
    let itself = tied_itself piece_total a in
    let below = subst (λ (x : ContactPiece). piece_cmp a x ≡ Less) (sym same) less in
    cc

different : (pieces : List ContactPiece) → IsStrictlySortedBy piece_cmp pieces → AreDifferent pieces
unfolding IsStrictlySortedBy
different [] h = λ i j d less small. absurd (omega arith)
different (a ∷ pieces) h = AllPairs-cons (λ one other. one ≢ other) a pieces
    (All-weaker (λ b. piece_cmp a b ≡ Less) (λ b. a ≢ b) (less_differs a) pieces
    (All-from_recursion (λ b. piece_cmp a b ≡ Less) pieces h.0))
    (different pieces h.1)

-- what a sort by the key and `dedup` make of contact pieces
pub once_by_sort : {F : Type 0} {g : Mut F (Bor ContactPiece × Unit {0}) Key} {f : F} (sorted once : List ContactPiece)
    → ((key : ContactPiece → Key) → ComputesKey g key f → IsSortedByKey key key_cmp sorted)
    → ((a : Bor ContactPiece × Unit {0}) (r : Key) (f' : F) → Called g f a r f' → (r ≡ key_of a.0.now) × (f' ≡ f))
    → once ≡ dedup piece_eq sorted → AreDifferent once
once_by_sort {g = g} {f = f} sorted once up h e =
    let in_order = up key_of (always_returns_same g (λ a r. r ≡ key_of a.0.now) f h) in
    subst AreDifferent (sym e) (different (dedup piece_eq sorted) (IsStrictlySortedBy-dedup piece_total ties sorted in_order))
