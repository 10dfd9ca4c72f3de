-- the classes of pairs as leaders of boxes
use Rattle.std.proofs.Common.{ℕ, List, [], ◌∷◌, ◌++◌, ◌≡◌, ◌≢◌, ◌<◌, ◌≤◌, ◌+◌, map, length, refl, subst, sym, inl, inr, ◌⊎◌, ap, ◌∙◌, arith, ◌↔◌, Bool, true, ◌&&◌, nat_eq, Contains, All}
use Rattle.std.proofs.Common.{Some, option_map, slice_get}
use Rattle.lists.proofs.Containing.{Contains-slice_get, Contains-none, some_item, slice_get-front, slice_get-back, all_of_each}
use Rattle.lists.proofs.Words.{slice_get_within, slice_get-map, same_Some, length-map, length_push, leb_tells, Contains-append_left, Contains-push, Contains-push_cases, All-contains}
use Rattle.lists.proofs.Words.{nat_tests, nat_eq_equiv, and_equiv, on_equiv, IsEquivalence, IsPermutation, dedup, Contains-dedup, Contains-from_dedup, Contains-permutation, IsPermutation-sym}
use Rattle.lists.proofs.Comparing.{equal_or_not}
use Rattle.paths.specs.Paths.{stay, step}
use Rattle.paths.proofs.PathLaws.{first, retold, reverse}
use Rattle.classes.specs.Classes.{AreBelow, AreJoined, IsClasses}
use Rattle.classes.specs.ClassConsequences.{EqualWhereJoined}
use Rattle.half_boxes.specs.HalfBoxes.{AreTouchingBoxes, TouchHalves}
use Rattle.half_boxes.specs.declared.boxes.HalfBox.{HalfBox}
use Rattle.remnants.specs.declared.parts.Fixed.{Fixed}
use Rattle.remnants.specs.declared.parts.Mark.{Mark}
use Rattle.remnants.specs.inside.Joining.{AreTied, touch, lead, AreChained, AreLeaders, AreLedBy, IsMovedTo, AreMovedTo, HasLeads}

-- ---- lists so far

-- the pairs of so many boxes and their leaders
pub record HasLeadsTo (links : List (ℕ × ℕ)) (fixed : List Fixed) (count : ℕ) (pairs : List (ℕ × ℕ)) : Type 0 where
  pub kept : (a b : ℕ) → Contains links (a, b) → Contains pairs (a, b)
  pub led : (k : ℕ) (one : Fixed) → k < count → slice_get fixed k ≡ Some one → one.leader ≢ k → Contains pairs (k, one.leader)
  pub only : (a b : ℕ) → Contains pairs (a, b) → Contains links (a, b) ⊎ ((one : Fixed) × (slice_get fixed a ≡ Some one) × (one.leader ≡ b))

pub no_leads : (links : List (ℕ × ℕ)) (fixed : List Fixed) → HasLeadsTo links fixed 0 links
no_leads links fixed = record { kept = λ a b h. h; led = λ k one small. absurd (omega arith); only = λ a b h. inl h }

pub below_or_last : (k n : ℕ) → k < n + 1 → (k < n) ⊎ (k ≡ n)
below_or_last k n small = elim (leb_tells n k) [ inl y ↦ let past = y.1 in inr (omega arith) | inr y ↦ let before = y.1 in inl (omega arith) ]

pub leads_more : (links : List (ℕ × ℕ)) (fixed : List Fixed) (count : ℕ) (pairs : List (ℕ × ℕ)) (one : Fixed) → slice_get fixed count ≡ Some one → HasLeadsTo links fixed count pairs
    → HasLeadsTo links fixed (count + 1) (pairs ++ (count, one.leader) ∷ [])
leads_more links fixed count pairs one at so_far = record {
  kept = λ a b h. Contains-append_left pairs ((count, one.leader) ∷ []) (a, b) (so_far.kept a b h);
  led = λ k other small e differs. elim (below_or_last k count small) [
    | inl before ↦ Contains-append_left pairs ((count, one.leader) ∷ []) (k, other.leader) (so_far.led k other before e differs)
    | inr here ↦
        let same : one ≡ other = same_Some one other (sym at ∙ ap (slice_get fixed) (sym here) ∙ e) in
        subst (λ n. Contains (pairs ++ (count, one.leader) ∷ []) (n, other.leader)) (sym here)
        (subst (λ (x : Fixed). Contains (pairs ++ (count, one.leader) ∷ []) (count, x.leader)) same (Contains-push pairs (count, one.leader)))
  ];
  only = λ a b h. elim (Contains-push_cases pairs (count, one.leader) (a, b) h) [
    | inl old ↦ so_far.only a b old
    | inr new ↦
        let first : count ≡ a = ap (λ (p : ℕ × ℕ). p.0) new in
        inr (one, ap (slice_get fixed) (sym first) ∙ at, ap (λ (p : ℕ × ℕ). p.1) new)
  ];
}

-- a box that leads itself needs no pair
pub leads_itself : (links : List (ℕ × ℕ)) (fixed : List Fixed) (count : ℕ) (pairs : List (ℕ × ℕ)) (one : Fixed) → slice_get fixed count ≡ Some one → one.leader ≡ count
    → HasLeadsTo links fixed count pairs → HasLeadsTo links fixed (count + 1) pairs
leads_itself links fixed count pairs one at itself so_far = record {
  kept = so_far.kept;
  led = λ k other small e differs. elim (below_or_last k count small) [
    | inl before ↦ so_far.led k other before e differs
    | inr here ↦
        let same : one ≡ other = same_Some one other (sym at ∙ ap (slice_get fixed) (sym here) ∙ e) in
        absurd (differs (ap (λ (x : Fixed). x.leader) (sym same) ∙ itself ∙ sym here))
  ];
  only = so_far.only;
}

pub all_leads : (links : List (ℕ × ℕ)) (fixed : List Fixed) (count : ℕ) (pairs : List (ℕ × ℕ)) → length fixed ≤ count → HasLeadsTo links fixed count pairs → HasLeads links fixed pairs
all_leads links fixed count pairs past so_far = record {
  kept = so_far.kept;
  led = λ k one e differs. let small = slice_get_within fixed k one e in so_far.led k one (omega arith) e differs;
  only = so_far.only;
}

-- so many boxes with their new leaders
pub record AreLedTo (fixed : List Fixed) (leaders : List ℕ) (count : ℕ) (led : List Fixed) : Type 0 where
  pub as_many : length led ≡ count
  pub each : (k m : ℕ) (one : Fixed) → k < count → slice_get fixed k ≡ Some one → slice_get leaders k ≡ Some m → slice_get led k ≡ Some (record { part = one.part; leader = m })

pub none_led : (fixed : List Fixed) (leaders : List ℕ) → AreLedTo fixed leaders 0 []
none_led fixed leaders = record { as_many = refl; each = λ k m one small. absurd (omega arith) }

pub led_more : (fixed : List Fixed) (leaders : List ℕ) (count m : ℕ) (led : List Fixed) (one : Fixed) → slice_get fixed count ≡ Some one → slice_get leaders count ≡ Some m
    → AreLedTo fixed leaders count led
    → AreLedTo fixed leaders (count + 1) (led ++ record { part = one.part; leader = m } ∷ [])
led_more fixed leaders count m led one at leads so_far =
    let new : Fixed = record { part = one.part; leader = m } in record {
      as_many = let many = so_far.as_many in let more = length_push led new in omega arith;
      each = λ k n other small e f. elim (below_or_last k count small) [
        | inl before ↦ slice_get-front led (new ∷ []) k (record { part = other.part; leader = n }) (so_far.each k n other before e f)
        | inr here ↦
            let same : one ≡ other = same_Some one other (sym at ∙ ap (slice_get fixed) (sym here) ∙ e) in
            let same_leader : m ≡ n = same_Some m n (sym leads ∙ ap (slice_get leaders) (sym here) ∙ f) in
            let place : length led + 0 ≡ k = let many = so_far.as_many in omega arith in
            let there : slice_get (led ++ new ∷ []) k ≡ Some new = ap (slice_get (led ++ new ∷ [])) (sym place) ∙ slice_get-back led (new ∷ []) 0 in
            there ∙ ap (λ (x : Fixed). Some (record { part = x.part; leader = m })) same ∙ ap (λ l. Some (record { part = other.part; leader = l })) same_leader
      ];
    }

pub all_led : (fixed : List Fixed) (leaders : List ℕ) (count : ℕ) (led : List Fixed) → length fixed ≡ count → AreLedTo fixed leaders count led → AreLedBy fixed leaders led
all_led fixed leaders count led all so_far = record {
  as_many = so_far.as_many ∙ sym all;
  each = λ k m one e f. let small = slice_get_within fixed k one e in so_far.each k m one (omega arith) e f;
}

pub none_moved : (leaders : List ℕ) → AreMovedTo leaders [] []
none_moved leaders = record { each = λ m h. absurd (Contains-none h); only = λ m h. absurd (Contains-none h) }

pub moved_more : (leaders : List ℕ) (old new : List Mark) (x y : Mark) → AreMovedTo leaders old new → IsMovedTo leaders x y → AreMovedTo leaders (old ++ x ∷ []) (new ++ y ∷ [])
moved_more leaders old new x y so_far here = record {
  each = λ m h. elim (Contains-push_cases old x m h) [
    | inl before ↦ let to = so_far.each m before in (to.0, Contains-append_left new (y ∷ []) to.0 to.1, to.2)
    | inr same ↦ (y, Contains-push new y, subst (λ (z : Mark). IsMovedTo leaders z y) same here)
  ];
  only = λ m h. elim (Contains-push_cases new y m h) [
    | inl before ↦ let from = so_far.only m before in (from.0, Contains-append_left old (x ∷ []) from.0 from.1, from.2)
    | inr same ↦ (x, Contains-push old x, subst (λ (z : Mark). IsMovedTo leaders x z) same here)
  ];
}

pub moved_once : (leaders : List ℕ) (old new once : List Mark) → AreMovedTo leaders old new → ((mark : Mark) → Contains once mark ↔ Contains new mark) → AreMovedTo leaders old once
moved_once leaders old new once moved same = record {
  each = λ m h. let to = moved.each m h in (to.0, (same to.0).1 to.1, to.2);
  only = λ m h. moved.only m ((same m).0 h);
}

-- what `==` answers at marks
abbrev pub mark_eq : Mark → Mark → Bool
mark_eq a b = nat_eq a.terminal b.terminal && nat_eq a.leader b.leader

mark_eq_equiv : IsEquivalence mark_eq
mark_eq_equiv = and_equiv (on_equiv (λ (m : Mark). m.terminal) nat_eq_equiv) (on_equiv (λ (m : Mark). m.leader) nat_eq_equiv)

same_mark : (a b : Mark) → mark_eq a b ≡ true → a ≡ b
same_mark a b e =
    let terminal_is : a.terminal ≡ b.terminal = grind (arith, nat_tests) in
    let leader_is : a.leader ≡ b.leader = grind (arith, nat_tests) in
    let make : ℕ → ℕ → Mark = λ t l. record { terminal = t; leader = l } in
    ap (λ t. make t a.leader) terminal_is ∙ ap (make b.terminal) leader_is

pub same_marks : (marks sorted once : List Mark) → IsPermutation marks sorted → once ≡ dedup mark_eq sorted → (mark : Mark) → Contains once mark ↔ Contains marks mark
same_marks marks sorted once moved e mark = (
  λ c. Contains-permutation sorted marks mark (IsPermutation-sym marks sorted moved) (Contains-from_dedup mark_eq sorted mark (subst (λ ms. Contains ms mark) e c)),
  λ c. subst (λ ms. Contains ms mark) (sym e) (Contains-dedup mark_eq_equiv same_mark sorted mark (Contains-permutation marks sorted mark moved c)),
)

-- ---- leaders from classes

abbrev pub boxes_in : List Fixed → List HalfBox
boxes_in fixed = map (λ (one : Fixed). one.part) fixed

module _ (fixed : List Fixed) (links pairs : List (ℕ × ℕ)) (touching : (a b : ℕ) → Contains links (a, b) → AreTouchingBoxes (boxes_in fixed) a b)
    (joins : (a b : ℕ) → AreTouchingBoxes (boxes_in fixed) a b → AreJoined (length (boxes_in fixed)) links a b) (leads : HasLeads links fixed pairs)
    (small : All (λ (one : Fixed). one.leader < length fixed) fixed) where
  box_at : (k : ℕ) (box : HalfBox) → slice_get (boxes_in fixed) k ≡ Some box → (one : Fixed) × (slice_get fixed k ≡ Some one) × (one.part ≡ box)
  box_at k box e =
      let within = slice_get_within (boxes_in fixed) k box e in
      let long = length-map fixed (λ (one : Fixed). one.part) in
      let one = some_item fixed k (omega arith) in
      let there : slice_get (boxes_in fixed) k ≡ Some one.0.part = slice_get-map (λ (x : Fixed). x.part) fixed k ∙ ap (option_map (λ (x : Fixed). x.part)) one.1 in
      (one.0, one.1, same_Some one.0.part box (sym there ∙ e))

  at_box : (k : ℕ) (one : Fixed) → slice_get fixed k ≡ Some one → slice_get (boxes_in fixed) k ≡ Some one.part
  at_box k one e = slice_get-map (λ (x : Fixed). x.part) fixed k ∙ ap (option_map (λ (x : Fixed). x.part)) e

  touching_tied : (a b : ℕ) → AreTouchingBoxes (boxes_in fixed) a b → AreTied fixed a b
  touching_tied a b t =
      let x = box_at a t.one t.one_at in
      let y = box_at b t.other t.other_at in
      touch x.0 y.0 x.1 y.1 (subst (λ box. TouchHalves box y.0.part) (sym x.2) (subst (TouchHalves t.one) (sym y.2) t.touch))

  pair_tied : (a b : ℕ) → Contains pairs (a, b) → AreTied fixed a b
  pair_tied a b h = elim (leads.only a b h) [ inl link ↦ touching_tied a b (touching a b link) | inr led ↦ lead led.0 led.1 led.2 ]

  tied_below : (a b : ℕ) → AreTied fixed a b → (a < length fixed) × (b < length fixed)
  tied_below a b (touch one other e f t) = (slice_get_within fixed a one e, slice_get_within fixed b other f)
  tied_below a b (lead one e leads) =
      (slice_get_within fixed a one e, subst (λ k. k < length fixed) leads (All-contains (λ (x : Fixed). x.leader < length fixed) fixed one small (Contains-slice_get fixed a one e)))

  pub pairs_below : AreBelow (length fixed) pairs
  pairs_below = all_of_each (λ p. (p.0 < length fixed) × (p.1 < length fixed)) pairs (λ p h. tied_below p.0 p.1 (pair_tied p.0 p.1 h))

  tied_joined : (a b : ℕ) → AreTied fixed a b → AreJoined (length fixed) pairs a b
  tied_joined a b (touch one other e f t) =
      let path = joins a b (record { one = one.part; other = other.part; one_at = at_box a one e; other_at = at_box b other f; touch = t }) in
      retold (λ x y s t p. inr (elim p [ inl h ↦ inl (leads.kept x y h) | inr h ↦ inr (leads.kept y x h) ]))
      (subst (λ n. AreJoined n links a b) (length-map fixed (λ (x : Fixed). x.part)) path)
  tied_joined a b (lead one e is) =
      let below = tied_below a b (lead one e is) in
      elim (equal_or_not one.leader a) [
        | inl same ↦ subst (λ k. AreJoined (length fixed) pairs a k) (sym same ∙ is) (stay below.0)
        | inr differs ↦ step below.0 (inl (subst (λ k. Contains pairs (a, k)) is (leads.led a one e differs))) (stay below.1)
      ]

  joined_chained : {a b : ℕ} → AreJoined (length fixed) pairs a b → AreChained fixed a b
  joined_chained path = retold (λ x y s t p. inr (elim p [ inl h ↦ inl (pair_tied x y h) | inr h ↦ inr (pair_tied y x h) ])) path

  module _ (leaders : List ℕ) (classes : IsClasses (length fixed) pairs leaders) (equal : EqualWhereJoined (length fixed) pairs leaders) where
    -- a number that is joined with one has its class
    class_of : (a b m : ℕ) → b < length fixed → AreJoined (length fixed) pairs a b → slice_get leaders a ≡ Some m → slice_get leaders b ≡ Some m
    class_of a b m below path e =
        let each = classes.one_each in
        let n = some_item leaders b (omega arith) in
        n.1 ∙ ap Some (sym ((equal a b m n.0 e n.1).1 path))

    pub are_leaders : AreLeaders fixed leaders
    are_leaders = record {
      one_each = classes.one_each;
      chained = λ a b m e f. joined_chained ((equal a b m m e f).0 refl);
      tied = λ a b m t e. class_of a b m (tied_below a b t).1 (tied_joined a b t) e;
      itself = λ a m e.
          let path = classes.joined a m e in
          class_of a m m (first path) (reverse (λ x y p. elim p [ inl h ↦ inr h | inr h ↦ inl h ]) path) e;
    }
