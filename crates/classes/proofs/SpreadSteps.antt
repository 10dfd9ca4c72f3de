-- the steps of the search for classes, and what each keeps
use Rattle.std.proofs.Common.{ℕ, suc, ◌+◌, ◌≤◌, ◌<◌, ◌≡◌, ◌≢◌, refl, sym, ap, subst, ◌∙◌, List, [], ◌∷◌, ◌++◌, length, arith, inl, inr, ◌⊎◌, get_or, set, get_or-set_same, get_or-set_other, length-set, take, drop, take_all, sum, length-append, Contains}
use Rattle.lists.proofs.Words.{slice_get_within, get_or_from_slice_get, slice_get_read, take-append-le, Contains-append_left, Contains-push, Contains-push_cases, leb_tells, sum_by-set}
use Rattle.paths.specs.Paths.{Path, stay, step}
use Rattle.paths.proofs.PathLaws.{append, kept, first, retold}
use Rattle.classes.specs.Classes.{IsClasses}
use Rattle.classes.specs.inside.Index.{HasNeighbour, IsIndexOf}
use Rattle.classes.specs.inside.Spreading.{IsPlaceOf, IsGraph, HasClass, IsSound, IsSettled, IsSpreading, IsMarked}
use Rattle.classes.proofs.IndexLaws.{in_starts}
use Rattle.lists.proofs.Comparing.{equal_or_not}
use Rattle.lists.proofs.Containing.{Contains-cons_cases, Contains-head, Contains-tail}

pub listed : (starts neighbours : List ℕ) (a place : ℕ) → IsPlaceOf starts a place → HasNeighbour starts neighbours a (get_or neighbours place 0)
listed starts neighbours a place h = record { place = place; from = h.0; to = h.1; is = refl }

module _ (starts neighbours classes : List ℕ) (graph : IsGraph (length classes) starts neighbours) where
  -- j, which had no class, gets the class `start`
  module _ (start j : ℕ) (sound : IsSound starts neighbours classes) (small : start < length classes) (to : j < length classes) (free : length classes ≤ get_or classes j 0) where
    long : length (set classes j start) ≡ length classes
    long = length-set classes j start

    at_j : get_or (set classes j start) j 0 ≡ start
    at_j = get_or-set_same classes j start 0 to

    off_j : (k : ℕ) → k ≢ j → get_or (set classes j start) k 0 ≡ get_or classes k 0
    off_j k h = get_or-set_other classes j k start 0 h

    -- so no number with a class is j
    other : (k : ℕ) → HasClass classes k → k ≢ j
    other k h e = let f = ap (λ x. get_or classes x 0) e in omega arith

    as_it_was : (k : ℕ) → HasClass classes k → get_or (set classes j start) k 0 ≡ get_or classes k 0
    as_it_was k h = off_j k (other k h)

    -- only j has a class that it did not have
    had_one : (k : ℕ) → k ≢ j → HasClass (set classes j start) k → HasClass classes k
    had_one k n h = let l = long in let o = off_j k n in omega arith

    widen : {a b : ℕ} → Path (λ k. k < length classes) (HasNeighbour starts neighbours) a b → Path (λ k. k < length (set classes j start)) (HasNeighbour starts neighbours) a b
    widen {a} {b} p = subst (λ n. Path (λ k. k < n) (HasNeighbour starts neighbours) a b) (sym long) p

    sound_more : Path (λ k. k < length classes) (HasNeighbour starts neighbours) start j → start ≤ j → IsSound starts neighbours (set classes j start)
    sound_more path low = record {
      joined = λ k b h. elim (equal_or_not k j) [
        | inl e ↦ subst (λ x. Path (λ y. y < length (set classes j start)) (HasNeighbour starts neighbours) (get_or (set classes j start) x 0) x) (sym e) (rw at_j (widen path))
        | inr n ↦ let l = long in rw (off_j k n) (widen (sound.joined k (omega arith) (had_one k n h)))
      ];
      low = λ k b h. elim (equal_or_not k j) [
        | inl e ↦ subst (λ x. get_or (set classes j start) x 0 ≤ x) (sym e) (rw at_j low)
        | inr n ↦ let l = long in rw (off_j k n) (sound.low k (omega arith) (had_one k n h))
      ];
    }

  -- all numbers before `start` have a class, so one that has none is not before it
  fresh_is_late : (start j : ℕ) → ((k : ℕ) → k < start → HasClass classes k) → length classes ≤ get_or classes j 0 → start ≤ j
  fresh_is_late start j earlier free = let f : j < start → get_or classes j 0 < length classes = earlier j in grind (arith, f)

  -- a walk begins: its first number gets itself as its class
  pub begin : (start : ℕ) → start < length classes → length classes ≤ get_or classes start 0 → IsSettled starts neighbours classes start → (any : ℕ)
      → IsSpreading starts neighbours (set classes start start) (start ∷ []) start any (get_or starts (suc any) 0)
  begin start small free s any =
      let l = long start start s.sound small small free in
      let was = as_it_was start start s.sound small small free in
      let off = off_j start start s.sound small small free in
      let mine = at_j start start s.sound small small free in
      record {
        sound = sound_more start start s.sound small small free (stay small) (omega arith);
        closed = λ a place t h. elim (equal_or_not a start) [
          | inl e ↦ inl (inl (subst (Contains (start ∷ [])) (sym e) (Contains-push [] start)))
          | inr n ↦
              let h' : HasClass classes a = had_one start start s.sound small small free a n h in
              let e = s.closed a place t h' in
              let k : HasClass classes (get_or neighbours place 0) = omega arith in
              inl (inr (was (get_or neighbours place 0) k ∙ e ∙ sym (off a n)))
        ];
        pending = λ a h. elim (Contains-push_cases [] start a h) [
          | inl k ↦ absurd (let b = k.1 in omega arith)
          | inr e ↦ (omega arith, subst (λ x. get_or (set classes start start) x 0 ≡ start) e mine)
        ];
        earlier = λ k h. let f = s.earlier k h in let e = was k f in omega arith;
        begun = mine;
      }

  -- the first number of the queue is taken out, and none of its neighbours is seen yet
  pub take_one : (todo rest : List ℕ) (start i any : ℕ) → todo ≡ i ∷ rest → IsSpreading starts neighbours classes todo start any (get_or starts (suc any) 0)
      → IsSpreading starts neighbours classes rest start i (get_or starts i 0)
  take_one todo rest start i any e s = record {
    sound = s.sound;
    closed = λ a place t h. elim (s.closed a place t h) [
      | inl (inl k) ↦ elim (Contains-cons_cases i rest a (subst (λ x. Contains x a) e k)) [ inl m ↦ inr (sym m, subst (λ x. get_or starts x 0 ≤ place) (sym m) t.0) | inr m ↦ inl (inl m) ]
      | inl (inr k) ↦ inl (inr k)
      | inr k ↦ absurd (let b = t.1 in let f = ap (λ x. get_or starts (suc x) 0) k.0 in omega arith)
    ];
    pending = λ a h. s.pending a (subst (λ x. Contains x a) (sym e) (Contains-tail i rest a h));
    earlier = s.earlier;
    begun = s.begun;
  }

  pub taken : (todo rest : List ℕ) (start i any : ℕ) → todo ≡ i ∷ rest → IsSpreading starts neighbours classes todo start any (get_or starts (suc any) 0) → (i < length classes)
      × (get_or classes i 0 ≡ start)
  taken todo rest start i any e s = s.pending i (subst (λ x. Contains x i) (sym e) (Contains-head i rest))

  -- the neighbour at the place `here` is seen
  module _ (todo : List ℕ) (start i here : ℕ) (s : IsSpreading starts neighbours classes todo start i here) (place_of : IsPlaceOf starts i here) where
    abbrev j : ℕ
    j = get_or neighbours here 0

    past : (HasClass classes i → Contains todo i ⊎ (get_or classes j 0 ≡ get_or classes i 0)) → IsSpreading starts neighbours classes todo start i (here + 1)
    past fine = record {
      sound = s.sound;
      closed = λ a place t h. elim (s.closed a place t h) [
        | inl k ↦ inl k
        | inr k ↦ elim (equal_or_not place here) [
          | inl e ↦ inl (subst (λ x. Contains todo x ⊎ (get_or classes (get_or neighbours place 0) 0 ≡ get_or classes x 0)) (sym k.0)
              (subst (λ y. Contains todo i ⊎ (get_or classes (get_or neighbours y 0) 0 ≡ get_or classes i 0)) (sym e)
              (fine (subst (HasClass classes) k.0 h))))
          | inr n ↦ inr (k.0, omega arith)
        ]
      ];
      pending = s.pending;
      earlier = s.earlier;
      begun = s.begun;
    }

    pub skip_classed : get_or classes i 0 ≡ start → HasClass classes j → IsSpreading starts neighbours classes todo start i (here + 1)
    skip_classed mine has =
        let b = graph.back i j (listed starts neighbours i here place_of) in
        past (λ t. elim (s.closed j b.place (b.from, b.to) has) [
          | inl (inl k) ↦ let f = (s.pending j k).1 in inr (f ∙ sym mine)
          | inl (inr k) ↦ inr (sym k ∙ ap (λ x. get_or classes x 0) b.is)
          | inr k ↦ inr (ap (λ x. get_or classes x 0) k.0)
        ])

    -- the walk that leads to i goes on to its neighbour
    way_on : get_or classes i 0 ≡ start → start < length classes → i < length classes → j < length classes → Path (λ k. k < length classes) (HasNeighbour starts neighbours) start j
    way_on mine small from to =
        let i_has : HasClass classes i = omega arith in
        let path : Path (λ k. k < length classes) (HasNeighbour starts neighbours) start i =
        subst (λ x. Path (λ k. k < length classes) (HasNeighbour starts neighbours) x i) mine (s.sound.joined i from i_has) in
        append path (step from (listed starts neighbours i here place_of) (stay to))

    pub class_one : get_or classes i 0 ≡ start → start < length classes → i < length classes → j < length classes → length classes ≤ get_or classes j 0
        → IsSpreading starts neighbours (set classes j start) (todo ++ j ∷ []) start i (here + 1)
    class_one mine small from to free =
        let l = long start j s.sound small to free in
        let was = as_it_was start j s.sound small to free in
        let off = off_j start j s.sound small to free in
        let set_to = at_j start j s.sound small to free in
        record {
          sound = sound_more start j s.sound small to free (way_on mine small from to) (fresh_is_late start j s.earlier free);
          closed = λ a place t h. elim (equal_or_not a j) [
            | inl e ↦ inl (inl (subst (Contains (todo ++ j ∷ [])) (sym e) (Contains-push todo j)))
            | inr n ↦
                let h' : HasClass classes a = had_one start j s.sound small to free a n h in
                elim (s.closed a place t h') [
                  | inl (inl k) ↦ inl (inl (Contains-append_left todo (j ∷ []) a k))
                  | inl (inr k) ↦ let b_has : HasClass classes (get_or neighbours place 0) = omega arith in inl (inr (was (get_or neighbours place 0) b_has ∙ k ∙ sym (off a n)))
                  | inr k ↦ elim (equal_or_not place here) [
                    | inl e ↦ inl (inr (ap (λ x. get_or (set classes j start) (get_or neighbours x 0) 0) e ∙ set_to ∙ sym mine ∙ ap (λ x. get_or classes x 0) (sym k.0) ∙ sym (off a n)))
                    | inr m ↦ inr (k.0, omega arith)
                  ]
                ]
          ];
          pending = λ a h. elim (Contains-push_cases todo j a h) [
            | inl k ↦ let f = s.pending a k in let a_has : HasClass classes a = omega arith in (omega arith, was a a_has ∙ f.1)
            | inr e ↦ (subst (λ x. x < length (set classes j start)) e (omega arith), subst (λ x. get_or (set classes j start) x 0 ≡ start) e set_to)
          ];
          earlier = λ k h. let f = s.earlier k h in let e = was k f in omega arith;
          begun = let start_has : HasClass classes start = let b = s.begun in omega arith in was start start_has ∙ s.begun;
        }

  -- the walk ends with an empty queue
  pub done : (todo : List ℕ) (start i : ℕ) → length todo ≡ 0 → start < length classes → IsSpreading starts neighbours classes todo start i (get_or starts (suc i) 0)
      → IsSettled starts neighbours classes (start + 1)
  done todo start i e small s = record {
    sound = s.sound;
    closed = λ a place t h. elim (s.closed a place t h) [
      | inl (inl k) ↦ absurd (let b = k.1 in omega arith)
      | inl (inr k) ↦ k
      | inr k ↦ absurd (let b = t.1 in let f = ap (λ x. get_or starts (suc x) 0) k.0 in omega arith)
    ];
    earlier = λ k h. elim (equal_or_not k start) [
      | inl e' ↦ subst (HasClass classes) (sym e') (let b = s.begun in omega arith)
      | inr n ↦ s.earlier k (omega arith)
    ];
  }

  pub has_one : (start : ℕ) → HasClass classes start → IsSettled starts neighbours classes start → IsSettled starts neighbours classes (start + 1)
  has_one start has s = record {
    sound = s.sound;
    closed = s.closed;
    earlier = λ k h. elim (equal_or_not k start) [ inl e ↦ subst (HasClass classes) (sym e) has | inr n ↦ s.earlier k (omega arith) ];
  }

  -- where every number has a class, these are the classes of the pairs
  pub finish : (pairs : List (ℕ × ℕ)) → IsIndexOf pairs starts neighbours → IsSettled starts neighbours classes (length classes) → IsClasses (length classes) pairs classes
  finish pairs i s = record {
    one_each = refl;
    joined = λ k m e.
        let b = slice_get_within classes k m e in
        let is = get_or_from_slice_get classes k m 0 e in
        retold (λ a c h h' l. inr (i.sound a c (in_starts starts a l.place l.to) l)) (subst (λ x. Path (λ y. y < length classes) (HasNeighbour starts neighbours) x k) is
        (s.sound.joined k b (s.earlier k b)));
    least = λ k m j e path.
        let is = get_or_from_slice_get classes k m 0 e in
        let c : j < length classes = first path in
        let same = kept (λ x. get_or classes x 0) (λ a b h t. let l = i.complete a b t in sym (ap (λ x. get_or classes x 0) (sym l.is) ∙ s.closed a l.place (l.from, l.to) (s.earlier a h))) path in
        let l = s.sound.low j c (s.earlier j c) in
        omega arith;
  }

-- an element that was read is the one that clauses write
pub read_is : (xs : List ℕ) (i r : ℕ) → i < length xs → r ≡ get_or xs i r → get_or xs i 0 ≡ r
read_is xs i r h e = get_or_from_slice_get xs i r 0 (slice_get_read xs (length xs) i r refl h e)

pub graph_at : (m n : ℕ) (starts neighbours : List ℕ) → m ≡ n → IsGraph n starts neighbours → IsGraph m starts neighbours
graph_at m n starts neighbours e g = subst (λ x. IsGraph x starts neighbours) (sym e) g

-- what holds after the neighbour at a place was marked
pub record IsStep (starts neighbours classes todo : List ℕ) (class number place : ℕ) (classes' todo' : List ℕ) : Type 0 where
  pub marked : get_or classes' number 0 ≡ class
  pub state : IsSpreading starts neighbours classes' todo' class number (place + 1)
  pub fewer : sum classes' + length todo' ≤ sum classes + length todo

pub step_on : (starts neighbours classes todo classes' todo' : List ℕ) (class number place : ℕ) → IsGraph (length classes) starts neighbours → class < length classes → number < length classes
    → get_or neighbours place 0 < length classes → get_or classes number 0 ≡ class → IsPlaceOf starts number place → IsSpreading starts neighbours classes todo class number place
    → IsMarked classes todo class (get_or neighbours place 0) classes' todo' → IsStep starts neighbours classes todo class number place classes' todo'
step_on starts neighbours classes todo classes' todo' class number place g small from to mine place_of s m = elim (leb_tells (length classes) (get_or classes (get_or neighbours place 0) 0)) [
  | inl y ↦
      let free = y.1 in
      let e = m.new free in
      let d = sum_by-set (λ x. x) classes (get_or neighbours place 0) class 0 to in
      let l = length-append todo (get_or neighbours place 0 ∷ []) in
      let built : IsStep starts neighbours classes todo class number place (set classes (get_or neighbours place 0) class) (todo ++ get_or neighbours place 0 ∷ []) = record {
        marked = off_j starts neighbours classes g class (get_or neighbours place 0) s.sound small to free number (λ f. let h = ap (λ x. get_or classes x 0) f in omega arith) ∙ mine;
        state = class_one starts neighbours classes g todo class number place s place_of mine small from to free;
        fewer = omega arith;
      } in
      subst (λ t. IsStep starts neighbours classes todo class number place classes' t) (sym e.1)
      (subst (λ x. IsStep starts neighbours classes todo class number place x (todo ++ get_or neighbours place 0 ∷ [])) (sym e.0) built)
  | inr y ↦
      let e = m.had y.1 in
      let built : IsStep starts neighbours classes todo class number place classes todo = record {
        marked = mine;
        state = skip_classed starts neighbours classes g todo class number place s place_of mine y.1;
        fewer = omega arith;
      } in
      subst (λ t. IsStep starts neighbours classes todo class number place classes' t) (sym e.1) (subst (λ x. IsStep starts neighbours classes todo class number place x todo) (sym e.0) built)
]
