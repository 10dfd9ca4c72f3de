-- trees that grow from box to box
use Rattle.std.proofs.Common.{ℕ, ◌+◌, ◌*◌, ◌^◌, ◌<◌, ◌≤◌, ◌≡◌, refl, sym, ap, subst, ◌∙◌, List, [], ◌∷◌, ◌++◌, length}
use Rattle.std.proofs.Common.{length-append, get_or, take, arith, inl, inr, ◌⊎◌, Some, Contains, slice_get}
use Rattle.lists.proofs.Words.{Contains-append_left, Contains-push, Contains-push_cases, slice_get_within}
use Rattle.lists.proofs.Containing.{Contains-none, Contains-one}
use Rattle.lists.proofs.Reading.{taken_more}
use Rattle.std.proofs.Math.Nat.{mul-le-mul_left}
use Rattle.paths.specs.Paths.{stay, step}
use Rattle.paths.proofs.PathLaws.{append, retold, reverse}
use Rattle.classes.specs.Classes.{AreJoined}
use Rattle.half_boxes.specs.HalfBoxes.{AreTouchingBoxes, TouchHalves}
use Rattle.half_boxes.specs.inside.Growths.{AreGrown, IsNext, IsOpen, Reaches}
use Rattle.half_boxes.specs.inside.Scans.{AreNumbered, IsMatchWith}
use Rattle.half_boxes.specs.declared.boxes.HalfBox.{HalfBox}
use Rattle.half_boxes.specs.declared.scan.Numbered.{Numbered}
use Rattle.half_boxes.proofs.TouchLaws.{boxes_sym}

-- ---- the entries that one touches

module _ (one : Numbered) (front : List Numbered) (pairs : List (ℕ × ℕ)) where
  pub reaches_none : Reaches one [] [] front front pairs pairs
  reaches_none = record {
    front_kept = λ e c. c;
    pairs_kept = λ p c. c;
    moved = λ e c. absurd (Contains-none c);
    apart = λ e c t. Contains-none c;
    kept_from = λ e c. c;
    front_from = λ e c. inl c;
    pairs_from = λ p c. inl c;
    counted = refl;
    few = refl;
  }

  module _ (seen kept front' : List Numbered) (pairs' : List (ℕ × ℕ)) (other : Numbered) (r : Reaches one seen kept front front' pairs pairs') where
    abbrev pub pair : ℕ × ℕ
    pair = (one.number, other.number)

    abbrev pub linked : List (ℕ × ℕ)
    linked = pairs' ++ pair ∷ []

    abbrev pub wider : List Numbered
    wider = seen ++ other ∷ []

    among_wider : (p : ℕ × ℕ) → IsMatchWith one seen p → IsMatchWith one wider p
    among_wider p m = record { other = m.other; among = Contains-append_left seen (other ∷ []) m.other m.among; match = m.match }

    pub reaches_touching : TouchHalves one.one other.one → Reaches one wider kept front (front' ++ other ∷ []) pairs linked
    reaches_touching touch = record {
      front_kept = λ e c. Contains-append_left front' (other ∷ []) e (r.front_kept e c);
      pairs_kept = λ p c. Contains-append_left pairs' (pair ∷ []) p (r.pairs_kept p c);
      moved = λ e c. elim (Contains-push_cases seen other e c) [
        | inl d ↦ elim (r.moved e d) [
          | inl k ↦ inl k
          | inr m ↦ inr (Contains-append_left front' (other ∷ []) e m.0, Contains-append_left pairs' (pair ∷ []) (one.number, e.number) m.1)
        ]
        | inr same ↦ inr (subst (λ (x : Numbered). Contains (front' ++ other ∷ []) x × Contains linked (one.number, x.number)) same
            (Contains-push front' other, Contains-push pairs' pair))
      ];
      apart = r.apart;
      kept_from = λ e c. Contains-append_left seen (other ∷ []) e (r.kept_from e c);
      front_from = λ e c. elim (Contains-push_cases front' other e c) [
        | inl d ↦ elim (r.front_from e d) [
          | inl f ↦ inl f
          | inr m ↦ inr (Contains-append_left seen (other ∷ []) e m.0, Contains-append_left pairs' (pair ∷ []) (one.number, e.number) m.1)
        ]
        | inr same ↦ inr (subst (λ (x : Numbered). Contains wider x × Contains linked (one.number, x.number)) same
            (Contains-push seen other, Contains-push pairs' pair))
      ];
      pairs_from = λ p c. elim (Contains-push_cases pairs' pair p c) [
        | inl d ↦ elim (r.pairs_from p d) [ inl k ↦ inl k | inr m ↦ inr (among_wider p m) ]
        | inr same ↦ inr (record { other = other; among = Contains-push seen other; match = record { touch = touch; numbers = sym same } })
      ];
      counted = let so_far = r.counted in omega (arith, length-append front' (other ∷ []), length-append seen (other ∷ []));
      few = let so_far = r.few in omega (arith, length-append pairs' (pair ∷ []), length-append seen (other ∷ []));
    }

    pub reaches_apart : (TouchHalves one.one other.one → ⊥) → Reaches one wider (kept ++ other ∷ []) front front' pairs pairs'
    reaches_apart apart = record {
      front_kept = r.front_kept;
      pairs_kept = r.pairs_kept;
      moved = λ e c. elim (Contains-push_cases seen other e c) [
        | inl d ↦ elim (r.moved e d) [ inl k ↦ inl (Contains-append_left kept (other ∷ []) e k) | inr m ↦ inr m ]
        | inr same ↦ inl (subst (Contains (kept ++ other ∷ [])) same (Contains-push kept other))
      ];
      apart = λ e c. elim (Contains-push_cases kept other e c) [
        | inl d ↦ r.apart e d
        | inr same ↦ subst (λ (x : Numbered). TouchHalves one.one x.one → ⊥) same apart
      ];
      kept_from = λ e c. elim (Contains-push_cases kept other e c) [
        | inl d ↦ Contains-append_left seen (other ∷ []) e (r.kept_from e d)
        | inr same ↦ subst (Contains wider) same (Contains-push seen other)
      ];
      front_from = λ e c. elim (r.front_from e c) [ inl f ↦ inl f | inr m ↦ inr (Contains-append_left seen (other ∷ []) e m.0, m.1) ];
      pairs_from = λ p c. elim (r.pairs_from p c) [ inl k ↦ inl k | inr m ↦ inr (among_wider p m) ];
      counted = let so_far = r.counted in omega (arith, length-append kept (other ∷ []), length-append seen (other ∷ []));
      few = let so_far = r.few in omega (arith, length-append kept (other ∷ []), length-append seen (other ∷ []));
    }

-- one item more of those that are seen
pub reaches_next : (one : Numbered) (left kept front front' : List Numbered) (pairs pairs' : List (ℕ × ℕ)) (i : ℕ) (other : Numbered) → i < length left
    → other ≡ get_or left i other → Reaches one (take i left ++ other ∷ []) kept front front' pairs pairs' → Reaches one (take (i + 1) left) kept front front' pairs pairs'
reaches_next one left kept front front' pairs pairs' i other small at r =
    subst (λ seen. Reaches one seen kept front front' pairs pairs') (sym (taken_more left i other small at)) r

-- ---- trees

module _ (boxes : List HalfBox) where
  pub grown_none : (entries : List Numbered) → AreNumbered boxes entries → length entries ≡ length boxes → AreGrown boxes entries [] []
  grown_none entries numbered many = record {
    numbered = λ e among. elim among [ inl c ↦ (numbered e).0 c | inr c ↦ absurd (Contains-none c) ];
    touching = λ a b c. absurd (Contains-none c);
    as_one = λ e f c d. absurd (Contains-none c);
    all = λ a b t. let e : Numbered = record { number = a; one = t.one } in inr (record { entry = e; number_is = refl; among = inl ((numbered e).1 t.one_at) });
    few = omega arith;
  }

  -- one entry fewer is left or at the front
  pub next_less : (front left front' left' : List Numbered) (one : Numbered) → IsNext front left front' left' one
      → length left' + length front' < length left + length front
  next_less front left front' left' one next = elim next [
    | inl n ↦ omega (arith, ap (λ (xs : List Numbered). length xs) n.0, ap (λ (xs : List Numbered). length xs) n.1, length-append front' (one ∷ []))
    | inr n ↦
        omega (
          arith,
          ap (λ (xs : List Numbered). length xs) n.0,
          ap (λ (xs : List Numbered). length xs) n.1,
          ap (λ (xs : List Numbered). length xs) n.2,
          length-append left' (one ∷ []),
        )
  ]

  -- the last of those that are left, as the one that is at the front
  grown_begun : (left : List Numbered) (pairs : List (ℕ × ℕ)) (one : Numbered) → AreGrown boxes (left ++ one ∷ []) [] pairs → AreGrown boxes left (one ∷ []) pairs
  grown_begun left pairs one h = record {
    numbered = λ e among. elim among [
      | inl c ↦ h.numbered e (inl (Contains-append_left left (one ∷ []) e c))
      | inr c ↦ subst (λ (x : Numbered). slice_get boxes x.number ≡ Some x.one) (Contains-one one e c) (h.numbered one (inl (Contains-push left one)))
    ];
    touching = h.touching;
    as_one = λ e f c d.
        subst (λ (x : Numbered). AreJoined (length boxes) pairs x.number f.number) (Contains-one one e c)
        (subst (λ (x : Numbered). AreJoined (length boxes) pairs one.number x.number) (Contains-one one f d)
        (stay (slice_get_within boxes one.number one.one (h.numbered one (inl (Contains-push left one))))));
    all = λ a b t. elim (h.all a b t) [
      | inl j ↦ inl j
      | inr o ↦ elim o.among [
        | inl c ↦ elim (Contains-push_cases left one o.entry c) [
          | inl d ↦ inr (record { entry = o.entry; number_is = o.number_is; among = inl d })
          | inr same ↦ inr (record { entry = one; number_is = ap (λ (x : Numbered). x.number) same ∙ o.number_is; among = inr (Contains-push [] one) })
        ]
        | inr c ↦ absurd (Contains-none c)
      ]
    ];
    few = let so_far = h.few in omega (arith, length-append left (one ∷ []));
  }

  -- the entry that is taken next, as if it were still at the front
  pub grown_next : (left front left' front' : List Numbered) (pairs : List (ℕ × ℕ)) (one : Numbered) → IsNext front left front' left' one
      → AreGrown boxes left front pairs → AreGrown boxes left' (front' ++ one ∷ []) pairs
  grown_next left front left' front' pairs one next g = elim next [
    | inl n ↦ subst (λ l. AreGrown boxes l (front' ++ one ∷ []) pairs) (sym n.1) (subst (λ f. AreGrown boxes left f pairs) n.0 g)
    | inr n ↦ subst (λ f. AreGrown boxes left' (f ++ one ∷ []) pairs) (sym n.1)
        (grown_begun left' pairs one (subst (λ l. AreGrown boxes l [] pairs) n.2 (subst (λ f. AreGrown boxes left f pairs) n.0 g)))
  ]

  module _ (left kept front front' : List Numbered) (pairs pairs' : List (ℕ × ℕ)) (one : Numbered) (g : AreGrown boxes left (front ++ one ∷ []) pairs)
      (r : Reaches one left kept front front' pairs pairs') where
    one_at : slice_get boxes one.number ≡ Some one.one
    one_at = g.numbered one (inr (Contains-push front one))

    joined_still : {a b : ℕ} → AreJoined (length boxes) pairs a b → AreJoined (length boxes) pairs' a b
    joined_still j = retold (λ a b _ _ e. inr (elim e [ inl c ↦ inl (r.pairs_kept (a, b) c) | inr c ↦ inr (r.pairs_kept (b, a) c) ])) j

    turned : {a b : ℕ} → AreJoined (length boxes) pairs' a b → AreJoined (length boxes) pairs' b a
    turned j = reverse (λ a b e. elim e [ inl c ↦ inr c | inr c ↦ inl c ]) j

    seen_at : (e : Numbered) → Contains left e → slice_get boxes e.number ≡ Some e.one
    seen_at e c = g.numbered e (inl c)

    to_seen : (e : Numbered) → Contains left e → Contains pairs' (one.number, e.number) → AreJoined (length boxes) pairs' one.number e.number
    to_seen e c p = step (slice_get_within boxes one.number one.one one_at) (inl p) (stay (slice_get_within boxes e.number e.one (seen_at e c)))

    to_front : (e : Numbered) → Contains front' e → AreJoined (length boxes) pairs' one.number e.number
    to_front e c = elim (r.front_from e c) [
      | inl f ↦ joined_still (g.as_one one e (Contains-push front one) (Contains-append_left front (one ∷ []) e f))
      | inr m ↦ to_seen e m.0 m.1
    ]

    link_touches : (a b : ℕ) → IsMatchWith one left (a, b) → AreTouchingBoxes boxes a b
    link_touches a b m = record {
      one = one.one;
      other = m.other.one;
      one_at = ap (slice_get boxes) (ap (λ (p : ℕ × ℕ). p.0) m.match.numbers) ∙ one_at;
      other_at = ap (slice_get boxes) (ap (λ (p : ℕ × ℕ). p.1) m.match.numbers) ∙ seen_at m.other m.among;
      touch = m.match.touch;
    }

    -- what touches a box touches the entry of this number
    touches_it : (b : ℕ) (f : Numbered) → AreTouchingBoxes boxes one.number b → slice_get boxes f.number ≡ Some f.one → f.number ≡ b → TouchHalves one.one f.one
    touches_it b f t at is =
        let here : t.one ≡ one.one = let e = t.one_at in let o = one_at in cc in
        let there : t.other ≡ f.one = let e = t.other_at in let o = subst (λ n. slice_get boxes n ≡ Some f.one) is at in cc in
        subst (λ x. TouchHalves x f.one) here (subst (λ x. TouchHalves t.one x) there t.touch)

    from_one : (b : ℕ) → AreTouchingBoxes boxes one.number b → AreJoined (length boxes) pairs' one.number b
    from_one b t = elim (g.all b one.number (boxes_sym boxes one.number b t)) [
      | inl j ↦ turned (joined_still j)
      | inr o ↦ subst (AreJoined (length boxes) pairs' one.number) o.number_is (elim o.among [
        | inl c ↦ elim (r.moved o.entry c) [
          | inl k ↦ absurd (r.apart o.entry k (touches_it b o.entry t (seen_at o.entry c) o.number_is))
          | inr m ↦ to_seen o.entry c m.1
        ]
        | inr c ↦ joined_still (g.as_one one o.entry (Contains-push front one) c)
      ])
    ]

    still_open : (a b : ℕ) → AreTouchingBoxes boxes a b → IsOpen left (front ++ one ∷ []) a → AreJoined (length boxes) pairs' a b ⊎ IsOpen kept front' a
    still_open a b t o = elim o.among [
      | inl c ↦ elim (r.moved o.entry c) [
        | inl k ↦ inr (record { entry = o.entry; number_is = o.number_is; among = inl k })
        | inr m ↦ inr (record { entry = o.entry; number_is = o.number_is; among = inr m.0 })
      ]
      | inr c ↦ elim (Contains-push_cases front one o.entry c) [
        | inl f ↦ inr (record { entry = o.entry; number_is = o.number_is; among = inr (r.front_kept o.entry f) })
        | inr same ↦
            let is : one.number ≡ a = ap (λ (x : Numbered). x.number) same ∙ o.number_is in
            inl (subst (λ n. AreJoined (length boxes) pairs' n b) is (from_one b (subst (λ n. AreTouchingBoxes boxes n b) (sym is) t)))
      ]
    ]

    pub grown_more : AreGrown boxes kept front' pairs'
    grown_more = record {
      numbered = λ e among. elim among [
        | inl c ↦ seen_at e (r.kept_from e c)
        | inr c ↦ elim (r.front_from e c) [
          | inl f ↦ g.numbered e (inr (Contains-append_left front (one ∷ []) e f))
          | inr m ↦ seen_at e m.0
        ]
      ];
      touching = λ a b c. elim (r.pairs_from (a, b) c) [ inl d ↦ g.touching a b d | inr m ↦ link_touches a b m ];
      as_one = λ e f c d. append (turned (to_front e c)) (to_front f d);
      all = λ a b t. elim (g.all a b t) [ inl j ↦ inl (joined_still j) | inr o ↦ still_open a b t o ];
      few = let so_far = g.few in omega (arith, r.few);
    }

  -- where nothing is left, all that touch are joined
  pub all_joined : (left front : List Numbered) (pairs : List (ℕ × ℕ)) → front ≡ [] → left ≡ [] → AreGrown boxes left front pairs
      → (a b : ℕ) → AreTouchingBoxes boxes a b → AreJoined (length boxes) pairs a b
  all_joined left front pairs no_front none_left g a b t = elim (g.all a b t) [
    | inl j ↦ j
    | inr o ↦ absurd (elim o.among [
      | inl c ↦ Contains-none (subst (λ l. Contains l o.entry) none_left c)
      | inr c ↦ Contains-none (subst (λ f. Contains f o.entry) no_front c)
    ])
  ]

-- no more pairs than boxes are no more than a sweep may find
pub pairs_few : (n pairs : ℕ) → pairs ≤ n → (levels : ℕ) → n ≤ 2 ^ levels → pairs ≤ 51 * n * (levels + 1)
pairs_few n pairs few levels most = let enough : 1 ≤ 51 * (levels + 1) = omega arith in omega (arith, mul-le-mul_left n enough)
