-- the splits of a strip, and those of its halves
use Rattle.std.proofs.Common.{ℕ, ◌+◌, ◌<◌, ◌≤◌, ◌≡◌, ◌∙◌, sym, ap, subst, arith, inl, inr, ◌⊎◌, List, length, get_or, take, drop, ℤ, ◌≤ℤ◌, ◌<ℤ◌, All, Contains}
use Rattle.lists.proofs.Words.{ints, cases_lt, Contains-append_cases, take-append-drop, get_or-take, get_or_default, length-take, length-drop, All-contains}
use Rattle.std.proofs.lemmas.List.{get_or-drop}
use Rattle.std.proofs.lemmas.List.Elements.{Contains-get_or}
use Rattle.geo_core.specs.Plane.{IsIn}
use Rattle.touch_sweep.specs.inside.Splits.{AreOrdered, AreParted, HaveBegins}
use Rattle.touch_sweep.specs.declared.numbered.Numbered.{Numbered}

module _ (splits : List ℤ) (k : ℕ) (some : k < length splits) where
  take_ordered : AreOrdered splits → AreOrdered (take k splits)
  take_ordered up i j d less small =
      let l = length-take k splits in
      let h = up i j d less (omega arith) in
      rw (get_or-take k splits i d (omega arith), get_or-take k splits j d (omega arith)) h

  drop_ordered : AreOrdered splits → AreOrdered (drop k splits)
  drop_ordered up i j d less small =
      let l = length-drop k splits in
      let h = up (k + i) (k + j) d (omega arith) (omega arith) in
      rw (get_or-drop k splits i d, get_or-drop k splits j d) h

  in_either : (x : ℤ) → Contains splits x → Contains (take k splits) x ⊎ Contains (drop k splits) x
  in_either x c = Contains-append_cases (take k splits) (drop k splits) x (subst (λ xs. Contains xs x) (sym (take-append-drop k splits)) c)

  middle_among : (d : ℤ) → Contains (drop k splits) (get_or (drop k splits) 0 d)
  middle_among d = let l = length-drop k splits in Contains-get_or (drop k splits) 0 d (omega arith)

  middle_is : (d : ℤ) → get_or (drop k splits) 0 d ≡ get_or splits k d
  middle_is d = let e : k + 0 ≡ k = omega arith in get_or-drop k splits 0 d ∙ ap (λ n. get_or splits n d) e

  module _ (up : AreOrdered splits) (d : ℤ) where
    take_low : (x : ℤ) → Contains (take k splits) x → x ≤ℤ get_or (drop k splits) 0 d
    take_low x (i, small, e) =
        let l = length-take k splits in
        let at = get_or-take k splits i x (omega arith) in
        let h = up i k x (omega arith) some in
        let m = middle_is d ∙ get_or_default splits k d x some in
        omega (arith, ints)

    drop_high : (x : ℤ) → Contains (drop k splits) x → get_or (drop k splits) 0 d ≤ℤ x
    drop_high x (i, small, e) =
        let l = length-drop k splits in
        let at = get_or-drop k splits i x in
        let m = middle_is d ∙ get_or_default splits k d x some in
        elim (cases_lt 0 i) [
          | inl later ↦ let h = up k (k + i) x (omega arith) (omega arith) in omega (arith, ints)
          | inr first ↦ let f : k + i ≡ k = omega arith in let g : get_or splits (k + i) x ≡ get_or splits k x = ap (λ n. get_or splits n x) f in omega (arith, ints)
        ]

  module _ (low high middle d : ℤ) where
    pub parted_at : (low ≤ℤ high → (low ≤ℤ middle) × (middle ≤ℤ high)) → ((x : ℤ) → IsIn low high x → IsIn low middle x → x <ℤ get_or (drop k splits) 0 d)
        → ((x : ℤ) → IsIn low high x → IsIn middle high x → get_or (drop k splits) 0 d ≤ℤ x) → k + k ≤ length splits → length splits ≤ k + k + 1
        → AreParted low high splits middle (take k splits) (drop k splits)
    parted_at between lower higher half most =
        let t = length-take k splits in let l = length-drop k splits in
        record {
          between = between;
          ordered = λ up. (take_ordered up, drop_ordered up);
          all_before = λ up x c i before. elim (in_either x c) [
            | inl t ↦ t
            | inr b ↦ let h = drop_high up d x b in let f = lower x i before in absurd (omega (arith, ints))
          ];
          all_behind = λ up x c i behind. elim (in_either x c) [
            | inl t ↦
                let h = take_low up d x t in let f = higher x i behind in
                let e : get_or (drop k splits) 0 d ≡ x = omega (arith, ints) in
                subst (λ y. Contains (drop k splits) y) e (middle_among d)
            | inr b ↦ b
          ];
          few_before = omega arith;
          few_behind = omega arith;
        }

-- ---- points of a strip

pub begins_of_some : (low high : ℤ) (splits : List ℤ) (points inner : List Numbered) → ((e : Numbered) → Contains inner e → Contains points e)
    → HaveBegins splits low high points → HaveBegins splits low high inner
begins_of_some low high splits points inner among h = record { ordered = h.ordered; all = λ e c i. h.all e (among e c) i }

-- the points of a part have their begins among the splits of the part
pub begins_before : (low high middle : ℤ) (splits before behind : List ℤ) (points inner : List Numbered) → ((e : Numbered) → Contains inner e → Contains points e × IsIn low high e.rect.x0)
    → AreParted low high splits middle before behind → HaveBegins splits low high points → HaveBegins before low middle inner
begins_before low high middle splits before behind points inner among parted h = record {
  ordered = (parted.ordered h.ordered).0;
  all = λ e c i. let m = among e c in parted.all_before h.ordered e.rect.x0 (h.all e m.0 m.1) m.1 i;
}

pub begins_behind : (low high middle : ℤ) (splits before behind : List ℤ) (points inner : List Numbered) → ((e : Numbered) → Contains inner e → Contains points e × IsIn low high e.rect.x0)
    → AreParted low high splits middle before behind → HaveBegins splits low high points → HaveBegins behind middle high inner
begins_behind low high middle splits before behind points inner among parted h = record {
  ordered = (parted.ordered h.ordered).1;
  all = λ e c i. let m = among e c in parted.all_behind h.ordered e.rect.x0 (h.all e m.0 m.1) m.1 i;
}

-- with one split at most they all begin in one column
pub one_column : (low high : ℤ) (splits : List ℤ) (points : List Numbered) → All (λ e. IsIn low high e.rect.x0) points
    → HaveBegins splits low high points → length splits ≤ 1 → (a b : Numbered) → Contains points a → Contains points b → a.rect.x0 ≡ b.rect.x0
one_column low high splits points within h few a b c d =
    same (h.all a c (All-contains (λ e. IsIn low high e.rect.x0) points a within c))
    (h.all b d (All-contains (λ e. IsIn low high e.rect.x0) points b within d))
  where
    same : Contains splits a.rect.x0 → Contains splits b.rect.x0 → a.rect.x0 ≡ b.rect.x0
    same (i, small, e) (j, small', f) =
        let n : i ≡ j = omega arith in
        sym e ∙ get_or_default splits i a.rect.x0 b.rect.x0 small ∙ ap (λ n. get_or splits n b.rect.x0) n ∙ f
