-- the entry of a list that reaches farthest up
use Rattle.std.proofs.Common.{ℕ, ◌+◌, ◌<◌, ◌≤◌, ◌≡◌, sym, subst, List, [], ◌∷◌, length, get_or, take, arith, inl, inr, ◌≤ℤ◌, ◌<ℤ◌, All, take_all, Contains}
use Rattle.lists.proofs.Words.{ints, All-nil, All-more, All-weaker, All-contains}
use Rattle.touch_sweep.specs.inside.Chains.{IsFarthestOf, KeepsFarthest}
use Rattle.touch_sweep.specs.declared.numbered.Numbered.{Numbered}
use Rattle.lists.proofs.Containing.{Contains-cons_cases, Contains-head, Contains-none, Contains-one, Contains-tail}

-- of the first one and the first `i` of the later ones
pub record IsFarthestYet (entries : List Numbered) (first : Numbered) (later : List Numbered) (i : ℕ) (farthest : Numbered) : Type 0 where
  pub all : entries ≡ first ∷ later
  pub among : Contains entries farthest
  pub from_first : first.rect.y1 ≤ℤ farthest.rect.y1
  pub from_later : All (λ e. e.rect.y1 ≤ℤ farthest.rect.y1) (take i later)

pub farthest_first : (entries : List Numbered) (first : Numbered) (later : List Numbered) → entries ≡ first ∷ later → IsFarthestYet entries first later 0 first
farthest_first entries first later e = record {
  all = e;
  among = subst (λ ys. Contains ys first) (sym e) (Contains-head first later);
  from_first = omega (arith, ints);
  from_later = All-nil _;
}

module _ {entries : List Numbered} {first : Numbered} {later : List Numbered} {i : ℕ} {farthest : Numbered} (h : IsFarthestYet entries first later i farthest) where
  pub farthest_stays : (x : Numbered) → i < length later → x ≡ get_or later i x → x.rect.y1 ≤ℤ farthest.rect.y1 → IsFarthestYet entries first later (i + 1) farthest
  farthest_stays x small at less = record {
    all = h.all;
    among = h.among;
    from_first = h.from_first;
    from_later = All-more (λ e. e.rect.y1 ≤ℤ farthest.rect.y1) later i x small h.from_later (subst (λ (e : Numbered). e.rect.y1 ≤ℤ farthest.rect.y1) at less);
  }

  pub farthest_next : (x : Numbered) → i < length later → x ≡ get_or later i x → farthest.rect.y1 <ℤ x.rect.y1 → IsFarthestYet entries first later (i + 1) x
  farthest_next x small at more = record {
    all = h.all;
    among = subst (λ ys. Contains ys x) (sym h.all) (Contains-tail first later x (i, small, sym at));
    from_first = let f = h.from_first in omega (arith, ints);
    from_later = All-more (λ e. e.rect.y1 ≤ℤ x.rect.y1) later i x small
        (All-weaker (λ e. e.rect.y1 ≤ℤ farthest.rect.y1) (λ e. e.rect.y1 ≤ℤ x.rect.y1) (λ e m. omega (arith, ints)) (take i later) h.from_later)
        (subst (λ (e : Numbered). e.rect.y1 ≤ℤ x.rect.y1) at (omega (arith, ints)));
  }

  pub farthest_found : length later ≤ i → IsFarthestOf entries farthest
  farthest_found long = record {
    among = h.among;
    most = λ e c. elim (Contains-cons_cases first later e (subst (λ ys. Contains ys e) h.all c)) [
      | inl same ↦ subst (λ (x : Numbered). x.rect.y1 ≤ℤ farthest.rect.y1) same h.from_first
      | inr d ↦ All-contains (λ x. x.rect.y1 ≤ℤ farthest.rect.y1) later e (subst (All (λ x. x.rect.y1 ≤ℤ farthest.rect.y1)) (take_all i later long) h.from_later) d
    ];
  }

pub none_to_keep : (entries : List Numbered) → entries ≡ [] → KeepsFarthest entries entries
none_to_keep entries none = record {
  kept = λ e c. c;
  some = λ e c. absurd (Contains-none (subst (λ ys. Contains ys e) none c));
}

pub farthest_kept : (entries : List Numbered) (farthest : Numbered) → IsFarthestOf entries farthest → KeepsFarthest entries (farthest ∷ [])
farthest_kept entries farthest is = record {
  kept = λ e c. subst (Contains entries) (Contains-one farthest e c) is.among;
  some = λ e c. (farthest, Contains-head farthest [], is.most e c);
}
