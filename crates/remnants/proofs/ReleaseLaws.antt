-- loose boxes of terminals that are not listed any more lose them, and some go
use Rattle.std.proofs.Common.{ℕ, ◌<◌, length, get_or, List, [], ◌∷◌, ◌++◌, ◌≡◌, refl, subst, sym, ap, ◌∙◌, inl, inr, ◌⊎◌, ◌↔◌, All, Contains, Option, Some, None}
use Rattle.lists.proofs.Containing.{all_of_each, Contains-none}
use Rattle.lists.proofs.Words.{All-contains, Contains-append_left, Contains-push, Contains-push_cases, same_Some}
use Rattle.geo_core.specs.declared.plane.Half.{Half}
use Rattle.half_boxes.specs.HalfBoxes.{HasHalf, LiesWithin}
use Rattle.half_boxes.specs.declared.boxes.HalfBox.{HalfBox}
use Rattle.remnants.specs.Remnants.{RemnantLists, HasLoose, IsSplit, IsJoined, IsLooseWithin}
use Rattle.remnants.specs.declared.parts.Loose.{Loose}
use Rattle.remnants.specs.inside.Parting.{HasLooseOf}
use Rattle.remnants.specs.inside.Releasing.{AreReleased, IsReleased, IsUnlisted, plain}
use Rattle.remnants.proofs.CutLaws.{leaders_with}
use Rattle.remnants.proofs.FollowLaws.{Follows, more_follows, split_follows}
use Rattle.remnants.proofs.SettleLaws.{with_other}

-- ---- boxes of none

pub plain_more : (loose : List Loose) (k : ℕ) (one : Loose) (boxes : List HalfBox) → k < length loose → one ≡ get_or loose k one → one.terminal ≡ None
    → ((box : HalfBox) → Contains boxes box → Contains loose (plain box)) → (box : HalfBox) → Contains (boxes ++ one.part ∷ []) box → Contains loose (plain box)
plain_more loose k one boxes small at none so_far box among = elim (Contains-push_cases boxes one.part box among) [
  | inl before ↦ so_far box before
  | inr last ↦
      let make : Option ℕ → Loose = λ terminal. record { part = one.part; terminal = terminal } in
      let is : one ≡ plain box = ap make none ∙ ap plain last in
      let here : Contains loose one = (k, small, sym at) in
      subst (Contains loose) is here
]

-- ---- box by box

-- what has become of the first boxes
pub record AreReleasedTo (listed : List ℕ) (boxes : List HalfBox) (old new : List Loose) : Type 0 where
  pub there : (one : Loose) → Contains old one → ((it : Loose) × Contains new it × IsReleased listed boxes one (Some it)) ⊎ IsReleased listed boxes one None
  pub from : (it : Loose) → Contains new it → (one : Loose) × Contains old one × IsReleased listed boxes one (Some it)

pub none_released : (listed : List ℕ) (boxes : List HalfBox) → AreReleasedTo listed boxes [] []
none_released listed boxes = record { there = λ one h. absurd (Contains-none h); from = λ it h. absurd (Contains-none h) }

module _ (listed : List ℕ) (boxes : List HalfBox) (old new : List Loose) (one : Loose) (so_far : AreReleasedTo listed boxes old new) where
  pub one_kept : (it : Loose) → IsReleased listed boxes one (Some it) → AreReleasedTo listed boxes (old ++ one ∷ []) (new ++ it ∷ [])
  one_kept it is = record {
    there = λ x h. elim (Contains-push_cases old one x h) [
      | inl before ↦ elim (so_far.there x before) [
        | inl kept ↦ inl (kept.0, Contains-append_left new (it ∷ []) kept.0 kept.1, kept.2)
        | inr gone ↦ inr gone
      ]
      | inr last ↦ inl (it, Contains-push new it, subst (λ y. IsReleased listed boxes y (Some it)) last is)
    ];
    from = λ y h. elim (Contains-push_cases new it y h) [
      | inl before ↦ let x = so_far.from y before in (x.0, Contains-append_left old (one ∷ []) x.0 x.1, x.2)
      | inr last ↦ (one, Contains-push old one, subst (λ z. IsReleased listed boxes one (Some z)) last is)
    ];
  }

  pub one_gone : IsReleased listed boxes one None → AreReleasedTo listed boxes (old ++ one ∷ []) new
  one_gone is = record {
    there = λ x h. elim (Contains-push_cases old one x h) [
      | inl before ↦ so_far.there x before
      | inr last ↦ inr (subst (λ y. IsReleased listed boxes y None) last is)
    ];
    from = λ y h. let x = so_far.from y h in (x.0, Contains-append_left old (one ∷ []) x.0 x.1, x.2);
  }

-- ---- all boxes

module _ (listed : List ℕ) (boxes : List HalfBox) (old new : List Loose) (all : AreReleasedTo listed boxes old new) (plain_are : (box : HalfBox) → Contains boxes box → Contains old (plain box)) where
  same_part : (one it : Loose) → IsReleased listed boxes one (Some it) → one.part ≡ it.part
  same_part one it (inl same) = ap (λ (x : Loose). x.part) (sym same)
  same_part one it (inr (same, unlisted)) = ap (λ (x : Loose). x.part) (sym same)

  -- what becomes of a box of none, or of a listed terminal, is itself
  itself : (one : Loose) → (IsUnlisted listed one → ⊥) → Contains old one → Contains new one
  itself one not among = elim (all.there one among) [
    | inl kept ↦ elim kept.2 [
      | inl same ↦ subst (Contains new) same kept.1
      | inr plain ↦ absurd (not plain.1)
    ]
    | inr gone ↦ absurd (not gone.0)
  ]

  plain_listed : (box : HalfBox) → IsUnlisted listed (plain box) → ⊥
  plain_listed box (terminal, is, unlisted) = cc is

  together : (terminal : Option ℕ) (h : Half) → HasLooseOf old terminal h → (some : Option ℕ) × HasLooseOf new some h
  together terminal h l = elim (all.there l.one l.among) [
    | inl kept ↦ (kept.0.terminal, record { one = kept.0; among = kept.1; of_terminal = refl; has = subst (λ part. HasHalf part h) (same_part l.one kept.0 kept.2) l.has })
    | inr gone ↦
        let box = gone.1 in
        (None, record { one = plain box.0; among = itself (plain box.0) (plain_listed box.0) (plain_are box.0 box.1); of_terminal = refl; has = box.2 h l.has })
  ]

  each : (terminal : ℕ) (h : Half) → Contains listed terminal → HasLooseOf old (Some terminal) h ↔ HasLooseOf new (Some terminal) h
  each terminal h is = (
    λ l. record {
      one = l.one;
      among = itself l.one (λ (t, of, unlisted). unlisted (subst (Contains listed) (same_Some terminal t (sym l.of_terminal ∙ of)) is)) l.among;
      of_terminal = l.of_terminal;
      has = l.has;
    },
    λ l.
        let x = all.from l.one l.among in
        elim x.2 [
          | inl same ↦ record { one = l.one; among = subst (Contains old) (sym same) x.1; of_terminal = l.of_terminal; has = l.has }
          | inr plain ↦ let e = sym l.of_terminal ∙ ap (λ (y : Loose). y.terminal) plain.0 in absurd (cc e)
        ],
  )

  pub are_released : AreReleased listed old new
  are_released = record {
    parts = λ it h. let x = all.from it h in (x.0, x.1, same_part x.0 it x.2);
    together = together;
    each = each;
  }

-- ---- the same is parted

module _ (remnant : RemnantLists) (listed : List ℕ) (released : List Loose) (are : AreReleased listed remnant.loose released)
    (listed_are : (terminal : ℕ) → Contains remnant.terminals terminal → Contains listed terminal) where
  old_has : (removed : HalfBox) (h : Half) → HasLoose remnant removed h → HasLoose (with_other remnant released) removed h
  old_has removed h l =
      let x = are.together l.loose.terminal h (record { one = l.loose; among = l.among; of_terminal = refl; has = l.has }) in
      record { loose = x.1.one; among = x.1.among; has = x.1.has; spared = l.spared }

  new_has : (removed : HalfBox) (h : Half) → HasLoose (with_other remnant released) removed h → HasLoose remnant removed h
  new_has removed h l = let x = are.parts l.loose l.among in record { loose = x.0; among = x.1; has = subst (λ part. HasHalf part h) (sym x.2) l.has; spared = l.spared }

  there : (removed : HalfBox) → Follows removed remnant (with_other remnant released)
  there removed = more_follows removed remnant (with_other remnant released) (λ t h. h) (λ f h. h) (λ m h. h) (λ h l. inr (old_has removed h l)) (λ terminal among h l.
      let x = (are.each terminal h (listed_are terminal among)).0 (record { one = l.loose; among = l.among; of_terminal = l.of_terminal; has = l.has }) in
      inr (record { loose = x.one; among = x.among; of_terminal = x.of_terminal; has = x.has; spared = l.spared }))

  back : (removed : HalfBox) → Follows removed (with_other remnant released) remnant
  back removed = more_follows removed (with_other remnant released) remnant (λ t h. h) (λ f h. h) (λ m h. h) (λ h l. inr (new_has removed h l)) (λ terminal among h l.
      let x = (are.each terminal h (listed_are terminal among)).1 (record { one = l.loose; among = l.among; of_terminal = l.of_terminal; has = l.has }) in
      inr (record { loose = x.one; among = x.among; of_terminal = x.of_terminal; has = x.has; spared = l.spared }))

  pub released_alike : (removed : HalfBox) → IsSplit (with_other remnant released) removed ↔ IsSplit remnant removed
  released_alike removed = (split_follows removed remnant (with_other remnant released) (there removed), split_follows removed (with_other remnant released) remnant (back removed))

  pub released_within : (outer : HalfBox) → IsLooseWithin remnant outer → All (λ (one : Loose). LiesWithin one.part outer) released
  released_within outer within = all_of_each (λ (one : Loose). LiesWithin one.part outer) released (λ it h.
      let x = are.parts it h in
      subst (λ part. LiesWithin part outer) x.2 (All-contains (λ (one : Loose). LiesWithin one.part outer) remnant.loose x.0 within x.1))

  pub released_joined : IsJoined remnant → IsJoined (with_other remnant released)
  released_joined joined = record {
    leaders = leaders_with remnant.fixed remnant.marks remnant.loose released remnant.terminals joined.leaders;
    touching = joined.touching;
  }
