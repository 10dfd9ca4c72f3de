-- a loose box that is cut by what may be removed
use Rattle.std.proofs.Common.{ℕ, List, [], ◌∷◌, ◌++◌, ◌≡◌, length, refl, subst, sym, inl, inr, ◌⊎◌, ◌↔◌, ap, ◌∙◌, append_assoc, arith, Option, Some, None, All, ◌<ℤ◌, ◌≤ℤ◌}
use Rattle.lists.proofs.Containing.{Contains-none, Contains-one, Contains-head}
use Rattle.lists.proofs.Words.{append-nil, Contains-append_left, Contains-append_right, Contains-append_cases, All-append, All-nil, All-cons, ints, by_lt_z}
use Rattle.geo_core.specs.Plane.{IsIn}
use Rattle.geo_core.specs.declared.plane.Half.{Half}
use Rattle.half_boxes.specs.HalfBoxes.{HasHalf, HasHalfIn, LiesWithin}
use Rattle.half_boxes.specs.declared.boxes.HalfBox.{HalfBox}
use Rattle.remnants.specs.Remnants.{RemnantLists, HasLeaders, IsLooseWithin}
use Rattle.remnants.specs.declared.parts.Fixed.{Fixed}
use Rattle.remnants.specs.declared.parts.Loose.{Loose}
use Rattle.remnants.specs.declared.parts.Mark.{Mark}
use Rattle.remnants.specs.inside.Parting.{IsBetween, PartAlike, HasLooseOf, loose_of, marks_of, with_loose, IsSettled, IsCutInto, IsKeptPart}
use Rattle.remnants.proofs.FollowLaws.{alike_then}
use Rattle.remnants.proofs.SettleLaws.{HasSpared, loose_alike, settled_alike, leaders_after}

-- ---- which loose boxes lists have

module _ {terminal : Option ℕ} {h : Half} where
  pub in_left : (xs ys : List Loose) → HasLooseOf xs terminal h → HasLooseOf (xs ++ ys) terminal h
  in_left xs ys l = record { one = l.one; among = Contains-append_left xs ys l.one l.among; of_terminal = l.of_terminal; has = l.has }

  pub in_right : (xs ys : List Loose) → HasLooseOf ys terminal h → HasLooseOf (xs ++ ys) terminal h
  in_right xs ys l = record { one = l.one; among = Contains-append_right xs ys l.one l.among; of_terminal = l.of_terminal; has = l.has }

  pub in_either : (xs ys : List Loose) → HasLooseOf (xs ++ ys) terminal h → HasLooseOf xs terminal h ⊎ HasLooseOf ys terminal h
  in_either xs ys l = elim (Contains-append_cases xs ys l.one l.among) [
    | inl c ↦ inl (record { one = l.one; among = c; of_terminal = l.of_terminal; has = l.has })
    | inr c ↦ inr (record { one = l.one; among = c; of_terminal = l.of_terminal; has = l.has })
  ]

  pub of_part : (part : Option HalfBox) (some : Option ℕ) → HasLooseOf (loose_of part some) terminal h → (some ≡ terminal) × HasHalfIn part h
  of_part None some l = absurd (Contains-none l.among)
  of_part (Some part) some l =
      let same = Contains-one (record { part = part; terminal = some }) l.one l.among in
      (ap (λ (x : Loose). x.terminal) same ∙ l.of_terminal, subst (λ (x : Loose). HasHalf x.part h) (sym same) l.has)

  pub as_part : (part : Option HalfBox) → HasHalfIn part h → HasLooseOf (loose_of part terminal) terminal h
  as_part None has = absurd has
  as_part (Some part) has = record { one = record { part = part; terminal = terminal }; among = Contains-head _ []; of_terminal = refl; has = has }

-- ---- a part that becomes fixed, wherever its loose box stands

-- a box in the midst of loose ones, as the first
first_spared : (removed : HalfBox) (xs ys : List Loose) (x : Loose) → HasSpared removed (xs ++ x ∷ ys) (x ∷ (xs ++ ys)) × HasSpared removed (x ∷ (xs ++ ys)) (xs ++ x ∷ ys)
first_spared removed xs ys x = (
  λ t h out l. elim (in_either xs (x ∷ ys) l) [
    | inl a ↦ in_right (x ∷ []) (xs ++ ys) (in_left xs ys a)
    | inr b ↦ elim (in_either (x ∷ []) ys b) [ inl c ↦ in_left (x ∷ []) (xs ++ ys) c | inr d ↦ in_right (x ∷ []) (xs ++ ys) (in_right xs ys d) ]
  ],
  λ t h out l. elim (in_either (x ∷ []) (xs ++ ys) l) [
    | inl a ↦ in_right xs (x ∷ ys) (in_left (x ∷ []) ys a)
    | inr b ↦ elim (in_either xs ys b) [ inl c ↦ in_left xs (x ∷ ys) c | inr d ↦ in_right xs (x ∷ ys) (in_right (x ∷ []) ys d) ]
  ],
)

module _ (remnant : RemnantLists) (leaders : HasLeaders remnant) (part : HalfBox) (terminal : Option ℕ) (number : ℕ) (fixed : List Fixed) (marks : List Mark)
    (count : number ≡ length remnant.fixed) (fixed_is : fixed ≡ remnant.fixed ++ record { part = part; leader = number } ∷ []) (marks_is : marks ≡ remnant.marks ++ marks_of terminal number) where
  fixed_are : fixed ≡ remnant.fixed ++ record { part = part; leader = length remnant.fixed } ∷ []
  fixed_are = subst (λ k. fixed ≡ remnant.fixed ++ record { part = part; leader = k } ∷ []) count fixed_is

  marks_are : marks ≡ remnant.marks ++ marks_of terminal (length remnant.fixed)
  marks_are = subst (λ k. marks ≡ remnant.marks ++ marks_of terminal k) count marks_is

  pub is_settled : IsSettled (Some part) terminal remnant (record { fixed = fixed; loose = remnant.loose; marks = marks; terminals = remnant.terminals })
  is_settled inner outer outside rest =
      let loose = remnant.loose ++ rest in
      let moved = loose_alike inner outer remnant (remnant.loose ++ record { part = part; terminal = terminal } ∷ rest) (record { part = part; terminal = terminal } ∷ loose)
      (λ removed between. first_spared removed remnant.loose rest (record { part = part; terminal = terminal })) in
      let settled = settled_alike remnant leaders part terminal loose inner outer outside in
      subst (λ (ms : List Mark). PartAlike inner outer (with_loose remnant (record { part = part; terminal = terminal } ∷ rest))
      (record { fixed = fixed; loose = loose; marks = ms; terminals = remnant.terminals })) (sym marks_are)
      (subst (λ (fs : List Fixed). PartAlike inner outer (with_loose remnant (record { part = part; terminal = terminal } ∷ rest))
      (record { fixed = fs; loose = loose; marks = remnant.marks ++ marks_of terminal (length remnant.fixed); terminals = remnant.terminals })) (sym fixed_are)
      (alike_then inner outer _ _ _ moved settled))

  pub leaders_settled : HasLeaders (record { fixed = fixed; loose = remnant.loose; marks = marks; terminals = remnant.terminals })
  leaders_settled =
      subst (λ (ms : List Mark). HasLeaders (record { fixed = fixed; loose = remnant.loose; marks = ms; terminals = remnant.terminals })) (sym marks_are)
      (subst (λ (fs : List Fixed). HasLeaders (record { fixed = fs; loose = remnant.loose; marks = remnant.marks ++ marks_of terminal (length remnant.fixed); terminals = remnant.terminals }))
      (sym fixed_are)
      (leaders_after remnant leaders part terminal remnant.loose))

-- leaders have nothing to do with loose boxes
pub leaders_with : (fixed : List Fixed) (marks : List Mark) (one other : List Loose) (terminals : List ℕ)
    → HasLeaders (record { fixed = fixed; loose = one; marks = marks; terminals = terminals }) → HasLeaders (record { fixed = fixed; loose = other; marks = marks; terminals = terminals })
leaders_with fixed marks one other terminals leaders = record {
  led = λ f h. let is = leaders.led f h in record { fixed = is.fixed; at = is.at; itself = is.itself };
  marked = λ m h. let is = leaders.marked m h in record { fixed = is.fixed; at = is.at; itself = is.itself };
}

-- ---- the parts of a box

-- the parts that a box has outside another one, by the rows below and above that, and by the columns beside it
pub record AreParts (part outer : HalfBox) (low high near far : Option HalfBox) : Type 0 where
  pub below : (h : Half) → HasHalfIn low h ↔ (HasHalf part h × (h.v <ℤ outer.rows.low))
  pub above : (h : Half) → HasHalfIn high h ↔ (HasHalf part h × (outer.rows.high ≤ℤ h.v))
  pub left : (h : Half) → HasHalfIn near h ↔ (HasHalf part h × IsIn outer.rows.low outer.rows.high h.v × (h.u <ℤ outer.columns.low))
  pub right : (h : Half) → HasHalfIn far h ↔ (HasHalf part h × IsIn outer.rows.low outer.rows.high h.v × (outer.columns.high ≤ℤ h.u))

-- what the part and `outer` have in common may stay loose
pub common_kept : (inner : Option HalfBox) (outer part common : HalfBox) → ((h : Half) → HasHalf common h ↔ (HasHalf part h × HasHalf outer h)) → IsKeptPart inner outer part (Some common)
common_kept inner outer part common is =
    record { of_part = λ h c. ((is h).0 c).0; in_outer = λ h c. ((is h).0 c).1; all = λ h p o. inl ((is h).1 (p, o)) }

-- or nothing of it, where all that they have in common is in `inner`
pub none_kept : (inner : Option HalfBox) (outer part : HalfBox) → ((h : Half) → HasHalf part h → HasHalf outer h → HasHalfIn inner h) → IsKeptPart inner outer part None
none_kept inner outer part all = record { of_part = λ h c. absurd c; in_outer = λ h c. absurd c; all = λ h p o. inr (all h p o) }

module _ (inner : Option HalfBox) (outer part : HalfBox) (below above left right kept : Option HalfBox) (parts : AreParts part outer below above left right)
    (keeps : IsKeptPart inner outer part kept) where
  -- a half square of the box lies in one of the parts, or in what may stay loose, or in `inner`
  abbrev InParts : Half → Type 0
  InParts h = HasHalfIn below h ⊎ (HasHalfIn above h ⊎ (HasHalfIn left h ⊎ (HasHalfIn right h ⊎ (HasHalfIn kept h ⊎ HasHalfIn inner h))))

  in_parts : (h : Half) → HasHalf part h → InParts h
  in_parts h has = by_lt_z h.v outer.rows.low (λ low. inl ((parts.below h).1 (has, low)))
      (λ from. by_lt_z h.v outer.rows.high
      (λ before.
      let up : IsIn outer.rows.low outer.rows.high h.v = record { from = from; before = before } in
      by_lt_z h.u outer.columns.low (λ low. inr (inr (inl ((parts.left h).1 (has, up, low)))))
      (λ from'. by_lt_z h.u outer.columns.high
      (λ before'. inr (inr (inr (inr (keeps.all h has (record { across = record { from = from'; before = before' }; up = up }))))))
      (λ past. inr (inr (inr (inl ((parts.right h).1 (has, up, past))))))))
      (λ past. inr (inl ((parts.above h).1 (has, past)))))

  pub below_outside : (h : Half) → HasHalfIn below h → HasHalf outer h → ⊥
  below_outside h b o = let low = ((parts.below h).0 b).1 in let from = o.up.from in absurd (omega (arith, ints))

  pub above_outside : (h : Half) → HasHalfIn above h → HasHalf outer h → ⊥
  above_outside h a o = let past = ((parts.above h).0 a).1 in let before = o.up.before in absurd (omega (arith, ints))

  pub left_outside : (h : Half) → HasHalfIn left h → HasHalf outer h → ⊥
  left_outside h l o = let low = ((parts.left h).0 l).2 in let from = o.across.from in absurd (omega (arith, ints))

  pub right_outside : (h : Half) → HasHalfIn right h → HasHalf outer h → ⊥
  right_outside h r o = let past = ((parts.right h).0 r).2 in let before = o.across.before in absurd (omega (arith, ints))

  module _ (terminal : Option ℕ) (rest : List Loose) where
    abbrev some_parts : List Loose
    some_parts = loose_of below terminal ++ (loose_of above terminal ++ (loose_of left terminal ++ (loose_of right terminal ++ (loose_of kept terminal ++ rest))))

    into_parts : (h : Half) → InParts h → (HasHalfIn inner h → ⊥) → HasLooseOf some_parts terminal h
    into_parts h (inl b) out = in_left (loose_of below terminal) _ (as_part below b)
    into_parts h (inr (inl a)) out = in_right (loose_of below terminal) _ (in_left (loose_of above terminal) _ (as_part above a))
    into_parts h (inr (inr (inl l))) out = in_right (loose_of below terminal) _ (in_right (loose_of above terminal) _ (in_left (loose_of left terminal) _ (as_part left l)))
    into_parts h (inr (inr (inr (inl r)))) out =
        in_right (loose_of below terminal) _ (in_right (loose_of above terminal) _ (in_right (loose_of left terminal) _ (in_left (loose_of right terminal) _ (as_part right r))))
    into_parts h (inr (inr (inr (inr (inl k))))) out =
        in_right (loose_of below terminal) _ (in_right (loose_of above terminal) _
        (in_right (loose_of left terminal) _ (in_right (loose_of right terminal) _ (in_left (loose_of kept terminal) _ (as_part kept k)))))
    into_parts h (inr (inr (inr (inr (inr i))))) out = absurd (out i)

    into_rest : (some : Option ℕ) (h : Half) → HasLooseOf rest some h → HasLooseOf some_parts some h
    into_rest some h l = in_right (loose_of below terminal) _
        (in_right (loose_of above terminal) _ (in_right (loose_of left terminal) _ (in_right (loose_of right terminal) _ (in_right (loose_of kept terminal) _ l))))

    -- a part of the box, as the box
    as_whole : (some : Option ℕ) (h : Half) → terminal ≡ some → HasHalf part h → HasLooseOf (record { part = part; terminal = terminal } ∷ rest) some h
    as_whole some h e has = record { one = record { part = part; terminal = terminal }; among = Contains-head _ rest; of_terminal = e; has = has }

    from_parts : (some : Option ℕ) (h : Half) → HasLooseOf some_parts some h → HasLooseOf (record { part = part; terminal = terminal } ∷ rest) some h
    from_parts some h l = elim (in_either (loose_of below terminal) _ l) [
      | inl b ↦ let x = of_part below terminal b in as_whole some h x.0 ((parts.below h).0 x.1).0
      | inr l1 ↦ elim (in_either (loose_of above terminal) _ l1) [
        | inl a ↦ let x = of_part above terminal a in as_whole some h x.0 ((parts.above h).0 x.1).0
        | inr l2 ↦ elim (in_either (loose_of left terminal) _ l2) [
          | inl c ↦ let x = of_part left terminal c in as_whole some h x.0 ((parts.left h).0 x.1).0
          | inr l3 ↦ elim (in_either (loose_of right terminal) _ l3) [
            | inl d ↦ let x = of_part right terminal d in as_whole some h x.0 ((parts.right h).0 x.1).0
            | inr l4 ↦ elim (in_either (loose_of kept terminal) _ l4) [
              | inl k ↦ let x = of_part kept terminal k in as_whole some h x.0 (keeps.of_part h x.1)
              | inr r ↦ in_right (record { part = part; terminal = terminal } ∷ []) rest r
            ]
          ]
        ]
      ]
    ]

    cut_spared : (removed : HalfBox) (front : List Loose) → IsBetween inner outer removed
        → HasSpared removed (front ++ record { part = part; terminal = terminal } ∷ rest) (front ++ some_parts) × HasSpared removed (front ++ some_parts)
        (front ++ record { part = part; terminal = terminal } ∷ rest)
    cut_spared removed front between = (
      λ some h out l. elim (in_either front _ l) [
        | inl f ↦ in_left front some_parts f
        | inr b ↦ elim (in_either (record { part = part; terminal = terminal } ∷ []) rest b) [
          | inl one ↦
              let x = of_part (Some part) terminal one in
              in_right front some_parts (subst (λ t. HasLooseOf some_parts t h) x.0 (into_parts h (in_parts h x.1) (λ i. out (between.has_inner h i))))
          | inr r ↦ in_right front some_parts (into_rest some h r)
        ]
      ],
      λ some h out l. elim (in_either front some_parts l) [
        | inl f ↦ in_left front _ f
        | inr b ↦ in_right front _ (from_parts some h b)
      ],
    )

  -- so the box is cut into what the steps make of it, one after the other
  pub cut_alike : (terminal : Option ℕ) (s0 s1 s2 s3 s4 : RemnantLists) → IsSettled below terminal s0 s1 → IsSettled above terminal s1 s2 → IsSettled left terminal s2 s3
      → IsSettled right terminal s3 s4
      → IsCutInto inner outer (record { part = part; terminal = terminal }) s0 (with_loose s4 (loose_of kept terminal))
  cut_alike terminal s0 s1 s2 s3 s4 first second third fourth rest =
      let parted = loose_alike inner outer s0 (s0.loose ++ record { part = part; terminal = terminal } ∷ rest) (s0.loose ++ some_parts terminal rest)
      (λ removed between. cut_spared terminal rest removed s0.loose between) in
      subst (λ (xs : List Loose). PartAlike inner outer (with_loose s0 (record { part = part; terminal = terminal } ∷ rest))
      (record { fixed = s4.fixed; loose = xs; marks = s4.marks; terminals = s4.terminals }))
      (sym (append_assoc s4.loose (loose_of kept terminal) rest))
      (alike_then inner outer _ _ _ parted (alike_then inner outer _ _ _ (first inner outer below_outside _) (alike_then inner outer _ _ _ (second inner outer above_outside _)
      (alike_then inner outer _ _ _ (third inner outer left_outside _) (fourth inner outer right_outside _)))))

  pub kept_within : (terminal : Option ℕ) (loose : List Loose) → All (λ (one : Loose). LiesWithin one.part outer) loose
      → All (λ (one : Loose). LiesWithin one.part outer) (loose ++ loose_of kept terminal)
  kept_within terminal loose all = All-append (λ (one : Loose). LiesWithin one.part outer) loose (loose_of kept terminal) all (kept_all kept keeps.in_outer) where
    kept_all : (some : Option HalfBox) → ((h : Half) → HasHalfIn some h → HasHalf outer h) → All (λ (one : Loose). LiesWithin one.part outer) (loose_of some terminal)
    kept_all None in_outer = All-nil (λ (one : Loose). LiesWithin one.part outer)
    kept_all (Some box) in_outer = All-cons (λ (one : Loose). LiesWithin one.part outer) (record { part = box; terminal = terminal }) [] in_outer
        (All-nil (λ (one : Loose). LiesWithin one.part outer))

-- ---- one loose box after the other

-- what is left is still to be cut
pub record IsCutTo (inner : Option HalfBox) (outer : HalfBox) (old : RemnantLists) (left : List Loose) (cut : RemnantLists) : Type 0 where
  pub same : PartAlike inner outer old (with_loose cut left)
  pub within : IsLooseWithin cut outer

pub none_cut : (inner : Option HalfBox) (outer : HalfBox) (old : RemnantLists)
    → IsCutTo inner outer old old.loose (record { fixed = old.fixed; loose = []; marks = old.marks; terminals = old.terminals })
none_cut inner outer old = record {
  same = λ removed between. (λ s. s, λ s. s);
  within = All-nil (λ (one : Loose). LiesWithin one.part outer);
}

pub cut_more : (inner : Option HalfBox) (outer : HalfBox) (old cut more : RemnantLists) (loose : Loose) (left rest : List Loose) → left ≡ loose ∷ rest → IsCutTo inner outer old left cut
    → IsCutInto inner outer loose cut more → (IsLooseWithin cut outer → IsLooseWithin more outer) → IsCutTo inner outer old rest more
cut_more inner outer old cut more loose left rest e so_far into stays = record {
  same = alike_then inner outer old (with_loose cut (loose ∷ rest)) (with_loose more rest) (subst (λ (xs : List Loose). PartAlike inner outer old (with_loose cut xs)) e so_far.same) (into rest);
  within = stays so_far.within;
}

pub all_cut : (inner : Option HalfBox) (outer : HalfBox) (old : RemnantLists) (left : List Loose) (cut : RemnantLists) → left ≡ [] → IsCutTo inner outer old left cut → PartAlike inner outer old cut
all_cut inner outer old left cut e so_far =
    subst (λ (xs : List Loose). PartAlike inner outer old (record { fixed = cut.fixed; loose = xs; marks = cut.marks; terminals = cut.terminals })) (append-nil cut.loose)
    (subst (λ (xs : List Loose). PartAlike inner outer old (with_loose cut xs)) e so_far.same)
