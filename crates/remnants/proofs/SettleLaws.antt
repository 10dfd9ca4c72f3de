-- loose boxes that are cut, dropped, or become fixed
use Rattle.std.proofs.Common.{ℕ, List, [], ◌∷◌, ◌++◌, ◌≡◌, ◌<◌, refl, subst, sym, inl, inr, ◌⊎◌, ap, ◌∙◌, Contains, Option, Some, None, length, slice_get, arith}
use Rattle.lists.proofs.Containing.{Contains-cons_cases, Contains-head, Contains-none, Contains-tail, Contains-one, slice_get-front, slice_get-back}
use Rattle.lists.proofs.Words.{Contains-append_left, Contains-append_right, Contains-append_cases, Contains-push, slice_get_within, add-zero}
use Rattle.paths.specs.Paths.{stay, step}
use Rattle.paths.proofs.PathLaws.{retold}
use Rattle.geo_core.specs.declared.plane.Half.{Half}
use Rattle.fault_model.proofs.LineLaws.{walk_in_box}
use Rattle.half_boxes.specs.HalfBoxes.{HasHalf}
use Rattle.half_boxes.specs.declared.boxes.HalfBox.{HalfBox}
use Rattle.remnants.specs.Remnants.{RemnantLists, HasFixed, HasLoose, Stays, IsStep, Way, IsMarkedAt, IsLooseOf, IsAt, HasLeaders, IsLeader}
use Rattle.remnants.specs.declared.parts.Fixed.{Fixed}
use Rattle.remnants.specs.declared.parts.Loose.{Loose}
use Rattle.remnants.specs.declared.parts.Mark.{Mark}
use Rattle.remnants.specs.inside.Parting.{IsBetween, PartAlike, HasLooseOf, marks_of}
use Rattle.remnants.proofs.FollowLaws.{Follows, alike, more_follows, at_stays}

-- ---- loose boxes with the same half squares

-- each half square of the one list that is not removed, the other has for the same terminal
abbrev pub HasSpared : HalfBox → List Loose → List Loose → Type 0
HasSpared removed one other = (terminal : Option ℕ) (h : Half) → (HasHalf removed h → ⊥) → HasLooseOf one terminal h → HasLooseOf other terminal h

abbrev pub with_other : RemnantLists → List Loose → RemnantLists
with_other remnant loose = record { fixed = remnant.fixed; loose = loose; marks = remnant.marks; terminals = remnant.terminals }

loose_follows : (removed : HalfBox) (remnant : RemnantLists) (one other : List Loose) → HasSpared removed one other → Follows removed (with_other remnant one) (with_other remnant other)
loose_follows removed remnant one other spared = more_follows removed (with_other remnant one) (with_other remnant other) (λ terminal h. h) (λ f h. h) (λ m h. h)
    (λ h l.
    let x = spared l.loose.terminal h l.spared (record { one = l.loose; among = l.among; of_terminal = refl; has = l.has }) in
    inr (record { loose = x.one; among = x.among; has = x.has; spared = l.spared }))
    (λ terminal listed h l.
    let x = spared (Some terminal) h l.spared (record { one = l.loose; among = l.among; of_terminal = l.of_terminal; has = l.has }) in
    inr (record { loose = x.one; among = x.among; of_terminal = x.of_terminal; has = x.has; spared = l.spared }))

pub loose_alike : (inner : Option HalfBox) (outer : HalfBox) (remnant : RemnantLists) (one other : List Loose)
    → ((removed : HalfBox) → IsBetween inner outer removed → HasSpared removed one other × HasSpared removed other one)
    → PartAlike inner outer (with_other remnant one) (with_other remnant other)
loose_alike inner outer remnant one other same = alike inner outer (with_other remnant one) (with_other remnant other)
    (λ removed between. loose_follows removed remnant one other (same removed between).0)
    (λ removed between. loose_follows removed remnant other one (same removed between).1)

-- ---- a loose box outside of what is removed becomes fixed

of_marks : (terminal : Option ℕ) (leader : ℕ) (m : Mark) → Contains (marks_of terminal leader) m → (terminal ≡ Some m.terminal) × (m.leader ≡ leader)
of_marks None leader m h = absurd (Contains-none h)
of_marks (Some terminal) leader m h =
    let same = Contains-one (record { terminal = terminal; leader = leader }) m h in
    (ap (λ (x : Mark). Some x.terminal) same, sym (ap (λ (x : Mark). x.leader) same))

module _ (remnant : RemnantLists) (leaders : HasLeaders remnant) (part : HalfBox) (terminal : Option ℕ) (rest : List Loose) where
  abbrev pub before : RemnantLists
  before = record { fixed = remnant.fixed; loose = record { part = part; terminal = terminal } ∷ rest; marks = remnant.marks; terminals = remnant.terminals }

  abbrev pub new_box : Fixed
  new_box = record { part = part; leader = length remnant.fixed }

  abbrev pub after : RemnantLists
  after = record {
    fixed = remnant.fixed ++ new_box ∷ [];
    loose = rest;
    marks = remnant.marks ++ marks_of terminal (length remnant.fixed);
    terminals = remnant.terminals;
  }

  -- a half square of a fixed box is one of an old box, with a lesser leader, or of the new one
  fixed_cases : (leader : ℕ) (h : Half) → HasFixed after leader h → ((leader < length remnant.fixed) × HasFixed before leader h) ⊎ ((leader ≡ length remnant.fixed) × HasHalf part h)
  fixed_cases leader h has = elim (Contains-append_cases remnant.fixed (new_box ∷ []) has.fixed has.among) [
    | inl old ↦
        let is = leaders.led has.fixed old in
        inl (subst (λ l. l < length remnant.fixed) has.led (slice_get_within remnant.fixed has.fixed.leader is.fixed is.at), record { fixed = has.fixed; among = old; led = has.led; has = has.has })
    | inr new ↦
        let same = Contains-one new_box has.fixed new in
        let leads : length remnant.fixed ≡ has.fixed.leader = ap (λ (f : Fixed). f.leader) same in
        inr (sym (leads ∙ has.led), subst (λ (f : Fixed). HasHalf f.part h) (sym same) has.has)
  ]

  -- so a half square of a box with a lesser leader is one of an old box, and with the new leader one of the new box
  of_old : (leader : ℕ) (h : Half) → leader < length remnant.fixed → HasFixed after leader h → HasFixed before leader h
  of_old leader h less has = elim (fixed_cases leader h has) [ inl old ↦ old.1 | inr new ↦ let same = new.0 in absurd (omega arith) ]

  of_new : (h : Half) → HasFixed after (length remnant.fixed) h → HasHalf part h
  of_new h has = elim (fixed_cases (length remnant.fixed) h has) [ inl old ↦ let less = old.0 in absurd (omega arith) | inr new ↦ new.1 ]

  new_among : Contains after.fixed new_box
  new_among = Contains-push remnant.fixed new_box

  new_has : (h : Half) → HasHalf part h → HasFixed after (length remnant.fixed) h
  new_has h has = record { fixed = new_box; among = new_among; led = refl; has = has }

  module _ (removed : HalfBox) (outside : (h : Half) → HasHalf part h → HasHalf removed h → ⊥) where
    loose_has : (h : Half) → HasHalf part h → HasLoose before removed h
    loose_has h has = record { loose = record { part = part; terminal = terminal }; among = Contains-head _ rest; has = has; spared = outside h has }

    -- what was loose and is left: of the part, or of the rest
    loose_after : (h : Half) → HasLoose before removed h → Stays after removed h
    loose_after h l = elim (Contains-cons_cases (record { part = part; terminal = terminal }) rest l.loose l.among) [
      | inl first ↦ inl (length remnant.fixed, new_has h (subst (λ (x : Loose). HasHalf x.part h) (sym first) l.has))
      | inr behind ↦ inr (record { loose = l.loose; among = behind; has = l.has; spared = l.spared })
    ]

    marked_new : (some : ℕ) (h : Half) → terminal ≡ Some some → HasHalf part h → IsMarkedAt after some h
    marked_new some h e has = record {
      mark = record { terminal = some; leader = length remnant.fixed };
      among = Contains-append_right remnant.marks (marks_of terminal (length remnant.fixed)) _
          (subst (λ t. Contains (marks_of t (length remnant.fixed)) (record { terminal = some; leader = length remnant.fixed })) (sym e) (Contains-head _ []));
      of_terminal = refl;
      has = new_has h has;
    }

    loose_at_after : (some : ℕ) (h : Half) → IsLooseOf before removed some h → IsAt after removed some h
    loose_at_after some h l = elim (Contains-cons_cases (record { part = part; terminal = terminal }) rest l.loose l.among) [
      | inl first ↦ inl (marked_new some h (ap (λ (x : Loose). x.terminal) first ∙ l.of_terminal) (subst (λ (x : Loose). HasHalf x.part h) (sym first) l.has))
      | inr behind ↦ inr (record { loose = l.loose; among = behind; of_terminal = l.of_terminal; has = l.has; spared = l.spared })
    ]

    there : Follows removed before after
    there = more_follows removed before after (λ t h. h) (λ f h. Contains-append_left remnant.fixed (new_box ∷ []) f h)
        (λ m h. Contains-append_left remnant.marks (marks_of terminal (length remnant.fixed)) m h) loose_after (λ some among h l. loose_at_after some h l)

    stays_before : (h : Half) → Stays after removed h → Stays before removed h
    stays_before h (inl (leader, has)) = elim (fixed_cases leader h has) [ inl old ↦ inl (leader, old.1) | inr new ↦ inr (loose_has h new.1) ]
    stays_before h (inr l) = inr (record { loose = l.loose; among = Contains-tail _ rest l.loose l.among; has = l.has; spared = l.spared })

    -- a walk within the part
    walk_in_part : (p q : Half) → HasHalf part p → HasHalf part q → Way before removed p q
    walk_in_part p q a b = retold (λ x y s t n. inr (inl n)) (walk_in_box {S = Stays before removed} part.columns.low part.columns.high part.rows.low part.rows.high
        (λ h across up. inr (loose_has h (record { across = across; up = up }))) p q a.across a.up b.across b.up)

    jump_before : (leader : ℕ) (p q : Half) → HasFixed after leader p → HasFixed after leader q → Way before removed p q
    jump_before leader p q a b = elim (fixed_cases leader p a) [
      | inl old ↦ let b' = of_old leader q old.0 b in step (inl (leader, old.1)) (inr (leader, old.1, b')) (stay (inl (leader, b')))
      | inr new ↦ walk_in_part p q new.1 (of_new q (subst (λ l. HasFixed after l q) new.0 b))
    ]

    steps_before : (p q : Half) → Stays after removed p → Stays after removed q → IsStep after p q → Way before removed p q
    steps_before p q a b (inl n) = step (stays_before p a) (inl n) (stay (stays_before q b))
    steps_before p q a b (inr (leader, from, to)) = jump_before leader p q from to

    marked_before : (some : ℕ) (h : Half) → IsMarkedAt after some h → IsAt before removed some h
    marked_before some h m = elim (Contains-append_cases remnant.marks (marks_of terminal (length remnant.fixed)) m.mark m.among) [
      | inl old ↦
          let is = leaders.marked m.mark old in
          inl (record { mark = m.mark; among = old; of_terminal = m.of_terminal; has = of_old m.mark.leader h (slice_get_within remnant.fixed m.mark.leader is.fixed is.at) m.has })
      | inr new ↦
          let is = of_marks terminal (length remnant.fixed) m.mark new in
          inr (record {
            loose = record { part = part; terminal = terminal };
            among = Contains-head _ rest;
            of_terminal = is.0 ∙ ap Some m.of_terminal;
            has = of_new h (subst (λ l. HasFixed after l h) is.1 m.has);
            spared = outside h (of_new h (subst (λ l. HasFixed after l h) is.1 m.has));
          })
    ]

    at_before : (some : ℕ) (h : Half) → IsAt after removed some h → IsAt before removed some h
    at_before some h (inl m) = marked_before some h m
    at_before some h (inr l) = inr (record { loose = l.loose; among = Contains-tail _ rest l.loose l.among; of_terminal = l.of_terminal; has = l.has; spared = l.spared })

    back : Follows removed after before
    back = record {
      listed = λ t h. h;
      stays = stays_before;
      steps = steps_before;
      at = λ some among h is. let is' = at_before some h is in (h, is', stay (at_stays before removed some h is'));
    }

  -- whichever box is removed that has no half square of the part, the same terminals are parted
  pub settled_alike : (inner : Option HalfBox) (outer : HalfBox) → ((h : Half) → HasHalf part h → HasHalf outer h → ⊥) → PartAlike inner outer before after
  settled_alike inner outer outside = alike inner outer before after (λ removed between. there removed (λ h a b. outside h a (between.within h b)))
      (λ removed between. back removed (λ h a b. outside h a (between.within h b)))

  -- each leader still leads itself
  leads_after : (leader : ℕ) → IsLeader remnant leader → IsLeader after leader
  leads_after leader is = record { fixed = is.fixed; at = slice_get-front remnant.fixed (new_box ∷ []) leader is.fixed is.at; itself = is.itself }

  new_leads : IsLeader after (length remnant.fixed)
  new_leads = record { fixed = new_box; at = subst (λ k. slice_get after.fixed k ≡ Some new_box) (add-zero (length remnant.fixed)) (slice_get-back remnant.fixed (new_box ∷ []) 0); itself = refl }

  pub leaders_after : HasLeaders after
  leaders_after = record {
    led = λ f h. elim (Contains-append_cases remnant.fixed (new_box ∷ []) f h) [
      | inl old ↦ leads_after f.leader (leaders.led f old)
      | inr new ↦ subst (λ (x : Fixed). IsLeader after x.leader) (Contains-one new_box f new) new_leads
    ];
    marked = λ m h. elim (Contains-append_cases remnant.marks (marks_of terminal (length remnant.fixed)) m h) [
      | inl old ↦ leads_after m.leader (leaders.marked m old)
      | inr new ↦ subst (IsLeader after) (sym (of_marks terminal (length remnant.fixed) m new).1) new_leads
    ];
  }
