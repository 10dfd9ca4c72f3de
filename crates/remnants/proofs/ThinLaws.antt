-- without terminals that others stand for, the same is parted
use Rattle.std.proofs.Common.{ℕ, List, [], ◌∷◌, ◌≡◌, ◌≢◌, refl, subst, sym, ◌∙◌, inl, inr, ◌⊎◌, ◌↔◌, Contains}
use Rattle.lists.proofs.Comparing.{equal_or_not}
use Rattle.lists.proofs.Containing.{Contains-cons_cases, Contains-head, Contains-none, Contains-slice_get, Contains-tail}
use Rattle.paths.specs.Paths.{stay, step}
use Rattle.geo_core.specs.declared.plane.Half.{Half}
use Rattle.half_boxes.specs.declared.boxes.HalfBox.{HalfBox}
use Rattle.remnants.specs.Remnants.{RemnantLists, HasFixed, Stays, IsStep, Way, IsAt, IsSplit, IsLeader, IsJoined}
use Rattle.remnants.specs.declared.parts.Mark.{Mark}
use Rattle.remnants.specs.inside.Marking.{IsMarked}
use Rattle.remnants.specs.inside.Thinning.{HasLooseBox, IsStoodFor}
use Rattle.remnants.proofs.FollowLaws.{at_stays}
use Rattle.remnants.proofs.JoinLaws.{some_half_of}

-- a number is in a list, or it is not
listed_or_not : (xs : List ℕ) (x : ℕ) → Contains xs x ⊎ (Contains xs x → ⊥)
listed_or_not [] x = inr (λ h. absurd (Contains-none h))
listed_or_not (y ∷ ys) x = elim (equal_or_not y x) [
  | inl e ↦ inl (subst (Contains (y ∷ ys)) e (Contains-head y ys))
  | inr other ↦ elim (listed_or_not ys x) [
    | inl h ↦ inl (Contains-tail y ys x h)
    | inr not ↦ inr (λ h. elim (Contains-cons_cases y ys x h) [ inl e ↦ other e | inr g ↦ not g ])
  ]
]

-- ---- a remnant with fewer marks and terminals

module _ (old : RemnantLists) (gone : List ℕ) (marks : List Mark) (terminals : List ℕ)
    (marks_are : (mark : Mark) → Contains marks mark ↔ (Contains old.marks mark × (Contains gone mark.terminal → ⊥)))
    (terminals_are : (terminal : ℕ) → Contains terminals terminal ↔ (Contains old.terminals terminal × (Contains gone terminal → ⊥))) where
  abbrev new : RemnantLists
  new = record { fixed = old.fixed; loose = old.loose; marks = marks; terminals = terminals }

  pub still_joined : IsJoined old → IsJoined new
  still_joined joined = record {
    leaders = record {
      led = λ one among. leads one.leader (joined.leaders.led one among);
      marked = λ mark among. leads mark.leader (joined.leaders.marked mark ((marks_are mark).0 among).0);
    };
    touching = joined.touching;
  } where
    leads : (leader : ℕ) → IsLeader old leader → IsLeader new leader
    leads leader is = record { fixed = is.fixed; at = is.at; itself = is.itself }

  -- boxes are the same, and so are ways
  fixed_new : (leader : ℕ) (h : Half) → HasFixed old leader h → HasFixed new leader h
  fixed_new leader h has = record { fixed = has.fixed; among = has.among; led = has.led; has = has.has }

  fixed_old : (leader : ℕ) (h : Half) → HasFixed new leader h → HasFixed old leader h
  fixed_old leader h has = record { fixed = has.fixed; among = has.among; led = has.led; has = has.has }

  module _ (removed : HalfBox) where
    stays_new : (h : Half) → Stays old removed h → Stays new removed h
    stays_new h (inl (leader, has)) = inl (leader, fixed_new leader h has)
    stays_new h (inr l) = inr (record { loose = l.loose; among = l.among; has = l.has; spared = l.spared })

    stays_old : (h : Half) → Stays new removed h → Stays old removed h
    stays_old h (inl (leader, has)) = inl (leader, fixed_old leader h has)
    stays_old h (inr l) = inr (record { loose = l.loose; among = l.among; has = l.has; spared = l.spared })

    step_new : (p q : Half) → IsStep old p q → IsStep new p q
    step_new p q (inl next) = inl next
    step_new p q (inr (leader, a, b)) = inr (leader, fixed_new leader p a, fixed_new leader q b)

    step_old : (p q : Half) → IsStep new p q → IsStep old p q
    step_old p q (inl next) = inl next
    step_old p q (inr (leader, a, b)) = inr (leader, fixed_old leader p a, fixed_old leader q b)

    way_new : {p q : Half} → Way old removed p q → Way new removed p q
    way_new (stay {a = a} h) = stay (stays_new a h)
    way_new (step {a = a} {b = b} h e way) = step (stays_new a h) (step_new a b e) (way_new way)

    way_old : {p q : Half} → Way new removed p q → Way old removed p q
    way_old (stay {a = a} h) = stay (stays_old a h)
    way_old (step {a = a} {b = b} h e way) = step (stays_old a h) (step_old a b e) (way_old way)

    -- a terminal that stays is where it was
    at_old : (terminal : ℕ) (h : Half) → IsAt new removed terminal h → IsAt old removed terminal h
    at_old terminal h (inl m) = inl (record { mark = m.mark; among = ((marks_are m.mark).0 m.among).0; of_terminal = m.of_terminal; has = fixed_old m.mark.leader h m.has })
    at_old terminal h (inr l) = inr (record { loose = l.loose; among = l.among; of_terminal = l.of_terminal; has = l.has; spared = l.spared })

    at_new : (terminal : ℕ) (h : Half) → (Contains gone terminal → ⊥) → IsAt old removed terminal h → IsAt new removed terminal h
    at_new terminal h here (inl m) = inl (record {
      mark = m.mark;
      among = (marks_are m.mark).1 (m.among, λ g. here (subst (Contains gone) m.of_terminal g));
      of_terminal = m.of_terminal;
      has = fixed_new m.mark.leader h m.has;
    })
    at_new terminal h here (inr l) = inr (record { loose = l.loose; among = l.among; of_terminal = l.of_terminal; has = l.has; spared = l.spared })

    -- ---- one for each that went

    -- a half square at which the terminal is
    abbrev Place : ℕ → Type 0
    Place terminal = (h : Half) × IsAt old removed terminal h

    -- a terminal of the new remnant that is at no half square but those of this one, and at one, where it is another one
    record IsFor (terminal : ℕ) : Type 0 where
      pub other : ℕ
      pub listed : Contains terminals other
      pub at : (h : Half) → IsAt old removed other h → IsAt old removed terminal h
      pub same : (other ≡ terminal) ⊎ Place other

    marked_at : (terminal : ℕ) (mark : Mark) (h : Half) → IsMarked old.marks terminal mark.leader → HasFixed old mark.leader h → IsAt old removed terminal h
    marked_at terminal mark h m has =
        inl (record { mark = m.mark; among = m.among; of_terminal = m.of_terminal; has = subst (λ l. HasFixed old l h) (sym m.at_leader) has })

    module _ (joined : IsJoined old) (stood : (terminal : ℕ) → Contains gone terminal → IsStoodFor old.terminals (HasLooseBox old.loose) old.marks gone terminal) where
      -- a leader has a half square
      somewhere : (terminal leader : ℕ) → IsMarked old.marks terminal leader → Place terminal
      somewhere terminal leader m =
          let is = joined.leaders.marked m.mark m.among in
          let h = some_half_of is.fixed.part in (
            h.0,
            inl (record {
              mark = m.mark;
              among = m.among;
              of_terminal = m.of_terminal;
              has = record { fixed = is.fixed; among = Contains-slice_get old.fixed m.mark.leader is.fixed is.at; led = is.itself; has = h.1 };
            }),
          )

      stands : (terminal : ℕ) → IsStoodFor old.terminals (HasLooseBox old.loose) old.marks gone terminal → IsFor terminal
      stands terminal (other, s) = record {
        other = other;
        listed = (terminals_are other).1 (s.listed, s.stays);
        at = λ h is. elim is [
          | inl m ↦ marked_at terminal m.mark h (s.covered m.mark.leader (record { mark = m.mark; among = m.among; of_terminal = m.of_terminal; at_leader = refl })) m.has
          | inr l ↦ absurd (s.settled (record { one = l.loose; among = l.among; of_terminal = l.of_terminal }))
        ];
        same = inr (somewhere other s.somewhere.0 s.somewhere.1);
      }

      for_one : (terminal : ℕ) → Contains old.terminals terminal → IsFor terminal
      for_one terminal listed = elim (listed_or_not gone terminal) [
        | inr here ↦ record { other = terminal; listed = (terminals_are terminal).1 (listed, here); at = λ h is. is; same = inl refl }
        | inl went ↦ stands terminal (stood terminal went)
      ]

      -- terminals for which the same one stays are not parted
      meet : (one other : ℕ) → one ≢ other → (x : IsFor one) (y : IsFor other) → x.other ≡ y.other → (h : Half) × IsAt old removed one h × IsAt old removed other h
      meet one other different x y same =
          let at_both : Place x.other → (h : Half) × IsAt old removed one h × IsAt old removed other h =
          λ p. (p.0, x.at p.0 p.1, y.at p.0 (subst (λ t. IsAt old removed t p.0) same p.1)) in
          elim x.same [
            | inr place ↦ at_both place
            | inl e ↦ elim y.same [
              | inr place ↦ at_both (subst Place (sym same) place)
              | inl f ↦ absurd (different (sym e ∙ same ∙ f))
            ]
          ]

      there : IsSplit old removed → IsSplit new removed
      there s =
          let x = for_one s.one s.one_is in
          let y = for_one s.other s.other_is in
          record {
            one = x.other;
            other = y.other;
            one_is = x.listed;
            other_is = y.listed;
            different = λ e.
                let m = meet s.one s.other s.different x y e in
                s.apart m.0 m.0 m.1 m.2 (stay (at_stays old removed s.one m.0 m.1));
            apart = λ p q a b way. s.apart p q (x.at p (at_old x.other p a)) (y.at q (at_old y.other q b)) (way_old way);
          }

      back : IsSplit new removed → IsSplit old removed
      back s =
          let x = (terminals_are s.one).0 s.one_is in
          let y = (terminals_are s.other).0 s.other_is in
          record {
            one = s.one;
            other = s.other;
            one_is = x.0;
            other_is = y.0;
            different = s.different;
            apart = λ p q a b way. s.apart p q (at_new s.one p x.1 a) (at_new s.other q y.1 b) (way_new way);
          }

      pub thinned_alike : IsSplit new removed ↔ IsSplit old removed
      thinned_alike = (back, there)
