-- which terminals are parted where all that is loose is removed
use Rattle.std.proofs.Common.{ℕ, ◌≡◌, refl, subst, sym, inl, inr, ◌⊎◌, ◌↔◌, ◌∙◌, Contains}
use Rattle.lists.proofs.Words.{All-contains}
use Rattle.lists.proofs.Containing.{Contains-slice_get}
use Rattle.paths.specs.Paths.{stay, step}
use Rattle.paths.proofs.PathLaws.{first}
use Rattle.geo_core.specs.declared.plane.Half.{Half}
use Rattle.fault_model.specs.FaultNames.{Neighbours}
use Rattle.half_boxes.specs.HalfBoxes.{HasHalf, LiesWithin}
use Rattle.half_boxes.specs.declared.boxes.HalfBox.{HalfBox}
use Rattle.remnants.specs.Remnants.{RemnantLists, HasFixed, Stays, IsStep, Way, IsAt, IsSplit, IsJoined, IsLooseWithin}
use Rattle.remnants.specs.declared.parts.Loose.{Loose}
use Rattle.remnants.specs.inside.Marking.{IsMarked, AreUnmarked}
use Rattle.remnants.proofs.JoinLaws.{some_half_of}

module _ (remnant : RemnantLists) (joined : IsJoined remnant) where
  -- boxes with one half square in common, or neighbours, have one leader
  pub one_leader : (l m : ℕ) (p q : Half) → HasFixed remnant l p → HasFixed remnant m q → (p ≡ q) ⊎ Neighbours p q → l ≡ m
  one_leader l m p q a b near = sym a.led ∙ joined.touching a.fixed b.fixed a.among b.among (p, q, a.has, b.has, near) ∙ b.led

  module _ (removed : HalfBox) (within : IsLooseWithin remnant removed) where
    -- nothing loose is left
    not_loose : (one : Loose) (h : Half) → Contains remnant.loose one → HasHalf one.part h → (HasHalf removed h → ⊥) → ⊥
    not_loose one h among has spared = spared (All-contains (λ (x : Loose). LiesWithin x.part removed) remnant.loose one within among h has)

    fixed_there : (h : Half) → Stays remnant removed h → (leader : ℕ) × HasFixed remnant leader h
    fixed_there h (inl has) = has
    fixed_there h (inr l) = absurd (not_loose l.loose h l.among l.has l.spared)

    -- so a way keeps the leader
    step_keeps : (l : ℕ) (p q : Half) → HasFixed remnant l p → Stays remnant removed q → IsStep remnant p q → HasFixed remnant l q
    step_keeps l p q here s (inl next) =
        let there = fixed_there q s in
        subst (λ m. HasFixed remnant m q) (sym (one_leader l there.0 p q here there.1 (inr next))) there.1
    step_keeps l p q here s (inr (m, from, to)) = subst (λ k. HasFixed remnant k q) (sym (one_leader l m p p here from (inl refl))) to

    way_keeps : (l : ℕ) {p q : Half} → HasFixed remnant l p → Way remnant removed p q → HasFixed remnant l q
    way_keeps l here (stay h) = here
    way_keeps l here (step {a = a} {b = b} h e way) = way_keeps l (step_keeps l a b here (first way) e) way

    -- a terminal with a half square that is left has a mark
    mark_there : (terminal : ℕ) (h : Half) → IsAt remnant removed terminal h → (leader : ℕ) × IsMarked remnant.marks terminal leader × HasFixed remnant leader h
    mark_there terminal h (inl m) = (m.mark.leader, record { mark = m.mark; among = m.among; of_terminal = m.of_terminal; at_leader = refl }, m.has)
    mark_there terminal h (inr l) = absurd (not_loose l.loose h l.among l.has l.spared)

    apart : (one other : ℕ) → ((leader : ℕ) → IsMarked remnant.marks one leader → IsMarked remnant.marks other leader → ⊥)
        → (p q : Half) → IsAt remnant removed one p → IsAt remnant removed other q → Way remnant removed p q → ⊥
    apart one other none p q a b way =
        let x = mark_there one p a in
        let y = mark_there other q b in
        let same : x.0 ≡ y.0 = one_leader x.0 y.0 q q (way_keeps x.0 x.2 way) y.2 (inl refl) in
        none y.0 (subst (IsMarked remnant.marks one) same x.1) y.1

    -- a leader with a mark of the terminal has a half square of it
    marked_at : (terminal leader : ℕ) (h : Half) → IsMarked remnant.marks terminal leader → HasFixed remnant leader h → IsAt remnant removed terminal h
    marked_at terminal leader h m has = inl (record { mark = m.mark; among = m.among; of_terminal = m.of_terminal; has = subst (λ l. HasFixed remnant l h) (sym m.at_leader) has })

    no_common : (one other : ℕ) → ((p q : Half) → IsAt remnant removed one p → IsAt remnant removed other q → Way remnant removed p q → ⊥)
        → (leader : ℕ) → IsMarked remnant.marks one leader → IsMarked remnant.marks other leader → ⊥
    no_common one other parted leader m n =
        let is = joined.leaders.marked m.mark m.among in
        let h = some_half_of is.fixed.part in
        let has : HasFixed remnant leader h.0 = record { fixed = is.fixed; among = Contains-slice_get remnant.fixed m.mark.leader is.fixed is.at; led = is.itself ∙ m.at_leader; has = h.1 } in
        parted h.0 h.0 (marked_at one leader h.0 m has) (marked_at other leader h.0 n has) (stay (inl (leader, has)))

    pub unmarked_split : AreUnmarked remnant.terminals remnant.marks ↔ IsSplit remnant removed
    unmarked_split = (
      λ u. record { one = u.one; other = u.other; one_is = u.one_is; other_is = u.other_is; different = u.different; apart = apart u.one u.other u.none },
      λ s. record { one = s.one; other = s.other; one_is = s.one_is; other_is = s.other_is; different = s.different; none = no_common s.one s.other s.apart },
    )
