-- one leader for fixed boxes that touch
use Rattle.std.proofs.Common.{ℕ, List, ◌≡◌, ◌<◌, length, refl, subst, sym, inl, inr, ◌⊎◌, ◌↔◌, ap, ◌∙◌, arith, All, Contains, Some, slice_get}
use Rattle.lists.proofs.Containing.{number_of, Contains-slice_get, all_of_each, some_item}
use Rattle.lists.proofs.Words.{slice_get_within, same_Some, ints}
use Rattle.paths.specs.Paths.{stay, step}
use Rattle.paths.proofs.PathLaws.{first, append}
use Rattle.geo_core.specs.declared.plane.Half.{Half}
use Rattle.half_boxes.specs.HalfBoxes.{HasHalf, TouchHalves}
use Rattle.half_boxes.specs.declared.boxes.HalfBox.{HalfBox}
use Rattle.remnants.specs.Remnants.{RemnantLists, HasFixed, HasLoose, Stays, IsStep, Way, IsAt, IsSplit, HasLeaders, IsLeader, IsJoined}
use Rattle.remnants.specs.declared.parts.Fixed.{Fixed}
use Rattle.remnants.specs.declared.parts.Mark.{Mark}
use Rattle.remnants.specs.inside.Joining.{AreTied, touch, lead, AreChained, AreLeaders, AreLedBy, AreMovedTo}
use Rattle.remnants.proofs.FollowLaws.{Follows, split_follows, Way-reverse, at_stays}

-- a box has a half square
pub some_half_of : (box : HalfBox) → (h : Half) × HasHalf box h
some_half_of box =
    let wide = box.columns.within.some in
    let tall = box.rows.within.some in (
      record { u = box.columns.low; v = box.rows.low },
      record { across = record { from = omega (arith, ints); before = wide }; up = record { from = omega (arith, ints); before = tall } },
    )

module _ (remnant : RemnantLists) (removed : HalfBox) where
  -- half squares of one box are joined, and so are those of two with one leader
  pub has_fixed : (k : ℕ) (one : Fixed) (h : Half) → slice_get remnant.fixed k ≡ Some one → HasHalf one.part h → HasFixed remnant one.leader h
  has_fixed k one h at has = record { fixed = one; among = Contains-slice_get remnant.fixed k one at; led = refl; has = has }

  jump : (leader : ℕ) (p q : Half) → HasFixed remnant leader p → HasFixed remnant leader q → Way remnant removed p q
  jump leader p q a b = step (inl (leader, a)) (inr (leader, a, b)) (stay (inl (leader, b)))

  in_box : (k : ℕ) (one : Fixed) (p q : Half) → slice_get remnant.fixed k ≡ Some one → HasHalf one.part p → HasHalf one.part q → Way remnant removed p q
  in_box k one p q at a b = jump one.leader p q (has_fixed k one p at a) (has_fixed k one q at b)

  -- half squares of boxes that touch are joined
  across : (a b : ℕ) (one other : Fixed) (p q : Half) → slice_get remnant.fixed a ≡ Some one → slice_get remnant.fixed b ≡ Some other → HasHalf one.part p → HasHalf other.part q
      → TouchHalves one.part other.part
      → Way remnant removed p q
  across a b one other p q at at' hp hq (x, y, hx, hy, inl same) = append (in_box a one p x at hp hx) (in_box b other x q at' (subst (HasHalf other.part) (sym same) hy) hq)
  across a b one other p q at at' hp hq (x, y, hx, hy, inr next) =
      append (in_box a one p x at hp hx) (step (inl (one.leader, has_fixed a one x at hx)) (inl next) (in_box b other y q at' hy hq))

  module _ (leaders : HasLeaders remnant) where
    tie_way : (a b : ℕ) (one other : Fixed) (p q : Half) → AreTied remnant.fixed a b → slice_get remnant.fixed a ≡ Some one → slice_get remnant.fixed b ≡ Some other → HasHalf one.part p
        → HasHalf other.part q
        → Way remnant removed p q
    tie_way a b one other p q (touch one' other' at at' t) e f hp hq =
        let same : one' ≡ one = same_Some one' one (sym at ∙ e) in
        let same' : other' ≡ other = same_Some other' other (sym at' ∙ f) in
        across a b one' other' p q at at' (subst (λ (x : Fixed). HasHalf x.part p) (sym same) hp) (subst (λ (x : Fixed). HasHalf x.part q) (sym same') hq) t
    tie_way a b one other p q (lead one' at leads) e f hp hq =
        let same : one' ≡ one = same_Some one' one (sym at ∙ e) in
        let leads' : one.leader ≡ b = ap (λ (x : Fixed). x.leader) (sym same) ∙ leads in
        let is = leaders.led one (Contains-slice_get remnant.fixed a one e) in
        let leader : is.fixed ≡ other = same_Some is.fixed other (sym is.at ∙ ap (slice_get remnant.fixed) leads' ∙ f) in
        let itself : other.leader ≡ one.leader = ap (λ (x : Fixed). x.leader) (sym leader) ∙ is.itself in
        jump one.leader p q (has_fixed a one p e hp) (subst (λ l. HasFixed remnant l q) itself (has_fixed b other q f hq))

    tied_way : (a b : ℕ) (one other : Fixed) (p q : Half) → AreTied remnant.fixed a b ⊎ AreTied remnant.fixed b a → slice_get remnant.fixed a ≡ Some one → slice_get remnant.fixed b ≡ Some other
        → HasHalf one.part p
        → HasHalf other.part q → Way remnant removed p q
    tied_way a b one other p q (inl t) e f hp hq = tie_way a b one other p q t e f hp hq
    tied_way a b one other p q (inr t) e f hp hq = Way-reverse (tie_way b a other one q p t f e hq hp)

    -- so are those of chained boxes
    pub chain_way : {a b : ℕ} (one other : Fixed) (p q : Half) → AreChained remnant.fixed a b → slice_get remnant.fixed a ≡ Some one → slice_get remnant.fixed b ≡ Some other → HasHalf one.part p
        → HasHalf other.part q
        → Way remnant removed p q
    chain_way {a} one other p q (stay h) e f hp hq =
        let same : other ≡ one = same_Some other one (sym f ∙ e) in
        in_box a one p q e hp (subst (λ (x : Fixed). HasHalf x.part q) same hq)
    chain_way one other p q (step {a = a} {b = b} h e rest) at at' hp hq =
        let mid = some_item remnant.fixed b (first rest) in
        let g = some_half_of mid.0.part in
        append (tied_way a b one mid.0 p g.0 e at mid.1 hp g.1) (chain_way mid.0 other g.0 q rest mid.1 at' g.1 hq)

module _ (remnant : RemnantLists) (leads : HasLeaders remnant) (leaders : List ℕ) (new : AreLeaders remnant.fixed leaders) (led : List Fixed) (by : AreLedBy remnant.fixed leaders led)
    (moved : List Mark)
    (at : AreMovedTo leaders remnant.marks moved) where
  abbrev joined : RemnantLists
  joined = record { fixed = led; loose = remnant.loose; marks = moved; terminals = remnant.terminals }

  -- a new box is an old one with its new leader
  record IsOld (k : ℕ) (f : Fixed) : Type 0 where
    pub one : Fixed
    pub old_at : slice_get remnant.fixed k ≡ Some one
    pub leads_at : slice_get leaders k ≡ Some f.leader
    pub same : f.part ≡ one.part

  old_of : (k : ℕ) (f : Fixed) → slice_get led k ≡ Some f → IsOld k f
  old_of k f e =
      let small : k < length led = slice_get_within led k f e in
      let many = by.as_many in
      let each = new.one_each in
      let one = some_item remnant.fixed k (omega arith) in
      let m = some_item leaders k (omega arith) in
      let is : record { part = one.0.part; leader = m.0 } ≡ f = same_Some _ f (sym (by.each k m.0 one.0 one.1 m.1) ∙ e) in
      record {
        one = one.0;
        old_at = one.1;
        leads_at = m.1 ∙ ap (λ (x : Fixed). Some x.leader) is;
        same = sym (ap (λ (x : Fixed). x.part) is);
      }

  -- the new leader of an old one
  new_fixed : (leader : ℕ) (h : Half) → HasFixed remnant leader h → (m : ℕ) × (slice_get leaders leader ≡ Some m) × HasFixed joined m h
  new_fixed leader h has =
      let k = number_of remnant.fixed has.fixed has.among in
      let small : k.0 < length remnant.fixed = slice_get_within remnant.fixed k.0 has.fixed k.1 in
      let each = new.one_each in
      let m = some_item leaders k.0 (omega arith) in (
        m.0,
        new.tied k.0 leader m.0 (lead has.fixed k.1 has.led) m.1,
        record { fixed = record { part = has.fixed.part; leader = m.0 }; among = Contains-slice_get led k.0 _ (by.each k.0 m.0 has.fixed k.1 m.1); led = refl; has = has.has },
      )

  module _ (removed : HalfBox) where
    old_loose : (h : Half) → HasLoose remnant removed h → HasLoose joined removed h
    old_loose h l = record { loose = l.loose; among = l.among; has = l.has; spared = l.spared }

    new_loose : (h : Half) → HasLoose joined removed h → HasLoose remnant removed h
    new_loose h l = record { loose = l.loose; among = l.among; has = l.has; spared = l.spared }

    there_stays : (h : Half) → Stays remnant removed h → Stays joined removed h
    there_stays h (inl (leader, has)) = let n = new_fixed leader h has in inl (n.0, n.2)
    there_stays h (inr l) = inr (old_loose h l)

    there_steps : (p q : Half) → Stays remnant removed p → Stays remnant removed q → IsStep remnant p q → Way joined removed p q
    there_steps p q a b (inl n) = step (there_stays p a) (inl n) (stay (there_stays q b))
    there_steps p q a b (inr (leader, from, to)) =
        let x = new_fixed leader p from in
        let y = new_fixed leader q to in
        let same : y.0 ≡ x.0 = same_Some y.0 x.0 (sym y.1 ∙ x.1) in
        let to' = subst (λ m. HasFixed joined m q) same y.2 in
        step (inl (x.0, x.2)) (inr (x.0, x.2, to')) (stay (inl (x.0, to')))

    there_at : (terminal : ℕ) (h : Half) → IsAt remnant removed terminal h → IsAt joined removed terminal h
    there_at terminal h (inl m) =
        let x = new_fixed m.mark.leader h m.has in
        let y = at.each m.mark m.among in
        let same : x.0 ≡ y.0.leader = same_Some x.0 y.0.leader (sym x.1 ∙ y.2.moved) in
        inl (record { mark = y.0; among = y.1; of_terminal = y.2.same_terminal ∙ m.of_terminal; has = subst (λ l. HasFixed joined l h) same x.2 })
    there_at terminal h (inr l) = inr (record { loose = l.loose; among = l.among; of_terminal = l.of_terminal; has = l.has; spared = l.spared })

    there : Follows removed remnant joined
    there = record {
      listed = λ t h. h;
      stays = there_stays;
      steps = there_steps;
      at = λ t among h is. let is' = there_at t h is in (h, is', stay (at_stays joined removed t h is'));
    }

    -- an old box with the half square, at a number that has the new leader
    record IsFrom (m : ℕ) (h : Half) : Type 0 where
      pub number : ℕ
      pub one : Fixed
      pub old_at : slice_get remnant.fixed number ≡ Some one
      pub leads_at : slice_get leaders number ≡ Some m
      pub has : HasHalf one.part h

    from : (m : ℕ) (h : Half) → HasFixed joined m h → IsFrom m h
    from m h has =
        let k = number_of led has.fixed has.among in
        let old = old_of k.0 has.fixed k.1 in
        record { number = k.0; one = old.one; old_at = old.old_at; leads_at = old.leads_at ∙ ap Some has.led; has = subst (λ b. HasHalf b h) old.same has.has }

    back_stays : (h : Half) → Stays joined removed h → Stays remnant removed h
    back_stays h (inl (m, has)) = let f = from m h has in inl (f.one.leader, has_fixed remnant removed f.number f.one h f.old_at f.has)
    back_stays h (inr l) = inr (new_loose h l)

    back_steps : (p q : Half) → Stays joined removed p → Stays joined removed q → IsStep joined p q → Way remnant removed p q
    back_steps p q a b (inl n) = step (back_stays p a) (inl n) (stay (back_stays q b))
    back_steps p q a b (inr (m, here, there)) =
        let f = from m p here in
        let g = from m q there in
        chain_way remnant removed leads f.one g.one p q (new.chained f.number g.number m f.leads_at g.leads_at) f.old_at g.old_at f.has g.has

    back_at : (terminal : ℕ) (h : Half) → IsAt joined removed terminal h → (g : Half) × IsAt remnant removed terminal g × Way remnant removed g h
    back_at terminal h (inl m) =
        let old = at.only m.mark m.among in
        let is = leads.marked old.0 old.1 in
        let g = some_half_of is.fixed.part in
        let f = from m.mark.leader h m.has in
        let has : HasFixed remnant old.0.leader g.0 = subst (λ l. HasFixed remnant l g.0) is.itself (has_fixed remnant removed old.0.leader is.fixed g.0 is.at g.1) in (
          g.0,
          inl (record { mark = old.0; among = old.1; of_terminal = sym old.2.same_terminal ∙ m.of_terminal; has = has }),
          chain_way remnant removed leads is.fixed f.one g.0 h (new.chained old.0.leader f.number m.mark.leader old.2.moved f.leads_at) is.at f.old_at g.1 f.has,
        )
    back_at terminal h (inr l) = (
      h,
      inr (record { loose = l.loose; among = l.among; of_terminal = l.of_terminal; has = l.has; spared = l.spared }),
      stay (inr (record { loose = l.loose; among = l.among; has = l.has; spared = l.spared })),
    )

    back : Follows removed joined remnant
    back = record { listed = λ t h. h; stays = back_stays; steps = back_steps; at = λ t among h is. back_at t h is }

    pub join_alike : IsSplit joined removed ↔ IsSplit remnant removed
    join_alike = (split_follows removed remnant joined there, split_follows removed joined remnant back)

  -- a new leader leads itself
  leads_itself : (a m : ℕ) → slice_get leaders a ≡ Some m → IsLeader joined m
  leads_itself a m e =
      let f = new.itself a m e in
      let small : m < length leaders = slice_get_within leaders m m f in
      let each = new.one_each in
      let one = some_item remnant.fixed m (omega arith) in
      record { fixed = record { part = one.0.part; leader = m }; at = by.each m m one.0 one.1 f; itself = refl }

  joined_leaders : HasLeaders joined
  joined_leaders = record {
    led = λ f h. let k = number_of led f h in leads_itself k.0 f.leader (old_of k.0 f k.1).leads_at;
    marked = λ m h. let old = at.only m h in leads_itself old.0.leader m.leader old.2.moved;
  }

  touching_alike : (one other : Fixed) → Contains led one → Contains led other → TouchHalves one.part other.part → one.leader ≡ other.leader
  touching_alike one other h h' t =
      let k = number_of led one h in
      let k' = number_of led other h' in
      let x = old_of k.0 one k.1 in
      let y = old_of k'.0 other k'.1 in
      let t' : TouchHalves x.one.part y.one.part = subst (λ b. TouchHalves b y.one.part) x.same (subst (TouchHalves one.part) y.same t) in
      let e = new.tied k.0 k'.0 one.leader (touch x.one y.one x.old_at y.old_at t') x.leads_at in
      same_Some one.leader other.leader (sym e ∙ y.leads_at)

  pub is_joined : IsJoined joined
  is_joined = record { leaders = joined_leaders; touching = touching_alike }

-- leaders are numbers of boxes
pub leaders_small : (remnant : RemnantLists) → HasLeaders remnant → All (λ (one : Fixed). one.leader < length remnant.fixed) remnant.fixed
leaders_small remnant leads = all_of_each (λ (one : Fixed). one.leader < length remnant.fixed) remnant.fixed
    (λ one h. let is = leads.led one h in slice_get_within remnant.fixed one.leader is.fixed is.at)

pub marks_small : (remnant : RemnantLists) → HasLeaders remnant → All (λ (mark : Mark). mark.leader < length remnant.fixed) remnant.marks
marks_small remnant leads = all_of_each (λ (mark : Mark). mark.leader < length remnant.fixed) remnant.marks
    (λ mark h. let is = leads.marked mark h in slice_get_within remnant.fixed mark.leader is.fixed is.at)
