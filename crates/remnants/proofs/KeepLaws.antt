-- fixed boxes that matter no more are dropped
use Rattle.std.proofs.Common.{ℕ, List, ◌≡◌, ◌<◌, length, refl, subst, sym, inl, inr, ◌⊎◌, ◌↔◌, ap, ◌∙◌, arith, Contains, Some, slice_get}
use Rattle.lists.proofs.Containing.{number_of, Contains-slice_get, some_item}
use Rattle.lists.proofs.Words.{slice_get_within, same_Some, All-contains}
use Rattle.paths.specs.Paths.{stay, step}
use Rattle.paths.proofs.PathLaws.{first, append}
use Rattle.geo_core.specs.declared.plane.Half.{Half}
use Rattle.fault_model.specs.FaultNames.{Neighbours}
use Rattle.fault_model.proofs.HalfLaws.{Neighbours-sym}
use Rattle.half_boxes.specs.HalfBoxes.{HasHalf, LiesWithin, TouchHalves}
use Rattle.half_boxes.specs.declared.boxes.HalfBox.{HalfBox}
use Rattle.remnants.specs.Remnants.{RemnantLists, HasFixed, HasLoose, Stays, IsStep, Way, IsAt, IsSplit, IsLeader, IsJoined, IsLooseWithin}
use Rattle.remnants.specs.declared.parts.Fixed.{Fixed}
use Rattle.remnants.specs.declared.parts.Loose.{Loose}
use Rattle.remnants.specs.declared.parts.Mark.{Mark}
use Rattle.remnants.specs.inside.Joining.{AreMovedTo}
use Rattle.remnants.specs.inside.Keeping.{Matters, ArePlaces, AreKept}
use Rattle.remnants.proofs.FollowLaws.{Follows, split_follows, Way-reverse, at_stays}
use Rattle.remnants.proofs.JoinLaws.{some_half_of}
use Rattle.remnants.proofs.MarkLaws.{one_leader}

module _ (old : RemnantLists) (joined : IsJoined old) (outer : HalfBox) (within : IsLooseWithin old outer) (places numbers : List ℕ) (are : ArePlaces outer old.fixed places numbers)
    (kept : List Fixed)
    (keeps : AreKept old.fixed places numbers kept) (moved : List Mark) (at : AreMovedTo numbers old.marks moved) where
  abbrev new : RemnantLists
  new = record { fixed = kept; loose = old.loose; marks = moved; terminals = old.terminals }

  -- ---- numbers of leaders

  leader_placed : (l : ℕ) → IsLeader old l → (m : ℕ) × (slice_get numbers l ≡ Some m) × (slice_get places m ≡ Some l)
  leader_placed l is = are.placed l is.fixed is.at (inl is.itself)

  one_number : (l l' m : ℕ) → IsLeader old l → IsLeader old l' → slice_get numbers l ≡ Some m → slice_get numbers l' ≡ Some m → l ≡ l'
  one_number l l' m is is' e f =
      let x = leader_placed l is in
      let y = leader_placed l' is' in
      let same : x.0 ≡ m = same_Some x.0 m (sym x.1 ∙ e) in
      let same' : y.0 ≡ m = same_Some y.0 m (sym y.1 ∙ f) in
      same_Some l l' (sym x.2 ∙ ap (slice_get places) (same ∙ sym same') ∙ y.2)

  leads_new : (l m : ℕ) → IsLeader old l → slice_get numbers l ≡ Some m → IsLeader new m
  leads_new l m is e =
      let x = leader_placed l is in
      let same : x.0 ≡ m = same_Some x.0 m (sym x.1 ∙ e) in
      record {
        fixed = record { part = is.fixed.part; leader = m };
        at = keeps.each m l m is.fixed (ap (slice_get places) (sym same) ∙ x.2) is.at (ap (slice_get numbers) is.itself ∙ e);
        itself = refl;
      }

  leader_of : (k : ℕ) (one : Fixed) → slice_get old.fixed k ≡ Some one → IsLeader old one.leader
  leader_of k one e = joined.leaders.led one (Contains-slice_get old.fixed k one e)

  -- ---- boxes that are kept, and where they come from

  record IsNew (l : ℕ) (h : Half) : Type 0 where
    pub number : ℕ
    pub of_leader : slice_get numbers l ≡ Some number
    pub has : HasFixed new number h

  new_of : (k : ℕ) (one : Fixed) (h : Half) → slice_get old.fixed k ≡ Some one → Matters outer k one → HasHalf one.part h → IsNew one.leader h
  new_of k one h e matters has =
      let n = are.placed k one e matters in
      let m = leader_placed one.leader (leader_of k one e) in
      record {
        number = m.0;
        of_leader = m.1;
        has = record { fixed = record { part = one.part; leader = m.0 }; among = Contains-slice_get kept n.0 _ (keeps.each n.0 k m.0 one n.2 e m.1); led = refl; has = has };
      }

  record IsFrom (f : Fixed) : Type 0 where
    pub one : Fixed
    pub among : Contains old.fixed one
    pub same : f.part ≡ one.part
    pub of_leader : slice_get numbers one.leader ≡ Some f.leader

  from : (f : Fixed) → Contains kept f → IsFrom f
  from f h =
      let n = number_of kept f h in
      let small : n.0 < length kept = slice_get_within kept n.0 f n.1 in
      let many = keeps.as_many in
      let k = some_item places n.0 (omega arith) in
      let one = some_item old.fixed k.0 (are.known n.0 k.0 k.1) in
      let m = leader_placed one.0.leader (leader_of k.0 one.0 one.1) in
      let is : record { part = one.0.part; leader = m.0 } ≡ f = same_Some _ f (sym (keeps.each n.0 k.0 m.0 one.0 k.1 one.1 m.1) ∙ n.1) in
      record {
        one = one.0;
        among = Contains-slice_get old.fixed k.0 one.0 one.1;
        same = sym (ap (λ (x : Fixed). x.part) is);
        of_leader = m.1 ∙ ap (λ (x : Fixed). Some x.leader) is;
      }

  record IsOld (m : ℕ) (h : Half) : Type 0 where
    pub leader : ℕ
    pub leads : IsLeader old leader
    pub of_leader : slice_get numbers leader ≡ Some m
    pub has : HasFixed old leader h

  old_of : (m : ℕ) (h : Half) → HasFixed new m h → IsOld m h
  old_of m h has =
      let f = from has.fixed has.among in
      record {
        leader = f.one.leader;
        leads = joined.leaders.led f.one f.among;
        of_leader = f.of_leader ∙ ap Some has.led;
        has = record { fixed = f.one; among = f.among; led = refl; has = subst (λ b. HasHalf b h) f.same has.has };
      }

  -- ---- the new remnant is joined

  pub kept_joined : IsJoined new
  kept_joined = record {
    leaders = record {
      led = λ f h. let x = from f h in leads_new x.one.leader f.leader (joined.leaders.led x.one x.among) x.of_leader;
      marked = λ m h. let x = at.only m h in leads_new x.0.leader m.leader (joined.leaders.marked x.0 x.1) x.2.moved;
    };
    touching = λ f g h k t.
        let x = from f h in
        let y = from g k in
        let t' : TouchHalves x.one.part y.one.part = subst (λ b. TouchHalves b y.one.part) x.same (subst (TouchHalves f.part) y.same t) in
        same_Some f.leader g.leader (sym x.of_leader ∙ ap (slice_get numbers) (joined.touching x.one y.one x.among y.among t') ∙ y.of_leader);
  }

  module _ (removed : HalfBox) where
    -- ---- what the new remnant joins, the old one does

    back_loose : (h : Half) → HasLoose new removed h → HasLoose old removed h
    back_loose h l = record { loose = l.loose; among = l.among; has = l.has; spared = l.spared }

    back_stays : (h : Half) → Stays new removed h → Stays old removed h
    back_stays h (inl (m, has)) = let o = old_of m h has in inl (o.leader, o.has)
    back_stays h (inr l) = inr (back_loose h l)

    back_steps : (p q : Half) → Stays new removed p → Stays new removed q → IsStep new p q → Way old removed p q
    back_steps p q a b (inl n) = step (back_stays p a) (inl n) (stay (back_stays q b))
    back_steps p q a b (inr (m, x, y)) =
        let o = old_of m p x in
        let r = old_of m q y in
        let has : HasFixed old o.leader q = subst (λ l. HasFixed old l q) (one_number r.leader o.leader m r.leads o.leads r.of_leader o.of_leader) r.has in
        step (inl (o.leader, o.has)) (inr (o.leader, o.has, has)) (stay (inl (o.leader, has)))

    back_at : (terminal : ℕ) (h : Half) → IsAt new removed terminal h → IsAt old removed terminal h
    back_at terminal h (inl m) =
        let x = at.only m.mark m.among in
        let o = old_of m.mark.leader h m.has in
        let same = one_number o.leader x.0.leader m.mark.leader o.leads (joined.leaders.marked x.0 x.1) o.of_leader x.2.moved in
        inl (record { mark = x.0; among = x.1; of_terminal = sym x.2.same_terminal ∙ m.of_terminal; has = subst (λ l. HasFixed old l h) same o.has })
    back_at terminal h (inr l) = inr (record { loose = l.loose; among = l.among; of_terminal = l.of_terminal; has = l.has; spared = l.spared })

    back : Follows removed new old
    back = record {
      listed = λ t h. h;
      stays = back_stays;
      steps = back_steps;
      at = λ t among h is. let is' = back_at t h is in (h, is', stay (at_stays old removed t h is'));
    }

    -- ---- what the old remnant joins, the new one does

    -- a half square of the old remnant is retold as one of the new: a loose one as itself, and one of a fixed box as one of a kept box of its leader
    data Near (h : Half) : Half → Type 0 where
      of_loose : HasLoose old removed h → Near h h
      of_fixed : {g : Half} (l m : ℕ) → slice_get numbers l ≡ Some m → HasFixed old l h → HasFixed new m g → Near h g

    there_loose : (h : Half) → HasLoose old removed h → HasLoose new removed h
    there_loose h l = record { loose = l.loose; among = l.among; has = l.has; spared = l.spared }

    in_outer : (h : Half) → HasLoose old removed h → HasHalf outer h
    in_outer h l = All-contains (λ (x : Loose). LiesWithin x.part outer) old.loose l.loose within l.among h l.has

    -- a box beside a half square of `outer` is kept
    beside : (l : ℕ) (h g : Half) → HasFixed old l h → HasHalf outer g → (h ≡ g) ⊎ Neighbours h g → IsNew l h
    beside l h g has out near =
        let k = number_of old.fixed has.fixed has.among in
        subst (λ m. IsNew m h) has.led (new_of k.0 has.fixed h k.1 (inr (h, g, has.has, out, near)) has.has)

    -- a kept box of the leader has the half square under the number of the leader
    at_number : (l m : ℕ) (h : Half) → slice_get numbers l ≡ Some m → IsNew l h → HasFixed new m h
    at_number l m h e is = subst (λ n. HasFixed new n h) (same_Some is.number m (sym is.of_leader ∙ e)) is.has

    -- a step, retold
    abbrev Told : Half → Half → Type 0
    Told a b = (g : Half) × Near b g × Way new removed a g

    from_loose : (a b : Half) → HasLoose old removed a → Stays old removed b → IsStep old a b → Told a b
    from_loose a b l (inl (m, has)) (inl next) =
        let n = beside m b a has (in_outer a l) (inr (Neighbours-sym a b next)) in
        (b, of_fixed m n.number n.of_leader has n.has, step (inr (there_loose a l)) (inl next) (stay (inl (n.number, n.has))))
    from_loose a b l (inr l') (inl next) = (b, of_loose l', step (inr (there_loose a l)) (inl next) (stay (inr (there_loose b l'))))
    from_loose a b l s (inr (m, x, y)) = let n = beside m a a x (in_outer a l) (inl refl) in (a, of_fixed m n.number n.of_leader y n.has, stay (inl (n.number, n.has)))

    from_fixed : (a b g : Half) (l m : ℕ) → slice_get numbers l ≡ Some m → HasFixed old l a → HasFixed new m g → Stays old removed b → IsStep old a b → Told g b
    from_fixed a b g l m e has has' (inl (k, other)) (inl next) =
        (g, of_fixed l m e (subst (λ i. HasFixed old i b) (sym (one_leader old joined l k a b has other (inr next))) other) has', stay (inl (m, has')))
    from_fixed a b g l m e has has' (inr loose) (inl next) =
        let here = at_number l m a e (beside l a b has (in_outer b loose) (inr next)) in
        (b, of_loose loose, step (inl (m, has')) (inr (m, has', here)) (step (inl (m, here)) (inl next) (stay (inr (there_loose b loose)))))
    from_fixed a b g l m e has has' s (inr (k, x, y)) =
        (g, of_fixed l m e (subst (λ i. HasFixed old i b) (sym (one_leader old joined l k a a has x (inl refl))) y) has', stay (inl (m, has')))

    from_near : (a b : Half) {g : Half} → Near a g → Stays old removed b → IsStep old a b → Told g b
    from_near a b (of_loose l) s e = from_loose a b l s e
    from_near a b (of_fixed {g = g} l m at has has') s e = from_fixed a b g l m at has has' s e

    near_stays : {h g : Half} → Near h g → Stays new removed g
    near_stays {h} (of_loose l) = inr (there_loose h l)
    near_stays (of_fixed l m at has has') = inl (m, has')

    told : {a b : Half} (g : Half) → Way old removed a b → Near a g → Told g b
    told g (stay h) near = (g, near, stay (near_stays near))
    told g (step {a = a} {b = b} h e way) near =
        let s = from_near a b near (first way) e in
        let r = told s.0 way s.1 in
        (r.0, r.1, append s.2 r.2)

    -- where terminals begin, and where they end
    moved_mark : (mark : Mark) (terminal m : ℕ) (h : Half) → Contains old.marks mark → mark.terminal ≡ terminal → slice_get numbers mark.leader ≡ Some m → HasFixed new m h
        → IsAt new removed terminal h
    moved_mark mark terminal m h among e f has =
        let x = at.each mark among in
        inl (record { mark = x.0; among = x.1; of_terminal = x.2.same_terminal ∙ e; has = subst (λ n. HasFixed new n h) (same_Some m x.0.leader (sym f ∙ x.2.moved)) has })

    abbrev Begins : ℕ → Half → Type 0
    Begins terminal g = (x : Half) × IsAt new removed terminal x × Way new removed x g

    begins : (terminal : ℕ) (h : Half) → IsAt old removed terminal h → {g : Half} → Near h g → Begins terminal g
    begins terminal h (inl m) (of_loose l) =
        let n = beside m.mark.leader h h m.has (in_outer h l) (inl refl) in
        (h, moved_mark m.mark terminal n.number h m.among m.of_terminal n.of_leader n.has, stay (inl (n.number, n.has)))
    begins terminal h (inl m) (of_fixed {g = g} l k e has has') =
        let same = one_leader old joined l m.mark.leader h h has m.has (inl refl) in
        (g, moved_mark m.mark terminal k g m.among m.of_terminal (ap (slice_get numbers) (sym same) ∙ e) has', stay (inl (k, has')))
    begins terminal h (inr l) (of_loose l') = (h, inr (record { loose = l.loose; among = l.among; of_terminal = l.of_terminal; has = l.has; spared = l.spared }), stay (inr (there_loose h l')))
    begins terminal h (inr l) (of_fixed {g = g} k m e has has') =
        let loose : HasLoose old removed h = record { loose = l.loose; among = l.among; has = l.has; spared = l.spared } in
        let here = at_number k m h e (beside k h h has (in_outer h loose) (inl refl)) in
        (h, inr (record { loose = l.loose; among = l.among; of_terminal = l.of_terminal; has = l.has; spared = l.spared }), step (inl (m, here)) (inr (m, here, has')) (stay (inl (m, has'))))

    some_near : (terminal : ℕ) (h : Half) → IsAt old removed terminal h → (g : Half) × Near h g
    some_near terminal h (inl m) =
        let is = joined.leaders.marked m.mark m.among in
        let g = some_half_of is.fixed.part in
        let n = new_of m.mark.leader is.fixed g.0 is.at (inl is.itself) g.1 in
        (g.0, of_fixed m.mark.leader n.number (ap (slice_get numbers) (sym is.itself) ∙ n.of_leader) m.has n.has)
    some_near terminal h (inr l) = (h, of_loose (record { loose = l.loose; among = l.among; has = l.has; spared = l.spared }))

    there : IsSplit new removed → IsSplit old removed
    there s = record {
      one = s.one;
      other = s.other;
      one_is = s.one_is;
      other_is = s.other_is;
      different = s.different;
      apart = λ p q a b way.
          let x = some_near s.one p a in
          let y = told x.0 way x.1 in
          let start = begins s.one p a x.1 in
          let end = begins s.other q b y.1 in
          s.apart start.0 end.0 start.1 end.1 (append start.2 (append y.2 (Way-reverse end.2)));
    }

    pub kept_alike : IsSplit new removed ↔ IsSplit old removed
    kept_alike = (there, split_follows removed new old back)
