-- what one remnant joins, another joins too
use Rattle.std.proofs.Common.{ℕ, inl, inr, Contains, Option}
use Rattle.paths.specs.Paths.{stay, step}
use Rattle.paths.proofs.PathLaws.{first, append, reverse}
use Rattle.geo_core.specs.declared.plane.Half.{Half}
use Rattle.fault_model.proofs.HalfLaws.{Neighbours-sym}
use Rattle.half_boxes.specs.declared.boxes.HalfBox.{HalfBox}
use Rattle.remnants.specs.Remnants.{RemnantLists, HasFixed, HasLoose, Stays, IsStep, Way, IsLooseOf, IsAt, IsSplit}
use Rattle.remnants.specs.declared.parts.Fixed.{Fixed}
use Rattle.remnants.specs.declared.parts.Mark.{Mark}
use Rattle.remnants.specs.inside.Parting.{IsBetween, PartAlike}

-- half squares, steps and listed terminals of the one are found in the other, as ways where they are not the same
pub record Follows (removed : HalfBox) (one other : RemnantLists) : Type 0 where
  pub listed : (terminal : ℕ) → Contains other.terminals terminal → Contains one.terminals terminal
  pub stays : (h : Half) → Stays one removed h → Stays other removed h
  pub steps : (p q : Half) → Stays one removed p → Stays one removed q → IsStep one p q → Way other removed p q
  pub at : (terminal : ℕ) → Contains other.terminals terminal → (h : Half) → IsAt one removed terminal h → (g : Half) × IsAt other removed terminal g × Way other removed g h

IsStep-sym : (remnant : RemnantLists) (p q : Half) → IsStep remnant p q → IsStep remnant q p
IsStep-sym remnant p q (inl n) = inl (Neighbours-sym p q n)
IsStep-sym remnant p q (inr (leader, a, b)) = inr (leader, b, a)

pub Way-reverse : {remnant : RemnantLists} {removed : HalfBox} {p q : Half} → Way remnant removed p q → Way remnant removed q p
Way-reverse {remnant} = reverse (IsStep-sym remnant)

told : {removed : HalfBox} {one other : RemnantLists} → Follows removed one other → {p q : Half} → Way one removed p q → Way other removed p q
told f (stay {a = a} h) = stay (f.stays a h)
told f (step {a = a} {b = b} h e way) = append (f.steps a b h (first way) e) (told f way)

-- so terminals that the other parts, the one does
pub split_follows : (removed : HalfBox) (one other : RemnantLists) → Follows removed one other → IsSplit other removed → IsSplit one removed
split_follows removed one other f s = record {
  one = s.one;
  other = s.other;
  one_is = f.listed s.one s.one_is;
  other_is = f.listed s.other s.other_is;
  different = s.different;
  apart = λ p q a b way.
      let from = f.at s.one s.one_is p a in
      let to = f.at s.other s.other_is q b in
      s.apart from.0 to.0 from.1 to.1 (append from.2 (append (told f way) (Way-reverse to.2)));
}

pub alike : (inner : Option HalfBox) (outer : HalfBox) (one other : RemnantLists) → ((removed : HalfBox) → IsBetween inner outer removed → Follows removed one other)
    → ((removed : HalfBox) → IsBetween inner outer removed → Follows removed other one) → PartAlike inner outer one other
alike inner outer one other there back removed between = (split_follows removed other one (back removed between), split_follows removed one other (there removed between))

pub alike_then : (inner : Option HalfBox) (outer : HalfBox) (one mid other : RemnantLists) → PartAlike inner outer one mid → PartAlike inner outer mid other → PartAlike inner outer one other
alike_then inner outer one mid other first second removed between =
    let a = first removed between in
    let b = second removed between in
    (λ s. b.0 (a.0 s), λ s. a.1 (b.1 s))

-- what a terminal has is left
pub at_stays : (remnant : RemnantLists) (removed : HalfBox) (terminal : ℕ) (h : Half) → IsAt remnant removed terminal h → Stays remnant removed h
at_stays remnant removed terminal h (inl marked) = inl (marked.mark.leader, marked.has)
at_stays remnant removed terminal h (inr loose) = inr (record { loose = loose.loose; among = loose.among; has = loose.has; spared = loose.spared })

-- A remnant with more fixed boxes and marks, where what was loose of the one is left in the other.
module _ (removed : HalfBox) (one other : RemnantLists) (listed : (terminal : ℕ) → Contains other.terminals terminal → Contains one.terminals terminal)
    (fixed : (f : Fixed) → Contains one.fixed f → Contains other.fixed f) (marks : (m : Mark) → Contains one.marks m → Contains other.marks m)
    (loose_stays : (h : Half) → HasLoose one removed h → Stays other removed h) (loose_at : (terminal : ℕ) → Contains other.terminals terminal → (h : Half) → IsLooseOf one removed terminal h → IsAt other removed terminal h) where
  more_fixed : (leader : ℕ) (h : Half) → HasFixed one leader h → HasFixed other leader h
  more_fixed leader h has = record { fixed = has.fixed; among = fixed has.fixed has.among; led = has.led; has = has.has }

  more_stays : (h : Half) → Stays one removed h → Stays other removed h
  more_stays h (inl (leader, has)) = inl (leader, more_fixed leader h has)
  more_stays h (inr has) = loose_stays h has

  more_steps : (p q : Half) → Stays one removed p → Stays one removed q → IsStep one p q → Way other removed p q
  more_steps p q a b (inl n) = step (more_stays p a) (inl n) (stay (more_stays q b))
  more_steps p q a b (inr (leader, from, to)) = step (more_stays p a) (inr (leader, more_fixed leader p from, more_fixed leader q to)) (stay (more_stays q b))

  more_at : (terminal : ℕ) → Contains other.terminals terminal → (h : Half) → IsAt one removed terminal h → IsAt other removed terminal h
  more_at terminal is h (inl m) = inl (record { mark = m.mark; among = marks m.mark m.among; of_terminal = m.of_terminal; has = more_fixed m.mark.leader h m.has })
  more_at terminal is h (inr loose) = loose_at terminal is h loose

  pub more_follows : Follows removed one other
  more_follows = record {
    listed = listed;
    stays = more_stays;
    steps = more_steps;
    at = λ terminal among h is. let is' = more_at terminal among h is in (h, is', stay (at_stays other removed terminal h is'));
  }
