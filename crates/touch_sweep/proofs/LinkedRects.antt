-- from the links that the search found to the answer
use Rattle.std.proofs.Common.{ℕ, ◌<◌, List, [], inl, inr, length, ℤ, All, Contains}
use Rattle.lists.proofs.Words.{slice_get_within, All-contains}
use Rattle.paths.specs.Paths.{Path, stay, step}
use Rattle.classes.specs.Classes.{AreJoined, IsPair}
use Rattle.geo_core.specs.Plane.{IsIn}
use Rattle.geo_core.specs.declared.plane.Rect.{Rect}
use Rattle.touch_sweep.specs.Touching.{AreTouching}
use Rattle.touch_sweep.specs.inside.Chains.{Links}
use Rattle.touch_sweep.specs.inside.Entries.{AreNumbered}
use Rattle.touch_sweep.specs.inside.Matches.{IsMatchFrom, IsMatchOf}
use Rattle.touch_sweep.specs.declared.numbered.Numbered.{Numbered}
use Rattle.touch_sweep.proofs.PairSteps.{match_from_touching, touching_from_match}
use Rattle.lists.proofs.Containing.{Contains-none, Contains-slice_get}
use Rattle.touch_sweep.specs.inside.Splits.{AreOrdered, HaveBegins}

-- each entry begins in one of the columns in which the rectangles begin
pub begins_of_all : (rects : List Rect) (entries : List Numbered) (columns : List ℤ) (low high : ℤ) → AreNumbered rects entries → AreOrdered columns
    → All (λ rect. Contains columns rect.x0) rects → HaveBegins columns low high entries
begins_of_all rects entries columns low high numbered ordered all = record {
  ordered = ordered;
  all = λ e c i. All-contains (λ (rect : Rect). Contains columns rect.x0) rects e.rect all (Contains-slice_get rects e.number e.rect ((numbered e).0 c));
}

module _ (rects : List Rect) (entries : List Numbered) (low high : ℤ) (found : List (ℕ × ℕ)) (all : AreNumbered rects entries) (within : All (λ e. IsIn low high e.rect.x0) entries)
    (g : Links (IsMatchFrom low high entries entries) (IsMatchOf entries entries) [] found) where
  pub linked_touch : (a b : ℕ) → Contains found (a, b) → AreTouching rects a b
  linked_touch a b c = elim (g.none_else (a, b) c) [ inl d ↦ absurd (Contains-none d) | inr m ↦ touching_from_match rects entries all a b m ]

  next_below : (a b : ℕ) → IsPair found a b → b < length rects
  next_below a b (inl c) = let t = linked_touch a b c in slice_get_within rects b t.other t.other_at
  next_below a b (inr c) = let t = linked_touch b a c in slice_get_within rects b t.one t.one_at

  -- a chain of the pairs has numbers of the list alone
  all_below : {a b : ℕ} → a < length rects → Path (λ k. Unit {0}) (IsPair found) a b → AreJoined (length rects) found a b
  all_below small (stay h) = stay small
  all_below small (step {a = a} {b = b} h e path) = step small e (all_below (next_below a b e) path)

  pub touching_joined : (a b : ℕ) → AreTouching rects a b → AreJoined (length rects) found a b
  touching_joined a b t = all_below (slice_get_within rects a t.one t.one_at) (g.joined (a, b) (match_from_touching rects entries low high all within a b t)).path
