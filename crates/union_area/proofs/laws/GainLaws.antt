-- a list gains the wanted cells of parts of a window, one part after the other
use Rattle.std.proofs.Common.{◌≡◌, sym, subst, arith, List, [], ◌∷◌, ◌++◌, length, inl, inr, ◌↔◌, IfOk, Result, Ok, Err}
use Rattle.geo_core.specs.Plane.{Has, IsInUnion}
use Rattle.geo_core.specs.declared.plane.Cell.{Cell}
use Rattle.geo_core.specs.declared.plane.Rect.{Rect}
use Rattle.fault_model.proofs.UnionLaws.{among_union, union_append, union_none, union_one}
use Rattle.skyline_runs.specs.Runs.{AreApart, HaveSameCells}
use Rattle.joined_rects.proofs.laws.ApartLaws.{apart_append, apart_few}
use Rattle.union_area.specs.PartRects.{AreRectsOf, GainsPart}
use Rattle.union_area.specs.WindowParts.{AreParts}

module _ (wanted : Cell → Type 0) (part : Rect) where
  -- ---- the rectangles of one part

  pub rects_none : (rects : List Rect) → rects ≡ [] → ((c : Cell) → Has part c → wanted c → ⊥) → AreRectsOf wanted part rects
  rects_none rects is none = subst (AreRectsOf wanted part) (sym is) (record {
    cells = λ c. (λ u. absurd (union_none c u), λ h. absurd (none c h.1 h.0));
    apart = apart_few [] (omega arith);
  })

  pub rects_whole : (rects : List Rect) → rects ≡ part ∷ [] → ((c : Cell) → Has part c → wanted c) → AreRectsOf wanted part rects
  rects_whole rects is all = subst (AreRectsOf wanted part) (sym is) (record {
    cells = λ c. (λ u. let h = (union_one c part).0 u in (all c h, h), λ h. (union_one c part).1 h.1);
    apart = apart_few (part ∷ []) (omega arith);
  })

  -- the same cells are wanted in other words
  pub rects_alike : (other : Cell → Type 0) (rects : List Rect) → ((c : Cell) → Has part c → other c ↔ wanted c)
      → AreRectsOf other part rects → AreRectsOf wanted part rects
  rects_alike other rects same are = record {
    cells = λ c. let both = are.cells c in (
      λ u. let h = both.0 u in ((same c h.1).0 h.0, h.1),
      λ h. both.1 ((same c h.1).1 h.0, h.1),
    );
    apart = are.apart;
  }

  -- ---- what a list gains

  pub gains_none : (rects : List Rect) → ((c : Cell) → Has part c → wanted c → ⊥) → GainsPart wanted part rects rects
  gains_none rects none = record {
    cells = λ c. (λ u. inl u, λ h. elim h [ inl u ↦ u | inr w ↦ absurd (none c w.1 w.0) ]);
    apart = λ apart clear. apart;
  }

  pub gains_rects : (old more new : List Rect) → AreRectsOf wanted part more → HaveSameCells (old ++ more) new
      → (AreApart (old ++ more) → AreApart new) → GainsPart wanted part old new
  gains_rects old more new are same apart = record {
    cells = λ c. let both = union_append c old more in (
      λ u. elim (both.0 ((same c).0 u)) [ inl v ↦ inl v | inr v ↦ inr ((are.cells c).0 v) ],
      λ h. (same c).1 (both.1 (elim h [ inl v ↦ inl v | inr w ↦ inr ((are.cells c).1 w) ])),
    );
    apart = λ one clear. apart (apart_append old more one are.apart (λ c u v. clear c u ((are.cells c).0 v).1));
  }

  -- the same of a call that may fail
  pub gains_if_ok : {E : Type 0} (old more : List Rect) (result : Result (List Rect) E) → AreRectsOf wanted part more
      → IfOk result (λ new. HaveSameCells (old ++ more) new)
      → IfOk result (λ new. AreApart (old ++ more) → AreApart new) → IfOk result (λ new. GainsPart wanted part old new)
  gains_if_ok old more (Ok new) are same apart = gains_rects old more new are same apart
  gains_if_ok old more (Err e) are same apart = tt

  pub gains_halves : (one other : Cell → Type 0) (first second : Rect) (old mid new : List Rect)
      → AreParts part first second → ((c : Cell) → Has first c → one c ↔ wanted c)
      → ((c : Cell) → Has second c → other c ↔ wanted c) → GainsPart one first old mid
      → GainsPart other second mid new → GainsPart wanted part old new
  gains_halves one other first second old mid new parts same alike a b = record {
    cells = λ c.
        let within = parts.cells c in let front = a.cells c in let back = b.cells c in (
          λ u. elim (back.0 u) [
            | inl v ↦ elim (front.0 v) [ inl o ↦ inl o | inr h ↦ inr ((same c h.1).0 h.0, within.1 (inl h.1)) ]
            | inr h ↦ inr ((alike c h.1).0 h.0, within.1 (inr h.1))
          ],
          λ h. elim h [
            | inl o ↦ back.1 (inl (front.1 (inl o)))
            | inr w ↦ elim (within.0 w.1) [
              | inl k ↦ back.1 (inl (front.1 (inr ((same c k).1 w.0, k))))
              | inr k ↦ back.1 (inr ((alike c k).1 w.0, k))
            ]
          ],
        );
    apart = λ apart clear.
        b.apart (a.apart apart (λ c u h. clear c u ((parts.cells c).1 (inl h)))) (λ c u h. elim ((a.cells c).0 u) [
          | inl o ↦ clear c o ((parts.cells c).1 (inr h))
          | inr w ↦ parts.apart c w.1 h
        ]);
  }

  -- a list that had nothing has the wanted cells of the part, also when it is joined
  pub gained_all : (old new all : List Rect) → length old ≡ 0 → GainsPart wanted part old new → HaveSameCells new all
      → (c : Cell) → IsInUnion all c ↔ (wanted c × Has part c)
  gained_all old new all e gains joined c = (
    λ u. elim ((gains.cells c).0 ((joined c).0 u)) [ inl o ↦ let small = (among_union old c o).1 in absurd (omega (arith, e)) | inr h ↦ h ],
    λ h. (joined c).1 ((gains.cells c).1 (inr h)),
  )

  pub gained_apart : (old new : List Rect) → length old ≡ 0 → GainsPart wanted part old new → AreApart new
  gained_apart old new e gains = gains.apart (apart_few old (omega (arith, e)))
      (λ c u h. let small = (among_union old c u).1 in absurd (omega (arith, e)))
