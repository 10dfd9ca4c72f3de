-- the covers of many shapes, taken in their order
use Rattle.std.proofs.Common.{Global, ◌≡◌, refl, sym, ap, subst, ◌∙◌, List, [], ◌∷◌, ◌++◌, Vec, Ok, Err, append_assoc, length, arith, All}
use Rattle.lists.proofs.Words.{append-nil, AllZip, All-nil, All-cons}
use Rattle.first_refusal.specs.Answers.{Answers, gives, refuses, no_memory}
use Rattle.first_refusal.specs.Outcomes.{value}
use Rattle.geo_core.specs.declared.plane.Rect.{Rect}
use Rattle.library_model.specs.declared.library.Structure.{Structure}
use Rattle.flatten.specs.declared.placed.Placed.{Placed}
use Rattle.rect_cover.specs.declared.fault.CoverFault.{CoverFault}
use Rattle.rect_cover.specs.declared.fault.CoverFault.TheVariants.{Memory}
use Rattle.rect_cover.specs.Coverings.{AllComeTo, one_refused, PlacedComesTo, IsCoverable, with_items}
use Rattle.rect_cover.specs.inside.ShapeAnswers.{Answer, IsAnswerFor}
use Rattle.rect_cover.proofs.AgreeLaws.{covered_or_refused}
use Rattle.lists.proofs.Pairing.{AllZip-append}

module _ (structures : List Structure) where
  abbrev pub IsListed : Placed → List Rect → Type 0
  IsListed one list = PlacedComesTo structures one (value list)

  -- shapes, of which the first have these lists, and the others the answers that are left
  pub record AreListedBut (placed : List Placed) (left : List Answer) (lists : List (List Rect)) : Type 0 where
    pub front : List Placed
    pub back : List Placed
    pub parts : placed ≡ front ++ back
    pub listed : AllZip IsListed front lists
    pub answered : AllZip (IsAnswerFor structures) back left

  pub none_listed : (placed : List Placed) (left : List Answer) → AllZip (IsAnswerFor structures) placed left → AreListedBut placed left []
  none_listed placed left h = record { front = []; back = placed; parts = refl; listed = tt; answered = h }

  -- the shape of the next answer
  record IsNext (back : List Placed) (answer : Answer) (rest : List Answer) : Type 0 where
    one : Placed
    behind : List Placed
    parts : back ≡ one ∷ behind
    is_answer : IsAnswerFor structures one answer
    answered : AllZip (IsAnswerFor structures) behind rest

  next : (back : List Placed) (answer : Answer) (rest : List Answer) → AllZip (IsAnswerFor structures) back (answer ∷ rest) → IsNext back answer rest
  next [] answer rest h = absurd h
  next (one ∷ behind) answer rest h = record { one = one; behind = behind; parts = refl; is_answer = h.0; answered = h.1 }

  as_listed : (one : Placed) (rects : Vec Rect Global) → IsAnswerFor structures one (Ok rects) → IsListed one rects.items
  as_listed one rects (gives comes) = comes

  coverable : (placed : List Placed) (lists : List (List Rect)) → AllZip IsListed placed lists → All (IsCoverable structures) placed
  coverable [] lists h = All-nil (IsCoverable structures)
  coverable (one ∷ placed) [] h = absurd h
  coverable (one ∷ placed) (list ∷ lists) h = All-cons (IsCoverable structures) one placed (list, h.0) (coverable placed lists h.1)

  module _ (placed : List Placed) (left rest : List Answer) (lists : List (List Rect)) (answer : Answer) (is_left : left ≡ answer ∷ rest) (so_far : AreListedBut placed left lists) where
    its : IsNext so_far.back answer rest
    its = next so_far.back answer rest (subst (AllZip (IsAnswerFor structures) so_far.back) is_left so_far.answered)

    parted : placed ≡ so_far.front ++ its.one ∷ its.behind
    parted = so_far.parts ∙ ap (λ back. so_far.front ++ back) its.parts

    -- its list is one more
    pub one_listed : (rects : Vec Rect Global) (list : List Rect) (lists' : List (List Rect)) → answer ≡ Ok rects → list ≡ rects.items → lists' ≡ lists ++ list ∷ [] → AreListedBut placed rest lists'
    one_listed rects list lists' ok same more = record {
      front = so_far.front ++ its.one ∷ [];
      back = its.behind;
      parts = parted ∙ sym (append_assoc so_far.front (its.one ∷ []) its.behind);
      listed = subst (AllZip IsListed (so_far.front ++ its.one ∷ [])) (sym more)
          (AllZip-append IsListed so_far.front (its.one ∷ []) lists (list ∷ []) so_far.listed
          (subst (IsListed its.one) (sym same) (as_listed its.one rects (subst (IsAnswerFor structures its.one) ok its.is_answer)), tt));
      answered = its.answered;
    }

    -- or its fault is the first
    pub refused_first : (fault : CoverFault) → answer ≡ Err fault → Answers Memory (λ outcome. AllComeTo structures placed (with_items outcome)) (Err fault)
    refused_first fault err = by_answer fault (subst (IsAnswerFor structures its.one) err its.is_answer)
      where
        by_answer : (fault : CoverFault) → IsAnswerFor structures its.one (Err fault) → Answers Memory (λ outcome. AllComeTo structures placed (with_items outcome)) (Err fault)
        by_answer fault (refuses comes) = refuses (one_refused (record {
          one = its.one;
          is_first = record {
            before = so_far.front;
            after = its.behind;
            parts = parted;
            all_before = coverable so_far.front lists so_far.listed;
            fails = λ (rects, covers). covered_or_refused structures its.one rects fault covers comes;
          };
          is_its_fault = comes;
        }))
        by_answer fault no_memory = no_memory

  -- no answer is left
  pub all_listed : (placed : List Placed) (left : List Answer) (lists : List (List Rect)) → length left ≡ 0 → AreListedBut placed left lists → AllZip IsListed placed lists
  all_listed placed [] lists none h =
      subst (λ shapes. AllZip IsListed shapes lists) (sym (h.parts ∙ ap (λ back. h.front ++ back) (none_behind h.back h.answered) ∙ append-nil h.front)) h.listed
    where
      none_behind : (back : List Placed) → AllZip (IsAnswerFor structures) back [] → back ≡ []
      none_behind [] h = refl
      none_behind (one ∷ back) h = absurd h
  all_listed placed (answer ∷ left) lists none h = absurd (omega arith)
