-- the first check that fails, among more checks and in other words
use Rattle.std.proofs.Common.{List, ◌++◌, append_assoc, All, ◌≡◌, ◌∷◌, get_or, map, ap, ◌∙◌}
use Rattle.lists.proofs.Words.{All-append, map-append, All-map}
use Rattle.first_refusal.specs.Checks.{IsRefusalOfFirst}

-- the refusal of checks is that of more checks, where those before them hold, whatever follows
pub refused_within : {N R : Type 0} (Holds : N → Type 0) (refusal_of : N → R) (before here behind : List N) (refusal : R) → All Holds before
    → IsRefusalOfFirst Holds here refusal_of refusal → IsRefusalOfFirst Holds (before ++ (here ++ behind)) refusal_of refusal
refused_within Holds refusal_of before here behind refusal all first = record {
  check = first.check;
  is_first = record {
    before = before ++ first.is_first.before;
    after = first.is_first.after ++ behind;
    parts = rw first.is_first.parts (simp append_assoc);
    all_before = All-append Holds before first.is_first.before all first.is_first.all_before;
    fails = first.is_first.fails;
  };
  is_its_refusal = first.is_its_refusal;
}

-- the first that fails of a list is the first of the list said in other words
module _ {A N R : Type 0} (H : A → Type 0) (Holds : N → Type 0) (say : A → N) (of : A → R) (refusal_of : N → R) (to : (a : A) → H a → Holds (say a)) (from : (a : A) → Holds (say a)
    → H a) (same : (a : A) → of a ≡ refusal_of (say a)) where
  pub first_said : (xs : List A) (refusal : R) → IsRefusalOfFirst H xs of refusal → IsRefusalOfFirst Holds (map say xs) refusal_of refusal
  first_said xs refusal first = record {
    check = say first.check;
    is_first = record {
      before = map say first.is_first.before;
      after = map say first.is_first.after;
      parts = ap (map say) first.is_first.parts ∙ map-append say first.is_first.before (first.check ∷ first.is_first.after);
      all_before = All-map Holds say first.is_first.before (λ k d h. to (get_or first.is_first.before k d) (first.is_first.all_before k d h));
      fails = λ holds. first.is_first.fails (from first.check holds);
    };
    is_its_refusal = first.is_its_refusal ∙ same first.check;
  }
