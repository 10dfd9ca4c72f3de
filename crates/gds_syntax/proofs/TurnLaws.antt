-- the turn of a reference: its size, its angle, and what its checks come to
use Rattle.std.proofs.Common.{int_eq, bit_and, ◌≡◌, ◌↔◌, ◌∙◌, refl, sym, subst, ℕ, ℤ, pos, negsuc, ◌+ℤ◌, ◌*ℤ◌, ◌≤ℤ◌, ◌*◌, ◌/◌, ◌%◌, Bool, List, [], ◌∷◌, Option, Some, None, IsTrue, IfSome, IfNone, arith, MatchOption, FitsSigned, w64, All}
use Rattle.lists.proofs.Words.{ints, Decides-int_eq, MatchOption-at_some, All-nil, All-cons}
use Rattle.std.specs.Option.{option_eq}
use Rattle.std.proofs.lemmas.Nat.Bits.{and_pow}
use Rattle.first_refusal.proofs.CheckLaws.{fails_at_once, fails_later}
use Rattle.gds_records.specs.declared.kinds.TheConstants as kind
use Rattle.library_grammar.specs.GrammarNames.{HasValue, Entry, IsFaultOfFirst, ElementCheck, ElementHolds, reference_checks, is_not_magnified, angle_is_not_absolute, turns_by_quarters, field, unsigned_of, HasQuarters, HasAbsoluteAngle}
use Rattle.gds_records.proofs.laws.Reals.{values_agree}
use Rattle.gds_syntax.proofs.CheckLaws.{fault_of}
use Rattle.gds_syntax.specs.inside.Quarters.{AreQuarters, ComesTo, IsAngle}
use Rattle.library_grammar.specs.declared.fault.SyntaxFault.TheVariants.{Magnified, AbsoluteAngle, BadAngle}

-- ---- whole values of reals

-- an answer about a real is 1 exactly where the real is
one_where_value : (body : List ℕ) (r : Option ℤ) (b : Bool) → IfSome r (HasValue body) → IfNone r ((z : ℤ) → FitsSigned w64 z → HasValue body z → ⊥)
    → b ≡ option_eq int_eq r (Some (pos 1)) → IsTrue b ↔ HasValue body (pos 1)
one_where_value body (Some z) b some none e = (
  λ t. subst (HasValue body) ((Decides-int_eq z (pos 1)).0 (sym e ∙ t)) some,
  λ h. e ∙ (Decides-int_eq z (pos 1)).1 (values_agree body z (pos 1) some h),
)
one_where_value body None b some none e = (λ t. cc (sym e ∙ t), λ h. absurd (none (pos 1) (omega arith) h))

pub as_large_where_one : (own : List Entry) (body : List ℕ) (r : Option ℤ) (b : Bool) → Some body ≡ field kind.MAG own → IfSome r (HasValue body)
    → IfNone r ((z : ℤ) → FitsSigned w64 z → HasValue body z → ⊥) → b ≡ option_eq int_eq r (Some (pos 1))
    → IsTrue b ↔ IfSome (field kind.MAG own) (λ body. HasValue body (pos 1))
as_large_where_one own body r b at some none e =
    subst (λ (o : Option (List ℕ)). IsTrue b ↔ IfSome o (λ body. HasValue body (pos 1))) at (one_where_value body r b some none e)

-- ---- the angle

pub no_quarters_of_body : (own : List Entry) (body : List ℕ) (z : ℤ) (r : Option ℕ) → Some body ≡ field kind.ANGLE own → HasValue body z
    → IfNone r ((quarters : ℤ) → AreQuarters z quarters → ⊥) → IfNone r ((degrees quarters : ℤ) → IsAngle own degrees → AreQuarters degrees quarters → ⊥)
no_quarters_of_body own body z (Some n) at value none = tt
no_quarters_of_body own body z None at value none = λ degrees quarters angle are.
    let its : HasValue body degrees = MatchOption-at_some (degrees ≡ pos 0) (λ b. HasValue b degrees) body (sym at) angle in
    none quarters (subst (λ d. AreQuarters d quarters) (values_agree body degrees z its value) are)

pub none_is_no_angle : (own : List Entry) → None ≡ field kind.ANGLE own → IsAngle own (pos 0)
none_is_no_angle own none = subst (λ (o : Option (List ℕ)). MatchOption o (pos 0 ≡ pos 0) (λ body. HasValue body (pos 0))) none refl

quarters_of_angle : (o : Option (List ℕ)) (degrees quarters : ℤ) → MatchOption o (degrees ≡ pos 0) (λ body. HasValue body degrees)
    → degrees ≡ pos 90 *ℤ quarters → MatchOption o (quarters ≡ pos 0) (λ body. HasValue body (pos 90 *ℤ quarters))
quarters_of_angle None degrees quarters angle whole = omega (arith, ints)
quarters_of_angle (Some body) degrees quarters angle whole = subst (HasValue body) whole angle

angle_of_quarters : (o : Option (List ℕ)) (quarters : ℤ) → MatchOption o (quarters ≡ pos 0) (λ body. HasValue body (pos 90 *ℤ quarters))
    → MatchOption o ((pos 90 *ℤ quarters) ≡ pos 0) (λ body. HasValue body (pos 90 *ℤ quarters))
angle_of_quarters None quarters h = omega (arith, ints)
angle_of_quarters (Some body) quarters h = h

-- ---- the checks of a reference

turned_by_quarters : (own : List Entry) (n : ℕ) → (degrees : ℤ) × IsAngle own degrees × ComesTo degrees n
    → (quarters : ℤ) × HasQuarters own quarters × (negsuc 3 ≤ℤ quarters) × (quarters ≤ℤ pos 4)
turned_by_quarters own n (degrees, angle, comes) =
    let are = comes.are_quarters in
    let quarters : ℤ = pos n +ℤ (pos 4 *ℤ comes.circles) in
    (quarters, quarters_of_angle (field kind.ANGLE own) degrees quarters angle are.whole, are.from_back, are.to_front)

module _ (own : List Entry) (strans : ℕ) (is : strans ≡ unsigned_of kind.STRANS own) where
  not_absolute : bit_and strans 2 ≡ 0 → HasAbsoluteAngle own → ⊥
  not_absolute clear set = let e : bit_and strans 2 ≡ strans / 2 % 2 * 2 = and_pow strans 1 in let bit = subst (λ n. n / 2 % 2 ≡ 1) (sym is) set in omega arith

  absolute : (bit_and strans 2 ≡ 0 → ⊥) → HasAbsoluteAngle own
  absolute set = let e : bit_and strans 2 ≡ strans / 2 % 2 * 2 = and_pow strans 1 in subst (λ n. n / 2 % 2 ≡ 1) is (omega arith)

  pub reference_checks_hold : (n : ℕ) → IfSome (field kind.MAG own) (λ body. HasValue body (pos 1)) → bit_and strans 2 ≡ 0
      → (degrees : ℤ) × IsAngle own degrees × ComesTo degrees n → All (ElementHolds own) reference_checks
  reference_checks_hold n large clear angle =
      let Holds : ElementCheck → Type 0 = ElementHolds own in
      All-cons Holds is_not_magnified (angle_is_not_absolute ∷ turns_by_quarters ∷ []) large
      (All-cons Holds angle_is_not_absolute (turns_by_quarters ∷ []) (not_absolute clear)
      (All-cons Holds turns_by_quarters [] (turned_by_quarters own n angle) (All-nil Holds)))

  module _ (at : ℕ) (large : IfSome (field kind.MAG own) (λ body. HasValue body (pos 1))) where
    pub fault_where_absolute : (bit_and strans 2 ≡ 0 → ⊥) → IsFaultOfFirst at own reference_checks (AbsoluteAngle at)
    fault_where_absolute set =
        fault_of at own reference_checks angle_is_not_absolute (fails_later (ElementHolds own) is_not_magnified _ angle_is_not_absolute large
        (fails_at_once (ElementHolds own) angle_is_not_absolute _ (λ not. not (absolute set))))

    pub fault_where_bad : bit_and strans 2 ≡ 0 → ((degrees quarters : ℤ) → IsAngle own degrees → AreQuarters degrees quarters → ⊥)
        → IsFaultOfFirst at own reference_checks (BadAngle at)
    fault_where_bad clear none =
        fault_of at own reference_checks turns_by_quarters (fails_later (ElementHolds own) is_not_magnified _ turns_by_quarters large
        (fails_later (ElementHolds own) angle_is_not_absolute _ turns_by_quarters (not_absolute clear)
        (fails_at_once (ElementHolds own) turns_by_quarters [] (λ (quarters, has, back, front).
        none (pos 90 *ℤ quarters) quarters (angle_of_quarters (field kind.ANGLE own) quarters has) (record { whole = refl; from_back = back; to_front = front })))))

pub fault_where_magnified : (own : List Entry) (at : ℕ) → (IfSome (field kind.MAG own) (λ body. HasValue body (pos 1)) → ⊥)
    → IsFaultOfFirst at own reference_checks (Magnified at)
fault_where_magnified own at not = fault_of at own reference_checks is_not_magnified (fails_at_once (ElementHolds own) is_not_magnified _ not)
