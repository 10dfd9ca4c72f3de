-- stages, one after the other
use Rattle.std.proofs.Common.{◌≡◌, refl, ap, subst}
use Rattle.std.specs.Prelude.{Option, Some, None, IsSomeAnd}
use Rattle.first_refusal.specs.Outcomes.{Outcome, value, refused, Reads, reads, lacks, Retold, kept, retold, Then, stops, goes_on}
use Rattle.first_refusal.specs.Laws.{IsUnique, CannotLack}

module _ {V R : Type 0} (Is : V → Type 0) (refusal : R) where
  pub readings_agree : IsUnique Is → IsUnique (Reads Is refusal)
  readings_agree alone (value v) (value w) (reads p) (reads q) = ap value (alone v w p q)
  readings_agree alone (value v) (refused r) (reads p) (lacks none) = absurd (none v p)
  readings_agree alone (refused r) (value v) (lacks none) (reads p) = absurd (none v p)
  readings_agree alone (refused r) (refused s) (lacks none) (lacks also) = refl

  pub reading_cannot_lack : CannotLack (Reads Is refusal)
  reading_cannot_lack none = none (refused refusal) (lacks (λ v p. none (value v) (reads p)))

module _ {V F R : Type 0} (refusal_of : F → R) (Stage : Outcome V F → Type 0) where
  pub retold_agree : IsUnique Stage → IsUnique (Retold refusal_of Stage)
  retold_agree one (value v) (value w) (kept a) (kept b) = let same : v ≡ w = cc (one (value v) (value w) a b) in ap value same
  retold_agree one (value v) (refused r) (kept a) (retold {fault = f} b) = cc (one (value v) (refused f) a b)
  retold_agree one (refused r) (value v) (retold {fault = f} a) (kept b) = cc (one (refused f) (value v) a b)
  retold_agree one (refused r) (refused s) (retold {fault = f} a) (retold {fault = g} b) =
      let same : f ≡ g = cc (one (refused f) (refused g) a b) in ap (λ x. refused (refusal_of x)) same

  pub retold_cannot_lack : CannotLack Stage → CannotLack (Retold refusal_of Stage)
  retold_cannot_lack some none = some (none_of_stage none) where
    none_of_stage : ((outcome : Outcome V R) → Retold refusal_of Stage outcome → ⊥) → (outcome : Outcome V F) → Stage outcome → ⊥
    none_of_stage none (value v) a = none (value v) (kept a)
    none_of_stage none (refused f) a = none (refused (refusal_of f)) (retold a)

module _ {V W R : Type 0} (First : Outcome V R → Type 0) (Second : V → Outcome W R → Type 0) where
  -- the first stage comes to one thing, so both refuse there or both go on with one value
  pub stages_agree : IsUnique First → ((v : V) → IsUnique (Second v)) → IsUnique (Then First Second)
  stages_agree one each (refused r) (refused s) (stops a) (stops b) = let same : r ≡ s = cc (one (refused r) (refused s) a b) in ap refused same
  stages_agree one each (refused r) other (stops a) (goes_on {v = v} b m) = cc (one (refused r) (value v) a b)
  stages_agree one each other (refused r) (goes_on {v = v} b m) (stops a) = cc (one (refused r) (value v) a b)
  stages_agree one each x y (goes_on {v = v} a m) (goes_on {v = w} b n) =
      let same : v ≡ w = cc (one (value v) (value w) a b) in
      each w x y (subst (λ z. Second z x) same m) n

  pub stages_cannot_lack : CannotLack First → ((v : V) → First (value v) → CannotLack (Second v)) → CannotLack (Then First Second)
  stages_cannot_lack some each none = some (none_of_first none) where
    none_of_first : ((outcome : Outcome W R) → Then First Second outcome → ⊥) → (outcome : Outcome V R) → First outcome → ⊥
    none_of_first none (value v) a = each v a (λ outcome m. none outcome (goes_on a m))
    none_of_first none (refused r) a = none (refused r) (stops a)

-- a stage on a text that may be missing has one outcome at most where it has on each text
pub texts_agree : {T V R : Type 0} (Stage : T → Outcome V R → Type 0) → ((t : T) → IsUnique (Stage t)) → (text : Option T) → IsUnique (λ outcome. IsSomeAnd text (λ t. Stage t outcome))
texts_agree Stage each (Some t) one other a b = each t one other a b
texts_agree Stage each None one other a b = absurd a
