-- what an input comes to where it is read stage by stage

-- a value, with which the reading goes on, or the refusal that ends it
pub data Outcome (V R : Type 0) : Type 0 where
  value : V → Outcome V R
  refused : R → Outcome V R

-- Below, a stage is said by the outcomes that it has.

-- the stage reads a value, or there is none to be read and it refuses
pub data Reads {V R : Type 0} (Is : V → Type 0) (refusal : R) : Outcome V R → Type 0 where
  reads : {v : V} → Is v → Reads Is refusal (value v)
  lacks : ((v : V) → Is v → ⊥) → Reads Is refusal (refused refusal)

-- the stage, with each of its refusals said in other words, as where a fault of a text becomes what is printed for it
pub data Retold {V F R : Type 0} (refusal_of : F → R) (Stage : Outcome V F → Type 0) : Outcome V R → Type 0 where
  kept : {v : V} → Stage (value v) → Retold refusal_of Stage (value v)
  retold : {fault : F} → Stage (refused fault) → Retold refusal_of Stage (refused (refusal_of fault))

-- two stages as one: the first stage's refusal, or what the second comes to on the first's value
pub data Then {V W R : Type 0} (First : Outcome V R → Type 0) (Second : V → Outcome W R → Type 0) : Outcome W R → Type 0 where
  stops : {refusal : R} → First (refused refusal) → Then First Second (refused refusal)
  goes_on : {v : V} {outcome : Outcome W R} → First (value v) → Second v outcome → Then First Second outcome
