-- paths: from one thing to another, step by step

-- each thing on the way is allowed, and so is each step from one to the next
pub data Path {A : Type 0} (Allowed : A → Type 0) (Step : A → A → Type 0) : A → A → Type 0 where
  stay : {a : A} → Allowed a → Path Allowed Step a a
  step : {a b c : A} → Allowed a → Step a b → Path Allowed Step b c → Path Allowed Step a c
