-- paths compose and lead back
use Rattle.std.proofs.Common.{◌≡◌, refl, sym, subst, ◌∙◌, inl, inr, ◌⊎◌}
use Rattle.paths.specs.Paths.{Path, stay, step}

module _ {A : Type 0} {V : A → Type 0} {E : A → A → Type 0} where
  pub first : {a b : A} → Path V E a b → V a
  first (stay h) = h
  first (step h e p) = h

  pub last : {a b : A} → Path V E a b → V b
  last (stay h) = h
  last (step h e p) = last p

  pub append : {a b c : A} → Path V E a b → Path V E b c → Path V E a c
  append (stay h) q = q
  append (step h e p) q = step h e (append p q)

  pub reverse : ((a b : A) → E a b → E b a) → {a b : A} → Path V E a b → Path V E b a
  reverse back (stay h) = stay h
  reverse back (step {a = a} {b = b} h e p) = append (reverse back p) (step (first p) (back a b e) (stay h))

  -- what each step keeps, the path keeps
  pub kept : {B : Type 0} (f : A → B) → ((a b : A) → V a → E a b → f a ≡ f b) → {a b : A} → Path V E a b → f a ≡ f b
  kept f keep (stay h) = refl
  kept f keep (step {a = a} {b = b} h e p) = keep a b h e ∙ kept f keep p

-- what is in the one set is in the other
pub within : {A : Type 0} {V W : A → Type 0} {E : A → A → Type 0} {a b : A} → ((x : A) → V x → W x) → Path V E a b → Path W E a b
within {a = a} f (stay h) = stay (f a h)
within {a = a} f (step h e p) = step (f a h) e (within f p)

-- where each step is a step under other words, or none at all, so is the path
pub retold : {A : Type 0} {V : A → Type 0} {E F : A → A → Type 0} → ((a b : A) → V a → V b → E a b → (a ≡ b) ⊎ F a b) → {a b : A} → Path V E a b → Path V F a b
retold f (stay h) = stay h
retold {A = A} {V = V} {F = F} f (step {a = a} {b = b} {c = c} h e p) = elim (f a b h (first p) e) [ inl same ↦ subst (λ x. Path V F x c) (sym same) (retold f p) | inr d ↦ step h d (retold f p) ]

-- a path keeps to the one set, or it goes over a thing of the other
pub within_or_over : {A : Type 0} {V W X : A → Type 0} {E : A → A → Type 0} {a b : A} → ((x : A) → W x ⊎ X x) → Path V E a b → Path (λ x. V x × W x) E a b ⊎ ((x : A) × V x × X x)
within_or_over {a = a} is (stay h) = elim (is a) [ inl w ↦ inl (stay (h, w)) | inr o ↦ inr (a, h, o) ]
within_or_over {a = a} is (step h e p) = elim (is a) [
  | inl w ↦ elim (within_or_over is p) [ inl q ↦ inl (step (h, w) e q) | inr over ↦ inr over ]
  | inr o ↦ inr (a, h, o)
]
