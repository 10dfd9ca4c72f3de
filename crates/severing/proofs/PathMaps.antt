-- paths under maps
use Rattle.paths.specs.Paths.{Path, stay, step}
use Rattle.paths.proofs.PathLaws.{first, append}

-- where a map takes what is allowed to what is allowed, and each step to a path, it takes a path to a path
pub mapped : {A B : Type 0} {V : A → Type 0} {W : B → Type 0} {E : A → A → Type 0} {F : B → B → Type 0} (f : A → B) → ((a : A) → V a → W (f a))
    → ((a b : A) → V a → V b → E a b → Path W F (f a) (f b)) → {a b : A} → Path V E a b → Path W F (f a) (f b)
mapped f allowed steps (stay {a = a} h) = stay (allowed a h)
mapped f allowed steps (step {a = a} {b = b} h e p) = append (steps a b h (first p) e) (mapped f allowed steps p)
