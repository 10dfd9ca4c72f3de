-- parts: what has its things joined by paths, and links from part to part
use Rattle.std.specs.Prelude.{◌≡◌, ◌⊎◌}
use Rattle.paths.specs.Paths.{Path}

-- two parts have a thing in common, or a step leads from a thing of the one to a thing of the other
abbrev pub AreJoint : {A I : Type 0} → (A → A → Type 0) → (I → A → Type 0) → I → I → Type 0
AreJoint {A} Step Holds i j = (p q : A) × Holds i p × Holds j q × ((p ≡ q) ⊎ Step p q)

-- paths join the things of a part, no step leads out of all parts, and links lead between the joint ones
pub record AreLinkedParts {A I : Type 0} (Allowed : A → Type 0) (Step : A → A → Type 0)
    (IsPart : I → Type 0) (Link : I → I → Type 0) (Holds : I → A → Type 0) : Type 0 where
  pub is_part : (i : I) (p : A) → Holds i p → IsPart i
  pub whole : (i : I) (p q : A) → Holds i p → Holds i q → Path Allowed Step p q
  pub closed : (i : I) (p q : A) → Holds i p → Step p q → Allowed q → (j : I) × Holds j q
  pub joint : (i j : I) → Link i j → AreJoint Step Holds i j
  pub linked : (i j : I) → AreJoint Step Holds i j → (i ≡ j) ⊎ Link i j
