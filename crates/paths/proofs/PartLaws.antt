-- things are joined exactly where parts that hold them are chained by links
use Rattle.std.proofs.Common.{◌≡◌, ◌↔◌, refl, subst, sym, inl, inr, ◌⊎◌}
use Rattle.paths.specs.Paths.{Path, stay, step}
use Rattle.paths.specs.Parts.{AreLinkedParts}
use Rattle.paths.proofs.PathLaws.{first, append}

module _ {A I : Type 0} {V : A → Type 0} {E : A → A → Type 0} {N : I → Type 0} {L : I → I → Type 0} {H : I → A → Type 0} (parts : AreLinkedParts V E N L H) where
  -- a chain begins with one part more, or with the same one
  onward : {i j k : I} → N i → (i ≡ j) ⊎ L i j → Path N L j k → Path N L i k
  onward {k = k} part (inl same) c = subst (λ x. Path N L x k) (sym same) c
  onward part (inr link) c = step part link c

  pub chain_from_path : (i k : I) (p q : A) → H i p → H k q → Path V E p q → Path N L i k
  chain_from_path i k p q p_in q_in (stay h) = onward (parts.is_part i p p_in) (parts.linked i k (p, p, p_in, q_in, inl refl)) (stay (parts.is_part k p q_in))
  chain_from_path i k p q p_in q_in (step {b = b} h e w) =
      let next = parts.closed i p b p_in e (first w) in
      onward (parts.is_part i p p_in) (parts.linked i next.0 (p, b, p_in, next.1, inr e)) (chain_from_path next.0 k b q next.1 q_in w)

  pub path_from_chain : (i k : I) (p q : A) → H i p → H k q → Path N L i k → Path V E p q
  path_from_chain i k p q p_in q_in (stay h) = parts.whole i p q p_in q_in
  path_from_chain i k p q p_in q_in (step {b = j} h link c) =
      let over = parts.joint i j link in
      append (parts.whole i p over.0 p_in over.2) (elim over.4 [
        | inl same ↦ path_from_chain j k over.0 q (subst (H j) (sym same) over.3) q_in c
        | inr e ↦ step (first (parts.whole i over.0 over.0 over.2 over.2)) e (path_from_chain j k over.1 q over.3 q_in c)
      ])

  pub joined_as_chained : (i k : I) (p q : A) → H i p → H k q → Path V E p q ↔ Path N L i k
  joined_as_chained i k p q p_in q_in = (chain_from_path i k p q p_in q_in, path_from_chain i k p q p_in q_in)
