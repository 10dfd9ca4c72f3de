-- the routes that an expansion follows, part by part, row by row and column by column
use Rattle.std.proofs.Common.{ℕ, suc, ◌≡◌, List, [], ◌∷◌, ◌++◌, map, Vec, refl, ap, ◌∙◌}
use Rattle.lists.proofs.Words.{flat_map, Bor, Global, range_with_len, flat_map-append}
use Rattle.std.proofs.lemmas.List.Folds.{flat_map-map}
use Rattle.library_model.specs.Names.{names_of}
use Rattle.library_model.specs.declared.library.Structure.{Structure}
use Rattle.library_model.specs.declared.element.Reference.{Reference}
use Rattle.map_model.specs.MapNames.{LayerMap}
use Rattle.flatten.specs.inside.FollowedParts.{AreNodes, parts_at}
use Rattle.flatten.specs.Steps.{steps_of, steps_in_row, rows_of, columns_of}
use Rattle.flatten.specs.Routes.{behind_step}
use Rattle.flatten.specs.inside.Ends.{node_routes, part_routes, routes_below}
use Rattle.flatten.specs.inside.Expansions.{HaveLayers, copy_routes}
use Rattle.flatten.specs.declared.part.Part.{Part}
use Rattle.flatten.specs.declared.part.Part.TheVariants.{End, Copies}
use Rattle.flatten.proofs.GraphLaws.{is_of_at}
use Rattle.flatten.proofs.PruningLaws.{no_routes}
use Rattle.flatten.proofs.CountLaws.{node_routes-is}

flat_map-flat_map : {X Y Z : Type 0} (g : Y → List Z) (f : X → List Y) (xs : List X) → flat_map g (flat_map f xs) ≡ flat_map (λ x. flat_map g (f x)) xs
flat_map-flat_map g f [] = refl
flat_map-flat_map g f (x ∷ xs) = flat_map-append g (f x) (flat_map f xs) ∙ ap (λ ys. flat_map g (f x) ++ ys) (flat_map-flat_map g f xs)

-- a shape that is a part has its layer
pub have_layers : (structures : List Structure) (layer_map : LayerMap) (nodes : List (Vec Part Global)) → AreNodes (names_of structures) layer_map structures nodes → HaveLayers layer_map nodes
have_layers structures layer_map nodes are_nodes one element layer shape there = is_of_at structures layer_map nodes are_nodes one (End element layer shape) there

module _ (nodes : List (Vec Part Global)) where
  -- the structure's routes, by its parts as they are read
  pub by_parts : (left one : ℕ) (parts : List Part) → parts ≡ parts_at nodes one → node_routes nodes left one ≡ flat_map (part_routes (routes_below nodes left) one) parts
  by_parts left one parts e = rw e (node_routes-is nodes left one)

  -- the copies of a reference, row by row, and those of a row, column by column
  module _ (left target : ℕ) (reference : Reference) where
    pub by_rows : (count : ℕ) → count ≡ rows_of reference.lattice → copy_routes nodes left target (steps_of reference) ≡ flat_map (λ row. copy_routes nodes left target (steps_in_row reference row))
        (range_with_len 0 count)
    by_rows count e = rw e (flat_map-flat_map (λ step. map (behind_step step) (node_routes nodes left target)) (steps_in_row reference) (range_with_len 0 (rows_of reference.lattice)))

    pub by_columns : (count row : ℕ) → count ≡ columns_of reference.lattice → copy_routes nodes left target (steps_in_row reference row)
        ≡ flat_map (λ column. map (behind_step (record { reference = reference; column = column; row = row })) (node_routes nodes left target)) (range_with_len 0 count)
    by_columns count row e =
        rw e (flat_map-map (λ step. map (behind_step step) (node_routes nodes left target)) (λ column. record { reference = reference; column = column; row = row })
        (range_with_len 0 (columns_of reference.lattice)))

  -- a reference has the routes of its copies if a step is left, and else none
  pub by_copies : (all left one target : ℕ) (reference : Bor Reference) → all ≡ suc left → part_routes (routes_below nodes all) one (Copies reference target) ≡ copy_routes nodes left target
      (steps_of reference.now)
  by_copies all left one target reference more = ap (λ n. part_routes (routes_below nodes n) one (Copies reference target)) more

  pub nothing_left : (all one target : ℕ) (reference : Bor Reference) → all ≡ 0 → part_routes (routes_below nodes all) one (Copies reference target) ≡ []
  nothing_left all one target reference none = ap (λ n. part_routes (routes_below nodes n) one (Copies reference target)) none ∙ no_routes (steps_of reference.now)
