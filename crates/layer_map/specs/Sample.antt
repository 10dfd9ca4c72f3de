-- a sample: a text, and the layer map that it is to give
use Rattle.std.specs.Prelude.{ℕ, pos, false, List, [], ◌∷◌, codes}
use Rattle.map_model.specs.MapNames.{LayerMap, weighed_size}
use Rattle.map_model.specs.declared.measure.Measure.TheVariants.{Radius}

-- two metals, one cut between them, two radii, and one terminal
abbrev pub sample_text : List ℕ
sample_text =
    codes "version = 1\nradii = [2, 5]\nweights = [10, 1]\n[[metal]]\nname = \"m1\"\npairs = [[1, 0], [1, 20]]\n[[metal]]\nname = \"m2\"\npairs = [[3, 0]]\n[[cut]]\nname = \"v1\"\npairs = [[2, 0]]\nlower = \"m1\"\nupper = \"m2\"\n[[terminal]]\nmetal = \"m1\"\nx = 0\ny = 0\n"

-- the same as a layer map
abbrev pub sample_map : LayerMap
sample_map = record {
  metals = record { name = codes "m1"; pairs = (1, 0) ∷ (1, 20) ∷ [] } ∷ record { name = codes "m2"; pairs = (3, 0) ∷ [] } ∷ [];
  cuts = record { mapped = record { name = codes "v1"; pairs = (2, 0) ∷ [] }; lower = 0; upper = 1 } ∷ [];
  measure = Radius;
  sizes = weighed_size (2, 10) ∷ weighed_size (5, 1) ∷ [];
  terminals = (0, record { i = pos 0; j = pos 0 }) ∷ [];
  contacts = false;
}
