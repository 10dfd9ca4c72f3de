-- texts that tell which regions are asked for
use Rattle.std.specs.Prelude.{ℕ, ◌++◌, ◌≡◌, codes}
use Rattle.map_model.specs.LayerNames.{IsLayerName}
use Rattle.questions.specs.KindTexts.{kind_text}
use Rattle.questions.specs.declared.kind.Kind.{Kind}
use Rattle.command_line.specs.CellTexts.{HasNoComma}
use Rattle.command_line.specs.Numbers.{IsNumber}
use Rattle.command_line.specs.OptionNames.{Text}

-- the text is the word for the kind, a comma, the name of the layer, a comma, and the number of the size: from 1 to 32
pub record IsRegionText (text : Text) (kind : Kind) (layer : Text) (size : ℕ) : Type 0 where
  pub digits : Text
  pub whole : text ≡ kind_text kind ++ codes "," ++ layer ++ codes "," ++ digits
  pub is_layer : IsLayerName layer
  pub is_size : IsNumber 1 32 digits size

-- the text has two commas, which stand between these three parts
pub record HasThreeParts (text first second third : Text) : Type 0 where
  pub whole : text ≡ first ++ codes "," ++ second ++ codes "," ++ third
  pub none_in_first : HasNoComma first
  pub none_in_second : HasNoComma second
  pub none_in_third : HasNoComma third
