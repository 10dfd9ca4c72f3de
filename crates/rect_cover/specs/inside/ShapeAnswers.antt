-- what was answered for placed shapes
use Rattle.std.specs.Prelude.{List, Vec, Result}
use Rattle.lists.specs.Words.{Global}
use Rattle.first_refusal.specs.Answers.{Answers}
use Rattle.geo_core.specs.declared.plane.Rect.{Rect}
use Rattle.library_model.specs.declared.library.Structure.{Structure}
use Rattle.flatten.specs.declared.placed.Placed.{Placed}
use Rattle.rect_cover.specs.Coverings.{PlacedComesTo, with_items}
use Rattle.rect_cover.specs.declared.fault.CoverFault.{CoverFault}
use Rattle.rect_cover.specs.declared.fault.CoverFault.TheVariants.{Memory}

abbrev pub Answer : Type 0
Answer = Result (Vec Rect Global) CoverFault

-- the answer says what the cover of the shape comes to
abbrev pub IsAnswerFor : List Structure → Placed → Answer → Type 0
IsAnswerFor structures one = Answers Memory (λ outcome. PlacedComesTo structures one (with_items outcome))
