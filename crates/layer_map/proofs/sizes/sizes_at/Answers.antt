use Rattle.std.proofs.Common.{ap, ◌∙◌}
use Rattle.toml.specs.Data.{get_member}
use Rattle.toml.specs.View.{table_view}
use Rattle.layer_map.specs.DocumentSizes.{sizes_key}
use Rattle.layer_map.proofs.sizes.sizes_at.Goals as goal

pub returns-in-Radius : goal.returns-in-Radius
returns-in-Radius c = c.value_at.ensures ∙ ap (λ measure. get_member (sizes_key measure) (table_view c.args.document.now)) c.in-Radius.ensures

pub returns-in-Side : goal.returns-in-Side
returns-in-Side c = c.value_at-in-Side.ensures ∙ ap (λ measure. get_member (sizes_key measure) (table_view c.args.document.now)) c.in-Side.ensures
