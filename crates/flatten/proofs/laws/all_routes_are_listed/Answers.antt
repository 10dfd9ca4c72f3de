use Rattle.flatten.proofs.laws.Routes.{routes_are_listed}
use Rattle.flatten.proofs.laws.all_routes_are_listed.Goals as goal

pub returns : goal.returns
returns c = routes_are_listed
