use Rattle.layer_map.proofs.VersionLaws.{version_found}
use Rattle.layer_map.proofs.sizes.is_version.Goals as goal

pub returns-in-Some : goal.returns-in-Some
returns-in-Some c =
    let found = version_found _ _ c.whole_in.ensures in
    rw (c.is_some.ensures, c.in-Some.is) found
