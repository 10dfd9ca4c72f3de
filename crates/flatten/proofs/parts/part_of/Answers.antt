use Rattle.std.proofs.Common.{[], ◌≡◌, Some, refl, sym}
use Rattle.first_refusal.proofs.CheckLaws.{fails_at_once}
use Rattle.map_model.specs.MapNames.{layer_map_of}
use Rattle.flatten.specs.inside.FollowedParts.{IsKnown, no_more, passed_over, ends_there, goes_on}
use Rattle.flatten.proofs.LayerLaws.{is_mapped-none}
use Rattle.flatten.proofs.parts.part_of.Goals as goal
use Rattle.flatten.proofs.parts.part_of.Goals.{in-None, in-Some}

pub returns-after-layer_of-clause-part : goal.returns-after-layer_of-clause-part
returns-after-layer_of-clause-part c =
    elim c.match-layer_of.branch [
      | in-None w ↦
          let unmapped = is_mapped-none (layer_map_of c.args.map.now) c.in-Shape.shape
          (λ number has. let some : c.layer_of.result ≡ Some number = (c.layer_of.ensures number).1 has in cc w.in-None.is) in
          rw (c.in-Shape.is, w.result-is) (passed_over unmapped no_more)
      | in-Some w ↦ rw (c.in-Shape.is, w.result-is) (ends_there ((c.layer_of.ensures w.in-Some.layer).0 w.in-Some.is) no_more)
    ]

pub returns-in-None-find-clause-unknown : goal.returns-in-None-find-clause-unknown
returns-in-None-find-clause-unknown c =
    let none = rw (c.in-None-find.is, c.as_slice.ensures) at c.find.ensures.place in
    rw c.in-Reference.is (record {
      check = c.in-Reference.reference;
      is_first = fails_at_once (IsKnown c.args.index.now) c.in-Reference.reference [] (λ known. let no = rw (← none) at known in cc no);
      is_its_refusal = refl;
    })

pub returns-in-Some-find-clause-part : goal.returns-in-Some-find-clause-part
returns-in-Some-find-clause-part c = rw c.in-Reference.is (goes_on (sym (rw (c.in-Some-find.is, c.as_slice.ensures) at c.find.ensures.place)) no_more)
