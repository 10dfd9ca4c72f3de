-- what the answer for many shapes says: a list for each, or the first fault
use Rattle.std.proofs.Common.{Global, ◌≢◌, refl, List, Vec, Ok, Err}
use Rattle.lists.proofs.Words.{AllZip}
use Rattle.first_refusal.specs.Answers.{Answers, gives, refuses, no_memory}
use Rattle.first_refusal.specs.Outcomes.{value}
use Rattle.geo_core.specs.declared.plane.Rect.{Rect}
use Rattle.library_model.specs.declared.library.Structure.{Structure}
use Rattle.flatten.specs.declared.placed.Placed.{Placed}
use Rattle.rect_cover.specs.declared.fault.CoverFault.{CoverFault}
use Rattle.rect_cover.specs.declared.fault.CoverFault.TheVariants.{Memory}
use Rattle.rect_cover.specs.Coverings.{AllComeTo, all_covered, one_refused, IsFirstCoverFault, PlacedComesTo, with_items}

module _ (structures : List Structure) where
  pub lists_given : (placed : List Placed) (lists : Vec (List Rect) Global) → Answers Memory (λ outcome. AllComeTo structures placed (with_items outcome)) (Ok lists)
      → AllZip (λ one list. PlacedComesTo structures one (value list)) placed lists.items
  lists_given placed lists (gives (all_covered listed)) = listed

  pub first_fault : (placed : List Placed) (fault : CoverFault) → Answers Memory (λ outcome. AllComeTo structures placed (with_items outcome)) (Err fault) → fault ≢ Memory
      → IsFirstCoverFault structures placed fault
  first_fault placed fault (refuses (one_refused first)) known = first
  first_fault placed fault no_memory known = absurd (known refl)
