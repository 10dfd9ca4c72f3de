-- one placed shape
use Rattle.std.proofs.Common.{ℕ, ◌≡◌, ◌↔◌, Bool, true, false, List, [], ◌∷◌, Err, sym, subst, All, IsTrue}
use Rattle.lists.proofs.Words.{All-cons, All-nil, All-weaker}
use Rattle.library_model.specs.declared.element.Shape.{Shape}
use Rattle.first_refusal.proofs.JudgeLaws.{Judges, fails_first}
use Rattle.flatten.specs.Steps.{Step, moved_along}
use Rattle.flatten.specs.Routes.{Route}
use Rattle.flatten.specs.inside.Ends.{route_to}
use Rattle.flatten.specs.Motions.{MovesAlong, image_by}
use Rattle.flatten.specs.Placements.{PlacesInRange}
use Rattle.geo_core.specs.Plane.{IsInRange}
use Rattle.flatten.specs.declared.fault.PlaceFault.{PlaceFault}
use Rattle.flatten.specs.declared.fault.PlaceFault.TheVariants.{OutOfRange}
use Rattle.flatten.specs.declared.motion.Motion.{Motion}

module _ (motion : Motion) (steps : List Step) (structure element : ℕ) (shape : Shape) (moves : MovesAlong motion steps) where
  -- a test that tells whether the shape is in range where the motion moves it tells whether the route places it in range
  module _ (test : Bool) (decides : IsTrue test ↔ All (λ point. IsInRange (image_by motion point)) shape.points) where
    pub beyond : {T : Type 0} {memory : PlaceFault} (Is : T → Type 0) → test ≡ false
        → Judges memory PlacesInRange (route_to steps structure element shape ∷ []) (λ route. OutOfRange route.shape.at) Is (Err (OutOfRange shape.at))
    beyond Is f = fails_first PlacesInRange (λ (one : Route). OutOfRange one.shape.at) Is _ [] (λ places.
        let t : test ≡ true = decides.1 (All-weaker _ (λ point. IsInRange (image_by motion point)) (λ point h. subst IsInRange (sym (moves point)) h) shape.points places) in cc)

    pub within : test ≡ true → All PlacesInRange (route_to steps structure element shape ∷ [])
    within t = All-cons PlacesInRange _ []
        (All-weaker (λ point. IsInRange (image_by motion point)) (λ point. IsInRange (moved_along steps point)) (λ point h. subst IsInRange (moves point) h) shape.points (decides.0 t))
        (All-nil PlacesInRange)
