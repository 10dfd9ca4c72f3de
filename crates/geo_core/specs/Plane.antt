-- Names that are cited together, passed on from one place.
pub use Rattle.geo_core.specs.Axes.{low_along, high_along}
pub use Rattle.geo_core.specs.Bounds.{IsInRange, IsRadius}
pub use Rattle.geo_core.specs.Cells.{IsInLayout, Has, ComesNear, IsJoin, Overlap, Touch, ShareEdge, IsNear}
pub use Rattle.geo_core.specs.Circuits.{IsClosed, IsOutline, circuit}
pub use Rattle.geo_core.specs.Intervals.{IsIn, IsInterval, Adjoins, ComesWithin, IntervalsOverlap, IntervalsTouch, IsPartOf, IsIntervalJoin}
pub use Rattle.geo_core.specs.Turns.{mirror_image, quarter_turn, quarter_turns, image_under}
pub use Rattle.geo_core.specs.Unions.{IsCoveredIn, IsInUnion, HasNumber}
