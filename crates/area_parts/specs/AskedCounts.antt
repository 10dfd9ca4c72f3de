-- what is counted for questions over parts, whatever map and layout they come of
use Rattle.std.specs.Prelude.{ℕ, List, [], length, slice_index_or, ◌+◌, ◌-◌, ◌/◌}
use Rattle.lists.specs.Words.{AllZip}
use Rattle.geo_core.specs.declared.plane.Cell.{Cell}
use Rattle.fault_model.specs.FaultNames.{Tally}
use Rattle.questions.specs.declared.kind.Kind.{Kind}
use Rattle.questions.specs.declared.kind.Kind.TheVariants.{Short, Open, Via}
use Rattle.questions.specs.Questions.{side_of}
use Rattle.questions.specs.declared.question.Question.{Question}
use Rattle.severing.specs.Severing.{IsSomeOpen}
use Rattle.short_area.specs.Labels.{TouchesTwoLabels}
use Rattle.via_clusters.specs.Blocks.{CoversSomeBox}
use Rattle.area_parts.specs.declared.parts.Parts.{Parts}

-- a defect of this side at the cell touches pieces of two labels of the metal with this number, parts two anchors of one of its
-- islands, or covers one of the boxes of the cut with this number; the numbers of cuts go on behind those of the metals. The
-- side touches what half of it, rounded down, touches as a radius, and covers what half of it, rounded up, covers. Side 1 has one
-- cell, which two nets do not share, so it is counted as touching none.
abbrev pub IsCountedAs : Kind → Parts → ℕ → ℕ → Cell → Type 0
IsCountedAs Short parts number side = TouchesTwoLabels (slice_index_or parts.metals number []) (side / 2)
IsCountedAs Open parts number side = IsSomeOpen (slice_index_or parts.islands number []) side
IsCountedAs Via parts number side = CoversSomeBox (slice_index_or parts.cuts (number - length parts.metals) []) ((side + 1) / 2)

-- a defect as the question names it does so
abbrev pub IsCounted : Parts → Question → Cell → Type 0
IsCounted parts question = IsCountedAs question.kind parts question.number (side_of question)

-- one number for each question, in order: at how many of the cells this is so
abbrev pub AreCounted : Parts → List Cell → List Question → List ℕ → Type 0
AreCounted parts cells = AllZip (λ question. Tally (IsCounted parts question) cells)
