pub mod PathCorners
pub mod PieceBoxes
pub mod ShapeAnswers
