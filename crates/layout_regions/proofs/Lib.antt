pub mod RectLaws
pub mod PieceFaults
pub mod CutFaults
pub mod CountedFaults
