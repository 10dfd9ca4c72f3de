pub mod FoundRects
