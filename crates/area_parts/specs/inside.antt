pub mod LayoutBounds
