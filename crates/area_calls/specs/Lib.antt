pub mod OnPieces
