pub mod Cuts
pub mod LinePieces
pub mod LinesLeft
