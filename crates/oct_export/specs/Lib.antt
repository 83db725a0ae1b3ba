pub mod Bands
pub mod Grids
pub mod Boxes
pub mod BoxTexts
pub mod Pushed
