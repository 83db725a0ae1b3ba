pub mod Decimal
pub mod Sign
pub mod Form
pub mod Metres
pub mod MetresText
pub mod Whole
pub mod Rounding
