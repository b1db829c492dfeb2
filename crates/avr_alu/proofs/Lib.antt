pub mod Agreeing
pub mod StatusBits
pub mod StatusTables
pub mod Borrows
pub mod SumCarries
pub mod DifferenceCarries
pub mod SignedProducts
pub mod MixedProducts
