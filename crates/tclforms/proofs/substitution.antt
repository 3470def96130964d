pub mod Leading
pub mod Scalars
pub mod Trees
pub mod AtHand
