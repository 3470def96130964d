pub mod StackLemmas
pub mod StackReading
pub mod StackEdits
pub mod StackAgain
pub mod StackAfter
pub mod StackInOrder
