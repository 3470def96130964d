pub mod Stacks
pub mod StackTexts
pub mod StackVariables
pub mod StackOrder
pub mod StackRuns
pub mod StackLaws
pub mod StackItems
