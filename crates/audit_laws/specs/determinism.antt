pub mod StableInput
pub mod LoadedAnswers
pub mod Contexts
pub mod ContextViews
pub mod Laws
