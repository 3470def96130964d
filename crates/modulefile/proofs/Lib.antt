pub mod Effected
pub mod Moved
pub mod Bound
mod CutLemmas
mod FileEnds
mod OneFile
pub mod HasEffects
mod WholeFiles
mod Showing
mod PlayedFiles
mod PlainFiles
mod AnsweredFiles
mod ComputedFiles
