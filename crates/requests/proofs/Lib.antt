pub mod Bound
mod OneStep
mod SomeFound
mod SomeStep
mod MadeByMoves
mod Reporting
mod SessionMoves
pub mod Undone
mod Returned
pub mod FoundText
mod FirstPart
mod Origins
pub mod PlainMoves
mod Judging
mod JudgedMoves
pub mod ListLemmas
pub mod ReportLemmas
pub mod AvailLemmas
