pub mod LoadLemmas
pub mod UnloadLemmas
pub mod AnswerLemmas
pub mod FindLemmas
pub mod FinalLemmas
pub mod PlanLemmas
pub mod ResultLemmas
pub mod SaidLemmas
