pub mod RoleLemmas
pub mod FrameLemmas
pub mod StateLemmas
