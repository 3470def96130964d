pub mod CountLemmas
pub mod FieldLemmas
pub mod TextLemmas
pub mod TokenLemmas
