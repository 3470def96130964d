-- The definitions of the report of an audit (own), as lines and as a JSON document (RFC 8259).
pub mod Words
pub mod Tried
pub mod Refused
pub mod Readable
pub mod Remarks
pub mod Reports
pub mod Documents
pub mod Counts
pub mod Tokens
