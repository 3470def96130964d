pub mod Bytes
pub mod Printed
pub mod Reader
pub mod Together
pub mod Values
