pub mod Accounting
pub mod Asking
pub mod Covering
pub mod Excluding
pub mod LookingInto
pub mod Reading
