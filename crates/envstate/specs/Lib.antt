pub mod paths
pub mod stacks
pub mod loaded_list
pub mod Roles
pub mod Frames
pub mod EnvLaws
