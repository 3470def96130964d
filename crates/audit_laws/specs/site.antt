pub mod Sites
pub mod Standings
pub mod Admitted
pub mod Extended
pub mod Laws
pub mod DirectorySets
