pub mod ClassesKeep
pub mod ClassesResolve
pub mod ClassesSets
pub mod ClassesTypes
