-- The contracts cite the definitions of salvages alone.
pub mod torn
pub mod rebuilt
pub mod salvage
