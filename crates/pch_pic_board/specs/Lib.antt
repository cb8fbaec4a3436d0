-- What the end of a call asks and promises; the other contracts cite the definitions of boards alone.
pub mod Finished
