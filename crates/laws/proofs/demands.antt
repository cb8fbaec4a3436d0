-- What was asked for in prose of an image, as theorems over the definitions alone.
pub mod RoundTrip
pub mod Broken
pub mod FormNumbers
pub mod Found
pub mod ByNumber
pub mod OthersByNumber
pub mod Convert
