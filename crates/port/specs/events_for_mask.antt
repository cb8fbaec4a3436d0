-- What a function that offers events promises.
pub mod Offers
