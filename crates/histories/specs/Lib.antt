-- Demand 3 as definitions, over the rules': what it asks of calls of the device one after another; chains of whatever calls. Module `exported` has which exported calls are a history.
pub mod Chains
pub mod Premises
pub mod Demands
pub mod exported
