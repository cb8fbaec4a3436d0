-- What is proved of calls under the hoist profile.
pub mod demands
