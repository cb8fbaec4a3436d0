-- What the functions of this module find, in the terms of salvages.
pub mod Found
