-- What the rules speak in, before anything of the device: a number as its bytes, and a register as a set of inputs. The reader's guide stands in rules/specs/Lib.antt.
pub mod Numbers
pub mod Inputs
pub mod Lists
