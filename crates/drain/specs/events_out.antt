-- What is promised of the events that come out, in the rules' terms.
pub mod Out
