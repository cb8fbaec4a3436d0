-- What the table's numbers tell, and what 01's map says of each byte.
pub mod Meaning
pub mod Views
pub mod map_rows
