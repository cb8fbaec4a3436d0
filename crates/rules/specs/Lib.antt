-- Document 01's rules as definitions, and nothing else: no code, no proof. docs/DEVICE.md tells the same in plain words.
-- Read in this order: basics/specs, what the rules speak in (Numbers, Inputs); here, the device itself; images/specs, its bytes (Form, Image); calls/specs, the
-- exported calls on bytes (Window, Calls, Convert); laws/specs, when they are refused (Wrong, Refusals); sessions/specs, the text of a session and 01's marked dozen (Session, Dozen).
-- A section of 01 is named in each comment by its first words; docs/DEVICE.md has the same headings.
--
-- To read them one needs little beside arithmetic and lists:
--   ℕ is a whole number; a - b stops at 0; a / b and a % b are quotient and remainder, a ^ b a power.
--   [] is the empty list, x ∷ l has x in front, k ++ l is both; take n l, drop n l: its first n, and the rest; getD l i 0: its element i from 0 on, 0 past the end.
--   cond b x y is x where b is true, else y; eqb, leb, ltb are tests, && and || join them; λ x. e is the function that gives e for x; map f l has f of each.
--   A record has named fields, r.field; a data type has the cases that it lists (`deriving Discrete`: two of them can be told apart, `yes` or `no`). `x ≡ y` in a Type says that both are the same.
--   `abbrev` and `unfoldable` say only how a proof opens a definition; to a reader they are the same.
--   A Made is an event as an input makes it; a Turn is what a step leaves of the lines and makes; an Act is one thing that a call does to the device
--   without its ring; a Step is what a whole call gives: the device after, the events made, the events drained; Numbers stand beside the device, of events and not of bytes.
pub mod Lines
pub mod Ring
pub mod Core
pub mod Map
pub mod Access
pub mod Device
pub mod Numbering
pub mod History
pub mod Account
pub mod Copy
