-- Laws of the definitions, for the code and the theorems that cite them.
--
-- Words and tags.
pub mod Xor
pub mod Words
pub mod Tags
pub mod Signed
pub mod Order
-- The checksum.
pub mod Linear
pub mod Table
pub mod Checksum
-- The walk, the classes of a tag, and the walk back.
pub mod Parts
pub mod Walk
pub mod Classes
pub mod Back
-- What a search finds, and a lookup's answer.
pub mod Searched
-- The erased byte; the room behind a log, and the order of a commit's refusals.
pub mod Erased
pub mod Rooms
pub mod Refusals
-- The rule that a call takes as a number.
pub mod TheRule
-- Which logs are regular: document 01's rule and littlefs's; the slots that a directory is made to reach.
pub mod Growing
pub mod Slots
-- The places of an index.
pub mod Places
