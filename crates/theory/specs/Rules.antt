-- The writer's rules: an entry that passes its rule; the item made of it; entries of no slot; fetch's count by them;
-- entries judged good.
pub mod RuledEntry
pub mod MadeItem
pub mod LooseEntry
pub mod FetchCount
pub mod JudgedEntries
