-- what a reader that came to its end has read
pub mod Readers
pub mod Fine
-- what was read is accepted in memory
pub mod Accepting
-- which cells judge a file
pub mod Saying
-- what each of its functions hands on
pub mod Opening
