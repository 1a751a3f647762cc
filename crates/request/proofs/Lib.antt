-- What the code computes, case by case.
pub mod Recorded
pub mod Earliest
pub mod Repeated
pub mod Cases
pub mod Readings
-- Bytes and records, there and back.
pub mod Marks
pub mod Records
pub mod Laid
-- The answers.
pub mod Tests
pub mod Stage
pub mod Ranked
pub mod Faults
pub mod Unread
pub mod Judged
-- Records and requests, there and back.
pub mod Mapped
pub mod Sides
pub mod Clean
-- What is promised of reading, what it gives, and samples.
pub mod Answered
pub mod Stored
pub mod Loading
pub mod Computed
pub mod Samples
