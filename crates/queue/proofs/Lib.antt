-- The mathematics of the queue.
--     QueueLaws     joining and reading on each way that the code takes; the scan for fitness
--     FitLaws       a fit queue stays fit
--     Determined    each public contract allows one outcome alone
pub mod QueueLaws
pub mod FitLaws
pub mod Determined
