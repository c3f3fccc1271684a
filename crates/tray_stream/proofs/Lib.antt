-- The mathematics of a tray run of standard input: what `stream` says of every steady course.
--     WholeLaws    what a whole run has printed, and what no run leaves
--     ReachLaws    how far the contract reaches
pub mod WholeLaws
pub mod ReachLaws
