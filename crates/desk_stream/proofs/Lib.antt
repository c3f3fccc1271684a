-- The mathematics of a controller's run of standard input.
--     ShiftedLaws    what is met at a place is met at the front of the bytes from there on
--     BehindLaws     bytes behind change nothing that is settled
--     SteadyLaws     the course of a run is steady
--     WholeLaws      what a whole run has printed
pub mod ShiftedLaws
pub mod BehindLaws
pub mod SteadyLaws
pub mod WholeLaws
