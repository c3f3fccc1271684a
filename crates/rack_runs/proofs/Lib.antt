-- Messages over the joined bus at work, by computation: instances, runs, and claims that ask less,
-- refuted. Read `Telling` first, then `Formats`.
--     Machine       one name to unfold the whole bus
--     Telling       what racks are told with: stations 5 and 9, a controller, stamps
--     Having        what is asked of a start and of a terminal, from tests that compute
--     Ready         stations 5 and 9 are idle and ready
--     Tests         what is asked of a list of terminals, from tests that compute
--     Formats       a message of each of the ten format codes carries the same words
--     Asked         what is asked of a message can be had, for each of the ten
--     Runs          a chain of three messages, and how a run stops
--     AskedRun      what is asked of a run can be had
--     Replies       several replies to one silence, and a reply behind the controller's end
--     Broadcasts    a terminal whose broadcast is not enabled is no end of a broadcast
--     Less          with one thing less asked the theorem is false
pub mod Machine
pub mod Telling
pub mod Having
pub mod Ready
pub mod Tests
mod Formats
mod Asked
mod Runs
mod AskedRun
mod Replies
mod Broadcasts
mod Less
