-- The terminal of document 01, in its order; its open message is in the crate `message`. Lay it
-- beside the paper, file by file.
--     State          what is held, a setter for each field, setup
--     Opening        what an opening does
--     Closing        closing, faults, and the sound end
--     Reply          what a reply puts on the bus: status, then words
--     Event          what happens to the terminal, and what comes of it
--     Row            data words that are stored, one or a row of them
--     WordStep       what rules 1 to 8 decide is done
--     SilenceStep    what silence decides is done
--     Machine        one step for each event, and a run
--     Fitness        refusal 4: which states are fit
pub mod State
pub mod Opening
pub mod Closing
pub mod Reply
pub mod Event
pub mod Row
pub mod WordStep
pub mod SilenceStep
pub mod Machine
pub mod Fitness
