-- What a run leaves, as text.
--     State    the lines of the terminal's state
pub mod State
