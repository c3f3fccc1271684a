-- What a controller's run leaves, as text.
--     State    the lines of the controller's state
pub mod State
