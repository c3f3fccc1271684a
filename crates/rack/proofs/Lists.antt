-- Terminals in a list.
--     Each       what holds of each, and a turn of all
--     Speaker    the one of them that replies
--     Rising     replies go out by rising station
pub mod Each
pub mod Speaker
pub mod Rising
