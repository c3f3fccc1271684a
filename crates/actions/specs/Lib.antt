-- The library's actions on a terminal. To be read: `Actions`.
--     Actions    each action, refusals included
--     AsCoded    how the code is cut
pub mod Actions
pub mod AsCoded
