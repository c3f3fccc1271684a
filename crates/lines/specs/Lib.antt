-- The lines of a tray run. Read `Lines` first.
pub mod Digits
pub mod Lines
pub mod Page
pub mod Written
