-- Messages over the joined bus as data.
--     Formats    one of each format code, and what is seen behind it
pub mod Formats
