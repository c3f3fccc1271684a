-- That both ends hold the same, with one thing less asked or one exception fewer: each such claim
-- is false, by a message that the checker computes.
--     Claim        the claim, by what is asked; with all of it, it is the theorem
--     Starts       the message may not start
--     Commands     X, the row, "transmit last command"
--     Transfers    the two commands of a transfer
--     Stations     the stations on the bus
--     Rest         idle terminals
--     Readiness    busy, the table, a shut line
--     Changes      the cells that may change
mod Claim
mod Starts
mod Commands
mod Transfers
mod Stations
mod Rest
mod Readiness
mod Changes
