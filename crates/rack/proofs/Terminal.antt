-- What a terminal makes of the turns of a message: laws about one card alone. Read `Took` first.
--     Took           what a command that it takes leaves, and the wait for the other's status
--     Own            which commands are own: those to its station, and those to all
--     Hear           a turn is a run: what stays after every run stays after a turn
--     Quiet          nothing own in a turn: the terminal is as before, and silent
--     Sent           the words that a reply sends, cell by cell
--     Taken          data words are taken, and the silence behind them is the end
--     Said           what is said at the end
--     Ended          what words and the silence leave, for every command
--     Opened         an own command opens, and what the end of its message leaves
--     OneCommand     a command that is given alone
--     Kinds          the kinds of command beside their tests
--     Beside         a command beside its row of the table of formats
--     Columns        the orders of the table beside what their commands ask
--     Second         the second command of a transfer, taken, or opened in place of a broadcast
--     Awaited        the status that is awaited then, and the words behind it
--     Transmitter    the transmitter of a transfer at the two commands
--     Receiver       the receiver there
--     BothEnds       the two ends of a transfer
pub mod Took
pub mod Own
pub mod Hear
pub mod Quiet
pub mod Sent
pub mod Taken
pub mod Said
pub mod Ended
pub mod Opened
pub mod OneCommand
pub mod Kinds
pub mod Beside
pub mod Columns
pub mod Second
pub mod Awaited
pub mod Transmitter
pub mod Receiver
pub mod BothEnds
