-- Every message ends, whatever its commands ask: three turns are enough. Read `Every` first.
--     Stages       the commands that a terminal may have open, and the stages of their messages
--     Met          what decisions on words, and data words, make of that
--     Heard        what is open behind the words given
--     Awaited      what is open behind a reply that was awaited
--     Silence      what the silence leaves, and what is said then
--     Station      a terminal keeps its station
--     Proper       replies whose status has the address of the one who says them
--     Few          how many replies a turn brings
--     Turn         a terminal behind a turn that leaves nothing open
--     First        .. behind one command, and behind two of which the first is illegal
--     Waits        .. behind two of which the first is legal: it may await another's status
--     Second       .. and behind the turn that follows
--     Comes        turns that come to an end
--     Settled      all terminals idle: the replies that wait are said, and that is the end
--     AllSettle    the words given leave all idle
--     SomeWait     they leave some waiting
--     Every        every order ends
--     Message      every message that starts ends
pub mod Stages
pub mod Met
pub mod Heard
pub mod Awaited
pub mod Silence
pub mod Station
pub mod Proper
pub mod Few
pub mod Turn
pub mod First
pub mod Waits
pub mod Second
pub mod Comes
pub mod Settled
pub mod AllSettle
pub mod SomeWait
pub mod Every
pub mod Message
