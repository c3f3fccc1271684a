-- What holds of every steady course, its windows and its pieces.
--     LineLaws      the last line
--     CourseLaws    what is met alike is the same
--     StopLaws      why a call stops
--     KeepLaws      what is left of a window moves to its front
--     WholeLaws     what is made of a recording goes field by field
--     WindowLaws    a call prints its part, whatever comes behind
--     TurnLaws      a turn, turn after turn, and what every turn keeps
--     FieldLaws     a turn goes by what the code of a run answers
--     LeadLaws      the loop of a call
--     EndLaws       a call comes to an end
--     HungryLaws    a call that needs bytes leaves room to read them
--     EmptyLaws     a call over no bytes
--     RoomLaws      a buffer with room for a whole recording holds all its lines
--     PieceLaws     any pieces print what the whole prints
--     KeptLaws      what every field keeps, every call and all pieces keep
--     Examples      a course at work, and one that is not steady
--     Determined    each public contract allows one outcome alone
pub mod LineLaws
pub mod CourseLaws
pub mod StopLaws
pub mod KeepLaws
pub mod WholeLaws
pub mod WindowLaws
pub mod TurnLaws
pub mod FieldLaws
pub mod LeadLaws
pub mod EndLaws
pub mod HungryLaws
pub mod EmptyLaws
pub mod RoomLaws
pub mod PieceLaws
pub mod KeptLaws
mod Examples
pub mod Determined
