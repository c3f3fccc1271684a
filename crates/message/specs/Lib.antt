-- An open message, in document 01's order.
--     Message    the open message, further on, and its second command
--     Asked      what each kind of command asks of the card
--     Words      own commands, and rules 1 to 8: what is to be done
--     Silence    silence: what is to be done
--     Wants      how many words an open message takes and stores
--     Fitness    refusal 4: which open messages are fit
pub mod Message
pub mod Asked
pub mod Words
pub mod Silence
pub mod Wants
pub mod Fitness
