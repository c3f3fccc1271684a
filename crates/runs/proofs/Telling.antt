-- What worked runs are told with: words and silences, cards to start from, and what is looked at
-- after a run. A run is told as a recording tells it, event by event, with document 01's numbers:
-- the station is 5, the table is block 1, the memory begins as zeros. Assumes nothing.
use mathlib.Core.Bool.{true, false}
use mathlib.Core.List.{List, [], ◌∷◌}
use Prim.Native.Nat.{ℕ}
use lib.ListN.{get_or, replicate}
use Rattle.bus.specs.Word.{word_of}
use Rattle.card.specs.Memory.{card_words, the_block, the_cell, word_address}
use Rattle.queue.specs.Queue.{empty_queue}
use Rattle.terminal.specs.declared.state.Answer.{Answer}
use Rattle.terminal.specs.State.{Card, card, core_at_setup}
use Rattle.terminal.specs.Event.{Event, word, silence, host_write, Outcome, quietly}
use Rattle.terminal.specs.Machine.{step, run}
use Rattle.runs.proofs.Machine.{machine}

-- ---- words and silences

-- a word by its marks, as a recording has them: bit 0 line B, 1 command sync, 2 sound, 3 joined
abbrev pub heard : ℕ → ℕ → ℕ → Event
heard marks value time = word (word_of marks value time)

-- a command on line A or B: command sync, sound, not joined
abbrev pub command_a : ℕ → ℕ → Event
command_a = heard 0x06

abbrev pub command_b : ℕ → ℕ → Event
command_b = heard 0x07

-- a command that is joined to the word before
abbrev pub joined_a : ℕ → ℕ → Event
joined_a = heard 0x0E

-- a data word: data sync, sound, joined
abbrev pub data_a : ℕ → ℕ → Event
data_a = heard 0x0C

-- a data word that is joined and unsound
abbrev pub unsound_a : ℕ → ℕ → Event
unsound_a = heard 0x08

abbrev pub silence_a : ℕ → Event
silence_a = silence false

abbrev pub silence_b : ℕ → Event
silence_b = silence true

-- the host writes one word into a cell of a block
abbrev pub put : ℕ → ℕ → ℕ → Event
put block cell value = host_write (word_address (the_block block) (the_cell cell)) (value ∷ [])

-- the events of document 01's run: a receive command for two words to subaddress 3, the two data
-- words, a silence; and the same command with direction 1
abbrev pub receive : Event
receive = command_a 0x2862 0x28

abbrev pub transmit : Event
transmit = command_a 0x2C62 0x28

abbrev pub word1 : Event
word1 = data_a 0x1111 0x3C

abbrev pub word2 : Event
word2 = data_a 0x2222 0x50

abbrev pub quiet : Event
quiet = silence_a 0x64

-- ---- where a run starts

-- station 5, table block 1, no flags, over a memory of zeros
unfoldable pub at_setup : Card
at_setup =
    card (core_at_setup 5 (the_block 1) 0) empty_queue (replicate card_words 0)

-- that card with five chains, each of which wants the queue and links its block to the next one:
--     receive, subaddress 3     table cell 3     block 2, then 3
--     mode codes but 16, 19     table cell 31    block 4, then 5
--     mode code 16              table cell 32    block 6, then 7
--     mode code 19              table cell 63    block 8, then 9
--     transmit, subaddress 3    table cell 35    block 10, then 11
unfoldable pub chained : Card
chained =
    run
    (put 1 3 0x4002
    ∷ put 2 63 0x4003
    ∷ put 1 31 0x4004
    ∷ put 4 63 0x4005
    ∷ put 1 32 0x4006
    ∷ put 6 63 0x4007
    ∷ put 1 63 0x4008
    ∷ put 8 63 0x4009
    ∷ put 1 35 0x400A
    ∷ put 10 63 0x400B
    ∷ [])
    at_setup

-- ---- what is looked at

-- the words at some addresses
unfoldable pub words_at : List ℕ → List ℕ → List ℕ
words_at [] ram = []
words_at (address ∷ addresses) ram = get_or ram address 0 ∷ words_at addresses ram

-- the answer to each event of a run
unfoldable pub answers : List Event → Card → List Answer
answers [] old = []
answers (event ∷ events) old = (step event old).answer ∷ answers events (step event old).card

-- what comes of the last event of a run
unfoldable pub last_outcome : List Event → Card → Outcome
last_outcome [] old = quietly old
last_outcome (event ∷ []) old = step event old
last_outcome (event ∷ next ∷ events) old = last_outcome (next ∷ events) (step event old).card

-- the card after a run over the five chains
unfoldable pub card_after : List Event → Card
card_after events = run events chained

-- ---- to unfold `runs` is to unfold the machine and what tells its runs

unfoldable pub runs : ℕ
unfolding machine at_setup chained words_at answers last_outcome card_after
runs = 0
