-- The ten marked cases (a) to (j) of document 01 as one table: recordings, what they print, and
-- what they leave in the card's 16,384 words. Definitions only. Assumes nothing.
use Rattle.std.specs.Prelude.{List, [], ◌∷◌, ◌++◌, ℕ, zero, suc, ◌/◌, ◌%◌}
use Rattle.lines.specs.Lines.{status_line, queue_line, end_line, refusal_line}

-- ---- recordings, field by field

-- two bytes, high byte first
abbrev pub pair : ℕ → List ℕ
pair word = word / 256 ∷ word % 256 ∷ []

abbrev pub setup : ℕ → ℕ → ℕ → List ℕ
setup station table flags = 1 ∷ pair 3 ++ station ∷ table ∷ flags ∷ []

-- marks 6: a sound command on line A, not joined
abbrev pub command : ℕ → ℕ → ℕ → List ℕ
command value high low = 2 ∷ pair 7 ++ (6 ∷ pair value ++ (pair high ++ pair low))

-- marks 12: a sound data word on line A, joined
abbrev pub data_word : ℕ → ℕ → List ℕ
data_word value time = 2 ∷ pair 7 ++ (12 ∷ pair value ++ (pair 0 ++ pair time))

-- marks 8: the same, unsound
abbrev pub unsound_word : ℕ → ℕ → List ℕ
unsound_word value time = 2 ∷ pair 7 ++ (8 ∷ pair value ++ (pair 0 ++ pair time))

abbrev pub silence : ℕ → ℕ → List ℕ
silence high low = 3 ∷ pair 5 ++ (0 ∷ pair high ++ pair low)

abbrev pub read_queue : List ℕ
read_queue = 4 ∷ pair 0

abbrev pub host_write : ℕ → ℕ → List ℕ
host_write address word = 5 ∷ pair 4 ++ (pair address ++ pair word)

abbrev pub two_words : ℕ → ℕ → ℕ → List ℕ
two_words address first second = 5 ∷ pair 6 ++ (pair address ++ (pair first ++ pair second))

-- so many times the same
abbrev pub times : ℕ → List ℕ → List ℕ
times zero bytes = []
times (suc count) bytes = bytes ++ times count bytes

-- ---- the table

-- an address and the word in it
pub record Holds : Type 0 where
  pub address : ℕ
  pub word : ℕ

abbrev pub holds : ℕ → ℕ → Holds
holds address word = record { address = address; word = word }

-- a recording, the text that it prints, the remembered status and cells that it leaves
pub record Case : Type 0 where
  pub recording : List ℕ
  pub text : List ℕ
  pub status : ℕ
  pub cells : List Holds

abbrev pub case : List ℕ → List ℕ → ℕ → List Holds → Case
case recording text status cells =
    record { recording = recording; text = text; status = status; cells = cells }

-- station 5, table block 1; the chain of subaddress 3 begins with block 2, and block 2 links to 3
abbrev pub tray : List ℕ
tray = setup 5 1 0 ++ (host_write 0x0043 0x4002 ++ host_write 0x00BF 0x4003)

unfoldable pub marked : List Case
marked =
    -- (a) 01's run prints S 2800, Q 8002, END 8
    case
    (tray ++ (command 0x2862 0 0x28 ++ (data_word 0x1111 0x3C ++ (data_word 0x2222 0x50
    ++ (silence 0 0x64 ++ read_queue)))))
    (83 ∷ 32 ∷ 50 ∷ 56 ∷ 48 ∷ 48 ∷ 10
    ∷ 81 ∷ 32 ∷ 56 ∷ 48 ∷ 48 ∷ 50 ∷ 10
    ∷ 69 ∷ 78 ∷ 68 ∷ 32 ∷ 56 ∷ 10 ∷ [])
    0x2800
    (holds 128 0x1111 ∷ holds 129 0x2222 ∷ holds 186 0x0002 ∷ holds 187 0x0000 ∷ holds 188 0x0064
    ∷ holds 189 0x003C ∷ holds 67 0x4003 ∷ [])
    -- (b) the second data word unsound: no S
    ∷ case
    (tray ++ (command 0x2862 0 0x28 ++ (data_word 0x1111 0x3C ++ (unsound_word 0x2222 0x50
    ++ (silence 0 0x64 ++ read_queue)))))
    (queue_line 0x8002 ++ end_line 8)
    0x2C00
    (holds 186 0x4101 ∷ holds 189 0x0028 ∷ holds 67 0x4003 ∷ [])
    -- (c) stamps FFFFFFF0, 00000010: 32 ticks
    ∷ case
    (tray ++ (command 0x2861 0xFFFF 0xFFF0 ++ (data_word 0x1111 0 ++ silence 0 0x10)))
    (status_line 0x2800 [] ++ end_line 6) 0x2800 (holds 189 32 ∷ [])
    -- (d) equal stamps: 0 ticks
    ∷ case
    (tray ++ (command 0x2861 0 0x64 ++ (data_word 0x1111 0x64 ++ silence 0 0x64)))
    (status_line 0x2800 [] ++ end_line 6) 0x2800 (holds 189 0 ∷ [])
    -- (e) count 0 wants 32: 32 words are sound, 31 are short, code 3
    ∷ case
    (tray ++ (command 0x2860 0 0x28 ++ (times 32 (data_word 0x1111 0x3C) ++ (silence 0 0x64
    ++ (command 0x2860 0 0x70 ++ (times 31 (data_word 0x2222 0x74) ++ silence 0 0x80))))))
    (status_line 0x2800 [] ++ end_line 70)
    0x2C00
    (holds 159 0x1111 ∷ holds 186 0x0020 ∷ holds 222 0x2222 ∷ holds 250 0x431F ∷ [])
    -- (f) station 30 is taken, 31 refused 2
    ∷ case (setup 30 0 0) (end_line 1) 0xF000 []
    ∷ case (setup 31 0 0) (refusal_line 2 0) 0xF800 []
    -- (g) address 16,383 with one word is taken, with two refused 8
    ∷ case (setup 5 1 0 ++ host_write 0x3FFF 0x1234) (end_line 2) 0x2800 (holds 16383 0x1234 ∷ [])
    ∷ case (setup 5 1 0 ++ two_words 0x3FFF 0x1234 0x5678) (refusal_line 8 6) 0x2800
    (holds 16383 0 ∷ [])
    -- (h) the queue holds 256: the 257th, of block 3, is lost and overflow set; block 2 links to
    -- itself until the host links it to block 3
    ∷ case
    (setup 5 1 0 ++ (host_write 0x0061 0x4002 ++ (host_write 0x00BF 0x4002
    ++ (times 256 (command 0x2C21 0 0x28 ++ silence 0 0x64) ++ (host_write 0x0061 0x4003
    ++ (command 0x2C21 0 0x28 ++ (silence 0 0x64 ++ times 257 read_queue)))))))
    (times 257 (status_line 0x2800 (0 ∷ [])) ++ (times 256 (queue_line 0x8402)
    ++ (queue_line 0x0400 ++ end_line 775)))
    0x2800
    (holds 97 0 ∷ holds 250 0x0001 ∷ [])
    -- (i) an empty queue reads 0000
    ∷ case (setup 5 1 0 ++ read_queue) (queue_line 0x0000 ++ end_line 2) 0x2800 []
    -- (j) link 0103 names block 3
    ∷ case
    (setup 5 1 0 ++ (host_write 0x0043 0x4002 ++ (host_write 0x00BF 0x0103
    ++ (command 0x2861 0 0x28 ++ (data_word 0x1111 0x3C ++ (silence 0 0x64
    ++ (command 0x2861 0 0x70 ++ (data_word 0x2222 0x74 ++ silence 0 0x80))))))))
    (status_line 0x2800 [] ++ (status_line 0x2800 [] ++ end_line 9))
    0x2800
    (holds 67 0 ∷ holds 128 0x1111 ∷ holds 192 0x2222 ∷ [])
    ∷ []
