-- The table pinned, by computation: rows with their longest messages, broadcast, and cells. The
-- numbers are those of document 001's table and figure. Assumes nothing.
use mathlib.Core.Path.{◌≡◌, refl}
use mathlib.Core.Bool.{true, false}
use Rattle.formats.specs.declared.row.Row.TheVariants.{
  ToTerminal,
  FromTerminal,
  Between,
  ModeWithWord,
  ModeForWord,
}
use Rattle.formats.specs.Row.{columns, format_of, status_cell, reply_cell, last_cell, data_cell}
use Rattle.formats.specs.Code.{format, lacking, code_table, coded_by}

row_0_of_32_words : format_of ToTerminal false 32 ≡ columns 33 32 true 0 false
unfolding format_of
row_0_of_32_words = refl

row_0_to_all : format_of ToTerminal true 2 ≡ columns 3 2 false 0 false
unfolding format_of
row_0_to_all = refl

row_2_to_one : format_of Between false 2 ≡ columns 2 0 true 2 true
unfolding format_of
row_2_to_one = refl

-- the transmitter answers in broadcast too, the receivers do not
row_2_to_all : format_of Between true 2 ≡ columns 2 0 true 2 false
unfolding format_of
row_2_to_all = refl

-- document 001's figure: status in n + 1, in 1, in 2 and in n + 3
status_of_row_0 : status_cell (format_of ToTerminal false 32) ≡ 33
unfolding format_of
status_of_row_0 = refl

last_status_of_row_2 : last_cell (format_of Between false 32) ≡ 35
unfolding format_of
last_status_of_row_2 = refl

-- data stand behind the command where they are given, and behind the status where they come back
data_follow_the_commands_or_the_status :
    (data_cell FromTerminal ≡ reply_cell (format_of FromTerminal false 5))
    × (data_cell Between ≡ reply_cell (format_of Between false 5))
    × (data_cell ModeForWord ≡ reply_cell (format_of ModeForWord false 5))
unfolding format_of
data_follow_the_commands_or_the_status = (refl, refl, refl)

code_12_is_row_4_to_all : coded_by 12 ≡ format ModeWithWord true
unfolding coded_by code_table
code_12_is_row_4_to_all = refl

code_15_is_lacking : coded_by 15 ≡ lacking
unfolding coded_by code_table
code_15_is_lacking = refl
