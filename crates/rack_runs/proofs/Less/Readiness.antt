-- Two words to station 5, one thing less asked of it: not busy, the block not the table, the line
-- not shut. Each claim is false. Assumes nothing.
use mathlib.Core.Path.{◌≡◌, refl}
use mathlib.Core.Bool.{Bool, true, false, cond}
use mathlib.Core.List.{[], ◌∷◌}
use Prim.Native.Nat.{ℕ}
use native.Mathlib.Omega.{arith}
use Rattle.bus.specs.Command.{is_broadcast}
use Rattle.message.specs.Asked.{asked_of}
use Rattle.queue.specs.Queue.{empty_queue}
use Rattle.card.specs.Memory.{the_block}
use Rattle.terminal.specs.State.{Card, card, with_switches, core_at_setup}
use Rattle.terminal_laws.specs.Written.{TableElsewhere}
use Rattle.formats.specs.declared.row.Row.TheVariants.{ToTerminal}
use Rattle.exchange.specs.declared.order.Order.{Order}
use Rattle.controller.specs.State.{Desk}
use Rattle.controller.specs.Start.{order_in}
use Rattle.rack.specs.Bus.{rack}
use Rattle.rack.specs.Terminals.{Different, here}
use Rattle.rack.specs.Asked.{IsIdle, opened_for, FitOrder}
use Rattle.rack_runs.proofs.Telling.{
  memory_of,
  terminal_of,
  desk_of,
  clock,
  told,
}
use Rattle.rack_runs.proofs.Having.{starts_by, idle_by, one_is_different, first_of, differ}
use Rattle.rack_runs.proofs.Less.Claim.{Starts, AllThere, Claim, asked_of_one}

-- what is asked of it and its command may vary
abbrev ClaimWith : (Bool → ℕ → Card → Type 0) → Type 0
ClaimWith Prepared = Claim Starts FitOrder AllThere Different IsIdle Prepared

abbrev two_words : Desk
two_words = desk_of 0 (0x2862 ∷ 0x1111 ∷ 0x2222 ∷ [])

abbrev order : Order
order = order_in ToTerminal false two_words

begins : Starts order two_words
unfolding told
begins = starts_by ToTerminal false two_words refl refl refl

-- ---- busy or not

record EvenBusy (line : Bool) (command : ℕ) (terminal : Card) : Type 0 where
  not_table : TableElsewhere (asked_of command) (opened_for command terminal)
  not_shut : is_broadcast command ≡ false
      → cond line terminal.core.shut.b terminal.core.shut.a ≡ false

-- flag 1
unfoldable busy_five : Card
busy_five = terminal_of 5 1 2 (memory_of 5 1 2 [])

a_busy_terminal_would_store : ClaimWith EvenBusy → ⊥
unfolding told busy_five
a_busy_terminal_would_store claim =
    let differs : ◌≡◌ {A = ℕ} 5 0x1111 =
    (first_of (claim order clock (rack two_words (busy_five ∷ []))
    (asked_of_one order two_words busy_five begins (record { row = refl; broadcast = refl })
    (λ one. here refl) one_is_different (idle_by refl refl refl refl)
    (record { not_table = λ has still. differ 2 1 refl; not_shut = λ one. refl }))
    ).terminals).1 0 (omega arith) in
    omega arith

-- ---- the block may be the table

record EvenTable (line : Bool) (command : ℕ) (terminal : Card) : Type 0 where
  not_busy : (opened_for command terminal).busy ≡ false
  not_shut : is_broadcast command ≡ false
      → cond line terminal.core.shut.b terminal.core.shut.a ≡ false

-- table cell 3 names the table, so the link falls on the fourth data word
unfoldable table_five : Card
table_five = terminal_of 5 1 0 (memory_of 5 1 1 [])

abbrev four_words : Desk
four_words = desk_of 0 (0x2864 ∷ 0x1111 ∷ 0x2222 ∷ 0x3333 ∷ 0x4444 ∷ [])

the_table_would_keep_a_word : ClaimWith EvenTable → ⊥
unfolding told table_five
the_table_would_keep_a_word claim =
    let differs : ◌≡◌ {A = ℕ} 5 0x4444 =
    (first_of (claim (order_in ToTerminal false four_words) clock
    (rack four_words (table_five ∷ []))
    (asked_of_one (order_in ToTerminal false four_words) four_words table_five
    (starts_by ToTerminal false four_words refl refl refl)
    (record { row = refl; broadcast = refl }) (λ one. here refl) one_is_different
    (idle_by refl refl refl refl) (record { not_busy = refl; not_shut = λ one. refl }))
    ).terminals).1 3 (omega arith) in
    omega arith

-- ---- the line may be shut

record EvenShut (line : Bool) (command : ℕ) (terminal : Card) : Type 0 where
  not_busy : (opened_for command terminal).busy ≡ false
  not_table : TableElsewhere (asked_of command) (opened_for command terminal)

unfoldable shut_five : Card
shut_five =
    card
    (with_switches (record { a = true; b = false }) false (core_at_setup 5 (the_block 1) 0))
    empty_queue (memory_of 5 1 2 [])

a_shut_line_would_answer : ClaimWith EvenShut → ⊥
unfolding told shut_five
a_shut_line_would_answer claim =
    let differs : ◌≡◌ {A = ℕ} 2 0 =
    (claim order clock (rack two_words (shut_five ∷ []))
    (asked_of_one order two_words shut_five begins (record { row = refl; broadcast = refl })
    (λ one. here refl) one_is_different (idle_by refl refl refl refl)
    (record { not_busy = refl; not_table = λ has still. differ 2 1 refl }))
    ).code in
    omega arith
