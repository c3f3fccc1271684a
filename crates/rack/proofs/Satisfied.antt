-- What is asked of a message can be had: a transfer from station 9 to station 5 over whole
-- memories, by computation, so that the theorems speak of it. Assumes nothing.
use mathlib.Core.Path.{◌≡◌, refl, ap}
use mathlib.Core.Bool.{false}
use mathlib.Core.List.{List, [], ◌∷◌}
use Prim.Native.Nat.{ℕ, ◌+◌}
use native.Mathlib.Omega.{arith}
use lib.ListN.{replicate}
use lib.Seq.{sets}
use Rattle.bus.specs.Kind.{kind_of}
use Rattle.card.specs.declared.place.Block.{Block}
use Rattle.card.specs.Memory.{card_words, the_block, cell_at}
use Rattle.queue.specs.Queue.{empty_queue, fit_queue}
use Rattle.message.specs.Asked.{asked_by}
use Rattle.message.specs.Words.{own_command}
use Rattle.terminal.specs.State.{Card, card, core_at_setup}
use Rattle.terminal.specs.Opening.{opened_message}
use Rattle.terminal.specs.Fitness.{fit_core}
use Rattle.formats.specs.declared.row.Row.TheVariants.{Between}
use Rattle.formats.specs.Code.{code_table, coded_by}
use Rattle.exchange.specs.declared.order.Order.{Order}
use Rattle.controller.specs.State.{desk_words, desk, at_setup}
use Rattle.controller.specs.Start.{starting, start_step}
use Rattle.controller.specs.Actions.{start_action}
use Rattle.rack.specs.Hearing.{Stamps}
use Rattle.rack.specs.Bus.{Rack, rack, message}
use Rattle.rack.specs.Terminals.{Each, Different, here, there}
use Rattle.rack.specs.Asked.{IsIdle, Ready, Asked}
use Rattle.rack.specs.SameWords.{Promised}
use Rattle.rack.specs.Ending.{Ends}
use Rattle.rack.proofs.Message.EveryRow.{message_promised}
use Rattle.rack.proofs.Ending.Message.{message_ends}

-- table: receive by cell 3 from block 1, transmit by cell 35 from block 2
abbrev memory : List ℕ
memory = sets (sets (replicate card_words 0) 3 (1 ∷ [])) 35 (2 ∷ [])

unfoldable terminal_of : ℕ → Card
terminal_of station =
    card (core_at_setup station (the_block 0) 1) empty_queue memory

-- block 1, line A, format code 2: two words from station 9 to station 5
unfoldable start : Rack
start =
    rack (desk (at_setup (64 + 2) 1) (sets (replicate desk_words 0) 64 (0x2862 ∷ 0x4C62 ∷ [])))
    (terminal_of 5 ∷ terminal_of 9 ∷ [])

abbrev order : Order
order = record { row = Between; broadcast = false; first = 0x2862; second = 0x4C62 }

idle_5 : IsIdle (terminal_of 5)
unfolding terminal_of fit_core fit_queue core_at_setup
idle_5 =
    record {
      rest = record { whole_and_fit = record { whole_memory = refl; fit = refl }; idle = refl };
      status = refl;
    }

idle_9 : IsIdle (terminal_of 9)
unfolding terminal_of fit_core fit_queue core_at_setup
idle_9 =
    record {
      rest = record { whole_and_fit = record { whole_memory = refl; fit = refl }; idle = refl };
      status = refl;
    }

starts : start_action start.desk ≡ starting order start.desk
unfolding start start_action start_step coded_by code_table cell_at
starts = refl

ready_5 : Ready false 0x2862 (terminal_of 5)
unfolding terminal_of core_at_setup opened_message asked_by kind_of cell_at
ready_5 =
    record {
      not_busy = refl;
      not_table = λ has stays same.
          let never : ◌≡◌ {A = ℕ} 1 0 = ap (λ (block : Block). block.0) same in omega arith;
      not_shut = λ one. refl;
    }

ready_9 : Ready false 0x4C62 (terminal_of 9)
unfolding terminal_of core_at_setup opened_message asked_by kind_of cell_at
ready_9 =
    record {
      not_busy = refl;
      not_table = λ has stays same.
          let never : ◌≡◌ {A = ℕ} 2 0 = ap (λ (block : Block). block.0) same in omega arith;
      not_shut = λ one. refl;
    }

asked : Asked order start
unfolding terminal_of start core_at_setup own_command kind_of
asked =
    record {
      starts = starts;
      fit =
          record {
            row =
                record {
                  receives = refl;
                  asks = refl;
                  to_one = refl;
                  same_count = refl;
                  other_station = λ same. let never : ◌≡◌ {A = ℕ} 9 5 = same in omega arith;
                };
            broadcast = refl;
          };
      addressed = (λ one. here refl, λ one. there (here refl));
      different =
          Different.each
          (Each.each (λ same. let never : ◌≡◌ {A = ℕ} 9 5 = same in omega arith) Each.nobody)
          (Different.each Each.nobody Different.nobody);
      idle = Each.each idle_5 (Each.each idle_9 Each.nobody);
      ready = Each.each ready_5 (Each.each ready_9 Each.nobody);
    }

-- so both theorems speak of it, at any stamps
a_transfer_is_promised : (clock : ℕ → Stamps) → Promised order start (message clock start)
a_transfer_is_promised clock = message_promised order clock start asked

a_transfer_ends : (clock : ℕ → Stamps) → Ends clock start
a_transfer_ends clock =
    message_ends order clock start asked.starts asked.different asked.idle
