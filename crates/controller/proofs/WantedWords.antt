-- The words that the controller says it wants: what that tells of its message (`wanted_tells`), and
-- that a row of them, stored at once, is as many words heard (`wanted_row_is_words`). Assumes
-- nothing.
use mathlib.Core.Path.{◌≡◌, refl, sym, ap, ◌∙◌}
use mathlib.Core.Bool.{Bool, true, false, cond}
use mathlib.Core.List.{List, [], ◌∷◌}
use Prim.Native.Nat.{ℕ, suc, ◌+◌, ◌-◌, ◌≤◌, ◌<◌}
use native.Mathlib.Omega.{arith}
use lib.Dec.{ltb}
use lib.ListN.{length}
use borrow.Author.Tests.{ltb-true}
use Rattle.std.proofs.Common.{Option, Some, None}
use Rattle.bus.specs.declared.word.Word.{Word}
use Rattle.bus.specs.DataWords.{DataWord, DataWords, values_of}
use Rattle.card.specs.Memory.{the_cell, with_cell, with_cells}
use Rattle.formats.specs.Row.{reply_cell, last_cell}
use Rattle.exchange.specs.declared.order.Order.{Order}
use Rattle.exchange.specs.declared.state.Stage.{Stage}
use Rattle.exchange.specs.declared.state.Stage.TheVariants.{Awaiting, Reply, AwaitingLast, Ended}
use Rattle.exchange.specs.declared.state.Exchange.{Exchange}
use Rattle.exchange.specs.Order.{format_for}
use Rattle.exchange.specs.Judge.{exchange_of}
use Rattle.exchange.proofs.OrderLaws.{reply_at_most}
use Rattle.controller.specs.declared.state.OpenMessage.{OpenMessage}
use Rattle.controller.specs.declared.state.Controller.{Controller}
use Rattle.controller.specs.declared.row.Wanted.{Wanted}
use Rattle.controller.specs.Control.{block_in, line_in}
use Rattle.controller.specs.State.{Desk, desk, open_back, with_message}
use Rattle.controller.specs.Heard.{Heard, heard_as, word_step, words_step}
use Rattle.controller.specs.Row.{
  wanted_at,
  wanted_in,
  wanted_of,
  words_wanted,
  message_with,
  with_taken,
  row_stored,
}
use Rattle.controller.proofs.RowWords.{reply_at, word_is_stored, row_is_words}

-- what the code is told: the message is in a reply, some of whose words are missing
pub record WantedTold (state : Controller) (wanted : Wanted) : Type 0 where
  pub order : Order
  pub mark : Bool
  pub is_open : state.message ≡ open_back order (exchange_of Reply wanted.taken mark)
  pub more : wanted.taken < (format_for order).reply
  pub same_block : wanted.block ≡ block_in state.control
  pub same_cell : wanted.cell ≡ reply_cell (format_for order) + wanted.taken
  pub same_end : wanted.end ≡ last_cell (format_for order)
  pub same_line : wanted.line ≡ line_in state.control

module _ (state : Controller) (wanted : Wanted) where
  abbrev Told : Type 0
  Told = WantedTold state wanted

  in_reply : (order : Order) (so_far : Exchange)
      → state.message ≡ open_back order so_far → so_far.stage ≡ Reply
      → wanted_at Reply state.control (format_for order) so_far.taken
      ≡ Some wanted
      → Told
  in_reply order so_far is_open is_stage =
      go (ltb so_far.taken (format_for order).reply) refl where
        go : (test : Bool) → ltb so_far.taken (format_for order).reply ≡ test
            → cond test (Some (record {
              block = block_in state.control;
              cell = reply_cell (format_for order) + so_far.taken;
              end = last_cell (format_for order);
              line = line_in state.control;
              taken = so_far.taken;
            })) None
            ≡ Some wanted
            → Told
        go true is same =
            let same_taken : so_far.taken ≡ wanted.taken = cc in
            record {
              order = order;
              mark = so_far.mark;
              is_open =
                  is_open
                  ∙ ap (λ (any : Stage).
                  open_back order (exchange_of any so_far.taken so_far.mark))
                  is_stage
                  ∙ ap (λ (any : ℕ).
                  open_back order (exchange_of Reply any so_far.mark)) same_taken;
              more = rw same_taken at (ltb-true so_far.taken (format_for order).reply is);
              same_block = cc;
              same_cell = cc;
              same_end = cc;
              same_line = cc;
            }
        go false is same = cc

  in_stage : (order : Order) (so_far : Exchange) → state.message ≡ open_back order so_far
      → (stage : Stage) → so_far.stage ≡ stage
      → wanted_at stage state.control (format_for order) so_far.taken
      ≡ Some wanted
      → Told
  in_stage order so_far is_open Awaiting is same = cc
  in_stage order so_far is_open Reply is same = in_reply order so_far is_open is same
  in_stage order so_far is_open AwaitingLast is same = cc
  in_stage order so_far is_open Ended is same = cc

  in_message : (message : Option OpenMessage) → state.message ≡ message
      → wanted_of message state.control ≡ Some wanted → Told
  in_message None is same = cc
  in_message (Some message) is same = go message.progress refl (refl ∙ same) where
    go : (progress : Option Exchange) → message.progress ≡ progress
        → wanted_in progress message.order state.control ≡ Some wanted
        → Told
    go None progressed same = cc
    go (Some so_far) progressed same =
        in_stage message.order so_far
        (is ∙ ap (λ (any : Option Exchange).
        Some (record { order = message.order; progress = any })) progressed)
        so_far.stage refl same

  pub wanted_tells : Some wanted ≡ words_wanted state → Told
  unfolding words_wanted
  wanted_tells is = in_message state.message refl (sym is)

-- ---- so many are wanted

-- the desk is in a reply with so many words missing at the least, on this line
pub record WantsWords (on : Bool) (more : ℕ) (old : Desk) : Type 0 where
  pub state : Controller
  pub order : Order
  pub mark : Bool
  pub taken : ℕ
  pub ram : List ℕ
  pub is_reply : old ≡ reply_at state order mark taken ram
  pub enough : taken + more ≤ (format_for order).reply
  pub same_line : on ≡ line_in state.control

module _ (on : Bool) (more : ℕ) (old : Desk) (heard : Word)
    (wants : WantsWords on (suc more) old) (is : DataWord on heard) where
  heard_so : word_step heard old
      ≡ heard_as None (reply_at wants.state wants.order wants.mark (wants.taken + 1)
      (with_cell wants.ram (block_in wants.state.control)
      (the_cell (reply_cell (format_for wants.order) + wants.taken)) heard.value))
  heard_so =
      rw wants.is_reply
      (word_is_stored wants.state wants.order wants.mark heard wants.taken wants.ram
      (rw wants.same_line at is) (omega (arith, wants.enough)))

  -- it brings no result
  pub heard_silently : (word_step heard old).result ≡ None
  heard_silently = ap (λ (left : Heard). left.result) heard_so

  -- one word fewer is wanted then
  pub still_wants : WantsWords on more (words_step (heard ∷ []) old)
  unfolding words_step
  still_wants =
      record {
        state = wants.state;
        order = wants.order;
        mark = wants.mark;
        taken = wants.taken + 1;
        ram = _;
        is_reply = ap (λ (left : Heard). left.desk) heard_so;
        enough = omega (arith, wants.enough);
        same_line = wants.same_line;
      }

module _ (state : Controller) (wanted : Wanted) (told : WantedTold state wanted) (ram : List ℕ)
  where
    told_reply : desk state ram ≡ reply_at state told.order told.mark wanted.taken ram
    unfolding with_message
    told_reply =
        ap (λ (held : Option OpenMessage). desk (with_message held state) ram) told.is_open

    pub told_wants : WantsWords wanted.line (wanted.end - wanted.cell) (desk state ram)
    told_wants =
        record {
          state = state;
          order = told.order;
          mark = told.mark;
          taken = wanted.taken;
          ram = ram;
          is_reply = told_reply;
          enough = omega (arith, told.more, told.same_cell, told.same_end);
          same_line = told.same_line;
        }

    -- so many words more can be counted
    pub told_fits : (words : ℕ) → words ≤ wanted.end - wanted.cell
        → wanted.taken + words ≤ 65535
    told_fits words few =
        omega (
          arith,
          few,
          told.more,
          told.same_cell,
          told.same_end,
          reply_at_most told.order,
        )

    taken_so : (count : ℕ)
        → desk (with_taken count state) ram ≡ reply_at state told.order told.mark count ram
    unfolding with_taken
    taken_so count =
        ap (λ (held : Option OpenMessage).
        desk (with_message (message_with count held) state) ram) told.is_open

    -- a row of the words that are wanted, stored at once
    pub wanted_row_is_words : (row : List Word) → DataWords wanted.line row
        → length row ≤ wanted.end - wanted.cell
        → row_stored row wanted.cell wanted.taken (desk state ram)
        ≡ words_step row (desk state ram)
    wanted_row_is_words row are few =
        ap (λ (any : Desk). desk any.state (with_cells ram (block_in state.control) wanted.cell
        (values_of row))) (taken_so (wanted.taken + length row))
        ∙ ap (λ (any : ℕ). reply_at state told.order told.mark (wanted.taken + length row)
        (with_cells ram (block_in state.control) any (values_of row))) told.same_cell
        ∙ sym (row_is_words state told.order told.mark row wanted.taken ram
        (rw told.same_line at are)
        (omega (arith, few, told.more, told.same_cell, told.same_end)))
        ∙ ap (λ (any : Desk). words_step row any) (sym told_reply)
