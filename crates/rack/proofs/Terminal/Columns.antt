-- The orders of the table of formats beside what their commands ask of a terminal: an order of one
-- command, and the two commands of a transfer. Assumes nothing.
use mathlib.Core.Path.{◌≡◌, refl, ap, sym, ◌∙◌}
use mathlib.Core.Logic.{◌≢◌}
use mathlib.Core.Bool.{true, not, cond}
use Prim.Native.Nat.{ℕ}
use lib.Dec.{eqb}
use Rattle.bus.specs.declared.kind.Kind.TheVariants.{Transmit}
use Rattle.bus.specs.Command.{words_of}
use Rattle.bus.specs.Kind.{kind_of}
use Rattle.message.specs.Asked.{asked_by, asked_of}
use Rattle.formats.specs.declared.row.Row.{Row}
use Rattle.formats.specs.declared.row.Row.TheVariants.{
  ToTerminal,
  FromTerminal,
  Between,
  ModeAlone,
  ModeWithWord,
  ModeForWord,
}
use Rattle.formats.specs.Row.{format_of}
use Rattle.exchange.specs.declared.order.Order.{Order}
use Rattle.exchange.specs.Order.{asking_by, asking_in, format_for}
use Rattle.rack.specs.Asked.{RowOf, FitTransfer, FitRow, FitOrder}
use Rattle.rack.proofs.Terminal.Took.{FitCommand}
use Rattle.rack.proofs.Terminal.Kinds.{asks_is_transmit}
use Rattle.rack.proofs.Terminal.Beside.{beside_kind}

-- ---- an order of one command

-- every row but the transfer's
record Alone (row : Row) (first second : ℕ) : Type 0 where
  fits : RowOf (kind_of first) row
  asks : asking_by row first second ≡ first

alone : (row : Row) (first second : ℕ) → row ≢ Between → FitRow row first second
    → Alone row first second
alone ToTerminal first second other fit = record { fits = fit; asks = refl }
alone FromTerminal first second other fit = record { fits = fit; asks = refl }
alone Between first second other fit = absurd (other refl)
alone ModeAlone first second other fit = record { fits = fit; asks = refl }
alone ModeWithWord first second other fit = record { fits = fit; asks = refl }
alone ModeForWord first second other fit = record { fits = fit; asks = refl }

pub record AloneColumns (order : Order) : Type 0 where
  pub fit : FitCommand order.first
  pub behind : (format_for order).behind ≡ (asked_of order.first).takes
  pub reply : (format_for order).reply ≡ (asked_of order.first).sends
  pub status : (format_for order).status ≡ not order.broadcast

pub alone_columns : (order : Order) → order.row ≢ Between → FitOrder order → AloneColumns order
unfolding format_for asking_in
alone_columns order other fit =
    let is_alone = alone order.row order.first order.second other fit.row in
    let table =
    beside_kind order.first (kind_of order.first) order.row refl is_alone.fits in
    record {
      fit = table.fit;
      behind = rw (is_alone.asks, ← fit.broadcast) table.behind;
      reply = rw (is_alone.asks, ← fit.broadcast) table.reply;
      status = rw (is_alone.asks, ← fit.broadcast) table.status;
    }

-- row 3 has none to take
pub alone_takes_nothing : (order : Order) → FitOrder order → order.row ≡ ModeAlone
    → (asked_of order.first).takes ≡ 0
unfolding format_for format_of
alone_takes_nothing order fit is =
    sym (alone_columns order (λ between. cc) fit).behind ∙ rw is

-- ---- the two commands of a transfer

pub record TransferColumns (first second : ℕ) : Type 0 where
  pub first_fit : FitCommand first
  pub second_fit : FitCommand second
  pub first_receives : (asked_of first).receive ≡ true
  pub first_takes : (asked_of first).takes ≡ words_of second
  pub second_fresh : (asked_of second).fresh ≡ true
  pub second_takes : (asked_of second).takes ≡ 0
  pub second_sends : (asked_of second).sends ≡ words_of second

pub transfer_columns : (first second : ℕ) → FitTransfer first second
    → TransferColumns first second
unfolding asked_by
transfer_columns first second fit =
    let transmits : kind_of second ≡ Transmit =
    asks_is_transmit second fit.asks fit.to_one in
    record {
      first_fit = record { legal = rw fit.receives; not_last = rw fit.receives };
      second_fit = record { legal = rw transmits; not_last = rw transmits };
      first_receives = rw fit.receives;
      first_takes =
          rw fit.receives
          (ap (λ (count : ℕ). cond (eqb count 0) 32 count) (sym fit.same_count));
      second_fresh = rw transmits;
      second_takes = rw transmits;
      second_sends = rw transmits;
    }
