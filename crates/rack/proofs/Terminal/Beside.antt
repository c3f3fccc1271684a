-- A command beside its row of the table of formats, kind by kind: the words given and the words
-- that come back are those that it takes and sends. Assumes nothing.
use mathlib.Core.Path.{◌≡◌, refl, sym, subst}
use mathlib.Core.Bool.{not}
use Prim.Native.Nat.{ℕ}
use Rattle.bus.specs.declared.kind.Kind.{Kind}
use Rattle.bus.specs.declared.kind.Kind.TheVariants.{
  Receive,
  Transmit,
  ModeStatus,
  ModeLast,
  ModeSwitch,
  ModeSend,
  ModeTake,
  ModeReply,
  Illegal,
}
use Rattle.bus.specs.Command.{is_broadcast, words_of}
use Rattle.bus.specs.Kind.{kind_of}
use Rattle.message.specs.Asked.{asked_by, asked_of}
use Rattle.formats.specs.declared.row.Row.{Row}
use Rattle.formats.specs.declared.row.Row.TheVariants.{ModeAlone}
use Rattle.formats.specs.Row.{format_of}
use Rattle.rack.specs.Asked.{RowOf}
use Rattle.rack.proofs.Terminal.Took.{FitCommand}
use Rattle.rack.proofs.Terminal.Kinds.{sends_to_one}

-- its row, with its own count and address
pub record Beside (row : Row) (command : ℕ) : Type 0 where
  pub fit : FitCommand command
  pub behind : (format_of row (is_broadcast command) (words_of command)).behind
      ≡ (asked_of command).takes
  pub reply : (format_of row (is_broadcast command) (words_of command)).reply
      ≡ (asked_of command).sends
  pub status : (format_of row (is_broadcast command) (words_of command)).status
      ≡ not (is_broadcast command)

module _ (command : ℕ) where
  -- no word either way
  beside_alone : FitCommand command → (asked_of command).takes ≡ 0 → (asked_of command).sends ≡ 0
      → Beside ModeAlone command
  unfolding format_of
  beside_alone fit none_taken none_sent =
      record { fit = fit; behind = sym none_taken; reply = sym none_sent; status = refl }

  pub beside_kind : (kind : Kind) (row : Row) → kind_of command ≡ kind → RowOf kind row
      → Beside row command
  unfolding format_of asked_by
  beside_kind Receive row is fits =
      subst (λ (any : Row). Beside any command) (sym fits) (record {
        fit = record { legal = rw is; not_last = rw is };
        behind = rw is;
        reply = rw is;
        status = refl;
      })
  beside_kind Transmit row is fits =
      subst (λ (any : Row). Beside any command) (sym fits) (record {
        fit = record { legal = rw is; not_last = rw is };
        behind = rw is;
        reply = rw is;
        status = rw (sends_to_one command (rw is));
      })
  beside_kind ModeStatus row is fits =
      subst (λ (any : Row). Beside any command) (sym fits)
      (beside_alone (record { legal = rw is; not_last = rw is }) (rw is) (rw is))
  beside_kind ModeSwitch row is fits =
      subst (λ (any : Row). Beside any command) (sym fits)
      (beside_alone (record { legal = rw is; not_last = rw is }) (rw is) (rw is))
  beside_kind ModeReply row is fits =
      subst (λ (any : Row). Beside any command) (sym fits)
      (beside_alone (record { legal = rw is; not_last = rw is }) (rw is) (rw is))
  beside_kind ModeTake row is fits =
      subst (λ (any : Row). Beside any command) (sym fits) (record {
        fit = record { legal = rw is; not_last = rw is };
        behind = rw is;
        reply = rw is;
        status = refl;
      })
  beside_kind ModeSend row is fits =
      subst (λ (any : Row). Beside any command) (sym fits) (record {
        fit = record { legal = rw is; not_last = rw is };
        behind = rw is;
        reply = rw is;
        status = rw (sends_to_one command (rw is));
      })
  beside_kind ModeLast row is fits = absurd fits
  beside_kind Illegal row is fits = absurd fits
