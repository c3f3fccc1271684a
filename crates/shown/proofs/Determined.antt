-- Each public contract of the crate allows one outcome alone: one next place, and one content of
-- every byte of the buffer. Assumes nothing.
use mathlib.Core.Path.{◌≡◌}
use mathlib.Core.List.{List}
use Prim.Native.Nat.{ℕ}
use denote.Param.Laws.{Laws}
use denote.RattleType.{RattleType}
use mir.Syntax.{Dict}
use Rattle.shown.specs.declared.text.Shown.{Ghosts}
use Rattle.rules.proofs.Determined.{DeterminedAs, same}
use Rattle.lines.specs.Page.{on}
use Rattle.lines.specs.Written.{Put}
use Rattle.lines.specs.declared.Page.{Page}
use Rattle.shown.specs.Text.{Fits}
use Rattle.shown.proofs.text.put_text.Kinds as put_text_kinds
use Rattle.shown.proofs.text.put_text.Reads as put_text_reads
use Rattle.shown.proofs.text.U16Shown.put.Kinds as put_decimal_kinds
use Rattle.shown.proofs.text.U16Shown.put.Reads as put_decimal_reads
use Rattle.shown.proofs.text.BoolShown.put.Kinds as put_mark_kinds
use Rattle.shown.proofs.text.BoolShown.put.Reads as put_mark_reads
use Rattle.shown.proofs.text.HexU8Shown.put.Kinds as put_hex_byte_kinds
use Rattle.shown.proofs.text.HexU8Shown.put.Reads as put_hex_byte_reads
use Rattle.shown.proofs.text.HexU16Shown.put.Kinds as put_hex_word_kinds
use Rattle.shown.proofs.text.HexU16Shown.put.Reads as put_hex_word_reads
use Rattle.shown.proofs.cells.put_cells.Kinds as put_cells_kinds
use Rattle.shown.proofs.cells.put_cells.Reads as put_cells_reads
use Rattle.shown.proofs.item.put_item.Kinds as put_item_kinds
use Rattle.shown.proofs.item.put_item.Reads as put_item_reads

-- two pages that a text is put on as `Fits` says are alike
alike : {old new new' : Page} {text : List ℕ} → Fits old text new → Fits old text new'
    → on new ≡ on new'
alike fits fits' = same fits.is_fitted fits'.is_fitted

pub put_text :
    DeterminedAs 3 put_text_kinds.ps put_text_kinds.r put_text_reads.Post Put
    (λ κs result exit. on exit.0.now)
put_text κs arguments result result' exit exit' = alike

pub put_decimal :
    DeterminedAs 3 put_decimal_kinds.ps put_decimal_kinds.r put_decimal_reads.Post Put
    (λ κs result exit. on exit.1.0.now)
put_decimal κs arguments result result' exit exit' = alike

pub put_mark :
    DeterminedAs 3 put_mark_kinds.ps put_mark_kinds.r put_mark_reads.Post Put
    (λ κs result exit. on exit.1.0.now)
put_mark κs arguments result result' exit exit' = alike

pub put_hex_byte :
    DeterminedAs 3 put_hex_byte_kinds.ps put_hex_byte_kinds.r put_hex_byte_reads.Post Put
    (λ κs result exit. on exit.1.0.now)
put_hex_byte κs arguments result result' exit exit' = alike

pub put_hex_word :
    DeterminedAs 3 put_hex_word_kinds.ps put_hex_word_kinds.r put_hex_word_reads.Post Put
    (λ κs result exit. on exit.1.0.now)
put_hex_word κs arguments result result' exit exit' = alike

pub put_cells :
    DeterminedAs 3 put_cells_kinds.ps put_cells_kinds.r put_cells_reads.Post Put
    (λ κs result exit. on exit.0.now)
put_cells κs arguments result result' exit exit' = alike

-- .. whatever the kind of the value
module _ (T : RattleType) (laws : Laws T) (shown : Ghosts T.Denot) (dict : Dict) where
  pub put_item :
      DeterminedAs 5 (put_item_kinds.ps T laws) (put_item_kinds.r T laws)
      (put_item_reads.Post T laws shown dict) Put
      (λ κs result exit. on exit.0.now)
  put_item κs arguments result result' exit exit' = alike
