-- The laws of `specs/Part.antt`: what the number 0 tells, the part on either way, and the part of
-- two memories. Assumes nothing.
use Rattle.std.proofs.Common.{
  ◌≡◌,
  ℕ,
  ◌+◌,
  ◌-◌,
  ◌<◌,
  ◌≤◌,
  Bool,
  cond,
  ◌&&◌,
  leb,
  List,
  [],
  length,
  take,
  drop,
  sym,
  Option,
  true,
  false,
  refl,
  ◌∙◌,
  arith,
  le-ltb,
  lt-ltb,
  eq-eqb,
  ne_eqb,
  le-leb,
}
use Rattle.std.specs.Option.{is_some}
use native.Mathlib.Decide.{ℕ_discrete, dec_le, dec_lt}
use borrow.Author.Tests.{lt-leb}
use Rattle.refusals.specs.declared.Refusal.{Refusal}
use Rattle.refusals.specs.Number.{refusal_in}
use Rattle.refusals.proofs.NumberLaws.{some_refused, none_refused}
use Rattle.card.specs.declared.place.Block.{Block}
use Rattle.card.specs.Memory.{block_cells, words_in, the_cell, is_block, word_address}
use Rattle.card.specs.Part.{part_refusal, shown_part}

-- what is asked of a part that is shown
pub record Shown (blocks most size : ℕ) (block : Block) (count : ℕ) : Type 0 where
  pub whole_card_lem : size ≡ words_in blocks
  pub on_card : block.0 < blocks
  pub some : 1 ≤ count
  pub at_most : count ≤ most
  pub in_block : count ≤ block_cells

module _ (blocks most size : ℕ) (block : Block) (count : ℕ) where
  -- the number 0 is given for nothing else
  pub shown : part_refusal blocks most size block count ≡ 0 → Shown blocks most size block count
  unfolding part_refusal
  shown none =
      let whole_card_lem : size ≡ words_in blocks =
      elim (ℕ_discrete size (words_in blocks)) [
        | yes is ↦ is
        | no other ↦ omega (arith, rw (ne_eqb size (words_in blocks) other) at none)
      ] in
      let number : ℕ =
      cond (is_block blocks block && leb 1 count && leb count most && leb count block_cells) 0 8 in
      let asked : number ≡ 0 =
      rw (eq-eqb size (words_in blocks) whole_card_lem) at none in
      let on_card : block.0 < blocks =
      elim (dec_lt block.0 blocks) [
        | yes is ↦ is
        | no other ↦ omega (arith, rw (le-ltb block.0 blocks (omega arith)) at asked)
      ] in
      let some : 1 ≤ count =
      elim (dec_le 1 count) [
        | yes is ↦ is
        | no other ↦
            omega (
              arith,
              rw (lt-ltb block.0 blocks on_card, lt-leb 1 count (omega arith)) at asked,
            )
      ] in
      let at_most : count ≤ most =
      elim (dec_le count most) [
        | yes is ↦ is
        | no other ↦
            omega (
              arith,
              rw (
                lt-ltb block.0 blocks on_card,
                le-leb 1 count some,
                lt-leb count most (omega arith),
              ) at asked,
            )
      ] in
      let in_block : count ≤ block_cells =
      elim (dec_le count block_cells) [
        | yes is ↦ is
        | no other ↦
            omega (
              arith,
              rw (
                lt-ltb block.0 blocks on_card,
                le-leb 1 count some,
                le-leb count most at_most,
                lt-leb count block_cells (omega arith),
              ) at asked,
            )
      ] in
      record {
        whole_card_lem = whole_card_lem;
        on_card = on_card;
        some = some;
        at_most = at_most;
        in_block = in_block;
      }

module _ (blocks most : ℕ) (ram : List ℕ) (block : Block) (count : ℕ) (perhaps : Option Refusal)
    (asked : refusal_in perhaps ≡ part_refusal blocks most (length ram) block count)
    (answer : Bool) (told : answer ≡ is_some perhaps) where
  pub part_refused : answer ≡ true → [] ≡ shown_part blocks most ram block count
  unfolding shown_part
  part_refused refused =
      rw (ne_eqb (part_refusal blocks most (length ram) block count) 0
      (λ none. some_refused perhaps (sym told ∙ refused) (asked ∙ none)))

  module _ (start words : ℕ) (none : answer ≡ false)
      (starts : start ≡ word_address block (the_cell 0)) (counted : words ≡ count) where
    shown_by : part_refusal blocks most (length ram) block count ≡ 0
    shown_by = sym asked ∙ none_refused perhaps (sym told ∙ none)

    pub part_ends : start + words ≤ length ram
    part_ends = omega (arith, shown blocks most (length ram) block count shown_by)

    pub part_shown : take (start + words - start) (drop start ram)
        ≡ shown_part blocks most ram block count
    unfolding shown_part
    part_shown =
        let long : start + words - start ≡ count = omega arith in
        rw (
          long,
          starts,
          eq-eqb (part_refusal blocks most (length ram) block count) 0 shown_by,
        )

pub ruleset parts = (part_refused, part_ends, part_shown)

-- memories that are as long as each other and have the same words there show the same part
pub same_part : (blocks most : ℕ) (ram other : List ℕ) (block : Block) (count : ℕ)
    → length ram ≡ length other
    → take count (drop (word_address block (the_cell 0)) ram)
    ≡ take count (drop (word_address block (the_cell 0)) other)
    → shown_part blocks most ram block count ≡ shown_part blocks most other block count
unfolding shown_part
same_part blocks most ram other block count long words = rw (long, words) refl
