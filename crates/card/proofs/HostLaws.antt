-- The laws of `specs/Host.antt`: what `write_words` copies is all that is stored. Assumes nothing.
use Rattle.std.proofs.Common.{
  ◌≡◌,
  ℕ,
  suc,
  ◌+◌,
  ◌-◌,
  ◌≤◌,
  min,
  List,
  [],
  ◌∷◌,
  length,
  take,
  set,
  sym,
  refl,
  ◌∙◌,
  arith,
  append_assoc,
  length-set,
  length-take,
  take_all,
}
use native.Mathlib.Decide.{dec_lt, dec_le}
use lib.Seq.{sets, sets-eq, set_out, drop-drop}
use borrow.Rule.Slice.PartMut.{put_mid}

-- past the end of memory nothing is stored
none_stored : (words ram : List ℕ) (address : ℕ) → length ram ≤ address
    → sets ram address words ≡ ram
none_stored [] ram address past = refl
none_stored (word ∷ words) ram address past =
    rw (set_out ram address word past) (none_stored words ram (suc address) (omega arith))

-- the words that memory has a place for are all that is stored
placed : (words ram : List ℕ) (address : ℕ)
    → sets ram address (take (length ram - address) words) ≡ sets ram address words
placed [] ram address = rw (take_all {A = ℕ} (length ram - address) [] (omega arith))
placed (word ∷ words) ram address =
    elim (dec_lt address (length ram)) [
      | yes inside ↦
          let more : length ram - address ≡ suc (length (set ram address word) - suc address) =
          omega (arith, length-set ram address word) in
          rw more (placed words (set ram address word) (suc address))
      | no past ↦
          rw (
            none_stored (take (length ram - address) (word ∷ words)) ram address (omega arith),
            none_stored (word ∷ words) ram address (omega arith),
          )
    ]

-- a copy of the words that memory has a place for, to where they begin or memory ends
pub copied : (ram words part : List ℕ) (address first count : ℕ)
    → first ≡ min address (length ram) → count ≡ min (length words) (length ram - first)
    → part ≡ take count words
    → put_mid first (first + count - first) ram part ≡ sets ram address words
copied ram words part address first count begins few is =
    let long : length part ≡ count = rw is (length-take count words ∙ omega (arith, few)) in
    let more : first + count - first ≡ count = omega arith in
    let fits : first + length part ≤ length ram = omega arith in
    let pasted : put_mid first (first + count - first) ram part ≡ sets ram first part =
    rw (more, drop-drop count first ram, sets-eq part ram first fits, long, append_assoc) in
    elim (dec_lt address (length ram)) [
      | yes inside ↦
          let here : first ≡ address = omega arith in
          let there : take count words ≡ take (length ram - address) words =
          elim (dec_le (length words) (length ram - address)) [
            | yes fit ↦
                rw (
                  take_all count words (omega arith),
                  take_all (length ram - address) words fit,
                )
            | no over ↦
                let room : count ≡ length ram - address = omega arith in
                rw room
          ] in
          pasted ∙ rw (here, is, there) (placed words ram address)
      | no past ↦
          pasted
          ∙ none_stored part ram first (omega arith)
          ∙ sym (none_stored words ram address (omega arith))
    ]
