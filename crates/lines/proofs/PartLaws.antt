-- The parts of a line: what is stored part after part is stored at once, be the parts bytes, texts
-- or digits. Assumes nothing.
use mathlib.Core.Path.{◌≡◌, refl, ap, ◌∙◌}
use mathlib.Core.List.{List, [], ◌∷◌, ◌++◌, append_assoc, append-nil}
use Prim.Native.Nat.{ℕ, zero, suc, ◌+◌, ◌-◌, ◌*◌, ◌/◌, ◌%◌, ◌≤◌, ◌<◌}
use native.Mathlib.Nat.{add-zero, add-suc, suc-add}
use native.Mathlib.Omega.{arith}
use borrow.Rule.Slice.PartMut.{put_mid}
use lib.ListN.{length, set, get_or, take, length-append}
use lib.Seq.{sets, sets-eq, length-sets, take_all}
use Rattle.std.proofs.lemmas.List.{drop-drop, take_more}
use Rattle.rules.proofs.Tabulated.{at_each_place}
use Rattle.lines.specs.Digits.{hex_digit, hex_byte, hex_word, decimal_by}
use Rattle.lines.specs.Lines.{blank, each_word}
use Rattle.lines.specs.Written.{Put, stored}
use Rattle.lines.specs.Page.{Wrote}
use Rattle.lines.specs.declared.Page.{Page}
use Rattle.lines.proofs.DecimalLaws.{no_places, one_digit, tens_and_digit}

-- ---- bytes

-- bytes that are copied to a place are stored there
pub copied : (out : List ℕ) (at end : ℕ) (bytes : List ℕ)
    → end ≡ at + length bytes → end ≤ length out
    → put_mid at (end - at) out bytes ≡ sets out at bytes
copied out at end bytes is inside =
    let count : end - at ≡ length bytes = omega arith in
    rw (count, sets-eq bytes out at (omega arith), drop-drop (length bytes) at out, append_assoc)

pub wrote_bytes : {old new : Page} (bytes : List ℕ)
    → new.out.ghost_name ≡ old.out.ghost_name
    → new.out.now ≡ sets old.out.now old.at bytes → new.at ≡ old.at + length bytes
    → Wrote (length bytes) old bytes new
unfolding stored
wrote_bytes {old} {new} bytes same bytes_are next =
    record {
      same_buffer = same;
      is_stored = cc;
      as_long = ap length bytes_are ∙ length-sets old.out.now old.at bytes;
      fits = omega arith;
    }

-- ---- one text after the other

pub sets_append : (out : List ℕ) (at : ℕ) (text more : List ℕ)
    → sets (sets out at text) (at + length text) more ≡ sets out at (text ++ more)
sets_append out at [] more = rw (add-zero at)
sets_append out at (byte ∷ text) more =
    rw (add-suc at (length text), ← suc-add at (length text))
    (sets_append (set out at byte) (suc at) text more)

-- the two parts of what a page has after a text is stored
module _ {room : ℕ} {old new : Page} {text : List ℕ} (wrote : Wrote room old text new) where
  next_is : new.at ≡ old.at + length text
  unfolding stored
  next_is = ap (λ (left : Put). left.next) wrote.is_stored

  after_is : new.out.now ≡ sets old.out.now old.at text
  unfolding stored
  after_is = ap (λ (left : Put). left.bytes) wrote.is_stored

  pub stored_then : (more : List ℕ)
      → stored new.out.now new.at more ≡ stored old.out.now old.at (text ++ more)
  unfolding stored
  stored_then more =
      let long : new.at + length more ≡ old.at + length (text ++ more) =
      omega (arith, next_is, length-append text more) in
      let bytes : sets new.out.now new.at more ≡ sets old.out.now old.at (text ++ more) =
      rw (after_is, next_is) (sets_append old.out.now old.at text more) in
      cc

pub wrote_then : {room more : ℕ} {old between new : Page} {text text' : List ℕ}
    → Wrote room old text between → Wrote more between text' new
    → Wrote (room + more) old (text ++ text') new
wrote_then {text' = text'} wrote wrote' =
    record {
      same_buffer = wrote'.same_buffer ∙ wrote.same_buffer;
      is_stored = wrote'.is_stored ∙ stored_then wrote text';
      as_long = wrote'.as_long ∙ wrote.as_long;
      fits = omega (arith, wrote.fits, wrote'.fits);
    }

-- a part that has more room than it needs
pub within : {room more : ℕ} {old new : Page} {text : List ℕ}
    → Wrote room old text new → room ≤ more → Wrote more old text new
within wrote enough =
    record {
      same_buffer = wrote.same_buffer;
      is_stored = wrote.is_stored;
      as_long = wrote.as_long;
      fits = omega (arith, wrote.fits);
    }

-- ---- hex

-- the digits, as the code lists them
pub digit_at : (number : ℕ)
    → get_or (48 ∷ 49 ∷ 50 ∷ 51 ∷ 52 ∷ 53 ∷ 54 ∷ 55 ∷ 56 ∷ 57 ∷ 65 ∷ 66 ∷ 67 ∷ 68 ∷ 69 ∷ 70 ∷ [])
    (number % 16) 0 ≡ hex_digit (number % 16)
unfolding hex_digit
digit_at number = at_each_place hex_digit _ 16 (number % 16) 0 refl (omega arith)

module _ {old new : Page} where
  pub wrote_hex_byte : (byte : ℕ) {high low : ℕ} → Wrote 2 old (high ∷ low ∷ []) new
      → high ≡ hex_digit (byte / 16 % 16) → low ≡ hex_digit (byte % 16)
      → Wrote 2 old (hex_byte byte) new
  unfolding hex_byte
  wrote_hex_byte byte wrote high_is low_is = rw (← high_is, ← low_is) wrote

  pub wrote_hex_word : (word : ℕ) {first second third fourth : ℕ}
      → Wrote 4 old (first ∷ second ∷ third ∷ fourth ∷ []) new
      → first ≡ hex_digit (word / 4096 % 16) → second ≡ hex_digit (word / 256 % 16)
      → third ≡ hex_digit (word / 16 % 16) → fourth ≡ hex_digit (word % 16)
      → Wrote 4 old (hex_word word) new
  unfolding hex_word
  wrote_hex_word word wrote is is' is'' is''' = rw (← is, ← is', ← is'', ← is''') wrote

-- ---- each word after a blank

each_word_append : (words more : List ℕ)
    → each_word (words ++ more) ≡ each_word words ++ each_word more
unfolding each_word
each_word_append [] more = refl
each_word_append (word ∷ words) more =
    rw (
      each_word_append words more,
      append_assoc (hex_word word) (each_word words) (each_word more),
    )

each_word_one : (word : ℕ) → each_word (word ∷ []) ≡ blank ∷ hex_word word
unfolding each_word
each_word_one word = rw (append-nil (hex_word word))

each_word_more : (words : List ℕ) (index : ℕ) → index < length words
    → each_word (take (index + 1) words)
    ≡ each_word (take index words) ++ (blank ∷ hex_word (get_or words index 0))
each_word_more words index inside =
    rw (
      take_more words index 0 inside,
      each_word_append (take index words) (get_or words index 0 ∷ []),
      each_word_one (get_or words index 0),
    )

nothing_wrote : (page : Page) → Wrote 0 page [] page
unfolding stored
nothing_wrote page =
    record {
      same_buffer = refl;
      is_stored = rw (add-zero page.at);
      as_long = refl;
      fits = omega arith;
    }

pub words_none : (page : Page) (words : List ℕ) → Wrote 0 page (each_word (take 0 words)) page
unfolding each_word
words_none page words = nothing_wrote page

-- one word more
pub words_more : {old between after new : Page} (words : List ℕ) (index : ℕ)
    → Wrote (5 * index) old (each_word (take index words)) between
    → Wrote 1 between (blank ∷ []) after
    → Wrote 4 after (hex_word (get_or words index 0)) new
    → index < length words
    → Wrote (5 * (index + 1)) old (each_word (take (index + 1) words)) new
words_more words index before mark digits inside =
    rw (each_word_more words index inside)
    (within (wrote_then before (wrote_then mark digits)) (omega arith))

pub words_end : {old new : Page} (words : List ℕ) (index : ℕ)
    → Wrote (5 * index) old (each_word (take index words)) new
    → index ≤ length words → length words ≤ index
    → Wrote (5 * length words) old (each_word words) new
words_end words index wrote inside all =
    within (rw (take_all index words all) at wrote) (omega arith)

-- ---- decimal: one digit more

pub digits_none : (page : Page) (places number : ℕ) → places ≡ 0
    → Wrote places page (decimal_by places number) page
digits_none page places number none = rw (none, no_places number) (nothing_wrote page)

module _ {old new : Page} where
  pub digits_last : (places number : ℕ) → Wrote 1 old ((48 + number % 10) ∷ []) new
      → (places ≡ 0 → ⊥) → number < 10 → Wrote places old (decimal_by places number) new
  digits_last zero number wrote some below = absurd (some refl)
  digits_last (suc places) number wrote some below =
      let digit : number % 10 ≡ number = omega arith in
      rw (one_digit places number below) (within (rw digit at wrote) (omega arith))

  pub digits_more : {between : Page} (places number : ℕ)
      → Wrote (places - 1) old (decimal_by (places - 1) (number / 10)) between
      → Wrote 1 between ((48 + number % 10) ∷ []) new
      → (places ≡ 0 → ⊥) → 10 ≤ number → Wrote places old (decimal_by places number) new
  digits_more zero number tens digit some above = absurd (some refl)
  digits_more {between} (suc places) number tens digit some above =
      let fewer : suc places - 1 ≡ places = omega arith in
      let before : Wrote places old (decimal_by places (number / 10)) between = rw fewer at tens in
      rw (tens_and_digit places number above) (within (wrote_then before digit) (omega arith))
