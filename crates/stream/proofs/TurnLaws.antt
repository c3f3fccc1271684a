-- A turn of a program: a call, and what it leaves to do. So far has the program come then, or it is
-- over (`after_turn`). Assumes nothing.
use mathlib.Core.Path.{◌≡◌, refl, sym, ap, subst, ◌∙◌}
use mathlib.Core.Logic.{◌≢◌}
use mathlib.Core.Bool.{Bool, true, false, true≢false}
use mathlib.Core.List.{List, [], ◌∷◌, ◌++◌, append-nil}
use Prim.Native.Nat.{ℕ, suc, ◌≤◌, ◌<◌}
use native.Mathlib.Omega.{arith}
use lib.ListN.{length, take, length-drop}
use Rattle.std.specs.Prelude.{Option, Some, None, IfSome, Result, Ok, Err, IsErr, OnOk}
use Rattle.std.specs.Io.KnownBytes.{Appends, Consumes, IsAtEnd}
use Rattle.pieces.specs.declared.window.Passed.{Passed as HeldPassed}
use Rattle.pieces.specs.declared.stop.Stop.{Stop}
use Rattle.pieces.specs.declared.stop.Stop.TheVariants.{Going, Hungry, Full, Over}
use Rattle.pieces.specs.Course.{Course}
use Rattle.pieces.specs.Whole.{Whole, whole, with_line, whole_from}
use Rattle.pieces.specs.Steady.{Steady}
use Rattle.pieces.specs.AsCoded.Window.{Passed, is_going, window_run}
use Rattle.pieces.specs.AsCoded.Pieces.{lines_put}
use Rattle.pieces.specs.AsCoded.Runner.{passed_of}
use Rattle.pieces.proofs.EndLaws.{call_stops, full_after_a_field}
use Rattle.pieces.proofs.HungryLaws.{hungry_few}
use Rattle.pieces.proofs.WindowLaws.{call_is_over}
use Rattle.pieces.proofs.PieceLaws.{streamed_prints}
use Rattle.stream.specs.Progress.{
  buffer_bytes,
  Far,
  after_call,
  with_piece,
  at_end,
  Progressed,
  takes,
  feeds,
  finds_end,
}
use Rattle.stream.specs.Came.{LastCall, Came, finished, broken_off, unread}
use Rattle.stream.specs.Known.{PrintedAll}
use Rattle.stream.specs.AsCoded.Turns.{Left, behind, Settled, Turned}
use Rattle.stream.specs.AsCoded.Turns as turn
use Rattle.stream.proofs.KnownLaws.{consumes_more, appends_more}
use Rattle.stream.proofs.ProgressLaws.{progressed_streamed}

-- ---- how the code comes to it

-- of a turn that fails no line has to be written
pub none_written : {Error : Type 0} (Wrote : Type 0) (told : Result Bool Error) → IsErr told
    → OnOk told Wrote
none_written Wrote (Ok over) failed = absurd (true≢false (sym failed))
none_written Wrote (Err error) failed = tt

module _ {Run Error : Type 0} (course : Course Run) (old : Run) (left : Left) (out : List ℕ)
    (new : Run) (passed : HeldPassed) (out' bytes : List ℕ) (ended : Bool)
    (few : length left.bytes ≤ buffer_bytes) (is_bytes : bytes ≡ left.bytes)
    (is_ended : ended ≡ left.ended)
    (is : passed_of new passed out' ≡ window_run course old bytes ended out) where
  pub turned : (left' : Left) (given given' held held' : Option (List ℕ)) (told : Result Bool Error)
      → OnOk told (Appends held held' (lines_put (passed_of new passed out')))
      → Settled (passed_of new passed out') left left' given given' told
      → Turned course old left out new left' given given' held held' told
  turned left' given given' held held' told written settled =
      let is_call : passed_of new passed out' ≡ window_run course old left.bytes left.ended out =
      is ∙ rw (is_bytes, is_ended) refl in
      record {
        few = few;
        is_new = ap (λ (call : Passed Run). call.run) is_call;
        written =
            subst (λ (call : Passed Run). OnOk told (Appends held held' (lines_put call))) is_call
            written;
        settled =
            subst (λ (call : Passed Run). Settled call left left' given given' told) is_call
            settled;
      }

  -- .. and one that fails, though not all lines of its call were written
  pub broken : (left' : Left) (given given' held held' : Option (List ℕ)) (told : Result Bool Error)
      → IsErr told
      → Settled (passed_of new passed out') left left' given given' told
      → Turned course old left out new left' given given' held held' told
  broken left' given given' held held' told failed settled =
      turned left' given given' held held' told (none_written _ told failed) settled

-- nothing is put where no line is
pub some_put : (out : List ℕ) (into : ℕ) → take into out ≢ [] → into ≢ 0
some_put out into some nothing = some (rw nothing refl)

-- something is put where there is no room for it
pub past_put : (room into : ℕ) → room < into → into ≢ 0
past_put room into past nothing = omega (arith, past, nothing)

-- ---- how far it has come

-- what is known of the bytes that the input has yet to give, and of those that the output holds
pub record Known : Type 0 where
  pub given : Option (List ℕ)
  pub held : Option (List ℕ)

-- in so many turns some input was read and some text printed, and so much is left
pub record Reached {Run : Type 0} (course : Course Run) (start : Run) (before : Known)
    (turns : ℕ) (new : Run) (left : Left) (known : Known) : Type 0 where
  pub input : List ℕ
  pub text : List ℕ
  pub progressed : Progressed course start turns
      (record {
        ended = left.ended;
        input = input;
        text = text;
        run = new;
        window = left.bytes;
      })
  pub read : Consumes before.given known.given input
  pub at_end : left.ended ≡ true → IsAtEnd known.given
  pub wrote : Appends before.held known.held text

-- a run that is over, and whole
pub record Ended {Run : Type 0} (course : Course Run) (start : Run) (before : Known) (new : Run)
    (known : Known) : Type 0 where
  pub came : Came course start new true
  pub printed : IfSome before.given (PrintedAll course start new before.held known.held)

-- the program goes on, or it is over, and its run whole or not
abbrev pub After : {Run Error : Type 0} → Course Run → Run → Known → ℕ → Run → Left → Known
    → Result Bool Error → Type 0
After course start before turns new left known (Ok false) =
    Reached course start before turns new left known
After course start before turns new left known (Ok true) = Ended course start before new known
After course start before turns new left known (Err error) = Came course start new false

by_failure : {Run Error : Type 0} (course : Course Run) (start : Run) (before : Known) (turns : ℕ)
    (new : Run) (left : Left) (known : Known) (told : Result Bool Error) → IsErr told
    → Came course start new false → After course start before turns new left known told
by_failure course start before turns new left known (Ok over) failed came =
    absurd (true≢false (sym failed))
by_failure course start before turns new left known (Err error) failed came = came

-- a call that neither goes on nor is over nor needs bytes had no room for another line
is_full : (stop : Stop) → is_going stop ≡ false → stop ≢ Over → stop ≢ Hungry → stop ≡ Full
is_full Going goes ends waits = absurd (true≢false goes)
is_full Hungry goes ends waits = absurd (waits refl)
is_full Full goes ends waits = refl
is_full Over goes ends waits = absurd (ends refl)

module _ {Run Error : Type 0} (course : Course Run) {longest : ℕ} (steady : Steady course longest)
    (short : longest ≤ buffer_bytes) {start old : Run} {before known known' : Known} {turns : ℕ}
    {left : Left} (out : List ℕ) (long : length out ≡ buffer_bytes)
    (so_far : Reached course start before turns old left known) {new : Run}
    {left' : Left} {told : Result Bool Error}
    (turned_lem : Turned course old left out new left' known.given known'.given known.held
    known'.held told) where
  -- before the call
  far : Far Run
  far =
      record {
        ended = left.ended;
        input = so_far.input;
        text = so_far.text;
        run = old;
        window = left.bytes;
      }

  call : Passed Run
  call = window_run course old left.bytes left.ended out

  -- the call, where it is the last
  last : LastCall course start new
  unfolding far
  last =
      record {
        turns = turns;
        before = far;
        progressed = so_far.progressed;
        out = out;
        is_new = turned_lem.is_new;
      }

  reached : (next : Far Run) → Progressed course start (suc turns) next
      → next.run ≡ (after_call course far out).run → next.window ≡ left'.bytes
      → next.ended ≡ left'.ended → Consumes before.given known'.given next.input
      → (left'.ended ≡ true → IsAtEnd known'.given)
      → Appends before.held known'.held next.text
      → Reached course start before (suc turns) new left' known'
  unfolding far
  reached next progressed is_run is_left is_ended read at_end wrote =
      rw (turned_lem.is_new ∙ sym is_run)
      (record {
        input = next.input;
        text = next.text;
        progressed = rw (← is_left, ← is_ended) progressed;
        read = read;
        at_end = at_end;
        wrote = wrote;
      })

  -- all that the input had to give is printed
  is_printed : (call).stop ≡ Over
      → Appends before.held known'.held (so_far.text ++ lines_put (call))
      → IfSome before.given (PrintedAll course start new before.held known'.held)
  unfolding call
  is_printed is wrote = go before.given known.given so_far.read so_far.at_end where
    go : (given given' : Option (List ℕ)) → Consumes given given' so_far.input
        → (left.ended ≡ true → IsAtEnd given')
        → IfSome given (PrintedAll course start new before.held known'.held)
    go None given' read none = tt
    go (Some bytes) None read none = absurd read
    go (Some bytes) (Some rest) read none =
        let as_whole : whole_from course start bytes
        ≡ whole (so_far.text ++ lines_put (call)) (call).run =
        ap (whole_from course start) read
        ∙ streamed_prints course steady start left.ended so_far.input so_far.text old left.bytes
        (progressed_streamed course steady so_far.progressed) rest none
        ∙ ap (with_line so_far.text)
        (call_is_over course steady left.bytes rest left.ended none old out is) in
        record {
          is_text = rw as_whole wrote;
          is_new = turned_lem.is_new ∙ sym (ap (λ (any : Whole Run). any.run) as_whole);
        }

  pub after_turn : After course start before (suc turns) new left' known' told
  unfolding far call last
  after_turn = go turned_lem.settled where
    wrote : {over : Bool} → told ≡ Ok over
        → Appends before.held known'.held (so_far.text ++ lines_put (call))
    wrote is_told =
        appends_more before.held known.held known'.held so_far.text (lines_put (call)) so_far.wrote
        (rw is_told at turned_lem.written)

    go : Settled (call) left left' known.given known'.given told
        → After course start before (suc turns) new left' known' told
    go (turn.breaks_off some kept unread_lem failed) =
        by_failure course start before (suc turns) new left' known' told failed
        (broken_off last some)
    go (turn.unread is is_left failed) =
        by_failure course start before (suc turns) new left' known' told failed (unread last is)
    go (turn.ends is is_left same is_told) =
        let printed = is_printed is (wrote is_told) in
        rw is_told (record { came = finished last is; printed = printed })
    go (turn.stays over hungry is_left same is_told) =
        let all = wrote is_told in
        let full : (call).stop ≡ Full =
        is_full (call).stop
        (call_stops course steady left.bytes left.ended old out
        (omega (arith, turned_lem.few))) over hungry in
        rw is_told
        (reached (after_call course far out)
        (takes out so_far.progressed full
        (full_after_a_field course steady left.bytes left.ended old out (omega (arith, long))
        full))
        refl (ap (λ (any : Left). any.bytes) (sym is_left))
        (ap (λ (any : Left). any.ended) (sym is_left))
        (rw same so_far.read) (rw (same, is_left) so_far.at_end) all)
    go (turn.reads {after = after} is is_after room read is_told) =
        rw is_told (by_piece (wrote is_told) read.piece (rw is_after at read.is_new) read.is_given
        (rw is_after at read.at_end)) where
          more : (piece : List ℕ) → Consumes known.given known'.given piece
              → Consumes before.given known'.given (so_far.input ++ piece)
          more piece consumed =
              consumes_more before.given known.given known'.given so_far.input piece so_far.read
              consumed

          by_piece : Appends before.held known'.held (so_far.text ++ lines_put (call))
              → (piece : List ℕ) → left' ≡ turn.with_piece piece (behind (call).at left)
              → Consumes known.given known'.given piece
              → (piece ≡ [] → length (behind (call).at left).bytes < buffer_bytes
              → IsAtEnd known'.given)
              → Reached course start before (suc turns) new left' known'
          by_piece all [] is_left consumed at_end_lem =
              let room : length (behind (call).at left).bytes < buffer_bytes =
              omega (
                arith,
                short,
                hungry_few course steady left.bytes left.ended old out is,
                length-drop (call).at left.bytes,
              ) in
              reached (at_end (after_call course far out))
              (finds_end out so_far.progressed is room)
              refl (sym (append-nil _) ∙ ap (λ (any : Left). any.bytes) (sym is_left))
              (ap (λ (any : Left). any.ended) (sym is_left))
              (rw append-nil at (more [] consumed)) (λ ended. at_end_lem refl room) all
          by_piece all (byte ∷ rest) is_left consumed at_end_lem =
              reached (with_piece (after_call course far out) (byte ∷ rest))
              (feeds out (byte ∷ rest) so_far.progressed is (omega arith))
              refl (ap (λ (any : Left). any.bytes) (sym is_left))
              (ap (λ (any : Left). any.ended) (sym is_left))
              (more (byte ∷ rest) consumed)
              (λ ended. absurd (true≢false (sym ended ∙ ap (λ (any : Left). any.ended) is_left)))
              all
