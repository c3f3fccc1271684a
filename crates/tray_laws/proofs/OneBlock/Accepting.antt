-- What accepted bytes tell: behind a setup events alone (`rest_are_events`), and a recording a
-- setup first (`first_is_setup`). Assumes nothing.
use mathlib.Core.Path.{◌≡◌, refl, sym, ap, ◌∙◌}
use mathlib.Core.Bool.{true, false, true≢false, not}
use mathlib.Core.List.{List, [], ◌∷◌}
use Prim.Native.Nat.{ℕ}
use Rattle.terminal.specs.Event.{Event}
use Rattle.recording.specs.declared.field.Field.{Field}
use Rattle.recording.specs.declared.field.Field.TheVariants.{
  Setup,
  Word,
  Silence,
  ReadQueue,
  HostWrite,
  MoveTable,
  SetFlags,
}
use Rattle.recording.specs.declared.seen.Seen.{Seen}
use Rattle.recording.specs.Field.{is_setup}
use Rattle.recording.specs.Seen.{nothing_seen}
use Rattle.recording.specs.Value.{Valued, valued_at}
use Rattle.recording.specs.Accepted.{no_more, a_field, Accepted}
use Rattle.recording.proofs.TakenLaws.{setup_by_turn, setup_seen_after}
use Rattle.tray.specs.Happening.{Happening, setup, event, happening_of, happenings}
use Rattle.tray_laws.specs.OneBlock.{events}

-- a field that is no setup tells an event
record Tells (told : Happening) : Type 0 where
  event_told : Event
  is : told ≡ event event_told

no_setup_tells : (bytes : List ℕ) (field : Field) → is_setup field ≡ false
    → Tells (happening_of (valued_at bytes field))
unfolding happening_of valued_at
no_setup_tells bytes (Setup station table flags) other = absurd (true≢false other)
no_setup_tells bytes (Word marks value time) other = record { event_told = _; is = refl }
no_setup_tells bytes (Silence line time) other = record { event_told = _; is = refl }
no_setup_tells bytes ReadQueue other = record { event_told = _; is = refl }
no_setup_tells bytes (HostWrite address first count) other = record { event_told = _; is = refl }
no_setup_tells bytes (MoveTable table) other = record { event_told = _; is = refl }
no_setup_tells bytes (SetFlags flags) other = record { event_told = _; is = refl }

-- .. so that behind a setup there are events alone
pub record EventsAlone (told : List Happening) : Type 0 where
  pub all : List Event
  pub are : told ≡ events all

pub rest_are_events : {seen : Seen} {bytes : List ℕ} {fields : List Valued}
    → seen.setup ≡ true → Accepted seen bytes fields → EventsAlone (happenings fields)
unfolding events happenings
rest_are_events after_setup no_more = record { all = []; are = refl }
rest_are_events {seen} after_setup
    (a_field {bytes = bytes} {field = field} {rest = behind} is then) =
    let first =
    no_setup_tells bytes field (setup_by_turn bytes 0 seen is ∙ ap not after_setup) in
    let rest = rest_are_events (setup_seen_after bytes 0 seen is) then in
    record {
      all = first.event_told ∷ rest.all;
      are =
          ap (λ (told : Happening). told ∷ happenings behind) first.is
          ∙ ap (λ (told : List Happening). event first.event_told ∷ told) rest.are;
    }

-- a recording that tells anything tells a setup, and then events
pub record SetupFirst (told : List Happening) : Type 0 where
  pub station : ℕ
  pub table : ℕ
  pub flags : ℕ
  pub all : List Event
  pub are : told ≡ setup station table flags ∷ events all

setup_tells : (bytes : List ℕ) (field : Field) (rest : List Happening) → is_setup field ≡ true
    → EventsAlone rest → SetupFirst (happening_of (valued_at bytes field) ∷ rest)
unfolding happening_of valued_at
setup_tells bytes (Setup station table flags) rest is alone =
    record {
      station = station;
      table = table;
      flags = flags;
      all = alone.all;
      are = rw alone.are refl;
    }
setup_tells bytes (Word marks value time) rest is alone = absurd (true≢false (sym is))
setup_tells bytes (Silence line time) rest is alone = absurd (true≢false (sym is))
setup_tells bytes ReadQueue rest is alone = absurd (true≢false (sym is))
setup_tells bytes (HostWrite address first count) rest is alone =
    absurd (true≢false (sym is))
setup_tells bytes (MoveTable table) rest is alone = absurd (true≢false (sym is))
setup_tells bytes (SetFlags flags) rest is alone = absurd (true≢false (sym is))

pub first_is_setup : {bytes : List ℕ} {field : Valued} {rest : List Valued}
    → Accepted nothing_seen bytes (field ∷ rest) → SetupFirst (happenings (field ∷ rest))
unfolding happenings
first_is_setup (a_field {bytes = bytes} {field = field} {rest = rest} is then) =
    setup_tells bytes field (happenings rest) (setup_by_turn bytes 0 nothing_seen is)
    (rest_are_events (setup_seen_after bytes 0 nothing_seen is) then)
