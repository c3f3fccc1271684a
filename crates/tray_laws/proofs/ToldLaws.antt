-- The laws of `specs/Told.antt`. What accepted bytes tell can be cut at the end of every field
-- (`cut_telling`); bytes that begin alike, up to the end of a field, begin by telling the same
-- (`continues_telling`); bytes before bytes tell the one and then the other (`tells_then`). Assumes
-- nothing.
use mathlib.Core.Path.{◌≡◌, refl, sym, ap, subst, ◌∙◌}
use mathlib.Core.Bool.{Bool, true}
use mathlib.Core.List.{List, [], ◌∷◌, ◌++◌, cons≢nil}
use Prim.Native.Nat.{ℕ}
use Rattle.recording.specs.declared.seen.Seen.{Seen}
use Rattle.recording.specs.Seen.{setup_seen}
use Rattle.recording.specs.Value.{Valued}
use Rattle.recording.specs.Accepted.{seen_after_all, Accepted}
use Rattle.recording.proofs.AcceptedLaws.{
  seen_stays,
  taken_after_setup,
  accepted_then,
  same_beginning,
}
use Rattle.recording.proofs.CutLaws.{cut_at_field}
use Rattle.tray.specs.Happening.{Happening, happening_of, happenings}
use Rattle.tray_laws.specs.Told.{Tells, CutTelling, ContinuesTelling}

-- ---- what fields tell

happenings_of_append : (first second : List Valued)
    → happenings (first ++ second) ≡ happenings first ++ happenings second
unfolding happenings
happenings_of_append [] second = refl
happenings_of_append (field ∷ first) second =
    ap (λ (told : List Happening). happening_of field ∷ told) (happenings_of_append first second)

-- the fields that tell the first and those that tell the second
record Parted (fields : List Valued) (first second : List Happening) : Type 0 where
  sooner : List Valued
  later : List Valued
  parts : fields ≡ sooner ++ later
  sooner_tell : happenings sooner ≡ first
  later_tell : happenings later ≡ second

parted : (fields : List Valued) (first second : List Happening)
    → happenings fields ≡ first ++ second → Parted fields first second
unfolding happenings
parted fields [] second is =
    record { sooner = []; later = fields; parts = refl; sooner_tell = refl; later_tell = is }
parted [] (told ∷ first) second is = absurd (cons≢nil (sym is))
parted (field ∷ rest) (told ∷ first) second is =
    let behind = parted rest first second (tail_of is) in
    record {
      sooner = field ∷ behind.sooner;
      later = behind.later;
      parts = ap (λ (fields : List Valued). field ∷ fields) behind.parts;
      sooner_tell =
          ap (λ (one : Happening). one ∷ happenings behind.sooner) (head_of is)
          ∙ ap (λ (others : List Happening). told ∷ others) behind.sooner_tell;
      later_tell = behind.later_tell;
    }
  where
    head_of : {one other : Happening} {ones others : List Happening}
        → one ∷ ones ≡ other ∷ others → one ≡ other
    head_of same = cc

    tail_of : {one other : Happening} {ones others : List Happening}
        → one ∷ ones ≡ other ∷ others → ones ≡ others
    tail_of same = cc

-- ---- one behind the other

pub tells_then : {seen : Seen} {front back : List ℕ} {first second : List Happening}
    → (beginning : Tells seen front first)
    → Tells (seen_after_all beginning.fields seen) back second
    → Tells seen (front ++ back) (first ++ second)
tells_then {first = first} beginning behind =
    record {
      fields = beginning.fields ++ behind.fields;
      accepted = accepted_then beginning.accepted behind.accepted;
      are =
          happenings_of_append beginning.fields behind.fields
          ∙ ap (λ (told : List Happening). told ++ happenings behind.fields) beginning.are
          ∙ ap (λ (told : List Happening). first ++ told) behind.are;
    }

-- .. where a setup has been seen
tells_after_setup : {seen : Seen} {bytes : List ℕ} {told : List Happening} → seen.setup ≡ true
    → Tells setup_seen bytes told → Tells seen bytes told
tells_after_setup {bytes = bytes} {told = told} is =
    subst (λ (seen : Seen). Tells seen bytes told)
    (ap (λ (setup : Bool). record { setup = setup }) (sym is))

pub tells_behind : {front back : List ℕ} {first second : List Happening}
    → Tells setup_seen front first → Tells setup_seen back second
    → Tells setup_seen (front ++ back) (first ++ second)
tells_behind beginning behind =
    tells_then beginning (tells_after_setup (seen_stays setup_seen beginning.fields refl) behind)

-- .. and where the first field is one
pub tells_first : {seen : Seen} {front back : List ℕ} {told : Happening}
    {first second : List Happening}
    → Tells seen front (told ∷ first) → Tells setup_seen back second
    → Tells seen (front ++ back) (told ∷ (first ++ second))
unfolding happenings
tells_first {seen} beginning behind =
    tells_then beginning
    (tells_after_setup (some_told beginning.fields beginning.accepted beginning.are)
    behind)
  where
    some_told : {bytes : List ℕ} {one : Happening} {others : List Happening} (fields : List Valued)
        → Accepted seen bytes fields → happenings fields ≡ one ∷ others
        → (seen_after_all fields seen).setup ≡ true
    some_told [] accepted is = absurd (cons≢nil (sym is))
    some_told (field ∷ rest) accepted is = taken_after_setup accepted

-- ---- the cut

pub cut_telling : {seen : Seen} {bytes : List ℕ} (first second : List Happening)
    → Tells seen bytes (first ++ second) → CutTelling seen bytes first second
cut_telling {seen} {bytes} first second all =
    let part = parted all.fields first second all.are in
    let cut =
    cut_at_field part.sooner part.later
    (subst (Accepted seen bytes) part.parts all.accepted) in
    record {
      front = cut.front;
      back = cut.back;
      parts = cut.parts;
      front_tells =
          record {
            fields = part.sooner;
            accepted = cut.front_accepted;
            are = part.sooner_tell;
          };
      back_tells =
          record {
            fields = part.later;
            accepted = cut.back_accepted;
            are = part.later_tell;
          };
    }

pub continues_telling : {seen : Seen} (front back : List ℕ) {first told : List Happening}
    (beginning : Tells seen front first) → Tells seen (front ++ back) told
    → ContinuesTelling back beginning told
continues_telling front back beginning all =
    let goes_on = same_beginning front back beginning.accepted all.accepted in
    record {
      second = happenings goes_on.second;
      are =
          sym all.are ∙ ap happenings goes_on.are
          ∙ happenings_of_append beginning.fields goes_on.second
          ∙ ap (λ (told : List Happening). told ++ happenings goes_on.second)
          beginning.are;
      back_tells =
          record {
            fields = goes_on.second;
            accepted = goes_on.back_accepted;
            are = refl;
          };
    }
