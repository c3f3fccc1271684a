-- Each public contract of the crate allows one outcome alone: one answer, one controller, and one
-- content of every cell that was lent. Assumes nothing.
use Rattle.std.proofs.Common.{◌≡◌, ℕ, List, Option, Result, ap, ap₂}
use Rattle.rules.proofs.Determined.{Determined, DeterminedAs, same}
use Rattle.refusals.specs.declared.Refusal.{Refusal}
use Rattle.refusals.specs.Number.{refused, outcome_in}
use Rattle.refusals.proofs.NumberLaws.{same_refusal, same_answer}
use Rattle.controller.specs.declared.state.Came.{Came}
use Rattle.controller.specs.declared.state.Controller.{Controller}
use Rattle.controller.specs.declared.start.Given.{Given}
use Rattle.controller.specs.State.{Desk, desk}
use Rattle.controller.specs.Start.{Started, started_as}
use Rattle.controller.specs.Heard.{Heard, heard_as}
use Rattle.controller.specs.Actions.{After, after}
use Rattle.controller.proofs.state.Controller.setup.Kinds as setup_kinds
use Rattle.controller.proofs.state.Controller.setup.Reads as setup_reads
use Rattle.controller.proofs.state.Controller.begin.Kinds as begin_kinds
use Rattle.controller.proofs.state.Controller.begin.Reads as begin_reads
use Rattle.controller.proofs.state.Controller.start.Kinds as start_kinds
use Rattle.controller.proofs.state.Controller.start.Reads as start_reads
use Rattle.controller.proofs.state.Controller.hear_word.Kinds as hear_word_kinds
use Rattle.controller.proofs.state.Controller.hear_word.Reads as hear_word_reads
use Rattle.controller.proofs.state.Controller.hear_silence.Kinds as hear_silence_kinds
use Rattle.controller.proofs.state.Controller.hear_silence.Reads as hear_silence_reads
use Rattle.controller.proofs.state.Controller.words_wanted.Kinds as words_wanted_kinds
use Rattle.controller.proofs.state.Controller.words_wanted.Reads as words_wanted_reads
use Rattle.controller.proofs.state.Controller.set_taken.Kinds as set_taken_kinds
use Rattle.controller.proofs.state.Controller.set_taken.Reads as set_taken_reads
use Rattle.controller.proofs.state.Controller.word.Kinds as word_kinds
use Rattle.controller.proofs.state.Controller.word.Reads as word_reads
use Rattle.controller.proofs.state.Controller.silence.Kinds as silence_kinds
use Rattle.controller.proofs.state.Controller.silence.Reads as silence_reads
use Rattle.controller.proofs.given.refusal.Kinds as given_refusal_kinds
use Rattle.controller.proofs.given.refusal.Reads as given_refusal_reads
use Rattle.controller.proofs.given.part.Kinds as given_part_kinds
use Rattle.controller.proofs.given.part.Reads as given_part_reads

-- ---- what an action answers and leaves, told from its number, what it gives back and the desk

abbrev Outcome : Type 0 → Type 0 → Type 0
Outcome A Left = Result (Option A) Refusal × Left

started_told : (one other : Result (Option Given) Refusal) (left left' : Desk)
    → started_as (refused one) (outcome_in one) left
    ≡ started_as (refused other) (outcome_in other) left'
    → ◌≡◌ {A = Outcome Given Controller} (one, left.state) (other, left'.state)
started_told one other left left' is =
    ap₂ (λ (any : Result (Option Given) Refusal) (new : Controller). (any, new))
    (same_answer one other (ap (λ (any : Started). any.refusal) is)
    (ap (λ (any : Started). any.given) is))
    (ap (λ (any : Started). any.desk.state) is)

answer_told : (one other : Result (Option Came) Refusal) (left left' : Desk)
    → after (refused one) (outcome_in one) left ≡ after (refused other) (outcome_in other) left'
    → ◌≡◌ {A = Outcome Came Desk} (one, left) (other, left')
answer_told one other left left' is =
    ap₂ (λ (any : Result (Option Came) Refusal) (new : Desk). (any, new))
    (same_answer one other (ap (λ (any : After). any.refusal) is)
    (ap (λ (any : After). any.result) is))
    (ap (λ (any : After). any.desk) is)

-- ---- the functions

pub setup : Determined 0 setup_kinds.ps setup_kinds.r setup_reads.Post
setup κs arguments result result' exit exit' = same

-- a memory that is only read is no part of what is left
pub begin :
    DeterminedAs 2 begin_kinds.ps begin_kinds.r begin_reads.Post (Outcome Given Controller)
    (λ κs result exit. (result, exit.0.now))
begin κs arguments result result' exit exit' is is' =
    started_told result result' _ _ (same is is')

pub start :
    DeterminedAs 2 start_kinds.ps start_kinds.r start_reads.Post (Outcome Given Controller)
    (λ κs result exit. (result, exit.0.now))
start κs arguments result result' exit exit' is is' =
    started_told result result' _ _ (same is is')

pub hear_word :
    DeterminedAs 2 hear_word_kinds.ps hear_word_kinds.r hear_word_reads.Post Heard
    (λ κs result exit. heard_as result (desk exit.0.now exit.1.0.now))
hear_word κs arguments result result' exit exit' = same

pub hear_silence :
    DeterminedAs 2 hear_silence_kinds.ps hear_silence_kinds.r hear_silence_reads.Post
    (Option Came × Controller) (λ κs result exit. (result, exit.0.now))
hear_silence κs arguments result result' exit exit' is is' =
    ap (λ (any : Heard). (any.result, any.desk.state)) (same is is')

pub words_wanted : Determined 1 words_wanted_kinds.ps words_wanted_kinds.r words_wanted_reads.Post
words_wanted κs arguments result result' exit exit' = same

pub set_taken :
    DeterminedAs 1 set_taken_kinds.ps set_taken_kinds.r set_taken_reads.Post Controller
    (λ κs result exit. exit.0.now)
set_taken κs arguments result result' exit exit' = same

pub word :
    DeterminedAs 2 word_kinds.ps word_kinds.r word_reads.Post (Outcome Came Desk)
    (λ κs result exit. (result, desk exit.0.now exit.1.0.now))
word κs arguments result result' exit exit' is is' = answer_told result result' _ _ (same is is')

pub silence :
    DeterminedAs 2 silence_kinds.ps silence_kinds.r silence_reads.Post (Outcome Came Controller)
    (λ κs result exit. (result, exit.0.now))
silence κs arguments result result' exit exit' is is' =
    ap (λ (any : Outcome Came Desk). (any.0, any.1.state))
    (answer_told result result' _ _ (same is is'))

pub given_refusal :
    Determined 1 given_refusal_kinds.ps given_refusal_kinds.r given_refusal_reads.Post
given_refusal κs arguments result result' exit exit' one other =
    same_refusal result result' (same one other)

pub given_part :
    DeterminedAs 1 given_part_kinds.ps given_part_kinds.r given_part_reads.Post (List ℕ)
    (λ κs result exit. result.now)
given_part κs arguments result result' exit exit' = same
