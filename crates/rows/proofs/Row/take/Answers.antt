-- `rows::Row::take` meets its contract. Assumes nothing.
use Rattle.std.proofs.Common.{◌≡◌, true, refl, rules}
use Rattle.rows.specs.Row.{may_take}
use Rattle.rows.proofs.TakenLaws.{words_fit, words_taken_lem, takes}
use Rattle.rows.proofs.Row.take.Goals as goal

pub returns-then-not-may_take : goal.returns-then-not-may_take
returns-then-not-may_take c = search (rules, takes) depth 9

pub overflow_sub-words : goal.overflow_sub-words
overflow_sub-words c = search (rules, takes) depth 9

pub overflow_sub-result : goal.overflow_sub-result
overflow_sub-result c =
    let able : may_take c.args.self c.args.setup c.args.room c.args.most ≡ true = search rules in
    words_fit _ _ c.args.setup c.args.room _ _ _ _ _ _ able c.store-reach.ensures

pub returns : goal.returns
returns c =
    let able : may_take c.args.self c.args.setup c.args.room c.args.most ≡ true = search rules in
    words_taken_lem _ _ c.args.setup c.args.room _ _ _ _ _ _ able c.store-reach.ensures _ _
    refl refl
