-- `desk::reading::read_field` meets its contract, tag by tag. Assumes nothing.
use Rattle.std.proofs.Common.{◌≡◌, Err, not, arith, rules}
use Rattle.desk.proofs.ReadingLaws.{own_whole, readings}
use Rattle.desk.proofs.reading.read_field.Goals as goal

pub returns-then-bytes-place : goal.returns-then-bytes-place
returns-then-bytes-place c = search (rules, readings)

pub returns-in_err-own_stands-in-10 : goal.returns-in_err-own_stands-in-10
returns-in_err-own_stands-in-10 c =
    let is : c.from_residual.result ≡ Err c.in_err-own_stands-in-10.field-0.0 = search rules in
    rw is (search (rules, c.in_err-own_stands-in-10.ensures, readings))

pub bounds-bytes-place-in-10 : goal.bounds-bytes-place-in-10
bounds-bytes-place-in-10 c =
    omega (
      arith,
      own_whole c.args.bytes.now c.args.place 4
          (not c.args.seen.setup) (search (rules, c.in_ok-own_stands-in-10.ensures)),
    )

pub bounds-bytes-place-in-10-2 : goal.bounds-bytes-place-in-10-2
bounds-bytes-place-in-10-2 c =
    omega (
      arith,
      own_whole c.args.bytes.now c.args.place 4
          (not c.args.seen.setup) (search (rules, c.in_ok-own_stands-in-10.ensures)),
    )

pub bounds-bytes-place-in-10-3 : goal.bounds-bytes-place-in-10-3
bounds-bytes-place-in-10-3 c =
    omega (
      arith,
      own_whole c.args.bytes.now c.args.place 4
          (not c.args.seen.setup) (search (rules, c.in_ok-own_stands-in-10.ensures)),
    )

pub bounds-bytes-place-in-10-4 : goal.bounds-bytes-place-in-10-4
bounds-bytes-place-in-10-4 c =
    omega (
      arith,
      own_whole c.args.bytes.now c.args.place 4
          (not c.args.seen.setup) (search (rules, c.in_ok-own_stands-in-10.ensures)),
    )

pub returns-in_ok-own_stands-in-10 : goal.returns-in_ok-own_stands-in-10
returns-in_ok-own_stands-in-10 c =
    search (rules, c.in_ok-own_stands-in-10.ensures, readings)

pub returns-in_err-own_stands-in-11 : goal.returns-in_err-own_stands-in-11
returns-in_err-own_stands-in-11 c =
    let is : c.from_residual-in_err-own_stands-in-11.result
    ≡ Err c.in_err-own_stands-in-11.field-0.0 = search rules in
    rw is (search (rules, c.in_err-own_stands-in-11.ensures, readings))

pub returns-in_ok-own_stands-in-11 : goal.returns-in_ok-own_stands-in-11
returns-in_ok-own_stands-in-11 c =
    search (rules, c.in_ok-own_stands-in-11.ensures, readings)

pub returns-in_default : goal.returns-in_default
returns-in_default c = search (rules, readings)

pub returns-in_default-2 : goal.returns-in_default-2
returns-in_default-2 c = search (rules, readings)
