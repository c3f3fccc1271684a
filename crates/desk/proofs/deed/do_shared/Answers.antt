-- `desk::deed::do_shared`: the words of a write are those that its field names. Assumes nothing.
use Rattle.std.proofs.Common.{◌≡◌}
use Rattle.recording.specs.declared.field.Field.TheVariants.{HostWrite}
use Rattle.recording.specs.Value.{valued_at}
use Rattle.recording.proofs.WordsLaws.{words_written}
use Rattle.desk.specs.declared.field.Field.TheVariants.{Shared}
use Rattle.desk.specs.Deed.{shared_deed}
use Rattle.desk.proofs.deed.do_shared.Goals as goal

pub returns-in-HostWrite : goal.returns-in-HostWrite
unfolding shared_deed valued_at
returns-in-HostWrite c =
    let is = c.in-HostWrite in
    let named : Shared c.args.field ≡ Shared (HostWrite is.address is.first is.count) =
    rw is.is in
    rw (
      is.is,
      c.write_words.ensures,
      words_written c.args.ram.now c.args.window.now is.address is.first is.count
          (c.requires.few is.address is.first is.count named)
          (c.requires.there is.address is.first is.count named),
    )
