-- `pieces::window::turn` meets its contract: a law for each answer. Assumes nothing.
use Rattle.std.proofs.Common.{rules, ap, ◌∙◌}
use Rattle.std.specs.Prelude.{Ok}
use Rattle.pieces.proofs.FieldLaws.{turn_full, turn_takes, turn_ends, turn_refuses}
use Rattle.pieces.proofs.window.turn.Goals.{in-Ok-None, in-Err}
use Rattle.pieces.proofs.window.turn.Goals as goal

pub returns-then-saturating_sub-lt-LINE_ROOM : goal.returns-then-saturating_sub-lt-LINE_ROOM
returns-then-saturating_sub-lt-LINE_ROOM g c = search (rules, turn_full) depth 9

pub returns-in-Ok-Some : goal.returns-in-Ok-Some
returns-in-Ok-Some g c =
    record {
      same_buffer = c.take_field.ensures.same_buffer;
      is_wanted =
          turn_takes _ _ _ _ _ _ _ (search rules) _ _ _ c.take_field.ensures.is_wanted
          c.in-Ok-Some.next (c.in-Ok-Some.is ∙ ap (λ any. Ok any) c.in-Ok-Some.field-0-is);
    }

pub returns : goal.returns
returns g c =
    record {
      same_buffer = c.stop_at.ensures.same_buffer ∙ c.take_field.ensures.same_buffer;
      is_wanted =
          elim c.match-take_field.branch [
            | in-Ok-None w ↦
                turn_ends _ _ _ _ _ _ _ (search rules) _ _ _ c.take_field.ensures.is_wanted _ _ _
                _ _ (c.fields.ensures c.take_field.new.ram)
                (c.offset.ensures c.take_field.new.ram) c.stop_at.ensures.is_wanted w.number-is
                (w.in-Ok-None.is ∙ ap (λ any. Ok any) w.in-Ok-None.field-0-is)
            | in-Err w ↦
                turn_refuses _ _ _ _ _ _ _ (search rules) _ _ _ c.take_field.ensures.is_wanted _ _
                _ _ _ (c.fields.ensures c.take_field.new.ram)
                (c.offset.ensures c.take_field.new.ram) c.stop_at.ensures.is_wanted _
                (w.number-is ∙ w.from-number.ensures) w.in-Err.is
          ];
    }
