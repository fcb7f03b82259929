-- How the time of the next block is read.
use Rattle.std.specs.Prelude.{Some}
use Rattle.std.specs.Int.{w64}
use Rattle.ibc_ids.specs.Texts.{Text}
use Rattle.ibc_wire.specs.Reading.{◌>>=◌, Front}
use Rattle.ibc_wire.specs.Fronts.{number_at_front}
use Rattle.ibc_entry_codec.specs.declared.stored.NextTime.{NextTime}

unfoldable pub time_at_front : Text → Front NextTime
time_at_front text = do
  time ← number_at_front w64 text
  Some (record { next_time = time.0 }, time.1)
