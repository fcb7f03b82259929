use Rattle.std.proofs.Common.{[], ◌∷◌}
use Rattle.ibc_wire.specs.Fields.{one_byte}
use Rattle.ibc_wire.proofs.Writing.{behind}
use Rattle.ibc_entry_codec.specs.Answers.{effect_fields}
use Rattle.ibc_entry_codec.proofs.answer.write_accepted.Goals as goal

pub returns : goal.returns
returns c =
    behind (one_byte 1 ∷ []) (effect_fields c.args.effect.now) c.args.out.now.items c.write_u8.new.out.items c.write_effect.new.out.items c.write_effect.result c.in_ok-write_u8.ensures c.write_effect.ensures
