-- The test of two texts is the definitions' own.
use Rattle.std.proofs.Common.{refl}
use Rattle.ibc_token_data.proofs.forms.has_several.Goals as goal

pub returns : goal.returns
returns c = rw (c.eq.ensures, c.as_str.ensures.text) refl
