-- What a judge finds wrong with the values of a script.
use Rattle.std.specs.Prelude.{List, map}
use Rattle.serde_json.specs.Data.{Data}
use Rattle.serde_json.specs.Find.{as_object}
use Rattle.serde_json.specs.View.{view}
use Rattle.serde_json.specs.declared.value.Value.{Value}
use Rattle.ibc_lab.specs.Faults.{each_faults, kindless_faults, parts_faults}
use Rattle.ibc_lab.specs.declared.fault.ScriptFault.{ScriptFault}
use Rattle.ibc_lab.specs.declared.fault.Tuple.{Tuple}
use Rattle.ibc_lab.specs.declared.judge.Judge.{Judge}
use Rattle.ibc_lab.specs.declared.leaf.Leaf.{Leaf}
use Rattle.ibc_lab.specs.declared.place.ScriptPlace.{ScriptPlace}

-- the roll of the script's chains
abbrev pub roll : Judge → List Data
roll judge = map view judge.chains.now

-- what is wrong with a value at a place that owes something, beside these chains
abbrev pub flaws : {A : Type 0} → Judge → (List Data → ScriptPlace → A → Data → List ScriptFault) → ScriptPlace → A → Value → List ScriptFault
flaws judge faults place owed value = faults (roll judge) place owed (view value)

-- what is wrong with the items of a list, of which each is such a tuple
abbrev pub each_flaws : Judge → ScriptPlace → Tuple → List Value → List ScriptFault
each_flaws judge place t items = each_faults (roll judge) place t 0 (map view items)

-- what is wrong with the items of a list, of which each has the form of its place
abbrev pub parts_flaws : Judge → ScriptPlace → List Leaf → List Value → List ScriptFault
parts_flaws judge place leaves items = parts_faults (roll judge) place 0 leaves (map view items)

-- what is wrong with a step that names no kind
abbrev pub kindless_flaws : Judge → ScriptPlace → Value → List ScriptFault
kindless_flaws judge place step = kindless_faults (roll judge) place (view step) (as_object (view step))
