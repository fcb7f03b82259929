-- Scripts as texts.
use Rattle.std.specs.Prelude.{ℕ, Bool, true, false, List, [], ◌∷◌, ◌++◌, codes, if◌then◌else◌, slice_get, unwrap_or}
use Rattle.ibc_ids.specs.Texts.{Text}

-- the steps that are kept, in their order
abbrev pub kept_steps : List Bool → List Text → List Text
kept_steps [] steps = []
kept_steps (keeps ∷ kept) [] = []
kept_steps (keeps ∷ kept) (step ∷ steps) = if keeps then step ∷ kept_steps kept steps else kept_steps kept steps

-- the step at a place is kept
abbrev pub is_kept_at : List Bool → ℕ → Bool
is_kept_at kept place = unwrap_or (slice_get kept place) false

-- what stands before a step: each has a line of its own, behind a comma unless it is the first
abbrev pub before_step : Bool → Text
before_step first = if first then codes "\n" else codes ",\n"

abbrev pub with_step : Bool → Text → Text
with_step first step = before_step first ++ step

-- nothing stands for a step that isn't kept
abbrev pub line_if : Bool → Bool → Text → Text
line_if keeps first step = if keeps then with_step first step else []

abbrev pub step_lines : Bool → List Text → Text
step_lines first [] = []
step_lines first (step ∷ steps) = with_step first step ++ step_lines false steps

-- a script: its beginning, its steps, and its end
abbrev pub script_of : Text → List Text → Text
script_of head steps = head ++ (step_lines true steps ++ codes "]}\n")
