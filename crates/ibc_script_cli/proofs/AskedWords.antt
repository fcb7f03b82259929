-- What words ask for, at words that are written out, and from the kinds of errors that they give.
use Rattle.std.proofs.Common.{◌≡◌, ◌≢◌, ◌∙◌, true, false, codes, List, [], ◌∷◌, Result, Ok, Err, Option, Some, None, Bool, option_and_then, if◌then◌else◌, refl, sym, ap, ap₂, subst, inl, inr, ℕ, ◌&&◌, ◌≤◌, ◌-◌, nat_le, arith}
use Rattle.std.proofs.lemmas.Bool.Decides.{nat_tests}
use Rattle.clap.specs.Words.{App, HasMatchesOf, Row, Text, first_of, is_simple, kind_of, subcommand_of, subcommand_rows_of}
use Rattle.clap.specs.Kinds.{FailsBy, HasKind, IsAmong, Kinds}
use Rattle.clap.specs.Faults.{fault_of, is_simple_and_free}
use Rattle.clap.specs.declared.error.Error.{Error}
use Rattle.clap.specs.declared.error.kind.ErrorKind.{ErrorKind}
use Rattle.clap.specs.declared.error.kind.ErrorKind.TheVariants.{OutOfMemory}
use Rattle.clap.proofs.OnLiterals.{clap_on_literals}
use Rattle.clap.specs.declared.parser.matches.ArgMatches.{ArgMatches}
use Rattle.std.specs.Prelude.{IfOk, IsErrOf, is_some, option_map}
use Rattle.std.specs.Result.{result_ok}
use Rattle.std.specs.Borrow.{Bor}
use Rattle.std.specs.Box.{box_value}
use Rattle.std.specs.Str.{bytes_eq}
use Rattle.clap.specs.Words.{first_value, found_of, rows_of, subcommand_name_of}
use Rattle.clap.specs.declared.parser.matches.ArgMatches.TheViews.{out-ArgMatches, out-SubCommand}
use Rattle.clap.proofs.WalkLemmas.{first_value-rows}
use Rattle.ibc_script.specs.declared.fault.Fault.{Fault}
use Rattle.ibc_script_cli.specs.declared.words.Command.{Command}
use Rattle.ibc_script_cli.specs.declared.words.Command.TheVariants.{Race, Run}
use Rattle.ibc_script_cli.specs.Words.{IsPossible, command_by, command_in, command_of, ibcworld, is_none, relayers_of}

-- ---- what the words ask for

run : command_of (codes "run" ∷ []) ≡ Some Run
unfolding command_of ibcworld clap_on_literals
run = refl

run_and_no_more : command_of (codes "run" ∷ codes "--" ∷ []) ≡ Some Run
unfolding command_of ibcworld clap_on_literals
run_and_no_more = refl

race : command_of (codes "race" ∷ codes "--relayers" ∷ codes "4" ∷ []) ≡ Some (Race 4)
unfolding command_of ibcworld clap_on_literals
race = refl

race_and_no_more : command_of (codes "race" ∷ codes "--relayers" ∷ codes "8" ∷ codes "--" ∷ []) ≡ Some (Race 8)
unfolding command_of ibcworld clap_on_literals
race_and_no_more = refl

race_in_one_word : command_of (codes "race" ∷ codes "--relayers=1" ∷ []) ≡ Some (Race 1)
unfolding command_of ibcworld clap_on_literals
race_in_one_word = refl

nothing : command_of ([]) ≡ None
unfolding command_of ibcworld clap_on_literals
nothing = refl

empty_word : command_of ([] ∷ []) ≡ None
unfolding command_of ibcworld clap_on_literals
empty_word = refl

help : command_of (codes "--help" ∷ []) ≡ None
unfolding command_of ibcworld clap_on_literals
help = refl

help_command : command_of (codes "help" ∷ []) ≡ None
unfolding command_of ibcworld clap_on_literals
help_command = refl

run_and_more : command_of (codes "run" ∷ codes "x" ∷ []) ≡ None
unfolding command_of ibcworld clap_on_literals
run_and_more = refl

run_help : command_of (codes "run" ∷ codes "-h" ∷ []) ≡ None
unfolding command_of ibcworld clap_on_literals
run_help = refl

behind_the_end : command_of (codes "--" ∷ codes "run" ∷ []) ≡ None
unfolding command_of ibcworld clap_on_literals
behind_the_end = refl

race_of_none : command_of (codes "race" ∷ codes "--relayers" ∷ codes "0" ∷ []) ≡ None
unfolding command_of ibcworld clap_on_literals
race_of_none = refl

race_of_nine : command_of (codes "race" ∷ codes "--relayers" ∷ codes "9" ∷ []) ≡ None
unfolding command_of ibcworld clap_on_literals
race_of_nine = refl

race_of_two_digits : command_of (codes "race" ∷ codes "--relayers" ∷ codes "04" ∷ []) ≡ None
unfolding command_of ibcworld clap_on_literals
race_of_two_digits = refl

race_of_no_number : command_of (codes "race" ∷ codes "--relayers" ∷ []) ≡ None
unfolding command_of ibcworld clap_on_literals
race_of_no_number = refl

race_of_nobody : command_of (codes "race" ∷ []) ≡ None
unfolding command_of ibcworld clap_on_literals
race_of_nobody = refl

race_of_an_empty_text : command_of (codes "race" ∷ codes "--relayers=" ∷ []) ≡ None
unfolding command_of ibcworld clap_on_literals
race_of_an_empty_text = refl

race_twice : command_of (codes "race" ∷ codes "--relayers" ∷ codes "4" ∷ codes "--relayers" ∷ codes "4" ∷ []) ≡ None
unfolding command_of ibcworld clap_on_literals
race_twice = refl

race_shortened : command_of (codes "race" ∷ codes "--relay" ∷ codes "4" ∷ []) ≡ None
unfolding command_of ibcworld clap_on_literals
race_shortened = refl

-- ---- from the kinds of errors

simple_alone : is_simple ibcworld ≡ true
unfolding ibcworld clap_on_literals
simple_alone = refl

simple : is_simple_and_free ibcworld ≡ true
unfolding ibcworld clap_on_literals
simple = refl

-- the errors that the words may give
fails : {T : Type 0} (app : App) (words : List Text) (r : Result T Error) → app ≡ ibcworld
    → (is_simple_and_free app ≡ true → FailsBy (fault_of app words) r) → FailsBy (fault_of ibcworld words) r
fails app words r is h = subst (λ a. FailsBy (fault_of a words) r) is (h (ap is_simple_and_free is ∙ simple))

no_kind : (kinds : Kinds) → kinds ≡ [] → is_none kinds ≡ true
no_kind kinds none = ap is_none none

a_kind : (kinds : Kinds) (k : ErrorKind) → IsAmong k kinds → is_none kinds ≡ false
a_kind [] k h = absurd h
a_kind (x ∷ xs) k h = refl

-- words that are taken ask for what the subcommand asks for
pub asked : (app : App) (words : List Text) (r : Result ArgMatches Error) (m : ArgMatches) → app ≡ ibcworld
    → (is_simple_and_free app ≡ true → FailsBy (fault_of app words) r) → HasMatchesOf app words m → r ≡ Ok m
    → command_of words ≡ option_and_then command_in (subcommand_rows_of m)
unfolding command_of
asked app words r m is kinds matches ok =
    let none = no_kind _ (subst (FailsBy (fault_of ibcworld words)) ok (fails app words r is kinds)) in
    let rows = subst (λ (a : App). HasMatchesOf a words m) is matches simple_alone in
    ap (λ (b : Bool). if b then option_and_then command_in (subcommand_of ibcworld words) else None) none
    ∙ ap (option_and_then command_in) (sym (rows.1))

has_kind : (kinds : Kinds) (e : Error) → HasKind kinds e → kind_of e ≢ OutOfMemory → is_none kinds ≡ false
has_kind kinds e (inl memory) other = absurd (other memory)
has_kind kinds e (inr among) other = a_kind kinds (kind_of e) among

-- words that are refused for another cause than memory ask for nothing
pub not_asked : (app : App) (words : List Text) (r : Result ArgMatches Error) (e : Error) → app ≡ ibcworld
    → (is_simple_and_free app ≡ true → FailsBy (fault_of app words) r) → r ≡ Err e → kind_of e ≢ OutOfMemory → command_of words ≡ None
unfolding command_of
not_asked app words r e is h err other =
    let some_kind = has_kind _ e (subst (FailsBy (fault_of ibcworld words)) err (fails app words r is h)) other in
    ap (λ (b : Bool). if b then option_and_then command_in (subcommand_of ibcworld words) else None) some_kind

-- ---- what a subcommand asks for

module _ {B R N W : Type 0} (n : B → N) (w : B → W) (f : R → N) (g : R → W) where
  abbrev some_pair : N → W → Option (N × W)
  some_pair u v = Some (u, v)

  one_pair : (s : Option B) (r : Option R) → option_map f r ≡ option_map n s → option_map g r ≡ option_map (λ (p : N × W). p.1) (option_map {U = N × W} (λ b. (n b, w b)) s)
      → option_map {U = N × W} (λ b. (n b, w b)) s ≡ option_map {U = N × W} (λ x. (f x, g x)) r
  one_pair None None names rows = refl
  one_pair None (Some x) names rows = absurd cc
  one_pair (Some b) None names rows = absurd cc
  one_pair (Some b) (Some x) names rows =
      let name : n b ≡ f x = cc in
      let row : w b ≡ g x = cc in
      ap₂ some_pair name row

abbrev pub Found : Type 0
Found = Bor Text × Bor ArgMatches

-- what was found under a subcommand that was given back
abbrev pub name_in : Found → Text
name_in p = p.0.now

abbrev pub rows_in : Found → List Row
rows_in p = rows_of (found_of p.1.now)

pub subcommand_is : (m : ArgMatches) (r : Option Found) → option_map name_in r ≡ subcommand_name_of m
    → option_map rows_in r ≡ option_map (λ (p : Text × List Row). p.1) (subcommand_rows_of m) → subcommand_rows_of m ≡ option_map {U = Text × List Row} (λ x. (name_in x, rows_in x)) r
subcommand_is m r names rows =
    one_pair (λ b. (out-SubCommand (box_value b)).name.now) (λ b. rows_of (found_of (out-SubCommand (box_value b)).matches)) name_in rows_in
    (out-ArgMatches m).subcommand r names rows

pub asks_by : (m : ArgMatches) (r : Option Found) (x : Found) (relayers : Option Text) (answer : Option Command)
    → subcommand_rows_of m ≡ option_map {U = Text × List Row} (λ x. (name_in x, rows_in x)) r → r ≡ Some x
    → relayers ≡ first_value (found_of x.1.now) (codes "relayers") → answer ≡ command_by x.0.now relayers
    → answer ≡ option_and_then command_in (subcommand_rows_of m)
asks_by m r x relayers answer rows is text by =
    by ∙ ap (command_by x.0.now) (text ∙ first_value-rows (found_of x.1.now) (codes "relayers"))
    ∙ sym (ap (option_and_then command_in) (rows ∙ ap (option_map {U = Text × List Row} (λ x. (name_in x, rows_in x))) is))

-- ---- what is answered

-- a command that words ask for is answered, and nothing else
pub answered : (words : List Text) (o : Option Command) (r : Result Command Fault) → command_of words ≡ o → o ≡ result_ok r
    → IfOk r (λ command. command_of words ≡ Some command)
answered words o (Ok command) is ok = is ∙ ok
answered words o (Err fault) is ok = tt

pub unanswered : (words : List Text) (o : Option Command) (r : Result Command Fault) (fault : Fault) → command_of words ≡ o → o ≡ result_ok r
    → IsErrOf r fault → is_some (command_of words) ≡ false
unanswered words o (Ok command) fault is ok bad = absurd cc
unanswered words o (Err e) fault is ok bad = ap is_some (is ∙ ok)

-- ---- a race has 1 to 8 relayers

digit_range : (digit : ℕ) → (nat_le 49 digit && nat_le digit 56) ≡ true → (1 ≤ digit - 48) × (digit - 48 ≤ 8)
digit_range digit in_range = (grind (arith, nat_tests), grind (arith, nat_tests))

of_digit : (digit : ℕ) (x : Command) (b : Bool) → (nat_le 49 digit && nat_le digit 56) ≡ b
    → option_map (λ n. Race n) (if b then Some (digit - 48) else None) ≡ Some x → IsPossible x
of_digit digit x true in_range is =
    let same : Race (digit - 48) ≡ x = cc in
    subst IsPossible same (digit_range digit in_range)
of_digit digit x false in_range is = absurd cc

of_text : (text : Option Text) (x : Command) → option_map (λ n. Race n) (option_and_then relayers_of text) ≡ Some x → IsPossible x
of_text None x is = absurd cc
of_text (Some []) x is = absurd cc
of_text (Some (digit ∷ [])) x is = of_digit digit x (nat_le 49 digit && nat_le digit 56) refl is
of_text (Some (digit ∷ next ∷ rest)) x is = absurd cc

of_name : (is_run : Bool) (text : Option Text) (x : Command)
    → (if is_run then Some Run else option_map (λ n. Race n) (option_and_then relayers_of text)) ≡ Some x → IsPossible x
of_name true text x is =
    let same : Run ≡ x = cc in
    subst IsPossible same tt
of_name false text x is = of_text text x is

of_found : (found : Option (Text × List Row)) (x : Command) → option_and_then command_in found ≡ Some x → IsPossible x
of_found None x is = absurd cc
of_found (Some p) x is = of_name (bytes_eq p.0 (codes "run")) (first_of (codes "relayers") p.1) x is

pub possible : (found : Option (Text × List Row)) (o : Option Command) (r : Result Command Fault) → o ≡ option_and_then command_in found → o ≡ result_ok r
    → IfOk r IsPossible
possible found o (Ok command) is ok = of_found found command (sym is ∙ ok)
possible found o (Err fault) is ok = tt
