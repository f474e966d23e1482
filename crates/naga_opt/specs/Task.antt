-- What the options select.
use Rattle.std.specs.Prelude.{ℕ, Bool, false, List, [], ◌∷◌, ◌++◌, Option, Some, None, String, if◌then◌else◌, codes, string_bytes}
use Rattle.std.specs.Str.{bytes_eq}
use Rattle.std.specs.declared.alloc.Global.{Global}
use Rattle.naga_passes.specs.declared.pass.Pass.{Pass}
use Rattle.naga_passes.specs.declared.pass.Pass.TheVariants.{Close}
use Rattle.naga_proc.specs.declared.terminator.rule.Rule.TheVariants.{New, Old}
use Rattle.naga_look.specs.declared.shown.View.{View}
use Rattle.naga_text.specs.Escapes.{in_quotes}
use Rattle.naga_opt.specs.declared.task.Passes.{Passes}
use Rattle.naga_opt.specs.declared.task.Passes.TheVariants as passes
use Rattle.naga_opt.specs.declared.task.Task.{Task}

-- which passes the options choose: those of a list, or closing by naga's rule
pub data Named : Type 0 where
  listed : List Pass → Named
  old : Named

-- what the options choose: the passes, what is shown, whether it is said what each pass did, and the names of the files to
-- read and to write
pub record Chosen : Type 0 where
  pub passes : Option Named
  pub view : Option View
  pub stats : Bool
  pub input : Option (List ℕ)
  pub output : Option (List ℕ)

-- what no options choose
abbrev pub nothing_chosen : Chosen
nothing_chosen = record { passes = None; view = None; stats = false; input = None; output = None }

-- the choice of passes, if there is one
abbrev pub named_of : Option Passes → Option Named
named_of (Some (passes.Listed items)) = Some (listed items.items)
named_of (Some passes.Old) = Some old
named_of None = None

-- the bytes of a name, if there is one
abbrev pub bytes_of : Option (String Global) → Option (List ℕ)
bytes_of (Some name) = Some (string_bytes name)
bytes_of None = None

-- what a task says, with the bytes of names
abbrev pub chosen_of : Task → Chosen
chosen_of task = record {
  passes = named_of task.passes;
  view = task.view;
  stats = task.stats;
  input = bytes_of task.input;
  output = bytes_of task.output;
}

-- the passes that run: those that are chosen, and if none are, closing by the new rule where JSON is written
abbrev pub passes_or_default : Option Named → Option View → List Pass
passes_or_default (Some (listed items)) view = items
passes_or_default (Some old) view = Close Old ∷ []
passes_or_default None None = Close New ∷ []
passes_or_default None (Some view) = []

-- the passes that run for these choices
abbrev pub passes_of : Chosen → List Pass
passes_of chosen = passes_or_default chosen.passes chosen.view

-- the stream that is read or written: the name of the file in quotes, or that of the standard stream if no file is named
-- or `-` is
abbrev pub stream_name : (standard : List ℕ) → Option (List ℕ) → List ℕ
stream_name standard None = standard
stream_name standard (Some name) = if bytes_eq name (codes "-") then standard else in_quotes name
