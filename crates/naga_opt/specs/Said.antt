-- What the program says of passes on standard error.
use Rattle.std.specs.Prelude.{◌≡◌, ℕ, Bool, true, false, List, ◌++◌, flat_map, string_bytes}
use Rattle.std.specs.Str.Lines.{lines}
use Rattle.naga_look.specs.StatsText.{counts_text}
use Rattle.naga_look.specs.Transform.{IsAccountOf}
use Rattle.naga_look.specs.declared.stats.Account.{Account}
use Rattle.naga_look.specs.declared.stats.Detail.{Detail}
use Rattle.naga_look.specs.declared.stats.Detail.TheVariants.{Counts, Notes}
use Rattle.naga_opt.specs.Messages.{named_line}
use Rattle.naga_opt.specs.Task.{Chosen, passes_of}

-- the lines of the text, each after the name of the program
abbrev pub named_lines : List ℕ → List ℕ
named_lines text = flat_map named_line (lines text)

-- what each pass did, if the account counts it, and then the notes
abbrev pub account_text : Account → List ℕ
account_text account = counts_text account.counts.items ++ string_bytes account.notes

-- how much is said of what the passes did
abbrev pub detail_of : (stats : Bool) → Detail
detail_of true = Counts
detail_of false = Notes

-- this is to be said of the text for these choices: what each of the passes does to it, if that is chosen, and the notes
abbrev pub IsSaid : Chosen → (text said : List ℕ) → Type 0
IsSaid chosen text said =
    (account : Account) × IsAccountOf (detail_of chosen.stats) (passes_of chosen) text account
    × (said ≡ named_lines (account_text account))
