use Rattle.std.proofs.Common.{◌≡◌, false, take}
use Rattle.std.specs.List.{list_any}
use Rattle.std.specs.Str.{str_eq_ignore_ascii_case}
use Rattle.naga_namer.proofs.reserved.contains_ignoring_case.Given as goal

-- none of the words so far is the text
abbrev pub invariant-loop-word : goal.invariant-loop-word
invariant-loop-word l = list_any (λ word. str_eq_ignore_ascii_case word.now l.text) (take l.word-index l.words) ≡ false
