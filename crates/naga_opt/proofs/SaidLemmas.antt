-- Lines after the name of the program: lemmas on specs/Said.antt.
use Rattle.std.proofs.Common.{◌≡◌, ◌∙◌, ap, List, [], ◌∷◌, ◌++◌, ℕ, Bor, map, refl}
use Rattle.std.specs.Prelude.{Result, Ok, Err, IfOk, String, flat_map, string_bytes}
use Rattle.std.specs.Str.Lines.{lines}
use Rattle.std.specs.declared.alloc.Global.{Global}
use Rattle.naga_opt.specs.Messages.{named_line}
use Rattle.naga_opt.specs.Said.{named_lines}

named_lines-map : (borrowed : List (Bor (List ℕ))) → flat_map (λ line. named_line line.now) borrowed ≡ flat_map named_line (map (λ line. line.now) borrowed)
named_lines-map [] = refl
named_lines-map (first ∷ others) = ap (λ text. named_line first.now ++ text) (named_lines-map others)

-- borrowed lines of a text are its lines
pub named_lines-joined : {E : Type 0} (r : Result (String Global) E) (borrowed : List (Bor (List ℕ))) (text : List ℕ)
    → map (λ line. line.now) borrowed ≡ lines text → IfOk r (λ named. string_bytes named ≡ flat_map (λ line. named_line line.now) borrowed)
    → IfOk r (λ named. string_bytes named ≡ named_lines text)
named_lines-joined (Ok named) borrowed text are joined = joined ∙ named_lines-map borrowed ∙ ap (flat_map named_line) are
named_lines-joined (Err error) borrowed text are joined = tt
