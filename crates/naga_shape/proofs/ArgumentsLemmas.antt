-- The rule that the command-line arguments select: lemmas on specs/Arguments.antt.
use Rattle.std.proofs.Common.{◌≡◌, ◌<◌, List, [], ◌∷◌, length, slice_index_or, ap, sym, ◌∙◌, subst, arith}
use Rattle.std.specs.Prelude.{codes, Result, Ok, String, string_bytes, Vec}
use Rattle.std.specs.declared.alloc.Global.{Global}
use Rattle.naga_proc.specs.declared.terminator.rule.Rule.{Rule}
use Rattle.naga_proc.specs.declared.terminator.rule.Rule.TheVariants.{New, Old}
use Rattle.naga_shape.specs.Arguments.{Selects, by_default, by_argument, GivesRule}
use Rattle.naga_shape.specs.declared.report.ProgramFault.{ProgramFault}

-- no arguments select the new rule
pub Selects-none : (arguments : List (String Global)) → length arguments < 1 → Selects arguments New
Selects-none [] l = by_default
Selects-none (argument ∷ arguments) l = absurd (omega arith)

-- the single argument `--old` selects the old rule
pub Selects-one : (arguments : List (String Global)) (argument : String Global)
    → length arguments ≡ 1 → argument ≡ slice_index_or arguments 0 argument
    → string_bytes argument ≡ codes "--old" → Selects arguments Old
Selects-one [] argument l is bytes = absurd (omega arith)
Selects-one (first ∷ []) argument l is bytes = by_argument (ap string_bytes (sym is) ∙ bytes)
Selects-one (first ∷ second ∷ arguments) argument l is bytes = absurd (omega arith)

-- arguments that could be obtained give the rule that they select
pub GivesRule-ok : (arguments : Result (Vec (String Global) Global) ProgramFault) (given : Vec (String Global) Global)
    (rule : Rule) (seen : List (String Global))
    → arguments ≡ Ok given → seen ≡ given.items → Selects seen rule → GivesRule arguments rule
GivesRule-ok arguments given rule seen is sees h =
    subst (λ a. GivesRule a rule) (sym is) (subst (λ xs. Selects xs rule) sees h)
