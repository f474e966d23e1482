-- What passes do to a module, in numbers, and the functions whose results closing does not return.
use Rattle.std.specs.Prelude.{◌≡◌, ◌⊎◌, ◌+◌, ◌-◌, ◌<◌, ℕ, Bool, if◌then◌else◌, List, [], ◌∷◌, ◌++◌, codes, false, flat_map, is_some, length, nat_lt, sum_by, take}
use Rattle.naga_arena.specs.Arena.{values}
use Rattle.naga_ir.specs.declared.module.EntryPoint.{EntryPoint}
use Rattle.naga_ir.specs.declared.module.Function.{Function}
use Rattle.naga_ir.specs.declared.module.Module as the_module
use Rattle.naga_passes.specs.After.{After, StopsAt, Transforms}
use Rattle.naga_passes.specs.declared.pass.Pass.{Pass}
use Rattle.naga_passes.specs.declared.pass.Pass.TheVariants.{Cull, Close, Compact, Restrict}
use Rattle.naga_passes.specs.declared.pass_error.PassFault.{PassFault}
use Rattle.naga_passes.specs.declared.pass_error.PassFault.TheVariants.{Memory}
use Rattle.naga_proc.specs.declared.terminator.rule.Rule.{Rule}
use Rattle.naga_look.specs.Counts.{open_tails, statement_count}
use Rattle.naga_look.specs.Report.{Headed, headed_bodies}
use Rattle.naga_look.specs.Summary.{bodies_of, body_of, saturating_sum}
use Rattle.naga_look.specs.declared.stats.PassCounts.{PassCounts}
use Rattle.naga_look.specs.declared.stats.Detail.{Detail}
use Rattle.naga_look.specs.declared.stats.Detail.TheVariants as detail
use Rattle.naga_look.specs.declared.stats.contents.Contents.{Contents}

-- ---- numbers

-- the number of expressions of a function
abbrev pub expression_count : Function → ℕ
expression_count whole = length whole.expressions

-- the number of expressions of the function of an entry point
abbrev pub entry_expression_count : EntryPoint → ℕ
entry_expression_count entry = expression_count entry.function

-- the number of expressions of all functions and entry points
abbrev pub expressions_of : the_module.Module → ℕ
expressions_of whole =
    saturating_sum 0 (sum_by expression_count (values whole.functions) + sum_by entry_expression_count whole.entry_points.items)

-- how much a module contains of what passes can remove
abbrev pub contents_of : the_module.Module → Contents
contents_of whole = record {
  statements = saturating_sum 0 (sum_by statement_count (bodies_of whole));
  types = length whole.types;
  constants = length whole.constants;
  overrides = length whole.overrides;
  global_variables = length whole.global_variables;
  global_expressions = length whole.global_expressions;
  functions = length whole.functions;
  expressions = expressions_of whole;
}

-- each number of the first less that of the second, or 0 if it is not greater
abbrev pub less : (old new : Contents) → Contents
less old new = record {
  statements = old.statements - new.statements;
  types = old.types - new.types;
  constants = old.constants - new.constants;
  overrides = old.overrides - new.overrides;
  global_variables = old.global_variables - new.global_variables;
  global_expressions = old.global_expressions - new.global_expressions;
  functions = old.functions - new.functions;
  expressions = old.expressions - new.expressions;
}

-- What a pass did: it removed what there is less of after it. If there are more statements, these are returns, since
-- only closing inserts statements. If there are more expressions, they are those of clamps, since only restricting inserts
-- expressions.
abbrev pub counts_between : Pass → (old new : Contents) → PassCounts
counts_between pass old new = record {
  pass = pass;
  removed = less old new;
  returns_inserted = new.statements - old.statements;
  expressions_inserted = new.expressions - old.expressions;
}

-- ---- notes

-- whether the function has a result, and its body gets a return by the rule
abbrev pub lacks_value : Rule → Function → Bool
lacks_value rule whole = if is_some whole.result then nat_lt 0 (open_tails rule (body_of whole)) else false

-- the note on a function whose line begins like this
abbrev pub note_text : (head : List ℕ) → List ℕ
note_text head = codes "note: " ++ (head ++ codes ": the function has a result, but an inserted return has no value\n")

-- nothing, or the note that the function has a result, but gets a return, which has no value
abbrev pub note_of : Rule → Headed → List ℕ
note_of rule headed = if lacks_value rule headed.whole then note_text headed.head else []

-- the notes on the functions, and then those on the entry points, of a module that goes through the pass
abbrev pub notes_of : Pass → the_module.Module → List ℕ
notes_of Cull whole = []
notes_of (Close rule) whole = flat_map (note_of rule) (headed_bodies whole)
notes_of (Compact keep_unused) whole = []
notes_of Restrict whole = []

-- ---- passes

-- what an account counts of a pass: the counts between the modules before and after it, if it counts
abbrev pub counted_in : Detail → Pass → (old new : the_module.Module) → List PassCounts
counted_in detail.Counts pass old new = counts_between pass (contents_of old) (contents_of new) ∷ []
counted_in detail pass old new = []

-- what an account notes of a pass: the notes on the module before it, unless it says nothing
abbrev pub noted_in : Detail → Pass → (old : the_module.Module) → List ℕ
noted_in detail.Nothing pass old = []
noted_in detail pass old = notes_of pass old

-- The second module is what the passes make of the first, each of what the one before it made. The account has the counts of
-- each pass, and the notes on it.
abbrev pub Accounts : Detail → List Pass → (old new : the_module.Module) → List PassCounts → (notes : List ℕ) → Type 0
Accounts detail [] old new counts notes = (new ≡ old) × (counts ≡ []) × (notes ≡ [])
Accounts detail (pass ∷ others) old new counts notes =
    (middle : the_module.Module) × Transforms pass old middle
    × (later : List PassCounts) × (counts ≡ counted_in detail pass old middle ++ later)
    × (more : List ℕ) × (notes ≡ noted_in detail pass old ++ more)
    × Accounts detail others middle new later more

-- The pass at the position stopped for this reason, or an allocation failed before that pass changed anything. Those before
-- it were run.
abbrev pub StopsCounting : (position : ℕ) → PassFault → (passes : List Pass) (old new : the_module.Module) → Type 0
StopsCounting position fault passes old new =
    StopsAt position fault passes old new
    ⊎ ((fault ≡ Memory) × (position < length passes) × After (take position passes) old new)
