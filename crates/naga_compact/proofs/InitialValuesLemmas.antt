-- The initial values of variables whose handles are renamed.
use Rattle.std.proofs.Common.{◌≡◌, ◌∙◌, ap, refl, ℕ, ◌+◌, List, [], ◌∷◌, map, Option}
use Rattle.std.specs.List.{enumerate_from, filter_map, cons_option}
use Rattle.std.specs.Option.{option_map}
use Rattle.naga_arena.specs.Arena.{values}
use Rattle.naga_arena.specs.declared.span.Span.{Span}
use Rattle.naga_ir.specs.declared.module.LocalVariable.{LocalVariable}
use Rattle.naga_compact.specs.Functions.{initial_values}
use Rattle.naga_compact.specs.Renaming.{of_expressions}
use Rattle.naga_compact.specs.Renaming.Declarations.{rename_local_variable}
use Rattle.naga_compact.specs.Renaming.Functions.{map_values}
use Rattle.naga_compact.proofs.RenamedOperandsLemmas.{cons_option-renamed}

-- what the values of an arena have, with or without their handles
pub filter_map-enumerate_from : {T Y : Type 0} (h : T → Option Y) (n : ℕ) (arena : List (T × Span)) → filter_map (λ entry. h entry.1) (enumerate_from n (values arena)) ≡ filter_map (λ entry. h entry.0) arena
filter_map-enumerate_from h n [] = refl
filter_map-enumerate_from h n (entry ∷ arena) = ap (cons_option (h entry.0)) (filter_map-enumerate_from h (n + 1) arena)

pub initial_values-renamed : (f : ℕ → ℕ) (variables : List (LocalVariable × Span)) → initial_values (map_values (rename_local_variable (of_expressions f)) variables) ≡ map f (initial_values variables)
initial_values-renamed f [] = refl
initial_values-renamed f (variable ∷ rest) =
    ap (cons_option (option_map f variable.0.init)) (initial_values-renamed f rest) ∙ cons_option-renamed f variable.0.init (initial_values rest)
