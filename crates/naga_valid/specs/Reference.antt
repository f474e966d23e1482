-- Lists of references.
use Rattle.std.specs.Prelude.{ℕ, List, [], ◌∷◌, ◌++◌, map, Option, option_to_list}
use Rattle.std.specs.Option.{option_map}
use Rattle.naga_valid.specs.declared.reference.Reference.{Reference}
use Rattle.naga_valid.specs.declared.reference.Reference.TheVariants.{Expression}

-- the expressions with these handles
abbrev pub operands : List ℕ → List Reference
operands = map Expression

-- the handles that are present, and then the others
abbrev pub present_then : List (Option Reference) → List Reference → List Reference
present_then [] others = others
present_then (handle ∷ handles) others = option_to_list handle ++ present_then handles others

-- the expressions with these handles, as far as the handles are present
abbrev pub present : List (Option ℕ) → List Reference
present handles = present_then (map (option_map Expression) handles) []
