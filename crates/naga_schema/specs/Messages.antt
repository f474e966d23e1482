-- The messages for faults: a path, and what is wrong at its end. A name of the text is shown in quotes. The text of a
-- message is known if all characters of such names are ASCII.
use Rattle.std.specs.Prelude.{ℕ, List, [], ◌∷◌, ◌++◌, length, take, nat_le, Option, Some, if◌then◌else◌, codes}
use Rattle.std.specs.Fmt.{◌++?◌, debug_str, decimal}
use Rattle.std.specs.Fmt.Cut.{floor_char_boundary}
use Rattle.naga_schema.specs.declared.leaf.FlagSet.{FlagSet}
use Rattle.naga_schema.specs.declared.leaf.FlagSet.TheVariants as flag_set
use Rattle.naga_schema.specs.declared.leaf.Leaf.{Leaf}
use Rattle.naga_schema.specs.declared.leaf.Leaf.TheVariants as leaf
use Rattle.naga_schema.specs.declared.schema.Length.{Length}
use Rattle.naga_schema.specs.declared.schema.Length.TheVariants as lengths
use Rattle.naga_schema.specs.Path.{Into, field, variant, item, entry, Blame, Found}
use Rattle.naga_schema.specs.Path as path

-- the names of the flags of a set
abbrev pub flag_set_text : FlagSet → List ℕ
flag_set_text flag_set.Barrier = codes "STORAGE, WORK_GROUP, SUB_GROUP or TEXTURE"
flag_set_text flag_set.MemoryDecorations = codes "COHERENT or VOLATILE"
flag_set_text flag_set.StorageAccess = codes "LOAD, STORE or ATOMIC"

-- what such a value is
abbrev pub leaf_text : Leaf → List ℕ
leaf_text (leaf.Natural greatest) = codes "an integer from 0 to " ++ decimal greatest
leaf_text (leaf.OptionalNatural greatest) = codes "null or an integer from 0 to " ++ decimal greatest
leaf_text leaf.NonZero = codes "an integer from 1 to 4294967295"
leaf_text leaf.Integer16 = codes "an integer from -32768 to 32767"
leaf_text leaf.Integer32 = codes "an integer from -2147483648 to 2147483647"
leaf_text leaf.Integer64 = codes "an integer from -9223372036854775808 to 9223372036854775807"
leaf_text leaf.Float32 = codes "a finite number of 32 bits"
leaf_text leaf.Float64 = codes "a finite number"
leaf_text leaf.Boolean = codes "true or false"
leaf_text leaf.Text = codes "a string"
leaf_text (leaf.Flags set) = codes "names of flags (" ++ flag_set_text set ++ codes ") with bars between them"
leaf_text (leaf.Kind kind) = codes "the name of a variant"

-- what a list of such a length is
abbrev pub length_text : Length → List ℕ
length_text lengths.Any = codes "a list"
length_text (lengths.AtMost greatest) = codes "a list of at most " ++ decimal greatest ++ codes " items"
length_text (lengths.Exactly exact) = codes "a list of " ++ decimal exact ++ codes " items"

-- a name in quotes: of a longer one, the characters within its first 64 bytes, and three dots
abbrev pub shown_text : List ℕ → Option (List ℕ)
shown_text name =
    if nat_le (length name) 64 then debug_str name else (debug_str (take (floor_char_boundary name 64) name) ++? Some (codes "..."))

-- what is the case with a name
abbrev pub named_text : List ℕ → List ℕ → Option (List ℕ)
named_text what name = Some what ++? Some (codes " ") ++? shown_text name

-- names after another one, with "or" before the last
abbrev pub more_text : List (List ℕ) → List ℕ
more_text [] = []
more_text (name ∷ []) = codes " or " ++ name
more_text (name ∷ next ∷ rest) = codes ", " ++ name ++ more_text (next ∷ rest)

-- what is expected where one of these names is
abbrev pub choice_text : List (List ℕ) → List ℕ
choice_text [] = []
choice_text (name ∷ rest) = codes ", expected " ++ name ++ more_text rest

-- the names that are allowed, if they are at most 8
abbrev pub allowed_text : List (List ℕ) → List ℕ
allowed_text names = if nat_le (length names) 8 then choice_text names else []

-- what is the case with a name in place of which only these are allowed
abbrev pub unknown_text : List ℕ → List ℕ → List (List ℕ) → Option (List ℕ)
unknown_text what name allowed = named_text what name ++? Some (allowed_text allowed)

-- why a JSON by itself is none of a type
abbrev pub blame_text : Blame → Option (List ℕ)
blame_text (path.no_leaf leaf) = Some (codes "expected " ++ leaf_text leaf)
blame_text (path.no_list length) = Some (codes "expected " ++ length_text length)
blame_text path.no_object = Some (codes "expected an object")
blame_text path.no_variant = Some (codes "expected the name of a variant, or an object with only this name")
blame_text (path.missing_field name) = named_text (codes "missing field") name
blame_text (path.unknown_field name allowed) = unknown_text (codes "unknown field") name allowed
blame_text (path.repeated_field name) = named_text (codes "repeated field") name
blame_text (path.unknown_variant name allowed) = unknown_text (codes "unknown variant") name allowed
blame_text (path.without_value name) = named_text (codes "no value in variant") name
blame_text (path.with_value name) = named_text (codes "a value in variant") name
blame_text (path.no_key name) = named_text (codes "expected an integer as a key, not") name
blame_text (path.repeated_key name) = named_text (codes "repeated key") name
blame_text path.inverted = Some (codes "the start of the range is greater than its end")
blame_text path.too_deep = Some (codes "blocks are nested too deeply")

-- a step behind another one
abbrev pub step_text : Into → Option (List ℕ)
step_text (field name) = Some (codes "." ++ name)
step_text (variant name) = Some (codes "." ++ name)
step_text (item position) = Some (codes "[" ++ decimal position ++ codes "]")
step_text (entry key) = Some (codes "[") ++? shown_text key ++? Some (codes "]")

-- the first step: no dot is before it
abbrev pub first_step_text : Into → Option (List ℕ)
first_step_text (field name) = Some name
first_step_text (variant name) = Some name
first_step_text (item position) = step_text (item position)
first_step_text (entry key) = step_text (entry key)

-- steps behind another one
abbrev pub steps_text : List Into → Option (List ℕ)
steps_text [] = Some []
steps_text (into ∷ rest) = step_text into ++? steps_text rest

-- a path, with a colon behind it if it has a step
abbrev pub path_text : List Into → Option (List ℕ)
path_text [] = Some []
path_text (into ∷ rest) = first_step_text into ++? steps_text rest ++? Some (codes ": ")

-- the message: the path, and what is wrong at its end
abbrev pub found_text : Found → Option (List ℕ)
found_text found = path_text found.0 ++? blame_text found.1
