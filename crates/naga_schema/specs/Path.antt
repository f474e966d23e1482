-- Faults, and the paths that lead to them.
use Rattle.std.specs.Prelude.{ℕ, List, [], ◌∷◌, map, reverse, Option, Some, None, option_map}
use Rattle.naga_schema.specs.declared.mismatch.Mismatch.{Mismatch}
use Rattle.naga_schema.specs.declared.mismatch.Mismatch.TheVariants as mismatch
use Rattle.naga_schema.specs.declared.fault.Fault.{Fault}
use Rattle.naga_schema.specs.declared.fault.Step.{Step}
use Rattle.naga_schema.specs.declared.fault.Step.TheVariants as step
use Rattle.naga_schema.specs.declared.leaf.Leaf.{Leaf}
use Rattle.naga_schema.specs.declared.schema.Length.{Length}
use Rattle.naga_schema.specs.declared.allowed.Allowed.{Allowed}
use Rattle.naga_schema.specs.declared.allowed.Allowed.TheVariants as allowed
use Rattle.naga_schema.specs.Shape.{field_names, field_view, variant_names, variant_view}
use Rattle.naga_schema.specs.derived.Kinds.{kind_names}

-- one step into a JSON: to a field, to what a variant holds, to the item at a position, to the entry with a key
pub data Into : Type 0 where
  field : List ℕ → Into
  variant : List ℕ → Into
  item : ℕ → Into
  entry : List ℕ → Into

-- why a JSON by itself is none of a type; an unknown name is followed by the names that are allowed
pub data Blame : Type 0 where
  no_leaf : Leaf → Blame
  no_list : Length → Blame
  no_object : Blame
  no_variant : Blame
  missing_field : List ℕ → Blame
  unknown_field : List ℕ → List (List ℕ) → Blame
  repeated_field : List ℕ → Blame
  unknown_variant : List ℕ → List (List ℕ) → Blame
  without_value : List ℕ → Blame
  with_value : List ℕ → Blame
  no_key : List ℕ → Blame
  repeated_key : List ℕ → Blame
  inverted : Blame
  too_deep : Blame

-- a path, and why the JSON at its end is none of its type
abbrev pub Found : Type 0
Found = List Into × Blame

-- a fault of the JSON by itself
abbrev pub here : Blame → Option Found
here blame = Some ([], blame)

-- a fault in a part of the JSON, as one of the whole
abbrev pub within : Into → Option Found → Option Found
within into found = option_map (λ fault. (into ∷ fault.0, fault.1)) found

-- the first fault, or else the second
abbrev pub or_later : Option Found → Option Found → Option Found
or_later None later = later
or_later (Some fault) later = Some fault

-- ---- of the code's types

-- what a step leads to
abbrev pub into_of : Step → Into
into_of (step.Field name) = field name.now
into_of (step.Variant name) = variant name.now
into_of (step.Item position) = item position
into_of (step.Entry key) = entry key.now

-- the names that are allowed
abbrev pub allowed_names : Allowed → List (List ℕ)
allowed_names (allowed.Kind kind) = kind_names kind
allowed_names (allowed.Variants names variants) = variant_names (map (λ name. name.now) names.now) (map variant_view variants.now)
allowed_names (allowed.Fields fields) = field_names (map field_view fields.now)

-- what a mismatch says
abbrev pub blame_of : Mismatch → Blame
blame_of (mismatch.Leaf leaf) = no_leaf leaf
blame_of (mismatch.List length) = no_list length
blame_of mismatch.Object = no_object
blame_of mismatch.Variant = no_variant
blame_of (mismatch.MissingField name) = missing_field name.now
blame_of (mismatch.UnknownField name others) = unknown_field name.now (allowed_names others)
blame_of (mismatch.RepeatedField name) = repeated_field name.now
blame_of (mismatch.UnknownVariant name others) = unknown_variant name.now (allowed_names others)
blame_of (mismatch.WithoutValue name) = without_value name.now
blame_of (mismatch.WithValue name) = with_value name.now
blame_of (mismatch.Key name) = no_key name.now
blame_of (mismatch.RepeatedKey name) = repeated_key name.now
blame_of mismatch.Range = inverted
blame_of mismatch.Nesting = too_deep

-- what a fault says; its steps are stored from the last to the first
abbrev pub found_of : Fault → Found
found_of fault = (map into_of (reverse fault.steps.items), blame_of fault.cause)
