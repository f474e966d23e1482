-- Values that contain no other value.
use Rattle.std.specs.Prelude.{ℕ, ◌+◌, ◌^◌, List, Bool, false, ◌||◌, Option, Some, None, is_some}
use Rattle.std.specs.Float.{binary32, binary64}
use Rattle.std.specs.Result.{result_ok}
use Rattle.bitflags.specs.Text.{read_text, flag_piece}
use Rattle.json.specs.Json.{Json}
use Rattle.json.specs.Find.{as_bool, as_str, is_null}
use Rattle.naga_json.specs.FlagSets.{barriers, memory_decorations, storage_accesses}
use Rattle.naga_json.specs.Numbers.{natural_in, nonzero_in, integer_in, float_in}
use Rattle.naga_schema.specs.declared.leaf.FlagSet.{FlagSet}
use Rattle.naga_schema.specs.declared.leaf.FlagSet.TheVariants as flag_set
use Rattle.naga_schema.specs.derived.Kinds.{kind_has}
use Rattle.naga_schema.specs.declared.leaf.Leaf.{Leaf}
use Rattle.naga_schema.specs.declared.leaf.Leaf.TheVariants as leaf

-- whether the text is that of a set of flags, for a table of the flags' names and bits, and a number of bits
abbrev pub reads_flags : List (List ℕ × ℕ) → ℕ → List ℕ → Bool
reads_flags table size text = is_some (result_ok (read_text (flag_piece table size) text))

-- whether the text is that of a set of these flags
unfoldable pub is_flags : FlagSet → List ℕ → Bool
is_flags flag_set.Barrier text = reads_flags barriers 32 text
is_flags flag_set.MemoryDecorations text = reads_flags memory_decorations 8 text
is_flags flag_set.StorageAccess text = reads_flags storage_accesses 32 text

-- whether there is a text for which the test is true
abbrev pub text_is : (List ℕ → Bool) → Option (List ℕ) → Bool
text_is test None = false
text_is test (Some text) = test text

-- whether the JSON is one of these values
unfoldable pub accepts_leaf : Leaf → Json → Bool
accepts_leaf (leaf.Natural greatest) j = is_some (natural_in (greatest + 1) j)
accepts_leaf (leaf.OptionalNatural greatest) j = is_null j || is_some (natural_in (greatest + 1) j)
accepts_leaf leaf.NonZero j = is_some (nonzero_in j)
accepts_leaf leaf.Integer16 j = is_some (integer_in (2 ^ 15) j)
accepts_leaf leaf.Integer32 j = is_some (integer_in (2 ^ 31) j)
accepts_leaf leaf.Integer64 j = is_some (integer_in (2 ^ 63) j)
accepts_leaf leaf.Float32 j = is_some (float_in binary32 j)
accepts_leaf leaf.Float64 j = is_some (float_in binary64 j)
accepts_leaf leaf.Boolean j = is_some (as_bool j)
accepts_leaf leaf.Text j = is_some (as_str j)
accepts_leaf (leaf.Flags set) j = text_is (is_flags set) (as_str j)
accepts_leaf (leaf.Kind kind) j = text_is (kind_has kind) (as_str j)
