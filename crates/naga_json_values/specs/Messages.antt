-- The messages of the causes of errors.
use Rattle.std.specs.Prelude.{ℕ, List, ◌++◌, codes}
use Rattle.std.specs.Fmt.{decimal}
use Rattle.naga_json_values.specs.declared.cause.Cause.{Cause}
use Rattle.naga_json_values.specs.declared.cause.Cause.TheVariants as cause

-- why a value represents nothing
abbrev pub cause_text : Cause → List ℕ
cause_text cause.Memory = codes "out of memory"
cause_text cause.Integer = codes "expected an integer in the range of its type"
cause_text cause.Float = codes "expected a finite number"
cause_text cause.Boolean = codes "expected a boolean"
cause_text cause.Text = codes "expected a string"
cause_text cause.Flags = codes "expected names of flags"
cause_text cause.List = codes "expected a list of the right length"
cause_text (cause.RepeatedType position) = codes "types[" ++ decimal position ++ codes "]: the same type twice"
cause_text cause.Object = codes "expected an object"
cause_text cause.Range = codes "expected a range whose start is at most its end"
cause_text cause.Nesting = codes "blocks are nested too deeply"
cause_text cause.Variant = codes "expected the name of a variant, or an object with only this name"
cause_text cause.UnknownVariant = codes "unknown variant"
cause_text cause.MissingField = codes "missing field"
cause_text cause.UnknownField = codes "unknown or repeated field"
