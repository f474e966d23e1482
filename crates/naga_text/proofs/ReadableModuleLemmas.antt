-- The text of a module is readable.
use Rattle.std.proofs.Common.{refl, ℕ, List, [], ◌∷◌, ◌++◌}
use Rattle.std.specs.Prelude.{◌==◌, Option, Some, None, codes, slice_get, string_bytes}
use Rattle.std.specs.Int.RustNames.{bit_and}
use Rattle.std.specs.List.{enumerate_from}
use Rattle.naga_arena.specs.Arena.{values}
use Rattle.naga_kinds.specs.declared.binding.ResourceBinding.{ResourceBinding}
use Rattle.naga_kinds.specs.declared.flags.MemoryDecorations.{MemoryDecorations}
use Rattle.naga_ir.specs.Tree.{Tree}
use Rattle.naga_ir.specs.View.{tree_of}
use Rattle.naga_ir.specs.declared.expression.Expression.{Expression}
use Rattle.naga_ir.specs.declared.module.Constant as constant
use Rattle.naga_ir.specs.declared.module.EntryPoint as entry_point
use Rattle.naga_ir.specs.declared.module.Function as function
use Rattle.naga_ir.specs.declared.module.FunctionArgument as argument
use Rattle.naga_ir.specs.declared.module.FunctionResult as result
use Rattle.naga_ir.specs.declared.module.GlobalVariable as global
use Rattle.naga_ir.specs.declared.module.LocalVariable as local
use Rattle.naga_ir.specs.declared.module.Module as the_module
use Rattle.naga_ir.specs.declared.module.Override as override
use Rattle.naga_arena.specs.declared.span.Span.{Span}
use Rattle.naga_ir.specs.declared.types.«Type».{«Type» as Declared}
use Rattle.naga_typifier.specs.declared.resolution.TypeResolution.{TypeResolution}
use Rattle.naga_valid.specs.Declarations.{references_of_constant, references_of_global_variable, references_of_local_variable, references_of_override}
use Rattle.naga_valid.specs.ElementNames.{name_of_part, text_of}
use Rattle.naga_valid.specs.declared.place.Part.TheVariants as part
use Rattle.naga_text.specs.Escapes.{is_plain}
use Rattle.naga_text.specs.Module.{argument_line, body_before, braced, constant_line, declaration_lines, declared_text, decorations_text, definition_lines, entry_body_before, entry_point_lines, expression_line, function_body, function_lines, global_expression_line, global_line, local_line, numbers, optional_id, optional_place, override_line, result_line, signature_lines, stage_text, storage_text, text_after}
use Rattle.naga_text.specs.Readable.{IsPlain, IsReadable}
use Rattle.naga_text.specs.Resolved.{types_in}
use Rattle.naga_text.specs.Types.{type_line}
use Rattle.naga_text.proofs.ReadableBlocksLemmas.{tree_text-readable}
use Rattle.naga_text.proofs.ReadableExpressionsLemmas.{expression_text-plain}
use Rattle.naga_text.proofs.derived_lemmas.ReadableNamesLemmas.{shader_stage_name-plain}
use Rattle.naga_text.proofs.ReadableOperandsLemmas.{between-plain, references_text-plain}
use Rattle.naga_text.proofs.derived_lemmas.ReadableTextsLemmas.{address_space_text-plain}
use Rattle.naga_text.proofs.ReadableResolvedLemmas.{resolved_text-plain}
use Rattle.naga_text.proofs.ReadableTypesLemmas.{optional_binding-plain, type_line-readable, type_text-plain}
use Rattle.naga_text.proofs.ReadableWordsLemmas.{flag-plain, name_text-plain, number-plain, quoted-plain, word-plain}
use Rattle.naga_text.proofs.SpellsLemmas.{IsAsciiPassing, IsReadable-plain, Spells-after, Spells-append, Spells-ascii, Spells-flat_map, Spells-nil}

-- ---- declarations

pub declared_text-plain : (what : List ℕ) → IsAsciiPassing is_plain what → (index : ℕ) (name : Option (List ℕ)) → IsPlain (declared_text what index name)
declared_text-plain what pass index name = Spells-after what pass (Spells-append (number-plain index) (name_text-plain name))

-- a line
content-readable : {content : List ℕ} → IsPlain content → IsReadable (content ++ codes "\n")
content-readable content = Spells-append (IsReadable-plain content) (Spells-ascii (codes "\n") refl)

constant_line-readable : (entry : ℕ × constant.Constant) → IsReadable (constant_line entry)
constant_line-readable entry =
    Spells-append (IsReadable-plain (declared_text-plain (codes "constant") refl entry.0 (text_of (entry.1).name)))
    (content-readable (references_text-plain (references_of_constant entry.1)))

optional_id-plain : (id : Option ℕ) → IsPlain (optional_id id)
optional_id-plain (Some id) = Spells-after (codes " id") refl (number-plain id)
optional_id-plain None = Spells-nil

override_line-readable : (entry : ℕ × override.Override) → IsReadable (override_line entry)
override_line-readable entry =
    Spells-append (IsReadable-plain (declared_text-plain (codes "override") refl entry.0 (text_of (entry.1).name)))
    (Spells-append (IsReadable-plain (optional_id-plain (entry.1).id)) (content-readable (references_text-plain (references_of_override entry.1))))

optional_place-plain : (place : Option ResourceBinding) → IsPlain (optional_place place)
optional_place-plain (Some place) =
    Spells-append (Spells-after (codes " group") refl (number-plain place.group)) (Spells-after (codes " binding") refl (number-plain place.binding))
optional_place-plain None = Spells-nil

decorations_text-plain : (decorations : MemoryDecorations) → IsPlain (decorations_text decorations)
decorations_text-plain decorations =
    Spells-append (flag-plain (bit_and decorations.0 1 == 1) (Spells-ascii (codes "coherent") refl)) (flag-plain (bit_and decorations.0 2 == 2) (Spells-ascii (codes "volatile") refl))

storage_text-plain : (declared : global.GlobalVariable) → IsPlain (storage_text declared)
storage_text-plain declared =
    Spells-append (address_space_text-plain declared.space) (Spells-append (optional_place-plain declared.binding) (decorations_text-plain declared.memory_decorations))

global_line-readable : (entry : ℕ × global.GlobalVariable) → IsReadable (global_line entry)
global_line-readable entry =
    Spells-append (IsReadable-plain (declared_text-plain (codes "global") refl entry.0 (text_of (entry.1).name)))
    (Spells-append (IsReadable-plain (storage_text-plain entry.1)) (content-readable (references_text-plain (references_of_global_variable entry.1))))

global_expression_line-readable : (entry : ℕ × Expression) → IsReadable (global_expression_line entry)
global_expression_line-readable entry =
    Spells-append (IsReadable-plain (between-plain (codes "expression [") refl entry.0 (codes "] = ") refl)) (content-readable (expression_text-plain entry.1))

-- ---- functions

argument_line-readable : (entry : ℕ × argument.FunctionArgument) → IsReadable (argument_line entry)
argument_line-readable entry =
    Spells-append (IsReadable-plain (declared_text-plain (codes "    argument") refl entry.0 (text_of (entry.1).name)))
    (content-readable (Spells-append (type_text-plain (entry.1).ty) (optional_binding-plain (entry.1).binding)))

result_line-readable : (declared : Option result.FunctionResult) → IsReadable (result_line declared)
result_line-readable (Some declared) =
    Spells-after (codes "    result") refl (content-readable (Spells-append (type_text-plain declared.ty) (optional_binding-plain declared.binding)))
result_line-readable None = Spells-nil

local_line-readable : (entry : ℕ × local.LocalVariable) → IsReadable (local_line entry)
local_line-readable entry =
    Spells-append (IsReadable-plain (declared_text-plain (codes "    local") refl entry.0 (text_of (entry.1).name)))
    (content-readable (references_text-plain (references_of_local_variable entry.1)))

expression_line-readable : (types : List (Declared × Span)) (resolved : List TypeResolution) (declared : function.Function) (entry : ℕ × Expression)
    → IsReadable (expression_line types resolved declared entry)
expression_line-readable types resolved declared entry =
    Spells-append
    (IsReadable-plain (Spells-append (between-plain (codes "    [") refl entry.0 (codes "]") refl) (name_text-plain (name_of_part declared (part.Expression entry.0)))))
    (Spells-append (IsReadable-plain (Spells-after (codes ":") refl (resolved_text-plain types (slice_get resolved entry.0))))
    (Spells-after (codes " = ") refl (content-readable (expression_text-plain entry.1))))

signature_lines-readable : (declared : function.Function) → IsReadable (signature_lines declared)
signature_lines-readable declared =
    Spells-append (Spells-flat_map argument_line (enumerate_from 0 declared.arguments.items) argument_line-readable)
    (Spells-append (result_line-readable declared.result) (Spells-flat_map local_line (enumerate_from 0 (values declared.local_variables)) local_line-readable))

function_body-readable : (old : Option Tree) (owner : the_module.Module) (declared : function.Function) → IsReadable (function_body old owner declared)
function_body-readable old owner declared =
    Spells-append (signature_lines-readable declared)
    (Spells-append (Spells-flat_map (expression_line owner.types (types_in owner declared) declared) (enumerate_from 0 (values declared.expressions))
    (expression_line-readable owner.types (types_in owner declared) declared))
    (tree_text-readable (codes "    ") (Spells-ascii (codes "    ") refl) old (tree_of declared.body)))

braced-readable : (old : Option Tree) (owner : the_module.Module) (declared : function.Function) → IsReadable (braced old owner declared)
braced-readable old owner declared =
    Spells-after (codes " {\n") refl (Spells-append (function_body-readable old owner declared) (Spells-ascii (codes "}\n") refl))

function_lines-readable : (old : Option the_module.Module) (owner : the_module.Module) (entry : ℕ × function.Function) → IsReadable (function_lines old owner entry)
function_lines-readable old owner entry =
    Spells-append (IsReadable-plain (declared_text-plain (codes "function") refl entry.0 (text_of (entry.1).name))) (braced-readable (body_before old entry) owner entry.1)

numbers-plain : (list : List ℕ) → IsPlain (numbers list)
numbers-plain [] = Spells-nil
numbers-plain (n ∷ others) = Spells-append (number-plain n) (numbers-plain others)

stage_text-plain : (entry : entry_point.EntryPoint) → IsPlain (stage_text entry)
stage_text-plain entry =
    Spells-append (word-plain (shader_stage_name-plain entry.stage)) (Spells-after (codes " workgroup") refl (numbers-plain entry.workgroup_size))

entry_point_lines-readable : (old : Option the_module.Module) (owner : the_module.Module) (entry : ℕ × entry_point.EntryPoint) → IsReadable (entry_point_lines old owner entry)
entry_point_lines-readable old owner entry =
    Spells-append (IsReadable-plain (Spells-after (codes "entry point") refl (Spells-append (number-plain entry.0) (quoted-plain (string_bytes (entry.1).name)))))
    (Spells-append (IsReadable-plain (stage_text-plain entry.1)) (braced-readable (entry_body_before old entry.0) owner (entry.1).function))

-- ---- modules

declaration_lines-readable : (whole : the_module.Module) → IsReadable (declaration_lines whole)
declaration_lines-readable whole =
    Spells-append (Spells-flat_map type_line (enumerate_from 0 (values whole.types)) type_line-readable)
    (Spells-append (Spells-flat_map constant_line (enumerate_from 0 (values whole.constants)) constant_line-readable)
    (Spells-append (Spells-flat_map override_line (enumerate_from 0 (values whole.overrides)) override_line-readable)
    (Spells-flat_map global_line (enumerate_from 0 (values whole.global_variables)) global_line-readable)))

definition_lines-readable : (old : Option the_module.Module) (whole : the_module.Module) → IsReadable (definition_lines old whole)
definition_lines-readable old whole =
    Spells-append (Spells-flat_map global_expression_line (enumerate_from 0 (values whole.global_expressions)) global_expression_line-readable)
    (Spells-append (Spells-flat_map (function_lines old whole) (enumerate_from 0 (values whole.functions)) (function_lines-readable old whole))
    (Spells-flat_map (entry_point_lines old whole) (enumerate_from 0 whole.entry_points.items) (entry_point_lines-readable old whole)))

pub text_after-readable : (old : Option the_module.Module) (whole : the_module.Module) → IsReadable (text_after old whole)
text_after-readable old whole = Spells-append (declaration_lines-readable whole) (definition_lines-readable old whole)
