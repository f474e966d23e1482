-- A module is there if its types and the rest of it are there.
use Rattle.std.proofs.Common.{◌≡◌, ◌≢◌, ◌∙◌, ap, sym, refl, subst, ℕ, List, codes, Option, Some, None, Result, Ok, Err, option_map}
use Rattle.std.specs.Result.{IsErrAnd}
use Rattle.json.specs.Json.{Json}
use Rattle.naga_arena.specs.declared.span.Span.{Span}
use Rattle.naga_ir.specs.Types.{Inner}
use Rattle.naga_ir.specs.declared.module.Module as the_module
use Rattle.naga_json.specs.Declarations.{ConstantValue, OverrideValue, GlobalVariableValue}
use Rattle.naga_json.specs.DiagnosticFilter.{NodeValue}
use Rattle.naga_json.specs.DocComments.{DocCommentsValue}
use Rattle.naga_json.specs.EntryPoint.{EntryPointValue}
use Rattle.naga_json.specs.Expression.{ExpressionValue}
use Rattle.naga_json.specs.FormFields.{form_struct_in}
use Rattle.naga_json.specs.Function.{FunctionValue}
use Rattle.naga_json.specs.Module.{ModuleValue, module_fields, module_form}
use Rattle.naga_json.specs.Numbers.{◌>>=◌}
use Rattle.naga_json.specs.Objects.{fields_in, required_at}
use Rattle.naga_json.specs.SpecialTypes.{SpecialTypesValue}
use Rattle.naga_json_types.specs.Arenas.{RefusesTypes, types_in}
use Rattle.naga_json_read.specs.Module.{ReadsModule, ReadsParts, RefusesModule, RestValue, error_of, rest_in, whole_rest}
use Rattle.naga_json_read.specs.Parts.{declarations_in, definitions_in}
use Rattle.naga_json_values.specs.declared.cause.Cause.{Cause}
use Rattle.naga_json_values.specs.declared.cause.Cause.TheVariants as cause
use Rattle.naga_json_read.specs.declared.read_error.ReadError.{ReadError}
use Rattle.naga_json.proofs.BindLemmas.{at_some}

-- the module with these types, and with the rest
abbrev pub module_of : List ((Option (List ℕ) × Inner) × Span) → RestValue → ModuleValue
module_of types rest = record {
  types = types;
  special_types = rest.declarations.special_types;
  constants = rest.declarations.constants;
  overrides = rest.declarations.overrides;
  global_variables = rest.declarations.global_variables;
  global_expressions = rest.declarations.global_expressions;
  functions = rest.definitions.functions;
  entry_points = rest.definitions.entry_points;
  diagnostic_filters = rest.definitions.diagnostic_filters;
  diagnostic_filter_leaf = rest.definitions.diagnostic_filter_leaf;
  doc_comments = rest.definitions.doc_comments;
}

-- the module with these types and the rest
abbrev pub whole_of : Option (List ((Option (List ℕ) × Inner) × Span)) → Option RestValue → Option ModuleValue
whole_of types rest = types >>= λ a. rest >>= λ b. Some (module_of a b)

-- a module has the types of its field
module_types : (types : Option (List ((Option (List ℕ) × Inner) × Span))) (rest : Option RestValue) (value : ModuleValue) → Some value ≡ whole_of types rest → Some value.types ≡ types
module_types None rest value e = absurd (cc)
module_types (Some a) None value e = absurd (cc)
module_types (Some a) (Some b) value e = ap (λ o. option_map (λ v. v.types) o) e

-- there is no module without its types
no_types : (types : Option (List ((Option (List ℕ) × Inner) × Span))) (rest : Option RestValue) → None ≡ types → None ≡ whole_of types rest
no_types types rest e = rw (sym e) refl

-- there is no module without the rest of it
no_rest : (types : Option (List ((Option (List ℕ) × Inner) × Span))) (rest : Option RestValue) → None ≡ rest → None ≡ whole_of types rest
no_rest None rest e = refl
no_rest (Some a) rest e = rw (sym e) refl

pub types_and_rest : (types : Option (List ((Option (List ℕ) × Inner) × Span))) (rest : Option RestValue) (a : List ((Option (List ℕ) × Inner) × Span)) (b : RestValue) → Some a ≡ types → Some b ≡ rest → Some (module_of a b) ≡ whole_of types rest
types_and_rest types rest a b e f = rw (sym e) (rw (sym f) refl)

-- the parts of a module are read one after another, or the types and then the rest
whole-flat : (types : Option (List ((Option (List ℕ) × Inner) × Span))) (special : Option SpecialTypesValue) (constants : Option (List (ConstantValue × Span))) (overrides : Option (List (OverrideValue × Span))) (variables : Option (List (GlobalVariableValue × Span))) (expressions : Option (List (ExpressionValue × Span))) (functions : Option (List (FunctionValue × Span))) (entry_points : Option (List EntryPointValue)) (filters : Option (List (NodeValue × Span))) (leaf : Option (Option ℕ)) (comments : Option (Option DocCommentsValue)) →
    whole_of types (whole_rest
    (special >>= λ b. constants >>= λ c. overrides >>= λ d. variables >>= λ e. expressions >>= λ f. Some (record { special_types = b; constants = c; overrides = d; global_variables = e; global_expressions = f }))
    (functions >>= λ g. entry_points >>= λ h. filters >>= λ i. leaf >>= λ k. comments >>= λ l. Some (record { functions = g; entry_points = h; diagnostic_filters = i; diagnostic_filter_leaf = k; doc_comments = l })))
    ≡ (types >>= λ a. special >>= λ b. constants >>= λ c. overrides >>= λ d. variables >>= λ e. expressions >>= λ f. functions >>= λ g. entry_points >>= λ h. filters >>= λ i. leaf >>= λ k. comments >>= λ l.
    Some (record { types = a; special_types = b; constants = c; overrides = d; global_variables = e; global_expressions = f; functions = g; entry_points = h; diagnostic_filters = i; diagnostic_filter_leaf = k; doc_comments = l }))
whole-flat None special constants overrides variables expressions functions entry_points filters leaf comments = refl
whole-flat (Some a) None constants overrides variables expressions functions entry_points filters leaf comments = refl
whole-flat (Some a) (Some b) None overrides variables expressions functions entry_points filters leaf comments = refl
whole-flat (Some a) (Some b) (Some c) None variables expressions functions entry_points filters leaf comments = refl
whole-flat (Some a) (Some b) (Some c) (Some d) None expressions functions entry_points filters leaf comments = refl
whole-flat (Some a) (Some b) (Some c) (Some d) (Some e) None functions entry_points filters leaf comments = refl
whole-flat (Some a) (Some b) (Some c) (Some d) (Some e) (Some f) None entry_points filters leaf comments = refl
whole-flat (Some a) (Some b) (Some c) (Some d) (Some e) (Some f) (Some g) None filters leaf comments = refl
whole-flat (Some a) (Some b) (Some c) (Some d) (Some e) (Some f) (Some g) (Some h) None leaf comments = refl
whole-flat (Some a) (Some b) (Some c) (Some d) (Some e) (Some f) (Some g) (Some h) (Some i) None comments = refl
whole-flat (Some a) (Some b) (Some c) (Some d) (Some e) (Some f) (Some g) (Some h) (Some i) (Some k) None = refl
whole-flat (Some a) (Some b) (Some c) (Some d) (Some e) (Some f) (Some g) (Some h) (Some i) (Some k) (Some l) = refl

-- the parts are those in the fields
pub whole-module : (j value : Json) → Some value ≡ fields_in module_fields.names j → whole_of (required_at types_in (codes "types") value) (rest_in value) ≡ module_form.decode j
unfolding form_struct_in rest_in declarations_in definitions_in
whole-module j value found = whole-flat _ _ _ _ _ _ _ _ _ _ _ ∙ sym (at_some _ value _ (sym found))

-- the reason why the types are not read is that of the module
pub refuses-types : (reason : Cause) (types : Option (List ((Option (List ℕ) × Inner) × Span))) (rest : Option RestValue) → RefusesTypes reason types → RefusesModule reason (whole_of types rest)
refuses-types (cause.RepeatedType position) types rest h = λ value is. h value.types (module_types types rest value is)
refuses-types cause.Memory types rest h = tt
refuses-types other types rest h = no_types types rest h

-- there is no module without a part
pub refuses-none : (reason : Cause) (meaning : Option ModuleValue) → (reason ≢ cause.Memory → None ≡ meaning) → RefusesModule reason meaning
refuses-none (cause.RepeatedType position) meaning h = λ value is. let none : None ≡ meaning = h (λ e. absurd (cc)) in absurd (cc)
refuses-none cause.Memory meaning h = tt
refuses-none other meaning h = h (λ e. absurd (cc))

pub refuses-rest : (reason : Cause) (types : Option (List ((Option (List ℕ) × Inner) × Span))) (rest : Option RestValue) → (reason ≢ cause.Memory → None ≡ rest) → RefusesModule reason (whole_of types rest)
refuses-rest reason types rest h = refuses-none reason (whole_of types rest) (λ other. no_rest types rest (h other))

pub reads_parts-refused : (result : Result the_module.Module Cause) (reason : Cause) (meaning : Option ModuleValue) → IsErrAnd result (λ e. e ≡ reason) → RefusesModule reason meaning → ReadsParts result meaning
reads_parts-refused (Ok x) reason meaning same h = absurd same
reads_parts-refused (Err e) reason meaning same h = subst (λ r. RefusesModule r meaning) (sym same) h

reads_module-reason : (reason : Cause) (j : Json) (text : Option Json) → text ≡ Some j → RefusesModule reason (module_form.decode j) → ReadsModule (Err (error_of reason)) text
reads_module-reason cause.Memory j text is h = tt
reads_module-reason other j text is h = (λ e. absurd (cc), (j, is, h))

pub reads_module-refused : (result : Result the_module.Module ReadError) (reason : Cause) (j : Json) (text : Option Json) → IsErrAnd result (λ e. e ≡ error_of reason) → text ≡ Some j → RefusesModule reason (module_form.decode j) → ReadsModule result text
reads_module-refused (Ok x) reason j text same is h = absurd same
reads_module-refused (Err e) reason j text same is h = subst (λ r. ReadsModule (Err r) text) (sym same) (reads_module-reason reason j text is h)
