-- Modules.
--
-- A module is not written if it has types of the results of built-in functions, comments on members of structures, or a
-- literal that is a NaN or an infinity; or if its JSON is nested more than 127 deep; or if an allocation failed. The
-- last one is a reason only for a module that has none of the first three.
use Rattle.std.specs.Prelude.{◌<◌, ⊤, Option, Some, None, IsTrue}
use Rattle.json.specs.Json.{Json}
use Rattle.json.specs.Tree.{depth}
use Rattle.indexmap.specs.IndexMap.{IsEmpty}
use Rattle.std.specs.declared.alloc.Global.{Global}
use Rattle.std.specs.declared.boxed.Box.{Box}
use Rattle.naga_ir.specs.declared.module.DocComments.{DocComments}
use Rattle.naga_ir.specs.declared.module.Module.{Module}
use Rattle.naga_json.specs.Module.{module_form, module_value}
use Rattle.naga_json_write.specs.Finite.{is_finite_module}
use Rattle.naga_json_write.specs.declared.write_error.WriteError.{WriteError}
use Rattle.naga_json_write.specs.declared.write_error.WriteError.TheVariants.{Memory, NotFinite, PredeclaredTypes, MemberComments, TooDeep}
use Rattle.naga_json.specs.declared.nesting.TheConstants.{MAX_NESTING}

-- the module has no comments on members of structures
abbrev pub HasNoMemberComments : Option (Box DocComments Global) → Type 0
HasNoMemberComments None = ⊤
HasNoMemberComments (Some comments) = IsEmpty comments.value.struct_members

-- The JSON is that of the module. There is none if the module has types of the results of built-in functions, comments
-- on members of structures, or a literal that is a NaN or an infinity.
pub record IsModuleJson (whole : Module) (j : Json) : Type 0 where
  pub no_predeclared_types : IsEmpty whole.special_types.predeclared_types
  pub no_member_comments : HasNoMemberComments whole.doc_comments
  pub writes : module_form.Writes (module_value whole) j

-- the module has no types of the results of built-in functions, no comments on members of structures, and no literal
-- that is a NaN or an infinity
pub record IsWritable (whole : Module) : Type 0 where
  pub no_predeclared_types : IsEmpty whole.special_types.predeclared_types
  pub no_member_comments : HasNoMemberComments whole.doc_comments
  pub finite : IsTrue (is_finite_module whole)

-- The error is the reason why the module was not written. That an allocation failed is one only for a module that is
-- writable, so that a NaN is not reported as lack of memory.
abbrev pub IsReason : Module → WriteError → Type 0
IsReason whole Memory = IsWritable whole
IsReason whole NotFinite = (j : Json) → ¬ module_form.Writes (module_value whole) j
IsReason whole PredeclaredTypes = ¬ IsEmpty whole.special_types.predeclared_types
IsReason whole MemberComments = ¬ HasNoMemberComments whole.doc_comments
IsReason whole TooDeep = (j : Json) × IsModuleJson whole j × (MAX_NESTING < depth j)
