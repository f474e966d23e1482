-- Empty modules, and the empty parts of modules.
use Rattle.std.specs.Prelude.{◌≡◌, [], None}
use Rattle.indexmap.specs.IndexMap.{IsEmpty}
use Rattle.naga_ir.specs.Block.{pairs}
use Rattle.naga_ir.specs.declared.module.DocComments.{DocComments}
use Rattle.naga_ir.specs.declared.module.Function.{Function}
use Rattle.naga_ir.specs.declared.module.Module.{Module}
use Rattle.naga_ir.specs.declared.module.SpecialTypes.{SpecialTypes}

-- the function has no name, arguments, result, variables, expressions or statements
pub record IsEmptyFunction (function : Function) : Type 0 where
  pub name : function.name ≡ None
  pub arguments : function.arguments.items ≡ []
  pub result : function.result ≡ None
  pub local_variables : function.local_variables ≡ []
  pub expressions : function.expressions ≡ []
  pub named_expressions : IsEmpty function.named_expressions
  pub body : pairs function.body ≡ []
  pub diagnostic_filter_leaf : function.diagnostic_filter_leaf ≡ None

-- no special type is present
pub record HasNoSpecialTypes (types : SpecialTypes) : Type 0 where
  pub ray_desc : types.ray_desc ≡ None
  pub ray_intersection : types.ray_intersection ≡ None
  pub ray_vertex_return : types.ray_vertex_return ≡ None
  pub external_texture_params : types.external_texture_params ≡ None
  pub external_texture_transfer_function : types.external_texture_transfer_function ≡ None
  pub predeclared_types : IsEmpty types.predeclared_types

-- there is no doc comment
pub record HasNoComments (comments : DocComments) : Type 0 where
  pub types : IsEmpty comments.types
  pub struct_members : IsEmpty comments.struct_members
  pub entry_points : IsEmpty comments.entry_points
  pub functions : IsEmpty comments.functions
  pub constants : IsEmpty comments.constants
  pub global_variables : IsEmpty comments.global_variables
  pub module_comments : comments.module.items ≡ []

-- the module has no declarations and no doc comments
pub record IsEmptyModule (whole : Module) : Type 0 where
  pub types : whole.types ≡ []
  pub special_types : HasNoSpecialTypes whole.special_types
  pub constants : whole.constants ≡ []
  pub overrides : whole.overrides ≡ []
  pub global_variables : whole.global_variables ≡ []
  pub global_expressions : whole.global_expressions ≡ []
  pub functions : whole.functions ≡ []
  pub entry_points : whole.entry_points.items ≡ []
  pub diagnostic_filters : whole.diagnostic_filters ≡ []
  pub diagnostic_filter_leaf : whole.diagnostic_filter_leaf ≡ None
  pub doc_comments : whole.doc_comments ≡ None
