-- A module in which a function reads past the end of an array in a buffer, if the array is short, and the module in
-- which its accesses are clamped. And a swizzle with a component that is not there.
use Rattle.std.specs.Prelude.{◌≡◌, ◌<◌, ◌≤◌, ◌^◌, ℕ, Bool, true, List, [], ◌∷◌, Option, Some, None, Vec, length, map}
use Rattle.std.specs.declared.alloc.Global.{Global}
use Rattle.naga_arena.specs.Span.{undefined}
use Rattle.naga_arena.specs.declared.span.Span.{Span}
use Rattle.naga_kinds.specs.declared.address_space.AddressSpace.TheVariants.{Storage}
use Rattle.naga_kinds.specs.declared.flags.StorageAccess.{StorageAccess}
use Rattle.naga_kinds.specs.declared.math.MathFunction.TheVariants.{Min}
use Rattle.naga_kinds.specs.declared.operator.BinaryOperator.TheVariants.{Subtract}
use Rattle.naga_kinds.specs.declared.operator.SwizzleComponent.{SwizzleComponent}
use Rattle.naga_kinds.specs.declared.operator.SwizzleComponent.TheVariants.{X}
use Rattle.naga_kinds.specs.declared.scalar.ScalarKind.TheVariants.{Uint}
use Rattle.naga_kinds.specs.declared.scalar.VectorSize.TheVariants.{Bi}
use Rattle.naga_ir.specs.Module.{IsEmptyFunction, IsEmptyModule}
use Rattle.naga_ir.specs.Tree.{Tree}
use Rattle.naga_ir.specs.declared.block.Block.{Block}
use Rattle.naga_ir.specs.declared.expression.Expression.{Expression}
use Rattle.naga_ir.specs.declared.expression.Expression.TheVariants as expr
use Rattle.naga_ir.specs.declared.literal.Literal.TheVariants.{U32}
use Rattle.naga_ir.specs.declared.module.EntryPoint as entry_point
use Rattle.naga_ir.specs.declared.module.Function as function
use Rattle.naga_ir.specs.declared.module.GlobalVariable as global
use Rattle.naga_ir.specs.declared.module.Module as the_module
use Rattle.naga_ir.specs.declared.statement.Statement.{Statement, Call, Emit, Return, Store}
use Rattle.naga_ir.specs.declared.types.ArraySize.TheVariants.{Dynamic}
use Rattle.naga_ir.specs.declared.types.Type.{«Type» as Declared}
use Rattle.naga_ir.specs.declared.types.TypeInner.TheVariants as inner
use Rattle.naga_meaning.specs.Calls.{blank}
use Rattle.naga_meaning.specs.Machine.{does}
use Rattle.naga_meaning.specs.Values.{Outcome}
use Rattle.naga_bounds.specs.CalledOutcomes.{StaysInBoundsWithCalls}
use Rattle.naga_bounds.specs.Model.{Memory, Value, nothing_known, number, plain_calls, remembering, unsigned}
use Rattle.naga_bounds.specs.ModuleOutcomes.{computes, represented_in}
use Rattle.naga_bounds.specs.Reach.{Typed}
use Rattle.naga_bounds.specs.Watched.{watched}

-- the numbers of a vector with this many elements: its length and its capacity
pub record Room (count : ℕ) : Type 0 where
  pub len : ℕ
  pub cap : ℕ
  pub ok : (len ≡ count) × (len ≤ cap)
  pub small : cap < 2 ^ 63

-- What the examples are made of: an empty module, an empty function and so on, of which all is replaced that the
-- examples depend on. What is left is spare capacity, what an entry point is besides its function, and how the buffer
-- is accessed.
pub record Makings : Type 0 where
  pub whole : the_module.Module
  pub whole_is_empty : IsEmptyModule whole
  pub inside : function.Function
  pub inside_is_empty : IsEmptyFunction inside
  pub entry : entry_point.EntryPoint
  pub buffer : global.GlobalVariable
  pub access : StorageAccess
  pub arguments : Vec ℕ Global
  pub room : (count : ℕ) → Room count

-- ---- parts

-- an element with the undefined span
abbrev pub unspanned : {X : Type 0} → X → X × Span
unspanned it = (it, undefined)

-- the type `u32`
abbrev pub unsigned_type : Declared × Span
unsigned_type = (record { name = None; inner = inner.Scalar (record { kind = Uint; width = 4 }) }, undefined)

-- the type of an array of elements of the first type, in a buffer
abbrev pub array_type : Declared × Span
array_type = (record { name = None; inner = inner.Array 0 Dynamic 4 }, undefined)

module _ (of : Makings) where
  -- a vector of these elements
  abbrev pub vec_of : {X : Type 0} → Vec X Global → List X → Vec X Global
  vec_of old xs =
      let room = of.room (length xs) in
      record old { items = xs; len = room.len; cap = room.cap; ok = room.ok; small = room.small }

  -- a module without declarations
  abbrev pub bare_module : the_module.Module
  bare_module = record (of.whole) {
    types = [];
    special_types = record (of.whole.special_types) {
      ray_desc = None;
      ray_intersection = None;
      ray_vertex_return = None;
      external_texture_params = None;
      external_texture_transfer_function = None;
    };
    constants = [];
    overrides = [];
    global_variables = [];
    global_expressions = [];
    functions = [];
    entry_points = vec_of (of.whole.entry_points) [];
    diagnostic_filters = [];
    diagnostic_filter_leaf = None;
    doc_comments = None;
  }

  -- a body of these statements
  abbrev pub body_of : List Statement → Block
  body_of statements =
      record (of.inside.body) { entries = vec_of (of.inside.body.entries) (map unspanned statements) }

  -- a function without arguments and local variables that returns a `u32`, with these expressions and this body
  abbrev pub function_of : List Expression → List Statement → function.Function
  function_of expressions statements = record (of.inside) {
    name = None;
    arguments = vec_of (of.inside.arguments) [];
    result = Some (record { ty = 0; binding = None });
    local_variables = [];
    expressions = map unspanned expressions;
    named_expressions = of.inside.named_expressions;
    body = body_of statements;
    diagnostic_filter_leaf = None;
  }

  -- the same with an argument of type `u32`
  abbrev pub with_argument : function.Function → function.Function
  with_argument inside = record inside {
    arguments = vec_of (of.inside.arguments) ((record { name = None; ty = 0; binding = None }) ∷ []);
  }

  -- ---- the functions

  -- `fn pick(index: u32) -> u32 { return table[index]; }`
  abbrev pub pick : function.Function
  pick = with_argument
      (function_of
      (expr.GlobalVariable 0 ∷ expr.FunctionArgument 0 ∷ expr.Access 0 1 ∷ expr.Load 2 ∷ [])
      (Emit (2, 4) ∷ Return (Some 3) ∷ []))

  -- `fn pick(index: u32) -> u32 { return table[min(index, arrayLength(&table) - 1)]; }`
  abbrev pub clamped_pick : function.Function
  clamped_pick = with_argument
      (function_of
      (expr.Literal (U32 1) ∷ expr.GlobalVariable 0 ∷ expr.FunctionArgument 0 ∷ expr.ArrayLength 1
      ∷ expr.Binary Subtract 3 0 ∷ expr.Math Min 2 (Some 4) None None ∷ expr.Access 1 5 ∷ expr.Load 6 ∷ [])
      (Emit (3, 8) ∷ Return (Some 7) ∷ []))

  -- `fn main() -> u32 { var index: u32; index = 5; return pick(index); }`
  abbrev pub main : function.Function
  main =
      record (function_of
      (expr.LocalVariable 0 ∷ expr.Literal (U32 5) ∷ expr.Load 0 ∷ expr.CallResult 0 ∷ [])
      (Store 0 1 ∷ Emit (2, 3) ∷ Call 0 (vec_of (of.arguments) (2 ∷ [])) (Some 3) ∷ Return (Some 3) ∷ []))
      { local_variables = (record { name = None; ty = 0; init = None }, undefined) ∷ [] }

  -- ---- the modules

  -- the entry point `main`
  abbrev pub entry_of : entry_point.EntryPoint
  entry_of = record (of.entry) {
    workgroup_size_overrides = None;
    function = main;
    mesh_info = None;
    task_payload = None;
    incoming_ray_payload = None;
  }

  -- a module with the buffer `table`, this function, and the entry point `main`
  abbrev pub module_of : function.Function → the_module.Module
  module_of picks = record bare_module {
    types = unsigned_type ∷ array_type ∷ [];
    global_variables = (record (of.buffer) { name = None; space = Storage (of.access); ty = 1; init = None }, undefined) ∷ [];
    functions = (picks, undefined) ∷ [];
    entry_points = vec_of (of.whole.entry_points) (entry_of ∷ []);
  }

  -- the module as it is written
  abbrev pub old_module : the_module.Module
  old_module = module_of pick

  -- the module in which accesses are clamped
  abbrev pub new_module : the_module.Module
  new_module = module_of clamped_pick

  -- ---- swizzles

  -- the module with the type `vec2<u32>`
  abbrev pub module_with_vectors : the_module.Module
  module_with_vectors = record bare_module {
    types = unsigned_type ∷ (record { name = None; inner = inner.Vector Bi (record { kind = Uint; width = 4 }) }, undefined) ∷ [];
  }

  -- two components of a vector of two, the first of which is its first one
  abbrev pub swizzling : SwizzleComponent → function.Function
  swizzling second =
      function_of (expr.ZeroValue 1 ∷ expr.Swizzle Bi 0 (X ∷ second ∷ X ∷ X ∷ []) ∷ []) (Emit (1, 2) ∷ Return (Some 1) ∷ [])

-- ---- executions

-- each call is one of the first function of the module
abbrev pub first_called : ℕ → Option ℕ
first_called thing = Some 0

-- where the last index of the array is this one
abbrev pub memory_to : (last : ℕ) → Memory
memory_to last = record { variable = unsigned 0; last = last; arguments = [] }

-- a start in such a state, where nothing is evaluated
abbrev pub start_to : (last : ℕ) → Memory × Value
start_to last = (memory_to last, unsigned 0)

module _ (of : Makings) (whole : the_module.Module) where
  -- each access of `main` in this module, and of what it calls down to this depth, is in bounds
  abbrev pub MainStaysInBounds : (depth : ℕ) → (start : Memory × Value) → Type 0
  MainStaysInBounds depth start =
      StaysInBoundsWithCalls whole nothing_known (represented_in whole first_called) plain_calls remembering number 1 depth
      (main of) (blank start)

  -- what `main` computes in this module
  abbrev pub main_computes : (depth : ℕ) → (start : Memory × Value) → Outcome Value Memory
  main_computes depth start =
      computes nothing_known remembering number first_called plain_calls 1 depth whole (main of) start

-- whether each access of a body with these expressions is in bounds
abbrev pub stays_in_bounds : Typed → Tree → Bool
stays_in_bounds typed body =
    (does (watched nothing_known remembering number typed) 1 body
    (record { state = memory_to 0; values = λ handle. unsigned 0 }, true)).state.1
