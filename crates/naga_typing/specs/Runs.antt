-- What the runs of a typed body use.
use Rattle.std.specs.Prelude.{◌≡◌, ◌⊎◌, ℕ, All, Option, Some, None}
use Rattle.naga_kinds.specs.declared.scalar.Scalar.{Scalar}
use Rattle.naga_kinds.specs.declared.scalar.TheConstants.Scalar.{BOOL, I32, U32}
use Rattle.naga_ir.specs.Tree.{return}
use Rattle.naga_flow.specs.Events.{Event, met, branched, selected, returned}
use Rattle.naga_typifier.specs.Context.{Context}
use Rattle.naga_typifier.specs.declared.resolution.TypeResolution.{TypeResolution}
use Rattle.naga_typing.specs.Requirements.{Fits, Has, Signature, sized_type}
use Rattle.naga_typing.specs.Statements.{of_jump, required}

module _ (ctx : Context) (known : ℕ → Option TypeResolution) (signature : Signature) where
  -- what a selector is made of
  abbrev pub Selects : Scalar → Type 0
  Selects scalar = (scalar ≡ I32) ⊎ (scalar ≡ U32)

  -- the event uses each value at its type: a plain statement its operands, a choice its condition, which is a bool, a
  -- switch its selector, which is an `i32` or a `u32`, and a return its value
  abbrev pub EventIsTyped : Event → Type 0
  EventIsTyped (met what) = All (Fits ctx known signature) (required what)
  EventIsTyped (branched handle) = Has ctx known signature handle (sized_type None BOOL)
  EventIsTyped (selected handle values) =
      (scalar : Scalar) × Has ctx known signature handle (sized_type None scalar) × Selects scalar
  EventIsTyped (returned handle) = All (Fits ctx known signature) (of_jump (return (Some handle)))
