-- The functions that use an access without an `Emit` of its own.
use Rattle.std.specs.Prelude.{[], true}
use Rattle.naga_flow.specs.Bodies.{BodyPasses}
use Rattle.naga_flow.specs.Readings.{emitted_in}
use Rattle.naga_flow.specs.Scopes.{BlockPasses}
use Rattle.naga_ir.specs.View.{tree_of}
use Rattle.naga_ir.specs.declared.module.Function.{Function}

-- Each expression of the body is evaluated before its value is used, and not again in its scope. An access is evaluated by
-- an `Emit`. Only chains of accesses by constant indices to what is ready when the function is entered need none.
abbrev pub EmitsAccesses : Function → Type 0
EmitsAccesses whole = BlockPasses (emitted_in (λ handle. true) whole.expressions) [] [] (tree_of whole.body)

-- the body passes both checks, but uses an access that needs an `Emit` and may not have been evaluated by one
abbrev pub LacksEmit : Function → Type 0
LacksEmit whole = BodyPasses whole × ¬ EmitsAccesses whole
