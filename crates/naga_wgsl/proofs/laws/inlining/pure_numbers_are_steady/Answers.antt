use Rattle.std.proofs.Common.{◌≡◌, refl, true, false, [], ◌∷◌}
use Rattle.naga_ir.specs.declared.expression.Expression.{Expression}
use Rattle.naga_ir.specs.declared.expression.Expression.TheVariants.{Literal, Load, Binary}
use Rattle.naga_kinds.specs.declared.operator.BinaryOperator.TheVariants.{Add, Less}
use Rattle.naga_ir.specs.declared.literal.Literal.TheVariants.{U32}
use Rattle.naga_meaning.specs.Functions.{shape_of}
use Rattle.naga_wgsl.specs.Pure.{is_pure}
use Rattle.naga_meaning.specs.Examples.{nothing_known, numbers}
use Rattle.naga_meaning.specs.Redirecting.{IsSteady}
use Rattle.std.specs.Prelude.{Some}
use Rattle.naga_wgsl.proofs.laws.inlining.pure_numbers_are_steady.Goals as goal

steady : (e : Expression) → is_pure e ≡ true → IsSteady numbers (Some (shape_of nothing_known e))
steady (Load pointer) p values action used state = absurd (let clash : false ≡ true = p in cc)
steady (Literal (U32 number)) p values action used state = refl
steady (Literal _) p values action used state = refl
steady (Binary Add left right) p [] action used state = refl
steady (Binary Add left right) p (x ∷ []) action used state = refl
steady (Binary Add left right) p (x ∷ y ∷ []) action used state = refl
steady (Binary Add left right) p (x ∷ y ∷ z ∷ rest) action used state = refl
steady (Binary Less left right) p [] action used state = refl
steady (Binary Less left right) p (x ∷ []) action used state = refl
steady (Binary Less left right) p (x ∷ y ∷ []) action used state = refl
steady (Binary Less left right) p (x ∷ y ∷ z ∷ rest) action used state = refl
steady (Binary _ left right) p values action used state = refl
steady _ p values action used state = refl

pub returns : goal.returns
returns g c = steady c
