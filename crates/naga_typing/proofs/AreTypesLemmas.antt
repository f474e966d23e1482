-- Where operands precede the expressions that have them, the types of an arena exist, and there are no others.
use Rattle.std.proofs.Common.{◌≡◌, ◌∙◌, sym, refl, ℕ, zero, suc, ◌<◌, List, Option, None, Some, arith}
use Rattle.std.proofs.lemmas.List.Elements.{All-contains_itself, All-weaker}
use Rattle.std.specs.List.{Contains}
use Rattle.std.specs.Prelude.{option_and_then}
use Rattle.naga_arena.specs.Arena.{value_at}
use Rattle.naga_arena.specs.declared.span.Span.{Span}
use Rattle.naga_ir.specs.declared.expression.Expression.{Expression}
use Rattle.naga_valid.specs.Operands.{operands_of}
use Rattle.naga_compact.specs.Operands.{OperandsPrecede}
use Rattle.naga_compact.proofs.IsReachedLemmas.{operand_precedes}
use Rattle.naga_typifier.specs.Context.{Context}
use Rattle.naga_typifier.specs.Table.{type_of}
use Rattle.naga_typifier.specs.declared.resolution.TypeResolution.{TypeResolution}
use Rattle.naga_typing.specs.Arenas.{AreTypes}
use Rattle.naga_typing.specs.Operands.{Depends}
use Rattle.naga_typing.proofs.DependsLemmas.{Depends-operands, Depends-weaker, type_of-depends}

-- each expression comes after those on which its type depends
abbrev pub Precede : (ℕ → Option Expression) → Type 0
Precede expressions = (handle : ℕ) (expression : Expression) → expressions handle ≡ Some expression → Depends (λ operand. operand < handle) expression

-- what holds of the earlier operands of an expression that is found holds of those on which its type depends
pub Depends-found : (P : ℕ → Type 0) (arena : List (Expression × Span)) → OperandsPrecede arena → (handle : ℕ) (expression : Expression) → value_at arena handle ≡ Some expression →
    ((operand : ℕ) → Contains (operands_of expression) operand → operand < handle → P operand) → Depends P expression
Depends-found P arena precede handle expression found holds =
    Depends-operands P expression
    (All-weaker (Contains (operands_of expression)) P
    (λ operand inside. holds operand inside (operand_precedes arena handle operand precede (record { expression = expression; found = found; contained = inside })))
    (operands_of expression) (All-contains_itself (operands_of expression)))

pub Precede-of : (arena : List (Expression × Span)) → OperandsPrecede arena → Precede (value_at arena)
Precede-of arena precede handle expression found =
    Depends-found (λ operand. operand < handle) arena precede handle expression found (λ operand inside before. before)

module _ (ctx : Context) (expressions : ℕ → Option Expression) (precede : Precede expressions) where
  -- ---- at most one

  module _ (types types' : ℕ → Option TypeResolution) (first : AreTypes ctx expressions types) (second : AreTypes ctx expressions types') where
    same-found : (handle : ℕ) → ((operand : ℕ) → operand < handle → types' operand ≡ types operand) → (found : Option Expression) → expressions handle ≡ found → option_and_then (type_of ctx types') found ≡ option_and_then (type_of ctx types) found
    same-found handle before None is = refl
    same-found handle before (Some expression) is =
        type_of-depends ctx types types' expression
        (Depends-weaker (λ operand. operand < handle) (λ operand. types' operand ≡ types operand) before expression (precede handle expression is))

    same-below : (limit handle : ℕ) → handle < limit → types' handle ≡ types handle
    same-below zero handle less = absurd (omega (arith, less))
    same-below (suc limit) handle less =
        second handle
        ∙ same-found handle (λ operand before. same-below limit operand (omega (arith, less, before))) (expressions handle) refl
        ∙ sym (first handle)

    pub AreTypes-unique : (handle : ℕ) → types' handle ≡ types handle
    AreTypes-unique handle = same-below (suc handle) handle (omega arith)

  -- ---- at least one

  -- the types, as far as they depend on chains of fewer than this number of expressions
  abbrev within : ℕ → ℕ → Option TypeResolution
  within zero handle = None
  within (suc n) handle = option_and_then (type_of ctx (within n)) (expressions handle)

  within-stable : (m n handle : ℕ) → handle < m → handle < n → within n handle ≡ within m handle
  within-stable zero n handle less less' = absurd (omega (arith, less))
  within-stable (suc m) zero handle less less' = absurd (omega (arith, less'))
  within-stable (suc m) (suc n) handle less less' =
      go (λ operand before. within-stable m n operand (omega (arith, less, before)) (omega (arith, less', before))) (expressions handle) refl
    where
      go : ((operand : ℕ) → operand < handle → within n operand ≡ within m operand) → (found : Option Expression) → expressions handle ≡ found → option_and_then (type_of ctx (within n)) found ≡ option_and_then (type_of ctx (within m)) found
      go earlier None is = refl
      go earlier (Some expression) is =
          type_of-depends ctx (within m) (within n) expression
          (Depends-weaker (λ operand. operand < handle) (λ operand. within n operand ≡ within m operand) earlier expression (precede handle expression is))

  abbrev pub types_of : ℕ → Option TypeResolution
  types_of handle = within (suc handle) handle

  pub AreTypes-exist : AreTypes ctx expressions types_of
  AreTypes-exist handle = go (expressions handle) refl
    where
      go : (found : Option Expression) → expressions handle ≡ found → option_and_then (type_of ctx (within handle)) found ≡ option_and_then (type_of ctx types_of) found
      go None is = refl
      go (Some expression) is =
          type_of-depends ctx types_of (within handle) expression
          (Depends-weaker (λ operand. operand < handle) (λ operand. within handle operand ≡ types_of operand)
          (λ operand before. within-stable (suc operand) handle operand (omega arith) before) expression (precede handle expression is))
