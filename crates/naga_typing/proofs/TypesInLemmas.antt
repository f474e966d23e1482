-- If a typifier finds the types of all expressions of a function, each expression has one.
use Rattle.std.proofs.Common.{◌≡◌, ◌∙◌, sym, ap, refl, inl, inr, ℕ, ◌<◌, ◌≤◌, List, [], length, Option, Some, None, arith}
use Rattle.std.proofs.lemmas.Bool.{cases_lt}
use Rattle.std.proofs.lemmas.List.{length-map}
use Rattle.std.proofs.lemmas.Option.{none-some, slice_get_cases, slice_get_past}
use Rattle.std.specs.Prelude.{option_and_then, option_map}
use Rattle.naga_arena.specs.Arena.{value_at, values}
use Rattle.naga_arena.specs.declared.span.Span.{Span}
use Rattle.naga_ir.specs.declared.expression.Expression.{Expression}
use Rattle.naga_ir.specs.declared.module.Function as function
use Rattle.naga_ir.specs.declared.module.Module as the_module
use Rattle.naga_compact.specs.Operands.{OperandsPrecede}
use Rattle.naga_typifier.specs.Context.{Context, context_in}
use Rattle.naga_typifier.specs.Table.{type_of}
use Rattle.naga_typifier.specs.Typing.{typing}
use Rattle.naga_typifier.specs.declared.resolution.TypeResolution.{TypeResolution}
use Rattle.naga_typing.specs.Arenas.{AreTypes}
use Rattle.naga_typing.specs.Forms.{Form, form}
use Rattle.naga_typing.specs.TypedModules.{typing_in}
use Rattle.naga_typing.specs.TypedValues.{types_in}
use Rattle.naga_typing.proofs.AreTypesLemmas.{Precede-of}
use Rattle.naga_typing.proofs.TypingLemmas.{typing-some, typing-types}

-- ---- arenas

same-length : (arena : List (Expression × Span)) → length (values arena) ≡ length arena
same-length arena = length-map arena (λ (p : Expression × Span). p.0)

pub found-inside : (arena : List (Expression × Span)) (x : ℕ) → x < length arena → value_at arena x ≡ None → ⊥
found-inside arena x less none = elim (slice_get_cases (values arena) x).1 [
  | inl present ↦ none-some present.0 (sym none ∙ present.2)
  | inr past ↦ absurd (omega (arith, same-length arena, less, past.0))
]

none-past : (arena : List (Expression × Span)) (x : ℕ) → length arena ≤ x → value_at arena x ≡ None
none-past arena x past = slice_get_past (values arena) x (omega (arith, same-length arena, past))

-- ---- functions

module _ (whole : the_module.Module) (inside : function.Function) (complete : (typing_in whole inside).1 ≡ None) (precede : OperandsPrecede inside.expressions) where
  abbrev ctx : Context
  ctx = context_in whole inside

  abbrev known : ℕ → Option TypeResolution
  known = types_in whole inside

  finds : typing ctx [] (values inside.expressions) ≡ ((typing_in whole inside).0, None)
  finds = λ i. ((typing_in whole inside).0, complete i)

  are-types : AreTypes ctx (value_at inside.expressions) known
  are-types = typing-types ctx inside.expressions (Precede-of inside.expressions precede) (typing_in whole inside).0 finds

  pub type-found : (x : ℕ) (e : Expression) → value_at inside.expressions x ≡ Some e → (ty : TypeResolution) × (known x ≡ Some ty) × (type_of ctx known e ≡ Some ty)
  type-found x e is = go (known x) refl
    where
      less : x < length inside.expressions
      less = elim (cases_lt x (length inside.expressions)) [
        | inl before ↦ before
        | inr past ↦ absurd (none-some e (sym (none-past inside.expressions x past) ∙ is))
      ]

      go : (found : Option TypeResolution) → known x ≡ found → (ty : TypeResolution) × (known x ≡ Some ty) × (type_of ctx known e ≡ Some ty)
      go None none = absurd (typing-some ctx inside.expressions (Precede-of inside.expressions precede) (typing_in whole inside).0 finds x less none)
      go (Some ty) some = (ty, some, sym (are-types x ∙ ap (option_and_then (type_of ctx known)) is) ∙ some)

  -- what has a type is an expression of the function
  pub typed-inside : (x : ℕ) (ty : Form) → option_map (form ctx.types) (known x) ≡ Some ty → x < length inside.expressions
  typed-inside x ty is = elim (cases_lt x (length inside.expressions)) [
    | inl before ↦ before
    | inr past ↦
        let none : known x ≡ None = are-types x ∙ ap (option_and_then (type_of ctx known)) (none-past inside.expressions x past) in
        absurd (none-some ty (sym (ap (option_map (form ctx.types)) none) ∙ is))
  ]
