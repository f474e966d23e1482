-- A value of the type of an expression has each type that the expression has.
use Rattle.std.proofs.Common.{◌≡◌, ◌∙◌, sym, ap, subst, ℕ, Option, Some}
use Rattle.std.specs.Prelude.{option_map}
use Rattle.naga_typifier.specs.Context.{Context}
use Rattle.naga_typifier.specs.declared.resolution.TypeResolution.{TypeResolution}
use Rattle.naga_typing.specs.Forms.{Form, form}
use Rattle.naga_typing.specs.Requirements.{Has, Signature}
use Rattle.naga_typing.specs.TypedValues.{HasType, HasTypeOf}

pub HasTypeOf-known : {Value : Type 0} (has_type : Value → Form → Type 0) (ctx : Context) (known : ℕ → Option TypeResolution) (signature : Signature) (x : ℕ) (v : Value) (ty : TypeResolution) →
    HasTypeOf has_type ctx known x v → Has ctx known signature x ty → HasType has_type ctx v ty
HasTypeOf-known has_type ctx known signature x v ty typed has = subst (has_type v) same typed.2
  where
    inner : Some (form ctx.types typed.0) ≡ Some (form ctx.types ty)
    inner = sym (ap (option_map (form ctx.types)) typed.1) ∙ has

    same : form ctx.types typed.0 ≡ form ctx.types ty
    same = cc
