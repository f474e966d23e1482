-- Expressions of the same values, which differ only in spare capacity.
use Rattle.std.proofs.Common.{◌≡◌, ◌∙◌, sym, ap, refl, inl, inr, ℕ, zero, suc, Bool, List, Option, None, Some}
use Rattle.std.specs.Prelude.{◌⊎◌, if◌then◌else◌, option_map, option_and_then}
use Rattle.std.specs.declared.alloc.Global.{Global}
use Rattle.std.specs.declared.vec.Vec.{Vec}
use Rattle.naga_arena.specs.Arena.{value_at}
use Rattle.naga_arena.specs.declared.span.Span.{Span}
use Rattle.naga_ir.specs.Expression.{base_of}
use Rattle.naga_ir.specs.declared.expression.Expression.{Expression}
use Rattle.naga_ir.specs.declared.expression.Expression.TheVariants.{Compose}
use Rattle.naga_valid.specs.declared.reference.Reference.{Reference}
use Rattle.naga_flow.specs.Places.{base_before, end_of_chain, if_before, ready_in}
use Rattle.naga_flow.specs.Uses.{operands_found}
use Rattle.naga_json.specs.Expression.{compose, plain, value_of}
use Rattle.naga_meaning.specs.Functions.{code_of, shape_of}
use Rattle.naga_flow.specs.Readings.{chosen_base, constant_base_of, constant_chains_in, reaches_ready}
use Rattle.naga_meaning.specs.Readings.{chains_in}
use Rattle.naga_passes.proofs.HaveSameValuesLemmas.{HaveSameValues, found-value}

-- ---- expressions

-- the expression is a `Compose`
record IsCompose (e : Expression) : Type 0 where
  ty : ℕ
  components : Vec ℕ Global
  is : e ≡ Compose ty components

composed : (e : Expression) → IsCompose e ⊎ (value_of e ≡ plain e)
composed (Compose ty components) = inl (record { ty = ty; components = components; is = refl })
composed _ = inr refl

-- what does not depend on the spare capacity of a `Compose` is the same for expressions of the same value
module _ {A : Type 0} (g : Option Expression → A) (of_items : (ty : ℕ) (c d : Vec ℕ Global) → d.items ≡ c.items → g (Some (Compose ty d)) ≡ g (Some (Compose ty c))) where
  same_composed : (d e : Expression) → value_of e ≡ value_of d → IsCompose d ⊎ (value_of d ≡ plain d) → IsCompose e ⊎ (value_of e ≡ plain e) → g (Some e) ≡ g (Some d)
  same_composed d e same (inl p) (inl q) =
      let values : compose q.ty q.components.items ≡ compose p.ty p.components.items = sym (ap value_of q.is) ∙ (same ∙ ap value_of p.is) in
      let types : q.ty ≡ p.ty = cc in
      let items : q.components.items ≡ p.components.items = cc in
      ap (λ x. g (Some x)) q.is ∙ (ap (λ ty. g (Some (Compose ty q.components))) types
      ∙ (of_items p.ty p.components q.components items ∙ sym (ap (λ x. g (Some x)) p.is)))
  same_composed d e same (inl p) (inr q) =
      let values : plain e ≡ compose p.ty p.components.items = sym q ∙ (same ∙ ap value_of p.is) in absurd cc
  same_composed d e same (inr p) (inl q) =
      let values : compose q.ty q.components.items ≡ plain d = sym (ap value_of q.is) ∙ (same ∙ p) in absurd cc
  same_composed d e same (inr p) (inr q) =
      let values : plain e ≡ plain d = sym q ∙ (same ∙ p) in
      let whole : e ≡ d = cc in ap (λ x. g (Some x)) whole

-- ---- what is found in an arena

module _ (xs ys : List (Expression × Span)) (same : HaveSameValues value_of xs ys) where
  pub found-same : {A : Type 0} (g : Option Expression → A) → ((ty : ℕ) (c d : Vec ℕ Global) → d.items ≡ c.items → g (Some (Compose ty d)) ≡ g (Some (Compose ty c))) →
      (x : ℕ) → g (value_at ys x) ≡ g (value_at xs x)
  found-same g of_items x = found-value value_of g (λ d e values. same_composed g of_items d e values (composed d) (composed e)) xs ys same x

  ready-same : (x : ℕ) → ready_in (value_at ys x) ≡ ready_in (value_at xs x)
  ready-same = found-same ready_in (λ ty c d items. refl)

  base_before-same : (x : ℕ) → base_before ys x ≡ base_before xs x
  base_before-same x = ap (if_before x) (found-same (option_and_then base_of) (λ ty c d items. refl) x)

  -- the end of a chain, by the base of its last access
  abbrev end_from : (end_at : ℕ → ℕ) → ℕ → Option ℕ → ℕ
  end_from end_at x base = elim base as (λ _. ℕ) [ None ↦ x | Some base ↦ end_at base ]

  end_from-same : (f g : ℕ → ℕ) → ((base : ℕ) → f base ≡ g base) → (x : ℕ) (base : Option ℕ) → end_from f x base ≡ end_from g x base
  end_from-same f g same x None = refl
  end_from-same f g same x (Some base) = same base

  end_of_chain-same : (steps x : ℕ) → end_of_chain ys steps x ≡ end_of_chain xs steps x
  end_of_chain-same zero x = refl
  end_of_chain-same (suc steps) x =
      ap (end_from (end_of_chain ys steps) x) (base_before-same x)
      ∙ end_from-same (end_of_chain ys steps) (end_of_chain xs steps) (end_of_chain-same steps) x (base_before xs x)

  -- an expression is read by access chains as before
  pub chains_in-same : (x : ℕ) → chains_in ys x ≡ chains_in xs x
  chains_in-same x = ap (λ y. ready_in (value_at ys y)) (end_of_chain-same x x) ∙ ready-same (end_of_chain xs x x)

  chosen_base-same : (chosen : ℕ → Bool) (x : ℕ) → chosen_base chosen ys x ≡ chosen_base chosen xs x
  chosen_base-same chosen x = ap (λ base. if chosen x then base else None) (found-same (option_and_then constant_base_of) (λ ty c d items. refl) x)

  -- an expression is read by chosen accesses as before
  pub constant_chains_in-same : (chosen : ℕ → Bool) (x : ℕ) → constant_chains_in chosen ys x ≡ constant_chains_in chosen xs x
  constant_chains_in-same chosen x = λ i. reaches_ready (λ y. ready-same y i) (λ y. chosen_base-same chosen y i) (suc x) x

  -- the code is the same
  pub code_of-same : {Thing : Type 0} (look : Reference → Thing) (at_use : ℕ → Bool) → code_of look at_use ys ≡ code_of look at_use xs
  code_of-same look at_use = λ i. record {
    shape = λ x. found-same (option_map (shape_of look)) (λ ty c d items. rw items refl) x i;
    operands = λ x. found-same operands_found (λ ty c d items. rw items refl) x i;
    at_use = at_use;
  }
