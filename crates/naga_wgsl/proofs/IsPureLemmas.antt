-- Pure expressions that an `Emit` evaluates may be inline, and what is evaluated where it is used by the check of uses is
-- pure.
use Rattle.std.proofs.Common.{◌≡◌, ◌∙◌, sym, ap, refl, ℕ, Bool, true, false, List, Option, Some, None}
use Rattle.std.specs.Prelude.{◌||◌, ◌&&◌, if◌then◌else◌, not, option_and_then, option_map}
use Rattle.naga_arena.specs.Arena.{value_at}
use Rattle.naga_arena.specs.declared.span.Span.{Span}
use Rattle.naga_ir.specs.Expression.{base_of, needs_pre_emit}
use Rattle.naga_ir.specs.declared.expression.Expression.{Expression}
use Rattle.naga_ir.specs.declared.expression.Expression.TheVariants.{Literal, Constant, Override, ZeroValue, FunctionArgument, GlobalVariable, LocalVariable, Access, AccessIndex, CallResult, AtomicResult, WorkGroupUniformLoadResult, RayQueryProceedResult, SubgroupBallotResult, SubgroupOperationResult}
use Rattle.naga_valid.specs.declared.reference.Reference.{Reference}
use Rattle.naga_flow.specs.Places.{base_before, if_before, ready_in}
use Rattle.naga_flow.specs.Readings.{chosen_base, constant_base_of, constant_chains_in, passes, reaches_ready}
use Rattle.naga_flow.specs.Results.{evaluation_of}
use Rattle.naga_flow.specs.Uses.{expressions_in}
use Rattle.naga_flow.specs.declared.evaluation.Evaluation.TheVariants as by_way
use Rattle.naga_flow.proofs.PlacesLemmas.{end-last}
use Rattle.naga_meaning.specs.Functions.{Meanings, code_of, shape_of}
use Rattle.naga_wgsl.specs.Inlining.{MayInline}
use Rattle.naga_wgsl.specs.Pure.{PureIsSteady, is_pure, may_be_inline}
use Rattle.naga_meaning.specs.Readings.{chains_in}
use Rattle.naga_meaning.specs.Redirecting.{IsSteady}

both-true : (s t : Bool) → (s && t) ≡ true → (s ≡ true) × (t ≡ true)
both-true true t h = (refl, h)
both-true false t h = absurd (let e : false ≡ true = h in cc)

not-true : (t : Bool) → not t ≡ true → t ≡ false
not-true true h = absurd (let e : false ≡ true = h in cc)
not-true false h = refl

-- what is pure and not ready is evaluated by an `Emit`
pure-emit : (e : Expression) → is_pure e ≡ true → needs_pre_emit e ≡ false → evaluation_of e ≡ by_way.Emit
pure-emit (CallResult function) p r = absurd (let e : false ≡ true = p in cc)
pure-emit (AtomicResult ty comparison) p r = absurd (let e : false ≡ true = p in cc)
pure-emit (WorkGroupUniformLoadResult ty) p r = absurd (let e : false ≡ true = p in cc)
pure-emit RayQueryProceedResult p r = absurd (let e : false ≡ true = p in cc)
pure-emit SubgroupBallotResult p r = absurd (let e : false ≡ true = p in cc)
pure-emit (SubgroupOperationResult ty) p r = absurd (let e : false ≡ true = p in cc)
pure-emit (Literal x) p r = absurd (let e : true ≡ false = r in cc)
pure-emit (Constant x) p r = absurd (let e : true ≡ false = r in cc)
pure-emit (Override x) p r = absurd (let e : true ≡ false = r in cc)
pure-emit (ZeroValue x) p r = absurd (let e : true ≡ false = r in cc)
pure-emit (FunctionArgument x) p r = absurd (let e : true ≡ false = r in cc)
pure-emit (GlobalVariable x) p r = absurd (let e : true ≡ false = r in cc)
pure-emit (LocalVariable x) p r = absurd (let e : true ≡ false = r in cc)
pure-emit _ p r = refl

-- what is ready is pure
ready-pure : (e : Expression) → needs_pre_emit e ≡ true → is_pure e ≡ true
ready-pure (Literal x) h = refl
ready-pure (Constant x) h = refl
ready-pure (Override x) h = refl
ready-pure (ZeroValue x) h = refl
ready-pure (FunctionArgument x) h = refl
ready-pure (GlobalVariable x) h = refl
ready-pure (LocalVariable x) h = refl
ready-pure _ h = absurd (let e : false ≡ true = h in cc)

abbrev pub is_pure_in : Option Expression → Bool
is_pure_in None = false
is_pure_in (Some e) = is_pure e

module _ (arena : List (Expression × Span)) where
  no_base : (x : ℕ) (e : Expression) → value_at arena x ≡ Some e → base_of e ≡ None → base_before arena x ≡ None
  no_base x e found none = ap (λ v. if_before x (option_and_then base_of v)) found ∙ ap (if_before x) none

  ends : (x : ℕ) → base_before arena x ≡ None → chains_in arena x ≡ ready_in (value_at arena x)
  ends x none = ap (λ y. ready_in (value_at arena y)) (end-last arena x none)

  pub chain-pure : (x : ℕ) → chains_in arena x ≡ true → (found : Option Expression) → value_at arena x ≡ found → is_pure_in found ≡ true
  chain-pure x h None is =
      let none : base_before arena x ≡ None = ap (λ v. if_before x (option_and_then base_of v)) is in
      let clash : false ≡ true = sym (ap ready_in is) ∙ sym (ends x none) ∙ h in absurd cc
  chain-pure x h (Some (Access base index)) is = refl
  chain-pure x h (Some (AccessIndex base index)) is = refl
  chain-pure x h (Some e) is = ready-pure e (sym (ap ready_in is) ∙ sym (ends x (no_base x e is refl)) ∙ h)

-- an access by a constant index, and what is ready, is pure
constant-pure : (rest : ℕ → Bool) (t : Bool) (found : Option Expression) → (ready_in found || passes rest (if t then option_and_then constant_base_of found else None)) ≡ true →
    is_pure_in found ≡ true
constant-pure rest true None h = absurd (let e : false ≡ true = h in cc)
constant-pure rest false None h = absurd (let e : false ≡ true = h in cc)
constant-pure rest t (Some (Literal x)) h = refl
constant-pure rest t (Some (Constant x)) h = refl
constant-pure rest t (Some (Override x)) h = refl
constant-pure rest t (Some (ZeroValue x)) h = refl
constant-pure rest t (Some (FunctionArgument x)) h = refl
constant-pure rest t (Some (GlobalVariable x)) h = refl
constant-pure rest t (Some (LocalVariable x)) h = refl
constant-pure rest t (Some (AccessIndex base index)) h = refl
constant-pure rest true (Some _) h = absurd (let e : false ≡ true = h in cc)
constant-pure rest false (Some _) h = absurd (let e : false ≡ true = h in cc)

pub constant_chain-pure : (chosen : ℕ → Bool) (arena : List (Expression × Span)) (x : ℕ) → constant_chains_in chosen arena x ≡ true → is_pure_in (value_at arena x) ≡ true
constant_chain-pure chosen arena x h =
    constant-pure (reaches_ready (λ y. ready_in (value_at arena y)) (chosen_base chosen arena) x) (chosen x) (value_at arena x) h

module _ {Thing Value State : Type 0} (look : Reference → Thing) (by : Meanings Thing Value State) (at_use inline : ℕ → Bool) (arena : List (Expression × Span)) (steady : PureIsSteady look by)
    (pure : (x : ℕ) → at_use x ≡ true → is_pure_in (value_at arena x) ≡ true) (chosen : (x : ℕ) → inline x ≡ true → may_be_inline (value_at arena x) ≡ true) where
  pure-steady : (found : Option Expression) → is_pure_in found ≡ true → IsSteady by (option_map (shape_of look) found)
  pure-steady None h = absurd (let e : false ≡ true = h in cc)
  pure-steady (Some e) h = steady e h

  chosen-pure : (found : Option Expression) → may_be_inline found ≡ true → is_pure_in found ≡ true
  chosen-pure None h = h
  chosen-pure (Some e) h = (both-true (is_pure e) (not (needs_pre_emit e)) h).0

  chosen-emit : (found : Option Expression) → may_be_inline found ≡ true → option_map evaluation_of found ≡ Some by_way.Emit
  chosen-emit None h = absurd (let e : false ≡ true = h in cc)
  chosen-emit (Some e) h =
      let both = both-true (is_pure e) (not (needs_pre_emit e)) h in
      ap Some (pure-emit e both.0 (not-true (needs_pre_emit e) both.1))

  pub pure-may_inline : MayInline by (expressions_in arena) inline (code_of look at_use arena)
  pure-may_inline = record {
    emitted = λ x is. chosen-emit (value_at arena x) (chosen x is);
    steady = λ x is. pure-steady (value_at arena x) (chosen-pure (value_at arena x) (chosen x is));
    steady_before = λ x is. pure-steady (value_at arena x) (pure x is);
  }
