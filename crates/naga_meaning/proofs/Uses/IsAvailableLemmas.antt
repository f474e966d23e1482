-- Expressions that commands have made available.
use Rattle.std.proofs.Common.{◌≡◌, ◌∙◌, refl, sym, ap, subst, inl, inr, ℕ, zero, suc, Bool, true, false, List, [], ◌∷◌, ◌++◌, append_assoc, Option, Some, None, option_to_list}
use Rattle.std.proofs.lemmas.List.Elements.{All-append, All-cons, All-head, All-nil, All-weaker, Contains-append_left}
use Rattle.std.proofs.lemmas.List.{map-append}
use Rattle.std.specs.List.{Contains}
use Rattle.std.specs.Option.{option_map}
use Rattle.std.specs.Prelude.{All, if◌then◌else◌, nat_lt, option_and_then, slice_get}
use Rattle.naga_arena.specs.Arena.{value_at, values}
use Rattle.naga_arena.specs.declared.span.Span.{Span}
use Rattle.naga_ir.specs.Expression.{base_of}
use Rattle.naga_ir.specs.declared.expression.Expression.{Expression}
use Rattle.naga_ir.specs.declared.expression.Expression.TheVariants.{Access, AccessIndex}
use Rattle.naga_valid.specs.Operands.{operands_of}
use Rattle.naga_flow.specs.Places.{base_before, end_of_chain, if_before, index_of, indices_of_chain, ready_in}
use Rattle.naga_flow.specs.Results.{evaluation_of, result_of}
use Rattle.naga_flow.specs.Uses.{AreKnown, IsKnown, MayUse, MayUseEach, expressions_in}
use Rattle.naga_flow.specs.declared.evaluation.Evaluation.{Evaluation}
use Rattle.naga_flow.specs.declared.evaluation.Evaluation.TheVariants as by
use Rattle.naga_flow.proofs.PlacesLemmas.{at_access}
use Rattle.naga_proc.specs.Building.{appended}
use Rattle.naga_meaning.specs.Evaluated.{EvaluatesBeforeUse, IsAvailable, IsResult, MayAppend, results}
use Rattle.naga_proc.specs.declared.builder.BuildCommand.{BuildCommand}
use Rattle.naga_proc.specs.declared.builder.BuildCommand.TheVariants.{Start, Append, Finish, Push}
use Rattle.naga_proc.proofs.Building.AppendedLemmas.{appended-append}
use Rattle.naga_meaning.proofs.Uses.ReadsLemmas.{base_of-operands, index_of-operands}

-- ---- more commands

slice_get-longer : {X : Type 0} (xs ys : List X) (i : ℕ) (x : X) → slice_get xs i ≡ Some x → slice_get (xs ++ ys) i ≡ Some x
slice_get-longer [] ys i x at = absurd (cc)
slice_get-longer (y ∷ xs) ys zero x at = at
slice_get-longer (y ∷ xs) ys (suc i) x at = slice_get-longer xs ys i x at

pub value_at-later : (commands more : List BuildCommand) (handle : ℕ) (expression : Expression) →
    value_at (appended commands) handle ≡ Some expression → value_at (appended (commands ++ more)) handle ≡ Some expression
value_at-later commands more handle expression at =
    ap (λ arena. value_at arena handle) (appended-append commands more)
    ∙ (ap (λ all. slice_get all handle) (map-append (λ pair. pair.0) (appended commands) (appended more))
    ∙ slice_get-longer (values (appended commands)) (values (appended more)) handle expression at)

pub results-append : (xs ys : List BuildCommand) → results (xs ++ ys) ≡ results xs ++ results ys
results-append [] ys = refl
results-append (Push statement span ∷ xs) ys =
    ap (λ rest. option_to_list (result_of statement) ++ rest) (results-append xs ys)
    ∙ sym (append_assoc (option_to_list (result_of statement)) (results xs) (results ys))
results-append (_ ∷ xs) ys = results-append xs ys

pub results-later : (commands more : List BuildCommand) (handle : ℕ) → Contains (results commands) handle → Contains (results (commands ++ more)) handle
results-later commands more handle c =
    subst (λ all. Contains all handle) (sym (results-append commands more)) (Contains-append_left (results commands) (results more) handle c)

pub IsAvailable-later : (commands more : List BuildCommand) (handle : ℕ) → IsAvailable commands handle → IsAvailable (commands ++ more) handle
IsAvailable-later commands more handle available = record {
  expression = available.expression;
  found = value_at-later commands more handle available.expression available.found;
  pushed = λ is. results-later commands more handle (available.pushed is);
}

-- ---- where an expression is appended

-- the commands before and after the Append of an expression
record IsAppended (commands : List BuildCommand) (expression : Expression) : Type 0 where
  before : List BuildCommand
  span : Span
  after : List BuildCommand
  split : commands ≡ before ++ Append expression span ∷ after

IsAppended-after : (command : BuildCommand) (commands : List BuildCommand) (expression : Expression) → IsAppended commands expression → IsAppended (command ∷ commands) expression
IsAppended-after command commands expression is = record {
  before = command ∷ is.before;
  span = is.span;
  after = is.after;
  split = ap (λ rest. command ∷ rest) is.split;
}

IsAppended-found : (commands : List BuildCommand) (handle : ℕ) (expression : Expression) → value_at (appended commands) handle ≡ Some expression → IsAppended commands expression
IsAppended-found [] handle expression at = absurd (cc)
IsAppended-found (Append first span ∷ commands) zero expression at = record {
  before = [];
  span = span;
  after = commands;
  split = let same : first ≡ expression = cc in ap (λ e. Append e span ∷ commands) same;
}
IsAppended-found (Append first span ∷ commands) (suc handle) expression at =
    IsAppended-after (Append first span) commands expression (IsAppended-found commands handle expression at)
IsAppended-found (Start ∷ commands) handle expression at = IsAppended-after Start commands expression (IsAppended-found commands handle expression at)
IsAppended-found (Finish ∷ commands) handle expression at = IsAppended-after Finish commands expression (IsAppended-found commands handle expression at)
IsAppended-found (Push statement span ∷ commands) handle expression at =
    IsAppended-after (Push statement span) commands expression (IsAppended-found commands handle expression at)

-- ---- accesses

-- an access gets its value by an `Emit`
evaluation_of-access : (e : Expression) (base : ℕ) → base_of e ≡ Some base → evaluation_of e ≡ by.Emit
evaluation_of-access (Access of index) base is = refl
evaluation_of-access (AccessIndex of index) base is = refl
evaluation_of-access _ base is = absurd (cc)

if_before-found : (handle : ℕ) (base : Option ℕ) (found : ℕ) → if_before handle base ≡ Some found → base ≡ Some found
if_before-found handle None found is = absurd (cc)
if_before-found handle (Some base) found is = go (nat_lt base handle) is
  where
    go : (before : Bool) → (if before then Some base else None) ≡ Some found → Some base ≡ Some found
    go true is = is
    go false is = absurd (cc)

-- ---- known values

-- what the commands emit and the results of the statements that they push are known
pub record AreKnownAfter (commands : List BuildCommand) (known : List ℕ) : Type 0 where
  pub emitted : (handle : ℕ) (expression : Expression) → value_at (appended commands) handle ≡ Some expression → evaluation_of expression ≡ by.Emit → Contains known handle
  pub pushed : (handle : ℕ) → Contains (results commands) handle → Contains known handle

module _ (commands : List BuildCommand) (ordered : EvaluatesBeforeUse commands) where
  abbrev arena : List (Expression × Span)
  arena = appended commands

  module _ (before after : List BuildCommand) (split : commands ≡ before ++ after) where
    -- the operands of an expression that is emitted are available
    operands-available : (handle : ℕ) (expression : Expression) → value_at (appended before) handle ≡ Some expression → evaluation_of expression ≡ by.Emit → All (IsAvailable before) (operands_of expression)
    operands-available handle expression at emitted =
        let is = IsAppended-found before handle expression at in
        let rest = Append expression is.span ∷ is.after in
        let whole : commands ≡ is.before ++ Append expression is.span ∷ (is.after ++ after) =
        split ∙ (ap (λ front. front ++ after) is.split ∙ append_assoc is.before rest after) in
        let may : MayAppend is.before expression = ordered is.before (is.after ++ after) (Append expression is.span) whole in
        let there : All (IsAvailable is.before) (operands_of expression) = may.operands (may.emitted.1 emitted) in
        subst (λ front. All (IsAvailable front) (operands_of expression)) (sym is.split)
        (All-weaker (IsAvailable is.before) (IsAvailable (is.before ++ rest)) (IsAvailable-later is.before rest) (operands_of expression) there)

    found-whole : (handle : ℕ) (expression : Expression) → value_at (appended before) handle ≡ Some expression → value_at arena handle ≡ Some expression
    found-whole handle expression at =
        ap (λ all. value_at (appended all) handle) split ∙ value_at-later before after handle expression at

    module _ (known : List ℕ) (there : AreKnownAfter before known) where
      pub IsKnown-available : (handle : ℕ) → IsAvailable before handle → IsKnown (expressions_in arena) known handle
      IsKnown-available handle available =
          by_evaluation (evaluation_of available.expression) refl
        where
          at : value_at arena handle ≡ Some available.expression
          at = found-whole handle available.expression available.found

          by_evaluation : (way : Evaluation) → evaluation_of available.expression ≡ way → IsKnown (expressions_in arena) known handle
          by_evaluation by.Ready is = inl (ap (option_map evaluation_of) at ∙ ap Some is)
          by_evaluation by.Emit is = inr (there.emitted handle available.expression available.found is)
          by_evaluation (by.Call function) is = inr (there.pushed handle (available.pushed (subst IsResult (sym is) tt)))
          by_evaluation by.Atomic is = inr (there.pushed handle (available.pushed (subst IsResult (sym is) tt)))
          by_evaluation by.WorkGroupUniformLoad is = inr (there.pushed handle (available.pushed (subst IsResult (sym is) tt)))
          by_evaluation by.RayQueryProceed is = inr (there.pushed handle (available.pushed (subst IsResult (sym is) tt)))
          by_evaluation by.SubgroupBallot is = inr (there.pushed handle (available.pushed (subst IsResult (sym is) tt)))
          by_evaluation by.SubgroupOperation is = inr (there.pushed handle (available.pushed (subst IsResult (sym is) tt)))

      -- what is read of an access that is available is available
      at_access-available : (read : Expression → Option ℕ) → ((e : Expression) → All (IsAvailable before) (operands_of e) → All (IsAvailable before) (option_to_list (read e))) →
          (handle base : ℕ) → IsAvailable before handle → option_and_then base_of (value_at arena handle) ≡ Some base → All (IsAvailable before) (option_to_list (option_and_then read (value_at arena handle)))
      at_access-available read reads handle base available is =
          let e = available.expression in
          let at : value_at arena handle ≡ Some e = found-whole handle e available.found in
          let base_is : base_of e ≡ Some base = sym (ap (option_and_then base_of) at) ∙ is in
          let operands = operands-available handle e available.found (evaluation_of-access e base base_is) in
          subst (λ value. All (IsAvailable before) (option_to_list (option_and_then read value))) (sym at) (reads e operands)

      base-available : (handle base : ℕ) → IsAvailable before handle → base_before arena handle ≡ Some base → IsAvailable before base
      base-available handle base available is =
          let found : option_and_then base_of (value_at arena handle) ≡ Some base = if_before-found handle (option_and_then base_of (value_at arena handle)) base is in
          let all = at_access-available base_of (base_of-operands (IsAvailable before)) handle base available found in
          All-head (IsAvailable before) base [] (subst (λ value. All (IsAvailable before) (option_to_list value)) found all)

      index-known : (handle base : ℕ) → IsAvailable before handle → base_before arena handle ≡ Some base → AreKnown (expressions_in arena) known (option_to_list (option_and_then index_of (value_at arena handle)))
      index-known handle base available is =
          let found : option_and_then base_of (value_at arena handle) ≡ Some base = if_before-found handle (option_and_then base_of (value_at arena handle)) base is in
          All-weaker (IsAvailable before) (IsKnown (expressions_in arena) known) IsKnown-available (option_to_list (option_and_then index_of (value_at arena handle)))
          (at_access-available index_of (index_of-operands (IsAvailable before)) handle base available found)

      indices-known : (steps handle : ℕ) → IsAvailable before handle → AreKnown (expressions_in arena) known (indices_of_chain arena steps handle)
      indices-known zero handle available = All-nil (IsKnown (expressions_in arena) known)
      indices-known (suc steps) handle available = go (base_before arena handle) refl (λ base. indices-known steps base)
        where
          go : (base : Option ℕ) → base_before arena handle ≡ base →
              ((base : ℕ) → IsAvailable before base → AreKnown (expressions_in arena) known (indices_of_chain arena steps base)) →
              AreKnown (expressions_in arena) known (elim base as (λ _. List ℕ) [ None ↦ [] | Some base ↦ at_access arena handle (indices_of_chain arena steps base) ])
          go None is later = All-nil (IsKnown (expressions_in arena) known)
          go (Some base) is later =
              All-append (IsKnown (expressions_in arena) known) (option_to_list (option_and_then index_of (value_at arena handle))) (indices_of_chain arena steps base)
              (index-known handle base available is) (later base (base-available handle base available is))

      pub MayUse-available : (handle : ℕ) → IsAvailable before handle → MayUse (expressions_in arena) known handle
      MayUse-available handle available = go (ready_in (value_at arena (end_of_chain arena handle handle)))
        where
          go : (is_place : Bool) → AreKnown (expressions_in arena) known (if is_place then indices_of_chain arena handle handle else handle ∷ [])
          go true = indices-known handle handle available
          go false =
              All-cons (IsKnown (expressions_in arena) known) handle [] (IsKnown-available handle available) (All-nil (IsKnown (expressions_in arena) known))

      pub MayUseEach-available : (handles : List ℕ) → All (IsAvailable before) handles → MayUseEach (expressions_in arena) known handles
      MayUseEach-available handles all = All-weaker (IsAvailable before) (MayUse (expressions_in arena) known) MayUse-available handles all
