-- The handles of a compacted function are within limits if those of the function are.
use Rattle.std.proofs.Common.{◌≡◌, ◌∙◌, sym, ap, subst, refl, inl, inr, ℕ, zero, suc, ◌<◌, ◌≤◌, List, [], ◌∷◌, map, length, get_or, true, false, Option, Some, None, arith}
use Rattle.std.proofs.lemmas.Bool.{cases_lt}
use Rattle.std.proofs.lemmas.Bool.Decides.{nat_tests}
use Rattle.std.proofs.lemmas.List.{length-map}
use Rattle.std.proofs.lemmas.List.Elements.{All-cons, All-contains, All-contains_itself, All-map, All-nil, All-weaker}
use Rattle.std.proofs.lemmas.Option.{get_or_from_slice_get, slice_get-map, slice_get_cases, slice_get_past, slice_get_within}
use Rattle.std.specs.FinSet.{contains}
use Rattle.std.specs.List.{All, Contains, slice_get}
use Rattle.std.specs.Map.{keys_of}
use Rattle.std.specs.Option.{option_map}
use Rattle.std.specs.Prelude.{⊤, if◌then◌else◌, nat_lt, option_to_list}
use Rattle.indexmap.specs.IndexMap.{keys}
use Rattle.naga_arena.specs.Arena.{value_at, values}
use Rattle.naga_arena.specs.declared.span.Span.{Span}
use Rattle.naga_ir.specs.View.{tree_of}
use Rattle.naga_ir.specs.declared.expression.Expression.{Expression}
use Rattle.naga_ir.specs.declared.module.Function.{Function}
use Rattle.naga_ir.specs.declared.module.LocalVariable.{LocalVariable}
use Rattle.naga_ir.specs.declared.module.Module.{Module}
use Rattle.naga_sets.specs.HandleSet.{BoundedSet}
use Rattle.naga_valid.specs.Declarations.{references_of_local_variable}
use Rattle.naga_valid.specs.Expressions.{references_of_expression}
use Rattle.naga_valid.specs.Functions.{FunctionIsWithin}
use Rattle.naga_valid.specs.Limits.{IsWithin}
use Rattle.naga_valid.specs.Operands.{expression_of}
use Rattle.naga_valid.specs.Reference.{operands}
use Rattle.naga_valid.specs.Places.{lengths, limits_inside, references_found, references_in_part}
use Rattle.naga_valid.specs.Statements.{references_of_tree}
use Rattle.naga_valid.specs.declared.reference.Reference.{Reference}
use Rattle.naga_valid.specs.declared.reference.Reference.TheVariants as reference
use Rattle.naga_valid.specs.declared.place.Part.TheVariants as part
use Rattle.naga_valid.proofs.ContainsLemmas.{Contains-map}
use Rattle.naga_valid.proofs.IsWithinLemmas.{IsWithin-found, IsWithin-rest}
use Rattle.naga_compact.specs.Compaction.{IsMember}
use Rattle.naga_compact.specs.Functions.{CompactsFunction}
use Rattle.naga_compact.specs.Kept.{kept_elements, new_index}
use Rattle.naga_compact.specs.Reachability.{from_root, by_step}
use Rattle.naga_compact.specs.Renaming.{Renaming, of_expressions, rename_reference, rename_range}
use Rattle.naga_compact.specs.Renaming.Declarations.{rename_local_variable}
use Rattle.naga_compact.specs.derived.Renaming.{rename_expression}
use Rattle.naga_compact.specs.Renaming.Functions.{map_value, map_values}
use Rattle.naga_compact.proofs.FilterMapLemmas.{Contains-filter_map}
use Rattle.naga_compact.proofs.KeptElementsLemmas.{kept_elements-found, length-kept_elements, value_at-found}
use Rattle.naga_compact.proofs.RankLemmas.{rank-grows, rank-increases, rank-onto}
use Rattle.naga_compact.proofs.RenameKeysLemmas.{keys_of-rename_keys}
use Rattle.naga_compact.proofs.RenamedBodyReferencesLemmas.{references_of_tree-renamed}
use Rattle.naga_compact.proofs.RenamedPartsLemmas.{references_of_local_variable-renamed}
use Rattle.naga_compact.proofs.RenamedReferencesLemmas.{operands-renamed}
use Rattle.naga_compact.proofs.derived_lemmas.RenamedVariantsLemmas.{references_of_expression-renamed}

-- the handle is within the limits in a function of the module, for these numbers of functions, variables and
-- expressions
abbrev pub IsInside : Module → (functions variables expressions : ℕ) → Reference → Type 0
IsInside whole functions variables expressions =
    IsWithin (record (lengths whole) { functions = functions; local_variables = variables; expressions = expressions })

-- ---- renamed handles

module _ (kept : BoundedSet) where
  -- the handle is kept if it is one of an expression
  abbrev IsKept : Reference → Type 0
  IsKept (reference.Expression handle) = IsMember kept handle
  IsKept _ = ⊤

  -- the range is not inverted, and does not end after the limit
  abbrev IsRangeWithin : ℕ → ℕ × ℕ → Type 0
  IsRangeWithin limit range = (range.0 ≤ range.1) × (range.1 ≤ limit)

  range-renamed : (start past limit : ℕ) → past ≤ limit → IsRangeWithin (new_index kept limit) (rename_range (new_index kept) (start, past))
  range-renamed start past limit within =
      let first : ℕ = new_index kept start in
      let last : ℕ = new_index kept past in
      let grows = rank-grows (contains kept.members) past limit within in
      elim (cases_lt first last) [
        | inl lt ↦
            let yes' : nat_lt first last ≡ true = grind (arith, nat_tests) in
            subst (λ b. IsRangeWithin (new_index kept limit) (if b then (first, last) else (0, 0))) (sym yes') (omega arith, grows)
        | inr ge ↦
            let no' : nat_lt first last ≡ false = grind (arith, nat_tests) in
            subst (λ b. IsRangeWithin (new_index kept limit) (if b then (first, last) else (0, 0))) (sym no') (omega arith, omega arith)
      ]

  module _ (whole : Module) (functions variables limit : ℕ) where
    IsInside-renamed : (name : Reference) → IsKept name → IsInside whole functions variables limit name → IsInside whole functions variables (new_index kept limit) (rename_reference (of_expressions (new_index kept)) name)
    IsInside-renamed (reference.Expression handle) member within = rank-increases (contains kept.members) handle limit member within
    IsInside-renamed (reference.Expressions start past) member within = range-renamed start past limit within.1
    IsInside-renamed _ member within = within

    AreInside-renamed : (references : List Reference) → All IsKept references → All (IsInside whole functions variables limit) references → All (IsInside whole functions variables (new_index kept limit)) (map (rename_reference (of_expressions (new_index kept))) references)
    AreInside-renamed references members within =
        All-map (IsInside whole functions variables (new_index kept limit)) (rename_reference (of_expressions (new_index kept))) references
        (λ k d inside. IsInside-renamed (get_or references k d) (members k d inside) (within k d inside))

  IsKept-each : (references : List Reference) → ((handle : ℕ) → Contains references (reference.Expression handle) → IsMember kept handle) → All IsKept references
  IsKept-each references members = All-weaker (Contains references) IsKept by_name references (All-contains_itself references)
    where
      by_name : (name : Reference) → Contains references name → IsKept name
      by_name (reference.Expression handle) inside = members handle inside
      by_name _ inside = tt

  -- the type of a variable, and its initial value
  IsKept-variable : (variable : LocalVariable) → ((handle : ℕ) → variable.init ≡ Some handle → IsMember kept handle) → All IsKept (references_of_local_variable variable)
  IsKept-variable variable members =
      All-cons IsKept (reference.«Type» variable.ty) (option_to_list (option_map reference.Expression variable.init)) tt (by_init variable.init members)
    where
      by_init : (init : Option ℕ) → ((handle : ℕ) → init ≡ Some handle → IsMember kept handle) → All IsKept (option_to_list (option_map reference.Expression init))
      by_init None members' = All-nil IsKept
      by_init (Some handle) members' = All-cons IsKept (reference.Expression handle) [] (members' handle refl) (All-nil IsKept)

  -- handles that are not those of expressions
  module _ {X : Type 0} (kind : X → Reference) (same : (x : X) → kind x ≡ rename_reference (of_expressions (new_index kept)) (kind x)) (member : (x : X) → IsKept (kind x)) where
    each-same : (xs : List X) → map kind xs ≡ map (rename_reference (of_expressions (new_index kept))) (map kind xs)
    each-same [] = refl
    each-same (x ∷ xs) = λ i. same x i ∷ each-same xs i

    each-kept : (xs : List X) → All IsKept (map kind xs)
    each-kept xs = All-map IsKept kind xs (λ k d inside. member (get_or xs k d))

    optional-same : (o : Option X) → option_to_list (option_map kind o) ≡ map (rename_reference (of_expressions (new_index kept))) (option_to_list (option_map kind o))
    optional-same None = refl
    optional-same (Some x) = λ i. same x i ∷ []

    optional-kept : (o : Option X) → All IsKept (option_to_list (option_map kind o))
    optional-kept None = All-nil IsKept
    optional-kept (Some x) = All-cons IsKept (kind x) [] (member x) (All-nil IsKept)

-- ---- the parts of a function

module _ (whole : Module) (functions : ℕ) (old new : Function) (kept : BoundedSet) (compacts : CompactsFunction old kept new) (within : FunctionIsWithin (record (lengths whole) { functions = functions }) old) where
  abbrev f : ℕ → ℕ
  f = new_index kept

  abbrev r : Renaming
  r = of_expressions f

  -- the handles of a function with as many variables as the old one, and with this number of expressions
  abbrev Before : ℕ → Reference → Type 0
  Before = IsInside whole functions (length old.local_variables)

  abbrev After : ℕ → Reference → Type 0
  After = IsInside whole functions (length new.local_variables)

  count : f (length old.expressions) ≡ length new.expressions
  count =
      sym (ap length compacts.expressions
      ∙ (length-map (kept_elements kept old.expressions) (map_value (rename_expression r)) ∙ length-kept_elements kept old.expressions))

  variables : length old.local_variables ≡ length new.local_variables
  variables =
      sym (ap length compacts.local_variables ∙ length-map old.local_variables (map_value (rename_local_variable r)))

  After-renamed : (limit : ℕ) (references : List Reference) → All (Before limit) references → All (After limit) references
  After-renamed limit references inside = subst (λ n. All (IsInside whole functions n limit) references) variables inside

  -- the new names are the old ones, renamed
  references-within : (references new_names : List Reference) → new_names ≡ map (rename_reference r) references → All (IsKept kept) references → All (Before (length old.expressions)) references → All (After (length new.expressions)) new_names
  references-within references new_names is members inside =
      After-renamed (length new.expressions) new_names
      (subst (λ n. All (Before n) new_names) count
      (subst (All (Before (f (length old.expressions)))) (sym is) (AreInside-renamed kept whole functions (length old.local_variables) (length old.expressions) references members inside)))

  -- ---- names, variables and the body

  reference-inside : (handle : ℕ) → Contains (keys old.named_expressions) handle → handle < length old.expressions
  reference-inside handle inside =
      All-contains (Before (length old.expressions)) (operands (keys old.named_expressions)) (reference.Expression handle) (within part.NamedExpressions)
      (Contains-map reference.Expression (keys old.named_expressions) handle inside)

  reference-kept : (handle : ℕ) → Contains (keys old.named_expressions) handle → IsMember kept handle
  reference-kept handle inside = (compacts.reached handle).1 (from_root (reference-inside handle inside, inl inside))

  reference-passes : (handle : ℕ) → Contains (keys old.named_expressions) handle → nat_lt handle (length old.expressions) ≡ true
  reference-passes handle inside = let below = reference-inside handle inside in grind (arith, nat_tests)

  keys-renamed : keys new.named_expressions ≡ map f (keys old.named_expressions)
  keys-renamed =
      ap keys_of compacts.named_expressions
      ∙ keys_of-rename_keys (λ handle. nat_lt handle (length old.expressions)) f old.named_expressions.entries reference-passes

  variable-within : (handle : ℕ) (found : Option (LocalVariable × Span)) → slice_get old.local_variables handle ≡ found →
      All (Before (length old.expressions)) (references_found references_of_local_variable (option_map (λ (p : LocalVariable × Span). p.0) found)) →
      All (After (length new.expressions)) (references_found references_of_local_variable (option_map (λ (p : LocalVariable × Span). rename_local_variable r p.0) found))
  variable-within handle None is inside = All-nil (After (length new.expressions))
  variable-within handle (Some (variable, span)) is inside =
      let initial : (init : ℕ) → variable.init ≡ Some init → IsMember kept init =
      λ init has.
      let below : init < length old.expressions =
      IsWithin-found (limits_inside (record (lengths whole) { functions = functions }) old) reference.Expression variable.init (IsWithin-rest (limits_inside (record (lengths whole) { functions = functions }) old) (reference.«Type» variable.ty) (option_to_list (option_map reference.Expression variable.init)) inside) init has
      in
      let place : Contains old.local_variables (variable, span) =
      (handle, slice_get_within old.local_variables handle (variable, span) is, get_or_from_slice_get old.local_variables handle (variable, span) (variable, span) is)
      in
      (compacts.reached init).1 (from_root (below, inr (inl (Contains-filter_map (λ (p : LocalVariable × Span). p.0.init) old.local_variables (variable, span) init place has))))
      in
      references-within (references_of_local_variable variable) (references_of_local_variable (rename_local_variable r variable))
      (references_of_local_variable-renamed r variable) (IsKept-variable kept variable initial) inside

  variable-found : (handle : ℕ) → value_at new.local_variables handle ≡ option_map (λ (p : LocalVariable × Span). rename_local_variable r p.0) (slice_get old.local_variables handle)
  variable-found handle =
      ap (λ arena. value_at arena handle) compacts.local_variables ∙ read_twice old.local_variables handle
    where
      read_twice : (arena : List (LocalVariable × Span)) (k : ℕ) → slice_get (map (λ (p : LocalVariable × Span). p.0) (map_values (rename_local_variable r) arena)) k ≡ option_map (λ (p : LocalVariable × Span). rename_local_variable r p.0) (slice_get arena k)
      read_twice [] k = refl
      read_twice (p ∷ arena) zero = refl
      read_twice (p ∷ arena) (suc k) = read_twice arena k

  used-kept : (handle : ℕ) → Contains (references_of_tree (tree_of old.body)) (reference.Expression handle) → IsMember kept handle
  used-kept handle inside =
      let below : handle < length old.expressions =
      All-contains (Before (length old.expressions)) (references_of_tree (tree_of old.body)) (reference.Expression handle) (within part.Body) inside
      in
      (compacts.reached handle).1 (from_root (below, inr (inr (Contains-filter_map expression_of (references_of_tree (tree_of old.body)) (reference.Expression handle) handle inside refl))))

  -- ---- an expression that is kept

  module _ (handle : ℕ) (entry : Expression × Span) (found : slice_get old.expressions handle ≡ Some entry) (member : IsMember kept handle) where
    found-old : value_at old.expressions handle ≡ Some entry.0
    found-old =
        slice_get-map (λ (p : Expression × Span). p.0) old.expressions handle ∙ ap (option_map (λ (p : Expression × Span). p.0)) found

    found-new : value_at new.expressions (f handle) ≡ Some (rename_expression r entry.0)
    found-new =
        ap (λ arena. value_at arena (f handle)) compacts.expressions
        ∙ value_at-found (map_values (rename_expression r) (kept_elements kept old.expressions)) (f handle) (Some (map_value (rename_expression r) entry))
        (slice_get-map (map_value (rename_expression r)) (kept_elements kept old.expressions) (f handle)
        ∙ ap (option_map (map_value (rename_expression r))) (kept_elements-found kept old.expressions handle entry found member))

    operand-kept : (operand : ℕ) → Contains (references_of_expression entry.0) (reference.Expression operand) → IsMember kept operand
    operand-kept operand inside =
        (compacts.reached operand).1
        (by_step ((compacts.reached handle).0 member)
        (record { expression = entry.0; found = found-old; contained = Contains-filter_map expression_of (references_of_expression entry.0) (reference.Expression operand) operand inside refl }))

    expression-renamed : All (Before (f handle)) (references_in_part new (part.Expression (f handle)))
    expression-renamed =
        let inside : All (Before handle) (references_of_expression entry.0) =
        subst (λ o. All (Before handle) (references_found references_of_expression o)) found-old (within (part.Expression handle))
        in
        subst (λ o. All (Before (f handle)) (references_found references_of_expression o)) (sym found-new)
        (subst (All (Before (f handle))) (sym (references_of_expression-renamed r entry.0))
        (AreInside-renamed kept whole functions (length old.local_variables) handle (references_of_expression entry.0) (IsKept-each kept (references_of_expression entry.0) operand-kept) inside))

  -- ---- an expression of the new function

  expression-found : (handle : ℕ) → handle < length new.expressions → All (Before handle) (references_in_part new (part.Expression handle))
  expression-found handle inside =
      let source = rank-onto (contains kept.members) (length old.expressions) handle (omega (arith, inside, count)) in
      subst (λ n. All (Before n) (references_in_part new (part.Expression n))) source.2
      (elim ((slice_get_cases old.expressions source.0).1) [
        | inl found ↦ expression-renamed source.0 found.0 found.2 source.1
        | inr past ↦ absurd (omega (arith, rank-grows (contains kept.members) (length old.expressions) source.0 past.0, source.2, inside, count))
      ])

  expression-within : (handle : ℕ) → All (After handle) (references_in_part new (part.Expression handle))
  expression-within handle = elim (cases_lt handle (length new.expressions)) [
    | inl inside ↦
        After-renamed handle (references_in_part new (part.Expression handle)) (expression-found handle inside)
    | inr outside ↦
        subst (λ o. All (After handle) (references_found references_of_expression o))
        (sym (slice_get_past (values new.expressions) handle (omega (arith, outside, length-map new.expressions (λ (p : Expression × Span). p.0)))))
        (All-nil (After handle))
  ]

  pub FunctionIsWithin-compacted : FunctionIsWithin (record (lengths whole) { functions = functions }) new
  FunctionIsWithin-compacted part.Arguments =
      references-within (references_in_part old part.Arguments) (references_in_part new part.Arguments)
      (ap (λ arguments. map (λ argument. reference.«Type» argument.ty) arguments.items) compacts.arguments ∙ each-same kept (λ argument. reference.«Type» argument.ty) (λ _. refl) (λ _. tt) old.arguments.items)
      (each-kept kept (λ argument. reference.«Type» argument.ty) (λ _. refl) (λ _. tt) old.arguments.items) (within part.Arguments)
  FunctionIsWithin-compacted part.Result =
      references-within (references_in_part old part.Result) (references_in_part new part.Result)
      (ap (λ result. option_to_list (option_map (λ result. reference.«Type» result.ty) result)) compacts.result ∙ optional-same kept (λ result. reference.«Type» result.ty) (λ _. refl) (λ _. tt) old.result)
      (optional-kept kept (λ result. reference.«Type» result.ty) (λ _. refl) (λ _. tt) old.result) (within part.Result)
  FunctionIsWithin-compacted (part.LocalVariable handle) =
      subst (λ o. All (After (length new.expressions)) (references_found references_of_local_variable o)) (sym (variable-found handle))
      (variable-within handle (slice_get old.local_variables handle) refl
      (subst (λ o. All (Before (length old.expressions)) (references_found references_of_local_variable o)) (slice_get-map (λ (p : LocalVariable × Span). p.0) old.local_variables handle) (within (part.LocalVariable handle))))
  FunctionIsWithin-compacted (part.Expression handle) = expression-within handle
  FunctionIsWithin-compacted part.NamedExpressions =
      references-within (operands (keys old.named_expressions)) (operands (keys new.named_expressions))
      (ap operands keys-renamed ∙ operands-renamed r (keys old.named_expressions))
      (All-map (IsKept kept) reference.Expression (keys old.named_expressions) (All-weaker (Contains (keys old.named_expressions)) (IsMember kept) reference-kept (keys old.named_expressions) (All-contains_itself (keys old.named_expressions))))
      (within part.NamedExpressions)
  FunctionIsWithin-compacted part.Body =
      references-within (references_of_tree (tree_of old.body)) (references_of_tree (tree_of new.body))
      (ap references_of_tree compacts.body ∙ references_of_tree-renamed r (tree_of old.body))
      (IsKept-each kept (references_of_tree (tree_of old.body)) used-kept) (within part.Body)
  FunctionIsWithin-compacted part.DiagnosticFilterLeaf =
      references-within (references_in_part old part.DiagnosticFilterLeaf) (references_in_part new part.DiagnosticFilterLeaf)
      (ap (λ leaf. option_to_list (option_map reference.DiagnosticFilter leaf)) compacts.diagnostic_filter_leaf ∙ optional-same kept reference.DiagnosticFilter (λ _. refl) (λ _. tt) old.diagnostic_filter_leaf)
      (optional-kept kept reference.DiagnosticFilter (λ _. refl) (λ _. tt) old.diagnostic_filter_leaf) (within part.DiagnosticFilterLeaf)
