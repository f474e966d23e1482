-- The handles of a function in which accesses are clamped are within limits if those of the old function are.
use Rattle.std.proofs.Common.{◌≡◌, ◌∙◌, ◌+◌, ◌<◌, ◌≤◌, ap, arith, get_or, length, length-append, refl, subst, sym, inl, inr, ℕ, zero, suc, true, false, List, [], ◌∷◌, ◌++◌, map, Option, Some, None}
use Rattle.std.proofs.lemmas.Bool.{cases_lt}
use Rattle.std.proofs.lemmas.Bool.Decides.{nat_tests}
use Rattle.std.proofs.lemmas.List.{length-map}
use Rattle.std.proofs.lemmas.List.Elements.{All-cons, All-contains, All-map, All-nil, All-same}
use Rattle.std.proofs.lemmas.List.Sums.{sum_by-cons}
use Rattle.std.proofs.lemmas.Option.{slice_get_within}
use Rattle.std.specs.List.{Contains, slice_get, sum_by, zip}
use Rattle.std.specs.Map.{keys_of}
use Rattle.std.specs.Option.{option_map}
use Rattle.std.specs.Prelude.{All, if◌then◌else◌, nat_lt, option_to_list}
use Rattle.indexmap.specs.IndexMap.{keys}
use Rattle.naga_arena.specs.Arena.{value_at, values}
use Rattle.naga_arena.specs.declared.span.Span.{Span}
use Rattle.naga_ir.proofs.EnumerateFromLemmas.{All-enumerate_from_at}
use Rattle.naga_ir.specs.View.{tree_of}
use Rattle.naga_ir.specs.declared.expression.Expression.{Expression}
use Rattle.naga_ir.specs.declared.module.Function as function
use Rattle.naga_ir.specs.declared.module.LocalVariable.{LocalVariable}
use Rattle.naga_ir.specs.declared.module.Module as the_module
use Rattle.naga_ir.specs.declared.module.Override as override
use Rattle.naga_valid.specs.Declarations.{references_of_local_variable}
use Rattle.naga_valid.specs.Expressions.{references_of_expression}
use Rattle.naga_valid.specs.Functions.{FunctionIsWithin}
use Rattle.naga_valid.specs.Operands.{operands_of}
use Rattle.naga_valid.specs.Places.{lengths, references_found, references_in_part}
use Rattle.naga_valid.specs.Reference.{operands}
use Rattle.naga_valid.specs.Statements.{references_of_tree}
use Rattle.naga_valid.specs.declared.place.Part.TheVariants as part
use Rattle.naga_valid.specs.declared.reference.Reference.{Reference}
use Rattle.naga_valid.specs.declared.reference.Reference.TheVariants as reference
use Rattle.naga_valid.proofs.ContainsLemmas.{Contains-map}
use Rattle.naga_compact.specs.Operands.{FollowsItsOperands, OperandsPrecede}
use Rattle.naga_compact.specs.Renaming.{Renaming, rename_range, rename_reference}
use Rattle.naga_compact.specs.Renaming.Declarations.{rename_local_variable}
use Rattle.naga_compact.specs.Renaming.Functions.{map_value}
use Rattle.naga_compact.specs.derived.Renaming.{rename_expression}
use Rattle.naga_compact.proofs.FunctionIsWithinLemmas.{IsInside}
use Rattle.naga_compact.proofs.RenameKeysLemmas.{keys_of-rename_keys}
use Rattle.naga_compact.proofs.RenamedBodyReferencesLemmas.{references_of_tree-renamed}
use Rattle.naga_compact.proofs.RenamedPartsLemmas.{references_of_local_variable-renamed}
use Rattle.naga_compact.proofs.RenamedReferencesLemmas.{operands-renamed}
use Rattle.naga_compact.proofs.derived_lemmas.RenamedVariantsLemmas.{references_of_expression-renamed}
use Rattle.naga_typing.proofs.ContextLemmas.{value_at-mapped}
use Rattle.naga_typifier.specs.Context.{inner_at}
use Rattle.naga_typifier.specs.Rows.{◌>>=◌}
use Rattle.naga_bounds.specs.Changes.{is_told, is_u32}
use Rattle.naga_bounds.specs.Modules.{typed_in}
use Rattle.naga_bounds.specs.Restricted.{IsClamped, changed, conversion, front_count, front_len, front_of, front_of_index, front_of_length, fronts, group, groups, last_index, minimum, moving, new_len, new_of, operands as operands_before, start_of, width}
use Rattle.naga_bounds.specs.RestrictedModules.{counts_in}
use Rattle.naga_bounds.specs.declared.change.Change.{Change}
use Rattle.naga_bounds.specs.declared.change.Change.TheVariants.{Stays, Clamped}
use Rattle.naga_bounds.specs.declared.change.Clamp.{Clamp}
use Rattle.naga_bounds.specs.declared.change.ClampedIndex.{ClampedIndex}
use Rattle.naga_bounds.specs.declared.change.ClampedIndex.TheVariants.{Constant, Unsigned, Converted}
use Rattle.naga_bounds.specs.declared.length.Length.{Length}
use Rattle.naga_bounds.specs.declared.length.Length.TheVariants.{Fixed, Overridden, Counted}
use Rattle.naga_bounds.proofs.ClampOfLemmas.{changed-as, length-told}
use Rattle.naga_bounds.proofs.MadeLemmas.{IsInPlace, made-is}
use Rattle.naga_bounds.proofs.MadePrecedesLemmas.{IsAfter, each-at, made-precedes}
use Rattle.naga_bounds.proofs.NewHandlesLemmas.{front_at, made, new-next, start-rises}
use Rattle.naga_bounds.proofs.RestrictedFitsLemmas.{EachIs, each-joined}
use Rattle.naga_bounds.proofs.RestrictedLemmas.{fronts-length, group-width, in_group}
use Rattle.naga_bounds.proofs.StartsLemmas.{start_of-all}

-- ---- what is inserted

-- the expression refers to expressions alone
abbrev HasOnlyOperands : Expression → Type 0
HasOnlyOperands e = references_of_expression e ≡ map reference.Expression (operands_of e)

inserted-operands : (r : Renaming) (clamp : Clamp) (e : Expression) (front here : ℕ) → EachIs HasOnlyOperands (in_group r (Clamped clamp) e front here)
inserted-operands r clamp e front here =
    let start = front + length (front_of_index clamp.index) in
    each-joined HasOnlyOperands (operands_before r clamp front here ++ minimum r clamp front here ∷ []) (changed r (Clamped clamp) e front here ∷ [])
    (each-joined HasOnlyOperands (operands_before r clamp front here) (minimum r clamp front here ∷ [])
    (each-joined HasOnlyOperands (last_index r clamp.length clamp.base start here) (conversion r clamp.index) (of_length clamp.length start) (of_index clamp.index))
    (refl, tt))
    (refl, tt)
  where
    of_length : (long : Length) (start : ℕ) → EachIs HasOnlyOperands (last_index r long clamp.base start here)
    of_length (Fixed count) start = tt
    of_length (Overridden handle) start = (refl, tt)
    of_length Counted start = (refl, (refl, tt))

    of_index : (index : ClampedIndex) → EachIs HasOnlyOperands (conversion r index)
    of_index (Constant number) = tt
    of_index (Unsigned index) = tt
    of_index (Converted index) = (refl, tt)

-- an override of type `u32` is one of the module
override-there : (whole : the_module.Module) (handle : ℕ) → counts_in whole handle ≡ true → handle < length whole.overrides
override-there whole handle is = go (value_at whole.overrides handle) refl is
  where
    go : (found : Option override.Override) → value_at whole.overrides handle ≡ found → is_u32 (option_map (λ (declared : override.Override). declared.ty) found >>= inner_at whole.types) ≡ true → handle < length whole.overrides
    go None at so = absurd (let e : false ≡ true = so in cc)
    go (Some declared) at so =
        let within = slice_get_within (values whole.overrides) handle declared at in
        let same : length (values whole.overrides) ≡ length whole.overrides = length-map whole.overrides (λ (p : override.Override × Span). p.0) in
        omega (arith, within, same)

-- ---- how many expressions there are

module _ (r : Renaming) where
  groups-length : (changes : List Change) (entries : List (Expression × Span)) (front here : ℕ) → length changes ≡ length entries
      → length (groups r (zip changes entries) front here) ≡ sum_by width changes
  groups-length [] entries front here all = refl
  groups-length (change ∷ changes) [] front here all = absurd (omega (arith, all))
  groups-length (change ∷ changes) (entry ∷ entries) front here all =
      let first = group r (change, entry) front here in
      let later = groups r (zip changes entries) (front + front_count change) (here + length first) in
      let both = length-append first later in
      let wide = group-width r change entry front here in
      let rest = groups-length changes entries (front + front_count change) (here + length first) (omega (arith, all)) in
      let sum = sum_by-cons width change changes in
      omega (arith, both, wide, rest, sum)

made-length : (changes : List Change) (arena : List (Expression × Span)) (all : length changes ≡ length arena) → length (made changes arena all) ≡ new_len changes
made-length changes arena all =
    let first = fronts-length (moving changes) changes arena all in
    let second = groups-length (moving changes) changes arena 0 (front_len changes) all in
    let both = length-append (fronts (zip changes arena)) (groups (moving changes) (zip changes arena) 0 (front_len changes)) in
    omega (arith, first, second, both)

-- ---- renamed handles

module _ (changes : List Change) where
  -- the range is not inverted, and does not end after the limit
  abbrev IsRangeWithin : ℕ → ℕ × ℕ → Type 0
  IsRangeWithin limit range = (range.0 ≤ range.1) × (range.1 ≤ limit)

  range-moved : (first past limit : ℕ) → past ≤ limit → limit ≤ length changes → IsRangeWithin (start_of changes limit) (rename_range (start_of changes) (first, past))
  range-moved first past limit within inside =
      let low : ℕ = start_of changes first in
      let high : ℕ = start_of changes past in
      let rises = start-rises changes past limit within inside in
      elim (cases_lt low high) [
        | inl lt ↦
            let yes' : nat_lt low high ≡ true = grind (arith, nat_tests) in
            subst (λ b. IsRangeWithin (start_of changes limit) (if b then (low, high) else (0, 0))) (sym yes') (omega arith, omega (arith, rises))
        | inr ge ↦
            let no' : nat_lt low high ≡ false = grind (arith, nat_tests) in
            subst (λ b. IsRangeWithin (start_of changes limit) (if b then (low, high) else (0, 0))) (sym no') (omega arith, omega arith)
      ]

  handle-moved : (handle limit : ℕ) → handle < limit → limit ≤ length changes → new_of changes handle < start_of changes limit
  handle-moved handle limit less inside =
      let next = new-next changes handle (omega (arith, less, inside)) in
      let rises = start-rises changes (handle + 1) limit (omega (arith, less)) inside in
      omega (arith, next, rises)

  module _ (whole : the_module.Module) (functions variables limit : ℕ) (inside : limit ≤ length changes) where
    IsInside-moved : (name : Reference) → IsInside whole functions variables limit name → IsInside whole functions variables (start_of changes limit) (rename_reference (moving changes) name)
    IsInside-moved (reference.Expression handle) within = handle-moved handle limit within inside
    IsInside-moved (reference.Expressions first past) within = range-moved first past limit within.1 inside
    IsInside-moved _ within = within

    AreInside-moved : (references : List Reference) → All (IsInside whole functions variables limit) references
        → All (IsInside whole functions variables (start_of changes limit)) (map (rename_reference (moving changes)) references)
    AreInside-moved references within =
        All-map (IsInside whole functions variables (start_of changes limit)) (rename_reference (moving changes)) references
        (λ k d there. IsInside-moved (get_or references k d) (within k d there))

-- handles that are not those of expressions
module _ (r : Renaming) {X : Type 0} (kind : X → Reference) (same : (x : X) → kind x ≡ rename_reference r (kind x)) where
  each-same : (xs : List X) → map kind xs ≡ map (rename_reference r) (map kind xs)
  each-same [] = refl
  each-same (x ∷ xs) = λ i. same x i ∷ each-same xs i

  optional-same : (found : Option X) → option_to_list (option_map kind found) ≡ map (rename_reference r) (option_to_list (option_map kind found))
  optional-same None = refl
  optional-same (Some x) = λ i. same x i ∷ []

-- ---- the parts of a function

module _ (whole : the_module.Module) (old new : function.Function) (precede : OperandsPrecede old.expressions) (clamped : IsClamped (counts_in whole) (typed_in whole old) old new)
    (functions : ℕ) (within : FunctionIsWithin (record (lengths whole) { functions = functions }) old) where
  abbrev changes : List Change
  changes = clamped.changes

  abbrev r : Renaming
  r = moving changes

  abbrev all : length changes ≡ length old.expressions
  all = clamped.planned.all

  abbrev Before : ℕ → Reference → Type 0
  Before = IsInside whole functions (length old.local_variables)

  abbrev After : ℕ → Reference → Type 0
  After = IsInside whole functions (length new.local_variables)

  variables : length old.local_variables ≡ length new.local_variables
  variables = sym (ap length clamped.changed_to.local_variables ∙ length-map old.local_variables (map_value (rename_local_variable r)))

  count : start_of changes (length changes) ≡ length new.expressions
  count =
      let arena = ap length clamped.changed_to.expressions in
      let long = made-length changes old.expressions all in
      let whole_start = start_of-all changes (length changes) (omega arith) in
      omega (arith, arena, long, whole_start)

  -- the new names are the old ones, renamed
  references-within : (references new_names : List Reference) → new_names ≡ map (rename_reference r) references → All (Before (length old.expressions)) references
      → All (After (length new.expressions)) new_names
  references-within references new_names is inside =
      subst (λ n. All (IsInside whole functions n (length new.expressions)) new_names) variables
      (subst (λ n. All (Before n) new_names) count
      (subst (All (Before (start_of changes (length changes)))) (sym is)
      (AreInside-moved changes whole functions (length old.local_variables) (length changes) (omega arith) references
      (subst (λ n. All (Before n) references) (sym all) inside))))

  -- ---- expressions

  -- the expression refers only to what is before this handle
  abbrev IsInsideAt : ℕ → Expression → Type 0
  IsInsideAt p e = All (Before p) (references_of_expression e)

  -- an override gives a length only if it is there
  front-inside : (p x : ℕ) (change : Change) (e : Expression) → slice_get changes x ≡ Some change → value_at old.expressions x ≡ Some e → EachIs (IsInsideAt p) (front_of change)
  front-inside p x Stays e at found = tt
  front-inside p x (Clamped clamp) e at found =
      each-joined (IsInsideAt p) (front_of_index clamp.index) (front_of_length clamp.length) (of_index clamp.index)
      (of_length clamp.length (λ handle same. elim (changed-as (counts_in whole) (typed_in whole old) changes clamped.planned x e found) [
        | inl stays ↦ absurd (let both : Some Stays ≡ Some (Clamped clamp) = sym stays.0 ∙ at in cc)
        | inr other ↦
            let both : Some (Clamped other.0) ≡ Some (Clamped clamp) = sym other.1 ∙ at in
            let one : other.0 ≡ clamp = cc in
            let told = length-told (counts_in whole) (typed_in whole old) e other.0 other.2 in
            ap (λ l. is_told (counts_in whole) (typed_in whole old) l told.0) (sym (ap (λ (c : Clamp). c.length) one ∙ same)) ∙ told.1
      ]))
    where
      of_index : (index : ClampedIndex) → EachIs (IsInsideAt p) (front_of_index index)
      of_index (Constant number) = (All-nil (Before p), tt)
      of_index (Unsigned index) = tt
      of_index (Converted index) = tt

      of_length : (long : Length) → ((handle : ℕ) → long ≡ Overridden handle → counts_in whole handle ≡ true) → EachIs (IsInsideAt p) (front_of_length long)
      of_length (Fixed count) so = (All-nil (Before p), tt)
      of_length (Overridden handle) so = (All-nil (Before p), (All-cons (Before p) (reference.Override handle) [] (override-there whole handle (so handle refl)) (All-nil (Before p)), tt))
      of_length Counted so = (All-nil (Before p), tt)

  -- what is inserted for a clamp, and the clamped access, refers to earlier expressions
  clamped-inside : (p : ℕ) (e : Expression) → HasOnlyOperands e → IsAfter p e → All (Before p) (references_of_expression e)
  clamped-inside p e only after =
      All-same (Before p) (references_of_expression e) (map reference.Expression (operands_of e)) only
      (All-map (Before p) reference.Expression (operands_of e) (λ k d there. after k d there))

  stays-inside : (x p : ℕ) (e : Expression) → value_at old.expressions x ≡ Some e → x < length changes → p ≡ start_of changes x → All (Before p) (references_of_expression (rename_expression r e))
  stays-inside x p e found there place =
      let inside : All (Before x) (references_of_expression e) = subst (λ found. All (Before x) (references_found references_of_expression found)) found (within (part.Expression x)) in
      subst (λ n. All (Before n) (references_of_expression (rename_expression r e))) (sym place)
      (All-same (Before (start_of changes x)) (references_of_expression (rename_expression r e)) (map (rename_reference r) (references_of_expression e)) (references_of_expression-renamed r e)
      (AreInside-moved changes whole functions (length old.local_variables) x (omega (arith, there)) (references_of_expression e) inside))

  place-inside : (p : ℕ) (e : Expression) → IsAfter p e → IsInPlace changes old.expressions all p e → All (Before p) (references_of_expression e)
  place-inside p e after stands =
      let x = stands.handle in
      let front = front_at changes old.expressions all x in
      let here = start_of changes x in
      elim (changed-as (counts_in whole) (typed_in whole old) changes clamped.planned x stands.old stands.found) [
        | inl stays ↦
            let same : stands.change ≡ Stays = (let both : Some stands.change ≡ Some Stays = sym stands.at ∙ stays.0 in cc) in
            only stands.place stands.there (ap (λ c. slice_get (in_group r c stands.old front here) stands.place) (sym same) ∙ stands.is)
        | inr other ↦
            let same : stands.change ≡ Clamped other.0 = (let both : Some stands.change ≡ Some (Clamped other.0) = sym stands.at ∙ other.1 in cc) in
            clamped-inside p e
            (each-at HasOnlyOperands (in_group r (Clamped other.0) stands.old front here) stands.place e (inserted-operands r other.0 stands.old front here)
            (ap (λ c. slice_get (in_group r c stands.old front here) stands.place) (sym same) ∙ stands.is))
            after
      ]
    where
      only : (place : ℕ) → p ≡ start_of changes stands.handle + place → slice_get (rename_expression r stands.old ∷ []) place ≡ Some e → All (Before p) (references_of_expression e)
      only zero there is =
          let same : rename_expression r stands.old ≡ e = cc in
          subst (λ y. All (Before p) (references_of_expression y)) same
          (stays-inside stands.handle p stands.old stands.found (slice_get_within changes stands.handle stands.change stands.at) (omega (arith, there)))
      only (suc place) there is = absurd (let none : slice_get (let nothing : List Expression = [] in nothing) place ≡ Some e = is in cc)

  made-inside : (p : ℕ) (e : Expression) → value_at (made changes old.expressions all) p ≡ Some e → All (Before p) (references_of_expression e)
  made-inside p e found = elim (made-is changes old.expressions all p e found) [
    | inl first ↦
        each-at (λ y. All (Before p) (references_of_expression y)) (front_of first.change) first.place e (front-inside p first.handle first.change first.old first.at first.found) first.is
    | inr stands ↦
        place-inside p e
        (All-enumerate_from_at FollowsItsOperands (values (made changes old.expressions all)) p e found (made-precedes (counts_in whole) (typed_in whole old) changes clamped.planned precede)) stands
  ]

  expression-within : (p : ℕ) → All (After p) (references_in_part new (part.Expression p))
  expression-within p =
      subst (λ n. All (IsInside whole functions n p) (references_in_part new (part.Expression p))) variables
      (go (value_at (made changes old.expressions all) p) refl)
    where
      go : (found : Option Expression) → value_at (made changes old.expressions all) p ≡ found → All (Before p) (references_in_part new (part.Expression p))
      go found is =
          subst (λ found. All (Before p) (references_found references_of_expression found)) (sym (ap (λ arena. value_at arena p) clamped.changed_to.expressions ∙ is)) (of_found found is)
        where
          of_found : (found : Option Expression) → value_at (made changes old.expressions all) p ≡ found → All (Before p) (references_found references_of_expression found)
          of_found None is = All-nil (Before p)
          of_found (Some e) is = made-inside p e is

  -- ---- names and variables

  name-inside : (handle : ℕ) → Contains (keys old.named_expressions) handle → nat_lt handle (length old.expressions) ≡ true
  name-inside handle inside =
      let below : handle < length old.expressions =
      All-contains (Before (length old.expressions)) (operands (keys old.named_expressions)) (reference.Expression handle) (within part.NamedExpressions)
      (Contains-map reference.Expression (keys old.named_expressions) handle inside) in
      grind (arith, nat_tests)

  keys-renamed : keys new.named_expressions ≡ map (new_of changes) (keys old.named_expressions)
  keys-renamed =
      ap keys_of clamped.changed_to.named_expressions
      ∙ keys_of-rename_keys (λ handle. nat_lt handle (length old.expressions)) (new_of changes) old.named_expressions.entries name-inside

  variable-within : (found : Option LocalVariable) → All (Before (length old.expressions)) (references_found references_of_local_variable found)
      → All (After (length new.expressions)) (references_found references_of_local_variable (option_map (rename_local_variable r) found))
  variable-within None inside = All-nil (After (length new.expressions))
  variable-within (Some variable) inside =
      references-within (references_of_local_variable variable) (references_of_local_variable (rename_local_variable r variable)) (references_of_local_variable-renamed r variable) inside

  pub FunctionIsWithin-clamped : FunctionIsWithin (record (lengths whole) { functions = functions }) new
  FunctionIsWithin-clamped part.Arguments =
      references-within (references_in_part old part.Arguments) (references_in_part new part.Arguments)
      (ap (λ arguments. map (λ argument. reference.«Type» argument.ty) arguments.items) clamped.changed_to.arguments ∙ each-same r (λ argument. reference.«Type» argument.ty) (λ _. refl) old.arguments.items)
      (within part.Arguments)
  FunctionIsWithin-clamped part.Result =
      references-within (references_in_part old part.Result) (references_in_part new part.Result)
      (ap (λ result. option_to_list (option_map (λ result. reference.«Type» result.ty) result)) clamped.changed_to.result ∙ optional-same r (λ result. reference.«Type» result.ty) (λ _. refl) old.result)
      (within part.Result)
  FunctionIsWithin-clamped (part.LocalVariable handle) =
      subst (λ found. All (After (length new.expressions)) (references_found references_of_local_variable found))
      (sym (ap (λ variables. value_at variables handle) clamped.changed_to.local_variables ∙ value_at-mapped (rename_local_variable r) old.local_variables handle))
      (variable-within (value_at old.local_variables handle) (within (part.LocalVariable handle)))
  FunctionIsWithin-clamped (part.Expression handle) = expression-within handle
  FunctionIsWithin-clamped part.NamedExpressions =
      references-within (operands (keys old.named_expressions)) (operands (keys new.named_expressions))
      (ap operands keys-renamed ∙ operands-renamed r (keys old.named_expressions))
      (within part.NamedExpressions)
  FunctionIsWithin-clamped part.Body =
      references-within (references_of_tree (tree_of old.body)) (references_of_tree (tree_of new.body))
      (ap references_of_tree clamped.changed_to.body ∙ references_of_tree-renamed r (tree_of old.body))
      (within part.Body)
  FunctionIsWithin-clamped part.DiagnosticFilterLeaf =
      references-within (references_in_part old part.DiagnosticFilterLeaf) (references_in_part new part.DiagnosticFilterLeaf)
      (ap (λ leaf. option_to_list (option_map reference.DiagnosticFilter leaf)) clamped.changed_to.diagnostic_filter_leaf ∙ optional-same r reference.DiagnosticFilter (λ _. refl) old.diagnostic_filter_leaf)
      (within part.DiagnosticFilterLeaf)
