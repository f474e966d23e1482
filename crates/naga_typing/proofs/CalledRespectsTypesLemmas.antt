-- Where calls have the meanings of the functions that are called, an interpretation respects types.
use Rattle.std.proofs.Common.{◌≡◌, ◌∙◌, sym, ap, subst, refl, inl, inr, ◌⊎◌, ℕ, zero, suc, ◌+◌, Bool, true, List, [], ◌∷◌, ◌++◌, length, map, Option, Some, None, arith}
use Rattle.std.proofs.lemmas.Bool.{cases_Bool}
use Rattle.std.proofs.lemmas.Bool.Decides.{nat_tests}
use Rattle.std.proofs.lemmas.List.{append-nil, length-map}
use Rattle.std.proofs.lemmas.List.Elements.{All-head, All-tail, Contains-append_right, Contains-push}
use Rattle.std.proofs.lemmas.Option.{none-some}
use Rattle.std.specs.List.{AllZip, Contains}
use Rattle.std.specs.declared.alloc.Global.{Global}
use Rattle.std.specs.Prelude.{All, if◌then◌else◌, is_some, nat_eq, option_and_then, option_map, slice_get, Vec}
use Rattle.naga_arena.specs.Arena.{value_at}
use Rattle.naga_ir.specs.declared.expression.Expression.{Expression}
use Rattle.naga_ir.specs.declared.expression.Expression.TheVariants.{CallResult}
use Rattle.naga_ir.specs.declared.module.Function as function
use Rattle.naga_ir.specs.declared.module.FunctionArgument as argument
use Rattle.naga_ir.specs.declared.module.FunctionResult as outcome
use Rattle.naga_ir.specs.declared.module.Module as the_module
use Rattle.naga_ir.specs.declared.statement.Statement.{Statement, Call}
use Rattle.naga_valid.specs.Reference.{operands}
use Rattle.naga_valid.specs.Operands.{expressions_of}
use Rattle.naga_valid.specs.declared.reference.Reference.{Reference}
use Rattle.naga_valid.specs.declared.reference.Reference.TheVariants as reference
use Rattle.naga_runs.specs.declared.run.Ending.{Ending}
use Rattle.naga_runs.specs.declared.run.Ending.TheVariants.{Normal}
use Rattle.naga_flow.specs.Results.{evaluation_by, evaluation_of, result_of, used_by, without_first}
use Rattle.naga_flow.specs.declared.evaluation.Evaluation.TheVariants as by_way
use Rattle.naga_meaning.specs.Calls.{Calls, blank, called, callee_of, perform_by, seen}
use Rattle.naga_meaning.specs.Closing.{closed_by}
use Rattle.naga_meaning.specs.Forms.{ExpressionForm, StatementForm}
use Rattle.naga_meaning.specs.Functions.{Meanings, action_of, code_of, initials, meaning}
use Rattle.naga_meaning.specs.Readings.{Reading}
use Rattle.naga_meaning.specs.Values.{Code, Interpretation, Outcome, World, constant_within, entered}
use Rattle.naga_typifier.specs.Context.{Context, context_in}
use Rattle.naga_typifier.specs.Rows.{handle}
use Rattle.naga_typifier.specs.Table.{type_of}
use Rattle.naga_typifier.specs.declared.resolution.TypeResolution.{TypeResolution}
use Rattle.naga_flow.specs.Readings.{constant_chains_in}
use Rattle.naga_typing.specs.Forms.{Form}
use Rattle.naga_typing.specs.Requirements.{Fits, Has, Signature}
use Rattle.naga_typing.specs.Statements.{of_arguments, of_call}
use Rattle.naga_typing.specs.TypedFunctions.{signature_in}
use Rattle.naga_typing.specs.declared.requirement.Requirement.{Requirement}
use Rattle.naga_typing.specs.declared.requirement.Requirement.TheVariants as requirement
use Rattle.naga_typing.specs.TypedValues.{HasType, HaveTypesOf, IsPerformed, RespectsTypesIn, UsesOthers, types_in}
use Rattle.naga_typing.specs.TypedExecutions.{IsChecked, OutcomeHasTypes}
use Rattle.naga_typing.specs.TypedCalls.{AreArguments, CallsRespectTypes, FindsChecked, IsFunctionOf, IsLeftBy, read_narrowly}
use Rattle.naga_typing.proofs.ExecutionHasTypesLemmas.{execution-types}
use Rattle.naga_typing.proofs.HasTypeOfLemmas.{HasTypeOf-known}

-- ---- what a call uses

named-first : (xs : List ℕ) (rest : List Reference) → expressions_of (operands xs ++ rest) ≡ xs ++ expressions_of rest
named-first [] rest = refl
named-first (x ∷ xs) rest = ap (λ ys. x ∷ ys) (named-first xs rest)

eq-itself : (n : ℕ) → nat_eq n n ≡ true
eq-itself n = grind (arith, nat_tests)

-- if a list is without its last element nowhere else, then what comes before this is left without its first occurrence
without-last : (r : ℕ) (xs : List ℕ) → ¬ Contains (without_first r (xs ++ r ∷ [])) r → without_first r (xs ++ r ∷ []) ≡ xs
without-last r [] h = λ i. if eq-itself r i then [] else r ∷ []
without-last r (x ∷ xs) h = elim (cases_Bool (nat_eq x r)) [
  | inl same ↦
      absurd (h (subst (λ ys. Contains ys r) (λ i. if sym same i then xs ++ r ∷ [] else x ∷ without_first r (xs ++ r ∷ [])) (Contains-append_right xs (r ∷ []) r (Contains-push [] r))))
  | inr other ↦
      let is : without_first r ((x ∷ xs) ++ r ∷ []) ≡ x ∷ without_first r (xs ++ r ∷ []) = λ i. if other i then xs ++ r ∷ [] else x ∷ without_first r (xs ++ r ∷ []) in
      is ∙ ap (λ ys. x ∷ ys) (without-last r xs (λ inside. h (subst (λ ys. Contains ys r) (sym is) (Contains-append_right (x ∷ []) (without_first r (xs ++ r ∷ [])) r inside))))
]

call-uses : (f : ℕ) (arguments : Vec ℕ Global) (result : Option ℕ) → UsesOthers (Call f arguments result) → used_by (Call f arguments result) ≡ arguments.items
call-uses f arguments None others = named-first arguments.items [] ∙ append-nil arguments.items
call-uses f arguments (Some r) others =
    let named : expressions_of (operands arguments.items ++ reference.Expression r ∷ []) ≡ arguments.items ++ r ∷ [] = named-first arguments.items (reference.Expression r ∷ []) in
    ap (without_first r) named ∙ without-last r arguments.items (subst (λ xs. ¬ Contains (without_first r xs) r) named others)

-- a statement is a call, or calls nothing
call-or-none : {Thing : Type 0} (look : Reference → Thing) (what : Statement) →
    ((f : ℕ) × (arguments : Vec ℕ Global) × (result : Option ℕ) × (what ≡ Call f arguments result)) ⊎ (option_and_then callee_of (action_of look what) ≡ None)
call-or-none look (Call f arguments result) = inl (f, arguments, result, refl)
call-or-none look _ = inr refl

-- the result of a call
call-given : (given : Expression) (f : ℕ) → evaluation_of given ≡ by_way.Call f → given ≡ CallResult f
call-given (CallResult g) f is = let same : g ≡ f = cc in ap CallResult same
call-given _ f is = absurd (cc)

-- ---- constant expressions in interpretations with the same operators

module _ {Shape Action Value State : Type 0} (by inner : Interpretation Shape Action Value State) (computes : inner.compute ≡ by.compute) (enters : inner.enter ≡ by.enter) (code : Code Shape) where
  constants-same : (w : World Value State) (steps x : ℕ) → constant_within inner code steps w x ≡ constant_within by code steps w x
  constants-same w zero x = refl
  constants-same w (suc steps) x = λ i. computes i (code.shape x) (map (λ y. constants-same w steps y i) (code.operands x)) w.state

  entered-same : (inits : List (Option ℕ)) (w : World Value State) → entered inner code inits w ≡ entered by code inits w
  entered-same inits w = λ i. record w { state = enters i (map (option_map (λ x. constants-same w (suc x) x i)) inits) w.state }

-- ---- outcomes

closed-types : {Value State : Type 0} (has_type : Value → Form → Type 0) (ctx : Context) (signature : Signature) (Invariant : State → Type 0) (e : Ending) (left : Outcome Value State) →
    OutcomeHasTypes has_type ctx signature Invariant left → OutcomeHasTypes has_type ctx signature Invariant (closed_by e left)
closed-types has_type ctx signature Invariant Normal left h = record { state = h.state; returned = h.returned }
closed-types has_type ctx signature Invariant _ left h = h

module _ {Thing Value State : Type 0} (has_type : Value → Form → Type 0) (Accepts : function.Function → Expression → Type 0) (Invariant : function.Function → State → Type 0)
    (whole : the_module.Module) (look : Reference → Thing) (find : Thing → Option Reading) (finds : FindsChecked look find whole Accepts) (by : Meanings Thing Value State)
    (respects : (inside : function.Function) → IsFunctionOf whole inside → RespectsTypesIn look by has_type whole inside (Accepts inside) (Invariant inside))
    (calls : Calls Thing Value State) (calls_respect : CallsRespectTypes look calls by has_type whole Invariant) (turns : ℕ) where
  abbrev types : function.Function → ℕ → Option TypeResolution
  types = types_in whole

  -- ---- arguments

  module _ (caller callee : function.Function) (f : ℕ) (declared : value_at whole.functions f ≡ Some callee) where
    abbrev Met : Option Requirement → Type 0
    Met = Fits (context_in whole caller) (types caller) (signature_in whole caller)

    abbrev parameter_types : List argument.FunctionArgument → List ℕ
    parameter_types = map (λ (parameter : argument.FunctionArgument). parameter.ty)

    parameters-are : (signature_in whole caller).parameters f ≡ Some (parameter_types callee.arguments.items)
    parameters-are = ap (option_map (λ (found : function.Function). parameter_types found.arguments.items)) declared

    arguments-typed : (parameters : List argument.FunctionArgument) (position : ℕ) →
        ((i : ℕ) → slice_get (parameter_types callee.arguments.items) (position + i) ≡ slice_get (parameter_types parameters) i) →
        (arguments : List ℕ) (values : List Value) → length parameters ≡ length arguments → All Met (of_arguments f position arguments) →
        HaveTypesOf has_type (context_in whole caller) (types caller) arguments values →
        AllZip (λ (parameter : argument.FunctionArgument) value. HasType has_type (context_in whole callee) value (handle parameter.ty)) parameters values
    arguments-typed [] position found [] [] long h typed = tt
    arguments-typed [] position found [] (v ∷ values) long h typed = absurd typed
    arguments-typed [] position found (a ∷ arguments) values long h typed = absurd (cc)
    arguments-typed (p ∷ parameters) position found [] values long h typed = absurd (cc)
    arguments-typed (p ∷ parameters) position found (a ∷ arguments) [] long h typed = absurd typed
    arguments-typed (p ∷ parameters) position found (a ∷ arguments) (v ∷ values) long h typed = (
      subst (HasType has_type (context_in whole callee) v) (sym same) (HasTypeOf-known has_type (context_in whole caller) (types caller) (signature_in whole caller) a v first.0 typed.0 first.2),
      arguments-typed parameters (position + 1) (λ i. let next : (position + 1) + i ≡ position + suc i = omega arith in ap (slice_get (parameter_types callee.arguments.items)) next ∙ found (suc i))
          arguments values (let one : suc (length parameters) ≡ suc (length arguments) = long in omega (arith, one)) (All-tail Met _ (of_arguments f (position + 1) arguments) h) typed.1,
    )
      where
        first : (ty : TypeResolution) × (option_map handle (option_and_then (λ all. slice_get all position) ((signature_in whole caller).parameters f)) ≡ Some ty) × Has (context_in whole caller) (types caller) (signature_in whole caller) a ty
        first = All-head Met _ (of_arguments f (position + 1) arguments) h

        wanted : option_map handle (slice_get (parameter_types callee.arguments.items) position) ≡ Some first.0
        wanted = sym (ap (λ found. option_map handle (option_and_then (λ all. slice_get all position) found)) parameters-are) ∙ first.1

        here : slice_get (parameter_types callee.arguments.items) position ≡ Some p.ty
        here = let none : position ≡ position + 0 = omega arith in ap (slice_get (parameter_types callee.arguments.items)) none ∙ found 0

        same : handle p.ty ≡ first.0
        same = let inner : Some (handle p.ty) ≡ Some first.0 = sym (ap (option_map handle) here) ∙ wanted in cc

    count-same : (arguments : List ℕ) (result : Option ℕ) → All Met (of_call f arguments result) → length callee.arguments.items ≡ length arguments
    count-same arguments result h = sym (length-map callee.arguments.items (λ (parameter : argument.FunctionArgument). parameter.ty)) ∙ same
      where
        count : option_map length ((signature_in whole caller).parameters f) ≡ Some (length arguments)
        count = All-head Met (Some (requirement.ArgumentCount f (length arguments))) (Some (requirement.CallResult f (is_some result)) ∷ of_arguments f 0 arguments) h

        same : length (parameter_types callee.arguments.items) ≡ length arguments
        same = let some : Some (length (parameter_types callee.arguments.items)) ≡ Some (length arguments) = sym (ap (option_map length) parameters-are) ∙ count in cc

    call-arguments : (arguments : Vec ℕ Global) (result : Option ℕ) (action : StatementForm × List (Option Thing)) (values : List Value) →
        IsPerformed look has_type (context_in whole caller) (types caller) (signature_in whole caller) (Call f arguments result) action values →
        AreArguments has_type whole callee values
    call-arguments arguments result action values performed =
        arguments-typed callee.arguments.items 0 (λ i. let none : 0 + i ≡ i = omega arith in ap (slice_get (parameter_types callee.arguments.items)) none) arguments.items values
        (count-same arguments.items result performed.fits)
        (All-tail Met (Some (requirement.CallResult f (is_some result))) (of_arguments f 0 arguments.items)
        (All-tail Met (Some (requirement.ArgumentCount f (length arguments.items))) (Some (requirement.CallResult f (is_some result)) ∷ of_arguments f 0 arguments.items) performed.fits))
        (subst (λ xs. HaveTypesOf has_type (context_in whole caller) (types caller) xs values) (call-uses f arguments result performed.others) performed.typed)

  -- ---- what a statement leaves

  -- what is left by a statement of a function: a state of the function, and a result of the type of an expression that such a
  -- statement evaluates
  record Performs (caller : function.Function) (what : Statement) (left : State × Value) : Type 0 where
    pub state : Invariant caller left.0
    pub result : (r : ℕ) → result_of what ≡ Some r → (given : Expression) → evaluation_of given ≡ evaluation_by what →
        (ty : TypeResolution) → types caller r ≡ Some ty → type_of (context_in whole caller) (types caller) given ≡ Some ty → HasType has_type (context_in whole caller) left.1 ty

  abbrev Performed : (caller : function.Function) → Statement → StatementForm × List (Option Thing) → List Value → Type 0
  Performed caller = IsPerformed look has_type (context_in whole caller) (types caller) (signature_in whole caller)

  performs-by : (caller : function.Function) → IsFunctionOf whole caller → (what : Statement) (action : StatementForm × List (Option Thing)) (values : List Value) → Performed caller what action values →
      (state : State) → Invariant caller state → Performs caller what (by.perform action values state)
  performs-by caller is what action values performed state holds = record {
    state = (respects caller is).states what action values performed state holds;
    result = (respects caller is).results what action values performed state holds;
  }

  -- ---- calls

  module _ (inner : Meanings Thing Value State) (computes : inner.compute ≡ by.compute) (enters : inner.enter ≡ by.enter)
      (inner_respects : (inside : function.Function) → IsFunctionOf whole inside → RespectsTypesIn look inner has_type whole inside (Accepts inside) (Invariant inside)) where
    module _ (caller : function.Function) (is : IsFunctionOf whole caller) (state : State) (holds : Invariant caller state)
        (f : ℕ) (callee : function.Function) (declared : value_at whole.functions f ≡ Some callee) (chosen : ℕ → Bool) (checked : IsChecked whole (Accepts callee) chosen callee)
        (values : List Value) (arguments : AreArguments has_type whole callee values) where
      abbrev start : World Value State
      start = blank (calls.begin (look (reference.Function f)) values state)

      abbrev code : Code (Option (ExpressionForm × List (Option Thing)))
      code = code_of look (constant_chains_in chosen callee.expressions) callee.expressions

      begun : Invariant callee (entered inner code (initials callee.local_variables) start).state
      begun =
          subst (λ (w : World Value State). Invariant callee w.state) (sym (entered-same by inner computes enters code (initials callee.local_variables) start))
          (calls_respect.begins caller is state holds f callee declared values arguments (constant_chains_in chosen callee.expressions))

      abbrev left : Outcome Value State
      left = meaning look inner turns (read_narrowly chosen callee) start

      left-by : IsLeftBy has_type whole Invariant callee (seen look find calls by turns inner (read_narrowly chosen callee) (look (reference.Function f)) values state)
      left-by =
          closed-types has_type (context_in whole callee) (signature_in whole callee) (Invariant callee) left.ending left
          (execution-types look inner has_type whole callee (Accepts callee) chosen checked (Invariant callee) (inner_respects callee (inl (f, declared))) turns
          (entered inner code (initials callee.local_variables) start) begun).outcome

    -- the result of a call has the type that the function declares
    result-typed : (caller callee : function.Function) (f : ℕ) → value_at whole.functions f ≡ Some callee → (v : Value) →
        ((ty : ℕ) → (signature_in whole callee).result ≡ Some ty → HasType has_type (context_in whole callee) v (handle ty)) →
        (given : Expression) → evaluation_of given ≡ by_way.Call f → (ty : TypeResolution) → type_of (context_in whole caller) (types caller) given ≡ Some ty → HasType has_type (context_in whole caller) v ty
    result-typed caller callee f declared v h given way ty is = go (signature_in whole callee).result refl
      where
        results : (context_in whole caller).results f ≡ Some (signature_in whole callee).result
        results = ap (option_map (λ (found : function.Function). option_map (λ (result : outcome.FunctionResult). result.ty) found.result)) declared

        wanted : option_map handle (signature_in whole callee).result ≡ Some ty
        wanted =
            sym (ap (λ found. option_map handle (option_and_then (λ (result : Option ℕ). result) found)) results)
            ∙ (subst (λ e. type_of (context_in whole caller) (types caller) e ≡ Some ty) (call-given given f way) is)

        go : (result : Option ℕ) → (signature_in whole callee).result ≡ result → HasType has_type (context_in whole caller) v ty
        go None none = absurd (none-some ty (sym (ap (option_map handle) none) ∙ wanted))
        go (Some t) some =
            let inner : Some (handle t) ≡ Some ty = sym (ap (option_map handle) some) ∙ wanted in
            let same : handle t ≡ ty = cc in
            subst (HasType has_type (context_in whole caller) v) same (h t some)

    -- a call leaves this, whether or not the function that is called is found
    call-performs : (caller : function.Function) → IsFunctionOf whole caller → (f : ℕ) (arguments : Vec ℕ Global) (result : Option ℕ) (action : StatementForm × List (Option Thing)) (values : List Value) →
        Performed caller (Call f arguments result) action values → (state : State) → Invariant caller state →
        (found : Option Reading) → find (look (reference.Function f)) ≡ found → Performs caller (Call f arguments result) (perform_by look find calls by turns inner found (Some (look (reference.Function f))) action values state)
    call-performs caller is f arguments result action values performed state holds None none = performs-by caller is (Call f arguments result) action values performed state holds
    call-performs caller is f arguments result action values performed state holds (Some reading) some =
        let at = finds f reading some in
        let callee : function.Function = at.0 in
        let left : IsLeftBy has_type whole Invariant callee (seen look find calls by turns inner (read_narrowly at.1 callee) (look (reference.Function f)) values state) =
        left-by caller is state holds f callee at.2 at.1 at.4 values (call-arguments caller callee f at.2 arguments result action values performed)
        in
        subst (λ read. Performs caller (Call f arguments result) (calls.finish (seen look find calls by turns inner read (look (reference.Function f)) values state) state)) (sym at.3)
        (record {
          state = calls_respect.finishes caller is state holds f callee at.2 _ left;
          result = λ r named given way ty known typed. result-typed caller callee f at.2 _ (calls_respect.results caller is state holds f callee at.2 _ left) given way ty typed;
        })

    statement-performs : (caller : function.Function) → IsFunctionOf whole caller → (what : Statement) (action : StatementForm × List (Option Thing)) (values : List Value) → Performed caller what action values →
        (state : State) → Invariant caller state → Performs caller what (perform_by look find calls by turns inner (option_and_then find (callee_of action)) (callee_of action) action values state)
    statement-performs caller is what action values performed state holds = elim (call-or-none look what) [
      | inl call ↦ calling call.0 call.1 call.2 call.3
      | inr none ↦
          let no_callee : callee_of action ≡ None = sym (ap (option_and_then callee_of) performed.acts) ∙ none in
          subst (λ callee. Performs caller what (perform_by look find calls by turns inner (option_and_then find callee) callee action values state)) (sym no_callee)
          (performs-by caller is what action values performed state holds)
    ]
      where
        calling : (f : ℕ) (arguments : Vec ℕ Global) (result : Option ℕ) → what ≡ Call f arguments result →
            Performs caller what (perform_by look find calls by turns inner (option_and_then find (callee_of action)) (callee_of action) action values state)
        calling f arguments result same =
            let this : Performed caller (Call f arguments result) action values = subst (λ it. Performed caller it action values) same performed in
            let callee : callee_of action ≡ Some (look (reference.Function f)) = sym (ap (option_and_then callee_of) this.acts) in
            subst (λ it. Performs caller it (perform_by look find calls by turns inner (option_and_then find (callee_of action)) (callee_of action) action values state)) (sym same)
            (subst (λ it. Performs caller (Call f arguments result) (perform_by look find calls by turns inner (option_and_then find it) it action values state)) (sym callee)
            (call-performs caller is f arguments result action values this state holds (find (look (reference.Function f))) refl))

  -- ---- down to any depth

  abbrev Called : ℕ → Meanings Thing Value State
  Called = called look find calls by turns

  called-computes : (depth : ℕ) → (Called depth).compute ≡ by.compute
  called-computes zero = refl
  called-computes (suc depth) = refl

  called-enters : (depth : ℕ) → (Called depth).enter ≡ by.enter
  called-enters zero = refl
  called-enters (suc depth) = refl

  pub called-respects : (depth : ℕ) (inside : function.Function) → IsFunctionOf whole inside → RespectsTypesIn look (Called depth) has_type whole inside (Accepts inside) (Invariant inside)
  called-respects zero inside is = respects inside is
  called-respects (suc depth) inside is = record {
    operators = (respects inside is).operators;
    loads = (respects inside is).loads;
    states = λ what action values performed state holds.
        (statement-performs (Called depth) (called-computes depth) (called-enters depth) (λ other which. called-respects depth other which) inside is what action values performed state holds).state;
    results = λ what action values performed state holds.
        (statement-performs (Called depth) (called-computes depth) (called-enters depth) (λ other which. called-respects depth other which) inside is what action values performed state holds).result;
  }
