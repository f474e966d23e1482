-- Functions of which uses are redirected to expressions that are the same have the same meaning.
use Rattle.std.proofs.Common.{◌≡◌, ◌∙◌, sym, ap, subst, refl, inl, inr, ℕ, zero, suc, ◌<◌, Bool, true, false, List, [], ◌∷◌, ◌++◌, map, Option, Some, None, option_to_list, arith}
use Rattle.std.proofs.lemmas.Bool.Decides.{nat_tests}
use Rattle.std.proofs.lemmas.List.Elements.{All-contains, All-head, Contains-append_right}
use Rattle.std.specs.List.{Contains}
use Rattle.std.specs.Prelude.{◌⊎◌, All, if◌then◌else◌, nat_eq, nat_lt, option_and_then, option_map}
use Rattle.naga_arena.specs.Arena.{value_at}
use Rattle.naga_arena.specs.Span.{undefined}
use Rattle.naga_arena.specs.declared.span.Span.{Span}
use Rattle.naga_ir.specs.Expression.{base_of, needs_pre_emit}
use Rattle.naga_ir.specs.Tree.{Tree, empty, push, Node, plain, nested, branch, switch, loop, jump, break, continue, kill, return, Cases, no_cases, case}
use Rattle.naga_ir.specs.View.{tree_of}
use Rattle.naga_ir.specs.declared.expression.Expression.{Expression}
use Rattle.naga_ir.specs.declared.expression.Expression.TheVariants.{Literal, Access, AccessIndex}
use Rattle.naga_ir.specs.declared.module.Function.{Function}
use Rattle.naga_ir.specs.declared.statement.Statement.{Statement, Emit}
use Rattle.naga_valid.specs.Expressions.{references_of_expression}
use Rattle.naga_valid.specs.Operands.{expressions_of, operands_of}
use Rattle.naga_valid.specs.Statements.{references_of_statement}
use Rattle.naga_valid.specs.declared.reference.Reference.{Reference}
use Rattle.naga_valid.specs.declared.reference.Reference.TheVariants as reference
use Rattle.naga_flow.specs.Places.{if_before, ready_in, reads_in}
use Rattle.naga_flow.specs.Results.{emitted_by, evaluated_by, evaluation_by, evaluation_of, result_of, without, without_first}
use Rattle.naga_flow.specs.Uses.{after_body, CasesUseKnown, Expressions, NodeUsesKnown, UsesKnown, AreEvaluatedBy, expressions_in, operands_found, values_of, certain}
use Rattle.naga_flow.specs.declared.evaluation.Evaluation.{Evaluation}
use Rattle.naga_flow.specs.declared.evaluation.Evaluation.TheVariants as by_way
use Rattle.naga_flow.proofs.PlacesLemmas.{end-last, end-next}
use Rattle.naga_compact.specs.Operands.{OperandsPrecede}
use Rattle.naga_compact.specs.Renaming.{Renaming, rename_reference}
use Rattle.naga_compact.specs.derived.Renaming.{rename_expression, rename_statement}
use Rattle.naga_compact.proofs.derived_lemmas.RenamedVariantsLemmas.{references_of_expression-renamed, references_of_statement-renamed}
use Rattle.naga_compact.proofs.RenamedOperandsLemmas.{operands_of-renamed, used_by-renamed}
use Rattle.naga_meaning.specs.Renames.{rename_evaluation}
use Rattle.naga_meaning.proofs.Uses.ReadsLemmas.{base_of-operands, evaluation_of-renamed}
use Rattle.naga_meaning.proofs.Uses.RenamesLemmas.{result_of-renamed}
use Rattle.naga_meaning.specs.Forms.{ExpressionForm, of_compose, of_expression}
use Rattle.naga_meaning.specs.Functions.{Meanings, code_of, initials, looked_up, meaning, parts, shape_of}
use Rattle.naga_meaning.specs.Machine.{IfAny, IsIn, NodeIsIn, CasesAreIn}
use Rattle.naga_flow.specs.Readings.{expressions_by}
use Rattle.naga_meaning.specs.Readings.{IndicesAreValues, IsClosedReading, by_chains, chains_in, read_by}
use Rattle.naga_meaning.specs.Redirecting.{AreSteady, IsDuplicated, Redirects, RedirectsFunction, RedirectsStatement, content_of, redirecting}
use Rattle.naga_meaning.specs.Renaming.{Each}
use Rattle.naga_meaning.specs.InScope.{EvaluatesNew}
use Rattle.naga_meaning.specs.Values.{Code, World, constant, constant_within, entered, outcome}
use Rattle.naga_meaning.proofs.EachLemmas.{all-of_each, each-both, each-mapped, each-unmapped, each-weaker, map-renamed, operands-before}
use Rattle.naga_meaning.proofs.derived.FormsLemmas.{expression_form-renamed, statement_form-renamed}
use Rattle.naga_meaning.proofs.FormsLemmas.{only_evaluates-renamed}
use Rattle.naga_meaning.proofs.IsClosedReadingLemmas.{closed-read}
use Rattle.naga_meaning.proofs.ReadsAlikeLemmas.{renamed-found}
use Rattle.naga_meaning.proofs.ReadsDecideLemmas.{chains-read, ready-base, ready-evaluation}
use Rattle.naga_meaning.proofs.ReadsOperandsLemmas.{ReadsOperands}
use Rattle.naga_meaning.proofs.RedirectsLemmas.{no_emitted_result, outcome-redirected}
use Rattle.naga_meaning.proofs.RenamesCodeLemmas.{eq-either, eq-no, eq-yes}

-- ---- what the content of an expression determines

abbrev Content : Type 0
Content = ExpressionForm × List Reference

abbrev first_of : List ℕ → Option ℕ
first_of [] = None
first_of (x ∷ xs) = Some x

abbrev base_by : Content → Option ℕ
base_by (of_expression (Access base index), names) = first_of (expressions_of names)
base_by (of_expression (AccessIndex base index), names) = first_of (expressions_of names)
base_by _ = None

base_of-content : (e : Expression) → base_of e ≡ base_by (content_of e)
base_of-content (Literal literal) = refl
base_of-content _ = refl

base-content : (found : Option Expression) → option_and_then base_of found ≡ option_and_then base_by (option_map content_of found)
base-content None = refl
base-content (Some e) = base_of-content e

abbrev ready_by : Option Content → Bool
ready_by None = false
ready_by (Some (of_compose, names)) = false
ready_by (Some (of_expression e, names)) = needs_pre_emit e

needs_pre_emit-content : (e : Expression) → needs_pre_emit e ≡ ready_by (Some (content_of e))
needs_pre_emit-content (Literal literal) = refl
needs_pre_emit-content _ = refl

ready-content : (found : Option Expression) → ready_in found ≡ ready_by (option_map content_of found)
ready-content None = refl
ready-content (Some e) = needs_pre_emit-content e

abbrev way_by : Content → Evaluation
way_by (of_compose, names) = by_way.Emit
way_by (of_expression e, names) = evaluation_of e

-- the way of an evaluation without the function of a call
abbrev erased : Evaluation → Evaluation
erased = rename_evaluation (λ handle. 0)

evaluation_of-content : (e : Expression) → erased (evaluation_of e) ≡ way_by (content_of e)
evaluation_of-content (Literal literal) = refl
evaluation_of-content _ = refl

way-content : (found : Option Expression) → option_map erased (option_map evaluation_of found) ≡ option_map way_by (option_map content_of found)
way-content None = refl
way-content (Some e) = ap Some (evaluation_of-content e)

abbrev operands_by : Option Content → List ℕ
operands_by None = []
operands_by (Some content) = expressions_of content.1

operands-content : (found : Option Expression) → operands_found found ≡ operands_by (option_map content_of found)
operands-content None = refl
operands-content (Some e) = refl

shape-content : {Thing : Type 0} (look : Reference → Thing) (found : Option Expression) →
    option_map (shape_of look) found ≡ option_map (λ (content : Content). (content.0, map (looked_up look) content.1)) (option_map content_of found)
shape-content look None = refl
shape-content look (Some e) = refl

emitted-erased : (way : Option Evaluation) → option_map erased way ≡ Some by_way.Emit → way ≡ Some by_way.Emit
emitted-erased None h = absurd (cc)
emitted-erased (Some by_way.Emit) h = refl
emitted-erased (Some _) h = absurd (cc)

ready-erased : (way : Option Evaluation) → option_map erased way ≡ Some by_way.Ready → way ≡ Some by_way.Ready
ready-erased None h = absurd (cc)
ready-erased (Some by_way.Ready) h = refl
ready-erased (Some _) h = absurd (cc)

-- ---- renaming handles of expressions alone

module _ (r : ℕ → ℕ) where
  abbrev renaming : Renaming
  renaming = redirecting r

  way-renamed : (way : Evaluation) → rename_evaluation renaming.functions way ≡ way
  way-renamed (by_way.Call function) = refl
  way-renamed _ = refl

  found-way : (found : Option Expression) → option_map evaluation_of (option_map (rename_expression renaming) found) ≡ option_map evaluation_of found
  found-way None = refl
  found-way (Some e) = ap Some (evaluation_of-renamed renaming e ∙ way-renamed (evaluation_of e))

  base_of-redirected : (e : Expression) → base_of (rename_expression renaming e) ≡ option_map r (base_of e)
  base_of-redirected (Literal literal) = refl
  base_of-redirected _ = refl

  found-base : (found : Option Expression) → option_and_then base_of (option_map (rename_expression renaming) found) ≡ option_map r (option_and_then base_of found)
  found-base None = refl
  found-base (Some e) = base_of-redirected e

  needs_pre_emit-redirected : (e : Expression) → needs_pre_emit (rename_expression renaming e) ≡ needs_pre_emit e
  needs_pre_emit-redirected (Literal literal) = refl
  needs_pre_emit-redirected _ = refl

  found-ready : (found : Option Expression) → ready_in (option_map (rename_expression renaming) found) ≡ ready_in found
  found-ready None = refl
  found-ready (Some e) = needs_pre_emit-redirected e

  found-operands : (found : Option Expression) → operands_found (option_map (rename_expression renaming) found) ≡ map r (operands_found found)
  found-operands None = refl
  found-operands (Some e) = operands_of-renamed renaming e

  module _ {Thing : Type 0} (look : Reference → Thing) where
    looked_up-redirected : (name : Reference) → looked_up look (rename_reference renaming name) ≡ looked_up look name
    looked_up-redirected (reference.Expression handle) = refl
    looked_up-redirected (reference.Expressions start end') = refl
    looked_up-redirected _ = refl

    names-redirected : (names : List Reference) → map (looked_up look) (map (rename_reference renaming) names) ≡ map (looked_up look) names
    names-redirected [] = refl
    names-redirected (name ∷ rest) = λ i. looked_up-redirected name i ∷ names-redirected rest i

    shape_of-redirected : (e : Expression) → shape_of look (rename_expression renaming e) ≡ shape_of look e
    shape_of-redirected e =
        λ i. (expression_form-renamed renaming e i, (ap (map (looked_up look)) (references_of_expression-renamed renaming e) ∙ names-redirected (references_of_expression e)) i)

    found-shape : (found : Option Expression) → option_map (shape_of look) (option_map (rename_expression renaming) found) ≡ option_map (shape_of look) found
    found-shape None = refl
    found-shape (Some e) = ap Some (shape_of-redirected e)

-- no statement has an expression that is ready as its result
never_ready : (what : Statement) → evaluation_by what ≡ by_way.Ready → ⊥
never_ready (Emit range) h = cc
never_ready _ h = cc

any-if : (value : Option ℕ) → IfAny (λ handle. Unit {0}) value
any-if None = tt
any-if (Some x) = tt

-- ---- chains

is-ready : (found : Option Expression) → option_map evaluation_of found ≡ Some by_way.Ready → ready_in found ≡ true
is-ready None h = absurd (cc)
is-ready (Some e) h = ready-evaluation e (let same : evaluation_of e ≡ by_way.Ready = cc in same)

ready-chain : (arena : List (Expression × Span)) (x : ℕ) (found : Option Expression) → value_at arena x ≡ found → option_map evaluation_of found ≡ Some by_way.Ready → chains_in arena x ≡ true
ready-chain arena x None is h = absurd (cc)
ready-chain arena x (Some e) is h =
    let ready : needs_pre_emit e ≡ true = ready-evaluation e (let same : evaluation_of e ≡ by_way.Ready = cc in same) in
    ap (λ y. ready_in (value_at arena y)) (end-last arena x (ap (λ v. if_before x (option_and_then base_of v)) is ∙ ap (if_before x) (ready-base e ready))) ∙ ap ready_in is ∙ ready

abbrev at_base : Option ℕ → (here : Bool) → (there : ℕ → Bool) → Bool
at_base None here there = here
at_base (Some base) here there = there base

module _ (arena : List (Expression × Span)) (precede : OperandsPrecede arena) where
  base-before : (x base : ℕ) (found : Option Expression) → value_at arena x ≡ found → Each (λ y. y < x) (operands_found found) → option_and_then base_of found ≡ Some base → base < x
  base-before x base None found before is = absurd (cc)
  base-before x base (Some e) found before is =
      let all : All (λ y. y < x) (option_to_list (base_of e)) = base_of-operands (λ y. y < x) e (all-of_each (λ y. y < x) (operands_of e) before) in
      All-head (λ y. y < x) base [] (subst (λ b. All (λ y. y < x) (option_to_list b)) is all)

  chains-next : (x : ℕ) → chains_in arena x ≡ at_base (option_and_then base_of (value_at arena x)) (ready_in (value_at arena x)) (chains_in arena)
  chains-next x = go (option_and_then base_of (value_at arena x)) refl
    where
      go : (base : Option ℕ) → option_and_then base_of (value_at arena x) ≡ base → chains_in arena x ≡ at_base base (ready_in (value_at arena x)) (chains_in arena)
      go None is = ap (λ y. ready_in (value_at arena y)) (end-last arena x (ap (if_before x) is))
      go (Some base) is =
          let less : base < x = base-before x base (value_at arena x) refl (operands-before arena precede x) is in
          let before : nat_lt base x ≡ true = grind (arith, nat_tests) in
          ap (λ y. ready_in (value_at arena y)) (end-next arena x base (ap (if_before x) is ∙ ap (λ t. if t then Some base else None) before))

-- ---- expressions of the two functions

module _ (r : ℕ → ℕ) (old new : Function) (redirects : RedirectsFunction r old new) (precede : OperandsPrecede old.expressions) (precede' : OperandsPrecede new.expressions) where
  found : (x : ℕ) → value_at new.expressions x ≡ option_map (rename_expression (redirecting r)) (value_at old.expressions x)
  found x = ap (λ arena. value_at arena x) redirects.expressions ∙ renamed-found (redirecting r) old.expressions x

  abbrev before : Expressions
  before = expressions_in old.expressions

  way-same : (x : ℕ) → (expressions_in new.expressions).evaluation x ≡ before.evaluation x
  way-same x = ap (option_map evaluation_of) (found x) ∙ found-way r (value_at old.expressions x)

  way-redirected : (x : ℕ) → option_map erased (before.evaluation (r x)) ≡ option_map erased (before.evaluation x)
  way-redirected x =
      sym (ap (option_map erased) (way-same (r x))) ∙ way-content (value_at new.expressions (r x)) ∙ ap (option_map way_by) (redirects.same x)
      ∙ sym (way-content (value_at new.expressions x)) ∙ ap (option_map erased) (way-same x)

  emitted-redirected : (x : ℕ) → before.evaluation x ≡ Some by_way.Emit → before.evaluation (r x) ≡ Some by_way.Emit
  emitted-redirected x is = emitted-erased (before.evaluation (r x)) (way-redirected x ∙ ap (option_map erased) is)

  ready-redirected : (x : ℕ) → before.evaluation x ≡ Some by_way.Ready → before.evaluation (r x) ≡ Some by_way.Ready
  ready-redirected x is = ready-erased (before.evaluation (r x)) (way-redirected x ∙ ap (option_map erased) is)

  chains-redirected : (x : ℕ) → chains_in new.expressions (r x) ≡ chains_in new.expressions x
  chains-redirected x =
      chains-next new.expressions precede' (r x)
      ∙ (λ i. at_base
      ((base-content (value_at new.expressions (r x)) ∙ ap (option_and_then base_by) (redirects.same x) ∙ sym (base-content (value_at new.expressions x))) i)
      ((ready-content (value_at new.expressions (r x)) ∙ ap ready_by (redirects.same x) ∙ sym (ready-content (value_at new.expressions x))) i)
      (chains_in new.expressions))
      ∙ sym (chains-next new.expressions precede' x)

  chains-within : (bound x : ℕ) → x < bound → chains_in new.expressions x ≡ chains_in old.expressions x
  chains-within zero x less = absurd (omega (arith, less))
  chains-within (suc bound) x less =
      chains-next new.expressions precede' x
      ∙ (λ i. at_base ((ap (option_and_then base_of) (found x) ∙ found-base r (value_at old.expressions x)) i) ((ap ready_in (found x) ∙ found-ready r (value_at old.expressions x)) i) (chains_in new.expressions))
      ∙ go (λ y earlier. chains-within bound y (omega (arith, less, earlier))) (option_and_then base_of (value_at old.expressions x)) refl
      ∙ sym (chains-next old.expressions precede x)
    where
      go : ((y : ℕ) → y < x → chains_in new.expressions y ≡ chains_in old.expressions y) → (base : Option ℕ) → option_and_then base_of (value_at old.expressions x) ≡ base →
          at_base (option_map r base) (ready_in (value_at old.expressions x)) (chains_in new.expressions) ≡ at_base base (ready_in (value_at old.expressions x)) (chains_in old.expressions)
      go within None is = refl
      go within (Some base) is =
          let earlier : base < x = base-before old.expressions precede x base (value_at old.expressions x) refl (operands-before old.expressions precede x) is in
          chains-redirected base ∙ within base earlier

  chains-same : (x : ℕ) → chains_in new.expressions x ≡ chains_in old.expressions x
  chains-same x = chains-within (suc x) x (omega arith)

  index-ready : IndicesAreValues old.expressions → (x base index : ℕ) (value : Option Expression) → value_at old.expressions x ≡ value → option_map (rename_expression (redirecting r)) value ≡ Some (Access base index) →
      chains_in new.expressions index ≡ true → ready_in (value_at new.expressions index) ≡ true
  index-ready indices x base index (Some (Access base' index')) is renamed chain =
      let same : r index' ≡ index = cc in
      let chain' : chains_in old.expressions index' ≡ true = sym (chains-same index') ∙ sym (chains-redirected index') ∙ ap (chains_in new.expressions) same ∙ chain in
      sym (ap (λ y. ready_in (value_at new.expressions y)) same) ∙ ready-content (value_at new.expressions (r index')) ∙ ap ready_by (redirects.same index') ∙ sym (ready-content (value_at new.expressions index'))
      ∙ ap ready_in (found index') ∙ found-ready r (value_at old.expressions index') ∙ indices x base' index' is chain'
  index-ready indices x base index None is renamed chain = absurd (cc)
  index-ready indices x base index (Some _) is renamed chain = absurd (cc)

  pub closed-redirected : (at_use : ℕ → Bool) → IsClosedReading at_use old.expressions → ((x : ℕ) → at_use (r x) ≡ at_use x) → IsClosedReading at_use new.expressions
  closed-redirected at_use closed redirected = record {
    ready = λ x is. closed.ready x (sym (ap ready_in (found x) ∙ found-ready r (value_at old.expressions x)) ∙ is);
    operands = λ x is.
        subst (Each (λ y. at_use y ≡ true)) (sym (ap operands_found (found x) ∙ found-operands r (value_at old.expressions x)))
        (each-mapped (λ y. at_use y ≡ true) r (operands_found (value_at old.expressions x))
        (each-weaker (λ y. at_use y ≡ true) (λ y. at_use (r y) ≡ true) (λ y so. redirected y ∙ so) (operands_found (value_at old.expressions x)) (closed.operands x is)));
  }

  pub indices-redirected : IndicesAreValues old.expressions → IndicesAreValues new.expressions
  indices-redirected indices x base index is chain = index-ready indices x base index (value_at old.expressions x) refl (sym (found x) ∙ is) chain

  -- a reading of both functions, in which redirected uses are read alike
  module _ {Thing Value State : Type 0} (look : Reference → Thing) (by : Meanings Thing Value State) (at_use at_use' : ℕ → Bool) (read_alike : (x : ℕ) → at_use' x ≡ at_use x)
      (read_redirected : (x : ℕ) → at_use (r x) ≡ at_use x) (ready_at_use : (x : ℕ) → before.evaluation x ≡ Some by_way.Ready → at_use x ≡ true)
      (steady : AreSteady by r (code_of look at_use old.expressions)) where
    abbrev code : Code (Option (ExpressionForm × List (Option Thing)))
    code = code_of look at_use old.expressions

    abbrev code' : Code (Option (ExpressionForm × List (Option Thing)))
    code' = code_of look at_use' new.expressions

    shape-same : (x : ℕ) → code'.shape x ≡ code.shape x
    shape-same x = ap (option_map (shape_of look)) (found x) ∙ found-shape r look (value_at old.expressions x)

    operands-same : (x : ℕ) → code'.operands x ≡ map r (code.operands x)
    operands-same x = ap operands_found (found x) ∙ found-operands r (value_at old.expressions x)

    shape-redirected : (x : ℕ) → code'.shape (r x) ≡ code'.shape x
    shape-redirected x =
        shape-content look (value_at new.expressions (r x)) ∙ ap (option_map (λ (content : Content). (content.0, map (looked_up look) content.1))) (redirects.same x)
        ∙ sym (shape-content look (value_at new.expressions x))

    operands-redirected : (x : ℕ) → code'.operands (r x) ≡ code'.operands x
    operands-redirected x =
        operands-content (value_at new.expressions (r x)) ∙ ap operands_by (redirects.same x) ∙ sym (operands-content (value_at new.expressions x))

    duplicated : (x : ℕ) → (r x ≡ x) ⊎ IsDuplicated by before.evaluation r code x
    duplicated x = elim (eq-either (r x) x) [
      | yes same ↦ inl same
      | no other ↦ inr (record {
        shape = sym (shape-same (r x)) ∙ shape-redirected x ∙ shape-same x;
        operands = sym (operands-same (r x)) ∙ operands-redirected x ∙ operands-same x;
        at_use = read_redirected x;
        emitted = λ plain. elim (redirects.no_result x other) [
          | inl ready ↦ absurd (let clash : true ≡ false = sym (ready_at_use x ready) ∙ plain in cc)
          | inr emitted ↦ (emitted, emitted-redirected x emitted, steady.redirected x other)
        ];
      })
    ]

    pub code-redirected : Redirects by before.evaluation r code code'
    code-redirected = record { shape = shape-same; operands = operands-same; at_use = read_alike; steady = steady.at_use; duplicates = duplicated }

    -- ---- initial values

    abbrev Earlier : ℕ → ℕ → Type 0
    Earlier x y = (y < x) × (r y < r x)

    earlier : (x : ℕ) → Each (Earlier x) (code.operands x)
    earlier x =
        let renamed : code'.operands (r x) ≡ map r (code.operands x) = operands-redirected x ∙ operands-same x in
        each-both (λ y. y < x) (λ y. r y < r x) (code.operands x) (operands-before old.expressions precede x)
        (each-unmapped (λ z. z < r x) r (code.operands x) (subst (Each (λ z. z < r x)) renamed (operands-before new.expressions precede' (r x))))

    module _ (a b : World Value State) (same : b.state ≡ a.state) where
      constant-redirected : (l k x : ℕ) → x < l → r x < k → constant_within by code' k b (r x) ≡ constant_within by code l a x
      constant-redirected zero k x less less' = absurd (omega (arith, less))
      constant-redirected (suc l) zero x less less' = absurd (omega (arith, less'))
      constant-redirected (suc l) (suc k) x less less' =
          (λ i. by.compute ((shape-redirected x ∙ shape-same x) i) (map (constant_within by code' k b) ((operands-redirected x ∙ operands-same x) i)) (same i))
          ∙ ap (λ values. by.compute (code.shape x) values a.state)
          (map-renamed (Earlier x) r (constant_within by code l a) (constant_within by code' k b)
          (λ y so. constant-redirected l k y (let first : y < x = so.0 in omega (arith, less, first)) (let first : r y < r x = so.1 in omega (arith, less', first))) (code.operands x) (earlier x))

      -- the operands of an expression, and what they become, come before it
      both-earlier : (x : ℕ) → Each (λ y. (y < x) × (r y < x)) (code.operands x)
      both-earlier x =
          each-both (λ y. y < x) (λ y. r y < x) (code.operands x) (operands-before old.expressions precede x)
          (each-unmapped (λ z. z < x) r (code.operands x) (subst (Each (λ z. z < x)) (operands-same x) (operands-before new.expressions precede' x)))

      constant-same : (x : ℕ) → constant by code' b x ≡ constant by code a x
      constant-same x =
          (λ i. by.compute (shape-same x i) (map (constant_within by code' x b) (operands-same x i)) (same i))
          ∙ ap (λ values. by.compute (code.shape x) values a.state)
          (map-renamed (λ y. (y < x) × (r y < x)) r (constant_within by code x a) (constant_within by code' x b) (λ y so. constant-redirected x x y so.0 so.1) (code.operands x) (both-earlier x))

      constants-same : (inits : List (Option ℕ)) → map (option_map (constant by code' b)) inits ≡ map (option_map (constant by code a)) inits
      constants-same [] = refl
      constants-same (None ∷ rest) = ap (λ values. None ∷ values) (constants-same rest)
      constants-same (Some x ∷ rest) = λ i. Some (constant-same x i) ∷ constants-same rest i

      pub entered-redirected : (entered by code' (initials new.local_variables) b).state ≡ (entered by code (initials old.local_variables) a).state
      entered-redirected =
          ap (λ variables. by.enter (map (option_map (constant by code' b)) (initials variables)) b.state) redirects.local_variables
          ∙ (λ i. by.enter (constants-same (initials old.local_variables) i) (same i))

  -- ---- statements

  abbrev to_statement : Statement → Statement
  to_statement = rename_statement (redirecting r)

  module _ {Thing : Type 0} (look : Reference → Thing) where
    abbrev Redirected : Statement → Type 0
    Redirected what = RedirectsStatement (parts look) r what (to_statement what)

    abbrev Any : ℕ → Type 0
    Any handle = Unit {0}

    -- the expression is the result of a statement
    abbrev IsResult : ℕ → Type 0
    IsResult x = (before.evaluation x ≡ Some by_way.Ready → ⊥) × (before.evaluation x ≡ Some by_way.Emit → ⊥)

    result-stays : (x : ℕ) → IsResult x → r x ≡ x
    result-stays x result = elim (eq-either (r x) x) [
      | yes same ↦ same
      | no other ↦ absurd (elim (redirects.no_result x other) [ inl ready ↦ result.0 ready | inr emitted ↦ result.1 emitted ])
    ]

    only-result : (x y : ℕ) → IsResult x → r y ≡ x → y ≡ x
    only-result x y result is = elim (eq-either (r y) y) [
      | yes same ↦ sym same ∙ is
      | no other ↦ absurd (elim (redirects.no_result y other) [
        | inl ready ↦ result.0 (sym (ap before.evaluation is) ∙ ready-redirected y ready)
        | inr emitted ↦ result.1 (sym (ap before.evaluation is) ∙ emitted-redirected y emitted)
      ])
    ]

    test-same : (x y : ℕ) → IsResult x → nat_eq (r y) x ≡ nat_eq y x
    test-same x y result = elim (eq-either y x) [
      | yes is ↦ eq-yes (r y) x (ap r is ∙ result-stays x result) ∙ sym (eq-yes y x is)
      | no other ↦ eq-no (r y) x (λ is. other (only-result x y result is)) ∙ sym (eq-no y x other)
    ]

    without_first-redirected : (x : ℕ) (ys : List ℕ) → IsResult x → without_first x (map r ys) ≡ map r (without_first x ys)
    without_first-redirected x [] result = refl
    without_first-redirected x (y ∷ ys) result =
        (λ i. if test-same x y result i then map r ys else r y ∷ without_first-redirected x ys result i) ∙ go (nat_eq y x)
      where
        go : (t : Bool) → (if t then map r ys else r y ∷ map r (without_first x ys)) ≡ map r (if t then ys else y ∷ without_first x ys)
        go true = refl
        go false = refl

    without-redirected : (result : Option ℕ) (ys : List ℕ) → ((x : ℕ) → result ≡ Some x → IsResult x) → without (option_map r result) (map r ys) ≡ map r (without result ys)
    without-redirected None ys h = refl
    without-redirected (Some x) ys h = ap (λ z. without_first z (map r ys)) (result-stays x (h x refl)) ∙ without_first-redirected x ys (h x refl)

    result-same : (result : Option ℕ) → ((x : ℕ) → result ≡ Some x → IsResult x) → option_map r result ≡ result
    result-same None h = refl
    result-same (Some x) h = ap Some (result-stays x (h x refl))

    emits-redirected : (what : Statement) → emitted_by (to_statement what) ≡ emitted_by what
    emits-redirected (Emit range) = refl
    emits-redirected _ = refl

    action-redirected : (what : Statement) → (parts look).action (to_statement what) ≡ (parts look).action what
    action-redirected what =
        λ i. if only_evaluates-renamed (redirecting r) what i then None
        else Some (statement_form-renamed (redirecting r) what i, (ap (map (looked_up look)) (references_of_statement-renamed (redirecting r) what) ∙ names-redirected r look (references_of_statement what)) i)

    statement-result : (what : Statement) → AreEvaluatedBy before (evaluation_by what) (evaluated_by what) → (x : ℕ) → result_of what ≡ Some x → IsResult x
    statement-result what evaluated x is =
        let way : before.evaluation x ≡ Some (evaluation_by what) =
        All-contains (λ y. before.evaluation y ≡ Some (evaluation_by what)) (evaluated_by what) x evaluated
        (Contains-append_right (emitted_by what) (option_to_list (result_of what)) x (subst (λ t. Contains (option_to_list t) x) (sym is) (0, omega arith, refl)))
        in (
          λ ready. never_ready what (let both : Some (evaluation_by what) ≡ Some by_way.Ready = sym way ∙ ready in cc),
          λ emitted. no_emitted_result what x is (let both : Some (evaluation_by what) ≡ Some by_way.Emit = sym way ∙ emitted in cc),
        )

    statement-redirected : (what : Statement) → AreEvaluatedBy before (evaluation_by what) (evaluated_by what) → Redirected what
    statement-redirected what evaluated = record {
      action = action-redirected what;
      emits = emits-redirected what;
      uses = (λ i. without (result_of-renamed (redirecting r) what i) (used_by-renamed (redirecting r) (push empty (plain what) undefined) i))
          ∙ without-redirected (result_of what) (expressions_of (references_of_statement what)) (statement-result what evaluated);
      result = result_of-renamed (redirecting r) what ∙ result-same (result_of what) (statement-result what evaluated);
    }

    abbrev with_reads : (ℕ → List ℕ) → Expressions
    with_reads reads = record before { reads = reads }

    mutual
      pub block-redirected : (reads : ℕ → List ℕ) (block : Tree) (known : List ℕ) → UsesKnown (with_reads reads) known block → IsIn Redirected Any block
      block-redirected reads empty known h = tt
      block-redirected reads (push front last span) known h = (block-redirected reads front known h.0, node-redirected reads last (values_of front ++ known) h.1)

      node-redirected : (reads : ℕ → List ℕ) (node : Node) (known : List ℕ) → NodeUsesKnown (with_reads reads) known node → NodeIsIn Redirected Any node
      node-redirected reads (plain what) known h = statement-redirected what h.evaluated
      node-redirected reads (nested inner) known h = block-redirected reads inner known h
      node-redirected reads (branch condition accept reject) known h = (tt, block-redirected reads accept known h.1, block-redirected reads reject known h.2)
      node-redirected reads (switch selector cases) known h = (tt, cases-redirected reads cases known h.1)
      node-redirected reads (loop body continuing break_if) known h = (block-redirected reads body known h.0, block-redirected (after_body body (with_reads reads)).reads continuing (values_of (certain body) ++ known) h.1, any-if break_if)
      node-redirected reads (jump break) known h = tt
      node-redirected reads (jump continue) known h = tt
      node-redirected reads (jump kill) known h = tt
      node-redirected reads (jump (return value)) known h = any-if value

      cases-redirected : (reads : ℕ → List ℕ) (cases : Cases) (known : List ℕ) → CasesUseKnown (with_reads reads) known cases → CasesAreIn Redirected Any cases
      cases-redirected reads no_cases known h = tt
      cases-redirected reads (case value body falls_through others) known h = (block-redirected reads body known h.0, cases-redirected reads others known h.1)

-- ---- meanings

module _ {Thing Value State : Type 0} (r : ℕ → ℕ) (old new : Function) (redirects : RedirectsFunction r old new) (precede : OperandsPrecede old.expressions)
    (precede' : OperandsPrecede new.expressions) (fresh : EvaluatesNew (tree_of old.body)) (look : Reference → Thing) (by : Meanings Thing Value State) where
  meaning-read : (at_use at_use' : ℕ → Bool) → ((x : ℕ) → at_use' x ≡ at_use x) → ((x : ℕ) → at_use (r x) ≡ at_use x) →
      ((x : ℕ) → (expressions_in old.expressions).evaluation x ≡ Some by_way.Ready → at_use x ≡ true) → AreSteady by r (code_of look at_use old.expressions) → (reads reads' : ℕ → List ℕ) →
      ReadsOperands (code_of look at_use old.expressions) (record (expressions_in old.expressions) { reads = reads }) →
      ReadsOperands (code_of look at_use' new.expressions) (record (expressions_in new.expressions) { reads = reads' }) →
      UsesKnown (record (expressions_in old.expressions) { reads = reads }) [] (tree_of old.body) → UsesKnown (record (expressions_in new.expressions) { reads = reads' }) [] (tree_of new.body) →
      (turns : ℕ) (a b : World Value State) → b.state ≡ a.state → meaning look by turns (read_by at_use' new) b ≡ meaning look by turns (read_by at_use old) a
  meaning-read at_use at_use' alike redirected ready steady reads reads' read read' uses uses' turns a b same =
      let code = code_of look at_use old.expressions in
      let code' = code_of look at_use' new.expressions in
      let start = entered by code (initials old.local_variables) a in
      let start' = entered by code' (initials new.local_variables) b in
      ap (λ body. outcome (parts look) by code' turns body start') redirects.body
      ∙ outcome-redirected look by at_use at_use' old.expressions new.expressions precede precede' reads reads' read read' r
      (code-redirected r old new redirects precede precede' look by at_use at_use' alike redirected ready steady) (rename_statement (redirecting r)) (tree_of old.body)
      (block-redirected r old new redirects precede precede' look reads (tree_of old.body) [] uses) fresh uses
      (subst (UsesKnown (record (expressions_in new.expressions) { reads = reads' }) []) redirects.body uses') turns start start'
      (entered-redirected r old new redirects precede precede' look by at_use at_use' alike redirected ready steady a b same)

  pub meaning-by_chains : IndicesAreValues old.expressions → UsesKnown (expressions_in old.expressions) [] (tree_of old.body) → UsesKnown (expressions_in new.expressions) [] (tree_of new.body) →
      AreSteady by r (code_of look (chains_in old.expressions) old.expressions) → (turns : ℕ) (a b : World Value State) → b.state ≡ a.state →
      meaning look by turns (by_chains new) b ≡ meaning look by turns (by_chains old) a
  meaning-by_chains indices uses uses' steady =
      let alike = chains-same r old new redirects precede precede' in
      meaning-read (chains_in old.expressions) (chains_in new.expressions) alike (λ x. sym (alike (r x)) ∙ chains-redirected r old new redirects precede precede' x ∙ alike x)
      (λ x is. ready-chain old.expressions x (value_at old.expressions x) refl is) steady (reads_in old.expressions) (reads_in new.expressions)
      (chains-read look by old.expressions precede indices) (chains-read look by new.expressions precede' (indices-redirected r old new redirects precede precede' indices)) uses uses'

  pub meaning-by_closed : (at_use : ℕ → Bool) → IsClosedReading at_use old.expressions → ((x : ℕ) → at_use (r x) ≡ at_use x) →
      UsesKnown (expressions_by at_use old.expressions) [] (tree_of old.body) → UsesKnown (expressions_by at_use new.expressions) [] (tree_of new.body) →
      AreSteady by r (code_of look at_use old.expressions) → (turns : ℕ) (a b : World Value State) → b.state ≡ a.state →
      meaning look by turns (read_by at_use new) b ≡ meaning look by turns (read_by at_use old) a
  meaning-by_closed at_use closed redirected uses uses' steady =
      meaning-read at_use at_use (λ x. refl) redirected (λ x is. closed.ready x (is-ready (value_at old.expressions x) is)) steady (expressions_by at_use old.expressions).reads (expressions_by at_use new.expressions).reads
      (closed-read look by at_use old.expressions precede closed) (closed-read look by at_use new.expressions precede' (closed-redirected r old new redirects precede precede' at_use closed redirected)) uses uses'
