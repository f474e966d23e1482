-- Compacting a function, and renaming what it refers to, keeps its meaning.
use Rattle.std.proofs.Common.{◌≡◌, ◌∙◌, ap, refl, inl, inr, ℕ, ◌<◌, ◌≤◌, Bool, true, List, [], ◌∷◌, ◌++◌, map, length, Option, Some, None, arith}
use Rattle.std.proofs.lemmas.List.Elements.{All-cons, All-contains, All-head, All-tail}
use Rattle.std.specs.FinSet.{contains}
use Rattle.std.specs.List.{cons_option, filter}
use Rattle.std.specs.Prelude.{All, if◌then◌else◌, option_map}
use Rattle.naga_arena.specs.Arena.{value_at}
use Rattle.naga_arena.specs.Range.{handles_of}
use Rattle.naga_arena.specs.declared.span.Span.{Span}
use Rattle.naga_ir.specs.Tree.{Tree, empty, push, Node, plain, nested, branch, switch, loop, jump, Cases, no_cases, case, break, continue, kill, return}
use Rattle.naga_ir.specs.View.{tree_of}
use Rattle.naga_ir.specs.declared.expression.Expression.{Expression}
use Rattle.naga_ir.specs.declared.module.Function.{Function}
use Rattle.naga_ir.specs.declared.module.LocalVariable.{LocalVariable}
use Rattle.naga_ir.specs.declared.statement.Statement as statement
use Rattle.naga_sets.specs.HandleSet.{BoundedSet}
use Rattle.naga_valid.specs.Expressions.{references_of_expression}
use Rattle.naga_valid.specs.Operands.{expressions_of, operands_of}
use Rattle.naga_valid.specs.Reference.{operands, present}
use Rattle.naga_valid.specs.Statements.{references_of_statement, references_of_tree, references_of_node, references_of_cases}
use Rattle.naga_valid.specs.declared.reference.Reference.{Reference}
use Rattle.naga_valid.specs.declared.reference.Reference.TheVariants as reference
use Rattle.naga_flow.proofs.ResultsLemmas.{ResultIsNamed, result-named}
use Rattle.naga_flow.specs.Results.{result_of, used_by}
use Rattle.naga_flow.specs.Uses.{expressions_in, operands_found}
use Rattle.naga_compact.specs.Functions.{CompactsFunction, initial_values}
use Rattle.naga_compact.specs.Kept.{new_index}
use Rattle.naga_compact.specs.Operands.{OperandsPrecede}
use Rattle.naga_compact.specs.Reachability.{from_root}
use Rattle.naga_compact.specs.Renaming.{Renaming, of_expressions, rename_reference}
use Rattle.naga_compact.specs.Renaming.Declarations.{rename_local_variable}
use Rattle.naga_compact.specs.derived.Renaming.{rename_expression, rename_statement}
use Rattle.naga_compact.specs.Renaming.Functions.{IsRenamedFunction, map_values}
use Rattle.naga_compact.specs.Renaming.Renumbering.{renaming_of}
use Rattle.naga_compact.specs.Renaming.Blocks.{rename_tree}
use Rattle.naga_compact.specs.declared.module.renumbering.ModuleRenumbering.{ModuleRenumbering}
use Rattle.naga_compact.proofs.RangeKeptLemmas.{range_kept}
use Rattle.naga_compact.proofs.RankLemmas.{rank-grows, rank-increases, rank-injective}
use Rattle.naga_compact.proofs.derived_lemmas.RenamedVariantsLemmas.{references_of_expression-renamed, references_of_statement-renamed}
use Rattle.naga_meaning.specs.Renames.{AreKept, Renames}
use Rattle.naga_meaning.proofs.Uses.CompactedUsesLemmas.{body-kept, expression-found, operands-kept}
use Rattle.naga_meaning.proofs.Uses.ReadsLemmas.{Renames-of}
use Rattle.naga_meaning.proofs.Uses.RenamesLemmas.{emitted_by-moved, result_of-renamed, split, used_by-moved, without-kept}
use Rattle.naga_meaning.specs.Readings.{ReadsAlike, read_by}
use Rattle.naga_meaning.specs.Functions.{looked_up, shape_of, parts, code_of, Meanings, initials, meaning, LooksAlike, HasNames, HandlesAreInside}
use Rattle.naga_meaning.specs.Machine.{IfAny, IsIn, NodeIsIn, CasesAreIn}
use Rattle.naga_meaning.specs.Renaming.{Each, IsKept, RenamesCode, RenamesStatement, SameKept}
use Rattle.naga_meaning.proofs.RenamesCodeLemmas.{EachPresent}
use Rattle.naga_meaning.specs.Values.{World, entered, outcome}
use Rattle.naga_meaning.proofs.EachLemmas.{each-contained, each-of_all, operands-before}
use Rattle.naga_meaning.proofs.derived.FormsLemmas.{expression_form-renamed, statement_form-renamed}
use Rattle.naga_meaning.proofs.FormsLemmas.{only_evaluates-renamed}
use Rattle.naga_meaning.proofs.ReadsAlikeLemmas.{renamed-found}
use Rattle.naga_meaning.proofs.RenamesCodeLemmas.{entered-same, outcome-renamed}

module _ (r : Renaming) where
  initials-renamed : (variables : List (LocalVariable × Span)) → initials (map_values (rename_local_variable r) variables) ≡ map (option_map r.expressions) (initials variables)
  initials-renamed [] = refl
  initials-renamed (variable ∷ rest) = ap (λ inits. option_map r.expressions variable.0.init ∷ inits) (initials-renamed rest)

-- ---- lists

each-option : (P : ℕ → Type 0) (first : Option ℕ) (rest : List ℕ) → Each P (cons_option first rest) → IfAny P first × Each P rest
each-option P None rest h = (tt, h)
each-option P (Some x) rest h = (h.0, h.1)

each-present : (P : ℕ → Type 0) (variables : List (LocalVariable × Span)) → Each P (initial_values variables) → EachPresent P (initials variables)
each-present P [] h = tt
each-present P (variable ∷ rest) h =
    let both = each-option P variable.0.init (initial_values rest) h in
    (both.0, each-present P rest both.1)

-- ---- a function of which some expressions are kept, and of which all handles may be renamed

module _ {Thing : Type 0} (look look' : Reference → Thing) (kept : ℕ → Bool) (r : Renaming) (Names : Reference → Type 0) (alike : LooksAlike Names r look look') (old new : Function)
    (at_use at_use' : ℕ → Bool) (reads_alike : ReadsAlike kept r.expressions at_use at_use')
    (found : (x : ℕ) → kept x ≡ true → value_at new.expressions (r.expressions x) ≡ option_map (rename_expression r) (value_at old.expressions x))
    (closed : (x : ℕ) (e : Expression) → kept x ≡ true → value_at old.expressions x ≡ Some e → AreKept kept (operands_of e))
    (grows : (x y : ℕ) → kept x ≡ true → x < y → r.expressions x < r.expressions y)
    (falls : (x y : ℕ) → y ≤ x → r.expressions y ≤ r.expressions x)
    (distinct : (x y : ℕ) → kept x ≡ true → kept y ≡ true → r.expressions x ≡ r.expressions y → x ≡ y)
    (ranges : (range : ℕ × ℕ) → handles_of (r.ranges range) ≡ map r.expressions (filter kept (handles_of range)))
    (precede : OperandsPrecede old.expressions)
    (variables : new.local_variables ≡ map_values (rename_local_variable r) old.local_variables)
    (variables_kept : EachPresent (IsKept kept r.expressions) (initials old.local_variables))
    (body : tree_of new.body ≡ rename_tree r (tree_of old.body))
    (body_kept : AreKept kept (expressions_of (references_of_tree (tree_of old.body))))
    (names : HasNames Names old) where
  abbrev f : ℕ → ℕ
  f = r.expressions

  renames : Renames kept r (expressions_in old.expressions) (expressions_in new.expressions)
  renames = Renames-of kept r old.expressions new.expressions found closed grows falls distinct ranges

  -- ---- names

  all-looked_up : (xs : List Reference) → All Names xs → map (looked_up look') (map (rename_reference r) xs) ≡ map (looked_up look) xs
  all-looked_up [] h = refl
  all-looked_up (x ∷ xs) h = λ i. alike x (All-head Names x xs h) i ∷ all-looked_up xs (All-tail Names x xs h) i

  -- ---- expressions

  shape-renamed : (e : Expression) → All Names (references_of_expression e) → shape_of look' (rename_expression r e) ≡ shape_of look e
  shape-renamed e h = λ i. (expression_form-renamed r e i, (ap (map (looked_up look')) (references_of_expression-renamed r e) ∙ all-looked_up (references_of_expression e) h) i)

  shape-moved : (x : ℕ) (value : Option Expression) → value_at old.expressions x ≡ value → option_map (shape_of look') (option_map (rename_expression r) value) ≡ option_map (shape_of look) value
  shape-moved x None at = refl
  shape-moved x (Some e) at = ap Some (shape-renamed e (names.expressions x e at))

  code-renamed : RenamesCode kept f (code_of look at_use old.expressions) (code_of look' at_use' new.expressions)
  code-renamed =
      let moves = renames in
      record {
        grows = λ x y so so' before. grows x y so before;
        distinct = distinct;
        shape = λ x so. ap (option_map (shape_of look')) (found x so) ∙ shape-moved x (value_at old.expressions x) refl;
        at_use = reads_alike;
        operands = λ x so. moves.operands x so;
        operands_kept = λ x so. each-of_all (IsKept kept f) (operands_found (value_at old.expressions x)) (moves.operands_kept x so);
        operands_before = λ x so. operands-before old.expressions precede x;
      }

  -- ---- statements

  abbrev Renamed : statement.Statement → Type 0
  Renamed what = RenamesStatement kept f (parts look) (parts look') what (rename_statement r what)

  result-kept : (result : Option ℕ) (xs : List ℕ) → ResultIsNamed result xs → AreKept kept xs → IfAny (IsKept kept f) result
  result-kept None xs named so = tt
  result-kept (Some y) xs named so = All-contains (λ y. kept y ≡ true) xs y so named

  optional-kept : (value : Option ℕ) → AreKept kept (expressions_of (present (value ∷ []))) → IfAny (IsKept kept f) value
  optional-kept None so = tt
  optional-kept (Some value) so = All-head (λ y. kept y ≡ true) value [] so

  statement-renamed : (what : statement.Statement) → AreKept kept (expressions_of (references_of_statement what)) → All Names (references_of_statement what) → Renamed what
  statement-renamed what so named =
      let moves = renames in
      let before = expressions_in old.expressions in
      let behind = expressions_in new.expressions in
      record {
        action = λ i. if only_evaluates-renamed r what i
            then None
            else Some (statement_form-renamed r what i, (ap (map (looked_up look')) (references_of_statement-renamed r what) ∙ all-looked_up (references_of_statement what) named) i);
        emits = emitted_by-moved kept r before behind moves what;
        uses = used_by-moved kept r before behind moves what so;
        uses_kept = each-of_all (IsKept kept f) (used_by what) (without-kept kept r before behind moves (result_of what) (expressions_of (references_of_statement what)) so);
        result = result_of-renamed r what;
        result_kept = result-kept (result_of what) (expressions_of (references_of_statement what)) (result-named what) so;
      }

  all-left : (xs ys : List Reference) → All Names (xs ++ ys) → All Names xs
  all-left [] ys h = λ k d inside. absurd (omega (arith, inside))
  all-left (x ∷ xs) ys h = All-cons Names x xs (All-head Names x (xs ++ ys) h) (all-left xs ys (All-tail Names x (xs ++ ys) h))

  all-right : (xs ys : List Reference) → All Names (xs ++ ys) → All Names ys
  all-right [] ys h = h
  all-right (x ∷ xs) ys h = all-right xs ys (All-tail Names x (xs ++ ys) h)

  abbrev Good : List Reference → Type 0
  Good xs = AreKept kept (expressions_of xs) × All Names xs

  halves : (xs ys : List Reference) → Good (xs ++ ys) → Good xs × Good ys
  halves xs ys so =
      let both = split kept r (expressions_in old.expressions) (expressions_in new.expressions) renames xs ys so.0 in
      ((both.0, all-left xs ys so.1), (both.1, all-right xs ys so.1))

  mutual
    tree-in : (block : Tree) → Good (references_of_tree block) → IsIn Renamed (IsKept kept f) block
    tree-in empty so = tt
    tree-in (push front last span) so =
        let both = halves (references_of_tree front) (references_of_node last) so in
        (tree-in front both.0, node-in last both.1)

    node-in : (node : Node) → Good (references_of_node node) → NodeIsIn Renamed (IsKept kept f) node
    node-in (plain what) so = statement-renamed what so.0 so.1
    node-in (nested inner) so = tree-in inner so
    node-in (branch condition accept reject) so =
        let own = halves (operands (condition ∷ [])) (references_of_tree accept ++ references_of_tree reject) so in
        let both = halves (references_of_tree accept) (references_of_tree reject) own.1 in
        (All-head (λ y. kept y ≡ true) condition [] own.0.0, tree-in accept both.0, tree-in reject both.1)
    node-in (switch selector cases) so =
        let own = halves (operands (selector ∷ [])) (references_of_cases cases) so in
        (All-head (λ y. kept y ≡ true) selector [] own.0.0, cases-in cases own.1)
    node-in (loop body continuing break_if) so =
        let own = halves (present (break_if ∷ [])) (references_of_tree body ++ references_of_tree continuing) so in
        let both = halves (references_of_tree body) (references_of_tree continuing) own.1 in
        (tree-in body both.0, tree-in continuing both.1, optional-kept break_if own.0.0)
    node-in (jump break) so = tt
    node-in (jump continue) so = tt
    node-in (jump kill) so = tt
    node-in (jump (return value)) so = optional-kept value so.0

    cases-in : (cases : Cases) → Good (references_of_cases cases) → CasesAreIn Renamed (IsKept kept f) cases
    cases-in no_cases so = tt
    cases-in (case value body falls_through others) so =
        let both = halves (references_of_tree body) (references_of_cases others) so in
        (tree-in body both.0, cases-in others both.1)

  -- ---- the whole

  meaning-kept : {Value State : Type 0} → (by : Meanings Thing Value State) (turns : ℕ) (a b : World Value State) → SameKept kept f a b → meaning look' by turns (read_by at_use' new) b ≡ meaning look by turns (read_by at_use old) a
  meaning-kept by turns a b same =
      let code = code_of look at_use old.expressions in
      let code' = code_of look' at_use' new.expressions in
      let moved : SameKept kept f (entered by code (initials old.local_variables) a) (entered by code' (map (option_map f) (initials old.local_variables)) b) =
      entered-same (parts look) (parts look') by kept f code code' code-renamed (initials old.local_variables) a b same variables_kept
      in
      (λ i. outcome (parts look') by code' turns (body i) (entered by code' ((ap initials variables ∙ initials-renamed r old.local_variables) i) b))
      ∙ outcome-renamed (parts look) (parts look') by kept f code code' code-renamed (rename_statement r) turns (tree_of old.body)
      (tree-in (tree_of old.body) (body_kept, names.body)) (entered by code (initials old.local_variables) a) (entered by code' (map (option_map f) (initials old.local_variables)) b) moved

-- ---- compacting a function

abbrev pub Anything : Reference → Type 0
Anything name = Unit {0}

pub all-anything : (xs : List Reference) → All Anything xs
all-anything xs = λ k d inside. tt

one-alike : {Thing : Type 0} (look : Reference → Thing) (f : ℕ → ℕ) (name : Reference) → looked_up look (rename_reference (of_expressions f) name) ≡ looked_up look name
one-alike look f (reference.Expression handle) = refl
one-alike look f _ = refl

pub meaning-compacted : {Thing Value State : Type 0} (old new : Function) (kept : BoundedSet) → CompactsFunction old kept new → HandlesAreInside old →
    (at_use at_use' : ℕ → Bool) → ReadsAlike (contains kept.members) (new_index kept) at_use at_use' →
    (look : Reference → Thing) (by : Meanings Thing Value State) (turns : ℕ) (a b : World Value State) → SameKept (contains kept.members) (new_index kept) a b →
    meaning look by turns (read_by at_use' new) b ≡ meaning look by turns (read_by at_use old) a
meaning-compacted old new kept compacts inside at_use at_use' reads_alike look by turns a b same =
    let is_kept : ℕ → Bool = contains kept.members in
    let r : Renaming = of_expressions (new_index kept) in
    meaning-kept look look is_kept r Anything (λ name h. one-alike look (new_index kept) name) old new at_use at_use' reads_alike
    (expression-found old new kept compacts) (operands-kept old new kept compacts)
    (λ x y member before. rank-increases is_kept x y member before) (λ x y behind. rank-grows is_kept y x behind)
    (λ x y member member' equal. rank-injective is_kept x y member member' equal) (range_kept is_kept)
    inside.precede compacts.local_variables
    (each-present (IsKept is_kept (new_index kept)) old.local_variables (each-contained (IsKept is_kept (new_index kept)) (initial_values old.local_variables)
    (λ handle there. (compacts.reached handle).1 (from_root (All-contains (λ handle. handle < length old.expressions) (initial_values old.local_variables) handle inside.variables there, inr (inl there))))))
    compacts.body (body-kept old new kept compacts inside.body) (record { expressions = λ handle e found. all-anything (references_of_expression e); body = all-anything (references_of_tree (tree_of old.body)) })
    by turns a b same

-- ---- renaming the elements of the module

filter-all : (handles : List ℕ) → handles ≡ map (λ handle. handle) (filter (λ _. true) handles)
filter-all [] = refl
filter-all (handle ∷ handles) = ap (λ rest. handle ∷ rest) (filter-all handles)

all-present : (f : ℕ → ℕ) (inits : List (Option ℕ)) → EachPresent (IsKept (λ _. true) f) inits
all-present f [] = tt
all-present f (None ∷ rest) = (tt, all-present f rest)
all-present f (Some handle ∷ rest) = (refl, all-present f rest)

pub meaning-renamed : {Thing Value State : Type 0} (renumbering : ModuleRenumbering) (old new : Function) → IsRenamedFunction (renaming_of renumbering) old new →
    OperandsPrecede old.expressions → (Names : Reference → Type 0) → HasNames Names old → (look look' : Reference → Thing) → LooksAlike Names (renaming_of renumbering) look look' →
    (at_use : ℕ → Bool) (by : Meanings Thing Value State) (turns : ℕ) (start : World Value State) →
    meaning look' by turns (read_by at_use new) start ≡ meaning look by turns (read_by at_use old) start
meaning-renamed renumbering old new is precede Names names look look' alike at_use by turns start =
    let r : Renaming = renaming_of renumbering in
    let every : ℕ → Bool = λ _. true in
    let expressions : new.expressions ≡ map_values (rename_expression r) old.expressions = ap (λ (whole : Function). whole.expressions) is.outside in
    meaning-kept look look' every r Names alike old new at_use at_use (λ x so. refl)
    (λ x so. ap (λ arena. value_at arena x) expressions ∙ renamed-found r old.expressions x) (λ x e so found. λ k d inside. refl)
    (λ x y member before. before) (λ x y behind. behind) (λ x y member member' same. same) (λ range. filter-all (handles_of range))
    precede (ap (λ (whole : Function). whole.local_variables) is.outside) (all-present (λ handle. handle) (initials old.local_variables))
    is.body (λ k d inside. refl) names by turns start start (record { state = refl; values = λ x so. refl })
