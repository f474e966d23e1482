-- Runs and mapping: each rule of runs keeps its form under it.
use Rattle.std.proofs.Common.{◌≡◌, ◌∙◌, sym, ap, subst, refl, inl, inr, ℕ, zero, suc, true, List, ◌∷◌, Option}
use Rattle.std.proofs.lemmas.List.{map-append}
use Rattle.std.specs.Prelude.{option_map}
use Rattle.naga_runs.specs.declared.run.Ending.{Ending}
use Rattle.naga_runs.specs.declared.run.Ending.TheVariants.{Normal, Break, Continue, Return, Kill, Cut}
use Rattle.naga_ir.specs.Tree.{Tree, push, Node, jump, Cases, no_cases, case, Jump, break, continue, kill, return}
use Rattle.naga_runs.specs.Runs.{Run, quiet, joined, ending_of, GoesOn, values, from, entered, Asks, not_asked, unanswered, says_no, says_yes}
use Rattle.naga_runs.specs.Runs.{BlockRuns, nothing, goes_on, stops, StatementRuns, meets, jumps, enters, undecided, rejects, accepts, unselected, selects, loops}
use Rattle.naga_runs.specs.Runs.{CasesRun, past, falls, broken, ends, passed_on, LoopRuns, no_turn, again, left, over, TurnRuns, in_body, in_continuing, whole}
use Rattle.naga_ir.specs.declared.statement.Statement.{Statement}
use Rattle.naga_compact.specs.Mapping.{map_cases, map_jump, map_node, map_tree}
use Rattle.naga_compact.specs.Mapping.Runs.{MappedRunsFit, map_ending, map_run}

-- ---- endings

normal_before : (f : ℕ → ℕ) (e : Ending) → map_ending f e ≡ Normal → e ≡ Normal
normal_before f Normal h = refl
normal_before f Break h = cc
normal_before f Continue h = cc
normal_before f (Return value) h = cc
normal_before f Kill h = cc
normal_before f Cut h = cc

break_before : (f : ℕ → ℕ) (e : Ending) → map_ending f e ≡ Break → e ≡ Break
break_before f Normal h = cc
break_before f Break h = refl
break_before f Continue h = cc
break_before f (Return value) h = cc
break_before f Kill h = cc
break_before f Cut h = cc

continue_before : (f : ℕ → ℕ) (e : Ending) → map_ending f e ≡ Continue → e ≡ Continue
continue_before f Normal h = cc
continue_before f Break h = cc
continue_before f Continue h = refl
continue_before f (Return value) h = cc
continue_before f Kill h = cc
continue_before f Cut h = cc

goes_on_after : (f : ℕ → ℕ) (e : Ending) → GoesOn e → GoesOn (map_ending f e)
goes_on_after f e (inl h) = inl (ap (map_ending f) h)
goes_on_after f e (inr h) = inr (ap (map_ending f) h)

goes_on_before : (f : ℕ → ℕ) (e : Ending) → GoesOn (map_ending f e) → GoesOn e
goes_on_before f e (inl h) = inl (normal_before f e h)
goes_on_before f e (inr h) = inr (continue_before f e h)

module _ (on_plain : Statement → Statement) (f : ℕ → ℕ) where
  jump_mapped : (to : Jump) → quiet (ending_of (map_jump f to)) ≡ map_run on_plain f (quiet (ending_of to))
  jump_mapped break = refl
  jump_mapped continue = refl
  jump_mapped kill = refl
  jump_mapped (return value) = refl

  -- ---- parts of runs

  -- what holds of two mapped runs, one after the other
  of_joined : (P : Run → Type 0) (p q : Run) → P (joined (map_run on_plain f p) (map_run on_plain f q)) → P (map_run on_plain f (joined p q))
  of_joined P p q d =
      subst (λ trace. P (record (joined (map_run on_plain f p) (map_run on_plain f q)) { trace = trace })) (sym (map-append on_plain p.trace q.trace)) d

  values_mapped : (cases : Cases) → values (map_cases on_plain f cases) ≡ values cases
  values_mapped no_cases = refl
  values_mapped (case value body falls_through others) = ap (λ rest. value ∷ rest) (values_mapped others)

  from_mapped : (position : ℕ) (cases : Cases) → from position (map_cases on_plain f cases) ≡ map_cases on_plain f (from position cases)
  from_mapped zero cases = refl
  from_mapped (suc position) no_cases = refl
  from_mapped (suc position) (case value body falls_through others) = from_mapped position others

  entered_mapped : (answer : ℕ) (cases : Cases) → from (entered (values (map_cases on_plain f cases)) answer) (map_cases on_plain f cases) ≡ map_cases on_plain f (from (entered (values cases) answer) cases)
  entered_mapped answer cases =
      ap (λ vs. from (entered vs answer) (map_cases on_plain f cases)) (values_mapped cases) ∙ from_mapped (entered (values cases) answer) cases

  -- ---- runs

  asks_mapped : {break_if : Option ℕ} {answers : List ℕ} {run : Run} → Asks break_if answers run → Asks (option_map f break_if) answers (map_run on_plain f run)
  asks_mapped not_asked = not_asked
  asks_mapped unanswered = unanswered
  asks_mapped says_no = says_no
  asks_mapped says_yes = says_yes

  mutual
    pub block_mapped : {n : ℕ} {b : Tree} {answers : List ℕ} {run : Run} → BlockRuns n b answers run → BlockRuns n (map_tree on_plain f b) answers (map_run on_plain f run)
    block_mapped nothing = nothing
    block_mapped {n = n} (goes_on {front = b} {last = s} {span = t} {answers = a} {first = p} {second = q} d e k) =
        of_joined (λ r. BlockRuns n (map_tree on_plain f (push b s t)) a r) p q
        (goes_on (block_mapped d) (ap (map_ending f) e) (statement_mapped k))
    block_mapped (stops {run = r} d e) = stops (block_mapped d) (λ h. e (normal_before f r.ending h))

    statement_mapped : {n : ℕ} {s : Node} {answers : List ℕ} {run : Run} → StatementRuns n s answers run → StatementRuns n (map_node on_plain f s) answers (map_run on_plain f run)
    statement_mapped meets = meets
    statement_mapped {n = n} (jumps {to = to} {answers = a}) =
        subst (λ r. StatementRuns n (jump (map_jump f to)) a r) (jump_mapped to) jumps
    statement_mapped (enters d) = enters (block_mapped d)
    statement_mapped undecided = undecided
    statement_mapped (rejects d) = rejects (block_mapped d)
    statement_mapped (accepts d) = accepts (block_mapped d)
    statement_mapped unselected = unselected
    statement_mapped {n = n} (selects {selector = c} {answer = x} {cases = cs} {answers = a} {run = r} d) =
        selects (subst (λ l. CasesRun n l a (map_run on_plain f r)) (sym (entered_mapped x cs)) (cases_mapped d))
    statement_mapped (loops d) = loops (loop_mapped d)

    cases_mapped : {n : ℕ} {cases : Cases} {answers : List ℕ} {run : Run} → CasesRun n cases answers run → CasesRun n (map_cases on_plain f cases) answers (map_run on_plain f run)
    cases_mapped past = past
    cases_mapped {n = n} (falls {value = v} {body = b} {others = cs} {answers = a} {first = p} {second = q} d e k) =
        of_joined (λ r. CasesRun n (map_cases on_plain f (case v b true cs)) a r) p q
        (falls (block_mapped d) (ap (map_ending f) e) (cases_mapped k))
    cases_mapped (broken d e) = broken (block_mapped d) (ap (map_ending f) e)
    cases_mapped (ends {run = r} d e) = ends (block_mapped d) (λ h. e (break_before f r.ending h))
    cases_mapped (passed_on {run = r} d e k) =
        passed_on (block_mapped d) (λ h. e (break_before f r.ending h)) (λ h. k (normal_before f r.ending h))

    loop_mapped : {n others : ℕ} {b c : Tree} {break_if : Option ℕ} {answers : List ℕ} {run : Run} → LoopRuns n others b c break_if answers run → LoopRuns n others (map_tree on_plain f b) (map_tree on_plain f c) (option_map f break_if) answers (map_run on_plain f run)
    loop_mapped no_turn = no_turn
    loop_mapped {n = n} (again {others = o} {body = b} {continuing = c} {break_if = i} {answers = a} {first = p} {second = q} d e k) =
        of_joined (λ r. LoopRuns n (suc o) (map_tree on_plain f b) (map_tree on_plain f c) (option_map f i) a r) p q
        (again (turn_mapped d) (ap (map_ending f) e) (loop_mapped k))
    loop_mapped (left d e) = left (turn_mapped d) (ap (map_ending f) e)
    loop_mapped (over {run = r} d e k) =
        over (turn_mapped d) (λ h. e (break_before f r.ending h)) (λ h. k (normal_before f r.ending h))

    turn_mapped : {n : ℕ} {b c : Tree} {break_if : Option ℕ} {answers : List ℕ} {run : Run} → TurnRuns n b c break_if answers run → TurnRuns n (map_tree on_plain f b) (map_tree on_plain f c) (option_map f break_if) answers (map_run on_plain f run)
    turn_mapped (in_body {run = r} d e) = in_body (block_mapped d) (λ h. e (goes_on_before f r.ending h))
    turn_mapped {n = n} (in_continuing {body = b} {continuing = c} {break_if = i} {answers = a} {first = p} {second = q} d e k h) =
        of_joined (λ r. TurnRuns n (map_tree on_plain f b) (map_tree on_plain f c) (option_map f i) a r) p q
        (in_continuing (block_mapped d) (goes_on_after f p.ending e) (block_mapped k) (λ g. h (goes_on_before f q.ending g)))
    turn_mapped {n = n} (whole {body = b} {continuing = c} {break_if = i} {answers = a} {first = p} {second = q} {third = t} d e k h asks) =
        of_joined (λ r. TurnRuns n (map_tree on_plain f b) (map_tree on_plain f c) (option_map f i) a r) p (joined q t)
        (of_joined (λ r. TurnRuns n (map_tree on_plain f b) (map_tree on_plain f c) (option_map f i) a (joined (map_run on_plain f p) r)) q t
        (whole (block_mapped d) (goes_on_after f p.ending e) (block_mapped k) (goes_on_after f q.ending h) (asks_mapped asks)))

  pub map_tree-MappedRunsFit : (block : Tree) → MappedRunsFit on_plain f block (map_tree on_plain f block)
  map_tree-MappedRunsFit block turns answers run d = block_mapped d
