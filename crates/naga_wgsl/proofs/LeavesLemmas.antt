-- The text of a body does what the body does.
use Rattle.std.proofs.Common.{◌≡◌, ◌∙◌, sym, ap, subst, refl, inl, inr, ℕ, zero, suc, Bool, true, false, List, [], ◌∷◌, ◌++◌, map, Option, Some, None, option_to_list, arith}
use Rattle.std.proofs.lemmas.List.Elements.{All-cons, All-head, All-nil, All-tail, Contains-append_cases}
use Rattle.std.specs.List.{Contains, concat}
use Rattle.std.specs.Prelude.{◌⊎◌, All, if◌then◌else◌, nat_eq, option_map}
use Rattle.naga_arena.specs.Arena.{value_at}
use Rattle.naga_arena.specs.declared.span.Span.{Span}
use Rattle.naga_ir.specs.Tree.{Tree, empty, push, Node, plain, nested, branch, switch, loop, jump, break, continue, kill, return, Cases, no_cases, case}
use Rattle.naga_ir.specs.declared.expression.Expression.{Expression}
use Rattle.naga_ir.specs.declared.statement.Statement.{Statement, Emit}
use Rattle.naga_valid.specs.declared.reference.Reference.{Reference}
use Rattle.naga_runs.specs.Runs.{entered, values}
use Rattle.naga_runs.specs.declared.run.Ending.{Ending}
use Rattle.naga_runs.specs.declared.run.Ending.TheVariants.{Normal, Break, Continue, Return, Kill, Cut}
use Rattle.naga_flow.specs.Results.{emitted_by, result_of, used_by}
use Rattle.naga_flow.specs.Scopes.{CasesEvaluatedOnce, EvaluatedOnce, NodeEvaluatedOnce}
use Rattle.naga_flow.specs.Tracking.{Includes}
use Rattle.naga_flow.specs.Uses.{Expressions, expressions_in, IsKnown, MayUse, MayUseEach, OperandsAreKnown, PlainUsesKnown, UsesKnown, NodeUsesKnown, CasesUseKnown, certain, operands_found, values_of, values_of_node, where_reached}
use Rattle.naga_flow.specs.Ways.{may_go_on, ways_of}
use Rattle.naga_flow.specs.declared.evaluation.Evaluation.TheVariants as by_way
use Rattle.naga_flow.proofs.CertainLemmas.{certain-Includes}
use Rattle.naga_flow.proofs.IncludesLemmas.{Contains-one, Includes-chain, Includes-itself, Includes-joined, Includes-right, Includes-shifted}
use Rattle.naga_flow.proofs.UsesKnownLemmas.{MayUseEach-more}
use Rattle.naga_compact.specs.Mapping.Runs.{map_ending}
use Rattle.naga_compact.specs.Operands.{OperandsPrecede}
use Rattle.naga_meaning.specs.Forms.{ExpressionForm, StatementForm}
use Rattle.naga_meaning.specs.Functions.{Meanings, action_of, code_of, parts}
use Rattle.naga_wgsl.specs.Inlining.{named_in, named_within, not_skipped, skipping}
use Rattle.naga_wgsl.specs.Scopes.{Scope}
use Rattle.naga_wgsl.specs.Text.{Text, named, applied, Lines, line, Line, binds, acts, in_braces, branches, switches, loops, breaks, continues, discards, returns, Arms, values_of_arms}
use Rattle.naga_meaning.specs.Machine.{Machine, Done, Stop, killed, cut_off, Way, goes_on, stays, leaves, by_way, then_by, choose, done, ending_after, in_block, in_case, in_loop, in_turn, turns_of, breaks_if, turn_of, does, node_does, cases_do}
use Rattle.naga_wgsl.specs.Lowering as lowering
use Rattle.naga_wgsl.specs.Scopes as scopes
use Rattle.naga_meaning.specs.Values.{Code, Parts, World, put, put_result, value, value_within, emitted_value, emit, acted, machine, outcome, result_of_ending, stopped}
use Rattle.naga_meaning.proofs.EachLemmas.{operands-before}
use Rattle.naga_wgsl.proofs.NamedInLemmas.{named-bound}
use Rattle.naga_meaning.proofs.InScopeLemmas.{after_block, after_push, block-leaves, block-on, block-stays, does-has_way, keeps-known, may_go_on-by, node-pushed, pushed, skips, turn-on}
use Rattle.naga_wgsl.proofs.KeptValuesLemmas.{block-kept, turn-kept}
use Rattle.naga_meaning.proofs.RenamesCodeLemmas.{eq-yes}
use Rattle.naga_meaning.proofs.MatchesLemmas.{in_block-mapped, in_case-mapped, in_loop-mapped, in_turn-mapped}

-- ---- lists

all-left : (P : ℕ → Type 0) (xs ys : List ℕ) → All P (xs ++ ys) → All P xs
all-left P [] ys h = All-nil P
all-left P (x ∷ xs) ys h = All-cons P x xs (All-head P x (xs ++ ys) h) (all-left P xs ys (All-tail P x (xs ++ ys) h))

all-right : (P : ℕ → Type 0) (xs ys : List ℕ) → All P (xs ++ ys) → All P ys
all-right P [] ys h = h
all-right P (x ∷ xs) ys h = all-right P xs ys (All-tail P x (xs ++ ys) h)

all-from : (P Q R : ℕ → Type 0) → ((x : ℕ) → P x → Q x → R x) → (xs : List ℕ) → All P xs → All Q xs → All R xs
all-from P Q R h [] p q = All-nil R
all-from P Q R h (x ∷ xs) p q = All-cons R x xs (h x (All-head P x xs p) (All-head Q x xs q)) (all-from P Q R h xs (All-tail P x xs p) (All-tail Q x xs q))

nat_same : (x : ℕ) → nat_eq x x ≡ false → ⊥
nat_same x h = let e : true ≡ false = sym (eq-yes x x refl) ∙ h in cc

-- ---- ways

-- where control does not stay, nothing is returned
abbrev IsQuiet : (Ending → Way) → Type 0
IsQuiet way = (e : Ending) → (way e ≡ stays) ⊎ (result_of_ending e ≡ None)

in_block-quiet : IsQuiet in_block
in_block-quiet (Return value) = inl refl
in_block-quiet _ = inr refl

in_turn-quiet : IsQuiet in_turn
in_turn-quiet (Return value) = inl refl
in_turn-quiet _ = inr refl

in_loop-quiet : IsQuiet in_loop
in_loop-quiet (Return value) = inl refl
in_loop-quiet _ = inr refl

in_case-quiet : (through : Bool) → IsQuiet (in_case through)
in_case-quiet true (Return value) = inl refl
in_case-quiet false (Return value) = inl refl
in_case-quiet true _ = inr refl
in_case-quiet false _ = inr refl

abbrev to_zero : ℕ → ℕ
to_zero x = 0

block-on-normal : (e : Ending) → in_block e ≡ goes_on → e ≡ Normal
block-on-normal Normal h = refl
block-on-normal _ h = absurd (cc)

block-choice : (e : Ending) → (e ≡ Normal) ⊎ (in_block e ≡ stays)
block-choice Normal = inl refl
block-choice _ = inr refl

no_result : {Thing : Type 0} (look : Reference → Thing) (what : Statement) → action_of look what ≡ None → result_of what ≡ None
no_result look (Emit range) is = refl
no_result look _ is = absurd (cc)

module _ {Name Thing Value State : Type 0} (same : Name → Name → Bool) (look : Reference → Thing) (by : Meanings Thing Value State) (arena : List (Expression × Span)) (written : ℕ → Bool)
    (name : ℕ → Name) (distinct : (x y : ℕ) → same (name y) (name x) ≡ nat_eq y x) (precede : OperandsPrecede arena)
    (ready : (x : ℕ) → (expressions_in arena).evaluation x ≡ Some by_way.Ready → written x ≡ true) where
  abbrev code : Code (Option (ExpressionForm × List (Option Thing)))
  code = code_of look written arena

  abbrev ex : Expressions
  ex = named_in written arena

  abbrev M : Machine (World Value State)
  M = machine (skipping written (parts look)) by code

  abbrev S : Type 0
  S = Scope Name Value State

  abbrev W : Type 0
  W = World Value State

  abbrev L : Type 0
  L = Lines Name (Option (ExpressionForm × List (Option Thing))) (StatementForm × List (Option Thing))

  abbrev T : Type 0
  T = Text Name (Option (ExpressionForm × List (Option Thing)))

  abbrev lines_do : ℕ → L → S → Done S
  lines_do = scopes.lines_do same by

  abbrev line_does : ℕ → Line Name (Option (ExpressionForm × List (Option Thing))) (StatementForm × List (Option Thing)) → S → Done S
  line_does = scopes.line_does same by

  abbrev text_value : S → T → Value
  text_value = scopes.text_value same by

  abbrev text_of : ℕ → T
  text_of = lowering.text_of name code

  abbrev lines_of : Tree → L
  lines_of = lowering.lines_of name code (skipping written (parts look))

  -- ---- expressions

  -- the name of the expression has its value
  abbrev Bound : S → W → ℕ → Type 0
  Bound c w y = c.names (name y) ≡ w.values y

  module _ (c : S) (w : W) (state : c.state ≡ w.state) where
    -- the texts of expressions of which each text has its value
    each-within : (k : ℕ) → ((x : ℕ) → All (Bound c w) (named_within written code.operands k x) → text_value c (lowering.text_within name code k x) ≡ value_within by code k w x) → (xs : List ℕ) →
        All (Bound c w) (concat (map (named_within written code.operands k) xs)) →
        scopes.text_values same by c (lowering.each_text name code (lowering.text_within name code k) xs) ≡ map (value_within by code k w) xs
    each-within k one [] h = refl
    each-within k one (x ∷ xs) h =
        let rest : List ℕ = concat (map (named_within written code.operands k) xs) in
        λ i. one x (all-left (Bound c w) (named_within written code.operands k x) rest h) i ∷ each-within k one xs (all-right (Bound c w) (named_within written code.operands k x) rest h) i

    within-text : (k x : ℕ) → All (Bound c w) (named_within written code.operands k x) → text_value c (lowering.text_within name code k x) ≡ value_within by code k w x
    within-text zero x h = All-head (Bound c w) x [] h
    within-text (suc k) x h = go (written x) h (λ y each. within-text k y each)
      where
        go : (t : Bool) → All (Bound c w) (if t then concat (map (named_within written code.operands k) (code.operands x)) else x ∷ []) →
            ((y : ℕ) → All (Bound c w) (named_within written code.operands k y) → text_value c (lowering.text_within name code k y) ≡ value_within by code k w y) →
            text_value c (if t then applied (code.shape x) (lowering.each_text name code (lowering.text_within name code k) (code.operands x)) else named (name x))
            ≡ (if t then by.compute (code.shape x) (map (value_within by code k w) (code.operands x)) w.state else w.values x)
        go true each one = λ i. by.compute (code.shape x) (each-within k one (code.operands x) each i) (state i)
        go false each one = All-head (Bound c w) x [] each

  -- the same state, each known expression that is not written out has the value of its name, and nothing was returned
  record Agrees (known : List ℕ) (c : S) (w : W) : Type 0 where
    state : c.state ≡ w.state
    names : (y : ℕ) → Contains known y → written y ≡ false → Bound c w y
    returned : c.returned ≡ None

  agrees-fewer : (more' less : List ℕ) → Includes more' less → (c : S) (w : W) → Agrees more' c w → Agrees less c w
  agrees-fewer more' less h c w a = record { state = a.state; names = λ y inside is. a.names y (h.each y inside) is; returned = a.returned }

  module _ (known : List ℕ) (c : S) (w : W) (a : Agrees known c w) where
    bound : (y : ℕ) → IsKnown ex known y → written y ≡ false → Bound c w y
    bound y (inl is_ready) is = absurd (let clash : true ≡ false = sym (ready y is_ready) ∙ is in cc)
    bound y (inr inside) is = a.names y inside is

    use-text : (x : ℕ) → MayUse ex known x → text_value c (text_of x) ≡ value by code w x
    use-text x so =
        within-text c w a.state (suc x) x
        (all-from (IsKnown ex known) (λ y. written y ≡ false) (Bound c w) bound (named_within written code.operands (suc x) x) so
        (named-bound written (λ y. operands_found (value_at arena y)) (λ y. operands-before arena precede y) x))

    uses-text : (xs : List ℕ) → MayUseEach ex known xs → scopes.text_values same by c (lowering.each_text name code text_of xs) ≡ map (value by code w) xs
    uses-text [] so = refl
    uses-text (x ∷ xs) so = λ i. use-text x (All-head (MayUse ex known) x xs so) i ∷ uses-text xs (All-tail (MayUse ex known) x xs so) i

    written-text : (x : ℕ) → MayUseEach ex known (code.operands x) → text_value c (lowering.written_out name code x) ≡ emitted_value by code w x
    written-text x so = λ i. by.compute (code.shape x) (uses-text (code.operands x) so i) (a.state i)

    bind-agrees : (x : ℕ) (u v : Value) → u ≡ v → Agrees (x ∷ known) (scopes.bind same by (name x) u c) (put x v w)
    bind-agrees x u v is = record {
      state = a.state;
      names = λ y inside bare. go y inside bare (nat_eq y x) refl;
      returned = a.returned;
    }
      where
        go : (y : ℕ) → Contains (x ∷ known) y → written y ≡ false → (t : Bool) → nat_eq y x ≡ t → (if same (name y) (name x) then u else c.names (name y)) ≡ (if nat_eq y x then v else w.values y)
        go y inside bare true e =
            (λ i. if (distinct x y ∙ e) i then u else c.names (name y)) ∙ is ∙ sym (λ i. if e i then v else w.values y)
        go y inside bare false e =
            let old : Contains known y =
            elim (Contains-append_cases (x ∷ []) known y inside) [ inl here ↦ absurd (let same_one : x ≡ y = Contains-one x y here in let clash : nat_eq x x ≡ false = subst (λ z. nat_eq z x ≡ false) (sym same_one) e in nat_same x clash) | inr there ↦ there ]
            in
            (λ i. if (distinct x y ∙ e) i then u else c.names (name y)) ∙ a.names y old bare ∙ sym (λ i. if e i then v else w.values y)

    skip-agrees : (x : ℕ) → written x ≡ true → Agrees (x ∷ known) c w
    skip-agrees x is = record {
      state = a.state;
      names = λ y inside bare. elim (Contains-append_cases (x ∷ []) known y inside) [
        | inl here ↦ absurd (let clash : true ≡ false = sym is ∙ ap written (Contains-one x y here) ∙ bare in cc)
        | inr there ↦ a.names y there bare
      ];
      returned = a.returned;
    }

  bind_result-agrees : (known : List ℕ) (c : S) (w : W) → Agrees known c w → (result : Option ℕ) (u v : Value) → u ≡ v →
      Agrees (option_to_list result ++ known) (scopes.bind_result same by (option_map name result) u c) (put_result result v w)
  bind_result-agrees known c w a None u v is = a
  bind_result-agrees known c w a (Some x) u v is = bind-agrees known c w a x u v is

  -- ---- what is left

  -- what the lines leave is what the block leaves, where this is known by the ending
  record Left (known : Ending → List ℕ) (new : Done S) (old : Done W) : Type 0 where
    state : new.state.state ≡ old.state.state
    names : (y : ℕ) → Contains (known old.ending) y → written y ≡ false → Bound new.state old.state y
    ending : new.ending ≡ map_ending to_zero old.ending
    returned : new.state.returned ≡ option_map (value by code old.state) (result_of_ending old.ending)

  left-fewer : (k l : Ending → List ℕ) (new : Done S) (old : Done W) → Includes (k old.ending) (l old.ending) → Left k new old → Left l new old
  left-fewer k l new old h m = record { state = m.state; names = λ y inside bare. m.names y (h.each y inside) bare; ending = m.ending; returned = m.returned }

  left-agrees : (k : Ending → List ℕ) (new : Done S) (old : Done W) → result_of_ending old.ending ≡ None → Left k new old → Agrees (k old.ending) new.state old.state
  left-agrees k new old quiet m = record { state = m.state; names = m.names; returned = m.returned ∙ ap (option_map (value by code old.state)) quiet }

  left-done : (k : Ending → List ℕ) (e : Ending) (c : S) (w : W) → result_of_ending e ≡ None → Agrees (k e) c w → Left k (done (map_ending to_zero e) c) (done e w)
  left-done k e c w quiet a = record { state = a.state; names = a.names; ending = refl; returned = a.returned ∙ sym (ap (option_map (value by code w)) quiet) }

  by_way-left : (k l : Ending → List ℕ) (way : Way) (new : Done S) (old : Done W) → Left k new old → (next' : S → Done S) (next : W → Done W) → (way ≡ stays) ⊎ (result_of_ending old.ending ≡ None) →
      (way ≡ goes_on → (c : S) (w : W) → Agrees (k old.ending) c w → Left l (next' c) (next w)) → (way ≡ stays → Includes (k old.ending) (l old.ending)) →
      ((slipped : Bool) → way ≡ leaves slipped → Includes (k old.ending) (l Normal)) → Left l (by_way way new next') (by_way way old next)
  by_way-left k l goes_on new old m next' next (inl clash) on stay leave = absurd (cc)
  by_way-left k l goes_on new old m next' next (inr quiet) on stay leave = on refl new.state old.state (left-agrees k new old quiet m)
  by_way-left k l stays new old m next' next quiet on stay leave = left-fewer k l new old (stay refl) m
  by_way-left k l (leaves slipped) new old m next' next (inl clash) on stay leave = absurd (cc)
  by_way-left k l (leaves slipped) new old m next' next (inr quiet) on stay leave = record {
    state = m.state;
    names = λ y inside bare. m.names y ((leave slipped refl).each y inside) bare;
    ending = refl;
    returned = m.returned ∙ ap (option_map (value by code old.state)) quiet;
  }

  then-left : (k l : Ending → List ℕ) (way : Ending → Way) → ((e : Ending) → way (map_ending to_zero e) ≡ way e) → IsQuiet way → (new : Done S) (old : Done W) → Left k new old →
      (next' : S → Done S) (next : W → Done W) → (way old.ending ≡ goes_on → (c : S) (w : W) → Agrees (k old.ending) c w → Left l (next' c) (next w)) →
      (way old.ending ≡ stays → Includes (k old.ending) (l old.ending)) → ((slipped : Bool) → way old.ending ≡ leaves slipped → Includes (k old.ending) (l Normal)) →
      Left l (then_by way new next') (then_by way old next)
  then-left k l way ignores quiet new old m next' next on stay leave =
      subst (λ v. Left l (by_way v new next') (then_by way old next)) (sym (ap way m.ending ∙ ignores old.ending))
      (by_way-left k l (way old.ending) new old m next' next (quiet old.ending) on stay leave)

  turns-left : (known : List ℕ) (k : ℕ) (turn' : S → Done S) (turn : W → Done W) → ((c : S) (w : W) → Agrees known c w → Left (λ e. known) (turn' c) (turn w)) →
      (c : S) (w : W) → Agrees known c w → Left (λ e. known) (turns_of k turn' c) (turns_of k turn w)
  turns-left known zero turn' turn h c w a = left-done (λ e. known) Cut c w refl a
  turns-left known (suc k) turn' turn h c w a =
      then-left (λ e. known) (λ e. known) in_loop (in_loop-mapped to_zero) in_loop-quiet (turn' c) (turn w) (h c w a) (turns_of k turn') (turns_of k turn)
      (λ on. turns-left known k turn' turn h) (λ stay. Includes-itself) (λ slipped leave. Includes-itself)

  -- names have their values again after a scope, and the values of what is known have not changed
  back-left : (known : List ℕ) (k : Ending → List ℕ) (c : S) (w : W) → Agrees known c w → (new : Done S) (old : Done W) → Left k new old →
      ((y : ℕ) → Contains known y → old.state.values y ≡ w.values y) → Left (λ e. known) (scopes.back_in same by c new) old
  back-left known k c w a new old m kept =
      record { state = m.state; names = λ y inside bare. a.names y inside bare ∙ sym (kept y inside); ending = m.ending; returned = m.returned }

  breaks_when-left : (known outside : List ℕ) → Includes known outside → (break_if : Option ℕ) → MayUseEach ex known (option_to_list break_if) → (c : S) (w : W) → Agrees known c w →
      Left (λ e. outside) (scopes.breaks_when same by (option_map text_of break_if) c) (breaks_if M break_if w)
  breaks_when-left known outside inside None h c w a = left-done (λ e. outside) Normal c w refl (agrees-fewer known outside inside c w a)
  breaks_when-left known outside inside (Some x) h c w a =
      subst (λ v. Left (λ e. outside) (done (choose (by.decide v) Normal Break) c) (breaks_if M (Some x) w)) (sym (use-text known c w a x (All-head (MayUse ex known) x [] h)))
      (go (by.decide (value by code w x)))
    where
      go : (d : ℕ) → Left (λ e. outside) (done (choose d Normal Break) c) (done (choose d Normal Break) w)
      go zero = left-done (λ e. outside) Normal c w refl (agrees-fewer known outside inside c w a)
      go (suc d) = left-done (λ e. outside) Break c w refl (agrees-fewer known outside inside c w a)

  -- ---- blocks

  -- what the lines of a block leave
  abbrev Alike : (n : ℕ) (known : List ℕ) → Tree → Type 0
  Alike n known block = (c : S) (w : W) → Agrees known c w → Left (after_block known block) (lines_do n (lines_of block) c) (does M n block w)

  rest-left : (n : ℕ) (known within : List ℕ) → Includes within known → (continuing : Tree) (break_if : Option ℕ) → Alike n within continuing →
      MayUseEach ex (values_of (certain continuing) ++ within) (option_to_list break_if) → (c : S) (w : W) → Agrees within c w →
      Left (λ e. known) (then_by in_turn (lines_do n (lines_of continuing) c) (scopes.breaks_when same by (option_map text_of break_if))) (then_by in_turn (does M n continuing w) (breaks_if M break_if))
  rest-left n known within inside continuing break_if h q c w a =
      let left = does M n continuing w in
      let at_end : List ℕ = values_of (certain continuing) ++ within in
      let outside : Includes (after_block within continuing left.ending) known = Includes-chain (keeps-known within continuing left.ending) inside in
      then-left (after_block within continuing) (λ e. known) in_turn (in_turn-mapped to_zero) in_turn-quiet (lines_do n (lines_of continuing) c) left (h c w a)
      (scopes.breaks_when same by (option_map text_of break_if)) (breaks_if M break_if)
      (λ on x y t. breaks_when-left at_end known (Includes-chain (Includes-right (values_of (certain continuing)) within Includes-itself) inside) break_if q x y
      (agrees-fewer (after_block within continuing left.ending) at_end (turn-on within continuing left.ending on) x y t))
      (λ stay. outside) (λ slipped leave. outside)

  turn-left : (n : ℕ) (known : List ℕ) (body continuing : Tree) (break_if : Option ℕ) → Alike n known body →
      (may_go_on (ways_of body) ≡ true → Alike n (values_of (certain body) ++ known) continuing) →
      (may_go_on (ways_of body) ≡ true → MayUseEach ex (values_of (certain continuing) ++ (values_of (certain body) ++ known)) (option_to_list break_if)) → (c : S) (w : W) → Agrees known c w →
      Left (λ e. known)
      (then_by in_turn (lines_do n (lines_of body) c) (λ middle. then_by in_turn (lines_do n (lines_of continuing) middle) (scopes.breaks_when same by (option_map text_of break_if))))
      (turn_of M (does M n body) (does M n continuing) break_if w)
  turn-left n known body continuing break_if h h' q c w a =
      let left = does M n body w in
      let within : List ℕ = values_of (certain body) ++ known in
      let reached : in_turn left.ending ≡ goes_on → may_go_on (ways_of body) ≡ true = λ on. may_go_on-by (ways_of body) left.ending on (does-has_way M n body w) in
      then-left (after_block known body) (λ e. known) in_turn (in_turn-mapped to_zero) in_turn-quiet (lines_do n (lines_of body) c) left (h c w a)
      (λ middle. then_by in_turn (lines_do n (lines_of continuing) middle) (scopes.breaks_when same by (option_map text_of break_if)))
      (λ middle. then_by in_turn (does M n continuing middle) (breaks_if M break_if))
      (λ on x y t. rest-left n known within (Includes-right (values_of (certain body)) known Includes-itself) continuing break_if (h' (reached on)) (q (reached on)) x y
      (agrees-fewer (after_block known body left.ending) within (turn-on known body left.ending on) x y t))
      (λ stay. keeps-known known body left.ending) (λ slipped leave. keeps-known known body left.ending)

  -- one more line after those of a block
  joined : (n : ℕ) (known : List ℕ) (front : Tree) (last : Node) (one : Line Name (Option (ExpressionForm × List (Option Thing))) (StatementForm × List (Option Thing))) (c : S) (w : W) →
      Left (after_block known front) (lines_do n (lines_of front) c) (does M n front w) →
      ((x : S) (y : W) → Agrees (values_of front ++ known) x y → Left (λ e. values_of_node last ++ (values_of front ++ known)) (line_does n one x) (node_does M n last y)) →
      Left (after_push known front last) (then_by in_block (lines_do n (lines_of front) c) (line_does n one)) (then_by in_block (does M n front w) (node_does M n last))
  joined n known front last one c w m h =
      let before = does M n front w in
      then-left (after_block known front) (after_push known front last) in_block (in_block-mapped to_zero) in_block-quiet (lines_do n (lines_of front) c) before m (line_does n one) (node_does M n last)
      (λ on x y t. left-fewer (λ e. values_of_node last ++ (values_of front ++ known)) (after_push known front last) (line_does n one x) (node_does M n last y)
      (node-pushed known front last (node_does M n last y).ending)
      (h x y (agrees-fewer (after_block known front before.ending) (values_of front ++ known) (block-on known front before.ending on) x y t)))
      (block-stays known front last before.ending) (λ slipped leave. absurd (block-leaves before.ending slipped leave))

  -- ---- plain statements

  abbrev parts' : Parts (StatementForm × List (Option Thing))
  parts' = skipping written (parts look)

  abbrev One : Type 0
  One = Line Name (Option (ExpressionForm × List (Option Thing))) (StatementForm × List (Option Thing))

  after-stay : (n : ℕ) (F : L) (one : One) (c : S) → in_block (lines_do n F c).ending ≡ stays → lines_do n (line F one) c ≡ lines_do n F c
  after-stay n F one c is = ap (λ way. by_way way (lines_do n F c) (line_does n one)) is

  after-on : (n : ℕ) (F : L) (one : One) (c : S) → (lines_do n F c).ending ≡ Normal → lines_do n (line F one) c ≡ line_does n one (lines_do n F c).state
  after-on n F one c is = ap (λ e. by_way (in_block e) (lines_do n F c) (line_does n one)) is

  abbrev with_emits : L → List ℕ → L
  with_emits = lowering.with_emits name code parts'

  emits-stay : (n : ℕ) (xs : List ℕ) (F : L) (c : S) → in_block (lines_do n F c).ending ≡ stays → lines_do n (with_emits F xs) c ≡ lines_do n F c
  emits-stay n [] F c is = refl
  emits-stay n (x ∷ xs) F c is =
      let one : One = binds (name x) (lowering.written_out name code x) in
      let same_one : lines_do n (line F one) c ≡ lines_do n F c = after-stay n F one c is in
      emits-stay n xs (line F one) c (ap (λ (left : Done S). in_block left.ending) same_one ∙ is) ∙ same_one

  abbrev Emitted : (n : ℕ) (xs known : List ℕ) (F : L) (c : S) (w : W) → Type 0
  Emitted n xs known F c w = ((lines_do n F c).ending ≡ Normal) × Agrees known (lines_do n F c).state w

  emits-on : (n : ℕ) (xs known : List ℕ) (F : L) (c : S) (w : W) → (lines_do n F c).ending ≡ Normal → Agrees known (lines_do n F c).state w → OperandsAreKnown ex known xs →
      Emitted n xs (xs ++ known) (with_emits F (not_skipped written xs)) c (emit by code (not_skipped written xs) w)
  emits-on n [] known F c w is a so = (is, a)
  emits-on n (x ∷ xs) known F c w is a so = go (written x) refl (λ G v is' a'. emits-on n xs (x ∷ known) G c v is' a' so.1)
    where
      go : (t : Bool) → written x ≡ t →
          ((G : L) (v : W) → (lines_do n G c).ending ≡ Normal → Agrees (x ∷ known) (lines_do n G c).state v →
          Emitted n xs (xs ++ (x ∷ known)) (with_emits G (not_skipped written xs)) c (emit by code (not_skipped written xs) v)) →
          Emitted n (x ∷ xs) ((x ∷ xs) ++ known) (with_emits F (if t then not_skipped written xs else x ∷ not_skipped written xs)) c
          (emit by code (if t then not_skipped written xs else x ∷ not_skipped written xs) w)
      go true skip later =
          let r = later F w is (skip-agrees known (lines_do n F c).state w a x skip) in
          (r.0, agrees-fewer (xs ++ (x ∷ known)) ((x ∷ xs) ++ known) (Includes-shifted (x ∷ []) xs known) (lines_do n (with_emits F (not_skipped written xs)) c).state (emit by code (not_skipped written xs) w) r.1)
      go false bare later =
          let one : One = binds (name x) (lowering.written_out name code x) in
          let st : S = (lines_do n F c).state in
          let next : W = put x (emitted_value by code w x) w in
          let left : lines_do n (line F one) c ≡ line_does n one st = after-on n F one c is in
          let agrees : Agrees (x ∷ known) (line_does n one st).state next =
          bind-agrees known st w a x (text_value st (lowering.written_out name code x)) (emitted_value by code w x) (written-text known st w a x so.0)
          in
          let r = later (line F one) next (ap (λ (l : Done S). l.ending) left) (subst (λ (l : Done S). Agrees (x ∷ known) l.state next) (sym left) agrees) in
          (r.0, agrees-fewer (xs ++ (x ∷ known)) ((x ∷ xs) ++ known) (Includes-shifted (x ∷ []) xs known) (lines_do n (with_emits (line F one) (not_skipped written xs)) c).state (emit by code (not_skipped written xs) next) r.1)

  stop-left : (known : List ℕ) (c : S) (w : W) → Agrees known c w → (stop : Option Stop) → Left (λ e. known) (done (ending_after stop) c) (done (ending_after stop) w)
  stop-left known c w a None = left-done (λ e. known) Normal c w refl a
  stop-left known c w a (Some killed) = left-done (λ e. known) Kill c w refl a
  stop-left known c w a (Some cut_off) = left-done (λ e. known) Cut c w refl a

  abbrev Act : Type 0
  Act = StatementForm × List (Option Thing)

  -- an action on the same values
  acted-left : (known : List ℕ) (c : S) (w : W) → Agrees known c w → (action : Act) (used : List Value) (result : Option ℕ) →
      Left (λ e. option_to_list result ++ known) (scopes.acts_on same by action used (option_map name result) c)
      (done (ending_after (by.stop action used w.state)) (let after = by.perform action used w.state in put_result result after.1 (record w { state = after.0 })))
  acted-left known c w a action used result =
      let after = by.perform action used w.state in
      let after' = by.perform action used c.state in
      let same_after : after' ≡ after = ap (by.perform action used) a.state in
      let begun : Agrees known (record c { state = after'.0 }) (record w { state = after.0 }) = record { state = ap (λ x. x.0) same_after; names = a.names; returned = a.returned } in
      let agrees : Agrees (option_to_list result ++ known) (scopes.bind_result same by (option_map name result) after'.1 (record c { state = after'.0 })) (put_result result after.1 (record w { state = after.0 })) =
      bind_result-agrees known (record c { state = after'.0 }) (record w { state = after.0 }) begun result after'.1 after.1 (ap (λ x. x.1) same_after)
      in
      subst (λ stop. Left (λ e. option_to_list result ++ known) (done (ending_after stop) (scopes.bind_result same by (option_map name result) after'.1 (record c { state = after'.0 })))
      (done (ending_after (by.stop action used w.state)) (put_result result after.1 (record w { state = after.0 })))) (sym (ap (by.stop action used) a.state))
      (stop-left (option_to_list result ++ known) (scopes.bind_result same by (option_map name result) after'.1 (record c { state = after'.0 })) (put_result result after.1 (record w { state = after.0 })) agrees (by.stop action used w.state))

  abbrev with_action : L → Option Act → List ℕ → Option ℕ → L
  with_action = lowering.with_action name code parts'

  acts-left : (n : ℕ) (known : List ℕ) (G : L) (c : S) (w : W) (action : Option Act) (uses : List ℕ) (result : Option ℕ) → (action ≡ None → result ≡ None) → (lines_do n G c).ending ≡ Normal →
      Agrees known (lines_do n G c).state w → MayUseEach ex known uses →
      Left (λ e. option_to_list result ++ known) (lines_do n (with_action G action uses result) c) (done (ending_after (stopped by code action uses w)) (acted by code action uses result w))
  acts-left n known G c w None uses result none is a so =
      record { state = a.state; names = λ y inside bare. a.names y (subst (λ r. Contains (option_to_list r ++ known) y) (none refl) inside) bare; ending = is; returned = a.returned }
  acts-left n known G c w (Some action) uses result none is a so =
      let st : S = (lines_do n G c).state in
      let one : One = acts action (lowering.each_text name code text_of uses) (option_map name result) in
      let used : List Value = map (value by code w) uses in
      let left : lines_do n (line G one) c ≡ scopes.acts_on same by action used (option_map name result) st =
      after-on n G one c is ∙ ap (λ values. scopes.acts_on same by action values (option_map name result) st) (uses-text known st w a uses so)
      in
      subst (λ l. Left (λ e. option_to_list result ++ known) l (done (ending_after (by.stop action used w.state)) (acted by code (Some action) uses result w))) (sym left) (acted-left known st w a action used result)

  action-stay : (n : ℕ) (G : L) (c : S) (action : Option Act) (uses : List ℕ) (result : Option ℕ) → in_block (lines_do n G c).ending ≡ stays → lines_do n (with_action G action uses result) c ≡ lines_do n G c
  action-stay n G c None uses result is = refl
  action-stay n G c (Some action) uses result is = after-stay n G (acts action (lowering.each_text name code text_of uses) (option_map name result)) c is

  plain-left : (n : ℕ) (known : List ℕ) (front : Tree) (what : Statement) (c : S) (w : W) → Left (after_block known front) (lines_do n (lines_of front) c) (does M n front w) →
      PlainUsesKnown ex (values_of front ++ known) what →
      Left (after_push known front (plain what)) (lines_do n (lowering.with_line name code parts' (lines_of front) (plain what)) c) (then_by in_block (does M n front w) (node_does M n (plain what)))
  plain-left n known front what c w m h =
      let before : Done W = does M n front w in
      let F : L = lines_of front in
      let emits : List ℕ = not_skipped written (emitted_by what) in
      let G : L = with_emits F emits in
      let whole : L = with_action G (action_of look what) (used_by what) (result_of what) in
      elim (block-choice before.ending) [
        | inl normal ↦
            let inside : List ℕ = values_of front ++ known in
            let on : in_block before.ending ≡ goes_on = ap in_block normal in
            let a : Agrees inside (lines_do n F c).state before.state =
            agrees-fewer (after_block known front before.ending) inside (block-on known front before.ending on) (lines_do n F c).state before.state
            (left-agrees (after_block known front) (lines_do n F c) before (ap result_of_ending normal) m)
            in
            let emitted = emits-on n (emitted_by what) inside F c before.state (m.ending ∙ ap (map_ending to_zero) normal) a h.operands in
            let left = acts-left n (emitted_by what ++ inside) G c (emit by code emits before.state) (action_of look what) (used_by what) (result_of what) (no_result look what) emitted.0 emitted.1
            (MayUseEach-more ex (Includes-right (emitted_by what) inside Includes-itself) (used_by what) h.used)
            in
            subst (λ old. Left (after_push known front (plain what)) (lines_do n whole c) old) (sym (ap (λ way. by_way way before (node_does M n (plain what))) on))
            (left-fewer (λ e. option_to_list (result_of what) ++ (emitted_by what ++ inside)) (after_push known front (plain what)) (lines_do n whole c) (node_does M n (plain what) before.state)
            (Includes-chain (Includes-shifted (emitted_by what) (option_to_list (result_of what)) inside) (node-pushed known front (plain what) (node_does M n (plain what) before.state).ending)) left)
        | inr stay ↦
            let stay' : in_block (lines_do n F c).ending ≡ stays = ap in_block m.ending ∙ in_block-mapped to_zero before.ending ∙ stay in
            let first : lines_do n G c ≡ lines_do n F c = emits-stay n emits F c stay' in
            let both : lines_do n whole c ≡ lines_do n F c =
            action-stay n G c (action_of look what) (used_by what) (result_of what) (ap (λ (left : Done S). in_block left.ending) first ∙ stay') ∙ first
            in
            subst (λ old. Left (after_push known front (plain what)) (lines_do n whole c) old) (sym (ap (λ way. by_way way before (node_does M n (plain what))) stay))
            (subst (λ new. Left (after_push known front (plain what)) new before) (sym both)
            (left-fewer (after_block known front) (after_push known front (plain what)) (lines_do n F c) before (block-stays known front (plain what) before.ending stay) m))
      ]

  -- ---- statements with blocks

  inner-left : (n : ℕ) (known scope : List ℕ) → Includes scope known → (inner : Tree) → EvaluatedOnce scope inner → Alike n known inner → (c : S) (w : W) → Agrees known c w →
      Left (λ e. known) (scopes.back_in same by c (lines_do n (lines_of inner) c)) (does M n inner w)
  inner-left n known scope inside inner once h c w a =
      back-left known (after_block known inner) c w a (lines_do n (lines_of inner) c) (does M n inner w) (h c w a)
      (λ y there. block-kept look by arena written y (w.values y) n inner scope once (inside.each y there) w refl)

  branch-left : (n : ℕ) (known scope : List ℕ) → Includes scope known → (condition : ℕ) (accept reject : Tree) → MayUse ex known condition → EvaluatedOnce scope accept → EvaluatedOnce scope reject →
      Alike n known accept → Alike n known reject → (c : S) (w : W) → Agrees known c w →
      Left (λ e. known) (line_does n (branches (text_of condition) (lines_of accept) (lines_of reject)) c) (node_does M n (branch condition accept reject) w)
  branch-left n known scope inside condition accept reject so once once' h h' c w a =
      subst (λ v. Left (λ e. known) (scopes.back_in same by c (choose (by.decide v) (lines_do n (lines_of reject)) (lines_do n (lines_of accept)) c)) (node_does M n (branch condition accept reject) w))
      (sym (use-text known c w a condition so)) (go (by.decide (value by code w condition)))
    where
      go : (d : ℕ) → Left (λ e. known) (scopes.back_in same by c (choose d (lines_do n (lines_of reject)) (lines_do n (lines_of accept)) c)) (choose d (does M n reject) (does M n accept) w)
      go zero = inner-left n known scope inside reject once' h' c w a
      go (suc d) = inner-left n known scope inside accept once h c w a

  loop-left : (n : ℕ) (known scope : List ℕ) → Includes scope known → (body continuing : Tree) (break_if : Option ℕ) → EvaluatedOnce scope body → EvaluatedOnce (values_of body ++ scope) continuing →
      Alike n known body → (may_go_on (ways_of body) ≡ true → Alike n (values_of (certain body) ++ known) continuing) →
      (may_go_on (ways_of body) ≡ true → MayUseEach ex (values_of (certain continuing) ++ (values_of (certain body) ++ known)) (option_to_list break_if)) → (c : S) (w : W) → Agrees known c w →
      Left (λ e. known) (line_does n (loops (lines_of body) (lines_of continuing) (option_map text_of break_if)) c) (node_does M n (loop body continuing break_if) w)
  loop-left n known scope inside body continuing break_if once once' h h' q c w a =
      turns-left known n (scopes.text_turn same by (lines_do n (lines_of body)) (lines_do n (lines_of continuing)) (option_map text_of break_if)) (turn_of M (does M n body) (does M n continuing) break_if)
      (λ x y t.
      back-left known (λ e. known) x y t
      (then_by in_turn (lines_do n (lines_of body) x) (λ middle. then_by in_turn (lines_do n (lines_of continuing) middle) (scopes.breaks_when same by (option_map text_of break_if))))
      (turn_of M (does M n body) (does M n continuing) break_if y) (turn-left n known body continuing break_if h h' q x y t)
      (λ z there. turn-kept look by arena written z (y.values z) n body continuing break_if scope once once' (inside.each z there) y refl)) c w a

  abbrev arms_of : Cases → Arms Name (Option (ExpressionForm × List (Option Thing))) (StatementForm × List (Option Thing))
  arms_of = lowering.arms_of name code parts'

  arms-values : (cases : Cases) → values_of_arms (arms_of cases) ≡ values cases
  arms-values no_cases = refl
  arms-values (case value' body falls_through others) = λ i. value' ∷ arms-values others i

  return-left : (known : List ℕ) (n : ℕ) (value' : Option ℕ) → MayUseEach ex known (option_to_list value') → (c : S) (w : W) → Agrees known c w →
      Left (λ e. known) (line_does n (returns (option_map text_of value')) c) (node_does M n (jump (return value')) w)
  return-left known n None so c w a = record { state = a.state; names = a.names; ending = refl; returned = refl }
  return-left known n (Some x) so c w a = record { state = a.state; names = a.names; ending = refl; returned = ap Some (use-text known c w a x (All-head (MayUse ex known) x [] so)) }

  mutual
    block-left : (n : ℕ) (known scope : List ℕ) (block : Tree) → Includes scope known → UsesKnown ex known block → EvaluatedOnce scope block → (c : S) (w : W) → Agrees known c w →
        Left (after_block known block) (lines_do n (lines_of block) c) (does M n block w)
    block-left n known scope empty inside uses once c w a = left-done (after_block known empty) Normal c w refl a
    block-left n known scope (push front last span) inside uses once c w a =
        let both : Done W = does M n (push front last span) w in
        left-fewer (after_push known front last) (after_block known (push front last span)) (lines_do n (lines_of (push front last span)) c) both
        (pushed known front last span both.ending (λ skipped. skips M n front last span w skipped))
        (last-left n known scope last front (Includes-joined (values_of front) (values_of front) known scope Includes-itself inside) uses.1 once.1 c w (block-left n known scope front inside uses.0 once.0 c w a))

    last-left : (n : ℕ) (known scope : List ℕ) (last : Node) (front : Tree) → Includes (values_of front ++ scope) (values_of front ++ known) → NodeUsesKnown ex (values_of front ++ known) last →
        NodeEvaluatedOnce (values_of front ++ scope) last → (c : S) (w : W) → Left (after_block known front) (lines_do n (lines_of front) c) (does M n front w) →
        Left (after_push known front last) (lines_do n (lowering.with_line name code parts' (lines_of front) last) c) (then_by in_block (does M n front w) (node_does M n last))
    last-left n known scope (plain what) front inside uses once c w m = plain-left n known front what c w m uses
    last-left n known scope (nested inner) front inside uses once c w m =
        joined n known front (nested inner) (in_braces (lines_of inner)) c w m
        (λ x y t. inner-left n (values_of front ++ known) (values_of front ++ scope) inside inner once (λ u v s. block-left n (values_of front ++ known) (values_of front ++ scope) inner inside uses once u v s) x y t)
    last-left n known scope (branch condition accept reject) front inside uses once c w m =
        joined n known front (branch condition accept reject) (branches (text_of condition) (lines_of accept) (lines_of reject)) c w m
        (λ x y t.
        branch-left n (values_of front ++ known) (values_of front ++ scope) inside condition accept reject uses.0 once.0 once.1
        (λ u v s. block-left n (values_of front ++ known) (values_of front ++ scope) accept inside uses.1 once.0 u v s)
        (λ u v s. block-left n (values_of front ++ known) (values_of front ++ scope) reject inside uses.2 once.1 u v s) x y t)
    last-left n known scope (switch selector cases) front inside uses once c w m =
        joined n known front (switch selector cases) (switches (text_of selector) (arms_of cases)) c w m
        (λ x y t.
        let known_here : List ℕ = values_of front ++ known in
        subst
        (λ v.
        Left (λ e. known_here) (scopes.arms_do same by n (arms_of cases) (entered (values_of_arms (arms_of cases)) (by.choose v (values_of_arms (arms_of cases)))) x)
        (node_does M n (switch selector cases) y))
        (sym (use-text known_here x y t selector uses.0))
        (subst
        (λ vs. Left (λ e. known_here) (scopes.arms_do same by n (arms_of cases) (entered vs (by.choose (value by code y selector) vs)) x) (node_does M n (switch selector cases) y))
        (sym (arms-values cases))
        (cases-left n known_here (values_of front ++ scope) cases inside uses.1 once (entered (values cases) (by.choose (value by code y selector) (values cases))) x y t)))
    last-left n known scope (loop body continuing break_if) front inside uses once c w m =
        joined n known front (loop body continuing break_if) (loops (lines_of body) (lines_of continuing) (option_map text_of break_if)) c w m
        (λ x y t.
        let known_here : List ℕ = values_of front ++ known in
        let scope_here : List ℕ = values_of front ++ scope in
        let within : List ℕ = values_of (certain body) ++ known_here in
        loop-left n known_here scope_here inside body continuing break_if once.0 once.1 (λ u v s. block-left n known_here scope_here body inside uses.0 once.0 u v s)
        (λ reached u v s.
        block-left n within (values_of body ++ scope_here) continuing (Includes-joined (values_of (certain body)) (values_of body) known_here scope_here (certain-Includes body) inside)
        (subst (λ b. UsesKnown (where_reached b ex) within continuing) reached uses.1) once.1 u v s)
        (λ reached. subst (λ b. MayUseEach (where_reached b ex) (values_of (certain continuing) ++ within) (option_to_list break_if)) reached uses.2) x y t)
    last-left n known scope (jump break) front inside uses once c w m = joined n known front (jump break) breaks c w m (λ x y t. left-done (λ e. values_of front ++ known) Break x y refl t)
    last-left n known scope (jump continue) front inside uses once c w m = joined n known front (jump continue) continues c w m (λ x y t. left-done (λ e. values_of front ++ known) Continue x y refl t)
    last-left n known scope (jump kill) front inside uses once c w m = joined n known front (jump kill) discards c w m (λ x y t. left-done (λ e. values_of front ++ known) Kill x y refl t)
    last-left n known scope (jump (return value')) front inside uses once c w m =
        joined n known front (jump (return value')) (returns (option_map text_of value')) c w m (λ x y t. return-left (values_of front ++ known) n value' uses x y t)

    cases-left : (n : ℕ) (known scope : List ℕ) (cases : Cases) → Includes scope known → CasesUseKnown ex known cases → CasesEvaluatedOnce scope cases → (position : ℕ) (c : S) (w : W) →
        Agrees known c w → Left (λ e. known) (scopes.arms_do same by n (arms_of cases) position c) (cases_do M n cases position w)
    cases-left n known scope no_cases inside uses once position c w a = record { state = a.state; names = a.names; ending = refl; returned = a.returned }
    cases-left n known scope (case value' body falls_through others) inside uses once zero c w a =
        then-left (λ e. known) (λ e. known) (in_case falls_through) (in_case-mapped to_zero falls_through) (in_case-quiet falls_through) (scopes.back_in same by c (lines_do n (lines_of body) c)) (does M n body w)
        (inner-left n known scope inside body once.0 (λ u v s. block-left n known scope body inside uses.0 once.0 u v s) c w a)
        (scopes.arms_do same by n (arms_of others) 0) (cases_do M n others 0) (λ on x y t. cases-left n known scope others inside uses.1 once.1 0 x y t) (λ stay. Includes-itself) (λ slipped leave. Includes-itself)
    cases-left n known scope (case value' body falls_through others) inside uses once (suc position) c w a = cases-left n known scope others inside uses.1 once.1 position c w a

  -- the text of a body leaves what the body does
  pub text-leaves : (body : Tree) → UsesKnown ex [] body → EvaluatedOnce [] body → (turns : ℕ) (names : Name → Value) (start : W) →
      scopes.Leaves same by (scopes.text_does same by turns (lines_of body) names start.state) (outcome parts' by code turns body start)
  text-leaves body uses once turns names start =
      let m = block-left turns [] [] body Includes-itself uses once (record { state = start.state; names = names; returned = None }) start
      (record { state = refl; names = λ y inside bare. absurd (omega (arith, inside.1)); returned = refl })
      in
      record { state = m.state; ending = m.ending; returned = m.returned }
