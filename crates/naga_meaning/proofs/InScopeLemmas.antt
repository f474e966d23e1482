-- A machine that does the same as another one, on whole blocks, where this depends on what is known at each statement.
use Rattle.std.proofs.Common.{◌≡◌, ◌∙◌, sym, ap, subst, refl, inl, inr, ℕ, zero, suc, Bool, true, false, List, ◌++◌, Option, Some, None}
use Rattle.std.proofs.lemmas.Bool.{or_left}
use Rattle.std.specs.Prelude.{⊤, if◌then◌else◌, not, ◌||◌, option_map}
use Rattle.naga_arena.specs.declared.span.Span.{Span}
use Rattle.naga_kinds.specs.declared.switch.SwitchValue.{SwitchValue}
use Rattle.naga_ir.specs.Tree.{Tree, empty, push, Node, plain, nested, branch, switch, loop, jump, Cases, no_cases, case, break, continue, kill, return}
use Rattle.naga_ir.specs.declared.statement.Statement.{Statement}
use Rattle.naga_runs.specs.Runs.{entered, values}
use Rattle.naga_runs.specs.declared.run.Ending.{Ending}
use Rattle.naga_runs.specs.declared.run.Ending.TheVariants.{Normal, Break, Continue, Return, Kill, Cut}
use Rattle.naga_flow.specs.Results.{evaluated_by}
use Rattle.naga_flow.specs.Tracking.{Includes}
use Rattle.naga_flow.specs.Uses.{certain, may_be_skipped, values_of, values_of_node}
use Rattle.naga_flow.specs.Ways.{either, has_way, may_go_on, ways_of, ways_of_node}
use Rattle.naga_flow.specs.declared.ways.Ways.{Ways}
use Rattle.naga_flow.proofs.CertainLemmas.{certain-Includes}
use Rattle.naga_flow.proofs.IncludesLemmas.{Includes-chain, Includes-itself, Includes-joined, Includes-right, Includes-shifted}
use Rattle.naga_flow.proofs.WaysLemmas.{BlockRuns-has_way, or_right}
use Rattle.naga_compact.specs.Mapping.{map_cases, map_node, map_tree}
use Rattle.naga_compact.specs.Mapping.Runs.{map_ending}
use Rattle.naga_meaning.specs.Machine.{Machine, Done, Stop, killed, cut_off, done, ending_after, Way, goes_on, stays, leaves, in_block, in_turn, in_case, in_loop, by_way, then_by, choose, turns_of, breaks_if, turn_of, does, node_does, cases_do, IfAny}
use Rattle.naga_meaning.specs.InScope.{InScope, NodeInScope, CasesInScope}
use Rattle.naga_meaning.proofs.IsABeginningLemmas.{does-IsABeginning}
use Rattle.naga_meaning.proofs.MatchesLemmas.{Ignores, in_block-mapped, in_case-mapped, in_loop-mapped, in_turn-mapped, values-mapped}

-- ---- what is known after a block

-- by the ending of the block, if these are known before it
abbrev pub after_block : (known : List ℕ) → Tree → Ending → List ℕ
after_block known block Normal = values_of block ++ known
after_block known block Continue = values_of (certain block) ++ known
after_block known block _ = known

-- the same for a block with one more statement, which may be skipped if the block ends with a continue
abbrev pub after_push : (known : List ℕ) (front : Tree) (last : Node) → Ending → List ℕ
after_push known front last Normal = values_of_node last ++ (values_of front ++ known)
after_push known front last Continue = values_of (certain front) ++ known
after_push known front last _ = known

pub keeps-known : (known : List ℕ) (block : Tree) (e : Ending) → Includes (after_block known block e) known
keeps-known known block Normal = Includes-right (values_of block) known Includes-itself
keeps-known known block Continue = Includes-right (values_of (certain block)) known Includes-itself
keeps-known known block _ = Includes-itself

pub block-on : (known : List ℕ) (block : Tree) (e : Ending) → in_block e ≡ goes_on → Includes (after_block known block e) (values_of block ++ known)
block-on known block Normal h = Includes-itself
block-on known block _ h = absurd (cc)

pub block-stays : (known : List ℕ) (front : Tree) (last : Node) (e : Ending) → in_block e ≡ stays → Includes (after_block known front e) (after_push known front last e)
block-stays known front last Normal h = absurd (cc)
block-stays known front last Continue h = Includes-itself
block-stays known front last _ h = Includes-itself

pub block-leaves : (e : Ending) (slipped : Bool) → in_block e ≡ leaves slipped → ⊥
block-leaves Normal slipped h = cc
block-leaves _ slipped h = cc

pub node-pushed : (known : List ℕ) (front : Tree) (last : Node) (e : Ending) → Includes (values_of_node last ++ (values_of front ++ known)) (after_push known front last e)
node-pushed known front last Normal = Includes-itself
node-pushed known front last Continue =
    Includes-right (values_of_node last) (values_of front ++ known) (Includes-joined (values_of (certain front)) (values_of front) known known (certain-Includes front) Includes-itself)
node-pushed known front last _ = Includes-right (values_of_node last) (values_of front ++ known) (Includes-right (values_of front) known Includes-itself)

pub pushed : (known : List ℕ) (front : Tree) (last : Node) (span : Span) (e : Ending) → (e ≡ Continue → may_be_skipped (ways_of front) (ways_of_node last) ≡ true) →
    Includes (after_push known front last e) (after_block known (push front last span) e)
pushed known front last span Normal skipped = Includes-shifted (values_of front) (values_of_node last) known
pushed known front last span Continue skipped =
    subst (λ block. Includes (values_of (certain front) ++ known) (values_of block ++ known))
    (sym (ap (λ t. if t then certain front else push front last span) (skipped refl))) Includes-itself
pushed known front last span _ skipped = Includes-itself

pub turn-on : (known : List ℕ) (block : Tree) (e : Ending) → in_turn e ≡ goes_on → Includes (after_block known block e) (values_of (certain block) ++ known)
turn-on known block Normal h = Includes-joined (values_of (certain block)) (values_of block) known known (certain-Includes block) Includes-itself
turn-on known block Continue h = Includes-itself
turn-on known block _ h = absurd (cc)

-- ---- continues

skipped-by : (falls_off breaks continues : Bool) (last : Ways) →
    (if falls_off then continues || last.continues else continues) ≡ true → (not falls_off || (continues || last.continues)) ≡ true
skipped-by true breaks continues last h = h
skipped-by false breaks continues last h = refl

continues-by : (t : Bool) (front last : Ways) → (if t then record (either front last) { falls_off = last.falls_off } else front).continues
    ≡ (if t then front.continues || last.continues else front.continues)
continues-by true front last = refl
continues-by false front last = refl

stop-has_way : (ways : Ways) (how : Stop) → has_way ways (ending_after (Some how)) ≡ true
stop-has_way ways killed = refl
stop-has_way ways cut_off = refl

-- a block ends in one of its ways
pub does-has_way : {State : Type 0} (machine : Machine State) (n : ℕ) (block : Tree) (state : State) → has_way (ways_of block) (does machine n block state).ending ≡ true
does-has_way machine n block state =
    let left = does-IsABeginning machine n block state in
    elim left.ended [
      | inl by_itself ↦ ap (has_way (ways_of block)) by_itself.1.ending ∙ BlockRuns-has_way left.fits.0
      | inr stopped ↦ ap (has_way (ways_of block)) stopped.ending ∙ stop-has_way (ways_of block) stopped.how
    ]

-- a block that ends with a continue may have skipped its last statement
pub skips : {State : Type 0} (machine : Machine State) (n : ℕ) (front : Tree) (last : Node) (span : Span) (state : State) →
    (does machine n (push front last span) state).ending ≡ Continue → may_be_skipped (ways_of front) (ways_of_node last) ≡ true
skips machine n front last span state is =
    let block : Tree = push front last span in
    let continues : (ways_of block).continues ≡ true = sym (ap (has_way (ways_of block)) is) ∙ does-has_way machine n block state in
    let front_ways : Ways = ways_of front in
    skipped-by front_ways.falls_off front_ways.breaks front_ways.continues (ways_of_node last) (sym (continues-by front_ways.falls_off front_ways (ways_of_node last)) ∙ continues)

pub may_go_on-by : (ways : Ways) (e : Ending) → in_turn e ≡ goes_on → has_way ways e ≡ true → may_go_on ways ≡ true
may_go_on-by ways Normal on has = or_left ways.falls_off ways.continues has
may_go_on-by ways Continue on has = or_right ways.falls_off ways.continues has
may_go_on-by ways _ on has = absurd (cc)

-- ---- what two machines leave

-- `R` relates the states of the machines where these expressions are known, `f` replaces handles, and `V` relates states
-- that are left when the expression with this handle is returned
module _ {A B : Type 0} (R : List ℕ → A → B → Type 0) (fewer : (more less : List ℕ) → Includes more less → (a : A) (b : B) → R more a b → R less a b)
    (f : ℕ → ℕ) (V : ℕ → A → B → Type 0) where
  abbrev pub Returned : Ending → A → B → Type 0
  Returned (Return value) a b = IfAny (λ handle. V handle a b) value
  Returned _ a b = ⊤

  -- the same is left, where this is known by the ending
  pub record Left (known : Ending → List ℕ) (old : Done A) (new : Done B) : Type 0 where
    pub state : R (known old.ending) old.state new.state
    pub ending : new.ending ≡ map_ending f old.ending
    pub slipped : new.slipped ≡ old.slipped
    pub returned : Returned old.ending old.state new.state

  left-done : (known : Ending → List ℕ) (e : Ending) (a : A) (b : B) → R (known e) a b → Returned e a b → Left known (done e a) (done (map_ending f e) b)
  left-done known e a b r v = record { state = r; ending = refl; slipped = refl; returned = v }

  stop-left : (known : List ℕ) (stop : Option Stop) (a : A) (b : B) → R known a b → Left (λ e. known) (done (ending_after stop) a) (done (ending_after stop) b)
  stop-left known None a b r = left-done (λ e. known) Normal a b r tt
  stop-left known (Some killed) a b r = left-done (λ e. known) Kill a b r tt
  stop-left known (Some cut_off) a b r = left-done (λ e. known) Cut a b r tt

  left-fewer : (k l : Ending → List ℕ) (old : Done A) (new : Done B) → Includes (k old.ending) (l old.ending) → Left k old new → Left l old new
  left-fewer k l old new h m = record { state = fewer _ _ h old.state new.state m.state; ending = m.ending; slipped = m.slipped; returned = m.returned }

  by_way-left : (k l : Ending → List ℕ) (way : Way) (old : Done A) (new : Done B) → Left k old new → (next : A → Done A) (next' : B → Done B) →
      (way ≡ goes_on → (a : A) (b : B) → R (k old.ending) a b → Left l (next a) (next' b)) → (way ≡ stays → Includes (k old.ending) (l old.ending)) →
      ((slipped : Bool) → way ≡ leaves slipped → Includes (k old.ending) (l Normal)) → Left l (by_way way old next) (by_way way new next')
  by_way-left k l goes_on old new m next next' on stay leave = on refl old.state new.state m.state
  by_way-left k l stays old new m next next' on stay leave = left-fewer k l old new (stay refl) m
  by_way-left k l (leaves slipped) old new m next next' on stay leave =
      record { state = fewer _ _ (leave slipped refl) old.state new.state m.state; ending = refl; slipped = refl; returned = tt }

  then-left : (k l : Ending → List ℕ) (way : Ending → Way) → Ignores f way → (old : Done A) (new : Done B) → Left k old new → (next : A → Done A) (next' : B → Done B) →
      (way old.ending ≡ goes_on → (a : A) (b : B) → R (k old.ending) a b → Left l (next a) (next' b)) → (way old.ending ≡ stays → Includes (k old.ending) (l old.ending)) →
      ((slipped : Bool) → way old.ending ≡ leaves slipped → Includes (k old.ending) (l Normal)) → Left l (then_by way old next) (then_by way new next')
  then-left k l way same old new m next next' on stay leave =
      subst (λ w. Left l (then_by way old next) (by_way w new next')) (sym (ap way m.ending ∙ same old.ending)) (by_way-left k l (way old.ending) old new m next next' on stay leave)

  chosen-left : (l : Ending → List ℕ) (x : ℕ) (at_no at_yes : A → Done A) (at_no' at_yes' : B → Done B) (a : A) (b : B) → Left l (at_no a) (at_no' b) →
      Left l (at_yes a) (at_yes' b) → Left l (choose x at_no at_yes a) (choose x at_no' at_yes' b)
  chosen-left l zero at_no at_yes at_no' at_yes' a b h k = h
  chosen-left l (suc x) at_no at_yes at_no' at_yes' a b h k = k

  turns-left : (known : List ℕ) (k : ℕ) (turn : A → Done A) (turn' : B → Done B) → ((a : A) (b : B) → R known a b → Left (λ e. known) (turn a) (turn' b)) →
      (a : A) (b : B) → R known a b → Left (λ e. known) (turns_of k turn a) (turns_of k turn' b)
  turns-left known zero turn turn' h a b r = left-done (λ e. known) Cut a b r tt
  turns-left known (suc k) turn turn' h a b r =
      then-left (λ e. known) (λ e. known) in_loop (in_loop-mapped f) (turn a) (turn' b) (h a b r) (turns_of k turn) (turns_of k turn') (λ on. turns-left known k turn turn' h)
      (λ stay. Includes-itself) (λ slipped leave. Includes-itself)

  -- `P` and `Q` judge statements and handles where these expressions are known
  module _ (P : List ℕ → Statement → Type 0) (Q : List ℕ → ℕ → Type 0) (on_plain : Statement → Statement) (old : Machine A) (new : Machine B)
      (performs : (known : List ℕ) (what : Statement) → P known what → (a : A) (b : B) → R known a b → R (evaluated_by what ++ known) (old.perform what a) (new.perform (on_plain what) b))
      (stops : (known : List ℕ) (what : Statement) → P known what → (a : A) (b : B) → R known a b → new.stop (on_plain what) b ≡ old.stop what a)
      (answers : (known : List ℕ) (handle : ℕ) → Q known handle → (a : A) (b : B) → R known a b → new.answer (f handle) b ≡ old.answer handle a)
      (choices : (known : List ℕ) (handle : ℕ) (values : List SwitchValue) → Q known handle → (a : A) (b : B) → R known a b → new.choice (f handle) values b ≡ old.choice handle values a)
      (returns : (known : List ℕ) (handle : ℕ) → Q known handle → (a : A) (b : B) → R known a b → V handle a b) where
    breaks_if-left : (known outside : List ℕ) → Includes known outside → (break_if : Option ℕ) → IfAny (Q known) break_if → (a : A) (b : B) → R known a b →
        Left (λ e. outside) (breaks_if old break_if a) (breaks_if new (option_map f break_if) b)
    breaks_if-left known outside inside None h a b r = left-done (λ e. outside) Normal a b (fewer _ _ inside a b r) tt
    breaks_if-left known outside inside (Some condition) h a b r =
        subst (λ x. Left (λ e. outside) (breaks_if old (Some condition) a) (done (choose x Normal Break) b)) (sym (answers known condition h a b r)) (go (old.answer condition a))
      where
        go : (x : ℕ) → Left (λ e. outside) (done (choose x Normal Break) a) (done (choose x Normal Break) b)
        go zero = left-done (λ e. outside) Normal a b (fewer _ _ inside a b r) tt
        go (suc x) = left-done (λ e. outside) Break a b (fewer _ _ inside a b r) tt

    return-left : (known : List ℕ) (value : Option ℕ) → IfAny (Q known) value → (a : A) (b : B) → R known a b → Returned (Return value) a b
    return-left known None h a b r = tt
    return-left known (Some handle) h a b r = returns known handle h a b r

    -- after a block inside a statement, only what was known before the statement is known
    inside-left : (n : ℕ) (known : List ℕ) (block : Tree) (a : A) (b : B) → Left (after_block known block) (does old n block a) (does new n (map_tree on_plain f block) b) →
        Left (λ e. known) (does old n block a) (does new n (map_tree on_plain f block) b)
    inside-left n known block a b m =
        left-fewer (after_block known block) (λ e. known) (does old n block a) (does new n (map_tree on_plain f block) b) (keeps-known known block (does old n block a).ending) m

    -- the same is left by two blocks, if these are known before them
    abbrev Alike : (n : ℕ) (known : List ℕ) → Tree → Type 0
    Alike n known block = (a : A) (b : B) → R known a b → Left (after_block known block) (does old n block a) (does new n (map_tree on_plain f block) b)

    -- the continuing block and the break condition, where these are known before them; after the turn only what is outside
    -- the loop is known
    rest-left : (n : ℕ) (known within : List ℕ) → Includes within known → (continuing : Tree) (break_if : Option ℕ) → Alike n within continuing →
        IfAny (Q (values_of (certain continuing) ++ within)) break_if → (a : A) (b : B) → R within a b →
        Left (λ e. known) (then_by in_turn (does old n continuing a) (breaks_if old break_if))
        (then_by in_turn (does new n (map_tree on_plain f continuing) b) (breaks_if new (option_map f break_if)))
    rest-left n known within inside continuing break_if h q a b r =
        let left = does old n continuing a in
        let at_end : List ℕ = values_of (certain continuing) ++ within in
        let outside : Includes (after_block within continuing left.ending) known = Includes-chain (keeps-known within continuing left.ending) inside in
        then-left (after_block within continuing) (λ e. known) in_turn (in_turn-mapped f) left (does new n (map_tree on_plain f continuing) b) (h a b r)
        (breaks_if old break_if) (breaks_if new (option_map f break_if))
        (λ on x y t. breaks_if-left at_end known (Includes-chain (Includes-right (values_of (certain continuing)) within Includes-itself) inside) break_if q x y
        (fewer _ _ (turn-on within continuing left.ending on) x y t))
        (λ stay. outside) (λ slipped leave. outside)

    turn-left : (n : ℕ) (known : List ℕ) (body continuing : Tree) (break_if : Option ℕ) → Alike n known body →
        (may_go_on (ways_of body) ≡ true → Alike n (values_of (certain body) ++ known) continuing) →
        (may_go_on (ways_of body) ≡ true → IfAny (Q (values_of (certain continuing) ++ (values_of (certain body) ++ known))) break_if) → (a : A) (b : B) → R known a b →
        Left (λ e. known) (turn_of old (does old n body) (does old n continuing) break_if a)
        (turn_of new (does new n (map_tree on_plain f body)) (does new n (map_tree on_plain f continuing)) (option_map f break_if) b)
    turn-left n known body continuing break_if h h' q a b r =
        let left = does old n body a in
        let within : List ℕ = values_of (certain body) ++ known in
        let reached : in_turn left.ending ≡ goes_on → may_go_on (ways_of body) ≡ true = λ on. may_go_on-by (ways_of body) left.ending on (does-has_way old n body a) in
        then-left (after_block known body) (λ e. known) in_turn (in_turn-mapped f) left (does new n (map_tree on_plain f body) b) (h a b r)
        (λ x. then_by in_turn (does old n continuing x) (breaks_if old break_if))
        (λ y. then_by in_turn (does new n (map_tree on_plain f continuing) y) (breaks_if new (option_map f break_if)))
        (λ on x y t. rest-left n known within (Includes-right (values_of (certain body)) known Includes-itself) continuing break_if (h' (reached on)) (q (reached on)) x y
        (fewer _ _ (turn-on known body left.ending on) x y t))
        (λ stay. keeps-known known body left.ending) (λ slipped leave. keeps-known known body left.ending)

    mutual
      pub does-left : (n : ℕ) (known : List ℕ) (block : Tree) → InScope P Q known block → (a : A) (b : B) → R known a b →
          Left (after_block known block) (does old n block a) (does new n (map_tree on_plain f block) b)
      does-left n known empty h a b r = left-done (after_block known empty) Normal a b r tt
      does-left n known (push front last span) h a b r =
          let before = does old n front a in
          let both = does old n (push front last span) a in
          left-fewer (after_push known front last) (after_block known (push front last span)) both (does new n (map_tree on_plain f (push front last span)) b)
          (pushed known front last span both.ending (λ continues. skips old n front last span a continues))
          (then-left (after_block known front) (after_push known front last) in_block (in_block-mapped f) before (does new n (map_tree on_plain f front) b) (does-left n known front h.0 a b r)
          (node_does old n last) (node_does new n (map_node on_plain f last))
          (λ on x y t. left-fewer (λ e. values_of_node last ++ (values_of front ++ known)) (after_push known front last) (node_does old n last x) (node_does new n (map_node on_plain f last) y)
          (node-pushed known front last (node_does old n last x).ending)
          (node-left n (values_of front ++ known) last h.1 x y (fewer _ _ (block-on known front before.ending on) x y t)))
          (block-stays known front last before.ending) (λ slipped leave. absurd (block-leaves before.ending slipped leave)))

      node-left : (n : ℕ) (known : List ℕ) (node : Node) → NodeInScope P Q known node → (a : A) (b : B) → R known a b →
          Left (λ e. values_of_node node ++ known) (node_does old n node a) (node_does new n (map_node on_plain f node) b)
      node-left n known (plain what) h a b r =
          subst (λ stop. Left (λ e. evaluated_by what ++ known) (node_does old n (plain what) a) (done (ending_after stop) (new.perform (on_plain what) b)))
          (sym (stops known what h a b r))
          (stop-left (evaluated_by what ++ known) (old.stop what a) (old.perform what a) (new.perform (on_plain what) b) (performs known what h a b r))
      node-left n known (nested inner) h a b r = inside-left n known inner a b (does-left n known inner h a b r)
      node-left n known (branch condition accept reject) h a b r =
          subst (λ x. Left (λ e. known) (node_does old n (branch condition accept reject) a) (choose x (does new n (map_tree on_plain f reject)) (does new n (map_tree on_plain f accept)) b))
          (sym (answers known condition h.0 a b r))
          (chosen-left (λ e. known) (old.answer condition a) (does old n reject) (does old n accept) (does new n (map_tree on_plain f reject)) (does new n (map_tree on_plain f accept)) a b
          (inside-left n known reject a b (does-left n known reject h.2 a b r)) (inside-left n known accept a b (does-left n known accept h.1 a b r)))
      node-left n known (switch selector cases) h a b r =
          subst (λ x. Left (λ e. known) (node_does old n (switch selector cases) a) (cases_do new n (map_cases on_plain f cases) (entered (values (map_cases on_plain f cases)) x) b))
          (sym (choices known selector (values (map_cases on_plain f cases)) h.0 a b r))
          (subst (λ vs. Left (λ e. known) (node_does old n (switch selector cases) a) (cases_do new n (map_cases on_plain f cases) (entered vs (old.choice selector vs a)) b))
          (sym (values-mapped on_plain f cases))
          (cases-left n known cases h.1 (entered (values cases) (old.choice selector (values cases) a)) a b r))
      node-left n known (loop body continuing break_if) h a b r =
          turns-left known n (turn_of old (does old n body) (does old n continuing) break_if)
          (turn_of new (does new n (map_tree on_plain f body)) (does new n (map_tree on_plain f continuing)) (option_map f break_if))
          (turn-left n known body continuing break_if (λ x y t. does-left n known body h.0 x y t) (λ reached x y t. does-left n (values_of (certain body) ++ known) continuing (h.1 reached).0 x y t) (λ reached. (h.1 reached).1)) a b r
      node-left n known (jump break) h a b r = left-done (λ e. known) Break a b r tt
      node-left n known (jump continue) h a b r = left-done (λ e. known) Continue a b r tt
      node-left n known (jump kill) h a b r = left-done (λ e. known) Kill a b r tt
      node-left n known (jump (return value)) h a b r = left-done (λ e. known) (Return value) a b r (return-left known value h a b r)

      cases-left : (n : ℕ) (known : List ℕ) (cases : Cases) → CasesInScope P Q known cases → (k : ℕ) (a : A) (b : B) → R known a b →
          Left (λ e. known) (cases_do old n cases k a) (cases_do new n (map_cases on_plain f cases) k b)
      cases-left n known no_cases h k a b r = record { state = r; ending = refl; slipped = refl; returned = tt }
      cases-left n known (case value body through others) h zero a b r =
          then-left (λ e. known) (λ e. known) (in_case through) (in_case-mapped f through) (does old n body a) (does new n (map_tree on_plain f body) b) (inside-left n known body a b (does-left n known body h.0 a b r))
          (cases_do old n others 0) (cases_do new n (map_cases on_plain f others) 0) (λ on. cases-left n known others h.1 0) (λ stay. Includes-itself) (λ slipped leave. Includes-itself)
      cases-left n known (case value body through others) h (suc k) a b r = cases-left n known others h.1 k a b r
