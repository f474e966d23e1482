-- Walks by one statement: a plain one, a jump, or one with blocks inside.
use Rattle.std.proofs.Common.{◌≡◌, ◌≢◌, ℕ, zero, suc, true, false, List, [], ◌∷◌, ◌++◌, length, Option, refl, sym, ◌∙◌, ap, subst, arith}
use Rattle.std.proofs.lemmas.List.{map_push}
use Rattle.std.specs.Borrow.{Bor}
use Rattle.std.specs.Prelude.{Result}
use Rattle.std.specs.declared.alloc.AllocError.{AllocError}
use Rattle.naga_ir.specs.Tree.{is_plain, Tree, Node, plain, nested, branch, switch, loop, Jump, jump, Cases}
use Rattle.naga_ir.specs.View.{node_of}
use Rattle.naga_ir.specs.declared.statement.Statement.{Statement}
use Rattle.naga_ir.proofs.NodeOfLemmas.{node_of-plain}
use Rattle.naga_runs.specs.Replay.{met}
use Rattle.naga_runs.specs.Replay.Walking.{Walked, WalksBy}
use Rattle.naga_runs.specs.Runs.{Run, quiet, meeting, answered, BlockRuns, ending_of, values, entered, from, StatementRuns, meets, jumps, enters, rejects, accepts, selects, loops, CasesRun, LoopRuns}
use Rattle.naga_runs.specs.declared.walk.Stop.{Stop}
use Rattle.naga_runs.specs.declared.walk.Walk.{Walk}
use Rattle.naga_runs.proofs.WalkedLemmas.{normally, Walked-quiet, Walked-by_part}
use Rattle.naga_runs.proofs.WalksByLemmas.{WalksBy-by_part, WalksBy-answered}

-- ---- a plain statement

StatementRuns-plain : (turns : ℕ) (old new : Walk) (s : Bor Statement) → new.trace.items ≡ old.trace.items ++ s ∷ [] → new.answers.now ≡ old.answers.now →
    node_of s.now ≡ plain s.now → Walked (StatementRuns turns (node_of s.now)) old new normally
StatementRuns-plain turns old new s e p is_plain = record {
  run = meeting s.now;
  fits = subst (λ x. StatementRuns turns x old.answers.now (meeting s.now)) (sym is_plain) meets;
  went = record {
    trace = ap met e ∙ map_push (λ statement. statement.now) old.trace.items s;
    answers = p;
    used = let same_length = ap length p in omega arith;
    ending = refl;
    slipped = refl;
  };
}

pub StatementRuns-meets : (turns : ℕ) (old new : Walk) (s : Bor Statement) (stop : Stop) → is_plain (node_of s.now) ≡ true → new.trace.items ≡ old.trace.items ++ s ∷ [] → new.answers.now ≡ old.answers.now →
    stop ≡ normally → Walked (StatementRuns turns (node_of s.now)) old new stop
StatementRuns-meets turns old new s stop h e p q =
    subst (λ z. Walked (StatementRuns turns (node_of s.now)) old new z) (sym q) (StatementRuns-plain turns old new s e p (node_of-plain s.now h))

-- ---- a jump

pub StatementRuns-jumps : (turns : ℕ) (s : Statement) (to : Jump) (walk : Walk) (stop : Stop) → node_of s ≡ jump to → stop ≡ record { ending = ending_of to; slipped = false } →
    Walked (StatementRuns turns (node_of s)) walk walk stop
StatementRuns-jumps turns s to walk stop e p =
    subst (λ x. Walked (StatementRuns turns x) walk walk stop) (sym e)
    (subst (λ z. Walked (StatementRuns turns (jump to)) walk walk z) (sym p)
    (Walked-quiet (StatementRuns turns (jump to)) walk walk (quiet (ending_of to)) refl refl refl refl jumps))

-- ---- a statement with blocks inside

-- a walk by the node of a statement is a walk by the statement
pub StatementRuns-node_of : (turns : ℕ) (s : Statement) (node : Node) (old new : Walk) (r : Result Stop AllocError) → node_of s ≡ node →
    WalksBy (StatementRuns turns node) old new r → WalksBy (StatementRuns turns (node_of s)) old new r
StatementRuns-node_of turns s node old new r e d =
    subst (λ x. WalksBy (StatementRuns turns x) old new r) (sym e) d

pub StatementRuns-nested : (turns : ℕ) (s : Statement) (b : Tree) (old new : Walk) (r : Result Stop AllocError) → node_of s ≡ nested b →
    WalksBy (BlockRuns turns b) old new r → WalksBy (StatementRuns turns (node_of s)) old new r
StatementRuns-nested turns s b old new r e d =
    let Part = BlockRuns turns b in
    let Whole = StatementRuns turns (nested b) in
    StatementRuns-node_of turns s (nested b) old new r e
    (WalksBy-by_part Part Whole old old new r (λ stop w. Walked-by_part Part Whole w (λ a x p y. enters y)) (λ m. (m.0, enters m.1, m.2)) d)

pub StatementRuns-loop : (turns : ℕ) (s : Statement) (b c : Tree) (break_if : Option ℕ) (old new : Walk) (r : Result Stop AllocError) → node_of s ≡ loop b c break_if →
    WalksBy (LoopRuns turns turns b c break_if) old new r → WalksBy (StatementRuns turns (node_of s)) old new r
StatementRuns-loop turns s b c break_if old new r e d =
    let Part = LoopRuns turns turns b c break_if in
    let Whole = StatementRuns turns (loop b c break_if) in
    StatementRuns-node_of turns s (loop b c break_if) old new r e
    (WalksBy-by_part Part Whole old old new r (λ stop w. Walked-by_part Part Whole w (λ a x p y. loops y)) (λ m. (m.0, loops m.1, m.2)) d)

-- ---- an answer chooses a block or a case

pub StatementRuns-rejects : (turns : ℕ) (b c : Tree) (old mid new : Walk) (answer : ℕ) (r : Result Stop AllocError) →
    mid.trace ≡ old.trace → old.answers.now ≡ answer ∷ mid.answers.now → answer ≡ 0 → WalksBy (BlockRuns turns c) mid new r →
    (condition : ℕ) → WalksBy (StatementRuns turns (branch condition b c)) old new r
StatementRuns-rejects turns b c old mid new answer r e p z d condition =
    WalksBy-answered (BlockRuns turns c) (StatementRuns turns (branch condition b c)) old mid new 0 r e (p ∙ ap (λ x. x ∷ mid.answers.now) z) d (λ a x y. rejects y)

-- an answer other than 0 accepts
accepts-not_zero : (turns condition answer : ℕ) (b c : Tree) (answers : List ℕ) (run : Run) → answer ≢ 0 → BlockRuns turns b answers run →
    StatementRuns turns (branch condition b c) (answer ∷ answers) (answered run)
accepts-not_zero turns condition zero b c answers run h d = absurd (h refl)
accepts-not_zero turns condition (suc answer) b c answers run h d = accepts d

pub StatementRuns-accepts : (turns : ℕ) (b c : Tree) (old mid new : Walk) (answer : ℕ) (r : Result Stop AllocError) →
    mid.trace ≡ old.trace → old.answers.now ≡ answer ∷ mid.answers.now → answer ≢ 0 → WalksBy (BlockRuns turns b) mid new r →
    (condition : ℕ) → WalksBy (StatementRuns turns (branch condition b c)) old new r
StatementRuns-accepts turns b c old mid new answer r e p z d condition =
    WalksBy-answered (BlockRuns turns b) (StatementRuns turns (branch condition b c)) old mid new answer r e p d (λ a x y. accepts-not_zero turns condition answer b c a x z y)

pub StatementRuns-selects : (turns : ℕ) (cases chosen : Cases) (old mid new : Walk) (answer : ℕ) (r : Result Stop AllocError) →
    mid.trace ≡ old.trace → old.answers.now ≡ answer ∷ mid.answers.now → chosen ≡ from (entered (values cases) answer) cases →
    WalksBy (CasesRun turns chosen) mid new r → (selector : ℕ) → WalksBy (StatementRuns turns (switch selector cases)) old new r
StatementRuns-selects turns cases chosen old mid new answer r e p q d selector =
    let these = from (entered (values cases) answer) cases in
    WalksBy-answered (CasesRun turns these) (StatementRuns turns (switch selector cases)) old mid new answer r e p (subst (λ x. WalksBy (CasesRun turns x) mid new r) q d) (λ a x y. selects y)
