use Rattle.std.proofs.Common.{◌≡◌, ◌∙◌, sym, ap, subst, refl, true≢false, ℕ, ◌+◌, ◌-◌, ◌<◌, Option, length, get_or, take, rules, arith}
use Rattle.std.proofs.lemmas.List.{get_or_read}
use Rattle.naga_ir.specs.Block.{pairs}
use Rattle.naga_ir.specs.Lends.{with_statement}
use Rattle.naga_ir.specs.View.{tree}
use Rattle.naga_ir.specs.Tree.{jump, push, return}
use Rattle.naga_ir.specs.declared.block.Block.{size-Block}
use Rattle.naga_ir.specs.declared.statement.Statement.{size-Statement, the_lemmas}
use Rattle.naga_ir.specs.declared.statement.Statement as variant
use Rattle.naga_ir.specs.declared.statement.Statement.TheBlock as shown
use Rattle.naga_ir.specs.declared.statement.SwitchCase.{SwitchCase}
use Rattle.naga_compact.specs.Mapping.{map_tree}
use Rattle.naga_compact.specs.derived.Renaming.{rename_statement}
use Rattle.naga_valid.proofs.IsEmptyLemmas.{is_empty-false, is_empty-true}
use Rattle.naga_compact.proofs.MappedBlocks.{MappedTo, MappedTo-start, MappedTo-size, MappedTo-next, MappedTo-end, CasesMappedTo-next}
use Rattle.naga_compact.proofs.MapNodeLemmas.{map_cases-each, mapped_Block, mapped_If, mapped_Loop, mapped_Switch}
use Rattle.naga_compact.proofs.renaming.block.+body.Goals as goal

-- ---- a block

pub rename_block-front-init : goal.rename_block-front-init
rename_block-front-init g t c = MappedTo-start (map_tree (rename_statement (g.N.NewHandles.renaming c.args.new.now)) (g.N.NewHandles.renaming c.args.new.now).expressions) c.args.block.now refl

pub rename_block-rename_statement-requires : goal.rename_block-rename_statement-requires
rename_block-rename_statement-requires g t c =
    let lt : size-Statement c.in-Some.statement.now < size-Block c.args.block.now =
    MappedTo-size (map_tree (rename_statement (g.N.NewHandles.renaming c.args.new.now)) (g.N.NewHandles.renaming c.args.new.now).expressions) c.args.block.now c.front.block c.front.position c.in-Some.statement.now c.front.invariant c.in-Some.ensures.value
    in
    λ κs within. (search (rules, lt), within)

pub rename_block-front-preserved : goal.rename_block-front-preserved
rename_block-front-preserved g t c =
    MappedTo-next (map_tree (rename_statement (g.N.NewHandles.renaming c.args.new.now)) (g.N.NewHandles.renaming c.args.new.now).expressions) c.args.block.now c.front.block c.front.position c.in-Some.statement.now c.rename_statement.new.statement c.front.invariant c.in-Some.ensures.value
    (λ span. ap (λ n. push (map_tree (rename_statement (g.N.NewHandles.renaming c.args.new.now)) (g.N.NewHandles.renaming c.args.new.now).expressions (tree (take c.front.position (pairs c.args.block.now)))) n span) (sym c.rename_statement.ensures))

pub rename_block-unreachable-requires : goal.rename_block-unreachable-requires
rename_block-unreachable-requires g t c =
    let present = c.get_mut.ensures.some.1 (omega (arith, c.front.invariant.count, c.len-last.ensures, c.front-test.true)) in
    true≢false (sym (rw c.in_default.is at present))

-- the loop ends before the last statement

pub rename_block-unreachable-requires-in_default-get_mut : goal.rename_block-unreachable-requires-in_default-get_mut
rename_block-unreachable-requires-in_default-get_mut g t c =
    let more = is_empty-false (length (pairs c.args.block.now)) (sym c.is_empty.ensures ∙ c.if-is_empty.false) in
    let present = c.get_mut-2.ensures.some.1 (omega (arith, c.front.invariant.count, c.len-last.ensures, more)) in
    true≢false (sym (rw c.in_default-get_mut.is at present))

pub rename_block-rename_statement-requires-2 : goal.rename_block-rename_statement-requires-2
rename_block-rename_statement-requires-2 g t c =
    let here : c.front.position ≡ c.len-last.result - 1 = omega (arith, c.front-test.false, c.front.auto.position-end) in
    let so : MappedTo (map_tree (rename_statement (g.N.NewHandles.renaming c.args.new.now)) (g.N.NewHandles.renaming c.args.new.now).expressions) c.args.block.now c.front.block (c.len-last.result - 1) = subst (MappedTo (map_tree (rename_statement (g.N.NewHandles.renaming c.args.new.now)) (g.N.NewHandles.renaming c.args.new.now).expressions) c.args.block.now c.front.block) here c.front.invariant in
    let lt : size-Statement c.in-Some-get_mut.statement.now < size-Block c.args.block.now =
    MappedTo-size (map_tree (rename_statement (g.N.NewHandles.renaming c.args.new.now)) (g.N.NewHandles.renaming c.args.new.now).expressions) c.args.block.now c.front.block (c.len-last.result - 1) c.in-Some-get_mut.statement.now so c.in-Some-get_mut.ensures.value
    in
    λ κs within. (search (rules, lt), within)

pub rename_block-returns : goal.rename_block-returns
rename_block-returns g t c =
    let here : c.front.position ≡ c.len-last.result - 1 = omega (arith, c.front-test.false, c.front.auto.position-end) in
    let so : MappedTo (map_tree (rename_statement (g.N.NewHandles.renaming c.args.new.now)) (g.N.NewHandles.renaming c.args.new.now).expressions) c.args.block.now c.front.block (c.len-last.result - 1) = subst (MappedTo (map_tree (rename_statement (g.N.NewHandles.renaming c.args.new.now)) (g.N.NewHandles.renaming c.args.new.now).expressions) c.args.block.now c.front.block) here c.front.invariant in
    let f = (map_tree (rename_statement (g.N.NewHandles.renaming c.args.new.now)) (g.N.NewHandles.renaming c.args.new.now).expressions) in
    let all = MappedTo-next f c.args.block.now c.front.block (c.len-last.result - 1) c.in-Some-get_mut.statement.now c.rename_statement-2.new.statement so c.in-Some-get_mut.ensures.value
    (λ span. ap (λ n. push (f (tree (take (c.len-last.result - 1) (pairs c.args.block.now)))) n span) (sym c.rename_statement-2.ensures))
    in
    MappedTo-end f c.args.block.now (with_statement c.front.block (c.len-last.result - 1) c.rename_statement-2.new.statement) (c.len-last.result - 1 + 1) (omega (arith, c.len-last.ensures)) all

pub rename_block-returns-then-is_empty : goal.rename_block-returns-then-is_empty
rename_block-returns-then-is_empty g t c =
    let none = is_empty-true (length (pairs c.args.block.now)) (sym c.is_empty.ensures ∙ c.if-is_empty.true) in
    MappedTo-end (map_tree (rename_statement (g.N.NewHandles.renaming c.args.new.now)) (g.N.NewHandles.renaming c.args.new.now).expressions) c.args.block.now c.args.block.now 0 none (MappedTo-start (map_tree (rename_statement (g.N.NewHandles.renaming c.args.new.now)) (g.N.NewHandles.renaming c.args.new.now).expressions) c.args.block.now refl)

-- ---- a statement

pub rename_statement-rename_block-requires : goal.rename_statement-rename_block-requires
rename_statement-rename_block-requires g t c = λ κs within. (search (rules, the_lemmas), within)

pub rename_statement-rename_block-requires-in-If : goal.rename_statement-rename_block-requires-in-If
rename_statement-rename_block-requires-in-If g t c = λ κs within. (search (rules, the_lemmas), within)

pub rename_statement-rename_block-requires-in-If-2 : goal.rename_statement-rename_block-requires-in-If-2
rename_statement-rename_block-requires-in-If-2 g t c = λ κs within. (search (rules, the_lemmas), within)

pub rename_statement-rename_cases-requires : goal.rename_statement-rename_cases-requires
rename_statement-rename_cases-requires g t c = λ κs within. (search (rules, the_lemmas), within)

pub rename_statement-rename_block-requires-in-Loop : goal.rename_statement-rename_block-requires-in-Loop
rename_statement-rename_block-requires-in-Loop g t c = λ κs within. (search (rules, the_lemmas), within)

pub rename_statement-rename_block-requires-in-Loop-2 : goal.rename_statement-rename_block-requires-in-Loop-2
rename_statement-rename_block-requires-in-Loop-2 g t c = λ κs within. (search (rules, the_lemmas), within)

pub rename_statement-returns-in-Block : goal.rename_statement-returns-in-Block
unfolding variant.out-Statement shown.hidden-the_row-Block-entries-2-0 shown.shape-the_row-Block-entries-2-0 denote.Hole.Carrier.out denote.Hole.Carrier.hidden
rename_statement-returns-in-Block g t c =
    rw c.in-Block.is (mapped_Block (rename_statement (g.N.NewHandles.renaming c.args.new.now)) (g.N.NewHandles.renaming c.args.new.now).expressions c.in-Block.inner c.rename_block.new.block (rw c.in-Block.inner-is at c.rename_block.ensures))

pub rename_statement-returns-in-If : goal.rename_statement-returns-in-If
unfolding variant.out-Statement shown.hidden-the_row-Block-entries-2-0 shown.shape-the_row-Block-entries-2-0 denote.Hole.Carrier.out denote.Hole.Carrier.hidden
rename_statement-returns-in-If g t c =
    rw c.in-If.is (mapped_If (rename_statement (g.N.NewHandles.renaming c.args.new.now)) (g.N.NewHandles.renaming c.args.new.now).expressions c.in-If.condition c.rename.new.self c.in-If.accept c.rename_block-in-If.new.block c.in-If.reject c.rename_block-in-If-2.new.block (rw c.in-If.condition-is at c.rename.ensures) (rw c.in-If.accept-is at c.rename_block-in-If.ensures) (rw c.in-If.reject-is at c.rename_block-in-If-2.ensures))

pub rename_statement-returns-in-Switch : goal.rename_statement-returns-in-Switch
unfolding variant.out-Statement shown.hidden-the_row-Block-entries-2-0 shown.shape-the_row-Block-entries-2-0 denote.Hole.Carrier.out denote.Hole.Carrier.hidden
rename_statement-returns-in-Switch g t c =
    rw c.in-Switch.is (mapped_Switch (rename_statement (g.N.NewHandles.renaming c.args.new.now)) (g.N.NewHandles.renaming c.args.new.now).expressions c.in-Switch.selector c.rename-in-Switch.new.self c.in-Switch.cases c.rename_cases.new.cases (rw c.in-Switch.selector-is at c.rename-in-Switch.ensures) (rw c.in-Switch.cases-is at c.rename_cases.ensures))

pub rename_statement-returns-in-Loop : goal.rename_statement-returns-in-Loop
unfolding variant.out-Statement shown.hidden-the_row-Block-entries-2-0 shown.shape-the_row-Block-entries-2-0 denote.Hole.Carrier.out denote.Hole.Carrier.hidden
rename_statement-returns-in-Loop g t c =
    rw c.in-Loop.is (mapped_Loop (rename_statement (g.N.NewHandles.renaming c.args.new.now)) (g.N.NewHandles.renaming c.args.new.now).expressions c.in-Loop.body c.rename_block-in-Loop.new.block c.in-Loop.continuing c.rename_block-in-Loop-2.new.block c.in-Loop.break_if c.rename-in-Loop.new.self (rw c.in-Loop.body-is at c.rename_block-in-Loop.ensures) (rw c.in-Loop.continuing-is at c.rename_block-in-Loop-2.ensures) (rw c.in-Loop.break_if-is at c.rename-in-Loop.ensures))

pub rename_statement-returns-in-Return : goal.rename_statement-returns-in-Return
unfolding variant.out-Statement shown.hidden-the_row-Block-entries-2-0 shown.shape-the_row-Block-entries-2-0 denote.Hole.Carrier.out denote.Hole.Carrier.hidden
rename_statement-returns-in-Return g t c =
    rw c.in-Return.is (ap (λ (v : Option ℕ). jump (return v)) (rw c.in-Return.value-is at c.rename-in-Return.ensures))

pub rename_statement-returns-in-Break : goal.rename_statement-returns-in-Break
rename_statement-returns-in-Break g t c = rw c.in-Break.is refl

pub rename_statement-returns-in-Continue : goal.rename_statement-returns-in-Continue
rename_statement-returns-in-Continue g t c = rw c.in-Continue.is refl

pub rename_statement-returns-in-Kill : goal.rename_statement-returns-in-Kill
rename_statement-returns-in-Kill g t c = rw c.in-Kill.is refl

-- ---- the cases

pub rename_cases-cases-preserved : goal.rename_cases-cases-preserved
rename_cases-cases-preserved g t c =
    let x = c.index_mut-case.result.now in
    let i = c.cases.i in
    let now = c.cases.cases.items in
    let inside : i < length now = omega (arith, c.args.cases.now.ok.0, c.cases.invariant.0.0) in
    let read : (d : SwitchCase) → x ≡ get_or now i d = get_or_read now i x inside c.index_mut-case.ensures.value in
    CasesMappedTo-next (map_tree (rename_statement (g.N.NewHandles.renaming c.args.new.now)) (g.N.NewHandles.renaming c.args.new.now).expressions) c.args.cases.now.items now i x (record x { body = c.rename_block.new.block }) inside read (record { value = refl; body = c.rename_block.ensures; falls = refl }) c.cases.invariant

pub rename_cases-returns : goal.rename_cases-returns
rename_cases-returns g t c =
    let whole : (k : ℕ) → k < length c.args.cases.now.items → k < c.cases.i = λ k q. omega (arith, c.args.cases.now.ok.0) in
    map_cases-each (rename_statement (g.N.NewHandles.renaming c.args.new.now)) (g.N.NewHandles.renaming c.args.new.now).expressions c.args.cases.now.items c.cases.cases.items c.cases.invariant.0.0 (λ k d q. c.cases.invariant.1 k d (whole k q))
