-- Blocks of the same values, which differ only in spans and in spare capacity, do the same.
use Rattle.std.proofs.Common.{◌≡◌, ◌∙◌, sym, ap, subst, refl, inl, inr, ℕ, Option}
use Rattle.std.specs.Prelude.{◌⊎◌}
use Rattle.std.specs.declared.alloc.Global.{Global}
use Rattle.std.specs.declared.vec.Vec.{Vec}
use Rattle.naga_ir.specs.Tree.{Tree, Node, Cases}
use Rattle.naga_ir.specs.Tree as tree
use Rattle.naga_ir.specs.declared.statement.Statement.{Statement}
use Rattle.naga_ir.specs.declared.statement.Statement.TheVariants.{Call}
use Rattle.naga_json.specs.StatementValue.{StatementValue, plain, call, nested, branch, switch, loop, jump, plain_value, block_value, node_value, cases_value}
use Rattle.naga_json.specs.Unspanned.{unspanned_block, unspanned_cases, unspanned_statement}
use Rattle.naga_meaning.specs.Alike.{Alike, same_block, in_push, AlikeStatements, same_statement, in_nested, in_branch, in_switch, in_loop, AlikeCases, no_more, one_more}
use Rattle.naga_meaning.specs.Machine.{Machine, node_does}

-- ---- plain statements

-- the statement is a `Call`
record IsCall (what : Statement) : Type 0 where
  function : ℕ
  arguments : Vec ℕ Global
  result : Option ℕ
  is : what ≡ Call function arguments result

called : (what : Statement) → IsCall what ⊎ (plain_value what ≡ plain what)
called (Call function arguments result) = inl (record { function = function; arguments = arguments; result = result; is = refl })
called _ = inr refl

unspanned-plain : (what : Statement) → unspanned_statement (plain_value what) ≡ plain_value what
unspanned-plain (Call function arguments result) = refl
unspanned-plain _ = refl

-- what does not depend on the spare capacity of a `Call` is the same for plain statements of the same value
module _ {A : Type 0} (g : Statement → A) (of_items : (function : ℕ) (c d : Vec ℕ Global) (result : Option ℕ) → d.items ≡ c.items → g (Call function d result) ≡ g (Call function c result)) where
  same_called : (a b : Statement) → plain_value b ≡ plain_value a → IsCall a ⊎ (plain_value a ≡ plain a) → IsCall b ⊎ (plain_value b ≡ plain b) → g b ≡ g a
  same_called a b same (inl p) (inl q) =
      let values : call q.function q.arguments.items q.result ≡ call p.function p.arguments.items p.result = sym (ap plain_value q.is) ∙ (same ∙ ap plain_value p.is) in
      let functions : q.function ≡ p.function = cc in
      let items : q.arguments.items ≡ p.arguments.items = cc in
      let results : q.result ≡ p.result = cc in
      ap g q.is ∙ ((λ i. g (Call (functions i) q.arguments (results i)))
      ∙ (of_items p.function p.arguments q.arguments p.result items ∙ sym (ap g p.is)))
  same_called a b same (inl p) (inr q) =
      let values : plain b ≡ call p.function p.arguments.items p.result = sym q ∙ (same ∙ ap plain_value p.is) in absurd cc
  same_called a b same (inr p) (inl q) =
      let values : call q.function q.arguments.items q.result ≡ plain a = sym (ap plain_value q.is) ∙ (same ∙ p) in absurd cc
  same_called a b same (inr p) (inr q) =
      let values : plain b ≡ plain a = sym q ∙ (same ∙ p) in
      let whole : b ≡ a = cc in ap g whole

  plain-same : (a b : Statement) → plain_value b ≡ unspanned_statement (plain_value a) → g b ≡ g a
  plain-same a b same = same_called a b (same ∙ unspanned-plain a) (called a) (called b)

-- ---- other statements

-- which statement it is, where calls are plain statements
abbrev kind : StatementValue → ℕ
kind (plain what) = 0
kind (call function arguments result) = 0
kind (nested inner) = 1
kind (branch condition accept reject) = 2
kind (switch selector cases) = 3
kind (loop body continuing break_if) = 4
kind (jump to) = 5

kind-plain : (what : Statement) → kind (plain_value what) ≡ 0
kind-plain (Call function arguments result) = refl
kind-plain _ = refl

kind-unspanned : (what : Statement) → kind (unspanned_statement (plain_value what)) ≡ 0
kind-unspanned what = ap kind (unspanned-plain what) ∙ kind-plain what

module _ {State : Type 0} (machine : Machine State)
    (of_items : (function : ℕ) (c d : Vec ℕ Global) (result : Option ℕ) → d.items ≡ c.items → (turns : ℕ) (state : State) →
    node_does machine turns (tree.plain (Call function d result)) state ≡ node_does machine turns (tree.plain (Call function c result)) state) where
  mutual
    pub Alike-values : (b c : Tree) → block_value c ≡ unspanned_block (block_value b) → Alike machine b c
    Alike-values tree.empty tree.empty same = same_block (λ turns state. refl)
    Alike-values tree.empty (tree.push front' last' span') same = absurd cc
    Alike-values (tree.push front last span) tree.empty same = absurd cc
    Alike-values (tree.push front last span) (tree.push front' last' span') same =
        let before : block_value front' ≡ unspanned_block (block_value front) = cc in
        let one : node_value last' ≡ unspanned_statement (node_value last) = cc in
        in_push (Alike-values front front' before) (AlikeStatements-values last last' one)

    AlikeStatements-values : (x y : Node) → node_value y ≡ unspanned_statement (node_value x) → AlikeStatements machine x y
    AlikeStatements-values (tree.plain what) (tree.plain what') same =
        same_statement (λ turns state. plain-same (λ what. node_does machine turns (tree.plain what) state) (λ function c d result items. of_items function c d result items turns state) what what' same)
    AlikeStatements-values (tree.plain what) y same =
        let kinds : kind (node_value y) ≡ 0 = ap kind same ∙ kind-unspanned what in absurd cc
    AlikeStatements-values x (tree.plain what) same =
        let kinds : kind (unspanned_statement (node_value x)) ≡ 0 = sym (ap kind same) ∙ kind-plain what in absurd cc
    AlikeStatements-values (tree.nested inner) (tree.nested inner') same =
        let one : block_value inner' ≡ unspanned_block (block_value inner) = cc in
        in_nested (Alike-values inner inner' one)
    AlikeStatements-values (tree.branch condition accept reject) (tree.branch condition' accept' reject') same =
        let conditions : condition ≡ condition' = cc in
        let one : block_value accept' ≡ unspanned_block (block_value accept) = cc in
        let other : block_value reject' ≡ unspanned_block (block_value reject) = cc in
        subst (λ handle. AlikeStatements machine (tree.branch condition accept reject) (tree.branch handle accept' reject')) conditions
        (in_branch (Alike-values accept accept' one) (Alike-values reject reject' other))
    AlikeStatements-values (tree.switch selector cases) (tree.switch selector' cases') same =
        let selectors : selector ≡ selector' = cc in
        let each : cases_value cases' ≡ unspanned_cases (cases_value cases) = cc in
        subst (λ handle. AlikeStatements machine (tree.switch selector cases) (tree.switch handle cases')) selectors
        (in_switch (AlikeCases-values cases cases' each))
    AlikeStatements-values (tree.loop body continuing break_if) (tree.loop body' continuing' break_if') same =
        let conditions : break_if ≡ break_if' = cc in
        let one : block_value body' ≡ unspanned_block (block_value body) = cc in
        let other : block_value continuing' ≡ unspanned_block (block_value continuing) = cc in
        subst (λ condition. AlikeStatements machine (tree.loop body continuing break_if) (tree.loop body' continuing' condition)) conditions
        (in_loop (Alike-values body body' one) (Alike-values continuing continuing' other))
    AlikeStatements-values (tree.jump to) (tree.jump to') same =
        let targets : to' ≡ to = cc in
        same_statement (λ turns state. ap (λ target. node_does machine turns (tree.jump target) state) targets)
    AlikeStatements-values x y same = let kinds : kind (node_value y) ≡ kind (unspanned_statement (node_value x)) = ap kind same in absurd cc

    AlikeCases-values : (cs ds : Cases) → cases_value ds ≡ unspanned_cases (cases_value cs) → AlikeCases machine cs ds
    AlikeCases-values tree.no_cases tree.no_cases same = no_more
    AlikeCases-values tree.no_cases (tree.case value' body' falls_through' others') same = absurd cc
    AlikeCases-values (tree.case value body falls_through others) tree.no_cases same = absurd cc
    AlikeCases-values (tree.case value body falls_through others) (tree.case value' body' falls_through' others') same =
        let values : value ≡ value' = cc in
        let falls : falls_through ≡ falls_through' = cc in
        let one : block_value body' ≡ unspanned_block (block_value body) = cc in
        let rest : cases_value others' ≡ unspanned_cases (cases_value others) = cc in
        subst (λ v. AlikeCases machine (tree.case value body falls_through others) (tree.case v body' falls_through' others')) values
        (subst (λ falls. AlikeCases machine (tree.case value body falls_through others) (tree.case value body' falls others')) falls
        (one_more (Alike-values body body' one) (AlikeCases-values others others' rest)))
