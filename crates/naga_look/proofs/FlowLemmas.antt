-- The nodes of statements, statement by statement.
use Rattle.std.proofs.Common.{◌≡◌, ◌∙◌, ◌<◌, ◌≤◌, ◌+◌, ℕ, suc, ap, refl, sym, subst, List, [], ◌∷◌, ◌++◌, drop, length, get_or, codes, append_assoc, append-nil, arith}
use Rattle.std.specs.Prelude.{Option, Result, OnOk, flat_map}
use Rattle.std.specs.List.{enumerate_from}
use Rattle.naga_arena.specs.declared.span.Span.{Span}
use Rattle.naga_ir.specs.Block.{pairs, statements}
use Rattle.naga_ir.specs.Tree.{Tree, empty, push, Node}
use Rattle.naga_ir.specs.View.{cases_of, node_of, pushed, tree_of}
use Rattle.naga_ir.specs.declared.block.Block.{Block}
use Rattle.naga_ir.specs.declared.module.Module as the_module
use Rattle.naga_ir.specs.declared.statement.Statement.{Statement, Emit}
use Rattle.naga_ir.specs.declared.statement.SwitchCase.{SwitchCase}
use Rattle.naga_text.specs.Counterparts.{inner_at}
use Rattle.naga_text.specs.Operands.{references_text}
use Rattle.naga_text.specs.derived.Statement.{action_text}
use Rattle.naga_text.specs.Words.{name_text}
use Rattle.naga_text.proofs.TreeTextLemmas.{cases-next, tree-each}
use Rattle.naga_valid.specs.Statements.{references_of_statement}
use Rattle.naga_look.specs.Graph.Flow.{arrow, blocks_flow, cases_flow, edge_to, edge_to_case, first_name, if_empty, is_inserted_return, label_text, numbered, point_text, statement_node, tree_flow}
use Rattle.naga_look.specs.Graph.Names.{called_name}

-- the label of a statement is its action, the name of what it calls, and what it refers to
pub label-same : (whole : the_module.Module) (s : Statement) → action_text s ++ (name_text (called_name whole s) ++ references_text (references_of_statement s)) ≡ label_text whole (node_of s)
label-same whole (Emit range) = refl
label-same whole s = refl

-- ---- edges

-- no edge leads to the first statement of a block
pub edge_to-first : (block text : List ℕ) (position : ℕ) → position ≡ 0 → text ≡ text ++ edge_to block position
edge_to-first block text position is =
    sym (append-nil text) ∙ ap (λ n. text ++ edge_to block n) (sym is)

edge_to-after : (block : List ℕ) (position before : ℕ) → before + 1 ≡ position → edge_to block position ≡ arrow (numbered block before) (numbered block position) ++ codes " [style=bold]\n"
edge_to-after block position before is =
    let same : suc before ≡ position = omega (arith, is) in
    subst (λ n. edge_to block n ≡ arrow (numbered block before) (numbered block n) ++ codes " [style=bold]\n") same refl

-- an edge leads to a later statement from the one before it
pub edge_to-later : (block : List ℕ) (position before : ℕ) → before + 1 ≡ position → arrow (numbered block before) (numbered block position) ++ codes " [style=bold]\n" ≡ edge_to block position
edge_to-later block position before is = sym (edge_to-after block position before is)

-- ---- statements

-- a statement at a position of a block: the edge to it, its node, and the blocks in it
abbrev pub step_text : the_module.Module → (block : List ℕ) → (old : Option Tree) → ℕ → Node → List ℕ
step_text whole block old position node =
    edge_to block position
    ++ (statement_node whole (numbered block position) (is_inserted_return old position node) node
    ++ blocks_flow whole (numbered block position) old position node)

abbrev pub step_of : the_module.Module → (block : List ℕ) → (old : Option Tree) → ℕ × Statement → List ℕ
step_of whole block old entry = step_text whole block old entry.0 (node_of entry.1)

-- the statements of a block, one after another
pub tree_flow-each : (whole : the_module.Module) (name : List ℕ) (old : Option Tree) (block : Block) → tree_flow whole name old (tree_of block) ≡ flat_map (step_of whole name old) (enumerate_from 0 (statements block))
tree_flow-each whole name old block = tree-each (tree_flow whole name old) (step_text whole name old) refl (λ front last span. refl) block

-- what was appended for the node of a statement was appended for the statement
pub OnOk-blocks : {A E : Type 0} (r : Result A E) (whole : the_module.Module) (name : List ℕ) (to : Option Tree) (position : ℕ) (old new : List ℕ) (s : Statement) (node : Node) → node_of s ≡ node → OnOk r (new ≡ old ++ blocks_flow whole name to position node) → OnOk r (new ≡ old ++ blocks_flow whole name to position (node_of s))
OnOk-blocks r whole name to position old new s node is appended =
    subst (λ n. OnOk r (new ≡ old ++ blocks_flow whole name to position n)) (sym is) appended

-- ---- cases

-- a case with its index: the edge to it, and its body, of which `inner` is the counterpart
abbrev pub case_of : the_module.Module → (name : List ℕ) → (inner : Option Tree) → ℕ → SwitchCase → List ℕ
case_of whole name inner index s =
    edge_to_case name (numbered name index) s.value (tree_of s.body) s.fall_through ++ tree_flow whole (numbered name index) inner (tree_of s.body)

-- the cases whose first one has been written
pub cases_flow-next : (whole : the_module.Module) (name : List ℕ) (old : Option Tree) (position : ℕ) (cases : List SwitchCase) (i : ℕ) (s : SwitchCase) (inner : Option Tree) (before after all : List ℕ) → i < length cases → s ≡ get_or cases i s → inner ≡ inner_at old position i → after ≡ before ++ case_of whole name inner i s → before ++ cases_flow whole name old position i (cases_of (drop i cases)) ≡ all → after ++ cases_flow whole name old position (i + 1) (cases_of (drop (i + 1) cases)) ≡ all
cases_flow-next whole name old position cases i s inner before after all within is there one_more so =
    cases-next (cases_flow whole name old position) (λ index. case_of whole name (inner_at old position index) index) (λ index x others. refl) cases i s before after all within is
    (one_more ∙ ap (λ o. before ++ case_of whole name o i s) there) so

-- ---- empty blocks

if_empty-pushed : (front : Tree) (s : Node) (span : Span) (xs : List (Statement × Span)) (none some : List ℕ) → if_empty (pushed (push front s span) xs) none some ≡ some
if_empty-pushed front s span [] none some = refl
if_empty-pushed front s span (x ∷ xs) none some = if_empty-pushed (push front s span) (node_of x.0) x.1 xs none some

if_empty-none : (xs : List (Statement × Span)) (none some : List ℕ) → length xs ≤ 0 → if_empty (pushed empty xs) none some ≡ none
if_empty-none [] none some is = refl
if_empty-none (x ∷ xs) none some is = absurd (omega (arith, is))

if_empty-some : (xs : List (Statement × Span)) (none some : List ℕ) → 0 < length xs → if_empty (pushed empty xs) none some ≡ some
if_empty-some [] none some is = absurd (omega (arith, is))
if_empty-some (x ∷ xs) none some is = if_empty-pushed empty (node_of x.0) x.1 xs none some

-- control enters an empty block at its point
pub first_name-empty : (name : List ℕ) (block : Block) → length (pairs block) ≤ 0 → name ≡ first_name name (tree_of block)
first_name-empty name block is = sym (if_empty-none (pairs block) name (numbered name 0) is)

-- control enters another block at its first statement
pub first_name-some : (name : List ℕ) (block : Block) → 0 < length (pairs block) → numbered name 0 ≡ first_name name (tree_of block)
first_name-some name block is = sym (if_empty-some (pairs block) name (numbered name 0) is)

-- an empty block has a point
pub point_text-empty : (name : List ℕ) (block : Block) → length (pairs block) ≤ 0 → codes "        " ++ (name ++ codes " [shape=point, height=0.1]\n") ≡ point_text name (tree_of block)
point_text-empty name block is = sym (if_empty-none (pairs block) (codes "        " ++ (name ++ codes " [shape=point, height=0.1]\n")) [] is)

-- another block has none
pub point_text-some : (name : List ℕ) (block : Block) (text : List ℕ) → 0 < length (pairs block) → text ≡ text ++ point_text name (tree_of block)
point_text-some name block text is =
    sym (append-nil text) ∙ ap (λ xs. text ++ xs) (sym (if_empty-some (pairs block) (codes "        " ++ (name ++ codes " [shape=point, height=0.1]\n")) [] is))

-- ---- what was appended

-- the label of a statement, by its pieces
pub label-pieces : (whole : the_module.Module) (s : Statement) (none action named label shown : List ℕ) → none ≡ [] → action ≡ none ++ action_text s → named ≡ action ++ name_text (called_name whole s) → label ≡ named ++ references_text (references_of_statement s) → shown ≡ label → shown ≡ label_text whole (node_of s)
label-pieces whole s none action named label shown is first second third finished =
    let name = name_text (called_name whole s) in
    let references = references_text (references_of_statement s) in
    finished ∙ third
    ∙ ap (λ text. text ++ references) (second ∙ ap (λ text. text ++ name) (first ∙ ap (λ text. text ++ action_text s) is))
    ∙ append_assoc (action_text s) name references
    ∙ label-same whole s

-- what was appended for a text was appended for an equal one
pub OnOk-same : {A E : Type 0} (r : Result A E) (old new text same : List ℕ) → text ≡ same → OnOk r (new ≡ old ++ text) → OnOk r (new ≡ old ++ same)
OnOk-same r old new text same is appended = subst (λ xs. OnOk r (new ≡ old ++ xs)) is appended
