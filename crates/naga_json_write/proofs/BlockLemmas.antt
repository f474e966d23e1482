-- The JSON of a block, statement by statement.
use Rattle.std.proofs.Common.{◌≡◌, ◌∙◌, ◌<◌, Some, ap, sym, subst, List, [], ◌∷◌, ◌++◌, map, length, get_or, append_assoc, append-nil, length-append, arith}
use Rattle.std.proofs.Math.Seq.{get_or-append_seam}
use Rattle.std.proofs.lemmas.Option.{slice_get-get_or}
use Rattle.std.specs.Prelude.{Result, OnOk}
use Rattle.json.specs.Json.{Json}
use Rattle.json.specs.Token.{Token}
use Rattle.naga_arena.specs.declared.span.Span.{Span}
use Rattle.naga_ir.specs.Block.{pairs, statements}
use Rattle.naga_ir.specs.Tree.{Tree, empty, push, Node}
use Rattle.naga_json.specs.Block.{statement_json, statements_json}
use Rattle.naga_json.specs.StatementValue.{block_value, node_value, value_of_block, value_of_statement}
use Rattle.naga_ir.specs.View.{node_of, pushed}
use Rattle.naga_ir.specs.declared.block.Block.{Block, size-Block}
use Rattle.naga_ir.specs.declared.statement.Statement.{Statement, size-Statement}
use Rattle.naga_ir.proofs.SizeBlockLemmas.{size-statement_at}
use Rattle.naga_json_write.specs.Appends.{append_json}

-- ---- the statements of a block

-- the JSON of a statement, with the blocks in it
abbrev pub written : Statement → Json
written statement = statement_json (value_of_statement statement)

statements_json-pushed : (front : Tree) (xs : List (Statement × Span)) → statements_json (block_value (pushed front xs)) ≡ statements_json (block_value front) ++ map written (map (λ pair. pair.0) xs)
statements_json-pushed front [] = sym (append-nil (statements_json (block_value front)))
statements_json-pushed front (x ∷ xs) =
    statements_json-pushed (push front (node_of x.0) x.1) xs
    ∙ append_assoc (statements_json (block_value front)) (written x.0 ∷ []) (map written (map (λ pair. pair.0) xs))

-- the JSONs of the statements of a block are those of each
pub statements_json-each : (block : Block) → statements_json (value_of_block block) ≡ map written (statements block)
statements_json-each block = statements_json-pushed empty (pairs block)

-- the statements `ahead` are the last ones of the block
pub record AreLast (block : Block) (ahead : List Statement) : Type 0 where
  pub front : List Statement
  pub is : statements block ≡ front ++ ahead

pub AreLast-all : (block : Block) (ahead : List Statement) → ahead ≡ statements block → AreLast block ahead
AreLast-all block ahead are = record { front = []; is = sym are }

pub AreLast-next : (block : Block) (s : Statement) (rest ahead : List Statement) → ahead ≡ s ∷ rest → AreLast block ahead → AreLast block rest
AreLast-next block s rest ahead are last = record {
  front = last.front ++ s ∷ [];
  is = last.is ∙ ap (λ xs. last.front ++ xs) are ∙ sym (append_assoc last.front (s ∷ []) rest);
}

-- the first of them is smaller than the block
pub AreLast-lt : (block : Block) (s : Statement) (rest ahead : List Statement) → ahead ≡ s ∷ rest → AreLast block ahead → size-Statement s < size-Block block
AreLast-lt block s rest ahead are last =
    let is : statements block ≡ last.front ++ s ∷ rest = last.is ∙ ap (λ xs. last.front ++ xs) are in
    let within : length last.front < length (statements block) = omega (arith, ap length is, length-append last.front (s ∷ rest)) in
    let here : get_or (statements block) (length last.front) s ≡ s = ap (λ xs. get_or xs (length last.front) s) is ∙ get_or-append_seam last.front s rest s in
    size-statement_at block (length last.front) s (slice_get-get_or (statements block) (length last.front) s within ∙ ap Some here)

-- ---- a statement

-- what was appended for the node of a statement was appended for the statement
pub appended-node : {E : Type 0} (r : Result (Unit {0}) E) (old new : List Token) (s : Statement) (node : Node) → node_of s ≡ node → OnOk r (new ≡ append_json old (statement_json (node_value node))) → OnOk r (new ≡ append_json old (written s))
appended-node r old new s node is appended =
    subst (λ n. OnOk r (new ≡ append_json old (statement_json (node_value n)))) (sym is) appended
