-- The meaning of a block at one depth less, and with one more statement read.
use Rattle.std.proofs.Common.{◌≡◌, ◌≢◌, ◌∙◌, sym, ap, refl, ℕ, zero, suc, ◌-◌, ◌+◌, ◌<◌, List, [], ◌∷◌, ◌++◌, length, get_or, drop, Option, Some, None, add-one, arith}
use Rattle.std.proofs.Math.Seq.{drop-cons}
use Rattle.json.specs.Json.{Json}
use Rattle.json.specs.Value.{value_view, items_view}
use Rattle.json.specs.declared.value.Value.{Value}
use Rattle.naga_arena.specs.Span.{undefined}
use Rattle.naga_ir.specs.Block.{pairs}
use Rattle.naga_ir.specs.declared.block.Block.{Block}
use Rattle.naga_ir.specs.declared.statement.Statement.{Statement}
use Rattle.naga_json.specs.StatementValue.{push, StatementValue, value_of_block, value_of_statement}
use Rattle.naga_json.specs.Block.{block_after, block_with, block_within, statement_codec}
use Rattle.naga_json.specs.Recursion.{within_depth}
use Rattle.naga_json.proofs.BindLemmas.{at_some}
use Rattle.naga_json.proofs.StatementValueLemmas.{block_value-push}

-- no block is nested less deep than 0
pub block_within-none : (depth : ℕ) (j : Json) → depth ≡ 0 → None ≡ (block_within depth).decode j
unfolding within_depth
block_within-none zero j h = refl
block_within-none (suc depth) j h = absurd (omega (arith, h))

pub block_within-some : (depth : ℕ) (j : Json) → depth ≢ 0 → (block_within depth).decode j ≡ block_with (statement_codec (block_within (depth - 1))).decode j
unfolding within_depth
block_within-some zero j h = absurd (h refl)
block_within-some (suc depth) j h = let e : depth ≡ suc depth - 1 = omega arith in ap (λ n. block_with (statement_codec (block_within n)).decode j) e

-- the statement at the position `i` is read, and pushed onto the block
pub block_after-next : {A : Type 0} (statement : Json → Option StatementValue) (xs : List (Value A)) (i : ℕ) (x : Value A) (block next : Block) (last : Statement) → i < length xs → x ≡ get_or xs i x → Some (value_of_statement last) ≡ statement (value_view x) → pairs next ≡ pairs block ++ (last, undefined) ∷ []
    → block_after statement (items_view (drop (i + 1) xs)) (value_of_block next) ≡ block_after statement (items_view (drop i xs)) (value_of_block block)
block_after-next statement xs i x block next last inside found read pushed =
    let pushes : value_of_block next ≡ push (value_of_block block) (value_of_statement last) undefined = block_value-push block next last undefined pushed in
    let rest = items_view (drop (suc i) xs) in
    let first : statement (value_view (get_or xs i x)) ≡ Some (value_of_statement last) = sym (read ∙ ap (λ v. statement (value_view v)) found) in
    ap (λ n. block_after statement (items_view (drop n xs)) (value_of_block next)) (add-one i)
    ∙ ap (block_after statement rest) pushes
    ∙ sym (at_some (statement (value_view (get_or xs i x))) (value_of_statement last) (λ v. block_after statement rest (push (value_of_block block) v undefined)) first)
    ∙ sym (ap (λ ys. block_after statement (items_view ys) (value_of_block block)) (drop-cons xs i x inside))
