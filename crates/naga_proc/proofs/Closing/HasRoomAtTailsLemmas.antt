-- Spare capacity at the tail blocks of a block: of a block that has it, and of the last statement that gives it.
use Rattle.std.proofs.Common.{◌≡◌, ◌∙◌, subst, ℕ, suc, ◌-◌, ◌<◌, length, Some, true, arith, refl, sym, ap, List, [], get_or, false, Bool}
use Rattle.std.proofs.lemmas.List.{append-nil, get_or-map, get_or-set_same, length-map, length-set}
use Rattle.std.proofs.lemmas.Option.{get_or_from_slice_get, slice_get_within}
use Rattle.std.specs.Prelude.{slice_get}
use Rattle.naga_arena.specs.Span.{undefined}
use Rattle.naga_arena.specs.declared.span.Span.{Span}
use Rattle.naga_ir.specs.Block.{pairs, room, statements}
use Rattle.naga_ir.specs.Lends.{with_statement}
use Rattle.naga_ir.specs.Tree.{Tree, empty, push, jump, Jump}
use Rattle.naga_ir.specs.View.{node_of, pushed, tree_of}
use Rattle.naga_ir.specs.declared.block.Block.{Block}
use Rattle.naga_ir.specs.declared.statement.Statement.{Statement}
use Rattle.naga_proc.specs.Closing.{follows, gets_return, returned}
use Rattle.naga_proc.specs.Closing.Room.{whole, EndsIn, at_end, HasRoomAtTails, IsTailBlock}
use Rattle.naga_proc.proofs.Closing.HasRoomInsideLemmas.{HasRoomInside}
use Rattle.naga_proc.specs.declared.terminator.rule.Rule.{Rule}
use Rattle.naga_proc.specs.declared.terminator.rule.Rule.TheVariants.{Old}
use Rattle.naga_proc.proofs.Closing.ByLastLemmas.{by_last, length-by_last}
use Rattle.naga_proc.proofs.Closing.GetsReturnLemmas.{gets_return-last, gets_return-empty, gets_return-wider}
use Rattle.naga_proc.proofs.Closing.HasRoomInsideLemmas.{HasRoomInside-Block, HasRoomInside-shallow, is_shallow}
use Rattle.naga_proc.proofs.Closing.SameNodeLemmas.{tree_of-SameNode}
use Rattle.naga_ir.specs.declared.statement.Statement as variant

-- ---- from a block to its last statement

pub HasRoomAtTails-inside : (rule : Rule) (b : Block) (i : ℕ) (last : Statement) → length (pairs b) ≡ suc i → slice_get (statements b) i ≡ Some last → HasRoomAtTails rule b → HasRoomInside rule last
HasRoomAtTails-inside rule b i last l found h =
    let same : i ≡ length (pairs b) - 1 = omega (arith, l) in
    let ends : EndsIn b last = subst (λ (k : ℕ). slice_get (statements b) k ≡ Some last) same found in
    λ tail among. h tail (at_end ends among)

pub HasRoomAtTails-at_end : (rule : Rule) (b : Block) (i : ℕ) (last : Statement) → length (pairs b) ≡ suc i → slice_get (statements b) i ≡ Some last → follows rule (node_of last) ≡ true → HasRoomAtTails rule b → 0 < room b
HasRoomAtTails-at_end rule b i last l found leaves h = h b whole (gets_return-last rule b i last l found ∙ leaves)

pub HasRoomAtTails-empty : (rule : Rule) (b : Block) → length (pairs b) ≡ 0 → HasRoomAtTails rule b → 0 < room b
HasRoomAtTails-empty rule b l h = h b whole (gets_return-empty rule b l)

-- a block that gets a return by the old rule
pub HasRoomAtTails-open : (rule : Rule) (b : Block) → gets_return Old (tree_of b) ≡ true → HasRoomAtTails rule b → 0 < room b
HasRoomAtTails-open rule b gets h = h b whole (gets_return-wider rule (tree_of b) gets)

pub HasRoomAtTails-nested : (rule : Rule) (b : Block) (i : ℕ) (inner : Block) → length (pairs b) ≡ suc i → slice_get (statements b) i ≡ Some (variant.Block inner) → HasRoomAtTails rule b → HasRoomAtTails rule inner
HasRoomAtTails-nested rule b i inner l found h = HasRoomInside-Block rule inner (HasRoomAtTails-inside rule b i (variant.Block inner) l found h)

-- ---- from the last statement of a block to the block

-- the tail blocks of `c` have spare capacity if `c` has it when it gets a return, and the tail blocks in the last
-- statement have it
HasRoomAtTails-from : (rule : Rule) (c : Block) → (gets_return rule (tree_of c) ≡ true → 0 < room c) → ((last : Statement) → EndsIn c last → HasRoomInside rule last) → (tail : Block) → IsTailBlock tail c → gets_return rule (tree_of tail) ≡ true → 0 < room tail
HasRoomAtTails-from rule c own inside tail whole gets = own gets
HasRoomAtTails-from rule c own inside tail (at_end {last = last} ends among) gets = inside last ends tail among gets

-- after a statement was written at the last position, the block ends in it
EndsIn-with_statement : (b c : Block) (i : ℕ) (new last : Statement) → length (pairs b) ≡ suc i → pairs c ≡ pairs (with_statement b i new) → EndsIn c last → last ≡ new
EndsIn-with_statement b c i new last l is ends =
    let y : Statement × Span = get_or (pairs (with_statement b i new)) i (new, undefined) in
    let inside : i < length (pairs b) = omega arith in
    let len : length (pairs c) ≡ suc i = ap length is ∙ length-set (pairs b) i _ ∙ l in
    let found : slice_get (statements c) i ≡ Some last =
    subst (λ (k : ℕ). slice_get (statements c) k ≡ Some last) (omega (arith, len)) ends
    in
    let within : i < length (pairs c) = omega (arith, len) in
    sym (get_or_from_slice_get (statements c) i last last found) ∙ get_or-map (λ (p : Statement × Span). p.0) (pairs c) i (new, undefined) last within ∙ ap (λ (ps : List (Statement × Span)). (get_or ps i (new, undefined)).0) is ∙ ap (λ (p : Statement × Span). p.0) (get_or-set_same (pairs b) i _ (new, undefined) inside)

-- the tail blocks have spare capacity if those in the last statement have it, and no return follows that statement
pub HasRoomAtTails-from_inside : (rule : Rule) (b : Block) (i : ℕ) (old new : Statement) → length (pairs b) ≡ suc i → slice_get (statements b) i ≡ Some old → follows rule (node_of old) ≡ false → node_of new ≡ node_of old → HasRoomInside rule new → HasRoomAtTails rule (with_statement b i new)
HasRoomAtTails-from_inside rule b i old new l found shut same h =
    let by = by_last b i old new [] l found in
    let c : Block = with_statement b i new in
    let written : tree_of c ≡ push by.before (node_of new) by.span = ap (pushed empty) (sym (append-nil (pairs c))) ∙ by.written in
    let kept : gets_return rule (tree_of c) ≡ false = ap (gets_return rule) written ∙ ap (follows rule) same ∙ shut in
    HasRoomAtTails-from rule c (λ gets. absurd (cc (gets, kept))) (λ last ends. subst (HasRoomInside rule) (sym (EndsIn-with_statement b c i new last l refl ends)) h)

-- the tail blocks have spare capacity if those in the last statement have it, and so has the block itself
pub HasRoomAtTails-from_last : (rule : Rule) (b c : Block) (i : ℕ) (new : Statement) → length (pairs b) ≡ suc i → pairs c ≡ pairs (with_statement b i new) → HasRoomInside rule new → 0 < room c → HasRoomAtTails rule c
HasRoomAtTails-from_last rule b c i new l is inside h =
    HasRoomAtTails-from rule c (λ gets. h) (λ last ends. subst (HasRoomInside rule) (sym (EndsIn-with_statement b c i new last l is ends)) inside)

-- the tail blocks have spare capacity if the block is empty and has it
pub HasRoomAtTails-from_empty : (rule : Rule) (c : Block) → length (pairs c) ≡ 0 → 0 < room c → HasRoomAtTails rule c
HasRoomAtTails-from_empty rule c l h = HasRoomAtTails-from rule c (λ gets. h) (λ last ends. absurd (omega (arith, none last ends, l))) where
  none : (last : Statement) → EndsIn c last → length (pairs c) - 1 < length (pairs c)
  none last ends = rw (length-map (pairs c) (λ pair. pair.0)) at (slice_get_within (statements c) (length (pairs c) - 1) last ends)

-- a block whose last statement was written back as it was
pub HasRoomAtTails-rewritten : (rule : Rule) (b : Block) (i : ℕ) (last : Statement) → length (pairs b) ≡ suc i → slice_get (statements b) i ≡ Some last → HasRoomAtTails rule b → HasRoomAtTails rule (with_statement b i last)
HasRoomAtTails-rewritten rule b i last l found h =
    let c : Block = with_statement b i last in
    let same : tree_of c ≡ tree_of b = tree_of-SameNode b i last last l found refl in
    HasRoomAtTails-from rule c (λ gets. h b whole (sym (ap (gets_return rule) same) ∙ gets))
    (λ other ends. subst (HasRoomInside rule) (sym (EndsIn-with_statement b c i last other l refl ends)) (HasRoomAtTails-inside rule b i last l found h))

-- a block that ends in a jump, which was written back as it was
pub HasRoomAtTails-jump : (rule : Rule) (b : Block) (i : ℕ) (last : Statement) (to : Jump) → length (pairs b) ≡ suc i → slice_get (statements b) i ≡ Some last → node_of last ≡ jump to → HasRoomAtTails rule (with_statement b i last)
HasRoomAtTails-jump rule b i last to l found is =
    HasRoomAtTails-from_inside rule b i last last l found (ap (follows rule) is) refl (HasRoomInside-shallow rule last (ap is_shallow is))

-- ---- blocks in which returns were inserted

-- no return follows the new last statement
pub HasRoomAtTails-shut : (rule : Rule) (b : Block) (i : ℕ) (old new : Statement) → length (pairs b) ≡ suc i → slice_get (statements b) i ≡ Some old → follows rule (node_of new) ≡ false → HasRoomInside rule new → HasRoomAtTails rule (with_statement b i new)
HasRoomAtTails-shut rule b i old new l found shut h =
    let by = by_last b i old new [] l found in
    let c : Block = with_statement b i new in
    let written : tree_of c ≡ push by.before (node_of new) by.span = ap (pushed empty) (sym (append-nil (pairs c))) ∙ by.written in
    let kept : gets_return rule (tree_of c) ≡ false = ap (gets_return rule) written ∙ shut in
    HasRoomAtTails-from rule c (λ gets. absurd (cc (gets, kept))) (λ last ends. subst (HasRoomInside rule) (sym (EndsIn-with_statement b c i new last l refl ends)) h)

abbrev is_shallow_last : Tree → Bool
is_shallow_last empty = true
is_shallow_last (push front last span) = is_shallow last

-- a block at whose end a return was inserted
pub HasRoomAtTails-returned : (rule : Rule) (c : Block) (front : Tree) → tree_of c ≡ returned front → HasRoomAtTails rule c
HasRoomAtTails-returned rule c front is =
    HasRoomAtTails-from rule c (λ gets. absurd (let e : false ≡ true = sym (ap (gets_return rule) is) ∙ gets in cc))
    (λ last ends. HasRoomInside-shallow rule last (sym (ap is_shallow_last (by_last c (length (pairs c) - 1) last last [] (length-by_last c last ends) ends).whole) ∙ ap is_shallow_last is))
