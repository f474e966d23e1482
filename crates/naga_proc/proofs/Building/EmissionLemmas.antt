-- The statements that emit ranges of an arena, while the arena grows.
use Rattle.std.proofs.Common.{◌≡◌, ◌∙◌, sym, ap, refl, ℕ, zero, suc, ◌+◌, ◌-◌, ◌<◌, ◌≤◌, true, cond, subst, Option, List, [], ◌∷◌, ◌++◌, length, map, take, drop, Some, None, arith}
use Rattle.std.proofs.lemmas.Iterator.{YieldsList, items_from_drains}
use Rattle.std.proofs.lemmas.List.{map-append, length-map, drop-append-le, take-append-le, length-drop, drop_more}
use Rattle.std.proofs.lemmas.Option.{unwrap_or-slice_get}
use Rattle.std.specs.Iterator.{DrainsIf}
use Rattle.std.specs.Iterator.Runs.{Run, YieldsRun}
use Rattle.std.specs.List.{range_with_len}
use Rattle.std.specs.Prelude.{slice_range, option_to_list}
use Rattle.naga_arena.specs.Arena.{spans, span_at}
use Rattle.naga_arena.specs.Span.{undefined, total}
use Rattle.naga_arena.specs.declared.span.Span.{Span}
use Rattle.naga_ir.specs.declared.expression.Expression.{Expression}
use Rattle.naga_ir.specs.declared.statement.Statement.TheVariants.{Emit}
use Rattle.naga_proc.specs.Building.{listed_with}
use Rattle.naga_proc.specs.Building.Emission.{is_filled, emission}
use Rattle.naga_proc.specs.declared.builder.BuildCommand.{BuildCommand}
use Rattle.naga_proc.specs.declared.builder.BuildCommand.TheVariants.{Start, Append, Finish, Push}
use Rattle.naga_proc.proofs.Building.IsAscendingLemmas.{IsAscending, IsAscending-ends}

-- the items of a complete run of an iterator are the list that the iterator is known to yield
pub items-from_run : {S A B : Type 0} {steps : S → Option A → S → Type 0} {v : A → B} {s : S} {all : List B} (run : Run steps) → run.from ≡ s → run.whole ≡ true → YieldsList steps v s all → map v run.items ≡ all
unfolding YieldsRun
items-from_run {steps = steps} run from whole road =
    let gave = run.gave.0 in
    let drained : DrainsIf steps (Unit {0}) run.from run.items = (gave.0, gave.1, λ _. gave.2 whole) in
    items_from_drains run.items (subst (λ s. DrainsIf steps (Unit {0}) s run.items) from drained) road

-- looking up the span at each position of a range results in the spans of that range
span_at-range : (arena : List (Expression × Span)) (n from : ℕ) → from + n ≤ length (spans arena) → map (λ i. span_at arena i) (range_with_len from n) ≡ take n (drop from (spans arena))
span_at-range arena zero from h = refl
span_at-range arena (suc n) from h =
    let inside : from < length (spans arena) = omega arith in
    let rest = span_at-range arena n (from + 1) (omega arith) in
    let first = unwrap_or-slice_get (spans arena) from undefined in
    (λ i. first i ∷ rest i) ∙ sym (ap (take (suc n)) (drop_more (spans arena) from undefined inside))

-- the `Emit` of a range that is not empty, with the total of the spans that were looked up there, is its emission
pub emission-filled : (arena : List (Expression × Span)) (range : ℕ × ℕ) (span : Span) (looked_up : List Span) →
    range.0 < range.1 → range.1 ≤ length arena → span ≡ total looked_up →
    looked_up ≡ map (λ i. span_at arena i) (range_with_len range.0 (range.1 - range.0)) → emission arena range ≡ Some (Emit range, span)
emission-filled arena range span looked_up filled inside joined found =
    let differ : is_filled range ≡ true = grind (arith, filled) in
    let within : range.0 + (range.1 - range.0) ≤ length (spans arena) = omega (arith, filled, inside, length-map arena (λ pair. pair.1)) in
    let all = span_at-range arena (range.1 - range.0) range.0 within in
    ap (λ b. cond b (Some (Emit range, total (slice_range (spans arena) range.0 range.1))) None) differ
    ∙ ap (λ whole. Some (Emit range, whole)) (sym (joined ∙ ap total (found ∙ all)))

pub slice_range-append : {X : Type 0} (xs ys : List X) (from to : ℕ) → from ≤ to → to ≤ length xs → slice_range (xs ++ ys) from to ≡ slice_range xs from to
slice_range-append xs ys from to ordered within =
    let room : to - from ≤ length (drop from xs) = omega (arith, length-drop from xs) in
    ap (take (to - from)) (drop-append-le from xs ys (omega arith)) ∙ take-append-le (to - from) (drop from xs) ys room

-- appending to the arena does not change the emission of an earlier range
pub emission-append : (arena more : List (Expression × Span)) (range : ℕ × ℕ) → range.0 ≤ range.1 → range.1 ≤ length arena → emission (arena ++ more) range ≡ emission arena range
emission-append arena more range ordered within =
    let inside : range.1 ≤ length (spans arena) = omega (arith, length-map arena (λ pair. pair.1)) in
    let same : slice_range (spans (arena ++ more)) range.0 range.1 ≡ slice_range (spans arena) range.0 range.1 =
    ap (λ places. slice_range places range.0 range.1) (map-append (λ pair. pair.1) arena more)
    ∙ slice_range-append (spans arena) (spans more) range.0 range.1 ordered inside
    in
    ap (λ places. cond (is_filled range) (Some (Emit range, total places)) None) same

-- appending to the arena does not change the listed statements
pub listed_with-grown : (arena more : List (Expression × Span)) (commands : List BuildCommand) (ranges : List (ℕ × ℕ)) (low high : ℕ) → IsAscending low ranges high → high ≤ length arena → listed_with (arena ++ more) commands ranges ≡ listed_with arena commands ranges
listed_with-grown arena more [] ranges low high ascending within = refl
listed_with-grown arena more (Push statement span ∷ rest) ranges low high ascending within =
    ap (λ listed. (statement, span) ∷ listed) (listed_with-grown arena more rest ranges low high ascending within)
listed_with-grown arena more (Finish ∷ rest) [] low high ascending within =
    listed_with-grown arena more rest [] low high ascending within
listed_with-grown arena more (Finish ∷ rest) (range ∷ ranges) low high ascending within =
    let inside : range.1 ≤ length arena = omega (arith, IsAscending-ends range.1 ranges high ascending.2) in
    let first = emission-append arena more range ascending.1 inside in
    let later = listed_with-grown arena more rest ranges range.1 high ascending.2 within in
    λ i. option_to_list (first i) ++ later i
listed_with-grown arena more (Start ∷ rest) ranges low high ascending within =
    listed_with-grown arena more rest ranges low high ascending within
listed_with-grown arena more (Append expression span ∷ rest) ranges low high ascending within =
    listed_with-grown arena more rest ranges low high ascending within
