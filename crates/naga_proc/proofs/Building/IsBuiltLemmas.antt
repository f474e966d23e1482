-- The state after some commands, and after one more command.
use Rattle.std.proofs.Common.{◌≡◌, ◌∙◌, sym, ap, refl, subst, ℕ, ◌+◌, ◌≤◌, false, List, [], ◌∷◌, ◌++◌, length, append-nil, length-append, Option, Some, None, arith}
use Rattle.std.proofs.lemmas.List.Elements.{filter-append}
use Rattle.std.proofs.lemmas.List.Sums.{fold_push}
use Rattle.std.proofs.lemmas.Slice.Zip.{length-zip}
use Rattle.std.specs.Prelude.{is_some, filter, option_to_list}
use Rattle.naga_arena.specs.declared.span.Span.{Span}
use Rattle.naga_ir.specs.declared.expression.Expression.{Expression}
use Rattle.naga_ir.specs.declared.statement.Statement.{Statement}
use Rattle.naga_proc.specs.Building.{appended, starts, finishes, lengths, emitted, listed, listed_with, runs_after, is_running}
use Rattle.naga_proc.specs.Building.Emission.{is_filled, emission}
use Rattle.naga_proc.specs.declared.builder.BuildCommand.{BuildCommand}
use Rattle.naga_proc.specs.declared.builder.BuildCommand.TheVariants.{Start, Append, Finish, Push}
use Rattle.naga_proc.proofs.Building.AppendedLemmas.{appended-append, appended-without, starts-without, finishes-without, starts-Start, finishes-Finish, lengths-without, lengths-Start, lengths-Finish, listed_with-append}
use Rattle.naga_proc.proofs.Building.EmissionLemmas.{listed_with-grown}
use Rattle.naga_proc.proofs.Building.IsAscendingLemmas.{IsAscending, IsAscending-push, IsAscending-higher}

-- every Start has its Finish
pub record IsIdle (commands : List BuildCommand) : Type 0 where
  pub matched : length (starts commands) ≡ length (finishes commands)
  pub ascending : IsAscending 0 (lengths commands) (length (appended commands))

-- the last Start has no Finish yet
pub record IsRunningFrom (commands : List BuildCommand) (start : ℕ) : Type 0 where
  pub earlier : List ℕ
  pub begun : starts commands ≡ earlier ++ start ∷ []
  pub matched : length earlier ≡ length (finishes commands)
  pub ascending : IsAscending 0 (lengths commands) start
  pub within : start ≤ length (appended commands)

-- the state of the emitter after these commands
abbrev pub Stands : List BuildCommand → Option ℕ → Type 0
Stands commands None = IsIdle commands
Stands commands (Some start) = IsRunningFrom commands start

-- these commands have built this arena, this block and these ranges, and have left the emitter in this state
pub record IsBuilt (commands : List BuildCommand) (arena : List (Expression × Span)) (block : List (Statement × Span)) (ranges : List (ℕ × ℕ)) (emitter : Option ℕ) : Type 0 where
  pub arena_is : arena ≡ appended commands
  pub block_is : block ≡ listed commands
  pub ranges_are : ranges ≡ emitted commands
  pub running : is_running commands ≡ is_some emitter
  pub stands : Stands commands emitter

-- there are as many ranges as Finish commands, and all of them are within the arena
pub record HasRanges (commands : List BuildCommand) : Type 0 where
  pub counted : length (lengths commands) ≡ length (finishes commands)
  pub high : ℕ
  pub ascending : IsAscending 0 (lengths commands) high
  pub within : high ≤ length (appended commands)

pub HasRanges-from_stands : (commands : List BuildCommand) (emitter : Option ℕ) → Stands commands emitter → HasRanges commands
HasRanges-from_stands commands None idle = record {
  counted = omega (arith, length-zip (starts commands) (finishes commands), idle.matched);
  high = length (appended commands);
  ascending = idle.ascending;
  within = omega arith;
}
HasRanges-from_stands commands (Some start) running =
    let longer : length (starts commands) ≡ length running.earlier + 1 = ap length running.begun ∙ length-append running.earlier (start ∷ []) in
    record {
      counted = omega (arith, length-zip (starts commands) (finishes commands), running.matched, longer);
      high = start;
      ascending = running.ascending;
      within = running.within;
    }

-- ---- one more command

-- one more command, which adds the ranges `more`, appends the statements that are listed for it and these ranges
listed-push : (commands : List BuildCommand) (command : BuildCommand) (more : List (ℕ × ℕ)) → HasRanges commands → lengths (commands ++ command ∷ []) ≡ lengths commands ++ more → listed (commands ++ command ∷ []) ≡ listed commands ++ listed_with (appended (commands ++ command ∷ [])) (command ∷ []) more
listed-push commands command more known same =
    let arena = appended (commands ++ command ∷ []) in
    let added = appended (command ∷ []) in
    ap (listed_with arena (commands ++ command ∷ [])) same
    ∙ listed_with-append arena commands (command ∷ []) (lengths commands) more known.counted
    ∙ ap (λ front. front ++ listed_with arena (command ∷ []) more) (
    ap (λ grown. listed_with grown commands (lengths commands)) (appended-append commands (command ∷ []))
    ∙ listed_with-grown (appended commands) added commands (lengths commands) 0 known.high known.ascending known.within
    )

-- after one more command, the emitter is running if and only if `runs_after` is true
is_running-push : (commands : List BuildCommand) (command : BuildCommand) → is_running (commands ++ command ∷ []) ≡ runs_after (is_running commands) command
is_running-push commands command = fold_push runs_after false commands command

-- a command that is neither a Start nor a Finish leaves the state of the emitter unchanged
Stands-kept : (commands : List BuildCommand) (command : BuildCommand) (emitter : Option ℕ) → starts (command ∷ []) ≡ [] → finishes (command ∷ []) ≡ [] → Stands commands emitter → Stands (commands ++ command ∷ []) emitter
Stands-kept commands command None no_start no_finish idle =
    let same_starts = starts-without commands command no_start in
    let same_finishes = finishes-without commands command no_finish in
    let same = lengths-without commands command no_start no_finish in
    let longer = ap length (appended-append commands (command ∷ [])) ∙ length-append (appended commands) (appended (command ∷ [])) in
    record {
      matched = ap length same_starts ∙ idle.matched ∙ sym (ap length same_finishes);
      ascending = subst (λ ranges. IsAscending 0 ranges (length (appended (commands ++ command ∷ [])))) (sym same) (IsAscending-higher 0 (lengths commands) _ _ idle.ascending (omega (arith, longer)));
    }
Stands-kept commands command (Some start) no_start no_finish running =
    let same_starts = starts-without commands command no_start in
    let same_finishes = finishes-without commands command no_finish in
    let same = lengths-without commands command no_start no_finish in
    let longer = ap length (appended-append commands (command ∷ [])) ∙ length-append (appended commands) (appended (command ∷ [])) in
    record {
      earlier = running.earlier;
      begun = same_starts ∙ running.begun;
      matched = running.matched ∙ sym (ap length same_finishes);
      ascending = subst (λ ranges. IsAscending 0 ranges start) (sym same) running.ascending;
      within = omega (arith, longer, running.within);
    }

pub IsBuilt-Start : (commands : List BuildCommand) (arena : List (Expression × Span)) (block : List (Statement × Span)) (ranges : List (ℕ × ℕ)) → IsBuilt commands arena block ranges None → IsBuilt (commands ++ Start ∷ []) arena block ranges (Some (length arena))
IsBuilt-Start commands arena block ranges built =
    let idle : IsIdle commands = built.stands in
    let known = HasRanges-from_stands commands None idle in
    let same = lengths-Start commands idle.matched in
    let same_arena = appended-without commands Start refl in
    let at_length : length arena ≡ length (appended commands) = ap length built.arena_is in
    record {
      arena_is = built.arena_is ∙ sym same_arena;
      block_is = built.block_is ∙ sym (listed-push commands Start [] known (same ∙ sym (append-nil _)) ∙ append-nil _);
      ranges_are = built.ranges_are ∙ ap (filter is_filled) (sym same);
      running = is_running-push commands Start;
      stands = record {
        earlier = starts commands;
        begun = starts-Start commands ∙ ap (λ start. starts commands ++ start ∷ []) (sym at_length);
        matched = idle.matched ∙ sym (ap length (finishes-without commands Start refl));
        ascending = subst (λ pairs. IsAscending 0 pairs (length arena)) (sym same) (subst (λ high. IsAscending 0 (lengths commands) high) (sym at_length) idle.ascending);
        within = omega (arith, at_length, ap length same_arena);
      };
    }

pub IsBuilt-Append : (commands : List BuildCommand) (arena : List (Expression × Span)) (block : List (Statement × Span)) (ranges : List (ℕ × ℕ)) (emitter : Option ℕ) (expression : Expression) (span : Span) → IsBuilt commands arena block ranges emitter → IsBuilt (commands ++ Append expression span ∷ []) (arena ++ (expression, span) ∷ []) block ranges emitter
IsBuilt-Append commands arena block ranges emitter expression span built =
    let command = Append expression span in
    let known = HasRanges-from_stands commands emitter built.stands in
    let same = lengths-without commands command refl refl in
    record {
      arena_is = ap (λ front. front ++ (expression, span) ∷ []) built.arena_is ∙ sym (appended-append commands (command ∷ []));
      block_is = built.block_is ∙ sym (listed-push commands command [] known (same ∙ sym (append-nil _)) ∙ append-nil _);
      ranges_are = built.ranges_are ∙ ap (filter is_filled) (sym same);
      running = is_running-push commands command ∙ built.running;
      stands = Stands-kept commands command emitter refl refl built.stands;
    }

pub IsBuilt-Push : (commands : List BuildCommand) (arena : List (Expression × Span)) (block : List (Statement × Span)) (ranges : List (ℕ × ℕ)) (emitter : Option ℕ) (statement : Statement) (span : Span) → IsBuilt commands arena block ranges emitter → IsBuilt (commands ++ Push statement span ∷ []) arena (block ++ (statement, span) ∷ []) ranges emitter
IsBuilt-Push commands arena block ranges emitter statement span built =
    let command = Push statement span in
    let known = HasRanges-from_stands commands emitter built.stands in
    let same = lengths-without commands command refl refl in
    record {
      arena_is = built.arena_is ∙ sym (appended-without commands command refl);
      block_is =
          ap (λ front. front ++ (statement, span) ∷ []) built.block_is ∙ sym (listed-push commands command [] known (same ∙ sym (append-nil _)));
      ranges_are = built.ranges_are ∙ ap (filter is_filled) (sym same);
      running = is_running-push commands command ∙ built.running;
      stands = Stands-kept commands command emitter refl refl built.stands;
    }

pub IsBuilt-Finish : (commands : List BuildCommand) (arena : List (Expression × Span)) (block : List (Statement × Span)) (ranges : List (ℕ × ℕ)) (start : ℕ) → IsBuilt commands arena block ranges (Some start) → IsBuilt (commands ++ Finish ∷ []) arena (block ++ option_to_list (emission arena (start, length arena))) (ranges ++ filter is_filled ((start, length arena) ∷ [])) None
IsBuilt-Finish commands arena block ranges start built =
    let running : IsRunningFrom commands start = built.stands in
    let known = HasRanges-from_stands commands (Some start) running in
    let end' = length (appended commands) in
    let at_length : length arena ≡ end' = ap length built.arena_is in
    let one_more = lengths-Finish commands running.earlier start running.begun running.matched in
    let same_arena = appended-without commands Finish refl in
    let emits = ap (λ a. option_to_list (emission a (start, length a))) built.arena_is in
    let emits_late = ap (λ a. option_to_list (emission a (start, end'))) (sym same_arena) in
    record {
      arena_is = built.arena_is ∙ sym same_arena;
      block_is =
          (λ i. built.block_is i ++ (emits ∙ emits_late) i)
          ∙ sym (
          listed-push commands Finish ((start, end') ∷ []) known one_more
          ∙ ap (λ rest. listed commands ++ rest) (append-nil _)
          );
      ranges_are =
          (λ i. built.ranges_are i ++ filter is_filled ((start, at_length i) ∷ []))
          ∙ sym (ap (filter is_filled) one_more ∙ filter-append is_filled (lengths commands) ((start, end') ∷ []));
      running = is_running-push commands Finish;
      stands = record {
        matched =
            ap length (starts-without commands Finish refl) ∙ ap length running.begun ∙ length-append running.earlier (start ∷ [])
            ∙ ap (λ n. n + 1) running.matched
            ∙ sym (ap length (finishes-Finish commands) ∙ length-append (finishes commands) (end' ∷ []));
        ascending =
            subst (λ pairs. IsAscending 0 pairs (length (appended (commands ++ Finish ∷ [])))) (sym one_more)
            (subst (λ high. IsAscending 0 (lengths commands ++ (start, end') ∷ []) high) (sym (ap length same_arena))
            (IsAscending-push 0 (lengths commands) start end' running.ascending running.within));
      };
    }
