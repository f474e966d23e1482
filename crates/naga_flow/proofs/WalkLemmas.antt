-- Walks over blocks and over statements.
use Rattle.std.proofs.Common.{◌≡◌, ◌∙◌, ◌≤◌, ◌⊎◌, ℕ, inl, inr, Bool, true, false, ◌||◌, List, [], ◌∷◌, ◌++◌, Option, Result, Ok, Err, length, take, refl, sym, ap, subst, arith, option_to_list}
use Rattle.std.proofs.lemmas.List.{take-take}
use Rattle.std.specs.Prelude.{IfOk}
use Rattle.naga_arena.specs.declared.span.Span.{Span}
use Rattle.naga_ir.specs.Tree.{Tree, empty, push, Node, plain, branch, loop, jump, return}
use Rattle.naga_ir.specs.View.{cases_of, node_of, pushed, tree_of}
use Rattle.naga_ir.specs.declared.statement.Statement.{Statement}
use Rattle.naga_ir.specs.declared.statement.SwitchCase.{SwitchCase}
use Rattle.naga_flow.specs.Jumps.{numbered}
use Rattle.naga_flow.specs.Misuses.{BlockMisuse, CasesMisuse, IfMisuse, IsAt, IsUnread, Judged, NodeMisuse, PlainMisuse, number_after, number_after_cases, number_after_node}
use Rattle.naga_flow.specs.Results.{evaluated_by}
use Rattle.naga_flow.specs.Scopes.{AreNew, BlockPasses, CasesPass, NodePasses}
use Rattle.naga_flow.specs.Tracking.{AreSame, Seen, all_known, known_of, scope_of}
use Rattle.naga_flow.specs.Uses.{Expressions, MayUse, MayUseEach, PlainUsesKnown, after_body, certain, values_of, values_of_node, where_reached}
use Rattle.naga_flow.specs.Walked.{BreaksWrong, EndsBranch, EndsLoop, HasEnded, HasKept, HasPassed, HasPassedCases, HasPassedInner, HasWalked, IfPassed, either_passed, passed_if, walked_on}
use Rattle.naga_flow.specs.Ways.{either, may_be_passed, may_go_on, only_off, out_of_case, ways_of_cases, ways_of_node}
use Rattle.naga_flow.specs.declared.invalid_use.InvalidUse.{InvalidUse}
use Rattle.naga_flow.specs.declared.invalid_use.Misuse.{Misuse}
use Rattle.naga_flow.specs.declared.walked.Passed.{Passed}
use Rattle.naga_flow.specs.declared.walked.Walked.{Walked}
use Rattle.naga_flow.specs.declared.ways.Ways.{Ways}
use Rattle.naga_flow.proofs.HasWalkedLemmas.{HasWalked-next}
use Rattle.naga_flow.proofs.IncludesLemmas.{AreSame-chain, AreSame-joined}
use Rattle.naga_flow.proofs.MisusesLemmas.{BlockMisuse-same, IfMisuse-passed_on, IsUnread-same, Judged-mapped, NodeMisuse-same}
use Rattle.naga_flow.proofs.ScopesLemmas.{BlockPasses-same}
use Rattle.naga_flow.proofs.SeenLemmas.{all_known-nothing, known-after, scope-after}
use Rattle.naga_flow.proofs.UsesKnownLemmas.{MayUseEach-more}

-- ---- blocks

-- the statements before `rest` have been walked over
pub record IsWalking (expressions : Expressions) (number : ℕ) (old : List Seen) (whole : Tree) (rest : List (Statement × Span)) (walked : Walked) (now : List Seen) : Type 0 where
  pub front : Tree
  pub parts : pushed front rest ≡ whole
  pub has : HasWalked expressions number old front walked now

module _ (expressions : Expressions) (number : ℕ) (old : List Seen) where
  pub IsWalking-start : (whole rest : List (Statement × Span)) (walked : Walked) → rest ≡ whole → HasWalked expressions number old empty walked old →
      IsWalking expressions number old (pushed empty whole) rest walked old
  IsWalking-start whole rest walked is has = record { front = empty; parts = ap (pushed empty) is; has = has }

  -- a misuse in the first statements
  BlockMisuse-pushed : (misuse : Misuse) (front : Tree) (rest : List (Statement × Span)) → BlockMisuse expressions number (known_of old) (scope_of old) front misuse →
      BlockMisuse expressions number (known_of old) (scope_of old) (pushed front rest) misuse
  BlockMisuse-pushed misuse front [] h = h
  BlockMisuse-pushed misuse front (x ∷ rest) h = BlockMisuse-pushed misuse (push front (node_of x.0) x.1) rest (inl h)

  module _ (whole : Tree) (now rest : List (Statement × Span)) (statement : Statement) (span : Span) (walked : Walked) (order : List Seen)
      (is : now ≡ (statement, span) ∷ rest) (so : IsWalking expressions number old whole now walked order) where
    at : pushed (push so.front (node_of statement) span) rest ≡ whole
    at = sym (ap (pushed so.front) is) ∙ so.parts

    pub IsWalking-next : (passed : Passed) (order' : List Seen) (len : ℕ) → len ≡ length order' → HasPassed expressions walked.next order (node_of statement) passed order' →
        IsWalking expressions number old whole rest (walked_on walked passed len) order'
    IsWalking-next passed order' len length_is more = record {
      front = push so.front (node_of statement) span;
      parts = at;
      has = subst (λ n. HasWalked expressions number old (push so.front (node_of statement) span) (walked_on walked passed n) order') (sym length_is)
          (HasWalked-next expressions number old so.front (node_of statement) span order order' walked passed so.has more);
    }

    pub IsWalking-fails : (misuse : Misuse) → NodeMisuse expressions walked.next span (known_of order) (scope_of order) (node_of statement) misuse →
        BlockMisuse expressions number (known_of old) (scope_of old) whole misuse
    IsWalking-fails misuse h =
        let here = NodeMisuse-same expressions misuse walked.next span (known_of order) (values_of so.front ++ known_of old) (scope_of order) (values_of so.front ++ scope_of old) (node_of statement)
        (known-after old order (values_of so.front) so.has.is) (scope-after old order (values_of so.front) so.has.is) h
        in
        let there = subst (λ n. NodeMisuse expressions n span (values_of so.front ++ known_of old) (values_of so.front ++ scope_of old) (node_of statement) misuse) so.has.next here in
        subst (λ block. BlockMisuse expressions number (known_of old) (scope_of old) block misuse) at
        (BlockMisuse-pushed misuse (push so.front (node_of statement) span) rest (inr (so.has.passes, there)))

  pub IsWalking-end : (whole : Tree) (now : List (Statement × Span)) (walked : Walked) (order : List Seen) → now ≡ [] → IsWalking expressions number old whole now walked order →
      HasWalked expressions number old whole walked order
  IsWalking-end whole now walked order is so =
      subst (λ block. HasWalked expressions number old block walked order) (sym (ap (pushed so.front) is) ∙ so.parts) so.has

-- ---- statements

module _ (expressions : Expressions) (number : ℕ) (old now : List Seen) where
  pub HasPassed-as : (node : Node) (passed : Passed) (next : ℕ) (ways : Ways) → passed ≡ record { next = next; ways = ways } →
      next ≡ number_after_node number node → ways ≡ ways_of_node node → NodePasses expressions (known_of old) (scope_of old) node →
      now ≡ old ++ all_known (values_of_node node) → HasPassed expressions number old node passed now
  HasPassed-as node passed next ways is next_is ways_are passes now_is = record {
    passes = passes;
    is = now_is;
    next = ap (λ (p : Passed). p.next) is ∙ next_is;
    ways = ap (λ (p : Passed). p.ways) is ∙ ways_are;
  }

  pub unchanged-is : now ≡ old → now ≡ old ++ all_known []
  unchanged-is is = is ∙ all_known-nothing old

-- a statement without blocks
pub passed_if-judged : (found : Result (Unit {0}) InvalidUse) (next : ℕ) (ways : Ways) (result : Result Passed InvalidUse) (P : Type 0) (P' : Passed → Type 0) (Q Q' : Misuse → Type 0) →
    (P → P' (record { next = next; ways = ways })) → ((misuse : Misuse) → Q misuse → Q' misuse) → Judged found (λ _. P) Q → result ≡ passed_if found next ways → Judged result P' Q'
passed_if-judged (Ok done) next ways result P P' Q Q' there then h is = subst (λ r. Judged r P' Q') (sym is) (there h)
passed_if-judged (Err error) next ways result P P' Q Q' there then h is = subst (λ r. Judged {X = Passed} r P' Q') (sym is) (IfMisuse-passed_on error h then)

module _ (expressions : Expressions) (number : ℕ) (span : Span) (old new : List Seen) (node : Node) (next : ℕ) (next_is : next ≡ numbered number 1) (ways : Ways) (found : Result (Unit {0}) InvalidUse)
    (result : Result Passed InvalidUse) (is : result ≡ passed_if found next ways) where
  pub plain-walked : (what : Statement) → node ≡ plain what → ways ≡ only_off true →
      Judged found (λ _. PlainUsesKnown expressions (known_of old) what × AreNew (scope_of old) (evaluated_by what) × (new ≡ old ++ all_known (evaluated_by what)))
      (λ misuse. IsAt number span misuse × PlainMisuse expressions (known_of old) (scope_of old) what misuse) →
      Judged result (λ passed. HasPassed expressions number old node passed new) (NodeMisuse expressions number span (known_of old) (scope_of old) node)
  plain-walked what node_is ways_are h =
      subst (λ node. Judged result (λ passed. HasPassed expressions number old node passed new) (NodeMisuse expressions number span (known_of old) (scope_of old) node)) (sym node_is)
      (passed_if-judged found next ways result
      (PlainUsesKnown expressions (known_of old) what × AreNew (scope_of old) (evaluated_by what) × (new ≡ old ++ all_known (evaluated_by what)))
      (λ passed. HasPassed expressions number old (plain what) passed new)
      (λ misuse. IsAt number span misuse × PlainMisuse expressions (known_of old) (scope_of old) what misuse)
      (NodeMisuse expressions number span (known_of old) (scope_of old) (plain what))
      (λ k. record { passes = (k.0, k.1); is = k.2; next = next_is; ways = ways_are }) (λ misuse k. k) h is)

  pub return-walked : (value : Option ℕ) → node ≡ jump (return value) → ways ≡ only_off false → new ≡ old →
      Judged found (λ _. MayUseEach expressions (known_of old) (option_to_list value)) (λ misuse. IsAt number span misuse × IsUnread expressions (known_of old) (option_to_list value) misuse) →
      Judged result (λ passed. HasPassed expressions number old node passed new) (NodeMisuse expressions number span (known_of old) (scope_of old) node)
  return-walked value node_is ways_are new_is h =
      subst (λ node. Judged result (λ passed. HasPassed expressions number old node passed new) (NodeMisuse expressions number span (known_of old) (scope_of old) node)) (sym node_is)
      (passed_if-judged found next ways result (MayUseEach expressions (known_of old) (option_to_list value))
      (λ passed. HasPassed expressions number old (jump (return value)) passed new)
      (λ misuse. IsAt number span misuse × IsUnread expressions (known_of old) (option_to_list value) misuse)
      (NodeMisuse expressions number span (known_of old) (scope_of old) (jump (return value)))
      (λ k. record { passes = (k, tt); is = new_is ∙ all_known-nothing old; next = next_is; ways = ways_are }) (λ misuse k. k) h is)

-- ---- branches

module _ (expressions : Expressions) (number : ℕ) (old : List Seen) (condition : ℕ) (accept reject : Tree) (first : ℕ) (first_is : first ≡ numbered number 1)
    (used : MayUse expressions (known_of old) condition) where
  pub branch-fails : (span : Span) (misuse : Misuse) → BlockMisuse expressions first (known_of old) (scope_of old) accept misuse →
      NodeMisuse expressions number span (known_of old) (scope_of old) (branch condition accept reject) misuse
  branch-fails span misuse h = inr (used, inl (subst (λ n. BlockMisuse expressions n (known_of old) (scope_of old) accept misuse) first_is h))

  -- both blocks, by what was found of the second one
  pub branch-ends : (accepted : Passed) (now now' : List Seen) (span : Span) → HasPassedInner expressions first old accept accepted now → (rejected result : Result Passed InvalidUse) →
      Judged rejected (λ passed. HasPassedInner expressions accepted.next now reject passed now') (BlockMisuse expressions accepted.next (known_of now) (scope_of now) reject) →
      result ≡ either_passed accepted rejected →
      Judged result (λ passed. HasPassed expressions number old (branch condition accept reject) passed now') (NodeMisuse expressions number span (known_of old) (scope_of old) (branch condition accept reject))
  branch-ends accepted now now' span inner (Ok passed) result judged is =
      subst (λ r. Judged {X = Passed} r (λ passed. HasPassed expressions number old (branch condition accept reject) passed now') (NodeMisuse expressions number span (known_of old) (scope_of old) (branch condition accept reject)))
      (sym is)
      (let passes : BlockPasses expressions (known_of old) (scope_of old) reject =
      subst (λ all. BlockPasses expressions (known_of all) (scope_of all) reject) inner.unchanged judged.passes
      in record {
        passes = ((used, inner.passes.0, passes.0), (inner.passes.1, passes.1));
        is = (judged.unchanged ∙ inner.unchanged) ∙ all_known-nothing old;
        next = judged.next ∙ ap (λ n. number_after n reject) (inner.next ∙ ap (λ n. number_after n accept) first_is);
        ways = λ i. either (inner.ways i) (judged.ways i);
      })
  branch-ends accepted now now' span inner (Err error) result judged is =
      subst (λ r. Judged {X = Passed} r (λ passed. HasPassed expressions number old (branch condition accept reject) passed now') (NodeMisuse expressions number span (known_of old) (scope_of old) (branch condition accept reject)))
      (sym is)
      (IfMisuse-passed_on error judged (λ misuse h. inr (
        used,
        inr (
          inner.passes,
          subst (λ n. BlockMisuse expressions n (known_of old) (scope_of old) reject misuse) (inner.next ∙ ap (λ n. number_after n accept) first_is)
              (subst (λ all. BlockMisuse expressions accepted.next (known_of all) (scope_of all) reject misuse) inner.unchanged h),
        ),
      )))

-- a branch, by what was found of its first block
module _ (expressions : Expressions) (number : ℕ) (span : Span) (old : List Seen) (condition : ℕ) (accept reject : Tree) (first : ℕ) (first_is : first ≡ numbered number 1)
    (used : MayUse expressions (known_of old) condition) (now now' : List Seen) where
  pub branch-walked : (accepted result : Result Passed InvalidUse) →
      Judged accepted (λ passed. HasPassedInner expressions first old accept passed now) (BlockMisuse expressions first (known_of old) (scope_of old) accept) →
      IfPassed accepted result (λ passed. EndsBranch expressions passed now reject result now') →
      Judged result (λ passed. HasPassed expressions number old (branch condition accept reject) passed now') (NodeMisuse expressions number span (known_of old) (scope_of old) (branch condition accept reject))
  branch-walked (Ok accepted) result inner ends =
      branch-ends expressions number old condition accept reject first first_is used accepted now now' span inner ends.rejected result ends.judged ends.both
  branch-walked (Err error) result judged ends =
      subst (λ r. Judged {X = Passed} r (λ passed. HasPassed expressions number old (branch condition accept reject) passed now') (NodeMisuse expressions number span (known_of old) (scope_of old) (branch condition accept reject)))
      (sym ends) (IfMisuse-passed_on error judged (branch-fails expressions number old condition accept reject first first_is used span))

-- ---- loops

module _ (expressions : Expressions) (number : ℕ) (span : Span) (old : List Seen) (body continuing : Tree) (break_if : Option ℕ) (first : ℕ) (repeated : Passed) (now : List Seen)
    (first_is : first ≡ numbered number 1) where
  pub loop-repeats_fails : (misuse : Misuse) → BlockMisuse expressions first (known_of old) (scope_of old) body misuse →
      NodeMisuse expressions number span (known_of old) (scope_of old) (loop body continuing break_if) misuse
  loop-repeats_fails misuse h = inl (subst (λ n. BlockMisuse expressions n (known_of old) (scope_of old) body misuse) first_is h)

  module _ (kept : HasKept expressions first old body repeated now) (after : Expressions) (after_is : after ≡ where_reached (may_go_on repeated.ways) expressions) where
    repeated_is : repeated.next ≡ number_after (numbered number 1) body
    repeated_is = kept.next ∙ ap (λ n. number_after n body) first_is

    there : after ≡ after_body body expressions
    there = after_is ∙ ap (λ ways. where_reached (may_go_on ways) expressions) kept.ways

    pub loop-continues_fails : (misuse : Misuse) → BlockMisuse after repeated.next (known_of now) (scope_of now) continuing misuse →
        NodeMisuse expressions number span (known_of old) (scope_of old) (loop body continuing break_if) misuse
    loop-continues_fails misuse h =
        inr (
          kept.passes,
          inl (subst (λ ex. BlockMisuse ex (number_after (numbered number 1) body) (values_of (certain body) ++ known_of old) (values_of body ++ scope_of old) continuing misuse) there
              (subst (λ n. BlockMisuse after n (values_of (certain body) ++ known_of old) (values_of body ++ scope_of old) continuing misuse) repeated_is
              (BlockMisuse-same after misuse repeated.next (known_of now) (values_of (certain body) ++ known_of old) (scope_of now) (values_of body ++ scope_of old) continuing kept.known kept.scope h))),
        )

    module _ (continued : Passed) (now' : List Seen) (kept_too : HasKept after repeated.next now continuing continued now') where
      both_same : AreSame (known_of now') (values_of (certain continuing) ++ (values_of (certain body) ++ known_of old))
      both_same = AreSame-chain kept_too.known (AreSame-joined (values_of (certain continuing)) kept.known)

      passes_too : BlockPasses (after_body body expressions) (values_of (certain body) ++ known_of old) (values_of body ++ scope_of old) continuing
      passes_too =
          subst (λ ex. BlockPasses ex (values_of (certain body) ++ known_of old) (values_of body ++ scope_of old) continuing) there
          (BlockPasses-same after (known_of now) (values_of (certain body) ++ known_of old) (scope_of now) (values_of body ++ scope_of old) kept.known kept.scope continuing kept_too.passes)

      pub loop-breaks_fails : (misuse : Misuse) → IsAt number span misuse × IsUnread after (known_of now') (option_to_list break_if) misuse →
          NodeMisuse expressions number span (known_of old) (scope_of old) (loop body continuing break_if) misuse
      loop-breaks_fails misuse (at, h) =
          inr (
            kept.passes,
            inr (
              passes_too,
              at,
              subst (λ ex. IsUnread ex (values_of (certain continuing) ++ (values_of (certain body) ++ known_of old)) (option_to_list break_if) misuse) there
                  (IsUnread-same after misuse (known_of now') (values_of (certain continuing) ++ (values_of (certain body) ++ known_of old)) (option_to_list break_if) both_same h),
            ),
          )

      -- so much is left after the loop
      pub loop-within : length old ≤ length now'
      loop-within = let h = kept.within in let k = kept_too.within in omega (arith, h, k)

      pub loop-starts : take (length old) now' ≡ old
      loop-starts =
          sym (take-take (length old) (length now) now' kept.within) ∙ (ap (take (length old)) kept_too.starts ∙ kept.starts)

      pub loop-passes : MayUseEach after (known_of now') (option_to_list break_if) → (passed : Passed) (ways : Ways) (now'' : List Seen) (before : ℕ) → passed ≡ record { next = continued.next; ways = ways } →
          ways ≡ only_off true → before ≡ length old → now'' ≡ take before now' → HasPassed expressions number old (loop body continuing break_if) passed now''
      loop-passes used passed ways now'' before is ways_are before_is taken =
          HasPassed-as expressions number old now'' (loop body continuing break_if) passed continued.next ways is
          (kept_too.next ∙ ap (λ n. number_after n continuing) repeated_is) ways_are (
            (
              kept.passes.0,
              passes_too.0,
              subst (λ ex. MayUseEach ex (values_of (certain continuing) ++ (values_of (certain body) ++ known_of old)) (option_to_list break_if)) there
                  (MayUseEach-more after both_same.back (option_to_list break_if) used),
            ),
            (kept.passes.1, passes_too.1),
          )
          (taken ∙ (ap (λ n. take n now') before_is ∙ loop-starts) ∙ all_known-nothing old)

-- the end of a loop, by what was found of its break condition
module _ (expressions : Expressions) (number : ℕ) (span : Span) (before : ℕ) (old : List Seen) (continuing : Tree) (break_if : Option ℕ) (found : Result Passed InvalidUse) (repeated : Passed)
    (is : found ≡ Ok repeated) (after : Expressions) (after_is : after ≡ where_reached (may_go_on repeated.ways) expressions) (continued : Passed) (now new : List Seen)
    (kept : HasKept after repeated.next old continuing continued now) where
  pub ends-passes : MayUseEach after (known_of now) (option_to_list break_if) → (passed : Passed) → passed ≡ record { next = continued.next; ways = only_off true } → new ≡ take before now →
      IfPassed found (Ok passed) (λ repeated. EndsLoop expressions number span before repeated old continuing break_if (Ok passed) new)
  ends-passes used passed passed_is forgotten =
      subst (λ found. IfPassed found (Ok passed) (λ repeated. EndsLoop expressions number span before repeated old continuing break_if (Ok passed) new)) (sym is)
      (subst (λ ex. HasEnded ex before repeated old continuing break_if passed new) after_is
      (record { before_it = record { continued = continued; now = now; kept = kept }; used = used; passed_is = passed_is; forgotten = forgotten }))

  pub ends-fails : (error : InvalidUse) → IfMisuse error (λ misuse. IsAt number span misuse × IsUnread after (known_of now) (option_to_list break_if) misuse) →
      IfPassed found (Err error) (λ repeated. EndsLoop expressions number span before repeated old continuing break_if (Err error) new)
  ends-fails error h =
      subst (λ found. IfPassed found (Err error) (λ repeated. EndsLoop expressions number span before repeated old continuing break_if (Err error) new)) (sym is)
      (IfMisuse-passed_on error h (λ misuse k. inr (subst (λ ex. BreaksWrong ex number span repeated old continuing break_if misuse) after_is
      (record { before_it = record { continued = continued; now = now; kept = kept }; at = k.0; unread = k.1 }))))

-- a loop, by what was found of its body
module _ (expressions : Expressions) (number : ℕ) (span : Span) (old : List Seen) (body continuing : Tree) (break_if : Option ℕ) (first : ℕ) (first_is : first ≡ numbered number 1)
    (now new : List Seen) (before : ℕ) (before_is : before ≡ length old) where
  pub loop-walked : (repeated result : Result Passed InvalidUse) →
      Judged repeated (λ passed. HasKept expressions first old body passed now) (BlockMisuse expressions first (known_of old) (scope_of old) body) →
      IfPassed repeated result (λ passed. EndsLoop expressions number span before passed now continuing break_if result new) →
      Judged result (λ passed. HasPassed expressions number old (loop body continuing break_if) passed new) (NodeMisuse expressions number span (known_of old) (scope_of old) (loop body continuing break_if))
  loop-walked (Ok repeated) result kept ends =
      let after = where_reached (may_go_on repeated.ways) expressions in
      Judged-mapped result
      (λ passed. HasEnded after before repeated now continuing break_if passed new)
      (λ passed. HasPassed expressions number old (loop body continuing break_if) passed new)
      (λ misuse. BlockMisuse after repeated.next (known_of now) (scope_of now) continuing misuse ⊎ BreaksWrong after number span repeated now continuing break_if misuse)
      (NodeMisuse expressions number span (known_of old) (scope_of old) (loop body continuing break_if))
      (λ passed h. loop-passes expressions number span old body continuing break_if first repeated now first_is kept after refl h.before_it.continued h.before_it.now h.before_it.kept
      h.used passed (only_off true) new before h.passed_is refl before_is h.forgotten)
      (λ misuse h. elim h as (λ _. NodeMisuse expressions number span (known_of old) (scope_of old) (loop body continuing break_if) misuse) [
        | inl continued ↦ loop-continues_fails expressions number span old body continuing break_if first repeated now first_is kept after refl misuse continued
        | inr broken ↦
            loop-breaks_fails expressions number span old body continuing break_if first repeated now first_is kept after refl broken.before_it.continued broken.before_it.now broken.before_it.kept
            misuse (broken.at, broken.unread)
      ]) ends
  loop-walked (Err error) result judged ends =
      subst (λ r. Judged {X = Passed} r (λ passed. HasPassed expressions number old (loop body continuing break_if) passed new) (NodeMisuse expressions number span (known_of old) (scope_of old) (loop body continuing break_if)))
      (sym ends)
      (IfMisuse-passed_on error judged (λ misuse h. loop-repeats_fails expressions number span old body continuing break_if first (record { next = 0; ways = only_off true }) now first_is misuse h))

  pub loop-kept_within : (repeated : Result Passed InvalidUse) →
      Judged repeated (λ passed. HasKept expressions first old body passed now) (BlockMisuse expressions first (known_of old) (scope_of old) body) → IfOk repeated (λ _. before ≤ length now)
  loop-kept_within (Ok repeated) kept = let h = kept.within in omega (arith, before_is, h)
  loop-kept_within (Err error) judged = tt

-- ---- cases

-- the bodies of the cases before `rest` have been walked over
pub record IsCasing (expressions : Expressions) (number : ℕ) (old : List Seen) (whole rest : List SwitchCase) (next : ℕ) (ways : Ways) (order : List Seen) : Type 0 where
  pub passes : CasesPass expressions (known_of old) (scope_of old) (cases_of rest) → CasesPass expressions (known_of old) (scope_of old) (cases_of whole)
  pub misuse : (misuse : Misuse) → CasesMisuse expressions next (known_of old) (scope_of old) (cases_of rest) misuse → CasesMisuse expressions number (known_of old) (scope_of old) (cases_of whole) misuse
  pub unchanged : order ≡ old
  pub next_is : number_after_cases next (cases_of rest) ≡ number_after_cases number (cases_of whole)
  pub ways_are : either ways (ways_of_cases (cases_of rest)) ≡ ways_of_cases (cases_of whole)

or_assoc : (a b c : Bool) → ((a || b) || c) ≡ (a || (b || c))
or_assoc true b c = refl
or_assoc false b c = refl

or_false : (a : Bool) → (a || false) ≡ a
or_false true = refl
or_false false = refl

either_assoc : (a b c : Ways) → either (either a b) c ≡ either a (either b c)
either_assoc a b c = λ i. record {
  falls_off = or_assoc a.falls_off b.falls_off c.falls_off i;
  breaks = or_assoc a.breaks b.breaks c.breaks i;
  continues = or_assoc a.continues b.continues c.continues i;
}

either_none : (a : Ways) → either a (only_off false) ≡ a
either_none a = λ i. record { falls_off = or_false a.falls_off i; breaks = or_false a.breaks i; continues = or_false a.continues i }

module _ (expressions : Expressions) (number : ℕ) (old : List Seen) (whole : List SwitchCase) where
  pub IsCasing-start : (ways : Ways) → ways ≡ only_off false → IsCasing expressions number old whole whole number ways old
  IsCasing-start ways is = record {
    passes = λ h. h;
    misuse = λ misuse h. h;
    unchanged = refl;
    next_is = refl;
    ways_are = ap (λ w. either w (ways_of_cases (cases_of whole))) is;
  }

  module _ (now rest : List SwitchCase) (x : SwitchCase) (next : ℕ) (ways : Ways) (order : List Seen) (is : now ≡ x ∷ rest) (so : IsCasing expressions number old whole now next ways order) where
    here : IsCasing expressions number old whole (x ∷ rest) next ways old
    here = subst (λ xs. IsCasing expressions number old whole (x ∷ rest) next ways xs) so.unchanged (subst (λ xs. IsCasing expressions number old whole xs next ways order) is so)

    pub IsCasing-next : (passed : Passed) (order' : List Seen) (ways' : Ways) → HasPassedInner expressions next order (tree_of x.body) passed order' →
        ways' ≡ either ways (out_of_case x.fall_through passed.ways) → IsCasing expressions number old whole rest passed.next ways' order'
    IsCasing-next passed order' ways' inner ways_are =
        let passes : BlockPasses expressions (known_of old) (scope_of old) (tree_of x.body) =
        subst (λ xs. BlockPasses expressions (known_of xs) (scope_of xs) (tree_of x.body)) so.unchanged inner.passes in record {
          passes = λ h. here.passes ((passes.0, h.0), (passes.1, h.1));
          misuse = λ misuse h. here.misuse misuse (inr (passes, subst (λ n. CasesMisuse expressions n (known_of old) (scope_of old) (cases_of rest) misuse) inner.next h));
          unchanged = inner.unchanged ∙ so.unchanged;
          next_is = ap (λ n. number_after_cases n (cases_of rest)) inner.next ∙ here.next_is;
          ways_are =
              ap (λ w. either w (ways_of_cases (cases_of rest))) ways_are
              ∙ (either_assoc ways (out_of_case x.fall_through passed.ways) (ways_of_cases (cases_of rest))
              ∙ (ap (λ w. either ways (either (out_of_case x.fall_through w) (ways_of_cases (cases_of rest)))) inner.ways ∙ here.ways_are));
        }

    pub IsCasing-fails : (misuse : Misuse) → BlockMisuse expressions next (known_of order) (scope_of order) (tree_of x.body) misuse → CasesMisuse expressions number (known_of old) (scope_of old) (cases_of whole) misuse
    IsCasing-fails misuse h = here.misuse misuse (inl (subst (λ xs. BlockMisuse expressions next (known_of xs) (scope_of xs) (tree_of x.body) misuse) so.unchanged h))

  pub IsCasing-end : (now : List SwitchCase) (next : ℕ) (ways : Ways) (order : List Seen) (passed : Passed) (all_ways : Ways) → now ≡ [] → IsCasing expressions number old whole now next ways order →
      passed ≡ record { next = next; ways = all_ways } → all_ways ≡ either (only_off (may_be_passed (cases_of whole))) ways →
      HasPassedCases expressions number old (cases_of whole) passed order
  IsCasing-end now next ways order passed all_ways is so passed_is all_are =
      let done : IsCasing expressions number old whole [] next ways order = subst (λ xs. IsCasing expressions number old whole xs next ways order) is so in record {
        passes = done.passes (tt, tt);
        unchanged = done.unchanged;
        next = ap (λ (p : Passed). p.next) passed_is ∙ done.next_is;
        ways =
            ap (λ (p : Passed). p.ways) passed_is
            ∙ (all_are ∙ ap (either (only_off (may_be_passed (cases_of whole)))) (sym (either_none ways) ∙ done.ways_are));
      }
