-- Misuses, where the same expressions are known in another order, and a body that has one.
use Rattle.std.proofs.Common.{◌≡◌, ℕ, inl, inr, List, [], ◌∷◌, ◌++◌, Option, Some, None, Result, Ok, Err, arith, sym, subst, option_to_list}
use Rattle.std.proofs.lemmas.List.{append-nil}
use Rattle.std.proofs.lemmas.List.Elements.{All-cons, All-head, All-nil, All-tail, Contains-append_right}
use Rattle.std.specs.List.{Contains}
use Rattle.naga_arena.specs.Range.{handles_of}
use Rattle.naga_arena.specs.declared.span.Span.{Span}
use Rattle.naga_ir.specs.Tree.{Tree, empty, push, Node, plain, nested, branch, switch, loop, jump, Jump, break, continue, kill, return, Cases, no_cases, case}
use Rattle.naga_ir.specs.declared.statement.Statement.{Statement, Emit}
use Rattle.naga_flow.proofs.AllLemmas.{All-both}
use Rattle.naga_flow.specs.Misuses.{BlockMisuse, CasesMisuse, EmitMisuse, IsRepeated, IsUnread, JumpMisuse, IfMisuse, Judged, NodeMisuse, PlainMisuse, ResultMisuse}
use Rattle.naga_flow.specs.Results.{emitted_by, evaluated_by, evaluation_by, result_of, used_by}
use Rattle.naga_flow.specs.Scopes.{AreNew, CasesEvaluatedOnce, EvaluatedOnce, NodeEvaluatedOnce}
use Rattle.naga_flow.specs.Tracking.{AreSame}
use Rattle.naga_flow.specs.Uses.{AreEvaluatedBy, CasesUseKnown, Expressions, IsKnown, JumpUsesKnown, MayUse, MayUseEach, NodeUsesKnown, OperandsAreKnown, PlainUsesKnown, UsesKnown, after_body, certain, values_of}
use Rattle.naga_flow.specs.declared.evaluation.Evaluation.{Evaluation}
use Rattle.naga_flow.specs.declared.evaluation.Evaluation.TheVariants as by
use Rattle.naga_flow.specs.declared.invalid_use.InvalidUse.{InvalidUse}
use Rattle.naga_flow.specs.declared.invalid_use.InvalidUse.TheVariants as invalid
use Rattle.naga_flow.specs.declared.invalid_use.Misuse.{Misuse}
use Rattle.naga_flow.proofs.IncludesLemmas.{AreSame-joined, Contains-one}
use Rattle.naga_flow.proofs.IsFirstNotLemmas.{IsFirstNot-not_all, IsFirstNot-same}
use Rattle.naga_flow.proofs.ScopesLemmas.{BlockPasses-same}
use Rattle.naga_flow.proofs.UsesKnownLemmas.{IsKnown-more, MayUse-more, MayUseEach-more}

-- ---- in another order

IsRepeated-same : (misuse : Misuse) (scope scope' evaluated : List ℕ) → AreSame scope scope' → IsRepeated scope evaluated misuse → IsRepeated scope' evaluated misuse
IsRepeated-same misuse scope scope' evaluated same so = record { one_of = so.one_of; in_scope = same.back.each misuse.expression so.in_scope; cause = so.cause }

module _ (expressions : Expressions) (misuse : Misuse) where
  pub IsUnread-same : (known more used : List ℕ) → AreSame known more → IsUnread expressions known used misuse → IsUnread expressions more used misuse
  IsUnread-same known more used same so = record {
    handle = so.handle;
    first = IsFirstNot-same (MayUse expressions known) (MayUse expressions more) (MayUse-more expressions same.back) (MayUse-more expressions same.there) used so.handle so.first;
    reads = IsFirstNot-same (IsKnown expressions known) (IsKnown expressions more) (IsKnown-more expressions same.back) (IsKnown-more expressions same.there) (expressions.reads so.handle) misuse.expression so.reads;
    cause = so.cause;
  }

  pub EmitMisuse-same : (known more scope scope' emitted : List ℕ) → AreSame known more → AreSame scope scope' → EmitMisuse expressions known scope emitted misuse → EmitMisuse expressions more scope' emitted misuse
  EmitMisuse-same known more scope scope' [] same same_scope h = h
  EmitMisuse-same known more scope scope' (x ∷ xs) same same_scope (inl unfit) = inl unfit
  EmitMisuse-same known more scope scope' (x ∷ xs) same same_scope (inr (fit, inl unread)) = inr (fit, inl (IsUnread-same known more (expressions.operands x) same unread))
  EmitMisuse-same known more scope scope' (x ∷ xs) same same_scope (inr (fit, inr (used, inl repeated))) =
      inr (fit, inr (MayUseEach-more expressions same.back (expressions.operands x) used, inl (IsRepeated-same misuse scope scope' (x ∷ []) same_scope repeated)))
  EmitMisuse-same known more scope scope' (x ∷ xs) same same_scope (inr (fit, inr (used, inr (new, later)))) =
      inr (
        fit,
        inr (
          MayUseEach-more expressions same.back (expressions.operands x) used,
          inr (
            λ c. new (same_scope.there.each x c),
            EmitMisuse-same (x ∷ known) (x ∷ more) (x ∷ scope) (x ∷ scope') xs (AreSame-joined (x ∷ []) same) (AreSame-joined (x ∷ []) same_scope) later,
          ),
        ),
      )

  ResultMisuse-same : (way : Evaluation) (scope scope' evaluated : List ℕ) → AreSame scope scope' → ResultMisuse expressions way scope evaluated misuse → ResultMisuse expressions way scope' evaluated misuse
  ResultMisuse-same way scope scope' evaluated same (inl unfit) = inl unfit
  ResultMisuse-same way scope scope' evaluated same (inr (fit, repeated)) = inr (fit, IsRepeated-same misuse scope scope' evaluated same repeated)

  PlainMisuse-same : (known more scope scope' : List ℕ) (what : Statement) → AreSame known more → AreSame scope scope' → PlainMisuse expressions known scope what misuse → PlainMisuse expressions more scope' what misuse
  PlainMisuse-same known more scope scope' what same same_scope (inl unread) = inl (IsUnread-same known more (used_by what) same unread)
  PlainMisuse-same known more scope scope' what same same_scope (inr (used, inl emits)) =
      inr (MayUseEach-more expressions same.back (used_by what) used, inl (EmitMisuse-same known more scope scope' (emitted_by what) same same_scope emits))
  PlainMisuse-same known more scope scope' what same same_scope (inr (used, inr result)) =
      inr (MayUseEach-more expressions same.back (used_by what) used, inr (ResultMisuse-same (evaluation_by what) scope scope' (option_to_list (result_of what)) same_scope result))

  JumpMisuse-same : (known more : List ℕ) (to : Jump) → AreSame known more → JumpMisuse expressions known to misuse → JumpMisuse expressions more to misuse
  JumpMisuse-same known more break same h = h
  JumpMisuse-same known more continue same h = h
  JumpMisuse-same known more kill same h = h
  JumpMisuse-same known more (return value) same h = IsUnread-same known more (option_to_list value) same h

mutual
  pub BlockMisuse-same : (expressions : Expressions) (misuse : Misuse) (number : ℕ) (known more scope scope' : List ℕ) (block : Tree) → AreSame known more → AreSame scope scope' →
      BlockMisuse expressions number known scope block misuse → BlockMisuse expressions number more scope' block misuse
  BlockMisuse-same ex misuse number known more scope scope' empty same same_scope h = h
  BlockMisuse-same ex misuse number known more scope scope' (push front last span) same same_scope (inl earlier) = inl (BlockMisuse-same ex misuse number known more scope scope' front same same_scope earlier)
  BlockMisuse-same ex misuse number known more scope scope' (push front last span) same same_scope (inr (passes, here)) =
      inr (
        BlockPasses-same ex known more scope scope' same same_scope front passes,
        NodeMisuse-same ex misuse _ span (values_of front ++ known) (values_of front ++ more) (values_of front ++ scope) (values_of front ++ scope') last
            (AreSame-joined (values_of front) same) (AreSame-joined (values_of front) same_scope) here,
      )

  pub NodeMisuse-same : (expressions : Expressions) (misuse : Misuse) (number : ℕ) (span : Span) (known more scope scope' : List ℕ) (node : Node) → AreSame known more → AreSame scope scope' →
      NodeMisuse expressions number span known scope node misuse → NodeMisuse expressions number span more scope' node misuse
  NodeMisuse-same ex misuse number span known more scope scope' (plain what) same same_scope (at, here) = (at, PlainMisuse-same ex misuse known more scope scope' what same same_scope here)
  NodeMisuse-same ex misuse number span known more scope scope' (nested inner) same same_scope h = BlockMisuse-same ex misuse _ known more scope scope' inner same same_scope h
  NodeMisuse-same ex misuse number span known more scope scope' (branch condition accept reject) same same_scope (inl (at, unread)) = inl (at, IsUnread-same ex misuse known more (condition ∷ []) same unread)
  NodeMisuse-same ex misuse number span known more scope scope' (branch condition accept reject) same same_scope (inr (used, inl accepted)) =
      inr (MayUse-more ex same.back condition used, inl (BlockMisuse-same ex misuse _ known more scope scope' accept same same_scope accepted))
  NodeMisuse-same ex misuse number span known more scope scope' (branch condition accept reject) same same_scope (inr (used, inr (passes, rejected))) =
      inr (MayUse-more ex same.back condition used, inr (BlockPasses-same ex known more scope scope' same same_scope accept passes, BlockMisuse-same ex misuse _ known more scope scope' reject same same_scope rejected))
  NodeMisuse-same ex misuse number span known more scope scope' (switch selector cases) same same_scope (inl (at, unread)) = inl (at, IsUnread-same ex misuse known more (selector ∷ []) same unread)
  NodeMisuse-same ex misuse number span known more scope scope' (switch selector cases) same same_scope (inr (used, later)) =
      inr (MayUse-more ex same.back selector used, CasesMisuse-same ex misuse _ known more scope scope' cases same same_scope later)
  NodeMisuse-same ex misuse number span known more scope scope' (loop body continuing break_if) same same_scope (inl repeated) = inl (BlockMisuse-same ex misuse _ known more scope scope' body same same_scope repeated)
  NodeMisuse-same ex misuse number span known more scope scope' (loop body continuing break_if) same same_scope (inr (passes, inl continued)) =
      inr (
        BlockPasses-same ex known more scope scope' same same_scope body passes,
        inl (BlockMisuse-same (after_body body ex) misuse _ (values_of (certain body) ++ known) (values_of (certain body) ++ more) (values_of body ++ scope) (values_of body ++ scope') continuing
            (AreSame-joined (values_of (certain body)) same) (AreSame-joined (values_of body) same_scope) continued),
      )
  NodeMisuse-same ex misuse number span known more scope scope' (loop body continuing break_if) same same_scope (inr (passes, inr (passes_too, at, unread))) =
      let joined = AreSame-joined (values_of (certain body)) same in
      inr (
        BlockPasses-same ex known more scope scope' same same_scope body passes,
        inr (
          BlockPasses-same (after_body body ex) (values_of (certain body) ++ known) (values_of (certain body) ++ more) (values_of body ++ scope) (values_of body ++ scope')
              joined (AreSame-joined (values_of body) same_scope) continuing passes_too,
          at,
          IsUnread-same (after_body body ex) misuse (values_of (certain continuing) ++ (values_of (certain body) ++ known)) (values_of (certain continuing) ++ (values_of (certain body) ++ more)) (option_to_list break_if)
              (AreSame-joined (values_of (certain continuing)) joined) unread,
        ),
      )
  NodeMisuse-same ex misuse number span known more scope scope' (jump to) same same_scope (at, here) = (at, JumpMisuse-same ex misuse known more to same here)

  CasesMisuse-same : (expressions : Expressions) (misuse : Misuse) (number : ℕ) (known more scope scope' : List ℕ) (cases : Cases) → AreSame known more → AreSame scope scope' →
      CasesMisuse expressions number known scope cases misuse → CasesMisuse expressions number more scope' cases misuse
  CasesMisuse-same ex misuse number known more scope scope' no_cases same same_scope h = h
  CasesMisuse-same ex misuse number known more scope scope' (case value body falls_through others) same same_scope (inl here) = inl (BlockMisuse-same ex misuse number known more scope scope' body same same_scope here)
  CasesMisuse-same ex misuse number known more scope scope' (case value body falls_through others) same same_scope (inr (passes, later)) =
      inr (BlockPasses-same ex known more scope scope' same same_scope body passes, CasesMisuse-same ex misuse _ known more scope scope' others same same_scope later)

-- ---- what has a misuse does not pass

module _ (expressions : Expressions) (misuse : Misuse) where
  abbrev IsBy : Evaluation → ℕ → Type 0
  IsBy way handle = expressions.evaluation handle ≡ Some way

  IsUnread-refused : (known used : List ℕ) → IsUnread expressions known used misuse → ¬ MayUseEach expressions known used
  IsUnread-refused known used so = IsFirstNot-not_all (MayUse expressions known) used so.handle so.first

  EmitMisuse-refused : (known scope emitted : List ℕ) → EmitMisuse expressions known scope emitted misuse → OperandsAreKnown expressions known emitted → AreEvaluatedBy expressions by.Emit emitted → ¬ AreNew scope emitted
  EmitMisuse-refused known scope [] h k l n = h
  EmitMisuse-refused known scope (x ∷ xs) (inl unfit) k l n =
      IsFirstNot-not_all (IsBy by.Emit) (x ∷ []) misuse.expression unfit.first (All-cons (IsBy by.Emit) x [] (All-head (IsBy by.Emit) x xs l) (All-nil (IsBy by.Emit)))
  EmitMisuse-refused known scope (x ∷ xs) (inr (fit, inl unread)) k l n = IsUnread-refused known (expressions.operands x) unread k.0
  EmitMisuse-refused known scope (x ∷ xs) (inr (fit, inr (used, inl repeated))) k l n =
      n.0 (subst (λ y. Contains scope y) (sym (Contains-one x misuse.expression repeated.one_of)) repeated.in_scope)
  EmitMisuse-refused known scope (x ∷ xs) (inr (fit, inr (used, inr (new, later)))) k l n =
      EmitMisuse-refused (x ∷ known) (x ∷ scope) xs later k.1 (All-tail (IsBy by.Emit) x xs l) n.1

  -- what a statement emits, if it emits anything
  emits-refused : (known scope : List ℕ) (what : Statement) → EmitMisuse expressions known scope (emitted_by what) misuse → PlainUsesKnown expressions known what → ¬ AreNew scope (evaluated_by what)
  emits-refused known scope (Emit range) h k n =
      EmitMisuse-refused known scope (handles_of range) h k.operands (subst (AreEvaluatedBy expressions by.Emit) (append-nil (handles_of range)) k.evaluated)
      (subst (AreNew scope) (append-nil (handles_of range)) n)
  emits-refused known scope _ h k n = h

  -- the result of a statement is evaluated again
  result-repeated : (scope : List ℕ) (what : Statement) → IsRepeated scope (option_to_list (result_of what)) misuse → ¬ AreNew scope (evaluated_by what)
  result-repeated scope what repeated n = go (emitted_by what) scope repeated.in_scope n
    where
      go : (emitted scope : List ℕ) → Contains scope misuse.expression → ¬ AreNew scope (emitted ++ option_to_list (result_of what))
      go [] scope c n = result (result_of what) repeated.one_of n
        where
          result : (found : Option ℕ) → Contains (option_to_list found) misuse.expression → ¬ AreNew scope (option_to_list found)
          result None has n = omega (arith, has.1)
          result (Some x) has n = n.0 (subst (λ y. Contains scope y) (sym (Contains-one x misuse.expression has)) c)
      go (x ∷ xs) scope c n = go xs (x ∷ scope) (Contains-append_right (x ∷ []) scope misuse.expression c) n.1

  PlainMisuse-refused : (known scope : List ℕ) (what : Statement) → PlainMisuse expressions known scope what misuse → PlainUsesKnown expressions known what → ¬ AreNew scope (evaluated_by what)
  PlainMisuse-refused known scope what (inl unread) k n = IsUnread-refused known (used_by what) unread k.used
  PlainMisuse-refused known scope what (inr (used, inl emits)) k n = emits-refused known scope what emits k n
  PlainMisuse-refused known scope what (inr (used, inr (inl unfit))) k n =
      IsFirstNot-not_all (IsBy (evaluation_by what)) (option_to_list (result_of what)) misuse.expression unfit.first
      (All-both (IsBy (evaluation_by what)) (emitted_by what) (option_to_list (result_of what)) k.evaluated).1
  PlainMisuse-refused known scope what (inr (used, inr (inr (fit, repeated)))) k n = result-repeated scope what repeated n

  JumpMisuse-refused : (known : List ℕ) (to : Jump) → JumpMisuse expressions known to misuse → ¬ JumpUsesKnown expressions known to
  JumpMisuse-refused known break h k = h
  JumpMisuse-refused known continue h k = h
  JumpMisuse-refused known kill h k = h
  JumpMisuse-refused known (return value) h k = IsUnread-refused known (option_to_list value) h k

  one-refused : (known : List ℕ) (x : ℕ) → IsUnread expressions known (x ∷ []) misuse → ¬ MayUse expressions known x
  one-refused known x h k = IsUnread-refused known (x ∷ []) h (All-cons (MayUse expressions known) x [] k (All-nil (MayUse expressions known)))

mutual
  pub BlockMisuse-refused : (expressions : Expressions) (misuse : Misuse) (number : ℕ) (known scope : List ℕ) (block : Tree) →
      BlockMisuse expressions number known scope block misuse → UsesKnown expressions known block → ¬ EvaluatedOnce scope block
  BlockMisuse-refused ex misuse number known scope empty h k n = h
  BlockMisuse-refused ex misuse number known scope (push front last span) (inl earlier) k n = BlockMisuse-refused ex misuse number known scope front earlier k.0 n.0
  BlockMisuse-refused ex misuse number known scope (push front last span) (inr (passes, here)) k n =
      NodeMisuse-refused ex misuse _ span (values_of front ++ known) (values_of front ++ scope) last here k.1 n.1

  NodeMisuse-refused : (expressions : Expressions) (misuse : Misuse) (number : ℕ) (span : Span) (known scope : List ℕ) (node : Node) →
      NodeMisuse expressions number span known scope node misuse → NodeUsesKnown expressions known node → ¬ NodeEvaluatedOnce scope node
  NodeMisuse-refused ex misuse number span known scope (plain what) (at, here) k n = PlainMisuse-refused ex misuse known scope what here k n
  NodeMisuse-refused ex misuse number span known scope (nested inner) h k n = BlockMisuse-refused ex misuse _ known scope inner h k n
  NodeMisuse-refused ex misuse number span known scope (branch condition accept reject) (inl (at, unread)) k n = one-refused ex misuse known condition unread k.0
  NodeMisuse-refused ex misuse number span known scope (branch condition accept reject) (inr (used, inl accepted)) k n = BlockMisuse-refused ex misuse _ known scope accept accepted k.1 n.0
  NodeMisuse-refused ex misuse number span known scope (branch condition accept reject) (inr (used, inr (passes, rejected))) k n = BlockMisuse-refused ex misuse _ known scope reject rejected k.2 n.1
  NodeMisuse-refused ex misuse number span known scope (switch selector cases) (inl (at, unread)) k n = one-refused ex misuse known selector unread k.0
  NodeMisuse-refused ex misuse number span known scope (switch selector cases) (inr (used, later)) k n = CasesMisuse-refused ex misuse _ known scope cases later k.1 n
  NodeMisuse-refused ex misuse number span known scope (loop body continuing break_if) (inl repeated) k n = BlockMisuse-refused ex misuse _ known scope body repeated k.0 n.0
  NodeMisuse-refused ex misuse number span known scope (loop body continuing break_if) (inr (passes, inl continued)) k n =
      BlockMisuse-refused (after_body body ex) misuse _ (values_of (certain body) ++ known) (values_of body ++ scope) continuing continued k.1 n.1
  NodeMisuse-refused ex misuse number span known scope (loop body continuing break_if) (inr (passes, inr (passes_too, at, unread))) k n =
      IsUnread-refused (after_body body ex) misuse (values_of (certain continuing) ++ (values_of (certain body) ++ known)) (option_to_list break_if) unread k.2
  NodeMisuse-refused ex misuse number span known scope (jump to) (at, here) k n = JumpMisuse-refused ex misuse known to here k

  CasesMisuse-refused : (expressions : Expressions) (misuse : Misuse) (number : ℕ) (known scope : List ℕ) (cases : Cases) →
      CasesMisuse expressions number known scope cases misuse → CasesUseKnown expressions known cases → ¬ CasesEvaluatedOnce scope cases
  CasesMisuse-refused ex misuse number known scope no_cases h k n = h
  CasesMisuse-refused ex misuse number known scope (case value body falls_through others) (inl here) k n = BlockMisuse-refused ex misuse number known scope body here k.0 n.0
  CasesMisuse-refused ex misuse number known scope (case value body falls_through others) (inr (passes, later)) k n = CasesMisuse-refused ex misuse _ known scope others later k.1 n.1

-- ---- what a call has judged

-- the error is passed on
pub IfMisuse-passed_on : {Q Q' : Misuse → Type 0} (error : InvalidUse) → IfMisuse error Q → ((misuse : Misuse) → Q misuse → Q' misuse) → IfMisuse error Q'
IfMisuse-passed_on invalid.Memory h then = tt
IfMisuse-passed_on (invalid.Misuse misuse) h then = then misuse h

pub Judged-mapped : {X : Type 0} (result : Result X InvalidUse) (P P' : X → Type 0) (Q Q' : Misuse → Type 0) → ((x : X) → P x → P' x) → ((misuse : Misuse) → Q misuse → Q' misuse) →
    Judged result P Q → Judged result P' Q'
Judged-mapped (Ok x) P P' Q Q' there then h = there x h
Judged-mapped (Err error) P P' Q Q' there then h = IfMisuse-passed_on error h then
