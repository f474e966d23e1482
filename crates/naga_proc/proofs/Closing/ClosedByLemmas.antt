-- Each block has one closing by each rule, and the closing is its own closing.
use Rattle.std.proofs.Common.{◌≡◌, Bool, true, false, refl, sym, ◌∙◌, ap, subst}
use Rattle.std.specs.Prelude.{◌↔◌}
use Rattle.naga_arena.specs.declared.span.Span.{Span}
use Rattle.naga_ir.specs.Tree.{Tree, empty, push, Node, plain, nested, branch, switch, loop, jump, Cases, no_cases, case}
use Rattle.naga_proc.specs.Closing.{IsTail, itself, in_nested, in_accept, in_reject, in_switch, IsCaseTail, in_first, in_others, HasNoOpenTail, at_empty, stays, changes, InsideAre, in_plain, in_loop, in_jump, in_block, in_branch, in_cases, CaseTailsAre, no_more, falling, ending, returned, returned_if, closed, closed_inside, closed_cases, GetsReturn, ClosedBy, follows, gets_return}
use Rattle.naga_proc.specs.declared.terminator.rule.Rule.{Rule}
use Rattle.naga_proc.specs.declared.terminator.rule.Rule.TheVariants.{Old}
use Rattle.naga_proc.proofs.Closing.FollowsLemmas.{follows-wider}
use Rattle.naga_proc.proofs.Closing.TailsAreLemmas.{GetsReturn-AddsNoBreak, follows-InsideAre, InsideAre-open_itself, TailsAre-itself}

-- the statement is the other one with its tail blocks closed
abbrev ClosedInside : Rule → Node → Node → Type 0
ClosedInside rule = InsideAre (follows rule) GetsReturn

-- the cases are the other ones with their tail blocks closed
abbrev pub CasesClosed : Rule → Cases → Cases → Type 0
CasesClosed rule = CaseTailsAre (follows rule) GetsReturn

-- ---- the closing of a block

ClosedBy-returned_if : (rule : Rule) (front : Tree) (last new : Node) (span : Span) (gets : Bool) → follows rule last ≡ gets →
    ClosedInside rule last new → ClosedBy rule (push front last span) (returned_if gets (push front new span))
ClosedBy-returned_if rule front last new span true p i = changes i p refl
ClosedBy-returned_if rule front last new span false p i = stays i p

mutual
  pub ClosedBy-closed : (rule : Rule) (b : Tree) → ClosedBy rule b (closed rule b)
  ClosedBy-closed rule empty = at_empty refl
  ClosedBy-closed rule (push front last span) =
      ClosedBy-returned_if rule front last (closed_inside rule last) span (follows rule last) refl (ClosedInside-closed rule last)

  ClosedInside-closed : (rule : Rule) (last : Node) → ClosedInside rule last (closed_inside rule last)
  ClosedInside-closed rule (plain what) = in_plain
  ClosedInside-closed rule (loop body continuing break_if) = in_loop
  ClosedInside-closed rule (jump to) = in_jump
  ClosedInside-closed rule (nested b) = in_block (ClosedBy-closed rule b)
  ClosedInside-closed rule (branch condition b d) = in_branch (ClosedBy-closed rule b) (ClosedBy-closed rule d)
  ClosedInside-closed rule (switch selector cs) = in_cases (CasesClosed-closed rule cs)

  pub CasesClosed-closed : (rule : Rule) (cs : Cases) → CasesClosed rule cs (closed_cases rule cs)
  CasesClosed-closed rule no_cases = no_more
  CasesClosed-closed rule (case value b true cs) = falling (CasesClosed-closed rule cs)
  CasesClosed-closed rule (case value b false cs) = ending (ClosedBy-closed rule b) (CasesClosed-closed rule cs)

module _ (rule : Rule) where
  mutual
    closed-ClosedBy : {b c : Tree} → ClosedBy rule b c → c ≡ closed rule b
    closed-ClosedBy (at_empty p) = p
    closed-ClosedBy (stays {front = f} {last = s} {span = p} i h) =
        ap (λ x. push f x p) (closed_inside-ClosedInside i) ∙ sym (ap (λ e. returned_if e (push f (closed_inside rule s) p)) h)
    closed-ClosedBy (changes {front = f} {last = s} {span = p} i h q) =
        q ∙ ap (λ x. returned (push f x p)) (closed_inside-ClosedInside i) ∙ sym (ap (λ e. returned_if e (push f (closed_inside rule s) p)) h)

    pub closed_inside-ClosedInside : {s t : Node} → ClosedInside rule s t → t ≡ closed_inside rule s
    closed_inside-ClosedInside in_plain = refl
    closed_inside-ClosedInside in_loop = refl
    closed_inside-ClosedInside in_jump = refl
    closed_inside-ClosedInside (in_block d) = ap nested (closed-ClosedBy d)
    closed_inside-ClosedInside (in_branch {condition = k} d e) = λ i. branch k (closed-ClosedBy d i) (closed-ClosedBy e i)
    closed_inside-ClosedInside (in_cases {selector = k} d) = ap (switch k) (closed_cases-CasesClosed d)

    closed_cases-CasesClosed : {cs ds : Cases} → CasesClosed rule cs ds → ds ≡ closed_cases rule cs
    closed_cases-CasesClosed no_more = refl
    closed_cases-CasesClosed (falling {value = v} {b = b} d) = ap (case v b true) (closed_cases-CasesClosed d)
    closed_cases-CasesClosed (ending {value = v} d e) = λ i. case v (closed-ClosedBy d i) false (closed_cases-CasesClosed e i)

pub ClosedBy-is : (rule : Rule) (b c : Tree) → ClosedBy rule b c ↔ (c ≡ closed rule b)
ClosedBy-is rule b c = ((λ h. closed-ClosedBy rule h), (λ p. subst (ClosedBy rule b) (sym p) (ClosedBy-closed rule b)))

pub ClosedBy-one : (rule : Rule) (b : Tree) → (c : Tree) × ClosedBy rule b c × ((d : Tree) → ClosedBy rule b d → d ≡ c)
ClosedBy-one rule b = (closed rule b, ClosedBy-closed rule b, λ d h. closed-ClosedBy rule h)

pub ClosedBy-unique : (rule : Rule) (b c d : Tree) → ClosedBy rule b c → ClosedBy rule b d → c ≡ d
ClosedBy-unique rule b c d h k = closed-ClosedBy rule h ∙ sym (closed-ClosedBy rule k)

-- ---- a closed block has no open tail block

HasNoOpenTail-returned : (rule : Rule) (b : Tree) → HasNoOpenTail rule (returned b)
HasNoOpenTail-returned rule b tail itself = refl

module _ (rule : Rule) where
  mutual
    HasNoOpenTail-closed : {b c tail : Tree} → ClosedBy rule b c → IsTail tail c → gets_return rule tail ≡ false
    HasNoOpenTail-closed {tail = tail} (at_empty {c = c} p) among =
        HasNoOpenTail-returned rule empty tail (subst (λ x. IsTail tail x) p among)
    HasNoOpenTail-closed {tail = tail} (changes i h p) among =
        HasNoOpenTail-returned rule _ tail (subst (λ x. IsTail tail x) p among)
    HasNoOpenTail-closed (stays i h) itself = follows-InsideAre rule GetsReturn-AddsNoBreak i ∙ h
    HasNoOpenTail-closed (stays (in_block d) h) (in_nested among) = HasNoOpenTail-closed d among
    HasNoOpenTail-closed (stays (in_branch d e) h) (in_accept among) = HasNoOpenTail-closed d among
    HasNoOpenTail-closed (stays (in_branch d e) h) (in_reject among) = HasNoOpenTail-closed e among
    HasNoOpenTail-closed (stays (in_cases d) h) (in_switch among) = HasNoOpenTail-closed_cases d among

    HasNoOpenTail-closed_cases : {cs ds : Cases} {tail : Tree} → CasesClosed rule cs ds → IsCaseTail tail ds → gets_return rule tail ≡ false
    HasNoOpenTail-closed_cases no_more among = elim among [ ]
    HasNoOpenTail-closed_cases (falling d) (in_others among) = HasNoOpenTail-closed_cases d among
    HasNoOpenTail-closed_cases (ending d e) (in_first among) = HasNoOpenTail-closed d among
    HasNoOpenTail-closed_cases (ending d e) (in_others among) = HasNoOpenTail-closed_cases e among

pub ClosedBy-HasNoOpenTail : (rule : Rule) (b c : Tree) → ClosedBy rule b c → HasNoOpenTail rule c
ClosedBy-HasNoOpenTail rule b c h tail among = HasNoOpenTail-closed rule h among

-- ---- a block without an open tail block is closed

pub HasNoOpenTail-ClosedBy : (rule : Rule) (b : Tree) → HasNoOpenTail rule b → ClosedBy rule b b
HasNoOpenTail-ClosedBy rule b none =
    TailsAre-itself rule GetsReturn b (λ tail among gets. absurd (let e = none tail among in cc))

pub ClosedBy-again : (rule : Rule) (b c : Tree) → ClosedBy rule b c → ClosedBy rule c c
ClosedBy-again rule b c h = HasNoOpenTail-ClosedBy rule c (ClosedBy-HasNoOpenTail rule b c h)

-- ---- a block that gets a return by the old rule is closed by one return at its end

pub ClosedBy-returned : (rule : Rule) (b : Tree) → gets_return Old b ≡ true → ClosedBy rule b (returned b)
ClosedBy-returned rule empty h = at_empty refl
ClosedBy-returned rule (push front last span) h =
    changes (InsideAre-open_itself (follows rule) GetsReturn last h) (follows-wider rule last h) refl
