-- Going over the references of a part of a function, as far as they are to expressions other than its result.
use Rattle.std.proofs.Common.{◌≡◌, ℕ, Bool, true, false, inl, inr, List, [], ◌∷◌, ◌++◌, Option, Some, None, refl, sym, subst, option_to_list}
use Rattle.std.proofs.lemmas.List.Elements.{All-append, All-cons, All-nil}
use Rattle.std.specs.ControlFlow.{MatchControlFlow}
use Rattle.std.specs.Prelude.{if◌then◌else◌}
use Rattle.std.specs.declared.ops.ControlFlow.{ControlFlow}
use Rattle.std.specs.declared.ops.ControlFlow.TheVariants.{Break, Continue}
use Rattle.naga_valid.specs.Operands.{expressions_of}
use Rattle.naga_valid.specs.Visits.{AreVisited}
use Rattle.naga_valid.specs.declared.reference.Reference.{Reference}
use Rattle.naga_valid.specs.declared.reference.Reference.TheVariants as reference
use Rattle.naga_arena.specs.declared.span.Span.{Span}
use Rattle.naga_flow.specs.Misuses.{FindsUnread, IfMisuse, IsAt, IsUnread, ReadsUnread, not_evaluated}
use Rattle.naga_flow.specs.Operands.{requires_operand}
use Rattle.naga_flow.specs.Readings.{read_in}
use Rattle.naga_flow.specs.Results.{without, without_first}
use Rattle.naga_flow.specs.Tracking.{FindsFirstNot, awaited_after, is_awaited, known_of, operand_at}
use Rattle.naga_flow.specs.Uses.{Expressions, IsKnown, MayUse, MayUseEach}
use Rattle.naga_flow.specs.declared.invalid_use.InvalidUse.{InvalidUse}
use Rattle.naga_flow.specs.declared.invalid_use.InvalidUse.TheVariants as invalid
use Rattle.naga_flow.specs.declared.operands.Operands.{Operands}
use Rattle.naga_flow.proofs.IsFirstNotLemmas.{IsFirstNot-after, IsFirstNot-before, IsFirstNot-here, IsFirstNot-not_all}

-- the references after the first one, and what is used there
abbrev Splits : Option ℕ → Reference → List Reference → Type 0
Splits awaited to rest =
    without awaited (expressions_of (to ∷ rest)) ≡ option_to_list (operand_at awaited to) ++ without (awaited_after awaited to) (expressions_of rest)

split-by : (awaited : ℕ) (handle : ℕ) (rest : List ℕ) (t : Bool) →
    (if t then rest else handle ∷ without_first awaited rest)
    ≡ option_to_list (if t then None else Some handle) ++ without (if t then None else Some awaited) rest
split-by awaited handle rest true = refl
split-by awaited handle rest false = refl

pub without-split : (awaited : Option ℕ) (to : Reference) (rest : List Reference) → Splits awaited to rest
without-split (Some awaited) (reference.Expression handle) rest = split-by awaited handle (expressions_of rest) (is_awaited (Some awaited) handle)
without-split None (reference.Expression handle) rest = refl
without-split awaited _ rest = refl

pub without-none : (awaited : Option ℕ) → without awaited [] ≡ []
without-none None = refl
without-none (Some awaited) = refl

-- an operand that may not be used, after operands that may be used
unread-after : (expressions : Expressions) (known here rest : List ℕ) (expression : ℕ) → MayUseEach expressions known here → ReadsUnread expressions known rest expression →
    ReadsUnread expressions known (here ++ rest) expression
unread-after expressions known here rest expression used so = record {
  handle = so.handle;
  first = IsFirstNot-after (MayUse expressions known) here rest so.handle used so.first;
  reads = so.reads;
  cause = so.cause;
}

unread-before : (expressions : Expressions) (known here rest : List ℕ) (expression : ℕ) → ReadsUnread expressions known here expression → ReadsUnread expressions known (here ++ rest) expression
unread-before expressions known here rest expression so = record {
  handle = so.handle;
  first = IsFirstNot-before (MayUse expressions known) here rest so.handle so.first;
  reads = so.reads;
  cause = so.cause;
}

-- what a visitor has found of these references
abbrev Found : Operands → List Reference → ControlFlow ℕ (Unit {0}) → Type 0
Found old list answer =
    MatchControlFlow answer
    (λ _. MayUseEach (read_in old.reading) (known_of old.known.now) (without old.awaited (expressions_of list)))
    (λ expression. ReadsUnread (read_in old.reading) (known_of old.known.now) (without old.awaited (expressions_of list)) expression)

found-later : (old : Operands) (to : Reference) (others : List Reference) → MayUseEach (read_in old.reading) (known_of old.known.now) (option_to_list (operand_at old.awaited to)) →
    (answer : ControlFlow ℕ (Unit {0})) → Found (record old { awaited = awaited_after old.awaited to }) others answer → Found old (to ∷ others) answer
found-later old to others used (Continue done) h =
    subst (MayUseEach (read_in old.reading) (known_of old.known.now)) (sym (without-split old.awaited to others))
    (All-append (MayUse (read_in old.reading) (known_of old.known.now)) (option_to_list (operand_at old.awaited to)) (without (awaited_after old.awaited to) (expressions_of others)) used h)
found-later old to others used (Break expression) h =
    subst (λ xs. ReadsUnread (read_in old.reading) (known_of old.known.now) xs expression) (sym (without-split old.awaited to others))
    (unread-after (read_in old.reading) (known_of old.known.now) (option_to_list (operand_at old.awaited to)) (without (awaited_after old.awaited to) (expressions_of others)) expression used h)

AreVisited-operands : (old : Operands) (list : List Reference) (answer : ControlFlow ℕ (Unit {0})) (new : Operands) → AreVisited requires_operand old list answer new → Found old list answer
AreVisited-operands old [] answer new visited =
    subst (Found old []) (sym visited.0)
    (subst (MayUseEach (read_in old.reading) (known_of old.known.now)) (sym (without-none old.awaited)) (All-nil (MayUse (read_in old.reading) (known_of old.known.now))))
AreVisited-operands old (to ∷ others) answer new (inl (stop, is, first)) =
    subst (Found old (to ∷ others)) (sym is)
    (subst (λ xs. ReadsUnread (read_in old.reading) (known_of old.known.now) xs stop) (sym (without-split old.awaited to others))
    (unread-before (read_in old.reading) (known_of old.known.now) (option_to_list (operand_at old.awaited to)) (without (awaited_after old.awaited to) (expressions_of others)) stop first))
AreVisited-operands old (to ∷ others) answer new (inr (next, (same, used), rest)) =
    found-later old to others used answer (subst (λ visitor. Found visitor others answer) same (AreVisited-operands next others answer new rest))

pub AreVisited-continues : (old : Operands) (list : List Reference) (answer : ControlFlow ℕ (Unit {0})) (new : Operands) (done : Unit {0}) → answer ≡ Continue done →
    AreVisited requires_operand old list answer new → MayUseEach (read_in old.reading) (known_of old.known.now) (without old.awaited (expressions_of list))
AreVisited-continues old list answer new done is visited = subst (Found old list) is (AreVisited-operands old list answer new visited)

pub AreVisited-breaks : (old : Operands) (list : List Reference) (answer : ControlFlow ℕ (Unit {0})) (new : Operands) (expression : ℕ) → answer ≡ Break expression →
    AreVisited requires_operand old list answer new →
    ReadsUnread (read_in old.reading) (known_of old.known.now) (without old.awaited (expressions_of list)) expression
AreVisited-breaks old list answer new expression is visited = subst (Found old list) is (AreVisited-operands old list answer new visited)

-- what is said of a statement that uses such an operand
pub unread-judged : (expressions : Expressions) (known used : List ℕ) (expression statement : ℕ) (span : Span) → ReadsUnread expressions known used expression → (error : InvalidUse) →
    error ≡ invalid.Misuse (not_evaluated expression statement span) → IfMisuse error (λ misuse. IsAt statement span misuse × IsUnread expressions known used misuse)
unread-judged expressions known used expression statement span so error is =
    subst (λ error. IfMisuse error (λ misuse. IsAt statement span misuse × IsUnread expressions known used misuse)) (sym is)
    (record { number_is = refl; span_is = refl }, record { handle = so.handle; first = so.first; reads = so.reads; cause = refl })

-- what was found of what a use of one expression reads
pub unread-one : (expressions : Expressions) (known : List ℕ) (handle : ℕ) (result : Option ℕ) → FindsFirstNot (IsKnown expressions known) (expressions.reads handle) result →
    FindsUnread expressions known (handle ∷ []) result
unread-one expressions known handle None h = All-cons (MayUse expressions known) handle [] h (All-nil (MayUse expressions known))
unread-one expressions known handle (Some expression) h = record {
  handle = handle;
  first = IsFirstNot-here (MayUse expressions known) handle [] (IsFirstNot-not_all (IsKnown expressions known) (expressions.reads handle) expression h);
  reads = h;
  cause = refl;
}
