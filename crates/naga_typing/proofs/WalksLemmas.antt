-- Walks over the statements of a block in the order in which they are read.
use Rattle.std.proofs.Common.{◌≡◌, ◌∙◌, sym, ap, subst, refl, ℕ, ◌+◌, ◌-◌, ◌^◌, ◌<◌, List, [], ◌∷◌, ◌++◌, length, Option, Result, Ok, Err, arith}
use Rattle.std.proofs.lemmas.List.{append_assoc, length-append}
use Rattle.std.proofs.lemmas.List.Elements.{All-append, All-cons, All-nil}
use Rattle.std.specs.Prelude.{All, min}
use Rattle.naga_arena.specs.declared.span.Span.{Span}
use Rattle.naga_ir.specs.Tree.{Node}
use Rattle.naga_flow.specs.Jumps.{numbered}
use Rattle.naga_flow.proofs.JumpsLemmas.{numbered-none}
use Rattle.naga_typing.specs.Checks.{IsFirstUnmet, Walks}
use Rattle.naga_typing.specs.Statements.{EntryFits, required_by, statements_inside}
use Rattle.naga_typing.specs.declared.mismatch.TypeMismatch.{TypeMismatch}
use Rattle.naga_typing.specs.declared.requirement.Requirement.{Requirement}
use Rattle.naga_typing.proofs.StatementsLemmas.{each}

min-again : (m c a b next : ℕ) → next ≡ min (c + a) m → min (next + b) m ≡ min (c + (a + b)) m
min-again m c a b next is = omega (arith, is)

pub numbered-again : (met a b next : ℕ) → next ≡ numbered met a → numbered next b ≡ numbered met (a + b)
numbered-again met a b next is = min-again (2 ^ 64 - 1) met a b next is

pub min-fits : (m c a new : ℕ) → new ≡ min (c + a) m → new < m + 1
min-fits m c a new is = omega (arith, is)

module _ (fits : Option Requirement → Type 0) where
  pub Walks-none : (met : ℕ) → met < 2 ^ 64 → Walks fits [] met (Ok met)
  Walks-none met within = (All-nil (EntryFits fits), numbered-none met within)

  -- a walk over two lists, the second of which it meets from where it is after the first
  pub Walks-both : (all more : List (Node × Span)) (met next : ℕ) (result : Result ℕ TypeMismatch) →
      Walks fits all met (Ok next) → Walks fits more next result → Walks fits (all ++ more) met result
  Walks-both all more met next (Ok last) first second = (
    All-append (EntryFits fits) all more first.0 second.0,
    second.1 ∙ (numbered-again met (length all) (length more) next first.1 ∙ ap (numbered met) (sym (length-append all more))),
  )
  Walks-both all more met next (Err mismatch) first second = record {
    before = all ++ second.before;
    at = second.at;
    after = second.after;
    split = ap (λ xs. all ++ xs) second.split ∙ sym (append_assoc all second.before (second.at ∷ second.after));
    earlier = All-append (EntryFits fits) all second.before first.0 second.earlier;
    first = second.first;
    span = second.span;
    statement = second.statement ∙ (numbered-again met (length all) (length second.before) next first.1 ∙ ap (numbered met) (sym (length-append all second.before)));
  }

  -- a walk that ends in the first of two lists
  pub Walks-ended : (all more : List (Node × Span)) (met : ℕ) (mismatch : TypeMismatch) → Walks fits all met (Err mismatch) → Walks fits (all ++ more) met (Err mismatch)
  Walks-ended all more met mismatch first = record {
    before = first.before;
    at = first.at;
    after = first.after ++ more;
    split = ap (λ xs. xs ++ more) first.split ∙ append_assoc first.before (first.at ∷ first.after) more;
    earlier = first.earlier;
    first = first.first;
    span = first.span;
    statement = first.statement;
  }

  pub Walks-fits : (all : List (Node × Span)) (met next : ℕ) (result : Result ℕ TypeMismatch) → result ≡ Ok next → Walks fits all met result → next < 2 ^ 64
  Walks-fits all met next result is walks =
      let on : Walks fits all met (Ok next) = subst (Walks fits all met) is walks in min-fits (2 ^ 64 - 1) met (length all) next on.1

  -- ---- walks over what is left of a list

  -- a walk over the statements that are left, from `next` on, completes one over `whole`
  abbrev pub Completes : (whole left : List (Node × Span)) (met next : ℕ) → Type 0
  Completes whole left met next = (result : Result ℕ TypeMismatch) → Walks fits left next result → Walks fits whole met result

  module _ {X : Type 0} (f : X → List (Node × Span)) (whole : List (Node × Span)) (met next : ℕ) (items rest : List X) (x : X) (is : items ≡ x ∷ rest) (left : Completes whole (each f items) met next) (result : Result ℕ TypeMismatch) (walks : Walks fits (f x) next result) where
    pub Completes-next : (walked : ℕ) → result ≡ Ok walked → Completes whole (each f rest) met walked
    Completes-next walked ok later-result later =
        left later-result (subst (λ xs. Walks fits (each f xs) next later-result) (sym is)
        (Walks-both (f x) (each f rest) next walked later-result (subst (Walks fits (f x) next) ok walks) later))

    pub Completes-ended : (mismatch : TypeMismatch) → result ≡ Err mismatch → Walks fits whole met (Err mismatch)
    Completes-ended mismatch err =
        left (Err mismatch) (subst (λ xs. Walks fits (each f xs) next (Err mismatch)) (sym is)
        (Walks-ended (f x) (each f rest) next mismatch (subst (Walks fits (f x) next) err walks)))

  pub Completes-all : {X : Type 0} (f : X → List (Node × Span)) (whole : List (Node × Span)) (met next : ℕ) (items : List X) → items ≡ [] → next < 2 ^ 64 → Completes whole (each f items) met next → Walks fits whole met (Ok next)
  Completes-all f whole met next items is within left = left (Ok next) (subst (λ xs. Walks fits (each f xs) next (Ok next)) (sym is) (Walks-none next within))

  -- ---- walks over a statement

  abbrev pub statements_of_node : Span → Node → List (Node × Span)
  statements_of_node span node = (node, span) ∷ statements_inside node

  -- a statement whose requirements are met
  pub Walks-node : (met next : ℕ) (span : Span) (node shape : Node) (result : Result ℕ TypeMismatch) → node ≡ shape → All fits (required_by node) →
      next ≡ numbered met 1 → Walks fits (statements_inside shape) next result → Walks fits (statements_of_node span node) met result
  Walks-node met next span node shape result is here one walks =
      Walks-both ((node, span) ∷ []) (statements_inside node) met next result (All-cons (EntryFits fits) (node, span) [] here (All-nil (EntryFits fits)), one)
      (subst (λ n. Walks fits (statements_inside n) next result) (sym is) walks)

  -- a statement of which a requirement is not met
  pub Walks-unmet : (met : ℕ) (span : Span) (node : Node) (unmet : Requirement) → met < 2 ^ 64 → IsFirstUnmet fits (required_by node) unmet →
      Walks fits (statements_of_node span node) met (Err (record { statement = met; span = span; requirement = unmet }))
  Walks-unmet met span node unmet within first = record {
    before = [];
    at = (node, span);
    after = statements_inside node;
    split = refl;
    earlier = All-nil (EntryFits fits);
    first = first;
    span = refl;
    statement = numbered-none met within;
  }

  -- two blocks of a statement
  module _ (first second : List (Node × Span)) (met next : ℕ) (result : Result ℕ TypeMismatch) (walks : Walks fits first met result) where
    pub Walks-then : (later : Result ℕ TypeMismatch) → result ≡ Ok next → Walks fits second next later → Walks fits (first ++ second) met later
    Walks-then later ok so = Walks-both first second met next later (subst (Walks fits first met) ok walks) so

    pub Walks-broken_off : (mismatch : TypeMismatch) → result ≡ Err mismatch → Walks fits (first ++ second) met (Err mismatch)
    Walks-broken_off mismatch err = Walks-ended first second met mismatch (subst (Walks fits first met) err walks)
