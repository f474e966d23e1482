-- Walks that append the faults of statements.
use Rattle.std.proofs.Common.{◌≡◌, ◌∙◌, sym, ap, subst, refl, ℕ, suc, ◌+◌, ◌-◌, ◌^◌, ◌<◌, List, [], ◌∷◌, ◌++◌, length, map, arith, length-append}
use Rattle.std.specs.List.{enumerate_from}
use Rattle.std.specs.Prelude.{Err, IfOk, Ok, Result}
use Rattle.naga_arena.specs.declared.span.Span.{Span}
use Rattle.naga_ir.specs.Tree.{Node}
use Rattle.naga_flow.specs.Jumps.{numbered}
use Rattle.naga_flow.proofs.JumpsLemmas.{numbered-none}
use Rattle.naga_typifier.specs.Context.{Context}
use Rattle.naga_typifier.specs.declared.resolution.TypeResolution.{TypeResolution}
use Rattle.naga_typing.specs.FunctionFaults.{AddsFaults, AreFaultsOf, Part, WalksOver, of_statement, statement_parts}
use Rattle.naga_typing.specs.Requirements.{Signature}
use Rattle.naga_typing.specs.Statements.{statements_inside}
use Rattle.naga_typing.specs.TypedFunctions.{context_of, signature_of}
use Rattle.naga_typing.specs.declared.invalid_types.TypeFault.{TypeFault}
use Rattle.naga_typing.specs.declared.typed_function.TypedFunction.{TypedFunction}
use Rattle.naga_typing.proofs.JoinedLemmas.{AddsUpTo-both, AddsUpTo-none}
use Rattle.naga_typing.proofs.StatementsLemmas.{each}
use Rattle.naga_typing.proofs.WalksLemmas.{min-fits, numbered-again}

-- ---- the parts of two lists of statements

module _ (ctx : Context) (signature : Signature) (types : List TypeResolution) where
  -- statements that are counted already, with `met` before the first
  abbrev Counted : (met : ℕ) → List (ℕ × (Node × Span)) → List Part
  Counted met = map (λ entry. of_statement ctx signature types (numbered met entry.0, entry.1))

  -- counted from another statement on
  counted-again : (met k j : ℕ) (all : List (Node × Span)) → Counted met (enumerate_from (k + j) all) ≡ Counted (numbered met k) (enumerate_from j all)
  counted-again met k j [] = refl
  counted-again met k j (x ∷ all) =
      let number : numbered met (k + j) ≡ numbered (numbered met k) j = sym (numbered-again met k j (numbered met k) refl) in
      let next : (k + j) + 1 ≡ k + (j + 1) = omega arith in
      let rest : Counted met (enumerate_from ((k + j) + 1) all) ≡ Counted (numbered met k) (enumerate_from (j + 1) all) =
      ap (λ n. Counted met (enumerate_from n all)) next ∙ counted-again met k (j + 1) all in
      λ i. of_statement ctx signature types (number i, x) ∷ rest i

  counted-both : (met k : ℕ) (all more : List (Node × Span)) → Counted met (enumerate_from k (all ++ more)) ≡ Counted met (enumerate_from k all) ++ Counted met (enumerate_from (k + length all) more)
  counted-both met k [] more = let same : k ≡ k + 0 = omega arith in ap (λ n. Counted met (enumerate_from n more)) same
  counted-both met k (x ∷ all) more =
      let same : (k + 1) + length all ≡ k + suc (length all) = omega arith in
      let rest = counted-both met (k + 1) all more ∙ ap (λ n. Counted met (enumerate_from (k + 1) all) ++ Counted met (enumerate_from n more)) same in
      ap (λ parts. of_statement ctx signature types (numbered met k, x) ∷ parts) rest

  statement_parts-both : (met : ℕ) (all more : List (Node × Span)) →
      statement_parts ctx signature types met (all ++ more)
      ≡ statement_parts ctx signature types met all ++ statement_parts ctx signature types (numbered met (length all)) more
  statement_parts-both met all more =
      let same : 0 + length all ≡ length all + 0 = omega arith in
      counted-both met 0 all more
      ∙ ap (λ n. Counted met (enumerate_from 0 all) ++ Counted met (enumerate_from n more)) same
      ∙ ap (λ parts. Counted met (enumerate_from 0 all) ++ parts) (counted-again met (length all) 0 more)

-- ---- walks

module _ (typed : TypedFunction) (limit : ℕ) where
  abbrev Gives : Part → List TypeFault → Type 0
  Gives = AreFaultsOf (context_of typed) (signature_of typed) typed.known.now

  abbrev PartsOf : ℕ → List (Node × Span) → List Part
  PartsOf = statement_parts (context_of typed) (signature_of typed) typed.known.now

  abbrev Over : List (Node × Span) → (met : ℕ) → (old new : List TypeFault) → (after : ℕ) → Type 0
  Over = WalksOver typed limit

  WalksOver-none : (met : ℕ) (old : List TypeFault) → met < 2 ^ 64 → Over [] met old old met
  WalksOver-none met old within = record { number = numbered-none met within; adds = AddsUpTo-none Gives limit old }

  -- a walk over two lists, the second of which it meets from where it is after the first
  pub WalksOver-both : (all more : List (Node × Span)) (met next after : ℕ) (old middle new : List TypeFault) →
      Over all met old middle next → Over more next middle new after → Over (all ++ more) met old new after
  WalksOver-both all more met next after old middle new first second = record {
    number = second.number ∙ (numbered-again met (length all) (length more) next first.number ∙ ap (numbered met) (sym (length-append all more)));
    adds = subst (λ parts. AddsFaults typed limit parts old new) (sym (statement_parts-both (context_of typed) (signature_of typed) typed.known.now met all more))
        (AddsUpTo-both Gives limit (PartsOf met all) (PartsOf (numbered met (length all)) more) old middle new first.adds
        (subst (λ n. AddsFaults typed limit (PartsOf n more) middle new) first.number second.adds));
  }

  pub WalksOver-fits : (all : List (Node × Span)) (met after : ℕ) (old new : List TypeFault) → Over all met old new after → after < 2 ^ 64
  WalksOver-fits all met after old new walks = min-fits (2 ^ 64 - 1) met (length all) after walks.number

  -- ---- walks over what is left of a list

  -- a walk over the statements that are left completes one over `whole`
  abbrev pub Completes : (whole left : List (Node × Span)) (met next : ℕ) (old now : List TypeFault) → Type 0
  Completes whole left met next old now = (after : ℕ) (new : List TypeFault) → Over left next now new after → Over whole met old new after

  pub Completes-itself : (whole left : List (Node × Span)) (met : ℕ) (old : List TypeFault) → left ≡ whole → Completes whole left met met old old
  Completes-itself whole left met old is = λ after new. subst (λ xs. Over xs met old new after) is

  module _ {X : Type 0} (f : X → List (Node × Span)) (whole : List (Node × Span)) (met next : ℕ) (old now : List TypeFault) where
    pub Completes-next : (walked : ℕ) (middle : List TypeFault) (items rest : List X) (x : X) → items ≡ x ∷ rest →
        Completes whole (each f items) met next old now → Over (f x) next now middle walked → Completes whole (each f rest) met walked old middle
    Completes-next walked middle items rest x is left walks = λ after new later.
        left after new (subst (λ xs. Over (each f xs) next now new after) (sym is) (WalksOver-both (f x) (each f rest) next walked after now middle new walks later))

    pub Completes-all : (items : List X) → items ≡ [] → next < 2 ^ 64 → Completes whole (each f items) met next old now → Over whole met old now next
    Completes-all items is within left = left next now (subst (λ xs. Over (each f xs) next now now next) (sym is) (WalksOver-none next now within))

  -- ---- walks over a statement

  pub WalksOver-node : (met next after : ℕ) (span : Span) (node shape : Node) (old middle new : List TypeFault) → node ≡ shape → met < 2 ^ 64 →
      AddsFaults typed limit (of_statement (context_of typed) (signature_of typed) typed.known.now (met, (node, span)) ∷ []) old middle →
      next ≡ numbered met 1 → Over (statements_inside shape) next middle new after → Over ((node, span) ∷ statements_inside node) met old new after
  WalksOver-node met next after span node shape old middle new is within adds one walks =
      WalksOver-both ((node, span) ∷ []) (statements_inside node) met next after old middle new
      (record {
        number = one;
        adds = subst (λ n. AddsFaults typed limit (of_statement (context_of typed) (signature_of typed) typed.known.now (n, (node, span)) ∷ []) old middle) (numbered-none met within) adds;
      })
      (subst (λ n. Over (statements_inside n) next middle new after) (sym is) walks)

  -- the same of a walk that may lack memory
  pub WalksOver-node_ok : {E : Type 0} (result : Result ℕ E) (met next : ℕ) (span : Span) (node shape : Node) (old middle new : List TypeFault) → node ≡ shape → met < 2 ^ 64 →
      AddsFaults typed limit (of_statement (context_of typed) (signature_of typed) typed.known.now (met, (node, span)) ∷ []) old middle →
      next ≡ numbered met 1 → IfOk result (Over (statements_inside shape) next middle new) → IfOk result (Over ((node, span) ∷ statements_inside node) met old new)
  WalksOver-node_ok (Ok after) met next span node shape old middle new is within adds one walks = WalksOver-node met next after span node shape old middle new is within adds one walks
  WalksOver-node_ok (Err error) met next span node shape old middle new is within adds one walks = tt

  -- two blocks of a statement
  pub WalksOver-both_ok : {E : Type 0} (result : Result ℕ E) (all more : List (Node × Span)) (met next : ℕ) (old middle new : List TypeFault) →
      Over all met old middle next → IfOk result (Over more next middle new) → IfOk result (Over (all ++ more) met old new)
  WalksOver-both_ok (Ok after) all more met next old middle new first second = WalksOver-both all more met next after old middle new first second
  WalksOver-both_ok (Err error) all more met next old middle new first second = tt
