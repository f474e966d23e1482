use Rattle.std.proofs.Common.{◌<◌, ◌∷◌, [], Some, ap, subst, sym}
use Rattle.naga_flow.specs.Chains.{indices_from, unready}
use Rattle.naga_flow.specs.Places.{indices_of_chain}
use Rattle.naga_flow.specs.Tracking.{known_of}
use Rattle.naga_flow.specs.Uses.{IsKnown, expressions_in}
use Rattle.naga_flow.proofs.ChainsLemmas.{EachEndsReady, IsPlace-ahead, IsPlace-ends, IsPlace-indices, indices_ahead}
use Rattle.naga_flow.proofs.IsFirstNotLemmas.{IsFirstNot-here, IsLeft, IsLeft-end, IsLeft-fails, IsLeft-itself, IsLeft-next}
use Rattle.naga_flow.proofs.IsTrueLemmas.{IsTrue-not, IsTrue-so}
use Rattle.std.proofs.lemmas.List.Elements.{All-cons, All-nil}
use Rattle.naga_flow.proofs.reading.unread_index.Goals as goal

pub chain-init : goal.chain-init
chain-init c =
    let P = IsKnown (expressions_in c.args.expressions.now) (known_of c.args.known.now) in
    record { left = IsLeft-itself P (indices_from c.args.expressions.now (Some c.args.first)); ends = c.requires }

pub returns-then-not-has_value : goal.returns-then-not-has_value
returns-then-not-has_value c =
    let arena = c.args.expressions.now in
    let P = IsKnown (expressions_in arena) (known_of c.args.known.now) in
    IsLeft-fails P (indices_from arena c.chain.next) (c.in-Some.indexed.index ∷ []) (unready arena (indices_of_chain arena c.in-Some.indexed.base c.in-Some.indexed.base)) (indices_from arena (Some c.args.first))
    (ap (indices_from arena) c.in-Some.is) c.chain.invariant.left c.in-Some.indexed.index
    (IsFirstNot-here P c.in-Some.indexed.index [] (IsTrue-not c.has_value.result (P c.in-Some.indexed.index) c.has_value.ensures c.if-not-has_value.true))

pub first_index-next-requires : goal.first_index-next-requires
first_index-next-requires c =
    subst (EachEndsReady c.args.expressions.now) c.in-Some.is c.chain.invariant.ends

pub chain-preserved : goal.chain-preserved
chain-preserved c =
    let arena = c.args.expressions.now in
    let P = IsKnown (expressions_in arena) (known_of c.args.known.now) in
    let whole = indices_from arena (Some c.args.first) in
    let rest = unready arena (indices_of_chain arena c.in-Some.indexed.base c.in-Some.indexed.base) in
    let here = IsTrue-so c.has_value.result (P c.in-Some.indexed.index) c.has_value.ensures c.if-not-has_value.false in
    record {
      left = subst (λ xs. IsLeft P xs whole) (IsPlace-indices arena c.in-Some.indexed.base c.first_index-next.result c.first_index-next.ensures)
          (IsLeft-next P (indices_from arena c.chain.next) (c.in-Some.indexed.index ∷ []) rest whole (ap (indices_from arena) c.in-Some.is) c.chain.invariant.left (All-cons P c.in-Some.indexed.index [] here (All-nil P)));
      ends = IsPlace-ends arena c.in-Some.indexed.base c.first_index-next.result c.first_index-next.ensures;
    }

pub chain-smaller : goal.chain-smaller
chain-smaller c =
    subst (λ next. indices_ahead c.first_index-next.result < indices_ahead next) (sym c.in-Some.is)
    (IsPlace-ahead c.args.expressions.now c.in-Some.indexed.base c.first_index-next.result c.first_index-next.ensures)

pub returns : goal.returns
returns c =
    let arena = c.args.expressions.now in
    let P = IsKnown (expressions_in arena) (known_of c.args.known.now) in
    IsLeft-end P (indices_from arena c.chain.next) (indices_from arena (Some c.args.first)) (ap (indices_from arena) c.in_default.is) c.chain.invariant.left
