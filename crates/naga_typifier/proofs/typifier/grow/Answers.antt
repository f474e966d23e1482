use Rattle.std.proofs.Common.{◌≡◌, ◌+◌, false, List, [], ◌∷◌, ◌++◌, Some, Result, Ok, Err, OnOk, drop, length, length-append, ap, sym, ◌∙◌, arith}
use Rattle.std.specs.List.{slice_get}
use Rattle.std.specs.Result.{is_err}
use Rattle.std.proofs.lemmas.List.{append_assoc}
use Rattle.naga_arena.specs.Arena.{values}
use Rattle.naga_typifier.specs.Context.{context_of}
use Rattle.naga_typifier.specs.Typing.{typing}
use Rattle.naga_typifier.specs.declared.resolution.TypeResolution.{TypeResolution as Resolved}
use Rattle.naga_typifier.specs.declared.resolve_error.ResolveError.{ResolveError}
use Rattle.naga_typifier.proofs.TypingLemmas.{typing-more, typing-stop}
use Rattle.naga_typifier.proofs.typifier.grow.Goals as goal

-- what holds on success holds where there is no error
given : {T E : Type 0} (result : Result T E) (P : Type 0) → is_err result ≡ false → OnOk result P → P
given (Ok x) P fine holds = holds
given (Err e) P fine holds = cc

pub returns-in-Err-clause-stopped : goal.returns-in-Err-clause-stopped
returns-in-Err-clause-stopped c =
    let ctx = context_of c.args.ctx.now in
    let known = c.each.known in
    let vs = values c.args.expressions.now in
    let here : slice_get vs c.each.index ≡ Some c.index.result.now = rw c.at-expression.ensures at c.index.ensures in (
      c.at-expression.ensures ∙ sym c.each.invariant.reached,
      sym c.each.invariant.typed
          ∙ typing-stop ctx known vs c.each.index c.index.result.now here (sym c.in-Err.ensures.found)
          ∙ ap (λ (error : ResolveError). (known, Some error)) (sym c.in-Err.ensures.fault),
    )

pub each-preserved : goal.each-preserved
each-preserved c =
    let ctx = context_of c.args.ctx.now in
    let known = c.each.known in
    let ty = c.in-Ok.ty in
    let vs = values c.args.expressions.now in
    let here : slice_get vs c.each.index ≡ Some c.index.result.now = rw c.at-expression.ensures at c.index.ensures in
    let pushed : c.insert.new.self ≡ known ++ ty ∷ [] =
    given c.insert.result _ (sym c.is_err.ensures.value ∙ c.if-is_err.false) c.insert.ensures.inserted in
    record {
      kept = (
        c.each.invariant.kept.0 ++ ty ∷ [],
        pushed ∙ ap (λ (types : List Resolved). types ++ ty ∷ []) c.each.invariant.kept.1
            ∙ append_assoc c.args.known.now c.each.invariant.kept.0 (ty ∷ []),
      );
      reached = omega (arith, ap length pushed, length-append known (ty ∷ []), c.each.invariant.reached);
      typed = ap (λ (types : List Resolved). typing ctx types (drop (c.each.index + 1) vs)) pushed
          ∙ sym (typing-more ctx known vs c.each.index c.index.result.now ty here (sym c.in-Ok.ensures.found))
          ∙ c.each.invariant.typed;
    }
