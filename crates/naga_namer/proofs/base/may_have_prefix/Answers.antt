use Rattle.std.proofs.Common.{[], ◌∷◌, ◌++◌, sym, ◌∙◌}
use Rattle.naga_namer.specs.Bases.{begin_alike, underscore}
use Rattle.naga_namer.proofs.ListAnyLemmas.{any-found, any-none}
use Rattle.naga_namer.proofs.base.may_have_prefix.Goals as goal

pub returns-then-may_begin : goal.returns-then-may_begin
returns-then-may_begin c =
    any-found (λ prefix. begin_alike prefix (c.args.base.now ++ underscore ∷ [])) c.args.prefixes.now c.loop-prefix.prefix-index _
    c.loop-prefix-test.true (sym c.may_begin.ensures ∙ c.if-may_begin.true)

pub returns : goal.returns
returns c =
    any-none (λ prefix. begin_alike prefix (c.args.base.now ++ underscore ∷ [])) c.args.prefixes.now c.loop-prefix.prefix-index
    c.loop-prefix-test.false c.loop-prefix.invariant
