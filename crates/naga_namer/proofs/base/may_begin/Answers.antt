use Rattle.std.proofs.Common.{ℕ, List, Bool, ◌&&◌, nat_eq, get_or, length, ap, sym, ◌∙◌, arith}
use Rattle.naga_namer.proofs.BeginsLemmas.{begins_long}
use Rattle.naga_namer.proofs.base.may_begin.Goals as goal

pub returns-then-begin_alike : goal.returns-then-begin_alike
returns-then-begin_alike c =
    let prefix = c.args.prefix.now in
    let base = c.args.base.now in
    ap (λ (bytes : List ℕ). nat_eq (get_or bytes (length base) 0) 95) c.as_bytes.ensures.value
    ∙ ap (λ (p : Bool). p && nat_eq (get_or prefix (length base) 0) 95) (sym (sym c.begin_alike-2.ensures ∙ c.if-begin_alike.true))
    ∙ begins_long prefix base 0 (omega (arith, c.if-prefix-base.false))

pub returns-else-begin_alike : goal.returns-else-begin_alike
returns-else-begin_alike c =
    let prefix = c.args.prefix.now in
    let base = c.args.base.now in
    c.if-begin_alike.false
    ∙ ap (λ (p : Bool). p && nat_eq (get_or prefix (length base) 0) 95) (sym (sym c.begin_alike-2.ensures ∙ c.if-begin_alike.false))
    ∙ begins_long prefix base 0 (omega (arith, c.if-prefix-base.false))
