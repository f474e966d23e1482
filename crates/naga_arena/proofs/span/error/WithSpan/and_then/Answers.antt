use Rattle.std.proofs.Common.{◌≡◌, ◌++◌, Bool, true, List, map, ap, ◌∙◌, if◌then◌else◌}
use Rattle.std.proofs.lemmas.List.{map-append}
use Rattle.naga_arena.specs.WithSpan.{context, contexts}
use Rattle.naga_arena.proofs.span.error.WithSpan.and_then.Goals as goal

-- mapping the result of a successful append is the same as appending the mapped lists
map-appended : {A B : Type 0} → (f : A → B) (new old more : List A) (b : Bool) → new ≡ (if b then old ++ more else old) → b ≡ true → map f new ≡ map f old ++ map f more
map-appended f new old more b appended ok =
    ap (map f) (appended ∙ ap (λ c. if c then old ++ more else old) ok) ∙ map-append f old more

pub returns-clause-joined : goal.returns-clause-joined
returns-clause-joined g c =
    record {
      given = c.func-error.result;
      gave = rw (← c.self.view_is) c.func-error.ensures;
      inner = ap (λ e. e.inner) c.error.view_is;
      spans =
          map-appended context _ _ _ _ c.append.ensures.items c.if-is_err.ensures.negation
          ∙ ap (λ old. contexts c.error.inside.spans.items ++ old) (ap (λ e. e.spans) c.self.view_is)
          ∙ ap (λ new. new ++ c.args.self.spans) (ap (λ e. e.spans) c.error.view_is);
    }
